use Rattle.monitor.proofs.Usual.{view}
use Rattle.monitor.proofs.Served.{Tests}
use Rattle.monitor.proofs.sound.parties_found.Given as goal

abbrev pub invariant-loop-p : goal.invariant-loop-p
invariant-loop-p l = Tests (view l.s) l.p
