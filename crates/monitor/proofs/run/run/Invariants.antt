use Rattle.monitor.proofs.Usual.{view}
use Rattle.monitor.proofs.Turns.{Runs}
use Rattle.monitor.proofs.run.run.Given as goal

abbrev pub invariant-loop-i : goal.invariant-loop-i
invariant-loop-i l = Runs (view l.fn.s) l.fn.calls l.fn.out l.out (view l.s) l.i
