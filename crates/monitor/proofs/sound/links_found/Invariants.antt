use Rattle.monitor.proofs.Usual.{view}
use Rattle.monitor.proofs.Served.{Finds}
use Rattle.monitor.proofs.sound.links_found.Given as goal

abbrev pub invariant-loop-i : goal.invariant-loop-i
invariant-loop-i l = Finds (view l.s) l.prev l.i l.found
