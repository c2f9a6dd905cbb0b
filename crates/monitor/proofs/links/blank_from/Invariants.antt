use Rattle.monitor.proofs.Usual.{◌≡◌, view}
use Rattle.monitor.specs.View.{blanked}
use Rattle.monitor.proofs.links.blank_from.Given as goal

abbrev pub invariant-loop-i : goal.invariant-loop-i
invariant-loop-i l = view l.s ≡ blanked (view l.initial.s) l.from l.i
