use Rattle.monitor.proofs.Usual.{◌≤◌, ◌≡◌, Bool, List, Link, live, view}
use Rattle.rules.specs.Lists.{first_of}
use Rattle.monitor.specs.View.{tests, Leaves}
use Rattle.monitor.proofs.Sweep.{Sweeps}
use Rattle.monitor.proofs.links.sweep.Given as goal

abbrev pub invariant-loop-i : goal.invariant-loop-i
invariant-loop-i g l =
    (l.j ≤ l.i) × (l.i ≤ (view l.initial.s).count)
    × ((a : Link → Bool) (f : Link → List Link) → tests (goal.T-post g l.takes) a → Leaves (goal.F-post g l.left) a f → l.from ≡ first_of a (live (view l.initial.s))
    → Sweeps f l.initial.s l.s l.i l.j)
