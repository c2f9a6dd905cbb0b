use Rattle.monitor.proofs.Usual.{ℕ, ◌<◌, ◌≤◌, false}
use Rattle.monitor.proofs.searches.first_place.Given as goal

abbrev pub invariant-loop-i : goal.invariant-loop-i
invariant-loop-i g l = (k : ℕ) → l.from ≤ k → k < l.i → goal.F-post g l.test k false
