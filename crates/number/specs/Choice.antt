-- Choice by a test, which stays shut in goals. `rules` has its own, since the two share no crate.
-- Assumes nothing.
use Rattle.std.specs.Prelude.{Bool, true, false}

unfoldable pub pick : {A : Type 0} → Bool → A → A → A
pick true x y = x
pick false x y = y
