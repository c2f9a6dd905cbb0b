-- Questions on lists that the rules ask.
-- Assumes nothing.
use Rattle.std.specs.Prelude.{ℕ, suc, List, [], ◌∷◌, ◌++◌, Bool, true, false}
use Rattle.rules.specs.Choice.{pick}

module _ {A : Type 0} where
  -- the place of the first that passes the test, or how many there are
  unfoldable pub first_of : (A → Bool) → List A → ℕ
  first_of f [] = 0
  first_of f (x ∷ xs) = pick (f x) 0 (suc (first_of f xs))

  -- does one pass the test
  unfoldable pub any_of : (A → Bool) → List A → Bool
  any_of f [] = false
  any_of f (x ∷ xs) = pick (f x) true (any_of f xs)

  -- what f makes of each, one after the other
  unfoldable pub collect : (A → List A) → List A → List A
  collect f [] = []
  collect f (x ∷ xs) = f x ++ collect f xs
