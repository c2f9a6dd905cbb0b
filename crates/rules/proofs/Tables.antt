-- A table computed at once: one test over all its entries, and what that says of each; the test of answers.
-- Assumes nothing.
use Rattle.std.proofs.Common.{◌≡◌, refl, ap₂, Bool, true, false, ◌&&◌, List, [], ◌∷◌, ℕ, zero}
use Rattle.std.proofs.Common.{suc, ◌<◌, le_of_suc-le-suc, not-suc-le-zero, ℤ, length, get_or}
use Rattle.rules.specs.History.{same_code}
use Rattle.rules.proofs.AnswerCodes.{same_code_lem}
use Rattle.rules.proofs.Logic.{and_l, and_r}

-- every entry passes the test
unfoldable pub every : {A : Type 0} → (A → Bool) → List A → Bool
every f [] = true
every f (x ∷ xs) = f x && every f xs

pub entry : {A : Type 0} (f : A → Bool) (none : A) (xs : List A) → every f xs ≡ true → (k : ℕ) → k < length xs → f (get_or xs k none) ≡ true
unfolding every
entry f none [] t k h = absurd (not-suc-le-zero h)
entry f none (x ∷ xs) t zero h = and_l (f x) (every f xs) t
entry f none (x ∷ xs) t (suc k) h = entry f none xs (and_r (f x) (every f xs) t) k (le_of_suc-le-suc h)

-- the same numbers in the same places
unfoldable pub same_places : List ℤ → List ℤ → Bool
same_places [] [] = true
same_places [] (y ∷ ys) = false
same_places (x ∷ xs) [] = false
same_places (x ∷ xs) (y ∷ ys) = same_code x y && same_places xs ys

pub same_places_lem : (xs ys : List ℤ) → same_places xs ys ≡ true → xs ≡ ys
unfolding same_places
same_places_lem [] [] h = refl
same_places_lem [] (y ∷ ys) h = cc
same_places_lem (x ∷ xs) [] h = cc
same_places_lem (x ∷ xs) (y ∷ ys) h = ap₂ (λ z zs. z ∷ zs) (same_code_lem x y (and_l _ _ h)) (same_places_lem xs ys (and_r (same_code x y) _ h))
