-- Laws of lists of numbers that agree.
-- Assumes nothing.
use Rattle.std.proofs.Common.{◌≡◌, ℕ, true, ◌&&◌, eqb, List, [], ◌∷◌, length, refl, ap₂, arith, eq-eqb, eqb-true}
use Rattle.rules.proofs.Logic.{and_l, and_r}
use Rattle.wire.specs.Sequences.{agree, same_numbers}

-- lists that are the same by test are the same
agree_same : (xs ys : List ℕ) → length xs ≡ length ys → agree xs ys ≡ true → xs ≡ ys
unfolding agree
agree_same [] [] l e = refl
agree_same [] (y ∷ ys) l e = absurd (omega arith)
agree_same (x ∷ xs) [] l e = absurd (omega arith)
agree_same (x ∷ xs) (y ∷ ys) l e = ap₂ ◌∷◌ (eqb-true x y (and_l _ _ e)) (agree_same xs ys (omega arith) (and_r (eqb x y) _ e))

pub same_numbers_lem : (xs ys : List ℕ) → same_numbers xs ys ≡ true → xs ≡ ys
same_numbers_lem xs ys e = agree_same xs ys (eqb-true _ _ (and_l _ _ e)) (and_r (eqb (length xs) (length ys)) _ e)

pub agree_refl : (xs : List ℕ) → agree xs xs ≡ true
unfolding agree
agree_refl [] = refl
agree_refl (x ∷ xs) = ap₂ ◌&&◌ (eq-eqb x x refl) (agree_refl xs)
