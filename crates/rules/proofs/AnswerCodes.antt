-- Laws of the answers' numbers: which are the same, which differ, and the rules' list of the early ones beside the statement's.
-- Assumes nothing.
use Rattle.std.proofs.Common.{◌≡◌, refl, ap, subst, Bool, true, false, ℤ, pos, negsuc, eqb-true, eq-eqb, rules}
use Rattle.rules.specs.History.{same_code, unheard}
use Rattle.rules.specs.Refusals.{is_early}
use Rattle.rules.proofs.Logic.{not_both}

pub same_code_lem : (x y : ℤ) → same_code x y ≡ true → x ≡ y
same_code_lem (pos m) (pos n) h = ap pos (eqb-true m n h)
same_code_lem (pos m) (negsuc n) h = cc
same_code_lem (negsuc m) (pos n) h = cc
same_code_lem (negsuc m) (negsuc n) h = ap negsuc (eqb-true m n h)

code_refl : (x : ℤ) → same_code x x ≡ true
code_refl (pos n) = eq-eqb n n refl
code_refl (negsuc n) = eq-eqb n n refl

pub codes_differ : (x y : ℤ) → same_code x y ≡ false → x ≡ y → ⊥
codes_differ x y h e = not_both (code_refl y) (rw e at h)

-- what holds of a code holds of one that is the same
pub of_code : (X : ℤ → Type 0) (x y : ℤ) → X x → same_code x y ≡ true → X y
of_code X x y h e = subst X (same_code_lem x y e) h

-- a test tells two codes apart
pub codes_apart : (f : ℤ → Bool) (x y : ℤ) → f x ≡ true → f y ≡ false → same_code x y ≡ false
codes_apart f x y h n = search rules

-- what the rules refuse before the clock moves is what the statement does not count
pub early_unheard : (z : ℤ) → is_early z ≡ unheard z
unfolding is_early
early_unheard (pos n) = refl
early_unheard (negsuc n) = refl
