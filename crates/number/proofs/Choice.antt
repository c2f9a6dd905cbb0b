-- Laws of choice.
-- Assumes nothing.
use Rattle.std.proofs.Common.{◌≡◌, refl, Bool, true, false}
use Rattle.number.specs.Choice.{pick}

module _ {A : Type 0} where
  pub pick_true : (b : Bool) (x y : A) → b ≡ true → pick b x y ≡ x
  unfolding pick
  pick_true true x y e = refl
  pick_true false x y e = cc

  pub pick_false : (b : Bool) (x y : A) → b ≡ false → pick b x y ≡ y
  unfolding pick
  pick_false true x y e = cc
  pick_false false x y e = refl

  pub pick_same : (b : Bool) (x y z : A) → x ≡ z → y ≡ z → pick b x y ≡ z
  unfolding pick
  pick_same true x y z e f = e
  pick_same false x y z e f = f

  pub by_test_lem : (P : A → Type 0) (b : Bool) {x y : A} → P x → P y → P (pick b x y)
  unfolding pick
  by_test_lem P true p q = p
  by_test_lem P false p q = q
