-- Laws of choice, of the tests, of the connectives and of numbers that are not 0.
-- Assumes nothing.
use Rattle.std.proofs.Common.{◌≡◌, refl, sym, ap, ◌∙◌, Bool, true, false, cond, not, ◌&&◌, ◌||◌, ℕ, suc, ◌<◌, arith, eqb-true, eq-eqb, ne_eqb}
use Rattle.std.proofs.Math.Bool.{beq}
use Rattle.std.proofs.lemmas.Bool.{eqb-false}
use Rattle.rules.specs.Choice.{pick, same}
-- laws of the library, passed on to the crates above
pub use Rattle.std.proofs.lemmas.Bool.{and_from as and_true}
pub use Rattle.std.proofs.Math.Bool.{and_assoc, and-false as and_false}

pub pick_true : {A : Type 0} (b : Bool) (x y : A) → b ≡ true → pick b x y ≡ x
unfolding pick
pick_true true x y e = refl
pick_true false x y e = cc

pub pick_false : {A : Type 0} (b : Bool) (x y : A) → b ≡ false → pick b x y ≡ y
unfolding pick
pick_false true x y e = cc
pick_false false x y e = refl

pub pick_yes : {A : Type 0} (x y : A) → pick true x y ≡ x
unfolding pick
pick_yes x y = refl

pub pick_no : {A : Type 0} (x y : A) → pick false x y ≡ y
unfolding pick
pick_no x y = refl

pub pick_same : {A : Type 0} (b : Bool) (x : A) → pick b x x ≡ x
unfolding pick
pick_same true x = refl
pick_same false x = refl

-- to prove a statement of a choice: by the test's two cases, with the equation
pub by_test : {A : Type 0} (P : A → Type 0) {b : Bool} {x y : A} → (b ≡ true → P x) → (b ≡ false → P y) → P (pick b x y)
unfolding pick
by_test P {b = true} f g = f refl
by_test P {b = false} f g = g refl

-- to split on a computed test and keep the equation
pub test : {X : Type 0} (b : Bool) → (b ≡ true → X) → (b ≡ false → X) → X
test true f g = f refl
test false f g = g refl

-- the library's choice
pub cond_same : {A : Type 0} (b : Bool) (x : A) → cond b x x ≡ x
cond_same true x = refl
cond_same false x = refl

-- a function of a choice is a choice of its values
pub cond_of : {A B : Type 0} (f : A → B) (b : Bool) (x y : A) → f (cond b x y) ≡ cond b (f x) (f y)
cond_of f true x y = refl
cond_of f false x y = refl

pub cond_and : (a b : Bool) → cond a b false ≡ a && b
cond_and true b = refl
cond_and false b = refl

pub cond_not : (a b : Bool) → cond a false b ≡ not a && b
cond_not true b = refl
cond_not false b = refl

pub not_both : {X : Type 0} {b : Bool} → b ≡ true → b ≡ false → X
not_both p q = cc

pub same_refl : (n : ℕ) → same n n ≡ true
unfolding same
same_refl n = eq-eqb n n refl

pub same_true : (m n : ℕ) → same m n ≡ true → m ≡ n
unfolding same
same_true m n e = eqb-true m n e

pub same_false : (m n : ℕ) → same m n ≡ false → m ≡ n → ⊥
unfolding same
same_false m n e = eqb-false m n e

pub same_ne : (m n : ℕ) → (m ≡ n → ⊥) → same m n ≡ false
unfolding same
same_ne m n h = ne_eqb m n h

-- to prove a statement of every number: of this one, and of each other
pub by_number : (d : ℕ) (X : ℕ → Type 0) → X d → ((e : ℕ) → same e d ≡ false → X e) → (e : ℕ) → X e
by_number d X a b e = test (same e d) (λ q. let r : e ≡ d = same_true e d q in rw r a) (b e)

pub and_l : (a b : Bool) → a && b ≡ true → a ≡ true
and_l true b e = refl
and_l false b e = e

pub and_r : (a b : Bool) → a && b ≡ true → b ≡ true
and_r true b e = e
and_r false b e = cc

pub not_or : (a b : Bool) → not (a || b) ≡ not a && not b
not_or true b = refl
not_or false b = refl

pub or_l : (a b : Bool) → a || b ≡ false → a ≡ false
or_l true b e = e
or_l false b e = refl

pub or_r : (a b : Bool) → a || b ≡ false → b ≡ false
or_r true b e = cc
or_r false b e = e

pub pick_or : (a b : Bool) → pick a true b ≡ a || b
unfolding pick
pick_or true b = refl
pick_or false b = refl

pub pick_and : (a b : Bool) → pick a b false ≡ a && b
unfolding pick
pick_and true b = refl
pick_and false b = refl

pub or_cases : {X : Type 0} (a b : Bool) → a || b ≡ true → (a ≡ true → X) → (b ≡ true → X) → X
or_cases true b h f g = f refl
or_cases false b h f g = g h

pub beq_refl : (a b : Bool) → a ≡ b → beq a b ≡ true
beq_refl true true e = refl
beq_refl true false e = sym e
beq_refl false true e = e
beq_refl false false e = refl

pub beq_true : (a b : Bool) → beq a b ≡ true → a ≡ b
beq_true true true e = refl
beq_true true false e = sym e
beq_true false true e = e
beq_true false false e = refl

-- not 0
abbrev pub Nz : ℕ → Type 0
Nz x = same x 0 ≡ false

pub zero_nz : {X : Type 0} {x : ℕ} → x ≡ 0 → Nz x → X
zero_nz e z = not_both (rw e (same_refl 0)) z

-- where p's number is 0, one whose number is not is another
pub nz_other : (f : ℕ → ℕ) (p q : ℕ) → f p ≡ 0 → Nz (f q) → same q p ≡ false
nz_other f p q e z = same_ne q p (λ r. zero_nz (ap f r ∙ e) z)

pub above_nz : (m t : ℕ) → m < t → Nz t
above_nz m t b = same_ne t 0 (omega arith)

pub suc_nz : (m : ℕ) → Nz (suc m)
suc_nz m = above_nz m (suc m) (omega arith)
