-- Two lists that are alike place by place.
-- Assumes nothing.
use Rattle.std.proofs.Common.{◌≡◌, refl, ap, ◌∙◌, sym, List, [], ◌∷◌, Bool, true, ◌&&◌, ℕ, zero, suc, ◌+◌, ◌≤◌}
use Rattle.std.proofs.Common.{le_of_suc-le-suc, not-suc-le-zero, add-one, eqb, length, take, get_or, eq-eqb}
use lib.Pointwise.{pointwise}
use Rattle.std.specs.List.{list_all, range_with_len}
use Rattle.rules.specs.Choice.{same}
use Rattle.rules.specs.Equal.{all_same, same_party}
use Rattle.rules.specs.declared.Party.{Party}
use Rattle.rules.proofs.Logic.{pick_and}

-- as the derived equality asks it
pub same_pointwise : (xs ys : List ℕ) → all_same same xs ys ≡ pointwise eqb xs ys
unfolding all_same same
same_pointwise [] [] = refl
same_pointwise [] (y ∷ ys) = refl
same_pointwise (x ∷ xs) [] = refl
same_pointwise (x ∷ xs) (y ∷ ys) = pick_and (same x y) (all_same same xs ys) ∙ ap (λ b. eqb x y && b) (same_pointwise xs ys)

pub same_party_derived : (b : Bool) (x y : Party)
    → b ≡ (eqb x.opened y.opened && (eqb x.control y.control && (eqb x.timeout y.timeout && (eqb x.services y.services
    && (eqb x.owned y.owned && (eqb x.deadline y.deadline && (eqb x.rollbackonly y.rollbackonly && (eqb x.served y.served
    && (pointwise eqb x.reports y.reports && (eqb x.mayrequest y.mayrequest && eqb x.mayadvertise y.mayadvertise))))))))))
    → b ≡ same_party x y
unfolding same_party same
same_party_derived b x y e = rw (same_pointwise x.reports y.reports) e

pub pointwise_refl : (xs : List ℕ) → pointwise eqb xs xs ≡ true
pointwise_refl [] = refl
pointwise_refl (x ∷ xs) = rw (eq-eqb x x refl) (pointwise_refl xs)

-- as a loop over the places asks it: a test of each place from a + 1 on is one of each place from a on
shifted : (g h : ℕ → Bool) → ((i : ℕ) → g (suc i) ≡ h i) → (n a : ℕ) → list_all g (range_with_len (a + 1) n) ≡ list_all h (range_with_len a n)
shifted g h e zero a = refl
shifted g h e (suc n) a = λ z. (ap g (add-one a) ∙ e a) z && shifted g h e n (a + 1) z

module _ {A : Type 0} (f : A → A → Bool) (d : A) where
  pub alike_at : (n : ℕ) (xs ys : List A) → n ≤ length xs → n ≤ length ys
      → all_same f (take n xs) (take n ys) ≡ list_all (λ i. f (get_or xs i d) (get_or ys i d)) (range_with_len 0 n)
  unfolding all_same
  alike_at zero xs ys h k = refl
  alike_at (suc n) [] ys h k = absurd (not-suc-le-zero h)
  alike_at (suc n) (x ∷ xs) [] h k = absurd (not-suc-le-zero k)
  alike_at (suc n) (x ∷ xs) (y ∷ ys) h k =
      pick_and (f x y) (all_same f (take n xs) (take n ys))
      ∙ ap (λ b. f x y && b) (alike_at n xs ys (le_of_suc-le-suc h) (le_of_suc-le-suc k) ∙ sym (shifted _ _ (λ i. refl) n 0))
