-- What a search finds: the first place that passes a test, among the links there are or among the parties.
-- Assumes nothing.
use Rattle.std.proofs.Common.{Option, Some, None, IfSome, is_some, unwrap_or, ℕ, zero, suc, ◌+◌, ◌≤◌, ◌<◌, ◌≡◌, ap, sym, subst, ◌∙◌}
use Rattle.std.proofs.Common.{List, [], ◌∷◌, ⊎_elim, Bool, true, false, arith, lt-ltb, le-ltb, ltb-true, ltb-false, ltb, length, drop}
use Rattle.std.proofs.lemmas.Bool.{cases_lt}
use Rattle.rules.specs.declared.Party.{Party}
use Rattle.rules.specs.declared.Link.{Link}
use Rattle.rules.specs.Lists.{first_of, any_of}
use Rattle.rules.specs.Record.{live, party}
use Rattle.rules.proofs.Logic.{pick_true, pick_false, test}
use Rattle.monitor.specs.View.{view, link_in, first_place, place_among}
use Rattle.monitor.proofs.Lists.{first_within, any_first}
use Rattle.monitor.proofs.Laws.{next_live, live_long, next_party, parties_long}

-- ---- the loop: of the places below one, one more
pub one_more : {P : ℕ → Type 0} {i : ℕ} → ((k : ℕ) → k < i → P k) → P i → (k : ℕ) → k < i + 1 → P k
one_more {P = P} {i = i} h x k b = ⊎_elim (h k) (λ c. let e : i ≡ k = omega arith in subst P e x) (cases_lt k i)

-- ---- in a list, by the place of the first that passes
module _ {A : Type 0} (f : A → Bool) where
  -- what stands there is the first of the rest
  stands : (k : ℕ) (s : List A) → k ≤ first_of f s → first_of f s ≡ k + first_of f (drop k s)
  unfolding first_of
  stands zero s h = omega arith
  stands (suc k) [] h = omega arith
  stands (suc k) (x ∷ s) h = test (f x)
      (λ e. let z : first_of f (x ∷ s) ≡ 0 = pick_true _ _ _ e in omega arith)
      (λ e. let z : first_of f (x ∷ s) ≡ suc (first_of f s) = pick_false _ _ _ e in
      let r : first_of f s ≡ k + first_of f (drop (suc k) (x ∷ s)) = stands k s (omega arith) in
      omega arith)

  -- the list s that `at` reads
  module _ (s : List A) (at : ℕ → A) (next : (j : ℕ) → j < length s → drop j s ≡ at j ∷ drop (j + 1) s) where
    passes : (i : ℕ) → i < length s → i ≤ first_of f s → f (at i) ≡ true → first_of f s ≡ i
    unfolding first_of
    passes i k h t =
        let z : first_of f (drop i s) ≡ 0 = ap (first_of f) (next i k) ∙ pick_true _ _ _ t in
        let r = stands i s h in
        omega arith

    fails : (i : ℕ) → i < length s → i ≤ first_of f s → f (at i) ≡ false → i + 1 ≤ first_of f s
    unfolding first_of
    fails i k h t =
        let z : first_of f (drop i s) ≡ suc (first_of f (drop (i + 1) s)) = ap (first_of f) (next i k) ∙ pick_false _ _ _ t in
        let r = stands i s h in
        omega arith

    -- none from the place `from` on, before which none passes
    module _ {from : ℕ} (before : from ≤ first_of f s) where
      all_fail : (d : ℕ) → d ≤ length s → ((k : ℕ) → from ≤ k → k < d → f (at k) ≡ false) → d ≤ first_of f s
      all_fail zero b each = omega arith
      all_fail (suc d) b each = ⊎_elim
          (λ c. omega arith)
          (λ e. let r = fails d (omega arith) (all_fail d (omega arith) (λ k u c. each k u (omega arith))) (each d (omega arith) (omega arith)) in omega arith)
          (cases_lt d from)

    module _ {tested : ℕ → Bool → Type 0} {from n : ℕ} (e : n ≡ length s) (before : from ≤ first_of f s)
        (asks : (i : ℕ) (b : Bool) → i < n → tested i b → b ≡ f (at i)) where
      failing : (i : ℕ) → i ≤ n → ((k : ℕ) → from ≤ k → k < i → tested k false) → i ≤ first_of f s
      failing i b each = all_fail before i (omega arith) (λ k u d. sym (asks k false (omega arith) (each k u d)))

      pub found_place : (r : Option ℕ) → first_place tested from n r → r ≡ place_among n (first_of f s)
      found_place None none =
          let w = first_within f s in
          let r = failing n (omega arith) none in
          sym (pick_false _ _ _ (le-ltb (first_of f s) n (omega arith)))
      found_place (Some i) found =
          let r = passes i (omega (arith, found.1)) (failing i (omega (arith, found.1)) found.3) (sym (asks i true found.1 found.2)) in
          sym (ap (place_among n) r ∙ pick_true _ _ _ (lt-ltb i n found.1))

-- what was found is below where all end
pub found_within : (tested : ℕ → Bool → Type 0) (from : ℕ) {n m : ℕ} (r : Option ℕ) → first_place tested from n r → n ≡ m → IfSome r (λ i. i < m)
found_within tested from None found e = tt
found_within tested from (Some i) found e = omega (arith, found.1)

-- ---- among the links there are, and among the parties
pub found_link : (xs : List ℕ) {tested : ℕ → Bool → Type 0} {from n : ℕ} {r : Option ℕ} → (view xs).count ≤ 32 → n ≡ (view xs).count
    → first_place tested from n r → (f : Link → Bool) → from ≤ first_of f (live (view xs))
    → ((i : ℕ) (b : Bool) → i < 32 → tested i b → b ≡ f (link_in (view xs) i)) → r ≡ place_among (view xs).count (first_of f (live (view xs)))
found_link xs {r = r} h e found f before asks =
    let l = live_long xs h in
    found_place f (live (view xs)) (link_in (view xs)) (λ j k. next_live xs j h (omega arith)) (e ∙ sym l) before (λ i b k t. asks i b (omega arith) t) r found
    ∙ ap (λ (m : ℕ). place_among m (first_of f (live (view xs)))) e

pub found_party : (xs : List ℕ) {tested : ℕ → Bool → Type 0} {r : Option ℕ} → first_place tested 0 16 r
    → (f : Party → Bool) → ((p : ℕ) (b : Bool) → p < 16 → tested p b → b ≡ f (party (view xs) p)) → r ≡ place_among 16 (first_of f (view xs).parties)
found_party xs {r = r} found f asks =
    let l = parties_long 16 0 xs in
    found_place f (view xs).parties (party (view xs)) (λ j k. next_party xs j (omega arith)) (sym l) (omega arith) asks r found

-- ---- what it says of the place
-- one was found: it is the place, and among the n
pub found_some : (n k : ℕ) {r : Option ℕ} {i : ℕ} → r ≡ place_among n k → r ≡ Some i → (i ≡ k) × (i < n)
found_some n k {i = i} e s = test (ltb k n)
    (λ t. let z : i ≡ k = ap (λ (o : Option ℕ). unwrap_or o i) (sym s ∙ e ∙ pick_true _ _ _ t) in let g = ltb-true k n t in (z, omega arith))
    (λ t. let z : ◌≡◌ {A = Option ℕ} (Some i) None = sym s ∙ e ∙ pick_false _ _ _ t in cc)

-- none was: it is past the last
pub found_none : (n k : ℕ) {r : Option ℕ} → r ≡ place_among n k → r ≡ None → n ≤ k
found_none n k e s = test (ltb k n)
    (λ t. let z : ◌≡◌ {A = Option ℕ} (Some k) None = sym (pick_true _ _ _ t) ∙ sym e ∙ s in cc)
    (λ t. ltb-false k n t)

or_past : (n k : ℕ) {r : Option ℕ} → r ≡ place_among n k → k ≤ n → unwrap_or r n ≡ k
or_past n k e h = ap (λ (o : Option ℕ). unwrap_or o n) e ∙ test (ltb k n)
    (λ t. ap (λ (o : Option ℕ). unwrap_or o n) (pick_true _ _ _ t))
    (λ t. let g = ltb-false k n t in let z : n ≡ k = omega arith in ap (λ (o : Option ℕ). unwrap_or o n) (pick_false _ _ _ t) ∙ z)

is_there : (n k : ℕ) {r : Option ℕ} → r ≡ place_among n k → is_some r ≡ ltb k n
is_there n k e = ap is_some e ∙ test (ltb k n)
    (λ t. ap is_some (pick_true _ _ _ t) ∙ sym t)
    (λ t. ap is_some (pick_false _ _ _ t) ∙ sym t)

-- of the links
module _ (xs : List ℕ) (f : Link → Bool) (h : (view xs).count ≤ 32) {r : Option ℕ} (e : r ≡ place_among (view xs).count (first_of f (live (view xs)))) where
  pub link_or_past : {n : ℕ} → n ≡ (view xs).count → unwrap_or r n ≡ first_of f (live (view xs))
  link_or_past c =
      let l = live_long xs h in
      let w = first_within f (live (view xs)) in
      ap (unwrap_or r) c ∙ or_past _ _ e (omega arith)

  pub link_there : is_some r ≡ any_of f (live (view xs))
  link_there = is_there _ _ e ∙ ap (ltb (first_of f (live (view xs)))) (sym (live_long xs h)) ∙ sym (any_first f (live (view xs)))

  pub some_link : {i : ℕ} → r ≡ Some i → any_of f (live (view xs)) ≡ true
  some_link z = sym link_there ∙ ap is_some z

  pub no_link : r ≡ None → any_of f (live (view xs)) ≡ false
  no_link z = sym link_there ∙ ap is_some z

-- of the parties
module _ (xs : List ℕ) (f : Party → Bool) {r : Option ℕ} (e : r ≡ place_among 16 (first_of f (view xs).parties)) where
  pub party_there : is_some r ≡ any_of f (view xs).parties
  party_there = is_there _ _ e ∙ ap (ltb (first_of f (view xs).parties)) (sym (parties_long 16 0 xs)) ∙ sym (any_first f (view xs).parties)
