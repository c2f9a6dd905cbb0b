-- Whether a transaction has ended, has expired or is lost, by its owner; and whether a link of it is open.
-- Assumes nothing.
use Rattle.std.proofs.Common.{Option, is_some, ℕ, zero, suc, ◌+◌, ◌≤◌, ◌≡◌, refl, ap, sym, ◌∙◌, Bool, false}
use Rattle.std.proofs.Common.{not, ◌&&◌, ◌||◌, List, [], ◌∷◌, drop, arith, ltb-false, eqb, ltb, length}
use Rattle.std.specs.List.{list_any, range_with_len}
use Rattle.std.proofs.Math.ListN.{get_or-eq_default}
use Rattle.rules.specs.Choice.{pick}
use Rattle.rules.specs.declared.Party.{Party}
use Rattle.rules.specs.declared.Link.{Link}
use Rattle.rules.specs.Lists.{first_of, any_of}
use Rattle.rules.specs.Record.{fresh_party, owns, party, live, is_attached}
use Rattle.rules.specs.Transaction.{owner_of, owner_party, ended, late, cannot_commit, expired, lost, is_open_of}
use Rattle.rules.proofs.Logic.{test, pick_true, pick_false, pick_or, and_false}
use Rattle.monitor.specs.View.{view, link_in, place_among, live_owner, passes_at, late_at, of_tx}
use Rattle.monitor.proofs.Laws.{parties_long, next_live, end_live}
use Rattle.monitor.proofs.Search.{party_there}

module _ (xs : List ℕ) (t : ℕ) {o : Option ℕ} (e : o ≡ live_owner (view xs).parties t) where
  pub ended_by : ended (view xs) t ≡ not (eqb t 0) && not (is_some o)
  unfolding ended
  ended_by = test (eqb t 0)
      (λ z. rw z)
      (λ n. rw n (ap not (sym (party_there xs (owns t) (e ∙ pick_false _ _ _ n)))))

  -- a test that a fresh party does not pass, of the owner of t
  passed_by : (f : Party → Bool) → f fresh_party ≡ false → pick (eqb t 0) false (f (owner_party (view xs).parties t)) ≡ passes_at f (view xs) o
  passed_by f x = test (eqb t 0)
      (λ z. pick_true _ _ _ z ∙ sym (ap (passes_at f (view xs)) (e ∙ pick_true _ _ _ z)))
      (λ n. pick_false _ _ _ n ∙ by-place (owner_of (view xs).parties t) ∙ sym (ap (passes_at f (view xs)) (e ∙ pick_false _ _ _ n)))
    where
      by-place : (k : ℕ) → f (party (view xs) k) ≡ passes_at f (view xs) (place_among 16 k)
      by-place k = test (ltb k 16)
          (λ l. sym (ap (passes_at f (view xs)) (pick_true _ _ _ l)))
          (λ g. let n = parties_long 16 0 xs in
          let p = ltb-false k 16 g in
          let h : length (view xs).parties ≤ k = omega arith in
          ap f (get_or-eq_default (view xs).parties fresh_party h) ∙ x ∙ sym (ap (passes_at f (view xs)) (pick_false _ _ _ g)))

  pub expired_by : expired (view xs) t ≡ late_at (view xs) o
  unfolding expired
  expired_by = passed_by (late (view xs).clock) refl

  pub lost_by : lost (view xs) t ≡ passes_at (cannot_commit (view xs).clock) (view xs) o
  unfolding lost
  lost_by = passed_by (cannot_commit (view xs).clock) refl

-- the links from the first of the transaction t on have an open end where all have one
pub none_open : (t : ℕ) (l : List Link) {i : ℕ} → i ≡ first_of (of_tx t) l → any_of (is_open_of t) (drop i l) ≡ any_of (is_open_of t) l
unfolding first_of any_of of_tx is_open_of
none_open t l e = ap (λ (k : ℕ). any_of (is_open_of t) (drop k l)) e ∙ from-first l
  where
    from-first : (l : List Link) → any_of (is_open_of t) (drop (first_of (of_tx t) l) l) ≡ any_of (is_open_of t) l
    from-first [] = refl
    from-first (x ∷ l) = test (of_tx t x)
        (λ e. ap (λ (k : ℕ). any_of (is_open_of t) (drop k (x ∷ l))) (pick_true (of_tx t x) 0 (suc (first_of (of_tx t) l)) e))
        (λ e. ap (λ (k : ℕ). any_of (is_open_of t) (drop k (x ∷ l))) (pick_false (of_tx t x) 0 (suc (first_of (of_tx t) l)) e)
        ∙ from-first l
        ∙ sym (pick_false _ _ _ (ap (λ (b : Bool). is_attached x && b) e ∙ and_false (is_attached x))))

-- whether one of the live links from the place i on passes the test f, as a loop over their places asks it
module _ (f : Link → Bool) (xs : List ℕ) (h : (view xs).count ≤ 32) where
  pub some_from : (d i : ℕ) → i + d ≡ (view xs).count → list_any (λ k. f (link_in (view xs) k)) (range_with_len i d) ≡ any_of f (drop i (live (view xs)))
  unfolding any_of
  some_from zero i e = sym (ap (any_of f) (end_live xs i h (omega arith)))
  some_from (suc d) i e =
      ap (λ b. f (link_in (view xs) i) || b) (some_from d (i + 1) (omega arith))
      ∙ sym (pick_or (f (link_in (view xs) i)) (any_of f (drop (i + 1) (live (view xs)))))
      ∙ sym (ap (any_of f) (next_live xs i h (omega arith)))
