-- The commit rule and the rule that nobody else is at work, at one event, from the invariant.
-- Assumes nothing.
use Rattle.std.proofs.Common.{◌≡◌, refl, sym, ◌∙◌, Bool, true, false, not, ◌&&◌, ◌||◌, List, [], ◌∷◌, ℕ, eqb, eqb-true, eq-eqb}
use Rattle.std.proofs.lemmas.Bool.{and_from, not-true}
use Rattle.std.proofs.Math.Bool.{or-true}
use Rattle.rules.specs.Choice.{same}
use Rattle.rules.specs.Record.{is_attached, is_rollback_only}
use Rattle.rules.specs.History.{Event, some, of_kind, by, with_value, past21, up_to_start, shown_owner, latest_tx, tx_at}
use Rattle.rules.specs.History.{is_owners_commit, committed, makes, is_link_of, failed_end, disconnect, deadline_passed}
use Rattle.rules.specs.History.{finishes, unfinished, stands_against, reason_against, others_at_work, commit_rule, alone_rule}
use Rattle.rules.specs.declared.Link.{Link}
use Rattle.rules.specs.declared.Party.{Party}
use Rattle.rules.proofs.Logic.{pick_true, pick_false, test, not_both, same_refl, same_true, and_l, and_r, beq_refl, Nz, not_or}
use Rattle.rules.proofs.Fine.{tx_p}
use Rattle.rules.proofs.History.Shows.{shows_of}
use Rattle.rules.proofs.History.World.{World}

-- an event of the history that passes the test
some_find : (f : Event → Bool) (h : List Event) → some f h ≡ true → (x : Event) × (f x ≡ true) × ((g : Event → Bool) → g x ≡ true → some g h ≡ true)
unfolding some
some_find f [] y = not_both y refl
some_find f (e ∷ h) y = test (f e)
    (λ t. (e, t, λ g k. rw k))
    (λ n. let r = some_find f h (rw n at y) in (r.0, r.1, λ g k. rw (r.2 g k, or-true)))

-- what the rules answer to a commit of a transaction that the caller owns
pub record Answered (P : ℕ → Party) (L : ℕ → Link) (h : List Event) (e : Event) : Type 0 where
  pub late : Bool
  pub open_end : Bool
  pub against : Bool
  pub late_is : late ≡ deadline_passed (up_to_start (tx_at h e) h) (e ∷ h)
  pub against_is : against ≡ stands_against h (tx_at h e)
  -- a link of it has its originator's end open
  pub opens : open_end ≡ true → (d : ℕ) × (is_attached (L d) ≡ true) × ((L d).tx ≡ tx_at h e)
  pub opened : (d : ℕ) → is_attached (L d) ≡ true → (L d).tx ≡ tx_at h e → open_end ≡ true
  pub code : committed e ≡ (not (is_rollback_only (P e.call.party)) && (not late && not open_end)) && not against

module _ {n m : ℕ} {P : ℕ → Party} {L : ℕ → Link} (h : List Event) (e : Event) (w : World n m P L (shows_of h)) where
  -- the caller of a commit by T's owner owns T
  pub owns : latest_tx h e.call.party ≡ tx_p P L e.call.party → Nz (tx_at h e) → shown_owner h (tx_at h e) e.call.party ≡ true
      → (P e.call.party).owned ≡ tx_at h e
  unfolding tx_p shows_of
  owns latest z own = test (same (P e.call.party).owned 0)
      (λ y. let i : (L (P e.call.party).served).tx ≡ tx_at h e = sym (pick_true _ _ _ y) ∙ sym latest in
      not_both own (rw i at (w.not_own e.call.party (rw i z))))
      (λ y. sym (pick_false _ _ _ y) ∙ sym latest)

  module _ (z : Nz (tx_at h e)) (owned : (P e.call.party).owned ≡ tx_at h e) (a : Answered P L h e) where
    nz : Nz (P e.call.party).owned
    nz = rw owned z

    marked : is_rollback_only (P e.call.party) ≡ failed_end (is_link_of h (tx_at h e)) h || disconnect (is_link_of h (tx_at h e)) h
    unfolding shows_of
    marked = w.mark_is e.call.party nz ∙ rw owned

    -- where T is not rollback-only, a link of it that is not finished has its end open
    keeps_open : is_rollback_only (P e.call.party) ≡ false → (d o : ℕ) → (shows_of h).made_by d (tx_at h e) o ≡ true → (shows_of h).finished d o ≡ false
        → a.open_end ≡ true
    keeps_open un d o mk fi = let op = w.kept d o e.call.party nz (rw owned mk) un fi in
        a.opened d op (same_true _ _ (and_l _ _ (sym (w.maker d (w.there_open d op) (tx_at h e) o z) ∙ mk)))

    -- a link of T that is there was made by its originator
    there_made : (d : ℕ) → Nz (L d).number → (L d).tx ≡ tx_at h e → (shows_of h).made_by d (tx_at h e) (L d).originator ≡ true
    there_made d th tx = w.maker d th (tx_at h e) (L d).originator z ∙ rw (tx, same_refl (tx_at h e), same_refl (L d).originator)

    open_unfinished : a.open_end ≡ true → unfinished h (tx_at h e) ≡ true
    unfolding unfinished shows_of by with_value
    open_unfinished y = let o = a.opens y in let th = w.there_open o.0 o.1 in
        let r = some_find _ h (there_made o.0 th o.2) in
        let vd : r.0.answer.value ≡ o.0 = eqb-true _ _ (and_l _ _ (and_r (makes (tx_at h e) r.0) _ r.1)) in
        let pd : r.0.call.party ≡ (L o.0).originator = eqb-true _ _ (and_r (with_value o.0 r.0) _ (and_r (makes (tx_at h e) r.0) _ r.1)) in
        r.2 (λ x. makes (tx_at h e) x && not (some (finishes x.answer.value x.call.party) h))
        (and_from _ _ (and_l (makes (tx_at h e) r.0) _ r.1) (rw (vd, pd, w.unfinished o.0 th)))

    unfinished_open : is_rollback_only (P e.call.party) ≡ false → unfinished h (tx_at h e) ≡ true → a.open_end ≡ true
    unfolding unfinished shows_of by with_value
    unfinished_open un y = let r = some_find _ h y in
        keeps_open un r.0.answer.value r.0.call.party
        (r.2 (λ x. makes (tx_at h e) x && (with_value r.0.answer.value x && by r.0.call.party x))
        (and_from _ _ (and_l (makes (tx_at h e) r.0) _ r.1) (and_from _ _ (eq-eqb r.0.answer.value _ refl) (eq-eqb r.0.call.party _ refl))))
        (not-true _ (and_r (makes (tx_at h e) r.0) _ r.1))

    exactly : committed e ≡ not (reason_against h e (tx_at h e))
    unfolding reason_against
    exactly = a.code ∙ rw (marked, a.late_is, a.against_is)
        (law (failed_end (is_link_of h (tx_at h e)) h) (disconnect (is_link_of h (tx_at h e)) h)
        (deadline_passed (up_to_start (tx_at h e) h) (e ∷ h)) a.open_end (unfinished h (tx_at h e)) (stands_against h (tx_at h e))
        (λ un. same_tests _ _ open_unfinished (unfinished_open (marked ∙ un))))
      where
        same_tests : (x y : Bool) → (x ≡ true → y ≡ true) → (y ≡ true → x ≡ true) → x ≡ y
        same_tests true y f g = sym (f refl)
        same_tests false true f g = g refl
        same_tests false false f g = refl

        law : (f d l o u s : Bool) → (f || d ≡ false → o ≡ u) → (not (f || d) && (not l && not o)) && not s ≡ not (f || (d || (l || (u || s))))
        law false false false o u s k = rw (k refl) (sym (not_or u s))
        law _ _ _ o u s k = refl

    nobody : committed e ≡ true → others_at_work h (tx_at h e) e.call.party ≡ false
    unfolding others_at_work shows_of
    nobody c = test (others_at_work h (tx_at h e) e.call.party)
        (λ y. let r = some_find _ h y in
        let q = r.0.call.party in
        let k = sym (w.serve q (is_link_of h (tx_at h e))) ∙ and_r (not (by e.call.party r.0)) _ r.1 in
        let ns : Nz (P q).served = not-true _ (and_l _ _ k) in
        let th = w.there_work (P q).served (w.works q ns) in
        let tx : (L (P q).served).tx ≡ tx_at h e = same_true _ _ (sym (w.of_tx (P q).served th (tx_at h e) z) ∙ and_r (not (same (P q).served 0)) _ k) in
        let b = and_l _ (not a.against) (sym a.code ∙ c) in
        let un = not-true _ (and_l (not (is_rollback_only (P e.call.party))) _ b) in
        not_both (keeps_open un (P q).served _ (there_made (P q).served th tx) (w.unfinished (P q).served th))
        (not-true _ (and_r (not a.late) _ (and_r (not (is_rollback_only (P e.call.party))) _ b))))
        (λ n. n)

  pub commit_holds : latest_tx h e.call.party ≡ tx_p P L e.call.party
      → (of_kind 4 e ≡ true → past21 e ≡ true → Nz (tx_at h e) → (P e.call.party).owned ≡ tx_at h e → Answered P L h e)
      → (commit_rule h e ≡ true) × (alone_rule h e ≡ true)
  unfolding commit_rule alone_rule is_owners_commit same
  commit_holds latest answers = test (is_owners_commit h e)
      (λ y.
      let y' = and_r (of_kind 4 e) _ y in
      let y'' = and_r (past21 e) _ y' in
      let z : Nz (tx_at h e) = not-true _ (and_l (not (eqb (tx_at h e) 0)) _ y'') in
      let o = owns latest z (and_r (not (eqb (tx_at h e) 0)) _ y'') in
      let a = answers (and_l (of_kind 4 e) _ y) (and_l (past21 e) _ y') z o in
      (rw y (beq_refl _ _ (exactly z o a)), rw y (test (committed e) (λ c. rw (c, nobody z o a c)) (λ n. rw n))))
      (λ n. (rw n, rw n))
