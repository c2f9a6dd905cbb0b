-- The walk over kinds 1 to 9: the TX calls.
-- Assumes nothing.
use Rattle.std.proofs.Common.{◌≡◌, refl, sym, ap, ◌∙◌, Bool, true, false, List, ℕ, suc, ◌+◌, ◌<◌, arith, eqb, leb, ℤ, set-set, rules}
use Rattle.rules.specs.Choice.{pick, same}
use Rattle.rules.specs.Codes.{tx_ok, tx_not_supported, tx_info_outside, tx_info_inside, tx_protocol_error, tx_error, tx_einval, no_begin}
use Rattle.rules.specs.Record.{party, live, with_party, ruled, valued, with_timeout, owning, owning_none}
use Rattle.rules.specs.Transaction.{tx_of, deadline_of, tx_left, begin_tx, end_tx}
use Rattle.rules.specs.States.{state_of, next_of, in_state, entered}
use Rattle.rules.specs.Tx.{open_of, close_of, begin_of, go_on, commit_of, rollback_of, info_of, commit_return_of, control_of, timeout_of}
use Rattle.rules.specs.Votes.{vote_code, commit_code}
use Rattle.rules.specs.declared.Call.{Call}
use Rattle.rules.specs.declared.Monitor.{Monitor}
use Rattle.rules.specs.declared.Party.{Party}
use Rattle.rules.proofs.Logic.{Nz, not_both, and_r}
use Rattle.rules.proofs.Fine.{look, Frame, Fine}
use Rattle.rules.proofs.Looks.{tx_of_tx_p}
use Rattle.rules.proofs.Parties.{party_same, is_owner_owns, none_good, owned_none}
use Rattle.rules.proofs.Votes.{every_code, commit_code_test}
use Rattle.rules.proofs.History.Tells.{nothing, can_start}
use Rattle.rules.proofs.History.Moves.{Move, ends, renews}
use Rattle.rules.proofs.History.Walk.Moved.{Own, Moved}
use Rattle.rules.proofs.History.Walk.Says.{is_past, is_plain, is_timed, Says, says_valueless, tells_plain, time_kept, time_set, time_none}
use Rattle.rules.proofs.History.Walk.Base.{BeginsTo, ask_moved, pick_moved, refused, moved_still, OwnOnly}
use Rattle.rules.proofs.History.Walk.Base.{own_set, own_then, own_all, moved_own, moved_quiet}
use Rattle.rules.proofs.History.Walk.Ending.{end_own_lem, end_frame, ends_to, end_ends, end_clock, end_lastlink, end_lasttx}
use Rattle.rules.proofs.History.Walk.States.{state_is, state_free, state_low, next_open, next_close, next_begin, next_begun}
use Rattle.rules.proofs.History.Walk.States.{next_control, in_good, in_opened, own_entered, frame_entered}

-- ---- 1, 2, 8, 9: the caller's fields but its transaction
module _ (m : Monitor) (c : Call) (f : Fine m) (b : c.party < 16) where
  -- it enters a state that is not S0
  enters_moved : (k : ℕ) → c.kind ≡ k → is_plain k ≡ true → is_timed k ≡ false → (s : ℕ) → eqb s 0 ≡ false → Moved m c (ruled (entered m c.party s) tx_ok)
  unfolding entered in_state
  enters_moved k e h i s n = moved_quiet m c 0 (in_state (party m c.party) s) k f b e h (record {
    good = in_good (party m c.party) s;
    owned' = refl;
    deadline' = refl;
    mark' = refl;
    served' = refl;
    reports' = λ _. refl;
    rights' = (refl, refl);
    time' = sym (time_kept c (valued (with_party m c.party (in_state (party m c.party) s)) 0) _ k e i);
    opened' = λ _ _. in_opened (party m c.party) s n;
  })

  pub open_moved : c.kind ≡ 1 → Moved m c (open_of m c.party)
  unfolding open_of
  open_moved e = ask_moved (λ _. enters_moved 1 e refl refl _ (next_open (state_of m c.party))) (λ _. refused tx_protocol_error refl f)

  pub control_moved : c.kind ≡ 8 → Moved m c (control_of m c.party c.a)
  unfolding control_of
  control_moved e = ask_moved (λ _. ask_moved
      (λ _. enters_moved 8 e refl refl _ (next_control (state_of m c.party) c.a))
      (λ _. refused tx_einval refl f)) (λ _. refused tx_protocol_error refl f)

  pub timeout_moved : c.kind ≡ 9 → Moved m c (timeout_of m c.party c.a)
  unfolding timeout_of
  timeout_moved e = ask_moved (λ _. ask_moved
      (λ _. moved_quiet m c 0 (with_timeout (party m c.party) c.a) 9 f b e refl (record {
        good = λ g. g;
        owned' = refl;
        deadline' = refl;
        mark' = refl;
        served' = refl;
        reports' = λ _. refl;
        rights' = (refl, refl);
        time' = sym (time_set c (valued (with_party m c.party (with_timeout (party m c.party) c.a)) 0) _ e refl);
        opened' = λ o n. o n;
      }))
      (λ _. refused tx_einval refl f)) (λ _. refused tx_protocol_error refl f)

  -- ---- 6, 7: nothing changes
  pub info_moved : c.kind ≡ 6 → Moved m c (info_of m c.party)
  unfolding info_of
  info_moved e =
      ask_moved (λ _. pick_moved (λ _. moved_still 6 e refl refl tx_info_outside refl f) (λ _. moved_still 6 e refl refl tx_info_inside refl f))
      (λ _. refused tx_protocol_error refl f)

  pub commit_return_moved : c.kind ≡ 7 → Moved m c (commit_return_of m c.party c.a)
  unfolding commit_return_of
  commit_return_moved e = ask_moved (λ _. ask_moved
      (λ _. pick_moved (λ _. moved_still 7 e refl refl tx_ok refl f) (λ _. moved_still 7 e refl refl tx_not_supported refl f))
      (λ _. refused tx_einval refl f)) (λ _. refused tx_protocol_error refl f)

  -- ---- 2: in S0 to S2 an opened party owns nothing
  closes_moved : c.kind ≡ 2 → (s : ℕ) → leb (state_of m c.party) 2 ≡ true
      → Moved m c (ruled (with_party m c.party (with_timeout (in_state (party m c.party) s) 0)) tx_ok)
  unfolding in_state same
  closes_moved e s h = moved_quiet m c 0 (with_timeout (in_state (party m c.party) s) 0) 2 f b e refl (record {
    good = in_good (party m c.party) s;
    owned' = refl;
    deadline' = refl;
    mark' = refl;
    served' = refl;
    reports' = λ _. refl;
    rights' = (refl, refl);
    time' = sym (time_none c (valued (with_party m c.party (with_timeout (in_state (party m c.party) s) 0)) 0) _ (rw e) refl);
    opened' = λ o n. not_both {b = eqb (party m c.party).owned 0} (rw (owned_none m c.party (state_low (state_is m c.party) h (o n)))) n;
  })

  closed_is : (s : ℕ) → with_party (entered m c.party s) c.party (with_timeout (party (entered m c.party s) c.party) 0)
      ≡ with_party m c.party (with_timeout (in_state (party m c.party) s) 0)
  unfolding entered
  closed_is s = rw (party_same m f.frame.shape c.party b (in_state (party m c.party) s), set-set)

  pub close_moved : c.kind ≡ 2 → Moved m c (close_of m c.party)
  unfolding close_of
  close_moved e = ask_moved
      (λ h. rw (closed_is (next_of 2 (state_of m c.party))) (closes_moved e (next_of 2 (state_of m c.party)) (next_close (state_of m c.party) h)))
      (λ _. refused tx_protocol_error refl f)

-- ---- 3, 4, 5: a transaction begins
-- party p's record as it begins one
abbrev begun : Monitor → ℕ → Party
begun m p = owning (party m p) (m.lasttx + 1) (deadline_of m.clock (party m p).timeout)

module _ (m : Monitor) (fr : Frame m) (p : ℕ) (b : p < 16) where
  begin_own : OwnOnly m (begin_tx m p) p (begun m p)
  unfolding begin_tx
  begin_own = own_set m (begin_tx m p) p (begun m p) fr.shape b refl

  begin_frame : tx_left m ≡ true → Frame (begin_tx m p)
  unfolding begin_tx
  begin_frame h = search rules

  -- it begins one and enters the state s
  begun_own : tx_left m ≡ true → (s : ℕ) → OwnOnly m (entered (begin_tx m p) p s) p (in_state (begun m p) s)
  begun_own h s = own_entered s begin_own (begin_frame h) b

  begun_begins : tx_left m ≡ true → (s t : ℕ) → t ≡ suc m.lasttx → BeginsTo m (entered (begin_tx m p) p s) p t
  unfolding entered begin_tx in_state
  begun_begins h s t n = let o = begun_own h s in record {
    links' = λ e. refl;
    p_owned = ap (λ x. x.owned) o.here ∙ omega arith;
    p_mark = ap (λ x. x.rollbackonly) o.here;
    served' = own_all (λ q x. x.served ≡ (party m q).served) o refl (λ _. refl);
    owned' = λ q e. ap (λ x. x.owned) (o.there q e);
    mark' = λ q e. ap (λ x. x.rollbackonly) (o.there q e);
  }

-- the codes of the three tell nothing
tx_says : (c : Call) (k : ℕ) → c.kind ≡ k → is_plain k ≡ true → (m : Monitor) (code : ℤ) → is_past code ≡ true → Says c (ruled m code) nothing
tx_says c k e h m code z = says_valueless c (ruled m code) refl z (tells_plain c (ruled m code) k e h)

module _ (m : Monitor) (c : Call) (f : Fine m) (b : c.party < 16) where
  -- ---- 3
  begins_moved : c.kind ≡ 3 → (s : ℕ) → eqb s 0 ≡ false → tx_of m c.party ≡ 0 → tx_left m ≡ true
      → Moved m c (ruled (entered (begin_tx m c.party) c.party s) tx_ok)
  unfolding entered begin_tx in_state can_start
  begins_moved e s n t h = let p = c.party in let y = in_state (begun m p) s in let r = ruled (entered (begin_tx m p) p s) tx_ok in
      moved_own m c r y nothing (frame_entered p s b (begin_frame m f.frame p b h)) refl (begun_own m f.frame p b h s) (refl, refl)
      (in_good (begun m p) s) (Own.begins (omega arith) refl (λ f. f (owned_none m p t))) (sym (time_kept c r _ 3 e refl)) (λ _ _. in_opened (begun m p) s n)
      (tx_says c 3 e refl _ tx_ok refl)
      (Move.begins refl (omega arith) (rw e) (sym (tx_of_tx_p m f.frame p) ∙ t) (begun_begins m f.frame p b h s (suc m.lasttx) refl))

  pub begin_moved : c.kind ≡ 3 → Moved m c (begin_of m c.party)
  unfolding begin_of
  begin_moved e = let s = state_of m c.party in ask_moved (λ h. ask_moved
      (λ l. begins_moved e (next_of 3 s) (next_begun s) (state_free (state_is m c.party) (next_begin s h)) l)
      (λ _. refused tx_error refl f)) (λ _. refused tx_protocol_error refl f)

  -- ---- 4, 5: the owned transaction ends
  module _ (k : ℕ) (e : c.kind ≡ k) (plain : is_plain k ≡ true) (timeless : is_timed k ≡ false) (start : can_start c ≡ true)
      (has : Nz (party m c.party).owned) where
    -- and no other begins
    ends_moved : (s : ℕ) (code : ℤ) → is_past code ≡ true → Moved m c (ruled (entered (end_tx m c.party) c.party s) code)
    unfolding entered in_state end_tx same
    ends_moved s code z =
        let p = c.party in
        let y = in_state (owning_none (party m p)) s in
        let r = ruled (entered (end_tx m p) p s) code in
        let o = own_entered s (end_own_lem m f.frame p b) (end_frame m f.frame p b) b in
        moved_own m c r y nothing (frame_entered p s b (end_frame m f.frame p b)) refl o (refl, refl)
        (λ g. in_good (owning_none (party m p)) s (none_good (party m p) g)) (Own.loses refl (λ _. refl)) (sym (time_kept c r _ k e timeless)) (λ _ n. not_both refl n)
        (tx_says c k e plain _ code z)
        (ends (record { link = refl; tx = refl }) (ends_to m f.frame p b has (entered (end_tx m p) p s) y o refl refl refl refl))

    -- and another begins
    renews_moved : (s : ℕ) → eqb s 0 ≡ false → tx_left (end_tx m c.party) ≡ true → (code : ℤ) → is_past code ≡ true
        → Moved m c (ruled (entered (begin_tx (end_tx m c.party) c.party) c.party s) code)
    unfolding entered begin_tx in_state
    renews_moved s n h code z =
        let p = c.party in
        let m' = end_tx m p in
        let fr = end_frame m f.frame p b in
        let y = in_state (begun m' p) s in
        let r = ruled (entered (begin_tx m' p) p s) code in
        let was = (end_own_lem m f.frame p b).here in
        moved_own m c r y nothing (frame_entered p s b (begin_frame m' fr p b h)) (end_clock m p)
        (own_then (end_own_lem m f.frame p b) (begun_own m' fr p b h s)) (ap (λ x. x.mayrequest) was, ap (λ x. x.mayadvertise) was)
        (λ g. in_good (begun m' p) s (rw was (none_good (party m p) g)))
        (Own.begins (rw (end_lasttx m p) (omega arith)) (rw (end_clock m p, was)) (λ _. ap (λ x. x.reports) was))
        (ap (λ x. x.timeout) was ∙ sym (time_kept c r _ k e timeless))
        (λ _ _. in_opened (begun m' p) s n)
        (tx_says c k e plain _ code z)
        (renews (end_lastlink m p) (rw (end_lasttx m p) (omega arith)) start (λ q. party m' q) (λ d. look d (live m')) (end_ends m f.frame p b has)
        (begun_begins m' fr p b h s (suc m.lasttx) (ap suc (sym (end_lasttx m p)))))

    goes_on : (next : ℕ) (start : Bool) (code : ℤ) → is_past code ≡ true → is_past (no_begin code) ≡ true → Moved m c (go_on (end_tx m c.party) c.party next start code)
    unfolding go_on
    goes_on next start code z z' = pick_moved
        (λ _. pick_moved (λ h. renews_moved 4 refl (and_r start _ h) code z) (λ _. ends_moved 2 (no_begin code) z'))
        (λ _. ends_moved next code z)

  commit_past : (can : Bool) (rs : List ℕ) → is_past (commit_code can rs) ≡ true
  unfolding every_code vote_code pick
  commit_past can rs = commit_code_test (λ z. is_past z) refl can rs

  commit_past_no : (can : Bool) (rs : List ℕ) → is_past (no_begin (commit_code can rs)) ≡ true
  unfolding every_code vote_code pick no_begin
  commit_past_no can rs = commit_code_test (λ z. is_past (no_begin z)) refl can rs

  pub commit_moved : c.kind ≡ 4 → Moved m c (commit_of m c.party)
  unfolding commit_of can_start
  commit_moved e = ask_moved (λ _. ask_moved
      (λ o. goes_on 4 e refl refl (rw e) (is_owner_owns m c.party o) _ _ _ (commit_past _ _) (commit_past_no _ _))
      (λ _. refused tx_protocol_error refl f)) (λ _. refused tx_protocol_error refl f)

  pub rollback_moved : c.kind ≡ 5 → Moved m c (rollback_of m c.party)
  unfolding rollback_of can_start no_begin
  rollback_moved e = ask_moved (λ _. ask_moved
      (λ o. goes_on 5 e refl refl (rw e) (is_owner_owns m c.party o) _ _ _ refl refl)
      (λ _. refused tx_protocol_error refl f)) (λ _. refused tx_protocol_error refl f)
