-- The walk over kinds 12 to 14: links made and taken; what a link that is looked up, changed or gone leaves.
-- Assumes nothing.
use Rattle.std.proofs.Common.{◌≡◌, refl, sym, ap, subst, ◌∙◌, Bool, true, false, not, ◌&&◌, ◌||◌, ℕ, suc}
use Rattle.std.proofs.Common.{◌+◌, ◌<◌, add-one, eqb, leb, ltb, get_or, eqb-true, ltb-true, rules}
use Rattle.std.proofs.lemmas.Bool.{not-true}
use Rattle.rules.specs.Choice.{pick, same}
use Rattle.rules.specs.Codes.{bad_argument, not_allowed_now, not_offered, no_room_left, timed_out, nothing_waiting, not_permitted}
use Rattle.rules.specs.Record.{fresh_link, is_attached, is_waiting, is_working, own_end, party, live, link_of, with_party, replaced}
use Rattle.rules.specs.Record.{changed, removed, added, valued, serving, new_link, working}
use Rattle.rules.specs.Transaction.{tx_of, ended}
use Rattle.rules.specs.Services.{is_service}
use Rattle.rules.specs.Requests.{no_reply, no_tran, recv_only, link_tx, ask_link, is_bare_no_reply, request_of, connect_of, is_idle, fits, dispatched}
use Rattle.rules.specs.Requests.{next_waiting, dispatch_of}
use Rattle.rules.specs.History.{flag2}
use Rattle.rules.specs.declared.Call.{Call}
use Rattle.rules.specs.declared.Link.{Link}
use Rattle.rules.specs.declared.Monitor.{Monitor}
use Rattle.rules.specs.declared.Party.{Party}
use Rattle.rules.specs.declared.Ruled.{Ruled}
use Rattle.rules.proofs.Logic.{by_test, test, not_both, pick_true, pick_false, same_true, same_ne, and_l, and_r, Nz, zero_nz, suc_nz}
use Rattle.rules.proofs.Fine.{no_link, tx_p, look, Frame, Fine}
use Rattle.rules.proofs.Looks.{look_number, there, look_next, link_of_look, tx_of_tx_p, any_none}
use Rattle.rules.proofs.Parties.{party_frame, live_owner_lem, owned_none}
use Rattle.rules.proofs.Changes.{first_fits, first_look, first_there, replaced_same, replaced_other, replaced_frame}
use Rattle.rules.proofs.Changes.{changed_lastlink, changed_lasttx, removed_same}
use Rattle.rules.proofs.Changes.{removed_other, removed_frame, removed_parties, removed_clock, removed_lastlink, removed_lasttx, added_new}
use Rattle.rules.proofs.Changes.{added_other, added_frame}
use Rattle.rules.proofs.History.Tells.{Tell, nothing, finished}
use Rattle.rules.proofs.History.Moves.{Move}
use Rattle.rules.proofs.History.Walk.Moved.{Moved, Own}
use Rattle.rules.proofs.History.Walk.Says.{Says, is_timed, says_made, says_made_flagged, says_made_free, says_taken, time_kept}
use Rattle.rules.proofs.History.Walk.Base.{MoveTo, KeptTo, MakesTo, ask_moved, refused, idle_parties, moved_links, own_set, own_all, moved_own}
use Rattle.rules.proofs.History.Walk.LinkChanges.{no_link_working, new_link_good, own_end_lem, no_link_own}

-- ---- a link found by its number: under a test that neither a fresh link nor a missing one passes
pub record Found (m : Monitor) (a : ℕ) : Type 0 where
  pub is : link_of m a ≡ look a (live m)
  pub there' : Nz (look a (live m)).number
  pub number : (link_of m a).number ≡ a

pub found : (m : Monitor) → Frame m → (g : Link → Bool) → g fresh_link ≡ false → g no_link ≡ false → (a : ℕ) → g (link_of m a) ≡ true → Found m a
found m fr g gf gn a e =
    let q = link_of_look m g gf a e in
    let t = there m fr g gn a (rw q at e) in
    record { is = q; there' = t; number = ap (λ x. x.number) q ∙ look_number a (live m) t }

-- ---- the last numbers stay
pub changed_kept : (m : Monitor) (c : Call) (a : ℕ) (l : Link) → KeptTo m c (changed m a l)
changed_kept m c a l = record { link = changed_lastlink m a l; tx = changed_lasttx m a l }

pub removed_kept : (m : Monitor) (c : Call) (a : ℕ) → KeptTo m c (removed m a)
removed_kept m c a = record { link = removed_lastlink m a; tx = removed_lasttx m a }

-- ---- link d, whose originator has learnt its end, goes: the record is the one without it
pub finish_moved : (m : Monitor) (c : Call) → Fine m → is_timed c.kind ≡ false → (d : ℕ) (r : Ruled) → r.monitor ≡ removed m d → Says c r (finished d)
    → Nz (look d (live m)).number → (look d (live m)).originator ≡ c.party → is_working (look d (live m)) ≡ false → Moved m c r
finish_moved m c fine kt d r e says th og rs =
    let ps : r.monitor.parties ≡ m.parties = rw e (removed_parties m d) in
    moved_links m c r (finished d) (rw e (removed_frame m fine.frame d)) (rw e (removed_clock m d)) ps
    (time_kept c r _ c.kind refl kt) says
    (Move.finishes (rw e (removed_kept m c d)) d (record {
      idle = idle_parties m r.monitor ps;
      there = th;
      originator = og;
      rests = rs;
      gone' = rw e (removed_same m fine.frame d);
      others = rw e (removed_other m fine.frame d);
    }))

-- ---- 14 take
record Idling (m : Monitor) (p : ℕ) : Type 0 where
  served : (party m p).served ≡ 0
  owned : (party m p).owned ≡ 0
  no_ends : (e : ℕ) → is_attached (look e (live m)) ≡ true → (look e (live m)).originator ≡ p → ⊥

idling : (m : Monitor) (p : ℕ) → is_idle m p ≡ true → Idling m p
unfolding is_idle
idling m p e =
    let s = and_r (eqb (party m p).opened 1) _ e in
    let t = and_r (eqb (party m p).served 0) _ s in
    let n = not-true _ (and_r (eqb (tx_of m p) 0) _ t) in
    record {
      served = eqb-true _ 0 (and_l _ _ s);
      owned = owned_none m p (eqb-true _ 0 (and_l _ _ t));
      no_ends = λ d a o. not_both {X = ⊥} (own_end_lem p (look d (live m)) a o) (any_none (own_end p) (no_link_own p) (live m) n d);
    }

fits_waiting : (q : Party) (l : Link) → fits q l ≡ true → is_waiting l ≡ true
unfolding fits
fits_waiting q l e = and_l _ _ e

module _ (m : Monitor) (c : Call) (fine : Fine m) (pb : c.party < 16) (k : c.kind ≡ 14) (idle : is_idle m c.party ≡ true) (room : next_waiting m c.party < m.count) where
  -- the link that is taken
  next : Link
  next = get_or (live m) (next_waiting m c.party) fresh_link

  dispatched_moved : Moved m c (dispatched m c.party (next_waiting m c.party) next)
  unfolding dispatched next
  dispatched_moved =
      let f = fits (party m c.party) in
      let x = serving (party m c.party) next.number in
      let m₁ = with_party m c.party x in
      let l = working next c.party in
      let fr₁ = party_frame m fine.frame.shape c.party pb x fine.frame in
      let is = first_look m fine.frame f room in
      let i = idling m c.party idle in
      let own = own_set m (replaced m₁ (next_waiting m c.party) l) c.party x fine.frame.shape pb refl in
      moved_own m c _ x _ (replaced_frame m₁ fr₁ f room l refl) refl own (refl, refl)
      (λ h. h) (Own.keeps refl refl (λ _. refl)) (sym (time_kept c _ _ 14 k refl)) (λ h. h) (says_taken c _ k refl)
      (Move.takes (record { link = refl; tx = refl }) next.number (record {
        there = rw is (first_there m fine.frame f room);
        number = ap (λ y. y.number) is;
        waits = rw is (fits_waiting _ _ (first_fits m fine.frame f room));
        works = replaced_same m₁ fr₁ f room l refl ∙ ap (λ y. working y c.party) (sym is);
        others = replaced_other m₁ fr₁ f room l refl;
        free = i.owned;
        served_none = i.served;
        no_ends = i.no_ends;
        p_served = ap (λ y. y.served) own.here;
        served' = λ q n. ap (λ y. y.served) (own.there q n);
        owned' = own_all (λ q y. y.owned ≡ (party m q).owned) own refl (λ _. refl);
        mark' = own_all (λ q y. y.rollbackonly ≡ (party m q).rollbackonly) own refl (λ _. refl);
      }))

pub dispatch_moved : (m : Monitor) (c : Call) → Fine m → c.party < 16 → c.kind ≡ 14 → Moved m c (dispatch_of m c.party)
unfolding dispatch_of next
dispatch_moved m c fine pb k =
    ask_moved (λ i. ask_moved (λ r. dispatched_moved m c fine pb k i (ltb-true _ _ r))
    (λ _. refused nothing_waiting refl fine))
    (λ _. refused not_allowed_now refl fine)

-- ---- 12, 13
-- the caller's transaction as its link is made
pub added_tx : (m : Monitor) → Fine m → (room : m.count < 32) → m.lastlink < 60000 → (l : Link) → l.number ≡ suc m.lastlink → (p : ℕ)
    → tx_of (added m l) p ≡ tx_of m p
unfolding tx_p
added_tx m fine room left l e p =
    tx_of_tx_p (added m l) (added_frame m fine.frame room l e left) p
    ∙ ap (λ t. pick (same (party m p).owned 0) t (party m p).owned) (ap (λ y. y.tx) (added_other m fine.frame room l e (party m p).served old))
    ∙ sym (tx_of_tx_p m fine.frame p)
  where
    -- what a party serves is there, and the new number is not
    old : same (party m p).served (suc m.lastlink) ≡ false
    old = same_ne _ _ (λ s. not_both {X = ⊥} (fine.works p (rw s (suc_nz m.lastlink)))
        (rw (s, look_next m fine.frame) no_link_working))

module _ (m : Monitor) (c : Call) (fine : Fine m) (pb : c.party < 16) (kinds : eqb c.kind 12 || eqb c.kind 13 ≡ true)
    (kd at a x s v : ℕ) (kg : leb kd 1 ≡ true) (ag : leb at 1 ≡ true) (sg : leb s 1 ≡ true)
    (open' : no_tran c.b ≡ false → Nz (tx_of m c.party) → at ≡ 1) (value : no_tran c.b ≡ false → Nz (tx_of m c.party) → v ≡ m.lastlink + 1) where
  made_link : ℕ → Link
  made_link t = new_link (m.lastlink + 1) kd c.party at a t x s

  kinds_timeless : (k : ℕ) → eqb k 12 || eqb k 13 ≡ true → is_timed k ≡ false
  kinds_timeless k e = search rules

  module _ (t : ℕ) (room : m.count < 32) (left : m.lastlink < 60000) where
    number_is : (made_link t).number ≡ suc m.lastlink
    unfolding made_link
    number_is = add-one m.lastlink

    made_makes : (Nz t → at ≡ 1) → (Nz t → t ≡ tx_of m c.party) → ended m t ≡ false
        → MakesTo m (added m (made_link t)) c.party (suc m.lastlink) t
    made_makes at1 own en =
        let is = added_new m fine.frame room (made_link t) number_is in
        record {
          idle = record { owned' = λ _. refl; served' = λ _. refl; mark' = λ _. refl };
          number = rw is number_is;
          originator = rw is (unfold made_link in refl);
          tx = rw is (unfold made_link in refl);
          waits = rw is (unfold made_link in refl);
          whole = rw is (unfold made_link in refl);
          good = rw is (unfold made_link in new_link_good (m.lastlink + 1) kd c.party at a t x s pb kg ag sg);
          attached = λ n. rw is (unfold made_link in rw (at1 n));
          own = λ n. own n ∙ tx_of_tx_p m fine.frame c.party;
          live = λ n. live_owner_lem m t n en;
          others = added_other m fine.frame room (made_link t) number_is;
        }

    made_moved : {u : Tell} → Says c (valued (added m (made_link t)) v) u → MoveTo m c (added m (made_link t)) u → Moved m c (valued (added m (made_link t)) v)
    made_moved says mv = moved_links m c _ _ (added_frame m fine.frame room (made_link t) number_is left) refl refl
        (time_kept c _ _ c.kind refl (kinds_timeless c.kind kinds)) says mv

    -- of no transaction
    free_moved : t ≡ 0 → ended m t ≡ false → Says c (valued (added m (made_link t)) v) nothing → Moved m c (valued (added m (made_link t)) v)
    free_moved z en says = made_moved says (Move.makes_free (add-one m.lastlink) refl
        (subst (λ (y : ℕ). MakesTo m (added m (made_link t)) c.party (suc m.lastlink) y)
        z (made_makes (zero_nz z) (zero_nz z) en)))

    -- of the caller's
    own_moved : no_tran c.b ≡ false → Nz (tx_of m c.party) → t ≡ tx_of m c.party → ended m t ≡ false → Moved m c (valued (added m (made_link t)) v)
    own_moved f n e en = made_moved (subst (λ (y : ℕ). Says c (valued (added m (made_link t)) v) (Tell.made y)) (value f n ∙ add-one m.lastlink) says)
        (Move.makes (add-one m.lastlink) refl t (rw e n) (made_makes (λ _. open' f n) (λ _. e) en))
      where
        says : Says c (valued (added m (made_link t)) v) (Tell.made v)
        says = says_made c _ kinds refl (unfold flag2 in f) (rw (added_tx m fine room left (made_link t) number_is c.party) n)

  making : (room : m.count < 32) → m.lastlink < 60000 → ended m (link_tx m c.party c.b) ≡ false → Moved m c (valued (added m (made_link (link_tx m c.party c.b))) v)
  unfolding link_tx
  making room left en = test (no_tran c.b)
      (λ f. free_moved _ room left (pick_true _ _ _ f) en (says_made_flagged c _ kinds refl (unfold flag2 in f)))
      (λ f. let i : link_tx m c.party c.b ≡ tx_of m c.party = pick_false _ _ _ f in
      test (same (tx_of m c.party) 0)
      (λ z. free_moved _ room left (i ∙ same_true _ _ z) en
      (says_made_free c _ kinds refl (added_tx m fine room left _ (number_is _ room left) c.party ∙ same_true _ _ z)))
      (λ z. own_moved _ room left f z i en))

  link_moved : Moved m c (ask_link m c.party (link_tx m c.party c.b) a (valued (added m (new_link (m.lastlink + 1) kd c.party at a (link_tx m c.party c.b) x s)) v))
  unfolding ask_link made_link
  link_moved =
      ask_moved (λ _. ask_moved (λ en. ask_moved (λ _. ask_moved (λ _. ask_moved
      (λ r. making (ltb-true _ 32 (and_l _ _ r)) (ltb-true _ 60000 (and_r (ltb m.count 32) _ r)) (not-true _ en))
      (λ _. refused no_room_left refl fine)) (λ _. refused not_offered refl fine)) (λ _. refused timed_out refl fine)) (λ _. refused not_allowed_now refl fine))
      (λ _. refused not_permitted refl fine)

-- in a transaction and without flag 2, a request's flags are 0
no_flags : (b t : ℕ) → leb b 3 && not (is_bare_no_reply b && not (eqb t 0)) ≡ true → no_tran b ≡ false → Nz t → no_reply b ≡ false
unfolding same
no_flags b t e f n = search rules

pub request_moved : (m : Monitor) (c : Call) → Fine m → c.party < 16 → c.kind ≡ 12 → Moved m c (request_of m c.party c.a c.b c.c)
unfolding request_of
request_moved m c fine pb k =
    ask_moved (λ e. let h = and_r (is_service c.a) _ e in
    link_moved m c fine pb (rw k) 0 (pick (no_reply c.b) 0 1) c.a c.c 0 (pick (no_reply c.b) 0 (m.lastlink + 1))
    refl (by_test (λ x. leb x 1 ≡ true) (λ _. refl) (λ _. refl)) refl
    (λ f n. pick_false _ _ _ (no_flags c.b _ h f n)) (λ f n. pick_false _ _ _ (no_flags c.b _ h f n)))
    (λ _. refused bad_argument refl fine)

pub connect_moved : (m : Monitor) (c : Call) → Fine m → c.party < 16 → c.kind ≡ 13 → Moved m c (connect_of m c.party c.a c.b c.c)
unfolding connect_of
connect_moved m c fine pb k =
    ask_moved (λ _. link_moved m c fine pb (rw k) 1 1 c.a c.c (pick (recv_only c.b) 1 0) (m.lastlink + 1)
    refl refl (by_test (λ x. leb x 1 ≡ true) (λ _. refl) (λ _. refl)) (λ _ _. refl) (λ _ _. refl))
    (λ _. refused bad_argument refl fine)
