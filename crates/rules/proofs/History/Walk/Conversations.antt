-- The walk over kinds 17 to 19: send, receive and disconnect on a conversation.
-- Assumes nothing.
use Rattle.std.proofs.Common.{◌≡◌, refl, sym, ap, ◌∙◌, Bool, true, false, not, ◌||◌, List, ℕ, ◌<◌, eqb, leb, ℤ, get_or}
use Rattle.rules.specs.Choice.{same}
use Rattle.rules.specs.Codes.{bad_argument, not_allowed_now, no_such_end, timed_out, nothing_unread, unread_full, tp_accepted, tpe_event}
use Rattle.rules.specs.Record.{fresh_link, fresh_party, is_conversation, is_attached, is_working, is_returned, own_end, party, live}
use Rattle.rules.specs.Record.{link_of, changed, removed, disconnected_link, valued, notified, with_sent, without_oldest}
use Rattle.rules.specs.Transaction.{rollback_only_tx, rollback_only_in}
use Rattle.rules.specs.Conversations.{originator_end, server_end, any_end, hears_disconnect, hears_return, end_side, is_sender, tells_disconnect}
use Rattle.rules.specs.Conversations.{tells_return, send_on, send_of, received, receive_on, receive_of, disconnected_at, disconnect_of}
use Rattle.rules.specs.declared.Call.{Call}
use Rattle.rules.specs.declared.Link.{Link}
use Rattle.rules.specs.declared.Monitor.{Monitor}
use Rattle.rules.specs.declared.Party.{Party}
use Rattle.rules.proofs.Logic.{by_test, not_both, same_true, and_l, and_r, or_cases, Nz}
use Rattle.rules.proofs.Fine.{no_link, look, Frame, Fine}
use Rattle.rules.proofs.Parties.{rollback_only_in_length, rollback_only_in_either, rollback_only_in_miss, rollback_only_in_hit}
use Rattle.rules.proofs.Parties.{rollback_only_in_free, Marks, plain, marked, marks_good}
use Rattle.rules.proofs.Changes.{parties_frame, changed_clock, changed_lastlink, changed_lasttx, changed_parties, changed_same}
use Rattle.rules.proofs.Changes.{changed_other, changed_frame, changed_by, removed_same, removed_other, removed_frame}
use Rattle.rules.proofs.Changes.{removed_parties, removed_clock, removed_lastlink, removed_lasttx}
use Rattle.rules.proofs.History.Tells.{Tell, nothing, sent, given, disconnected}
use Rattle.rules.proofs.History.Moves.{End, Like, Left, Move}
use Rattle.rules.proofs.History.Left.{like_refl}
use Rattle.rules.proofs.History.Walk.Moved.{Stays, Moved}
use Rattle.rules.proofs.History.Walk.Says.{Says, is_timed, says_sent, says_received, says_given, says_ended, says_notified, says_disconnected, time_kept}
use Rattle.rules.proofs.History.Walk.Base.{MoveTo, KeptTo, IdleTo, ask_moved, pick_moved, refused, idle_parties}
use Rattle.rules.proofs.History.Walk.Base.{moved_stays, moved_links, marks_stay, marks_rights, replied}
use Rattle.rules.proofs.History.Walk.LinkChanges.{returned_ending, returned_rests, working_waits_not, notified_like}
use Rattle.rules.proofs.History.Walk.LinkChanges.{with_sent_like, without_oldest_like, disconnected_link_left}
use Rattle.rules.proofs.History.Walk.Requests.{Found, found, changed_kept, finish_moved}

-- ---- the caller's end
record OriginatorEnd (p : ℕ) (l : Link) : Type 0 where
  conversation : is_conversation l ≡ true
  attached : is_attached l ≡ true
  originator : l.originator ≡ p

originator_end_lem : (p : ℕ) (l : Link) → originator_end p l ≡ true → OriginatorEnd p l
unfolding originator_end own_end
originator_end_lem p l e =
    let o = and_r (is_conversation l) _ e in
    record { conversation = and_l _ _ e; attached = and_l _ _ o; originator = same_true _ _ (and_r (is_attached l) _ o) }

record ServerEnd (p : ℕ) (l : Link) : Type 0 where
  conversation : is_conversation l ≡ true
  works : is_working l ≡ true
  server : l.server ≡ p

server_end_lem : (p : ℕ) (l : Link) → server_end p l ≡ true → ServerEnd p l
unfolding server_end
server_end_lem p l e = let o = and_r (is_conversation l) _ e in let s = and_r (is_working l) _ o in
    record { conversation = and_l _ _ e; works = and_l _ _ o; server = same_true _ _ (and_l _ _ s) }

any_conversation : (p : ℕ) (l : Link) → any_end p l ≡ true → is_conversation l ≡ true
unfolding any_end
any_conversation p l e = or_cases (originator_end p l) _ e (λ o. (originator_end_lem p l o).conversation) (λ s. (server_end_lem p l s).conversation)

any_end_lem : (p : ℕ) (l : Link) → any_end p l ≡ true → End l p (end_side p l)
unfolding any_end end_side
any_end_lem p l e = by_test (End l p) (λ o. End.origin (originator_end_lem p l o).originator)
    (λ o. let s = server_end_lem p l (or_right o e) in End.service s.server (working_waits_not l s.works))
  where
    or_right : {a b : Bool} → a ≡ false → a || b ≡ true → b ≡ true
    or_right {a} {b} f e = rw f at e

side_small : (p : ℕ) (l : Link) → leb (end_side p l) 1 ≡ true
unfolding end_side
side_small p l = by_test (λ x. leb x 1 ≡ true) (λ _. refl) (λ _. refl)

-- a fresh link and a missing one are nobody's end
any_end_fresh : (p : ℕ) → any_end p fresh_link ≡ false
unfolding any_end originator_end server_end
any_end_fresh p = refl

any_end_none : (p : ℕ) → any_end p no_link ≡ false
unfolding any_end originator_end server_end no_link
any_end_none p = refl

originator_end_fresh : (p : ℕ) → originator_end p fresh_link ≡ false
unfolding originator_end
originator_end_fresh p = refl

originator_end_none : (p : ℕ) → originator_end p no_link ≡ false
unfolding originator_end no_link
originator_end_none p = refl

-- ---- link a becomes l', alike
module _ (m : Monitor) (c : Call) (fine : Fine m) (timeless : is_timed c.kind ≡ false) (f : Found m c.a) (l' : Link)
    (like : Like (link_of m c.a) l') where
  like_number : l'.number ≡ c.a
  like_number = like.number' ∙ f.number

  likes : (e : ℕ) → Like (look e (live m)) (look e (live (changed m c.a l')))
  likes = changed_by m fine.frame c.a f.there' l' like_number (λ d y. Like (look d (live m)) y) (rw f.is at like) (λ _ _. like_refl refl)

  senders : l'.sender ≡ (link_of m c.a).sender → (e : ℕ) → (look e (live (changed m c.a l'))).sender ≡ (look e (live m)).sender
  senders s = changed_by m fine.frame c.a f.there' l' like_number (λ d y. y.sender ≡ (look d (live m)).sender)
      (s ∙ ap (λ y. y.sender) f.is) (λ _ _. refl)

  idles : IdleTo m (changed m c.a l')
  idles = idle_parties m (changed m c.a l') (changed_parties m c.a l')

  like_moved : (code : ℤ) (event token : ℕ) (t : Tell) → Says c (replied (changed m c.a l') code event token) t
      → MoveTo m c (changed m c.a l') t → Moved m c (replied (changed m c.a l') code event token)
  like_moved code event token t says mv = moved_links m c _ t (changed_frame m fine.frame c.a f.there' l' like_number)
      (changed_clock m c.a l') (changed_parties m c.a l') (time_kept c _ _ c.kind refl timeless) says mv

  quiet_move : l'.sender ≡ (link_of m c.a).sender → MoveTo m c (changed m c.a l') nothing
  quiet_move s = Move.quiet (changed_kept m c c.a l') idles likes (senders s)

-- ---- 17, 18: what the end's party learns
module _ (m : Monitor) (c : Call) (fine : Fine m) (timeless : is_timed c.kind ≡ false) (kinds : eqb c.kind 17 || eqb c.kind 18 ≡ true)
    (f : Found m c.a) where
  notified_moved : hears_disconnect c.party (link_of m c.a) ≡ true → Moved m c (tells_disconnect m c.a (link_of m c.a))
  unfolding hears_disconnect tells_disconnect
  notified_moved e = let k = notified_like (link_of m c.a) (and_r (not (originator_end c.party (link_of m c.a))) _ e) in
      like_moved m c fine timeless f (notified (link_of m c.a)) k tpe_event 1 0 nothing (says_notified c _ kinds refl refl refl)
      (quiet_move m c fine timeless f (notified (link_of m c.a)) k refl)

  hears_return_moved : hears_return c.party (link_of m c.a) ≡ true → Moved m c (tells_return m c.a (link_of m c.a))
  unfolding hears_return tells_return
  hears_return_moved e =
      let i = f.is in
      let o = originator_end_lem c.party (link_of m c.a) (and_l _ _ e) in
      let r : is_returned (look c.a (live m)) ≡ true =
      rw i at (and_l (is_returned (link_of m c.a)) _ (and_r (originator_end c.party (link_of m c.a)) _ e))
      in
      finish_moved m c fine timeless c.a (tells_return m c.a (link_of m c.a)) refl
      (says_ended c _ kinds refl refl (rw i (returned_ending (look c.a (live m)) (fine.links c.a) r)))
      f.there' (sym (ap (λ y. y.originator) i) ∙ o.originator) (returned_rests (look c.a (live m)) r)

-- ---- 17 send
sender_side : (p : ℕ) (l : Link) → is_sender p l ≡ true → l.sender ≡ end_side p l
unfolding is_sender
sender_side p l e = same_true _ _ e

pub send_moved : (m : Monitor) (c : Call) → Fine m → c.party < 16 → c.kind ≡ 17 → Moved m c (send_of m c.party c.a c.b c.c)
unfolding send_of send_on
send_moved m c fine pb k =
    ask_moved (λ e. let f = found m fine.frame (any_end c.party) (any_end_fresh c.party) (any_end_none c.party) c.a e in
    let i = f.is in
    let e' : any_end c.party (look c.a (live m)) ≡ true = rw i at e in
    ask_moved (λ b. ask_moved (λ _.
    pick_moved (λ h. notified_moved m c fine (rw k) (rw k) f h) (λ _.
    pick_moved (λ h. hears_return_moved m c fine (rw k) (rw k) f (and_l _ _ h)) (λ _.
    ask_moved (λ h. ask_moved (λ r.
    let l' = with_sent (link_of m c.a) c.b c.c in
    let y = with_sent_like (link_of m c.a) c.b c.c b r in
    like_moved m c fine (rw k) f l' y tp_accepted 0 0 (sent c.a) (says_sent c _ k refl)
    (Move.sends (changed_kept m c c.a l') c.a (record {
      idle = idles m c fine (rw k) f l' y;
      like = likes m c fine (rw k) f l' y;
      sender' = senders m c fine (rw k) f l' y refl;
      there = f.there';
      conversation = any_conversation _ _ e';
      side = end_side c.party (look c.a (live m));
      end = any_end_lem _ _ e';
      sender = sender_side c.party _ (rw i at (and_l (is_sender c.party (link_of m c.a)) _ h));
    })))
    (λ _. refused unread_full refl fine))
    (λ _. refused not_allowed_now refl fine))))
    (λ _. refused timed_out refl fine))
    (λ _. refused bad_argument refl fine))
    (λ _. refused no_such_end refl fine)

-- ---- 18 receive
module _ (m : Monitor) (c : Call) (fine : Fine m) (k : c.kind ≡ 18) (f : Found m c.a) (e : any_end c.party (look c.a (live m)) ≡ true) where
  given_moved : Moved m c
      (replied (changed m c.a (without_oldest (link_of m c.a) (end_side c.party (link_of m c.a)) 0)) tpe_event 32 (get_or (link_of m c.a).unread 0 0))
  given_moved =
      let i = f.is in
      let l' = without_oldest (link_of m c.a) (end_side c.party (link_of m c.a)) 0 in
      let y = without_oldest_like (link_of m c.a) (end_side c.party (link_of m c.a)) 0 (λ _. side_small c.party (link_of m c.a)) (λ _. refl) in
      like_moved m c fine (rw k) f l' y tpe_event 32 (get_or (link_of m c.a).unread 0 0) (given c.a) (says_given c _ k refl refl refl)
      (Move.grants (changed_kept m c c.a l') c.a (record {
        idle = idles m c fine (rw k) f l' y;
        like = likes m c fine (rw k) f l' y;
        others = λ d n. ap (λ x. x.sender) (changed_other m fine.frame c.a f.there' l' f.number d n);
        there = f.there';
        conversation = any_conversation _ _ e;
        side = end_side c.party (look c.a (live m));
        end = any_end_lem _ _ e;
        sender = ap (λ x. x.sender) (changed_same m fine.frame c.a f.there' l' f.number) ∙ ap (end_side c.party) i;
      }))

  oldest_moved : Moved m c
      (replied (changed m c.a (without_oldest (link_of m c.a) (link_of m c.a).sender (link_of m c.a).granting)) tp_accepted 0 (get_or (link_of m c.a).unread 0 0))
  oldest_moved =
      let l' = without_oldest (link_of m c.a) (link_of m c.a).sender (link_of m c.a).granting in
      let y = without_oldest_like (link_of m c.a) (link_of m c.a).sender (link_of m c.a).granting (λ h. h.sender) (λ h. h.granting) in
      like_moved m c fine (rw k) f l' y tp_accepted 0 (get_or (link_of m c.a).unread 0 0) nothing (says_received c _ k refl)
      (quiet_move m c fine (rw k) f l' y refl)

pub receive_moved : (m : Monitor) (c : Call) → Fine m → c.party < 16 → c.kind ≡ 18 → Moved m c (receive_of m c.party c.a)
unfolding receive_of receive_on received
receive_moved m c fine pb k =
    ask_moved (λ e. let f = found m fine.frame (any_end c.party) (any_end_fresh c.party) (any_end_none c.party) c.a e in
    let i = f.is in
    let e' : any_end c.party (look c.a (live m)) ≡ true = rw i at e in
    ask_moved (λ _.
    pick_moved (λ h. notified_moved m c fine (rw k) (rw k) f h) (λ _.
    pick_moved (λ h. hears_return_moved m c fine (rw k) (rw k) f h) (λ _.
    ask_moved (λ _. ask_moved (λ _. pick_moved (λ _. given_moved m c fine k f e') (λ _. oldest_moved m c fine k f e'))
    (λ _. refused nothing_unread refl fine))
    (λ _. refused not_allowed_now refl fine))))
    (λ _. refused timed_out refl fine))
    (λ _. refused no_such_end refl fine)

-- ---- 19 disconnect
-- the link's transaction becomes rollback-only, and the link goes or is disconnected
module _ (m : Monitor) (c : Call) (fine : Fine m) (k : c.kind ≡ 19) (was : is_attached (look c.a (live m)) ≡ true) (th : Nz (look c.a (live m)).number)
    (m' : Monitor) (ps : m'.parties ≡ rollback_only_in (look c.a (live m)).tx m.parties) where
  marks : (q : ℕ) → Marks (party m q) (party m' q)
  marks q = rw ps (rollback_only_in_either (look c.a (live m)).tx (Marks (party m q)) q m.parties (plain refl) (marked refl))

  stays : (q : ℕ) → Stays (party m q) (party m' q)
  stays q = marks_stay _ _ (marks q)

  disconnects_moved : Frame m' → m'.clock ≡ m.clock → KeptTo m c m' → Left (look c.a (live m)) (look c.a (live m'))
      → (is_working (look c.a (live m)) ≡ true → is_working (look c.a (live m')) ≡ true)
      → ((e : ℕ) → same e c.a ≡ false → look e (live m') ≡ look e (live m))
      → Moved m c (valued m' 0)
  disconnects_moved fr ck kept left works others =
      moved_stays m c (valued m' 0) (disconnected c.a) fr ck stays (λ _ q. marks_rights _ _ (marks q)) (λ q. marks_good _ _ (marks q)) (time_kept c _ _ 19 k refl) (says_disconnected c _ k refl)
      (Move.disconnects kept c.a (record {
        was = was;
        there = th;
        fade = left;
        fade_works = works;
        others = others;
        owned' = λ q. (stays q).owned';
        served' = λ q. (stays q).served';
        hit = λ u q n e. rw (ps, rollback_only_in_hit (look c.a (live m)).tx n q m.parties e (λ r y. u r q (rw y n) (y ∙ sym e)));
        miss =
            λ q n. ap (λ (x : List Party). (get_or x q fresh_party).rollbackonly) ps
            ∙ ap (λ x. x.rollbackonly) (rollback_only_in_miss (look c.a (live m)).tx q m.parties n);
        unowned =
            λ q e. ap (λ (x : List Party). (get_or x q fresh_party).rollbackonly) ps
            ∙ ap (λ x. x.rollbackonly) (rollback_only_in_free (look c.a (live m)).tx q m.parties e);
      }))

pub disconnect_moved : (m : Monitor) (c : Call) → Fine m → c.party < 16 → c.kind ≡ 19 → Moved m c (disconnect_of m c.party c.a)
unfolding disconnect_of disconnected_at
disconnect_moved m c fine pb k =
    ask_moved (λ e. let f = found m fine.frame (originator_end c.party) (originator_end_fresh c.party) (originator_end_none c.party) c.a e in
    let i = f.is in
    let o = originator_end_lem c.party (look c.a (live m)) (rw i at e) in
    let t = (link_of m c.a).tx in
    let fr₁ = parties_frame m fine.frame (rollback_only_in t m.parties) (rollback_only_in_length t m.parties ∙ fine.frame.shape.parties16) in
    let it : rollback_only_in t m.parties ≡ rollback_only_in (look c.a (live m)).tx m.parties = ap (λ x. rollback_only_in x.tx m.parties) i in
    by_test (λ (x : Monitor). Moved m c (valued x 0))
    (λ w. let l' = disconnected_link (link_of m c.a) in
    let s = changed_same (rollback_only_tx m t) fr₁ c.a f.there' l' f.number in
    disconnects_moved m c fine k o.attached f.there' (changed (rollback_only_tx m t) c.a l') (changed_parties (rollback_only_tx m t) c.a l' ∙ it)
    (changed_frame (rollback_only_tx m t) fr₁ c.a f.there' l' f.number) (changed_clock (rollback_only_tx m t) c.a l')
    (record { link = changed_lastlink (rollback_only_tx m t) c.a l'; tx = changed_lasttx (rollback_only_tx m t) c.a l' })
    (rw (s, i) (disconnected_link_left _)) (λ y. rw (s, i) y) (changed_other (rollback_only_tx m t) fr₁ c.a f.there' l' f.number))
    (λ w. disconnects_moved m c fine k o.attached f.there' (removed (rollback_only_tx m t) c.a) (removed_parties (rollback_only_tx m t) c.a ∙ it)
    (removed_frame (rollback_only_tx m t) fr₁ c.a) (removed_clock (rollback_only_tx m t) c.a)
    (record { link = removed_lastlink (rollback_only_tx m t) c.a; tx = removed_lasttx (rollback_only_tx m t) c.a })
    (Left.gone (removed_same (rollback_only_tx m t) fr₁ c.a)) (λ y. not_both y (rw i at w)) (removed_other (rollback_only_tx m t) fr₁ c.a)))
    (λ _. refused no_such_end refl fine)
