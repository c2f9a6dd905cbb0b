-- The walk over kinds 15 and 16: replies fetched and given up.
-- Assumes nothing.
use Rattle.std.proofs.Common.{◌≡◌, refl, sym, true, false, cond, ℕ, ◌<◌, eqb, get_or, eqb-true, ltb-true}
use Rattle.rules.specs.Codes.{bad_argument, no_such_end, in_transaction, timed_out, no_reply_yet}
use Rattle.rules.specs.Record.{fresh_link, is_attached, is_request, is_returned, own_end, live, link_of}
use Rattle.rules.specs.Record.{changed, removed, closed, valued}
use Rattle.rules.specs.Replies.{request_end, outcome_code, fetched, fetch_one, replied_end, next_reply, fetch_any, fetch_of}
use Rattle.rules.specs.Replies.{cancelled, cancel_of}
use Rattle.rules.specs.declared.Call.{Call}
use Rattle.rules.specs.declared.Link.{Link}
use Rattle.rules.specs.declared.Monitor.{Monitor}
use Rattle.rules.proofs.Logic.{by_test, not_both, same_true, and_l, and_r, Nz}
use Rattle.rules.proofs.Fine.{no_link, look, Fine}
use Rattle.rules.proofs.Changes.{first_fits, first_look, first_there, changed_clock}
use Rattle.rules.proofs.Changes.{changed_parties, changed_same, changed_other, changed_frame, removed_same}
use Rattle.rules.proofs.Changes.{removed_other, removed_frame, removed_parties, removed_clock}
use Rattle.rules.proofs.History.Tells.{nothing}
use Rattle.rules.proofs.History.Moves.{Left, Move}
use Rattle.rules.proofs.History.Walk.Moved.{Moved}
use Rattle.rules.proofs.History.Walk.Says.{is_fetched, says_fetched, says_cancelled, time_kept}
use Rattle.rules.proofs.History.Walk.Base.{ask_moved, refused, idle_parties, moved_links}
use Rattle.rules.proofs.History.Walk.LinkChanges.{returned_rests, closed_left}
use Rattle.rules.proofs.History.Walk.Requests.{found, changed_kept, removed_kept, finish_moved}

-- ---- an open request end
request_end_fresh : (p : ℕ) → request_end p fresh_link ≡ false
unfolding request_end own_end
request_end_fresh p = refl

pub request_end_none : (p : ℕ) → request_end p no_link ≡ false
unfolding request_end own_end no_link
request_end_none p = refl

pub request_attached : (p : ℕ) (l : Link) → request_end p l ≡ true → is_attached l ≡ true
unfolding request_end own_end
request_attached p l e = and_l _ _ (and_r (is_request l) _ e)

request_originator : (p : ℕ) (l : Link) → request_end p l ≡ true → l.originator ≡ p
unfolding request_end own_end
request_originator p l e = same_true _ _ (and_r (is_attached l) _ (and_r (is_request l) _ e))

-- ---- 15 fetch
outcome_fetched : (o : ℕ) → is_fetched (outcome_code o) ≡ true
unfolding outcome_code
outcome_fetched o = by_test (λ z. is_fetched z ≡ true) (λ _. refl) (λ _. by_test (λ z. is_fetched z ≡ true) (λ _. refl) (λ _. refl))

-- an open request end with its reply there
pub replied_end_lem : (p : ℕ) (l : Link) → replied_end p l ≡ true → request_end p l ≡ true
unfolding replied_end
replied_end_lem p l e = and_l _ _ e

pub replied_returned : (p : ℕ) (l : Link) → replied_end p l ≡ true → is_returned l ≡ true
unfolding replied_end
replied_returned p l e = and_r (request_end p l) _ e

module _ (m : Monitor) (c : Call) (fine : Fine m) (k : c.kind ≡ 15) where
  -- the reply of link d is taken, which l is, with the value v
  reply_moved : (d v : ℕ) (l : Link) → l ≡ look d (live m) → Nz (look d (live m)).number → request_end c.party l ≡ true → is_returned l ≡ true
      → cond (eqb c.b 1) v c.a ≡ d → Moved m c (fetched m d l v)
  unfolding fetched
  reply_moved d v l i th e r on =
      finish_moved m c fine (rw k) d (fetched m d l v) refl (says_fetched c _ k (outcome_fetched l.outcome) d on) th
      (request_originator c.party _ (rw i at e)) (returned_rests (look d (live m)) (rw i at r))

  one_moved : eqb c.b 1 ≡ false → Moved m c (fetch_one m c.party c.a)
  unfolding fetch_one
  one_moved z =
      ask_moved (λ e. let f = found m fine.frame (request_end c.party) (request_end_fresh c.party) (request_end_none c.party) c.a e in
      ask_moved (λ _. ask_moved
      (λ r. reply_moved c.a 0 (link_of m c.a) f.is f.there' e r (rw z))
      (λ _. refused no_reply_yet refl fine))
      (λ _. refused timed_out refl fine))
      (λ _. refused no_such_end refl fine)

  any_moved : eqb c.b 1 ≡ true → Moved m c (fetch_any m c.party)
  unfolding fetch_any
  any_moved o =
      ask_moved (λ _. ask_moved (λ _. ask_moved
      (λ h. let f = replied_end c.party in
      let room = ltb-true _ _ h in
      let l = get_or (live m) (next_reply m c.party) fresh_link in
      let is = first_look m fine.frame f room in
      let fit = first_fits m fine.frame f room in
      reply_moved l.number l.number l (sym is) (rw is (first_there m fine.frame f room)) (replied_end_lem c.party l fit) (replied_returned c.party l fit) (rw o))
      (λ _. refused no_reply_yet refl fine))
      (λ _. refused timed_out refl fine))
      (λ _. refused no_such_end refl fine)

pub fetch_moved : (m : Monitor) (c : Call) → Fine m → c.party < 16 → c.kind ≡ 15 → Moved m c (fetch_of m c.party c.a c.b)
unfolding fetch_of
fetch_moved m c fine pb k = ask_moved (λ _. by_test (Moved m c) (any_moved m c fine k) (one_moved m c fine k)) (λ _. refused bad_argument refl fine)

-- ---- 16 cancel
pub cancel_moved : (m : Monitor) (c : Call) → Fine m → c.party < 16 → c.kind ≡ 16 → Moved m c (cancel_of m c.party c.a)
unfolding cancel_of cancelled
cancel_moved m c fine pb k =
    ask_moved (λ e. let f = found m fine.frame (request_end c.party) (request_end_fresh c.party) (request_end_none c.party) c.a e in
    let i = f.is in
    let o = request_attached c.party (look c.a (live m)) (rw i at e) in
    ask_moved (λ t. let z : (look c.a (live m)).tx ≡ 0 = eqb-true _ 0 (rw i at t) in
    by_test (λ (x : Monitor). Moved m c (valued x 0))
    (λ r. moved_links m c _ nothing (removed_frame m fine.frame c.a) (removed_clock m c.a) (removed_parties m c.a)
    (time_kept c _ _ 16 k refl) (says_cancelled c _ k refl)
    (Move.cancels (removed_kept m c c.a) c.a (record {
      idle = idle_parties m (removed m c.a) (removed_parties m c.a);
      was = o;
      there = f.there';
      no_tx = z;
      fade = Left.gone (removed_same m fine.frame c.a);
      fade_works = λ w. not_both w (returned_rests (look c.a (live m)) (rw i at r));
      others = removed_other m fine.frame c.a;
    })))
    (λ r. let s = changed_same m fine.frame c.a f.there' (closed (link_of m c.a)) f.number in
    moved_links m c _ nothing (changed_frame m fine.frame c.a f.there' _ f.number) (changed_clock m c.a _) (changed_parties m c.a _)
    (time_kept c _ _ 16 k refl) (says_cancelled c _ k refl)
    (Move.cancels (changed_kept m c c.a _) c.a (record {
      idle = idle_parties m (changed m c.a (closed (link_of m c.a))) (changed_parties m c.a _);
      was = o;
      there = f.there';
      no_tx = z;
      fade = rw (s, i) (closed_left _);
      fade_works = λ w. rw (s, i) w;
      others = changed_other m fine.frame c.a f.there' _ f.number;
    }))))
    (λ _. refused in_transaction refl fine))
    (λ _. refused no_such_end refl fine)
