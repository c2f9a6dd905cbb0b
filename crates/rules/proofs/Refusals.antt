-- A refused call changes nothing but the clock and tells nothing but its number, and 32, 36 and 37 come of their own kinds alone:
-- of every record, sound or not.
-- Assumes nothing.
use Rattle.std.proofs.Common.{◌≡◌, refl, sym, ap, ◌∙◌, Bool, true, false, not, ◌&&◌, ◌||◌, List, ℕ}
use Rattle.std.proofs.Common.{ne_eqb, eqb, leb, ℤ, pos, negsuc, rules}
use Rattle.std.proofs.Math.Bool.{or-true}
use Rattle.std.proofs.lemmas.Bool.{not-true}
use Rattle.rules.specs.Choice.{pick}
use Rattle.rules.specs.Codes.{tx_ok, tx_protocol_error, tx_error, tx_einval, no_begin, unsound, unknown_kind, unknown_party}
use Rattle.rules.specs.Codes.{bad_argument, not_allowed_now, no_such_end, not_offered, no_room_left, in_transaction}
use Rattle.rules.specs.Codes.{timed_out, nothing_waiting, no_reply_yet, nothing_unread, unread_full, bad_report, not_permitted}
use Rattle.rules.specs.Record.{link_of, ruled, ask}
use Rattle.rules.specs.Transaction.{served_tx, tx_of}
use Rattle.rules.specs.Tx.{open_of, close_of, begin_of, go_on, commit_of, rollback_of, info_of, commit_return_of, control_of, timeout_of}
use Rattle.rules.specs.Votes.{vote_code, commit_code, report_of}
use Rattle.rules.specs.Services.{offers_now, advertise_of, unadvertise_of}
use Rattle.rules.specs.Rights.{rights_of}
use Rattle.rules.specs.Requests.{ask_link, request_of, connect_of, dispatched, dispatch_of}
use Rattle.rules.specs.Replies.{outcome_code, fetched, fetch_one, fetch_any, fetch_of, cancel_of}
use Rattle.rules.specs.Conversations.{tells_disconnect, tells_return, send_on, send_of, received, receive_on, receive_of, disconnect_of}
use Rattle.rules.specs.Return.{return_with, return_of, terminate_of}
use Rattle.rules.specs.Step.{rule_of, is_kind, advanced, answered_to, turned_down, call_of, step_of}
use Rattle.rules.specs.Refusals.{is_refusal, is_early, is_outcome, NothingOf, Refused}
use Rattle.rules.specs.declared.Call.{Call}
use Rattle.rules.specs.declared.Monitor.{Monitor}
use Rattle.rules.specs.declared.Ruled.{Ruled}
use Rattle.rules.specs.declared.Stepped.{Stepped}
use Rattle.rules.proofs.Votes.{every_code, commit_code_test}
use Rattle.rules.proofs.Logic.{by_test, not_both, pick_true, pick_false, and_l, and_r}
use Rattle.rules.proofs.ByKind.{OfEachKind, by_kind}

-- the code of a call that was carried out: no refusal, and past question 21
abbrev is_carried : ℤ → Bool
is_carried z = is_outcome z && not (is_refusal z || is_early z)

-- can a call of kind k be answered by this code, as far as 32, 36 and 37 go
unfoldable can_answer : ℕ → ℤ → Bool
can_answer k (pos n) = (not (eqb n 32) || eqb k 14) && ((not (eqb n 36) || (eqb k 15 || eqb k 18)) && (not (eqb n 37) || eqb k 17))
can_answer k (negsuc n) = true

-- the code of a call of kind k that was refused past question 21
abbrev is_refusal_of : ℕ → ℤ → Bool
is_refusal_of k z = (is_refusal z && not (is_early z)) && can_answer k z

-- the rule of kind k, of the record m, is carried out, or refuses: with a number of its kind's past question 21, zeros, and the
-- record m
data Decided (k : ℕ) (m : Monitor) (r : Ruled) : Type 0 where
  does : is_carried r.code ≡ true → Decided k m r
  refuses : is_refusal_of k r.code ≡ true → r ≡ ruled m r.code → Decided k m r

-- ---- questions and other choices
asks : {k : ℕ} {m : Monitor} {b : Bool} {x y : Ruled} → (b ≡ true → Decided k m x) → (b ≡ false → Decided k m y) → Decided k m (pick b x y)
asks f g = by_test (Decided _ _) f g

no : {k : ℕ} {m : Monitor} (code : ℤ) → is_refusal_of k code ≡ true → Decided k m (ruled m code)
no code h = refuses h refl

-- ---- the kinds
-- the codes of a commit that was carried out, with and without a new transaction
commit_carried : (can : Bool) (rs : List ℕ) → is_carried (commit_code can rs) ≡ true
unfolding is_outcome is_refusal is_early every_code vote_code pick
commit_carried can rs = commit_code_test (λ z. is_carried z) refl can rs

no_begin_carried : (can : Bool) (rs : List ℕ) → is_carried (no_begin (commit_code can rs)) ≡ true
unfolding is_outcome is_refusal is_early every_code vote_code pick no_begin
no_begin_carried can rs = commit_code_test (λ z. is_carried (no_begin z)) refl can rs

reply_carried : (o : ℕ) → is_carried (outcome_code o) ≡ true
unfolding is_outcome is_refusal is_early outcome_code
reply_carried o = by_test (λ z. is_carried z ≡ true) (λ _. refl) (λ _. by_test (λ z. is_carried z ≡ true) (λ _. refl) (λ _. refl))

go_on_lem : {k : ℕ} (m m₀ : Monitor) (p next : ℕ) (start : Bool) (code : ℤ) → is_carried code ≡ true → is_carried (no_begin code) ≡ true
    → Decided k m (go_on m₀ p next start code)
unfolding go_on
go_on_lem m m₀ p next start code y n = asks (λ _. asks (λ _. does y) (λ _. does n)) (λ _. does y)

module _ (m : Monitor) (p : ℕ) where
  open_decided : Decided 1 m (open_of m p)
  unfolding open_of is_outcome is_refusal is_early can_answer
  open_decided = asks (λ _. does refl) (λ _. no tx_protocol_error refl)

  close_decided : Decided 2 m (close_of m p)
  unfolding close_of is_outcome is_refusal is_early can_answer
  close_decided = asks (λ _. does refl) (λ _. no tx_protocol_error refl)

  begin_decided : Decided 3 m (begin_of m p)
  unfolding begin_of is_outcome is_refusal is_early can_answer
  begin_decided = asks (λ _. asks (λ _. does refl) (λ _. no tx_error refl)) (λ _. no tx_protocol_error refl)

  commit_decided : Decided 4 m (commit_of m p)
  unfolding commit_of is_outcome is_refusal is_early can_answer
  commit_decided = asks (λ _. asks (λ _. go_on_lem m _ p _ _ _ (commit_carried _ _) (no_begin_carried _ _)) (λ _. no tx_protocol_error refl)) (λ _. no tx_protocol_error refl)

  rollback_decided : Decided 5 m (rollback_of m p)
  unfolding rollback_of is_outcome is_refusal is_early can_answer no_begin
  rollback_decided = asks (λ _. asks (λ _. go_on_lem m _ p _ _ tx_ok refl refl) (λ _. no tx_protocol_error refl)) (λ _. no tx_protocol_error refl)

  info_decided : Decided 6 m (info_of m p)
  unfolding info_of is_outcome is_refusal is_early can_answer
  info_decided = asks (λ _. asks (λ _. does refl) (λ _. does refl)) (λ _. no tx_protocol_error refl)

  offers_decided : {k : ℕ} (s : ℕ) → Decided k m (offers_now m p s)
  unfolding offers_now is_outcome is_refusal is_early
  offers_decided s = does refl

  dispatch_decided : Decided 14 m (dispatch_of m p)
  unfolding dispatch_of dispatched is_outcome is_refusal is_early can_answer
  dispatch_decided = asks (λ _. asks (λ _. does refl) (λ _. no nothing_waiting refl)) (λ _. no not_allowed_now refl)

  terminate_decided : Decided 21 m (terminate_of m p)
  unfolding terminate_of is_outcome is_refusal is_early
  terminate_decided = does refl

  module _ (a : ℕ) where
    commit_return_decided : Decided 7 m (commit_return_of m p a)
    unfolding commit_return_of is_outcome is_refusal is_early can_answer
    commit_return_decided = asks (λ _. asks (λ _. asks (λ _. does refl) (λ _. does refl)) (λ _. no tx_einval refl)) (λ _. no tx_protocol_error refl)

    control_decided : Decided 8 m (control_of m p a)
    unfolding control_of is_outcome is_refusal is_early can_answer
    control_decided = asks (λ _. asks (λ _. does refl) (λ _. no tx_einval refl)) (λ _. no tx_protocol_error refl)

    timeout_decided : Decided 9 m (timeout_of m p a)
    unfolding timeout_of is_outcome is_refusal is_early can_answer
    timeout_decided = asks (λ _. asks (λ _. does refl) (λ _. no tx_einval refl)) (λ _. no tx_protocol_error refl)

    advertise_decided : Decided 10 m (advertise_of m p a)
    unfolding advertise_of is_outcome is_refusal is_early can_answer
    advertise_decided = asks (λ _. asks (λ _. asks (λ _. offers_decided _) (λ _. no no_room_left refl)) (λ _. no not_permitted refl)) (λ _. no bad_argument refl)

    unadvertise_decided : Decided 11 m (unadvertise_of m p a)
    unfolding unadvertise_of is_outcome is_refusal is_early can_answer
    unadvertise_decided = asks (λ _. asks (λ _. offers_decided _) (λ _. no not_offered refl)) (λ _. no bad_argument refl)

    link_decided : {k : ℕ} (t : ℕ) {rest : Ruled} → Decided k m rest → Decided k m (ask_link m p t a rest)
    unfolding ask_link is_refusal is_early can_answer
    link_decided t d =
        asks (λ _. asks (λ _. asks (λ _. asks (λ _. asks (λ _. d)
        (λ _. no no_room_left refl)) (λ _. no not_offered refl)) (λ _. no timed_out refl)) (λ _. no not_allowed_now refl)) (λ _. no not_permitted refl)

    fetch_decided : (b : ℕ) → Decided 15 m (fetch_of m p a b)
    unfolding fetch_of fetch_any fetch_one fetched is_outcome is_refusal is_early can_answer
    fetch_decided b =
        asks (λ _. asks (λ _. either _ _ _ (does (reply_carried _))) (λ _. either _ _ _ (does (reply_carried _)))) (λ _. no bad_argument refl)
      where
        either : (x y z : Bool) {r : Ruled} → Decided 15 m r → Decided 15 m (ask m x no_such_end (ask m y timed_out (ask m z no_reply_yet r)))
        either x y z d = asks (λ _. asks (λ _. asks (λ _. d) (λ _. no no_reply_yet refl)) (λ _. no timed_out refl)) (λ _. no no_such_end refl)

    cancel_decided : Decided 16 m (cancel_of m p a)
    unfolding cancel_of is_outcome is_refusal is_early can_answer
    cancel_decided = asks (λ _. asks (λ _. does refl) (λ _. no in_transaction refl)) (λ _. no no_such_end refl)

    receive_decided : Decided 18 m (receive_of m p a)
    unfolding receive_of receive_on received tells_disconnect tells_return is_outcome is_refusal is_early can_answer
    receive_decided =
        asks (λ _. asks (λ _. asks (λ _. does refl) (λ _. asks (λ _. does refl)
        (λ _. asks (λ _. asks (λ _. asks (λ _. does refl) (λ _. does refl))
        (λ _. no nothing_unread refl)) (λ _. no not_allowed_now refl)))) (λ _. no timed_out refl)) (λ _. no no_such_end refl)

    disconnect_decided : Decided 19 m (disconnect_of m p a)
    unfolding disconnect_of is_outcome is_refusal is_early can_answer
    disconnect_decided = asks (λ _. does refl) (λ _. no no_such_end refl)

    return_decided : (c : ℕ) → Decided 20 m (return_of m p a c)
    unfolding return_of return_with is_outcome is_refusal is_early can_answer
    return_decided c = asks (λ _. asks (λ _. does refl) (λ _. no bad_argument refl)) (λ _. no not_allowed_now refl)

    module _ (b c : ℕ) where
      request_decided : Decided 12 m (request_of m p a b c)
      unfolding request_of is_outcome is_refusal is_early can_answer
      request_decided = asks (λ _. link_decided _ (does refl)) (λ _. no bad_argument refl)

      connect_decided : Decided 13 m (connect_of m p a b c)
      unfolding connect_of is_outcome is_refusal is_early can_answer
      connect_decided = asks (λ _. link_decided _ (does refl)) (λ _. no bad_argument refl)

      send_decided : Decided 17 m (send_of m p a b c)
      unfolding send_of send_on tells_disconnect tells_return is_outcome is_refusal is_early can_answer
      send_decided =
          asks (λ _. asks (λ _. asks (λ _. asks (λ _. does refl) (λ _. asks (λ _. does refl)
          (λ _. asks (λ _. asks (λ _. does refl)
          (λ _. no unread_full refl)) (λ _. no not_allowed_now refl)))) (λ _. no timed_out refl)) (λ _. no bad_argument refl)) (λ _. no no_such_end refl)

      report_decided : Decided 22 m (report_of m p a b c)
      unfolding report_of is_outcome is_refusal is_early can_answer
      report_decided = asks (λ _. asks (λ _. does refl) (λ _. no bad_report refl)) (λ _. no not_allowed_now refl)

      rights_decided : Decided 23 m (rights_of m p a b c)
      unfolding rights_of is_outcome is_refusal is_early can_answer
      rights_decided = asks (λ _. asks (λ _. does refl) (λ _. no bad_argument refl)) (λ _. no not_permitted refl)

      each_decided : (k : ℕ) → OfEachKind (Decided k m) m p k a b c
      each_decided k = record {
        on_open = λ e. rw e open_decided;
        on_close = λ e. rw e close_decided;
        on_begin = λ e. rw e begin_decided;
        on_commit = λ e. rw e commit_decided;
        on_rollback = λ e. rw e rollback_decided;
        on_info = λ e. rw e info_decided;
        on_commit_return = λ e. rw e commit_return_decided;
        on_control = λ e. rw e control_decided;
        on_timeout = λ e. rw e timeout_decided;
        on_advertise = λ e. rw e advertise_decided;
        on_unadvertise = λ e. rw e unadvertise_decided;
        on_request = λ e. rw e request_decided;
        on_connect = λ e. rw e connect_decided;
        on_dispatch = λ e. rw e dispatch_decided;
        on_fetch = λ e. rw e (fetch_decided b);
        on_cancel = λ e. rw e cancel_decided;
        on_send = λ e. rw e send_decided;
        on_receive = λ e. rw e receive_decided;
        on_disconnect = λ e. rw e disconnect_decided;
        on_return = λ e. rw e (return_decided c);
        on_terminate = λ e. rw e terminate_decided;
        on_report = λ e. rw e report_decided;
        on_rights = λ e. rw e rights_decided;
      }

-- ---- past question 21
carried_neither : (z : ℤ) → is_carried z ≡ true → (is_refusal z ≡ false) × (is_early z ≡ false)
carried_neither z f = search rules

decided_past : {k : ℕ} {m : Monitor} {r : Ruled} → Decided k m r → is_early r.code ≡ false
decided_past {k} {m} {r} (does f) = (carried_neither r.code f).1
decided_past {k} {m} {r} (refuses f e) = not-true _ (and_r (is_refusal r.code) _ (and_l _ _ f))

rule_decided : (m : Monitor) (p k a b c : ℕ) → is_kind k ≡ true → Decided k m (rule_of m p k a b c)
rule_decided m p k a b c h = by_kind (Decided k m) m p k a b c h (each_decided m p a b c k)

-- no kind's rule answers 19, 20 or 21
pub rule_past : (m : Monitor) (p k a b c : ℕ) → is_kind k ≡ true → is_early (rule_of m p k a b c).code ≡ false
rule_past m p k a b c h = decided_past (rule_decided m p k a b c h)

-- ---- a call
-- what each call gives: its code is a refusal's or that of a call that was carried out, and one that its kind can answer; and a
-- refusal is one
record Lawful (m : Monitor) (c : Call) (s : Stepped) : Type 0 where
  known : is_refusal s.answer.code || is_outcome s.answer.code ≡ true
  its_kind : can_answer c.kind s.answer.code ≡ true
  refused : is_refusal s.answer.code ≡ true → Refused m c s

-- what was carried out, any kind can answer
carried_any : (k : ℕ) (z : ℤ) → is_refusal z ≡ false → can_answer k z ≡ true
unfolding can_answer is_refusal
carried_any k (negsuc n) h = refl
carried_any k (pos n) h = rw (differs 32 refl, differs 36 refl, differs 37 refl)
  where
    differs : (i : ℕ) → is_refusal (pos i) ≡ true → eqb n i ≡ false
    differs i r = ne_eqb n i (λ e. not_both r (rw e at h))

told_lawful : (m : Monitor) (c : Call) (r : Ruled) → Decided c.kind (advanced m c.clock) r → Lawful m c (answered_to r c.party)
unfolding answered_to tx_of served_tx link_of
told_lawful m c r (does f) = record {
  known = rw (and_l (is_outcome r.code) _ f, or-true);
  its_kind = carried_any c.kind r.code (carried_neither r.code f).0;
  refused = λ y. not_both y (carried_neither r.code f).0;
}
told_lawful m c r (refuses f e) = record {
  known = rw (and_l (is_refusal r.code) _ (and_l _ _ f));
  its_kind = and_r (is_refusal r.code && not (is_early r.code)) _ f;
  refused = λ _. record {
    value = ap (λ (x : Ruled). x.value) e;
    event = ap (λ (x : Ruled). x.event) e;
    token = ap (λ (x : Ruled). x.token) e;
    service = ap (λ (x : Ruled). x.service) e;
    tx = ap (λ (x : Ruled). tx_of x.monitor c.party) e ∙ sym (pick_false _ 0 (tx_of m c.party) past);
    monitor = ap (λ (x : Ruled). x.monitor) e ∙ sym (pick_false _ m (advanced m c.clock) past);
  };
}
  where
    past : is_early r.code ≡ false
    past = decided_past (refuses f e)

turned_down_lawful : (m : Monitor) (c : Call) (code : ℤ) → is_refusal code ≡ true → is_early code ≡ true → can_answer c.kind code ≡ true
    → Lawful m c (turned_down m code)
unfolding turned_down
turned_down_lawful m c code y e k = record {
  known = rw y;
  its_kind = k;
  refused = λ _. record {
    value = refl;
    event = refl;
    token = refl;
    service = refl;
    tx = sym (pick_true _ 0 (tx_of m c.party) e);
    monitor = sym (pick_true _ m (advanced m c.clock) e);
  };
}

call_lawful : (m : Monitor) (c : Call) → Lawful m c (call_of m c)
unfolding call_of is_refusal is_early can_answer
call_lawful m c = by_test (Lawful m c)
    (λ k. by_test (Lawful m c)
    (λ _. told_lawful m c _ (rule_decided (advanced m c.clock) c.party c.kind c.a c.b c.c k))
    (λ _. turned_down_lawful m c unknown_party refl refl refl))
    (λ _. turned_down_lawful m c unknown_kind refl refl refl)

step_lawful : (m : Monitor) (c : Call) → Lawful m c (step_of m c)
unfolding step_of is_refusal is_early can_answer
step_lawful m c = by_test (Lawful m c) (λ _. call_lawful m c) (λ _. turned_down_lawful m c unsound refl refl refl)

-- every refusal, of every record, is what document 01 says of one
pub refusal_law : (m : Monitor) (c : Call) → is_refusal (step_of m c).answer.code ≡ true → Refused m c (step_of m c)
refusal_law m c = (step_lawful m c).refused

-- the same of a call inside a list
pub call_refusal_law : (m : Monitor) (c : Call) → is_refusal (call_of m c).answer.code ≡ true → Refused m c (call_of m c)
call_refusal_law m c = (call_lawful m c).refused

-- there is no other code than a refusal's and those of calls that were carried out
pub code_known : (m : Monitor) (c : Call) → is_refusal (step_of m c).answer.code || is_outcome (step_of m c).answer.code ≡ true
code_known m c = (step_lawful m c).known

nothing_of : (k : ℕ) (z : ℤ) → can_answer k z ≡ true → NothingOf k z
unfolding can_answer
nothing_of k z h = search rules

-- 32 is answered by kind 14 alone, 36 by kinds 15 and 18, 37 by kind 17: of every record and call
pub nothing_by_kind : (m : Monitor) (c : Call) → NothingOf c.kind (step_of m c).answer.code
nothing_by_kind m c = nothing_of _ _ (step_lawful m c).its_kind

-- the same of a call inside a list
pub call_nothing_by_kind : (m : Monitor) (c : Call) → NothingOf c.kind (call_of m c).answer.code
call_nothing_by_kind m c = nothing_of _ _ (call_lawful m c).its_kind

-- document 02's numbers for refusals
pub later_refusals : (n : ℕ) → leb 33 n ≡ true → leb n 39 ≡ true → is_refusal (pos n) ≡ true
unfolding is_refusal
later_refusals n h k = search rules
