-- Outcomes of returns in one table: each list of calls, run on a fresh monitor, ends with the answer that it says.
-- Assumes nothing.
use Rattle.std.proofs.Common.{◌≡◌, refl, Bool, true, ◌&&◌, List, [], ◌∷◌, ◌++◌, ℕ, ◌-◌, ◌<◌, ℤ, pos, negsuc, length, get_or, drop}
use Rattle.rules.specs.Choice.{pick, same}
use Rattle.rules.specs.Lists.{first_of, any_of, collect}
use Rattle.rules.specs.Record.{blanks, numbered, owns, own_end, link_of, changed, gone_of, removed}
use Rattle.rules.specs.Transaction.{served_tx, tx_of, ended, expired, lost, is_owner, rollback_only_in, deadline_of, begin_tx, orphaned, end_of, end_tx, is_open_of, can_commit}
use Rattle.rules.specs.States.{state_of, next_of, in_state, entered}
use Rattle.rules.specs.Tx.{open_of, begin_of, info_of, go_on, commit_of, rollback_of, control_of, timeout_of}
use Rattle.rules.specs.Votes.{report_is, decides, some_committed, some_rolled_back, vote_code, code_after, commit_code, all_can_start}
use Rattle.rules.specs.Services.{in_set, offers, may_request, may_advertise, count_to, offered, with_service, offers_now, advertise_of}
use Rattle.rules.specs.Requests.{link_tx, ask_link, request_of, connect_of, is_idle, fits, dispatched, dispatch_of}
use Rattle.rules.specs.Replies.{request_end, expired_end, replied_end, outcome_code, fetched, fetch_one, fetch_any, fetch_of}
use Rattle.rules.specs.Conversations.{originator_end, server_end, any_end, hears_disconnect, hears_return, end_side, is_sender}
use Rattle.rules.specs.Conversations.{tells_disconnect, tells_return, send_on, send_of, carries_grant, received, receive_on, receive_of}
use Rattle.rules.specs.Conversations.{disconnected_at, disconnect_of}
use Rattle.rules.specs.Return.{plain_outcome, outcome_of, unread_after, close_end, rollback_only_by, close_own, end_own, rollback_only_served}
use Rattle.rules.specs.Return.{serves_none, ending_of, hand_back, leave, return_with, return_of, died_out, terminate_of}
use Rattle.rules.specs.Sound.{reports_good, links_good, works_for, party_good, parties_good, sound}
use Rattle.rules.specs.Step.{rule_of, later_of, answered_to, call_of}
use Rattle.rules.specs.Run.{call_at, places_of, ran_of, answers_of, list_of}
use Rattle.rules.specs.History.{same_code}
use Rattle.rules.proofs.Marked.{call, by, opens, timed, requests, takes, returns, fetches, fetches_any, offered1, drilled}
use Rattle.rules.proofs.Tables.{every, entry, same_places, same_places_lem}
use Rattle.rules.proofs.AnswerCodes.{same_code_lem}
use Rattle.rules.proofs.Logic.{and_l, and_r}

-- Calls as numbers, six to each, and the last one's answer, all six numbers.
pub record Case : Type 0 where
  pub calls : List ℕ
  pub answer : List ℤ

abbrev case : List ℕ → ℤ → (value event token tx : ℕ) → Case
case cs code value event token tx = record { calls = cs; answer = code ∷ pos value ∷ pos event ∷ pos token ∷ pos 0 ∷ pos tx ∷ [] }

-- a return, or a fall: accepted, with this value
abbrev outcome : List ℕ → ℕ → Case
outcome cs v = case cs (pos 0) v 0 0 0

-- party 0, in transaction 1, fetches: this code and token; it receives or sends: this code, event and token
abbrev replied : List ℕ → ℤ → ℕ → Case
replied cs code token = case cs code 0 0 token 1

abbrev heard : List ℕ → ℤ → ℕ → ℕ → Case
heard cs code event token = case cs code 0 event token 1

-- party p returns failure; a call of party 1's at t that returns success
abbrev fails : ℕ → List ℕ
fails p = by p 20 2 0 7

abbrev returns_at : ℕ → List ℕ
returns_at t = t ∷ 1 ∷ 20 ∷ 1 ∷ 0 ∷ 7 ∷ []

-- party p connects to service 1, to send, and disconnects that link, d: its transaction can only be rolled back then
abbrev hangs_up : ℕ → ℕ → List ℕ
hangs_up p d = by p 13 1 4 7 ++ by p 19 d 0 0

-- party 1 offers service 1, party 2 service 2; party 0 is in a transaction
abbrev booking : List ℕ → List ℕ
booking cs = offered1 (by 2 1 0 0 0 ++ by 2 10 2 0 0 ++ opens ++ by 0 3 0 0 0 ++ cs)

-- it has requested both, link 1 of service 1 and link 2, and both are at work
abbrev two : List ℕ → List ℕ
two cs = booking (requests 0 1 ++ requests 0 2 ++ takes 1 ++ takes 2 ++ cs)

-- it has requested service 2 as link 1, and connects to service 1 as link 2, to send or to receive; both are at work
abbrev telling : List ℕ → List ℕ
telling cs = booking (requests 0 2 ++ by 0 13 1 4 7 ++ takes 1 ++ takes 2 ++ cs)

abbrev hearing : List ℕ → List ℕ
hearing cs = booking (requests 0 2 ++ by 0 13 1 8 7 ++ takes 1 ++ takes 2 ++ cs)

-- and the server of link 2 has sent; party 0 receives on it
abbrev talking : List ℕ → List ℕ
talking cs = hearing (by 1 17 2 0 7 ++ cs)

abbrev hears : List ℕ
hears = by 0 18 2 0 0

-- in a transaction with timeout 10 that begins at 5, a request of service 1 is at work
abbrev timed_one : List ℕ → List ℕ
timed_one cs = offered1 (timed (requests 0 1 ++ takes 1 ++ cs))

-- party 3 is in a transaction too, the newer one, and has requested service 2, party 0 service 1
abbrev two_owners : List ℕ → List ℕ
two_owners cs = booking (by 3 1 0 0 0 ++ by 3 3 0 0 0 ++ requests 0 1 ++ requests 3 2 ++ takes 1 ++ takes 2 ++ cs)

abbrev pub outcomes : List Case
outcomes =
    -- nothing is against the transaction
    outcome (two (returns 1 ++ returns 2)) 8
    -- the other service failed, and its reply is not fetched; or is
    ∷ outcome (two (fails 1 ++ returns 2)) 2
    ∷ outcome (two (fails 1 ++ fetches 0 ++ returns 2)) 2
    -- it died
    ∷ outcome (two (by 1 21 0 0 0 ++ returns 2)) 2
    -- a conversation of the transaction was disconnected
    ∷ outcome (booking (requests 0 2 ++ takes 2 ++ hangs_up 0 2 ++ returns 2)) 2
    -- without a token
    ∷ outcome (two (fails 1 ++ by 2 20 1 0 0)) 2
    -- requested by a service that is at work, or that has returned since, so that nobody hears it
    ∷ outcome (booking (requests 0 1 ++ takes 1 ++ requests 1 2 ++ takes 2 ++ hangs_up 0 3 ++ returns 2)) 2
    ∷ outcome (booking (requests 0 1 ++ takes 1 ++ requests 1 2 ++ returns 1 ++ takes 2 ++ returns 2)) 2
    -- a failure stays one, and a death an error; what is neither success nor failure is refused
    ∷ outcome (two (fails 1 ++ fails 2)) 4
    ∷ outcome (two (fails 1 ++ by 2 21 0 0 0)) 2
    ∷ case (two (fails 1 ++ by 2 20 3 0 7)) (pos 22) 0 0 0 1
    -- the reply, by its number and whichever is there; the failed one's, and that of one that died
    ∷ replied (two (fails 1 ++ returns 2 ++ by 0 15 2 0 0)) (pos 31) 0
    ∷ case (two (fails 1 ++ returns 2 ++ fetches_any 0 ++ fetches_any 0)) (pos 31) 2 0 0 1
    ∷ replied (two (fails 1 ++ returns 2 ++ fetches 0)) (pos 30) 7
    ∷ replied (two (fails 1 ++ by 2 21 0 0 0 ++ by 0 15 2 0 0)) (pos 31) 0
    -- a success told before is fetched as one
    ∷ replied (two (returns 1 ++ fails 2 ++ fetches 0)) (pos 0) 7
    -- the commit
    ∷ case (two (fails 1 ++ returns 2 ++ fetches 0 ++ by 0 15 2 0 0 ++ by 0 4 0 0 0)) (negsuc 1) 0 0 0 0
    ∷ case (two (returns 1 ++ returns 2 ++ fetches 0 ++ by 0 15 2 0 0 ++ by 0 4 0 0 0)) (pos 0) 0 0 0 0
    -- a link of no transaction, whose originator's can only be rolled back, or is expired
    ∷ outcome (booking (requests 0 1 ++ by 0 12 2 2 7 ++ takes 1 ++ takes 2 ++ fails 1 ++ returns 2)) 8
    ∷ outcome (offered1 (timed (by 0 12 1 2 7 ++ takes 1 ++ returns_at 15))) 8
    -- a transaction that has ended, lost before, or by its deadline; and where its owner is in another one, which is lost
    ∷ outcome (two (fails 1 ++ by 0 5 0 0 0 ++ returns 2)) 8
    ∷ outcome (timed_one (call 15 5 0 0 0 ++ returns_at 15)) 8
    ∷ outcome (two (by 0 8 1 0 0 ++ by 0 5 0 0 0 ++ hangs_up 0 3 ++ returns 2)) 8
    -- of two transactions the older one is lost
    ∷ outcome (two_owners (hangs_up 0 3 ++ returns 1)) 2
    ∷ outcome (two_owners (hangs_up 0 3 ++ returns 2)) 8
    -- its owner is not party 0
    ∷ outcome (offered1 (by 2 1 0 0 0 ++ by 2 3 0 0 0 ++ requests 2 1 ++ hangs_up 2 2 ++ takes 1 ++ returns 1)) 2
    -- an expired one: by the call's clock, or by an earlier call's; its owner's timeout is another by then
    ∷ outcome (timed_one (returns_at 14)) 8
    ∷ outcome (timed_one (returns_at 15)) 2
    ∷ outcome (timed_one (call 15 6 0 0 0 ++ returns_at 3)) 2
    ∷ outcome (timed_one (call 5 9 0 0 0 ++ returns_at 15)) 2
    -- in an expired one the fetch is 28 first
    ∷ replied (timed_one (returns_at 15 ++ call 15 15 1 0 0)) (pos 28) 0
    -- a conversation, with something unread and without
    ∷ outcome (talking (returns 1)) 8
    ∷ outcome (talking (fails 2 ++ returns 1)) 2
    ∷ outcome (talking (fails 2 ++ fails 1)) 4
    ∷ outcome (hearing (fails 2 ++ returns 1)) 2
    -- one in an expired transaction
    ∷ outcome (offered1 (timed (by 0 13 1 8 7 ++ takes 1 ++ returns_at 14))) 8
    ∷ outcome (offered1 (timed (by 0 13 1 8 7 ++ takes 1 ++ returns_at 15))) 2
    -- one whose server does not send: success is an error in any transaction, and failure stays one without a token
    ∷ outcome (telling (returns 1)) 2
    ∷ outcome (telling (fails 2 ++ returns 1)) 2
    ∷ outcome (telling (fails 2 ++ by 1 20 2 0 0)) 4
    -- unread goes with it, and the originator hears it at once, as it receives and as it sends
    ∷ heard (talking (fails 2 ++ returns 1 ++ hears)) (pos 29) 2 0
    ∷ heard (talking (fails 2 ++ returns 1 ++ by 0 17 2 0 7)) (pos 29) 2 0
    -- with another outcome unread stays; a success told before is heard as one
    ∷ heard (talking (returns 1 ++ hears)) (pos 0) 0 7
    ∷ heard (talking (by 1 20 1 0 9 ++ hears ++ hears)) (pos 29) 8 9
    ∷ heard (talking (by 1 20 1 0 9 ++ fails 2 ++ hears ++ hears)) (pos 29) 8 9
    ∷ heard (talking (fails 2 ++ fails 1 ++ hears)) (pos 0) 0 7
    -- with open ends of its own it is an error outside a transaction too
    ∷ outcome (offered1 (requests 0 1 ++ takes 1 ++ requests 1 1 ++ returns 1)) 2
    ∷ []

abbrev pub last_answer : List ℕ → List ℤ
last_answer cs = drop (length cs - 6) (drilled cs).places

-- What holds of a case.
pub record Ends (c : Case) : Type 0 where
  pub runs : (drilled c.calls).code ≡ pos 0
  pub answers : last_answer c.calls ≡ c.answer

-- ---- the test, and what it shows
unfoldable case_right : Case → Bool
case_right c = same_code (drilled c.calls).code (pos 0) && same_places (last_answer c.calls) c.answer

case_ends : (c : Case) → case_right c ≡ true → Ends c
unfolding case_right
case_ends c h = record {
  runs = same_code_lem _ _ (and_l _ _ h);
  answers = same_places_lem _ _ (and_r (same_code (drilled c.calls).code (pos 0)) _ h);
}

abbrev first_case : Case
first_case = outcome [] 0

pub outcomes_hold : (k : ℕ) → k < length outcomes → Ends (get_or outcomes k first_case)
unfolding every case_right same_places pick same first_of any_of collect blanks numbered owns own_end link_of changed gone_of removed served_tx tx_of ended
    expired lost is_owner rollback_only_in deadline_of begin_tx orphaned end_of end_tx is_open_of can_commit state_of next_of in_state entered open_of
    begin_of info_of go_on report_is decides some_committed some_rolled_back vote_code code_after commit_code all_can_start commit_of rollback_of control_of
    timeout_of in_set offers may_request may_advertise count_to offered with_service offers_now advertise_of link_tx ask_link request_of connect_of is_idle
    fits dispatched dispatch_of request_end expired_end replied_end outcome_code fetched fetch_one fetch_any fetch_of originator_end server_end any_end
    hears_disconnect hears_return end_side is_sender tells_disconnect tells_return send_on send_of carries_grant received receive_on receive_of
    disconnected_at disconnect_of plain_outcome outcome_of unread_after close_end rollback_only_by close_own end_own rollback_only_served serves_none
    ending_of hand_back leave return_with return_of died_out terminate_of reports_good links_good works_for party_good parties_good sound rule_of later_of
    answered_to call_of call_at places_of ran_of answers_of list_of
outcomes_hold k h = case_ends (get_or outcomes k first_case) (entry case_right first_case outcomes refl k h)
