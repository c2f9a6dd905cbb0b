-- Three ways to have nothing in one table: each list of calls, run on a fresh monitor, ends as it says.
-- Assumes nothing.
use Rattle.std.proofs.Common.{refl, List, [], ◌∷◌, ◌++◌, ℕ, ◌<◌, pos, length, get_or}
use Rattle.rules.specs.Choice.{pick, same}
use Rattle.rules.specs.Lists.{first_of, any_of, collect}
use Rattle.rules.specs.Record.{numbered, owns, own_end, link_of, changed, gone_of, removed}
use Rattle.rules.specs.Transaction.{served_tx, tx_of, ended, expired, lost, deadline_of, begin_tx}
use Rattle.rules.specs.States.{state_of, next_of, in_state, entered}
use Rattle.rules.specs.Tx.{open_of, begin_of, timeout_of}
use Rattle.rules.specs.Services.{in_set, offers, may_request, may_advertise, count_to, offered, with_service, offers_now, advertise_of}
use Rattle.rules.specs.Requests.{link_tx, ask_link, request_of, connect_of, is_idle, fits, dispatched, dispatch_of}
use Rattle.rules.specs.Replies.{request_end, expired_end, replied_end, outcome_code, fetched, fetch_one, fetch_any, fetch_of}
use Rattle.rules.specs.Conversations.{originator_end, server_end, any_end, hears_disconnect, hears_return, end_side, is_sender}
use Rattle.rules.specs.Conversations.{tells_disconnect, tells_return, send_on, send_of, carries_grant, received, receive_on, receive_of}
use Rattle.rules.specs.Conversations.{disconnected_at, disconnect_of}
use Rattle.rules.specs.Return.{plain_outcome, outcome_of, unread_after, close_end, rollback_only_by, close_own, end_own, rollback_only_served}
use Rattle.rules.specs.Return.{serves_none, hand_back, leave, return_with, return_of}
use Rattle.rules.specs.Sound.{reports_good, links_good, party_good, parties_good, sound}
use Rattle.rules.specs.Step.{rule_of, later_of, answered_to, call_of}
use Rattle.rules.specs.Run.{call_at, places_of, ran_of, answers_of, list_of}
use Rattle.rules.proofs.Marked.{Example, Holds, call, by, ends, timed, sends, requests, takes, returns, fetches, fetches_any, receives, offered1, fresh_begin, right, holds_right}
use Rattle.rules.proofs.Tables.{every, entry}

-- party 0 connects to service 1 as link 1, to send or to receive, and party 1 takes it
abbrev sending : List ℕ → List ℕ
sending cs = offered1 (by 0 13 1 4 7 ++ takes 1 ++ cs)

abbrev receiving : List ℕ → List ℕ
receiving cs = offered1 (by 0 13 1 8 7 ++ takes 1 ++ cs)

-- party p sends on link 1 four times
abbrev fills : ℕ → List ℕ
fills p = sends p ++ sends p ++ sends p ++ sends p

abbrev pub nothing : List Example
nothing =
    -- an empty take: nothing waits, what waits is no service of the caller's, or it is taken
    ends (offered1 (takes 1)) (pos 32) 0
    ∷ ends (offered1 (requests 0 1 ++ by 2 1 0 0 0 ++ takes 2)) (pos 32) 0
    ∷ ends (offered1 (requests 0 1 ++ takes 1 ++ by 2 1 0 0 0 ++ by 2 10 1 0 0 ++ takes 2)) (pos 32) 0
    -- it raises the clock
    ∷ ends (offered1 (7 ∷ 1 ∷ 14 ∷ 0 ∷ 0 ∷ 0 ∷ [])) (pos 32) 7
    -- something is there: behind a link that does not fit, beside one at work, without a reply, and in an expired transaction
    ∷ ends (offered1 (by 2 10 2 0 0 ++ requests 0 2 ++ requests 0 1 ++ takes 1)) (pos 0) 0
    ∷ ends (offered1 (requests 0 1 ++ requests 0 1 ++ takes 1 ++ by 2 1 0 0 0 ++ by 2 10 1 0 0 ++ takes 2)) (pos 0) 0
    ∷ ends (offered1 (by 0 12 1 1 7 ++ takes 1)) (pos 0) 0
    ∷ ends (offered1 (timed (requests 0 1 ++ 15 ∷ 1 ∷ 14 ∷ 0 ∷ 0 ∷ 0 ∷ []))) (pos 0) 15
    -- after 23
    ∷ ends (takes 1) (pos 23) 0
    -- a fetch whose request waits, or is served; of either form
    ∷ ends (offered1 (requests 0 1 ++ fetches 0)) (pos 36) 0
    ∷ ends (offered1 (requests 0 1 ++ takes 1 ++ fetches 0)) (pos 36) 0
    ∷ ends (offered1 (requests 0 1 ++ fetches_any 0)) (pos 36) 0
    ∷ ends (offered1 (requests 0 1 ++ takes 1 ++ fetches_any 0)) (pos 36) 0
    -- once it has returned, no more
    ∷ ends (offered1 (requests 0 1 ++ takes 1 ++ fetches 0 ++ returns 1 ++ fetches 0)) (pos 0) 0
    ∷ ends (offered1 (requests 0 1 ++ takes 1 ++ fetches_any 0 ++ returns 1 ++ fetches_any 0)) (pos 0) 0
    -- another one has returned: of the caller's, and of another party's
    ∷ ends (offered1 (requests 0 1 ++ requests 0 1 ++ takes 1 ++ returns 1 ++ by 0 15 2 0 0)) (pos 36) 0
    ∷ ends (offered1 (requests 0 1 ++ requests 0 1 ++ takes 1 ++ returns 1 ++ fetches_any 0)) (pos 0) 0
    ∷ ends (offered1 (requests 0 1 ++ requests 0 1 ++ takes 1 ++ returns 1 ++ fetches_any 0 ++ fetches_any 0)) (pos 36) 0
    ∷ ends (offered1 (by 2 1 0 0 0 ++ by 2 10 2 0 0 ++ requests 0 1 ++ requests 0 2 ++ takes 2 ++ returns 2 ++ fetches_any 0)) (pos 0) 0
    ∷ ends (offered1 (requests 0 1 ++ by 2 12 1 0 7 ++ takes 1 ++ returns 1 ++ fetches_any 2)) (pos 36) 0
    -- after 22
    ∷ ends (offered1 (requests 0 1 ++ by 0 15 1 2 0)) (pos 22) 0
    -- after 24: another's end, none, a conversation's, and a closed one
    ∷ ends (offered1 (requests 0 1 ++ fetches 1)) (pos 24) 0
    ∷ ends (offered1 (requests 0 1 ++ fetches_any 1)) (pos 24) 0
    ∷ ends (fetches 0) (pos 24) 0
    ∷ ends (offered1 (by 0 13 1 4 7 ++ fetches 0)) (pos 24) 0
    ∷ ends (offered1 (by 0 13 1 4 7 ++ fetches_any 0)) (pos 24) 0
    ∷ ends (offered1 (by 0 12 1 1 7 ++ fetches 0)) (pos 24) 0
    -- after 28; and the clock goes on
    ∷ ends (offered1 (timed (requests 0 1 ++ call 14 15 1 0 0))) (pos 36) 14
    ∷ ends (offered1 (timed (requests 0 1 ++ call 15 15 1 0 0))) (pos 28) 15
    ∷ ends (offered1 (timed (requests 0 1 ++ call 14 15 0 1 0))) (pos 36) 14
    ∷ ends (offered1 (timed (requests 0 1 ++ call 15 15 0 1 0))) (pos 28) 15
    -- a receive with nothing unread, of either end, at first and after what was sent
    ∷ ends (receiving (receives 0)) (pos 36) 0
    ∷ ends (sending (receives 1)) (pos 36) 0
    ∷ ends (receiving (sends 1 ++ receives 0 ++ receives 0)) (pos 36) 0
    -- of a conversation that waits
    ∷ ends (offered1 (by 0 13 1 8 7 ++ receives 0)) (pos 36) 0
    -- something is there: a token, one with the grant, one of a service that has returned
    ∷ ends (receiving (sends 1 ++ receives 0)) (pos 0) 0
    ∷ ends (receiving (by 1 17 1 1 7 ++ receives 0)) (pos 29) 0
    ∷ ends (receiving (sends 1 ++ returns 1 ++ receives 0)) (pos 0) 0
    -- after 24 and 28
    ∷ ends (receiving (receives 2)) (pos 24) 0
    ∷ ends (offered1 (timed (by 0 13 1 8 7 ++ call 14 18 1 0 0))) (pos 36) 14
    ∷ ends (offered1 (timed (by 0 13 1 8 7 ++ call 15 18 1 0 0))) (pos 28) 15
    -- after the events, which come before 23
    ∷ ends (sending (by 0 19 1 0 0 ++ receives 1)) (pos 29) 0
    ∷ ends (receiving (by 0 19 1 0 0 ++ receives 1)) (pos 29) 0
    ∷ ends (receiving (returns 1 ++ receives 0)) (pos 29) 0
    ∷ ends (receiving (by 1 20 2 0 7 ++ receives 0)) (pos 29) 0
    ∷ ends (sending (returns 1 ++ receives 0)) (pos 29) 0
    -- after 23
    ∷ ends (sending (receives 0)) (pos 23) 0
    ∷ ends (receiving (receives 1)) (pos 23) 0
    -- four sends of a link that is served, and of one that waits
    ∷ ends (sending (fills 0)) (pos 0) 0
    ∷ ends (offered1 (by 0 13 1 4 7 ++ fills 0)) (pos 0) 0
    -- the fifth, of either end, granting or not
    ∷ ends (sending (fills 0 ++ sends 0)) (pos 37) 0
    ∷ ends (receiving (fills 1 ++ sends 1)) (pos 37) 0
    ∷ ends (receiving (fills 1 ++ by 1 17 1 1 7)) (pos 37) 0
    -- room again
    ∷ ends (receiving (fills 1 ++ sends 1 ++ receives 0 ++ sends 1)) (pos 0) 0
    -- after 24, 22 and 28
    ∷ ends (receiving (fills 1 ++ sends 2)) (pos 24) 0
    ∷ ends (receiving (fills 1 ++ by 1 17 1 2 7)) (pos 22) 0
    ∷ ends (offered1 (timed (by 0 13 1 4 7 ++ fills 0 ++ call 14 17 1 0 7))) (pos 37) 14
    ∷ ends (offered1 (timed (by 0 13 1 4 7 ++ fills 0 ++ call 15 17 1 0 7))) (pos 28) 15
    -- after 23: not the sender's, and with the grant under way
    ∷ ends (receiving (fills 1 ++ sends 0)) (pos 23) 0
    ∷ ends (receiving (sends 1 ++ sends 1 ++ sends 1 ++ by 1 17 1 1 7 ++ sends 1)) (pos 23) 0
    -- a disconnect leaves nothing unread, and is told the server, sender or not
    ∷ ends (receiving (fills 1 ++ by 0 19 1 0 0 ++ sends 1)) (pos 29) 0
    ∷ ends (sending (by 0 19 1 0 0 ++ sends 1)) (pos 29) 0
    ∷ []

pub nothing_holds : (k : ℕ) → k < length nothing → Holds (get_or nothing k fresh_begin)
unfolding every right pick same first_of any_of collect numbered owns own_end link_of changed gone_of removed served_tx tx_of ended expired lost deadline_of
    begin_tx state_of next_of in_state entered open_of begin_of timeout_of in_set offers may_request may_advertise count_to offered with_service offers_now
    advertise_of link_tx ask_link request_of connect_of is_idle fits dispatched dispatch_of request_end expired_end replied_end outcome_code fetched fetch_one
    fetch_any fetch_of originator_end server_end any_end hears_disconnect hears_return end_side is_sender tells_disconnect tells_return send_on send_of
    carries_grant received receive_on receive_of disconnected_at disconnect_of plain_outcome outcome_of unread_after close_end rollback_only_by close_own end_own
    rollback_only_served serves_none hand_back leave return_with return_of reports_good links_good party_good parties_good sound rule_of later_of answered_to
    call_of call_at places_of ran_of answers_of list_of
nothing_holds k h = holds_right (get_or nothing k fresh_begin) (entry right fresh_begin nothing refl k h)
