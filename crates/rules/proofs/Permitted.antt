-- Who may call what in one table: each list of calls, run on a fresh monitor, ends as it says.
-- Assumes nothing.
use Rattle.std.proofs.Common.{refl, List, [], ◌∷◌, ◌++◌, ℕ, ◌<◌, pos, length, get_or}
use Rattle.rules.specs.Choice.{pick, same}
use Rattle.rules.specs.Lists.{first_of, any_of, collect}
use Rattle.rules.specs.Record.{numbered, owns, own_end, link_of, changed, gone_of, removed}
use Rattle.rules.specs.Transaction.{served_tx, tx_of, ended, expired, lost, is_owner, deadline_of, begin_tx, orphaned, end_of, end_tx}
use Rattle.rules.specs.States.{state_of, next_of, in_state, entered}
use Rattle.rules.specs.Tx.{open_of, begin_of, go_on, rollback_of, timeout_of}
use Rattle.rules.specs.Services.{in_set, offers, may_request, may_advertise, count_to, offered, with_service, offers_now, advertise_of, unadvertise_of}
use Rattle.rules.specs.Rights.{granted, rights_of}
use Rattle.rules.specs.Requests.{link_tx, ask_link, request_of, connect_of, is_idle, fits, dispatched, dispatch_of}
use Rattle.rules.specs.Replies.{request_end, outcome_code, fetched, fetch_one, fetch_of}
use Rattle.rules.specs.Conversations.{originator_end, server_end, any_end, hears_disconnect, hears_return, end_side, is_sender, send_on, send_of}
use Rattle.rules.specs.Return.{plain_outcome, outcome_of, unread_after, close_end, rollback_only_by, close_own, end_own, rollback_only_served}
use Rattle.rules.specs.Return.{serves_none, hand_back, leave, return_with, return_of, died_out, terminate_of}
use Rattle.rules.specs.Sound.{reports_good, links_good, party_good, parties_good, sound}
use Rattle.rules.specs.Step.{rule_of, later_of, answered_to, call_of}
use Rattle.rules.specs.Run.{call_at, places_of, ran_of, answers_of, list_of}
use Rattle.rules.proofs.Marked.{Example, Holds, call, by, ends, opens, timed, advertises, requests, offered1, fresh_begin, right, holds_right}
use Rattle.rules.proofs.Tables.{every, entry}

-- party 0 replaces a set: by none, and by all
abbrev sets : ℕ → ℕ → ℕ → List ℕ
sets a b c = call 0 23 a b c

abbrev withdraws : ℕ → List ℕ
withdraws a = sets a 0 0

abbrev all32 : ℕ
all32 = 4294967295

abbrev pub permitted : List Example
permitted =
    -- another party: 35, also with a bad a
    ends (by 1 23 0 0 0) (pos 35) 0
    ∷ ends (by 1 23 32 0 0) (pos 35) 0
    -- party 0: 22 from 32 on
    ∷ ends (sets 32 0 0) (pos 22) 0
    ∷ ends (sets 31 0 0) (pos 0) 0
    -- no right to advertise: 35, after 22
    ∷ ends (withdraws 1 ++ advertises 1) (pos 35) 0
    ∷ ends (withdraws 1 ++ advertises 65) (pos 22) 0
    -- of an offered service too, and before 26
    ∷ ends (advertises 1 ++ withdraws 1 ++ advertises 1) (pos 35) 0
    ∷ ends (advertises 1 ++ advertises 2 ++ advertises 3 ++ advertises 4 ++ advertises 5 ++ advertises 6 ++ advertises 7 ++ advertises 8 ++ withdraws 1 ++ advertises 9) (pos 35) 0
    -- no right to request: 35, after 22 and before 25
    ∷ ends (withdraws 0 ++ requests 0 1) (pos 35) 0
    ∷ ends (withdraws 0 ++ by 0 12 1 4 7) (pos 22) 0
    ∷ ends (withdraws 0 ++ by 0 13 1 4 7) (pos 35) 0
    ∷ ends (withdraws 0 ++ by 0 13 1 0 7) (pos 22) 0
    -- before 28
    ∷ ends (timed (withdraws 0 ++ call 15 12 1 0 7)) (pos 35) 15
    -- before 23: of a transaction that has ended
    ∷ ends (offered1 (opens ++ call 0 3 0 0 0 ++ requests 0 1 ++ by 1 14 0 0 0 ++ call 0 5 0 0 0 ++ withdraws 2 ++ requests 1 1)) (pos 35) 0
    ∷ ends (offered1 (opens ++ call 0 3 0 0 0 ++ requests 0 1 ++ by 1 14 0 0 0 ++ call 0 5 0 0 0 ++ requests 1 1)) (pos 23) 0
    -- a fresh party may do all
    ∷ ends (advertises 64) (pos 0) 0
    ∷ ends (requests 0 64) (pos 25) 0
    -- b holds services 1 to 32
    ∷ ends (sets 1 1 0 ++ advertises 1) (pos 0) 0
    ∷ ends (sets 1 1 0 ++ advertises 33) (pos 35) 0
    ∷ ends (sets 1 2147483648 0 ++ advertises 32) (pos 0) 0
    -- c the rest
    ∷ ends (sets 1 0 1 ++ advertises 33) (pos 0) 0
    ∷ ends (sets 1 0 1 ++ advertises 1) (pos 35) 0
    ∷ ends (sets 1 0 2147483648 ++ advertises 64) (pos 0) 0
    -- of the requesting set too
    ∷ ends (sets 0 1 0 ++ requests 0 1) (pos 25) 0
    ∷ ends (sets 0 1 0 ++ requests 0 33) (pos 35) 0
    ∷ ends (sets 0 0 1 ++ requests 0 33) (pos 25) 0
    ∷ ends (sets 0 0 1 ++ requests 0 1) (pos 35) 0
    ∷ ends (sets 0 0 2147483648 ++ requests 0 64) (pos 25) 0
    -- one set of the two
    ∷ ends (withdraws 0 ++ advertises 1) (pos 0) 0
    ∷ ends (withdraws 1 ++ requests 0 1) (pos 25) 0
    -- a set is replaced: neither joined with what it was nor cut by it
    ∷ ends (sets 1 1 0 ++ sets 1 2 0 ++ advertises 1) (pos 35) 0
    ∷ ends (sets 1 1 0 ++ sets 1 2 0 ++ advertises 2) (pos 0) 0
    -- a is twice the party
    ∷ ends (withdraws 16 ++ requests 8 1) (pos 35) 0
    ∷ ends (withdraws 16 ++ requests 0 1) (pos 25) 0
    ∷ ends (withdraws 17 ++ by 8 10 1 0 0) (pos 35) 0
    -- a fall keeps both sets, party 0's too
    ∷ ends (withdraws 2 ++ by 1 21 0 0 0 ++ requests 1 1) (pos 35) 0
    ∷ ends (withdraws 3 ++ by 1 21 0 0 0 ++ by 1 10 1 0 0) (pos 35) 0
    ∷ ends (withdraws 0 ++ by 0 21 0 0 0 ++ requests 0 1) (pos 35) 0
    -- an offer lives on, is requested, and is withdrawn
    ∷ ends (offered1 (withdraws 3 ++ withdraws 2 ++ requests 0 1)) (pos 0) 0
    ∷ ends (offered1 (withdraws 3 ++ withdraws 2 ++ by 1 11 1 0 0)) (pos 0) 0
    -- so does a waiting link, which is taken without any right
    ∷ ends (offered1 (requests 0 1 ++ withdraws 3 ++ withdraws 2 ++ withdraws 0 ++ by 1 14 0 0 0)) (pos 0) 0
    -- one at work, which returns and is fetched
    ∷ ends (offered1 (requests 0 1 ++ by 1 14 0 0 0 ++ withdraws 3 ++ withdraws 2 ++ withdraws 0 ++ by 1 20 1 0 7)) (pos 0) 0
    ∷ ends (offered1 (requests 0 1 ++ by 1 14 0 0 0 ++ withdraws 3 ++ withdraws 2 ++ withdraws 0 ++ by 1 20 1 0 7 ++ by 0 15 1 0 0)) (pos 0) 0
    -- and a conversation, on which is sent
    ∷ ends (offered1 (by 0 13 1 4 7 ++ withdraws 0 ++ by 0 17 1 1 7)) (pos 0) 0
    -- given back
    ∷ ends (withdraws 0 ++ sets 0 all32 all32 ++ requests 0 64) (pos 25) 0
    ∷ []

pub permitted_holds : (k : ℕ) → k < length permitted → Holds (get_or permitted k fresh_begin)
unfolding every right pick same first_of any_of collect numbered owns own_end link_of changed gone_of removed served_tx tx_of ended expired lost is_owner
    deadline_of begin_tx orphaned end_of end_tx state_of next_of in_state entered open_of begin_of go_on rollback_of timeout_of in_set offers may_request
    may_advertise count_to offered with_service offers_now advertise_of unadvertise_of granted rights_of link_tx ask_link request_of connect_of is_idle fits
    dispatched dispatch_of request_end outcome_code fetched fetch_one fetch_of originator_end server_end any_end hears_disconnect hears_return end_side is_sender
    send_on send_of plain_outcome outcome_of unread_after close_end rollback_only_by close_own end_own rollback_only_served serves_none hand_back leave return_with
    return_of died_out terminate_of reports_good links_good party_good parties_good sound rule_of later_of answered_to call_of call_at places_of ran_of answers_of
    list_of
permitted_holds k h = holds_right (get_or permitted k fresh_begin) (entry right fresh_begin permitted refl k h)
