-- The rules answer each history as the outside implementation did: run as a lent list on a fresh monitor, its calls get the answers of its rows.
-- One test is computed over the table, and the law of tables turns it into the facts of each entry.
-- Assumes nothing.
use Rattle.std.proofs.Common.{◌≡◌, refl, Bool, true, ◌&&◌, List, [], ℕ, ◌<◌, arith, pos, length, get_or, replicate}
use Rattle.rules.specs.Choice.{pick, same}
use Rattle.rules.specs.Codes.{no_begin}
use Rattle.rules.specs.Lists.{first_of, any_of, collect}
use Rattle.rules.specs.Record.{fresh_monitor, blanks, numbered, owns, own_end, link_of, changed, gone_of, removed}
use Rattle.rules.specs.Transaction.{served_tx, tx_of, ended, expired, lost, is_owner, rollback_only_in, deadline_of, begin_tx, orphaned, end_of, end_tx, is_open_of, can_commit}
use Rattle.rules.specs.States.{state_of, next_of, in_state, entered}
use Rattle.rules.specs.Tx.{open_of, close_of, begin_of, go_on, commit_of, rollback_of, info_of, commit_return_of, control_of, timeout_of}
use Rattle.rules.specs.Votes.{report_number, report_is, report_of, decides, some_committed, some_rolled_back, vote_code, code_after, commit_code, all_can_start}
use Rattle.rules.specs.Services.{in_set, offers, may_request, may_advertise, count_to, offered, with_service, offers_now, advertise_of, unadvertise_of}
use Rattle.rules.specs.Rights.{granted, rights_of}
use Rattle.rules.specs.Requests.{link_tx, ask_link, request_of, connect_of, is_idle, fits, dispatch_event, dispatched}
use Rattle.rules.specs.Requests.{dispatch_of}
use Rattle.rules.specs.Replies.{request_end, outcome_code, fetched, fetch_one, expired_end, replied_end, fetch_any, fetch_of, cancelled, cancel_of}
use Rattle.rules.specs.Conversations.{originator_end, server_end, any_end, hears_disconnect, hears_return, end_side, is_sender, tells_disconnect}
use Rattle.rules.specs.Conversations.{tells_return, send_on, send_of, carries_grant, received, receive_on, receive_of, disconnected_at, disconnect_of}
use Rattle.rules.specs.Return.{plain_outcome, outcome_of, unread_after, close_end, rollback_only_by, close_own, end_own, rollback_only_served}
use Rattle.rules.specs.Return.{serves_none, ending_of, hand_back, leave, return_with, return_of, died_out, terminate_of}
use Rattle.rules.specs.Sound.{reports_good, links_good, works_for, party_good, parties_good, sound}
use Rattle.rules.specs.Step.{rule_of, later_of, answered_to, turned_down, call_of}
use Rattle.rules.specs.Run
use Rattle.rules.specs.Run.{Listed, call_at, ran_of, answers_of, list_of}
use Rattle.rules.specs.History.{same_code}
use Rattle.rules.proofs.Logic.{and_l, and_r}
use Rattle.rules.proofs.AnswerCodes.{same_code_lem}
use Rattle.rules.proofs.Tables.{every, entry, same_places, same_places_lem}
use Rattle.histories.proofs.Rows.{Row, numbers_of, places_of}
use Rattle.histories.proofs.Deaths.{dies_after_disconnect, dies_before_disconnect, learns_of_death}
use Rattle.histories.proofs.Verdicts.{real}

-- its calls as a lent list on a fresh monitor, with as much room for answers as they need
abbrev pub run : List Row → Listed
run rs = list_of fresh_monitor (numbers_of rs) (replicate (length (numbers_of rs)) (pos 0))

-- What the rules say of a history.
pub record Answered (rs : List Row) : Type 0 where
  pub runs : (run rs).code ≡ pos 0
  pub answers : (run rs).places ≡ places_of rs

right : List Row → Bool
right rs = same_code (run rs).code (pos 0) && same_places (run rs).places (places_of rs)

answered_right : (rs : List Row) → right rs ≡ true → Answered rs
unfolding right
answered_right rs h = record { runs = same_code_lem _ _ (and_l _ _ h); answers = same_places_lem _ _ (and_r (same_code (run rs).code (pos 0)) _ h) }

pub real_answered : (k : ℕ) → k < length real → Answered (get_or real k [])
unfolding every right same_places pick same no_begin first_of any_of collect blanks numbered owns own_end link_of changed gone_of removed served_tx tx_of
    ended expired lost is_owner rollback_only_in deadline_of begin_tx orphaned end_of end_tx is_open_of can_commit state_of next_of in_state entered open_of close_of
    begin_of go_on report_number report_is report_of decides some_committed some_rolled_back vote_code code_after commit_code all_can_start commit_of rollback_of
    info_of commit_return_of control_of timeout_of in_set offers may_request may_advertise granted rights_of count_to offered with_service offers_now advertise_of unadvertise_of link_tx ask_link request_of
    connect_of is_idle fits dispatch_event dispatched dispatch_of request_end outcome_code fetched fetch_one expired_end replied_end fetch_any fetch_of
    cancelled cancel_of originator_end server_end any_end hears_disconnect hears_return end_side is_sender tells_disconnect tells_return send_on send_of
    carries_grant received receive_on receive_of disconnected_at disconnect_of plain_outcome outcome_of unread_after close_end rollback_only_by close_own end_own
    rollback_only_served serves_none ending_of hand_back leave return_with return_of died_out terminate_of reports_good links_good works_for party_good
    parties_good sound rule_of later_of answered_to turned_down call_of call_at Run.places_of ran_of answers_of list_of
real_answered k h = answered_right (get_or real k []) (entry right [] real refl k h)

-- a service that dies after its caller has disconnected, before it, and where the caller learns of it
pub dies_after_disconnect_lem : Answered dies_after_disconnect
dies_after_disconnect_lem = real_answered 0 (omega arith)

pub dies_before_disconnect_lem : Answered dies_before_disconnect
dies_before_disconnect_lem = real_answered 1 (omega arith)

pub learns_of_death_lem : Answered learns_of_death
learns_of_death_lem = real_answered 2 (omega arith)
