-- The history statement, computed: it holds of each history that the outside implementation answered and of each harmless one, and of no spoilt or faulty one.
-- One test is computed over each table, and the law of tables turns it into the facts of each entry.
-- Assumes nothing.
use Rattle.std.proofs.Common.{◌≡◌, refl, List, [], ◌++◌, Bool, true, not, ◌&&◌, ℕ, ◌<◌, length, get_or}
use Rattle.rules.specs.History.{some, of_kind, by, answered_by, with_value, with_event, past21, accepted, replied, link_on, on, is_send, different_ends}
use Rattle.rules.specs.History.{given_send_only, sends_apart, ends_in, up_to_start, started_by, shown_owner, latest_tx, is_owners_commit, committed, flag2}
use Rattle.rules.specs.History.{makes, is_link_of, serves, failed_end, disconnect, greatest_clock, shown_timeout, timeout_at_start, due, deadline_passed}
use Rattle.rules.specs.History.{finishes, unfinished, reports_on, opposes, opposed, stands_against, reason_against, others_at_work, sender_rule, commit_rule, alone_rule, holds, first_call, first_answer}
use Rattle.rules.specs.History.{then_calls, then_list}
use Rattle.rules.proofs.Tables.{every, entry}
use Rattle.histories.proofs.Rows.{Row, events_of, commit, only_breaks, Spoilt, breaks}
use Rattle.histories.proofs.Deaths
use Rattle.histories.proofs.Conversations
use Rattle.histories.proofs.Deadlines
use Rattle.histories.proofs.Services
use Rattle.histories.proofs.Replies
use Rattle.histories.proofs.Votes
use Rattle.histories.proofs.Rights
use Rattle.histories.proofs.Owners
use Rattle.histories.proofs.Faults

abbrev pub real : List (List Row)
real = Deaths.real ++ Conversations.real ++ Deadlines.real ++ Services.real ++ Replies.real ++ Votes.real ++ Rights.real ++ Owners.real

abbrev pub spoilt : List Spoilt
spoilt = Deaths.spoilt ++ Conversations.spoilt ++ Deadlines.spoilt ++ Services.spoilt ++ Replies.spoilt ++ Votes.spoilt ++ Rights.spoilt ++ Owners.spoilt

abbrev pub harmless : List (List Row)
harmless = Deaths.harmless ++ Conversations.harmless ++ Deadlines.harmless ++ Services.harmless ++ Replies.harmless ++ Votes.harmless ++ Rights.harmless ++ Owners.harmless

-- the statement holds of it
abbrev pub kept : List Row → Bool
kept rs = holds (events_of rs)

-- the statement does not hold of it, for the rule that it breaks
abbrev pub refuted : Spoilt → Bool
refuted s = not (holds (events_of s.rows)) && only_breaks s.rule (events_of s.rows)

-- Each test over its table, all of them in one place: what the statement is made of is unfolded once.
computed : (every kept real ≡ true) × (every kept harmless ≡ true) × (every refuted spoilt ≡ true) × (every refuted Faults.faulty ≡ true)
unfolding every some of_kind by answered_by with_value with_event past21 accepted replied link_on on is_send different_ends given_send_only sends_apart ends_in up_to_start
    started_by shown_owner latest_tx is_owners_commit committed flag2 makes is_link_of serves failed_end disconnect greatest_clock shown_timeout timeout_at_start
    due deadline_passed finishes unfinished reports_on opposes opposed stands_against reason_against others_at_work sender_rule commit_rule alone_rule holds first_call first_answer then_calls then_list
computed = (refl, refl, refl, refl)

pub real_holds : (k : ℕ) → k < length real → kept (get_or real k []) ≡ true
real_holds = entry kept [] real computed.0

pub harmless_holds : (k : ℕ) → k < length harmless → kept (get_or harmless k []) ≡ true
harmless_holds = entry kept [] harmless computed.1

pub spoilt_refuted : (k : ℕ) → k < length spoilt → refuted (get_or spoilt k (breaks commit [])) ≡ true
spoilt_refuted = entry refuted (breaks commit []) spoilt computed.2

-- nor does it hold of what the wrong rules answer
pub faulty_refuted : (k : ℕ) → k < length Faults.faulty → refuted (get_or Faults.faulty k (breaks commit [])) ≡ true
faulty_refuted = entry refuted (breaks commit []) Faults.faulty computed.3
