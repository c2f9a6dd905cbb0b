-- The drill cases that the documents mark, in one table: each list of calls, run on a fresh monitor, ends as it says.
-- One test is computed over the whole table, and the law of tables turns it into the facts of each entry. The other tables
-- write their calls in the words that stand here.
-- Assumes nothing.
use Rattle.std.proofs.Common.{◌≡◌, refl, Bool, true, ◌&&◌, List, [], ◌∷◌, ◌++◌, ℕ, ◌-◌, ◌<◌, eqb, ℤ, pos, negsuc, length, get_or, replicate, rules}
use Rattle.rules.specs.Choice.{pick, same}
use Rattle.rules.specs.Codes.{no_begin}
use Rattle.rules.specs.Lists.{first_of, any_of, collect}
use Rattle.rules.specs.Record.{fresh_monitor, blanks, numbered, owns, own_end, link_of, changed, gone_of, removed}
use Rattle.rules.specs.Transaction.{served_tx, tx_of, ended, expired, is_owner, deadline_of, begin_tx, orphaned, end_of, end_tx, is_open_of, can_commit}
use Rattle.rules.specs.States.{state_of, next_of, in_state, entered}
use Rattle.rules.specs.Tx.{open_of, close_of, begin_of, go_on, commit_of, timeout_of}
use Rattle.rules.specs.Votes.{report_is, decides, some_committed, some_rolled_back, vote_code, code_after, commit_code, all_can_start}
use Rattle.rules.specs.Services.{in_set, offers, may_request, may_advertise, count_to, offered, with_service, offers_now, advertise_of}
use Rattle.rules.specs.Requests.{link_tx, ask_link, request_of, connect_of}
use Rattle.rules.specs.Replies.{request_end, cancel_of}
use Rattle.rules.specs.Conversations.{originator_end, server_end, any_end, hears_disconnect, hears_return, end_side, is_sender, send_on, send_of}
use Rattle.rules.specs.Sound.{reports_good, links_good, works_for, party_good, parties_good, sound}
use Rattle.rules.specs.Step.{rule_of, later_of, answered_to, turned_down, call_of}
use Rattle.rules.specs.Run.{call_at, places_of, ran_of, answers_of, Listed, list_of}
use Rattle.rules.specs.History.{same_code}
use Rattle.rules.proofs.Tables.{every, entry}

-- Calls as numbers, six to each; the code of the last one's answer; the record's clock afterwards.
pub record Example : Type 0 where
  pub calls : List ℕ
  pub code : ℤ
  pub clock : ℕ

-- a call of party 0's: clock, kind, a, b, c
abbrev pub call : ℕ → ℕ → ℕ → ℕ → ℕ → List ℕ
call clock kind a b c = clock ∷ 0 ∷ kind ∷ a ∷ b ∷ c ∷ []

-- one of party p's at 0: kind, a, b, c
abbrev pub by : ℕ → ℕ → ℕ → ℕ → ℕ → List ℕ
by p kind a b c = 0 ∷ p ∷ kind ∷ a ∷ b ∷ c ∷ []

abbrev pub ends : List ℕ → ℤ → ℕ → Example
ends cs code clock = record { calls = cs; code = code; clock = clock }

abbrev pub opens : List ℕ
opens = call 0 1 0 0 0

abbrev pub advertises : ℕ → List ℕ
advertises a = call 0 10 a 0 0

-- party p sends on link 1, and receives
abbrev pub sends : ℕ → List ℕ
sends p = by p 17 1 0 7

abbrev pub receives : ℕ → List ℕ
receives p = by p 18 1 0 0

-- party p requests service a
abbrev pub requests : ℕ → ℕ → List ℕ
requests p a = by p 12 a 0 7

-- party p takes the next link, and returns success
abbrev pub takes : ℕ → List ℕ
takes p = by p 14 0 0 0

abbrev pub returns : ℕ → List ℕ
returns p = by p 20 1 0 7

-- party p fetches the reply of link 1, or whichever is there
abbrev pub fetches : ℕ → List ℕ
fetches p = by p 15 1 0 0

abbrev pub fetches_any : ℕ → List ℕ
fetches_any p = by p 15 0 1 0

-- party 1 offers service 1
abbrev pub offered1 : List ℕ → List ℕ
offered1 cs = by 1 1 0 0 0 ++ by 1 10 1 0 0 ++ cs

-- in a transaction with timeout 10 that begins at 5
abbrev pub timed : List ℕ → List ℕ
timed cs = opens ++ call 0 9 10 0 0 ++ call 5 3 0 0 0 ++ cs

abbrev pub commits_at : ℕ → List ℕ
commits_at clock = timed (call clock 4 0 0 0)

-- "Fresh begin −5"
abbrev pub fresh_begin : Example
fresh_begin = record { calls = call 0 3 0 0 0; code = negsuc 4; clock = 0 }

-- "fresh close 0"
abbrev pub fresh_close : Example
fresh_close = record { calls = call 0 2 0 0 0; code = pos 0; clock = 0 }

-- "Timeout 2147483648: −8", of an opened party
abbrev pub timeout_too_long : Example
timeout_too_long = record { calls = opens ++ call 0 9 2147483648 0 0; code = negsuc 7; clock = 0 }

-- "Timeout 10, begin at 5: commit at 14 is 0, at 15 is −2."
abbrev pub commit_in_time : Example
commit_in_time = record { calls = commits_at 14; code = pos 0; clock = 14 }

abbrev pub commit_too_late : Example
commit_too_late = record { calls = commits_at 15; code = negsuc 1; clock = 15 }

-- "Clock 20 then 3 stays 20."
abbrev pub clock_stays : Example
clock_stays = record { calls = call 20 1 0 0 0 ++ call 3 1 0 0 0; code = pos 0; clock = 20 }

-- "Cancel in T: 27."
abbrev pub cancel_in_tx : Example
cancel_in_tx = record { calls = opens ++ advertises 1 ++ call 0 3 0 0 0 ++ call 0 12 1 0 7 ++ call 0 16 1 0 0; code = pos 27; clock = 0 }

-- "the marked fifth unread is 37" (document 02)
abbrev pub fifth_unread : Example
fifth_unread = record { calls = advertises 1 ++ call 0 13 1 4 0 ++ sends 0 ++ sends 0 ++ sends 0 ++ sends 0 ++ sends 0; code = pos 37; clock = 0 }

-- "Ninth service: 26."
abbrev pub ninth_service : Example
ninth_service = record {
  calls = advertises 1 ++ advertises 2 ++ advertises 3 ++ advertises 4 ++ advertises 5 ++ advertises 6 ++ advertises 7 ++ advertises 8 ++ advertises 9;
  code = pos 26;
  clock = 0;
}

abbrev pub marked : List Example
marked = fresh_begin ∷ fresh_close ∷ timeout_too_long ∷ commit_in_time ∷ commit_too_late ∷ clock_stays ∷ cancel_in_tx ∷ fifth_unread ∷ ninth_service ∷ []

-- calls as a lent list on a fresh monitor, with as much room as they need
abbrev pub drilled : List ℕ → Listed
drilled cs = list_of fresh_monitor cs (replicate (length cs) (pos 0))

-- the code of the last answer
abbrev pub last_code : Example → ℤ
last_code e = get_or (drilled e.calls).places (length e.calls - 6) (pos 0)

-- What holds of an example.
pub record Holds (e : Example) : Type 0 where
  pub runs : (drilled e.calls).code ≡ pos 0
  pub answers : last_code e ≡ e.code
  pub leaves : (drilled e.calls).monitor.clock ≡ e.clock

-- ---- the test
unfoldable pub right : Example → Bool
right e = same_code (drilled e.calls).code (pos 0) && (same_code (last_code e) e.code && eqb (drilled e.calls).monitor.clock e.clock)

-- ---- what it shows
pub holds_right : (e : Example) → right e ≡ true → Holds e
unfolding right
holds_right e h = search rules

pub marked_holds : (k : ℕ) → k < length marked → Holds (get_or marked k fresh_begin)
unfolding every right pick same no_begin first_of any_of collect blanks numbered owns own_end link_of changed gone_of removed served_tx tx_of ended expired
    is_owner deadline_of begin_tx orphaned end_of end_tx is_open_of can_commit state_of next_of in_state entered open_of close_of begin_of go_on report_is decides
    some_committed some_rolled_back vote_code code_after commit_code all_can_start commit_of timeout_of in_set offers may_request may_advertise count_to offered with_service offers_now
    advertise_of link_tx ask_link request_of connect_of request_end cancel_of originator_end server_end any_end hears_disconnect hears_return end_side is_sender
    send_on send_of reports_good links_good works_for party_good parties_good sound rule_of later_of answered_to turned_down call_of call_at places_of ran_of
    answers_of list_of
marked_holds k h = holds_right (get_or marked k fresh_begin) (entry right fresh_begin marked refl k h)
