-- The managers' votes in one table: each list of calls, run on a fresh monitor, ends as it says.
-- Assumes nothing.
use Rattle.std.proofs.Common.{refl, List, [], ◌∷◌, ◌++◌, ℕ, ◌<◌, pos, negsuc, length, get_or}
use Rattle.rules.specs.Choice.{pick, same}
use Rattle.rules.specs.Codes.{no_begin}
use Rattle.rules.specs.Lists.{first_of, any_of, collect}
use Rattle.rules.specs.Record.{blanks, owns}
use Rattle.rules.specs.Transaction.{served_tx, tx_of, is_owner, deadline_of, begin_tx, end_of, end_tx, is_open_of, can_commit}
use Rattle.rules.specs.States.{state_of, next_of, in_state, entered}
use Rattle.rules.specs.Tx.{open_of, begin_of, go_on, commit_of, rollback_of, info_of, control_of, timeout_of}
use Rattle.rules.specs.Votes.{report_number, report_is, report_of, decides, some_committed, some_rolled_back, vote_code, code_after, commit_code, all_can_start}
use Rattle.rules.specs.Sound.{reports_good, links_good, party_good, parties_good, sound}
use Rattle.rules.specs.Step.{rule_of, later_of, answered_to, turned_down, call_of}
use Rattle.rules.specs.Run.{call_at, places_of, ran_of, answers_of, list_of}
use Rattle.rules.proofs.Marked.{Example, Holds, call, ends, opens, timed, fresh_begin, right, holds_right}
use Rattle.rules.proofs.Tables.{every, entry}

-- manager a's report
abbrev pub votes : ℕ → ℕ → ℕ → List ℕ
votes a b c = call 0 22 a b c

abbrev pub commits : List ℕ
commits = call 0 4 0 0 0

-- in a transaction: unchained, and chained
abbrev pub in_tx : List ℕ → List ℕ
in_tx cs = opens ++ call 0 3 0 0 0 ++ cs

abbrev pub chained : List ℕ → List ℕ
chained cs = opens ++ call 0 8 1 0 0 ++ call 0 3 0 0 0 ++ cs

abbrev pub voted : List Example
voted =
    -- a veto decides
    ends (in_tx (votes 0 2 0 ++ commits)) (negsuc 1) 0
    -- and beside prepared, which then counts as rolled back
    ∷ ends (in_tx (votes 0 2 0 ++ votes 1 0 0 ++ commits)) (negsuc 1) 0
    -- a later report replaces an earlier one
    ∷ ends (in_tx (votes 0 2 0 ++ votes 0 0 0 ++ commits)) (pos 0) 0
    -- 34 leaves the earlier report
    ∷ ends (in_tx (votes 0 2 0 ++ votes 0 7 0 ++ commits)) (negsuc 1) 0
    -- it counts as rolled back, also beside one that is committed
    ∷ ends (in_tx (votes 0 2 0 ++ votes 1 3 0 ++ commits)) (negsuc 2) 0
    -- read-only does not count, neither as committed
    ∷ ends (in_tx (votes 0 1 0 ++ votes 3 4 0 ++ commits)) (negsuc 1) 0
    -- nor as rolled back
    ∷ ends (in_tx (votes 2 1 0 ++ commits)) (pos 0) 0
    -- committed beside prepared, after a commit decision
    ∷ ends (in_tx (votes 0 3 0 ++ votes 1 0 0 ++ commits)) (pos 0) 0
    -- both committed and rolled back
    ∷ ends (in_tx (votes 0 3 0 ++ votes 3 4 0 ++ commits)) (negsuc 2) 0
    -- mixed, beside a hazard
    ∷ ends (in_tx (votes 0 6 0 ++ votes 1 5 0 ++ commits)) (negsuc 2) 0
    -- both, beside a hazard
    ∷ ends (in_tx (votes 0 6 0 ++ votes 1 3 0 ++ votes 2 4 0 ++ commits)) (negsuc 2) 0
    -- and by prepared, which counts as committed
    ∷ ends (in_tx (votes 0 6 0 ++ votes 1 0 0 ++ votes 2 4 0 ++ commits)) (negsuc 2) 0
    -- a hazard, beside prepared
    ∷ ends (in_tx (votes 0 6 0 ++ votes 1 0 0 ++ commits)) (negsuc 3) 0
    -- beside one that is rolled back
    ∷ ends (in_tx (votes 0 6 0 ++ votes 1 4 0 ++ commits)) (negsuc 3) 0
    -- and after a rollback decision
    ∷ ends (timed (votes 0 6 0 ++ call 15 4 0 0 0)) (negsuc 3) 15
    -- beside one that is committed
    ∷ ends (timed (votes 0 6 0 ++ votes 1 3 0 ++ call 15 4 0 0 0)) (negsuc 3) 15
    -- all rolled back, after a commit decision
    ∷ ends (in_tx (votes 0 4 0 ++ commits)) (negsuc 1) 0
    -- committed, after a rollback decision
    ∷ ends (timed (votes 0 3 0 ++ call 15 4 0 0 0)) (negsuc 8) 15
    -- committed and prepared, after a rollback decision
    ∷ ends (timed (votes 0 3 0 ++ votes 1 0 0 ++ call 15 4 0 0 0)) (negsuc 2) 15
    -- no transaction: 23, before 34
    ∷ ends (opens ++ votes 9 9 9) (pos 23) 0
    ∷ ends (opens ++ votes 0 2 0) (pos 23) 0
    -- no manager 4
    ∷ ends (in_tx (votes 4 0 0)) (pos 34) 0
    -- c is 0 or 1
    ∷ ends (in_tx (votes 0 0 2)) (pos 34) 0
    -- chained, and a manager can't start
    ∷ ends (chained (votes 1 1 1 ++ commits)) (negsuc 99) 0
    -- then the party is in no transaction
    ∷ ends (chained (votes 1 1 1 ++ commits ++ call 0 6 0 0 0)) (pos 0) 0
    -- chained, a veto that can't start
    ∷ ends (chained (votes 1 2 1 ++ commits)) (negsuc 101) 0
    -- chained, and rolled back
    ∷ ends (chained (votes 1 0 1 ++ call 0 5 0 0 0)) (negsuc 99) 0
    -- unchained, whether one can start does not matter
    ∷ ends (in_tx (votes 1 0 1 ++ commits)) (pos 0) 0
    -- a chained new transaction has no reports
    ∷ ends (chained (votes 0 2 0 ++ commits ++ commits)) (pos 0) 0
    ∷ []

pub voted_holds : (k : ℕ) → k < length voted → Holds (get_or voted k fresh_begin)
unfolding every right pick same no_begin first_of any_of collect blanks owns served_tx tx_of is_owner deadline_of begin_tx end_of end_tx is_open_of can_commit
    report_is decides some_committed some_rolled_back vote_code code_after commit_code all_can_start state_of next_of in_state entered open_of begin_of go_on
    commit_of rollback_of info_of control_of timeout_of reports_good links_good party_good parties_good sound report_number report_of rule_of later_of answered_to
    turned_down call_of call_at places_of ran_of answers_of list_of
voted_holds k h = holds_right (get_or voted k fresh_begin) (entry right fresh_begin voted refl k h)
