-- Wrong rules: for each edit of crates/rules/must-fail that a history can show, a history as the wrong rule answers it.
-- The outside implementation made the answers, with that fault planted, each history as one lent list; the names are the edits'.
-- Its program `faulty` prints them; where that is another fault's list too, one with another reason stands here.
-- Assumes nothing.
use Rattle.std.proofs.Common.{List, [], ◌∷◌, pos, negsuc}
use Rattle.histories.proofs.Rows.{Row, row, sender, commit, Spoilt, breaks, tx_open, tx_begin, tx_commit, tx_set_timeout, tpadvertise}
use Rattle.histories.proofs.Rows.{tpacall, tpconnect, dispatch, tpgetrply, tpsend, tprecv, tpdiscon, tpreturn, terminate, report}

-- ---- the commit
-- a commit that would be committed gives −2: rolled back with nothing against it
abbrev pub always_rolls_back : List Row
always_rolls_back =
    row 0 0 tx_open 0 0 0 (pos 0) 0 0 0 0 0
    ∷ row 0 0 tx_begin 0 0 0 (pos 0) 0 0 0 0 1
    ∷ row 0 0 tx_commit 0 0 0 (negsuc 1) 0 0 0 0 0
    ∷ []

-- a commit does not ask whether the transaction is rollback-only: committed after its service died
abbrev pub commit_ignores_rollback_only : List Row
commit_ignores_rollback_only =
    row 0 0 tx_open 0 0 0 (pos 0) 0 0 0 0 0
    ∷ row 0 1 tx_open 0 0 0 (pos 0) 0 0 0 0 0
    ∷ row 0 1 tpadvertise 7 0 0 (pos 0) 1 0 0 0 0
    ∷ row 0 0 tx_begin 0 0 0 (pos 0) 0 0 0 0 1
    ∷ row 0 0 tpacall 7 0 0 (pos 0) 1 0 0 0 1
    ∷ row 0 1 dispatch 0 0 0 (pos 0) 1 64 0 7 1
    ∷ row 0 1 terminate 0 0 0 (pos 0) 2 0 0 0 0
    ∷ row 0 0 tpgetrply 1 0 0 (pos 31) 0 0 0 0 1
    ∷ row 0 0 tx_commit 0 0 0 (pos 0) 0 0 0 0 0
    ∷ []

-- a commit does not ask whether the deadline has come: committed a second past it
abbrev pub commit_ignores_deadline : List Row
commit_ignores_deadline =
    row 0 0 tx_open 0 0 0 (pos 0) 0 0 0 0 0
    ∷ row 0 0 tx_set_timeout 1 0 0 (pos 0) 0 0 0 0 0
    ∷ row 0 0 tx_begin 0 0 0 (pos 0) 0 0 0 0 1
    ∷ row 2 0 tx_commit 0 0 0 (pos 0) 0 0 0 0 0
    ∷ []

-- a commit does not ask for open originator ends: committed with a request unfinished
abbrev pub commit_ignores_open_ends : List Row
commit_ignores_open_ends =
    row 0 0 tx_open 0 0 0 (pos 0) 0 0 0 0 0
    ∷ row 0 0 tpadvertise 7 0 0 (pos 0) 1 0 0 0 0
    ∷ row 0 0 tx_begin 0 0 0 (pos 0) 0 0 0 0 1
    ∷ row 0 0 tpacall 7 0 0 (pos 0) 1 0 0 0 1
    ∷ row 0 0 tx_commit 0 0 0 (pos 0) 0 0 0 0 0
    ∷ []

-- ---- deadlines and the clock
-- expired only where the clock is past the deadline: committed at the deadline
abbrev pub deadline_only_past : List Row
deadline_only_past =
    row 0 0 tx_open 0 0 0 (pos 0) 0 0 0 0 0
    ∷ row 0 0 tx_set_timeout 1 0 0 (pos 0) 0 0 0 0 0
    ∷ row 0 0 tx_begin 0 0 0 (pos 0) 0 0 0 0 1
    ∷ row 1 0 tx_commit 0 0 0 (pos 0) 0 0 0 0 0
    ∷ []

-- the clock becomes the call's: the deadline counts from 0, where the greatest clock was 1, and the commit is rolled back in time
abbrev pub clock_goes_back : List Row
clock_goes_back =
    row 0 0 tx_open 0 0 0 (pos 0) 0 0 0 0 0
    ∷ row 1 0 tx_set_timeout 1 0 0 (pos 0) 0 0 0 0 0
    ∷ row 0 0 tx_begin 0 0 0 (pos 0) 0 0 0 0 1
    ∷ row 1 0 tx_commit 0 0 0 (negsuc 1) 0 0 0 0 0
    ∷ []

-- a call refused with 20 moves the clock: rolled back in time
abbrev pub clock_moved_by_unknown_kind : List Row
clock_moved_by_unknown_kind =
    row 0 0 tx_open 0 0 0 (pos 0) 0 0 0 0 0
    ∷ row 0 0 tx_set_timeout 1 0 0 (pos 0) 0 0 0 0 0
    ∷ row 0 0 tx_begin 0 0 0 (pos 0) 0 0 0 0 1
    ∷ row 1 0 99 0 0 0 (pos 20) 0 0 0 0 0
    ∷ row 0 0 tx_commit 0 0 0 (negsuc 1) 0 0 0 0 0
    ∷ []

-- a call refused with 21 moves the clock: rolled back in time
abbrev pub clock_moved_by_unknown_party : List Row
clock_moved_by_unknown_party =
    row 0 0 tx_open 0 0 0 (pos 0) 0 0 0 0 0
    ∷ row 0 0 tx_set_timeout 1 0 0 (pos 0) 0 0 0 0 0
    ∷ row 0 0 tx_begin 0 0 0 (pos 0) 0 0 0 0 1
    ∷ row 1 16 tx_commit 0 0 0 (pos 21) 0 0 0 0 0
    ∷ row 0 0 tx_commit 0 0 0 (negsuc 1) 0 0 0 0 0
    ∷ []

-- ---- what makes a transaction rollback-only
-- a rollback-only transaction's owner has no mark: committed after its conversation failed
abbrev pub rollback_only_leaves_no_mark : List Row
rollback_only_leaves_no_mark =
    row 0 0 tx_open 0 0 0 (pos 0) 0 0 0 0 0
    ∷ row 0 1 tx_open 0 0 0 (pos 0) 0 0 0 0 0
    ∷ row 0 1 tpadvertise 7 0 0 (pos 0) 1 0 0 0 0
    ∷ row 0 0 tx_begin 0 0 0 (pos 0) 0 0 0 0 1
    ∷ row 0 0 tpconnect 7 4 0 (pos 0) 1 0 0 0 1
    ∷ row 0 1 dispatch 0 0 0 (pos 0) 1 65 0 7 1
    ∷ row 0 1 tpreturn 2 0 0 (pos 0) 4 0 0 0 0
    ∷ row 0 0 tprecv 1 0 0 (pos 29) 0 4 0 0 1
    ∷ row 0 0 tx_commit 0 0 0 (pos 0) 0 0 0 0 0
    ∷ []

-- outcome 4 leaves T as it was: committed after its request failed
abbrev pub fail_marks_nothing : List Row
fail_marks_nothing =
    row 0 0 tx_open 0 0 0 (pos 0) 0 0 0 0 0
    ∷ row 0 1 tx_open 0 0 0 (pos 0) 0 0 0 0 0
    ∷ row 0 1 tpadvertise 7 0 0 (pos 0) 1 0 0 0 0
    ∷ row 0 0 tx_begin 0 0 0 (pos 0) 0 0 0 0 1
    ∷ row 0 0 tpacall 7 0 0 (pos 0) 1 0 0 0 1
    ∷ row 0 1 dispatch 0 0 0 (pos 0) 1 64 0 7 1
    ∷ row 0 1 tpreturn 2 0 0 (pos 0) 4 0 0 0 0
    ∷ row 0 0 tpgetrply 1 0 0 (pos 30) 0 0 0 0 1
    ∷ row 0 0 tx_commit 0 0 0 (pos 0) 0 0 0 0 0
    ∷ []

-- a return makes T rollback-only by no outcome: committed after a return out of turn, outcome 2
abbrev pub failed_return_marks_nothing : List Row
failed_return_marks_nothing =
    row 0 0 tx_open 0 0 0 (pos 0) 0 0 0 0 0
    ∷ row 0 1 tx_open 0 0 0 (pos 0) 0 0 0 0 0
    ∷ row 0 1 tpadvertise 7 0 0 (pos 0) 1 0 0 0 0
    ∷ row 0 0 tx_begin 0 0 0 (pos 0) 0 0 0 0 1
    ∷ row 0 0 tpconnect 7 4 0 (pos 0) 1 0 0 0 1
    ∷ row 0 1 dispatch 0 0 0 (pos 0) 1 65 0 7 1
    ∷ row 0 1 tpreturn 1 0 0 (pos 0) 2 0 0 0 0
    ∷ row 0 0 tprecv 1 0 0 (pos 29) 0 2 0 0 1
    ∷ row 0 0 tx_commit 0 0 0 (pos 0) 0 0 0 0 0
    ∷ []

-- a party that dies leaves its served link as by success: committed after its death
abbrev pub death_marks_nothing : List Row
death_marks_nothing =
    row 0 0 tx_open 0 0 0 (pos 0) 0 0 0 0 0
    ∷ row 0 1 tx_open 0 0 0 (pos 0) 0 0 0 0 0
    ∷ row 0 1 tpadvertise 7 0 0 (pos 0) 1 0 0 0 0
    ∷ row 0 0 tx_begin 0 0 0 (pos 0) 0 0 0 0 1
    ∷ row 0 0 tpacall 7 0 0 (pos 0) 1 0 0 0 1
    ∷ row 0 1 dispatch 0 0 0 (pos 0) 1 64 0 7 1
    ∷ row 0 1 terminate 0 0 0 (pos 0) 2 0 0 0 0
    ∷ row 0 0 tpgetrply 1 0 0 (pos 0) 0 0 0 0 1
    ∷ row 0 0 tx_commit 0 0 0 (pos 0) 0 0 0 0 0
    ∷ []

-- a disconnect leaves T as it was: committed after it
abbrev pub disconnect_marks_nothing : List Row
disconnect_marks_nothing =
    row 0 0 tx_open 0 0 0 (pos 0) 0 0 0 0 0
    ∷ row 0 0 tpadvertise 7 0 0 (pos 0) 1 0 0 0 0
    ∷ row 0 0 tx_begin 0 0 0 (pos 0) 0 0 0 0 1
    ∷ row 0 0 tpconnect 7 4 0 (pos 0) 1 0 0 0 1
    ∷ row 0 0 tpdiscon 1 0 0 (pos 0) 0 0 0 0 1
    ∷ row 0 0 tx_commit 0 0 0 (pos 0) 0 0 0 0 0
    ∷ []

-- a party with open originator ends returns with the outcome that it asks for: committed with its request unfinished
abbrev pub success_with_open_ends : List Row
success_with_open_ends =
    row 0 0 tx_open 0 0 0 (pos 0) 0 0 0 0 0
    ∷ row 0 1 tx_open 0 0 0 (pos 0) 0 0 0 0 0
    ∷ row 0 1 tpadvertise 7 0 0 (pos 0) 1 0 0 0 0
    ∷ row 0 0 tx_begin 0 0 0 (pos 0) 0 0 0 0 1
    ∷ row 0 0 tpacall 7 0 0 (pos 0) 1 0 0 0 1
    ∷ row 0 1 dispatch 0 0 0 (pos 0) 1 64 0 7 1
    ∷ row 0 1 tpacall 7 0 0 (pos 0) 2 0 0 0 1
    ∷ row 0 1 tpreturn 1 0 0 (pos 0) 8 0 0 0 0
    ∷ row 0 0 tpgetrply 1 0 0 (pos 0) 0 0 0 0 1
    ∷ row 0 0 tx_commit 0 0 0 (pos 0) 0 0 0 0 0
    ∷ []

-- ---- links and numbers
-- a fetch that is refused with 36 removes the link: committed with the request unfinished
abbrev pub early_fetch_removes_link : List Row
early_fetch_removes_link =
    row 0 0 tx_open 0 0 0 (pos 0) 0 0 0 0 0
    ∷ row 0 0 tpadvertise 7 0 0 (pos 0) 1 0 0 0 0
    ∷ row 0 0 tx_begin 0 0 0 (pos 0) 0 0 0 0 1
    ∷ row 0 0 tpacall 7 0 0 (pos 0) 1 0 0 0 1
    ∷ row 0 0 tpgetrply 1 0 0 (pos 36) 0 0 0 0 1
    ∷ row 0 0 tx_commit 0 0 0 (pos 0) 0 0 0 0 0
    ∷ []

-- a fetched link stays: rolled back with nothing against it
abbrev pub fetch_leaves_link : List Row
fetch_leaves_link =
    row 0 0 tx_open 0 0 0 (pos 0) 0 0 0 0 0
    ∷ row 0 1 tx_open 0 0 0 (pos 0) 0 0 0 0 0
    ∷ row 0 1 tpadvertise 7 0 0 (pos 0) 1 0 0 0 0
    ∷ row 0 0 tx_begin 0 0 0 (pos 0) 0 0 0 0 1
    ∷ row 0 0 tpacall 7 0 0 (pos 0) 1 0 0 0 1
    ∷ row 0 1 dispatch 0 0 0 (pos 0) 1 64 0 7 1
    ∷ row 0 1 tpreturn 1 0 0 (pos 0) 8 0 0 0 0
    ∷ row 0 0 tpgetrply 1 0 0 (pos 0) 0 0 0 0 1
    ∷ row 0 0 tx_commit 0 0 0 (negsuc 1) 0 0 0 0 0
    ∷ []

-- a fetch of whichever reply has the value 0: committed, and no fetch names the request
abbrev pub any_fetch_names_no_link : List Row
any_fetch_names_no_link =
    row 0 0 tx_open 0 0 0 (pos 0) 0 0 0 0 0
    ∷ row 0 1 tx_open 0 0 0 (pos 0) 0 0 0 0 0
    ∷ row 0 1 tpadvertise 7 0 0 (pos 0) 1 0 0 0 0
    ∷ row 0 0 tx_begin 0 0 0 (pos 0) 0 0 0 0 1
    ∷ row 0 0 tpacall 7 0 0 (pos 0) 1 0 0 0 1
    ∷ row 0 1 dispatch 0 0 0 (pos 0) 1 64 0 7 1
    ∷ row 0 1 tpreturn 1 0 0 (pos 0) 8 0 0 0 0
    ∷ row 0 0 tpgetrply 0 1 0 (pos 0) 0 0 0 0 1
    ∷ row 0 0 tx_commit 0 0 0 (pos 0) 0 0 0 0 0
    ∷ []

-- a link stays whose reply was fetched as whichever is there: rolled back with nothing against it
abbrev pub any_fetch_leaves_link : List Row
any_fetch_leaves_link =
    row 0 0 tx_open 0 0 0 (pos 0) 0 0 0 0 0
    ∷ row 0 1 tx_open 0 0 0 (pos 0) 0 0 0 0 0
    ∷ row 0 1 tpadvertise 7 0 0 (pos 0) 1 0 0 0 0
    ∷ row 0 0 tx_begin 0 0 0 (pos 0) 0 0 0 0 1
    ∷ row 0 0 tpacall 7 0 0 (pos 0) 1 0 0 0 1
    ∷ row 0 1 dispatch 0 0 0 (pos 0) 1 64 0 7 1
    ∷ row 0 1 tpreturn 1 0 0 (pos 0) 8 0 0 0 0
    ∷ row 0 0 tpgetrply 0 1 0 (pos 0) 1 0 0 0 1
    ∷ row 0 0 tx_commit 0 0 0 (negsuc 1) 0 0 0 0 0
    ∷ []

-- a new link does not raise the last link number: two conversations are link 1, and both originators send on it.
-- Only a lent list shows it: the record is not sound after the first link, and single calls are answered 19 from there
abbrev pub link_numbers_reused : List Row
link_numbers_reused =
    row 0 2 tpadvertise 7 0 0 (pos 0) 1 0 0 0 0
    ∷ row 0 0 tpconnect 7 4 0 (pos 0) 1 0 0 0 0
    ∷ row 0 0 tpsend 1 0 0 (pos 0) 0 0 0 0 0
    ∷ row 0 0 tpdiscon 1 0 0 (pos 0) 0 0 0 0 0
    ∷ row 0 1 tpconnect 7 4 0 (pos 0) 1 0 0 0 0
    ∷ row 0 1 tpsend 1 0 0 (pos 0) 0 0 0 0 0
    ∷ []

-- a begin does not raise the last transaction number: both are in transaction 1, and who began it first may not commit
abbrev pub transaction_numbers_reused : List Row
transaction_numbers_reused =
    row 0 0 tx_open 0 0 0 (pos 0) 0 0 0 0 0
    ∷ row 0 1 tx_open 0 0 0 (pos 0) 0 0 0 0 0
    ∷ row 0 1 tx_begin 0 0 0 (pos 0) 0 0 0 0 1
    ∷ row 0 0 tx_begin 0 0 0 (pos 0) 0 0 0 0 1
    ∷ row 0 1 tx_commit 0 0 0 (negsuc 4) 0 0 0 0 1
    ∷ []

-- ---- turns
-- either end may send while the grant is under way: the new end sends before event 32
abbrev pub new_end_sends_early : List Row
new_end_sends_early =
    row 0 1 tx_open 0 0 0 (pos 0) 0 0 0 0 0
    ∷ row 0 1 tpadvertise 7 0 0 (pos 0) 1 0 0 0 0
    ∷ row 0 0 tpconnect 7 4 0 (pos 0) 1 0 0 0 0
    ∷ row 0 0 tpsend 1 1 0 (pos 0) 0 0 0 0 0
    ∷ row 0 1 dispatch 0 0 0 (pos 0) 1 65 0 7 0
    ∷ row 0 1 tpsend 1 0 0 (pos 0) 0 0 0 0 0
    ∷ []

-- the grant is received with code 0 and event 0: the new end sends without event 32
abbrev pub turn_without_event : List Row
turn_without_event =
    row 0 1 tx_open 0 0 0 (pos 0) 0 0 0 0 0
    ∷ row 0 1 tpadvertise 7 0 0 (pos 0) 1 0 0 0 0
    ∷ row 0 0 tpconnect 7 4 0 (pos 0) 1 0 0 0 0
    ∷ row 0 0 tpsend 1 1 0 (pos 0) 0 0 0 0 0
    ∷ row 0 1 dispatch 0 0 0 (pos 0) 1 65 0 7 0
    ∷ row 0 1 tprecv 1 0 0 (pos 0) 0 0 0 0 0
    ∷ row 0 1 tpsend 1 0 0 (pos 0) 0 0 0 0 0
    ∷ []

-- ---- the managers' reports
-- a veto neither decides nor counts: committed with one
abbrev pub veto_counts_for_nothing : List Row
veto_counts_for_nothing =
    row 0 0 tx_open 0 0 0 (pos 0) 0 0 0 0 0
    ∷ row 0 0 tx_begin 0 0 0 (pos 0) 0 0 0 0 1
    ∷ row 0 0 report 0 2 0 (pos 0) 0 0 0 0 1
    ∷ row 0 0 tx_commit 0 0 0 (pos 0) 0 0 0 0 0
    ∷ []

-- a hazard gives 0: committed with a standing report against it
abbrev pub hazard_is_good : List Row
hazard_is_good =
    row 0 0 tx_open 0 0 0 (pos 0) 0 0 0 0 0
    ∷ row 0 0 tx_begin 0 0 0 (pos 0) 0 0 0 0 1
    ∷ row 0 0 report 0 6 0 (pos 0) 0 0 0 0 1
    ∷ row 0 0 tx_commit 0 0 0 (pos 0) 0 0 0 0 0
    ∷ []

-- all rolled back gives 0 after a commit decision
abbrev pub rolled_back_commits : List Row
rolled_back_commits =
    row 0 0 tx_open 0 0 0 (pos 0) 0 0 0 0 0
    ∷ row 0 0 tx_begin 0 0 0 (pos 0) 0 0 0 0 1
    ∷ row 0 0 report 0 4 0 (pos 0) 0 0 0 0 1
    ∷ row 0 0 tx_commit 0 0 0 (pos 0) 0 0 0 0 0
    ∷ []

-- a later report does not replace an earlier one: committed with a veto
abbrev pub first_report_stands : List Row
first_report_stands =
    row 0 0 tx_open 0 0 0 (pos 0) 0 0 0 0 0
    ∷ row 0 0 tx_begin 0 0 0 (pos 0) 0 0 0 0 1
    ∷ row 0 0 report 0 0 0 (pos 0) 0 0 0 0 1
    ∷ row 0 0 report 0 2 0 (pos 0) 0 0 0 0 1
    ∷ row 0 0 tx_commit 0 0 0 (pos 0) 0 0 0 0 0
    ∷ []

-- reports outlive their transaction: the next one is rolled back by a veto of the last
abbrev pub reports_stay : List Row
reports_stay =
    row 0 0 tx_open 0 0 0 (pos 0) 0 0 0 0 0
    ∷ row 0 0 tx_begin 0 0 0 (pos 0) 0 0 0 0 1
    ∷ row 0 0 report 0 2 0 (pos 0) 0 0 0 0 1
    ∷ row 0 0 tx_commit 0 0 0 (negsuc 1) 0 0 0 0 0
    ∷ row 0 0 tx_begin 0 0 0 (pos 0) 0 0 0 0 2
    ∷ row 0 0 tx_commit 0 0 0 (negsuc 1) 0 0 0 0 0
    ∷ []

-- a report is taken from a party that is not the owner: a veto before there is a transaction rolls the next one back
abbrev pub anyone_reports : List Row
anyone_reports =
    row 0 0 tx_open 0 0 0 (pos 0) 0 0 0 0 0
    ∷ row 0 0 report 0 2 0 (pos 0) 0 0 0 0 0
    ∷ row 0 0 tx_begin 0 0 0 (pos 0) 0 0 0 0 1
    ∷ row 0 0 tx_commit 0 0 0 (negsuc 1) 0 0 0 0 0
    ∷ []

-- ---- the table
abbrev pub faulty : List Spoilt
faulty =
    breaks commit always_rolls_back
    ∷ breaks commit commit_ignores_rollback_only
    ∷ breaks commit commit_ignores_deadline
    ∷ breaks commit commit_ignores_open_ends
    ∷ breaks commit deadline_only_past
    ∷ breaks commit clock_goes_back
    ∷ breaks commit clock_moved_by_unknown_kind
    ∷ breaks commit clock_moved_by_unknown_party
    ∷ breaks commit rollback_only_leaves_no_mark
    ∷ breaks commit fail_marks_nothing
    ∷ breaks commit failed_return_marks_nothing
    ∷ breaks commit death_marks_nothing
    ∷ breaks commit disconnect_marks_nothing
    ∷ breaks commit success_with_open_ends
    ∷ breaks commit early_fetch_removes_link
    ∷ breaks commit fetch_leaves_link
    ∷ breaks commit any_fetch_names_no_link
    ∷ breaks commit any_fetch_leaves_link
    ∷ breaks sender link_numbers_reused
    ∷ breaks commit transaction_numbers_reused
    ∷ breaks sender new_end_sends_early
    ∷ breaks sender turn_without_event
    ∷ breaks commit veto_counts_for_nothing
    ∷ breaks commit hazard_is_good
    ∷ breaks commit rolled_back_commits
    ∷ breaks commit first_report_stands
    ∷ breaks commit reports_stay
    ∷ breaks commit anyone_reports
    ∷ []
