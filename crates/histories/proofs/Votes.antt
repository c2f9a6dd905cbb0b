-- The managers' reports: histories, written by hand and answered so by the outside implementation, and the same ones altered, spoilt or harmless.
-- Assumes nothing.
use Rattle.std.proofs.Common.{List, [], ◌∷◌, pos, negsuc}
use Rattle.histories.proofs.Rows.{Row, row, coded, showing, asked, without, kind_field, a_field, b_field, tx_field}
use Rattle.histories.proofs.Rows.{commit, Spoilt, breaks, tx_open, tx_begin, tx_commit, tx_set_control, tpadvertise}
use Rattle.histories.proofs.Rows.{tpacall, dispatch, tpgetrply, tpreturn, report}

-- a veto replaced by prepared, beside read-only and heuristically committed: committed
abbrev pub veto_replaced : List Row
veto_replaced =
    row 1 0 tx_open 0 0 0 (pos 0) 0 0 0 0 0
    ∷ row 1 0 tx_begin 0 0 0 (pos 0) 0 0 0 0 1
    ∷ row 2 0 report 0 2 0 (pos 0) 0 0 0 0 1
    ∷ row 2 0 report 1 1 0 (pos 0) 0 0 0 0 1
    ∷ row 3 0 report 0 0 0 (pos 0) 0 0 0 0 1
    ∷ row 3 0 report 3 3 0 (pos 0) 0 0 0 0 1
    ∷ row 4 0 tx_commit 0 0 0 (pos 0) 0 0 0 0 0
    ∷ []

-- each manager vetoed once, in a transaction of its own; the reports of one do not count in the next
abbrev pub vetoes : List Row
vetoes =
    row 1 0 tx_open 0 0 0 (pos 0) 0 0 0 0 0
    ∷ row 1 0 tx_set_control 1 0 0 (pos 0) 0 0 0 0 0
    ∷ row 1 0 tx_begin 0 0 0 (pos 0) 0 0 0 0 1
    ∷ row 2 0 report 0 2 0 (pos 0) 0 0 0 0 1
    ∷ row 2 0 tx_commit 0 0 0 (negsuc 1) 0 0 0 0 2
    ∷ row 3 0 report 1 2 0 (pos 0) 0 0 0 0 2
    ∷ row 3 0 tx_commit 0 0 0 (negsuc 1) 0 0 0 0 3
    ∷ row 4 0 report 2 2 0 (pos 0) 0 0 0 0 3
    ∷ row 4 0 tx_commit 0 0 0 (negsuc 1) 0 0 0 0 4
    ∷ row 5 0 report 3 2 0 (pos 0) 0 0 0 0 4
    ∷ row 5 0 tx_commit 0 0 0 (negsuc 1) 0 0 0 0 5
    ∷ row 6 0 tx_commit 0 0 0 (pos 0) 0 0 0 0 6
    ∷ []

-- rolled back, mixed and hazard by heuristics; then one that can't start a new transaction: committed, and no new one
abbrev pub heuristics : List Row
heuristics =
    row 1 0 tx_open 0 0 0 (pos 0) 0 0 0 0 0
    ∷ row 1 0 tx_set_control 1 0 0 (pos 0) 0 0 0 0 0
    ∷ row 1 0 tx_begin 0 0 0 (pos 0) 0 0 0 0 1
    ∷ row 2 0 report 0 4 0 (pos 0) 0 0 0 0 1
    ∷ row 2 0 tx_commit 0 0 0 (negsuc 1) 0 0 0 0 2
    ∷ row 3 0 report 1 5 0 (pos 0) 0 0 0 0 2
    ∷ row 3 0 tx_commit 0 0 0 (negsuc 2) 0 0 0 0 3
    ∷ row 4 0 report 2 6 0 (pos 0) 0 0 0 0 3
    ∷ row 4 0 tx_commit 0 0 0 (negsuc 3) 0 0 0 0 4
    ∷ row 5 0 report 3 0 1 (pos 0) 0 0 0 0 4
    ∷ row 5 0 tx_commit 0 0 0 (negsuc 99) 0 0 0 0 0
    ∷ []

-- what is refused does not count: a report outside a transaction, one by the server of a link, one of no manager, an unknown one
abbrev pub refused_reports : List Row
refused_reports =
    row 1 0 tx_open 0 0 0 (pos 0) 0 0 0 0 0
    ∷ row 1 1 tx_open 0 0 0 (pos 0) 0 0 0 0 0
    ∷ row 1 1 tpadvertise 7 0 0 (pos 0) 1 0 0 0 0
    ∷ row 1 0 report 0 2 0 (pos 23) 0 0 0 0 0
    ∷ row 2 0 tx_begin 0 0 0 (pos 0) 0 0 0 0 1
    ∷ row 2 0 tpacall 7 0 0 (pos 0) 1 0 0 0 1
    ∷ row 3 1 dispatch 0 0 0 (pos 0) 1 64 0 7 1
    ∷ row 3 1 report 0 2 0 (pos 23) 0 0 0 0 1
    ∷ row 4 1 tpreturn 1 0 0 (pos 0) 8 0 0 0 0
    ∷ row 5 0 tpgetrply 1 0 0 (pos 0) 0 0 0 0 1
    ∷ row 5 0 report 4 2 0 (pos 34) 0 0 0 0 1
    ∷ row 5 0 report 0 7 0 (pos 34) 0 0 0 0 1
    ∷ row 6 0 tx_commit 0 0 0 (pos 0) 0 0 0 0 0
    ∷ []

-- a veto in one party's transaction, none in the other's
abbrev pub two_owners : List Row
two_owners =
    row 1 0 tx_open 0 0 0 (pos 0) 0 0 0 0 0
    ∷ row 1 1 tx_open 0 0 0 (pos 0) 0 0 0 0 0
    ∷ row 1 0 tx_begin 0 0 0 (pos 0) 0 0 0 0 1
    ∷ row 1 1 tx_begin 0 0 0 (pos 0) 0 0 0 0 2
    ∷ row 2 0 report 0 2 0 (pos 0) 0 0 0 0 1
    ∷ row 2 1 report 0 0 0 (pos 0) 0 0 0 0 2
    ∷ row 3 1 tx_commit 0 0 0 (pos 0) 0 0 0 0 0
    ∷ row 3 0 tx_commit 0 0 0 (negsuc 1) 0 0 0 0 0
    ∷ []

-- ---- the tables
abbrev pub real : List (List Row)
real = veto_replaced ∷ vetoes ∷ heuristics ∷ refused_reports ∷ two_owners ∷ []

abbrev pub spoilt : List Spoilt
spoilt =
    -- committed, though the veto was not replaced
    breaks commit (without 4 veto_replaced)
    -- committed, though another manager's report replaced nothing
    ∷ breaks commit (asked 4 a_field 2 veto_replaced)
    -- committed, though the veto came last
    ∷ breaks commit (asked 4 b_field 2 veto_replaced)
    -- rolled back, though no report stands against it
    ∷ breaks commit (coded 6 (negsuc 1) veto_replaced)
    -- committed with a veto, of each manager
    ∷ breaks commit (coded 4 (pos 0) vetoes)
    ∷ breaks commit (coded 6 (pos 0) vetoes)
    ∷ breaks commit (coded 8 (pos 0) vetoes)
    ∷ breaks commit (coded 10 (pos 0) vetoes)
    -- rolled back with the reports of another transaction
    ∷ breaks commit (coded 11 (negsuc 1) vetoes)
    -- rolled back by a manager that is none of the four
    ∷ breaks commit (asked 9 a_field 4 vetoes)
    -- committed with a heuristic against it, of each sort
    ∷ breaks commit (coded 4 (pos 0) heuristics)
    ∷ breaks commit (coded 6 (pos 0) heuristics)
    ∷ breaks commit (coded 8 (pos 0) heuristics)
    -- rolled back, mixed and hazard with a report that is not against it
    ∷ breaks commit (asked 3 b_field 3 heuristics)
    ∷ breaks commit (asked 5 b_field 0 heuristics)
    ∷ breaks commit (asked 7 b_field 1 heuristics)
    -- a manager that can't start counts as committed all the same
    ∷ breaks commit (coded 10 (negsuc 101) heuristics)
    -- rolled back by reports that were refused
    ∷ breaks commit (coded 12 (negsuc 1) refused_reports)
    -- committed, though the veto was accepted: by a server, and by the owner
    ∷ breaks commit (coded 7 (pos 0) refused_reports)
    ∷ breaks commit (asked 11 b_field 2 (coded 11 (pos 0) refused_reports))
    -- committed with a veto, in either transaction
    ∷ breaks commit (coded 7 (pos 0) two_owners)
    ∷ breaks commit (asked 5 b_field 2 two_owners)
    -- committed, though the veto is said to be of it
    ∷ breaks commit (showing 4 tx_field 2 (without 5 two_owners))
    ∷ []

-- altered where the statement says nothing or the same: it still holds
abbrev pub harmless : List (List Row)
harmless =
    -- another number in the place of the code of a commit that is not committed
    coded 4 (negsuc 3) vetoes
    -- a veto by a call of another kind
    ∷ asked 3 kind_field 6 (coded 4 (pos 0) vetoes)
    -- some other report that is not against it
    ∷ asked 5 b_field 0 veto_replaced
    -- a veto of a fifth manager
    ∷ asked 5 a_field 4 (asked 5 b_field 2 veto_replaced)
    ∷ []
