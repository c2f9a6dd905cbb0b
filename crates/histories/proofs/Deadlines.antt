-- Timeouts, deadlines and chained transactions: histories whose answers the outside implementation made, and the same ones altered, spoilt or harmless.
-- Assumes nothing.
use Rattle.std.proofs.Common.{List, [], ◌∷◌, pos, negsuc}
use Rattle.histories.proofs.Rows.{Row, row, coded, without, commit, Spoilt, breaks, tx_open, tx_close, tx_begin, tx_commit, tx_rollback, tx_info}
use Rattle.histories.proofs.Rows.{tx_set_control, tx_set_timeout, tpadvertise, tpacall, dispatch, tpgetrply, tpreturn, terminate, no_kind}

-- timeout 10: begun at 5 and committed at 14, begun at 20 and too late at 30; malformed calls with a late clock in between
abbrev pub deadline : List Row
deadline =
    row 1 0 tx_open 0 0 0 (pos 0) 0 0 0 0 0
    ∷ row 1 0 tx_set_timeout 10 0 0 (pos 0) 0 0 0 0 0
    ∷ row 5 0 tx_begin 0 0 0 (pos 0) 0 0 0 0 1
    ∷ row 1000 16 tx_info 0 0 0 (pos 21) 0 0 0 0 0
    ∷ row 1000 0 no_kind 0 0 0 (pos 20) 0 0 0 0 0
    ∷ row 3 0 tx_info 0 0 0 (pos 1) 0 0 0 0 1
    ∷ row 14 0 tx_commit 0 0 0 (pos 0) 0 0 0 0 0
    ∷ row 20 0 tx_begin 0 0 0 (pos 0) 0 0 0 0 2
    ∷ row 3 0 tx_info 0 0 0 (pos 1) 0 0 0 0 2
    ∷ row 30 0 tx_commit 0 0 0 (negsuc 1) 0 0 0 0 0
    ∷ row 40 0 tx_begin 0 0 0 (pos 0) 0 0 0 0 3
    ∷ row 40 1 tx_open 0 0 0 (pos 0) 0 0 0 0 0
    ∷ row 60 1 tx_info 0 0 0 (pos 0) 0 0 0 0 0
    ∷ row 41 0 tx_commit 0 0 0 (negsuc 1) 0 0 0 0 0
    ∷ []

-- the timeout is the one at the start: a later one, a close and a death take it away
abbrev pub timeouts : List Row
timeouts =
    row 1 0 tx_open 0 0 0 (pos 0) 0 0 0 0 0
    ∷ row 1 0 tx_set_timeout 10 0 0 (pos 0) 0 0 0 0 0
    ∷ row 2 0 tx_begin 0 0 0 (pos 0) 0 0 0 0 1
    ∷ row 2 0 tx_set_timeout 0 0 0 (pos 0) 0 0 0 0 1
    ∷ row 12 0 tx_commit 0 0 0 (negsuc 1) 0 0 0 0 0
    ∷ row 12 0 tx_begin 0 0 0 (pos 0) 0 0 0 0 2
    ∷ row 13 0 tx_set_timeout 5 0 0 (pos 0) 0 0 0 0 2
    ∷ row 99 0 tx_commit 0 0 0 (pos 0) 0 0 0 0 0
    ∷ row 100 0 tx_close 0 0 0 (pos 0) 0 0 0 0 0
    ∷ row 100 0 tx_open 0 0 0 (pos 0) 0 0 0 0 0
    ∷ row 100 0 tx_begin 0 0 0 (pos 0) 0 0 0 0 3
    ∷ row 200 0 tx_commit 0 0 0 (pos 0) 0 0 0 0 0
    ∷ row 200 0 tx_set_timeout 5 0 0 (pos 0) 0 0 0 0 0
    ∷ row 201 0 terminate 0 0 0 (pos 0) 0 0 0 0 0
    ∷ row 202 0 tx_open 0 0 0 (pos 0) 0 0 0 0 0
    ∷ row 202 0 tx_begin 0 0 0 (pos 0) 0 0 0 0 4
    ∷ row 300 0 tx_commit 0 0 0 (pos 0) 0 0 0 0 0
    ∷ []

-- chained transactions: each begins as the one before ends, and its deadline counts from there
abbrev pub chained : List Row
chained =
    row 1 0 tx_open 0 0 0 (pos 0) 0 0 0 0 0
    ∷ row 1 1 tx_open 0 0 0 (pos 0) 0 0 0 0 0
    ∷ row 1 1 tpadvertise 7 0 0 (pos 0) 1 0 0 0 0
    ∷ row 9 0 tx_set_control 1 0 0 (pos 0) 0 0 0 0 0
    ∷ row 10 0 tx_begin 0 0 0 (pos 0) 0 0 0 0 1
    ∷ row 12 0 tx_set_timeout 20 0 0 (pos 0) 0 0 0 0 1
    ∷ row 15 0 tx_commit 0 0 0 (pos 0) 0 0 0 0 2
    ∷ row 34 0 tx_commit 0 0 0 (pos 0) 0 0 0 0 3
    ∷ row 35 0 tpacall 7 0 0 (pos 0) 1 0 0 0 3
    ∷ row 36 1 dispatch 0 0 0 (pos 0) 1 64 0 7 3
    ∷ row 37 1 tpreturn 2 0 0 (pos 0) 4 0 0 0 0
    ∷ row 38 0 tpgetrply 1 0 0 (pos 30) 0 0 0 0 3
    ∷ row 39 0 tx_commit 0 0 0 (negsuc 1) 0 0 0 0 4
    ∷ row 40 0 tx_rollback 0 0 0 (pos 0) 0 0 0 0 5
    ∷ row 60 0 tx_commit 0 0 0 (negsuc 1) 0 0 0 0 6
    ∷ row 61 0 tx_set_control 0 0 0 (pos 0) 0 0 0 0 6
    ∷ row 62 0 tx_commit 0 0 0 (pos 0) 0 0 0 0 0
    ∷ row 63 0 tx_commit 0 0 0 (negsuc 4) 0 0 0 0 0
    ∷ []

-- without a timeout there is no deadline
abbrev pub no_timeout : List Row
no_timeout =
    row 1 0 tx_open 0 0 0 (pos 0) 0 0 0 0 0
    ∷ row 1 0 tx_begin 0 0 0 (pos 0) 0 0 0 0 1
    ∷ row 4294967295 0 tx_commit 0 0 0 (pos 0) 0 0 0 0 0
    ∷ []

-- begun at clock 0 with a timeout of 1, and too late at 1
abbrev pub at_zero : List Row
at_zero =
    row 0 0 tx_open 0 0 0 (pos 0) 0 0 0 0 0
    ∷ row 0 0 tx_set_timeout 1 0 0 (pos 0) 0 0 0 0 0
    ∷ row 0 0 tx_begin 0 0 0 (pos 0) 0 0 0 0 1
    ∷ row 1 0 tx_commit 0 0 0 (negsuc 1) 0 0 0 0 0
    ∷ []

-- another party sets a timeout and closes, the owner's too long timeout and its close are refused, and it sets one after the start: its own 10 stands
abbrev pub others_timeouts : List Row
others_timeouts =
    row 1 3 tx_open 0 0 0 (pos 0) 0 0 0 0 0
    ∷ row 1 0 tx_open 0 0 0 (pos 0) 0 0 0 0 0
    ∷ row 1 3 tx_set_timeout 10 0 0 (pos 0) 0 0 0 0 0
    ∷ row 1 0 tx_set_timeout 50 0 0 (pos 0) 0 0 0 0 0
    ∷ row 1 3 tx_set_timeout 2147483648 0 0 (negsuc 7) 0 0 0 0 0
    ∷ row 2 3 tx_begin 0 0 0 (pos 0) 0 0 0 0 1
    ∷ row 3 3 tx_close 0 0 0 (negsuc 4) 0 0 0 0 1
    ∷ row 4 3 tx_commit 0 0 0 (pos 0) 0 0 0 0 0
    ∷ row 5 0 tx_close 0 0 0 (pos 0) 0 0 0 0 0
    ∷ row 5 3 tx_begin 0 0 0 (pos 0) 0 0 0 0 2
    ∷ row 6 3 tx_set_timeout 100 0 0 (pos 0) 0 0 0 0 2
    ∷ row 15 3 tx_commit 0 0 0 (negsuc 1) 0 0 0 0 0
    ∷ []

-- the first of a chain is rolled back for a request that waits, and the next is committed at once
abbrev pub chained_on : List Row
chained_on =
    row 1 0 tx_open 0 0 0 (pos 0) 0 0 0 0 0
    ∷ row 1 1 tpadvertise 7 0 0 (pos 0) 1 0 0 0 0
    ∷ row 1 0 tx_set_control 1 0 0 (pos 0) 0 0 0 0 0
    ∷ row 2 0 tx_begin 0 0 0 (pos 0) 0 0 0 0 1
    ∷ row 2 0 tpacall 7 0 0 (pos 0) 1 0 0 0 1
    ∷ row 3 0 tx_commit 0 0 0 (negsuc 1) 0 0 0 0 2
    ∷ row 3 0 tx_commit 0 0 0 (pos 0) 0 0 0 0 3
    ∷ []

-- ---- the tables
abbrev pub real : List (List Row)
real = deadline ∷ timeouts ∷ chained ∷ no_timeout ∷ at_zero ∷ others_timeouts ∷ chained_on ∷ []

abbrev pub spoilt : List Spoilt
spoilt =
    -- rolled back one second before the deadline
    breaks commit (coded 6 (negsuc 1) deadline)
    -- committed at the deadline
    ∷ breaks commit (coded 9 (pos 0) deadline)
    -- committed where another party's call was past the deadline
    ∷ breaks commit (coded 13 (pos 0) deadline)
    -- a call with a late clock that is not refused by question 21 makes the deadline pass
    ∷ breaks commit (coded 3 (pos 22) deadline)
    -- one that is not refused by question 20
    ∷ breaks commit (coded 4 (pos 22) deadline)
    -- committed late, as if the timeout that was set later counted
    ∷ breaks commit (coded 4 (pos 0) timeouts)
    -- rolled back, as if the timeout that was set later counted
    ∷ breaks commit (coded 7 (negsuc 1) timeouts)
    -- without the close the timeout of 5 stands, and 200 is too late
    ∷ breaks commit (without 8 timeouts)
    -- without the death the timeout of 5 stands, and 300 is too late
    ∷ breaks commit (without 13 timeouts)
    -- the second of the chain is rolled back in time
    ∷ breaks commit (coded 7 (negsuc 1) chained)
    -- the third of the chain is committed after a failed service
    ∷ breaks commit (coded 12 (pos 0) chained)
    -- the fifth of the chain is committed at its deadline
    ∷ breaks commit (coded 14 (pos 0) chained)
    -- the sixth is said to be rolled back, with no new one begun
    ∷ breaks commit (coded 16 (negsuc 101) chained)
    -- rolled back at the last clock, without a timeout
    ∷ breaks commit (coded 2 (negsuc 1) no_timeout)
    -- committed at its deadline, begun at clock 0
    ∷ breaks commit (coded 3 (pos 0) at_zero)
    -- committed late, as if a timeout of another's, a refused or a later one counted
    ∷ breaks commit (coded 11 (pos 0) others_timeouts)
    -- the second of a chain is rolled back for what the first left open
    ∷ breaks commit (coded 6 (negsuc 1) chained_on)
    ∷ []

-- altered where the statement says nothing or the same: it still holds
abbrev pub harmless : List (List Row)
harmless =
    -- a call with a late clock that is refused by question 19
    coded 3 (pos 19) deadline
    -- committed where the numbers are spent
    ∷ coded 16 (negsuc 99) chained
    ∷ []
