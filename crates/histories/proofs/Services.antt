-- Requests and their services: histories whose answers the outside implementation made, and the same ones altered, spoilt or harmless.
-- Assumes nothing.
use Rattle.std.proofs.Common.{List, [], ◌∷◌, pos, negsuc}
use Rattle.histories.proofs.Rows.{Row, row, coded, showing, asked, without, value_field, tx_field, party_field, b_field}
use Rattle.histories.proofs.Rows.{commit, alone, Spoilt, breaks, tx_open, tx_begin, tx_commit, tx_rollback, tpadvertise}
use Rattle.histories.proofs.Rows.{tpacall, dispatch, tpgetrply, tpcancel, tpreturn, terminate}

-- a service calls another in the same transaction, and all end well; the servers commits are refused
abbrev pub nested : List Row
nested =
    row 1 0 tx_open 0 0 0 (pos 0) 0 0 0 0 0
    ∷ row 1 1 tx_open 0 0 0 (pos 0) 0 0 0 0 0
    ∷ row 1 1 tpadvertise 7 0 0 (pos 0) 1 0 0 0 0
    ∷ row 1 2 tx_open 0 0 0 (pos 0) 0 0 0 0 0
    ∷ row 1 2 tpadvertise 8 0 0 (pos 0) 1 0 0 0 0
    ∷ row 2 0 tx_begin 0 0 0 (pos 0) 0 0 0 0 1
    ∷ row 2 0 tpacall 7 0 70 (pos 0) 1 0 0 0 1
    ∷ row 3 1 dispatch 0 0 0 (pos 0) 1 64 70 7 1
    ∷ row 3 1 tx_commit 0 0 0 (negsuc 4) 0 0 0 0 1
    ∷ row 3 1 tpacall 8 0 80 (pos 0) 2 0 0 0 1
    ∷ row 4 2 dispatch 0 0 0 (pos 0) 2 64 80 8 1
    ∷ row 4 2 tx_rollback 0 0 0 (negsuc 4) 0 0 0 0 1
    ∷ row 5 2 tpreturn 1 0 81 (pos 0) 8 0 0 0 0
    ∷ row 6 1 tpgetrply 2 0 0 (pos 0) 0 0 81 0 1
    ∷ row 7 1 tpreturn 1 0 71 (pos 0) 8 0 0 0 0
    ∷ row 8 0 tpgetrply 1 0 0 (pos 0) 0 0 71 0 1
    ∷ row 9 0 tx_commit 0 0 0 (pos 0) 0 0 0 0 0
    ∷ []

-- a service fails, and the next transaction is not touched by it
abbrev pub failing : List Row
failing =
    row 1 0 tx_open 0 0 0 (pos 0) 0 0 0 0 0
    ∷ row 1 1 tx_open 0 0 0 (pos 0) 0 0 0 0 0
    ∷ row 1 1 tpadvertise 7 0 0 (pos 0) 1 0 0 0 0
    ∷ row 2 0 tx_begin 0 0 0 (pos 0) 0 0 0 0 1
    ∷ row 2 0 tpacall 7 0 0 (pos 0) 1 0 0 0 1
    ∷ row 3 1 dispatch 0 0 0 (pos 0) 1 64 0 7 1
    ∷ row 3 1 tpreturn 2 0 9 (pos 0) 4 0 0 0 0
    ∷ row 4 0 tpgetrply 1 0 0 (pos 30) 0 0 9 0 1
    ∷ row 4 0 tx_commit 0 0 0 (negsuc 1) 0 0 0 0 0
    ∷ row 5 0 tx_begin 0 0 0 (pos 0) 0 0 0 0 2
    ∷ row 5 0 tpacall 7 0 0 (pos 0) 2 0 0 0 2
    ∷ row 6 1 dispatch 0 0 0 (pos 0) 2 64 0 7 2
    ∷ row 6 1 tpreturn 1 0 0 (pos 0) 8 0 0 0 0
    ∷ row 7 0 tpgetrply 2 0 0 (pos 0) 0 0 0 0 2
    ∷ row 7 0 tx_commit 0 0 0 (pos 0) 0 0 0 0 0
    ∷ []

-- a service returns success with a request of its own open: outcome 2, and so has that request, its transaction being lost
abbrev pub negligent : List Row
negligent =
    row 1 0 tx_open 0 0 0 (pos 0) 0 0 0 0 0
    ∷ row 1 1 tx_open 0 0 0 (pos 0) 0 0 0 0 0
    ∷ row 1 1 tpadvertise 7 0 0 (pos 0) 1 0 0 0 0
    ∷ row 1 2 tx_open 0 0 0 (pos 0) 0 0 0 0 0
    ∷ row 1 2 tpadvertise 8 0 0 (pos 0) 1 0 0 0 0
    ∷ row 2 0 tx_begin 0 0 0 (pos 0) 0 0 0 0 1
    ∷ row 2 0 tpacall 7 0 0 (pos 0) 1 0 0 0 1
    ∷ row 3 1 dispatch 0 0 0 (pos 0) 1 64 0 7 1
    ∷ row 3 1 tpacall 8 0 0 (pos 0) 2 0 0 0 1
    ∷ row 4 1 tpreturn 1 0 71 (pos 0) 2 0 0 0 0
    ∷ row 5 0 tpgetrply 1 0 0 (pos 31) 0 0 0 0 1
    ∷ row 6 2 dispatch 0 0 0 (pos 0) 2 64 0 8 1
    ∷ row 6 2 tpreturn 1 0 0 (pos 0) 2 0 0 0 0
    ∷ row 7 0 tx_commit 0 0 0 (negsuc 1) 0 0 0 0 0
    ∷ []

-- a server dies; the owner dies in its next transaction, and begins anew
abbrev pub dying : List Row
dying =
    row 1 0 tx_open 0 0 0 (pos 0) 0 0 0 0 0
    ∷ row 1 1 tx_open 0 0 0 (pos 0) 0 0 0 0 0
    ∷ row 1 1 tpadvertise 7 0 0 (pos 0) 1 0 0 0 0
    ∷ row 2 0 tx_begin 0 0 0 (pos 0) 0 0 0 0 1
    ∷ row 2 0 tpacall 7 0 0 (pos 0) 1 0 0 0 1
    ∷ row 3 1 dispatch 0 0 0 (pos 0) 1 64 0 7 1
    ∷ row 3 1 terminate 0 0 0 (pos 0) 2 0 0 0 0
    ∷ row 4 0 tpgetrply 1 0 0 (pos 31) 0 0 0 0 1
    ∷ row 4 0 tx_commit 0 0 0 (negsuc 1) 0 0 0 0 0
    ∷ row 5 1 tx_open 0 0 0 (pos 0) 0 0 0 0 0
    ∷ row 5 1 tpadvertise 7 0 0 (pos 0) 1 0 0 0 0
    ∷ row 5 0 tx_begin 0 0 0 (pos 0) 0 0 0 0 2
    ∷ row 5 0 tpacall 7 0 0 (pos 0) 2 0 0 0 2
    ∷ row 6 1 dispatch 0 0 0 (pos 0) 2 64 0 7 2
    ∷ row 6 0 terminate 0 0 0 (pos 0) 0 0 0 0 0
    ∷ row 7 0 tx_open 0 0 0 (pos 0) 0 0 0 0 0
    ∷ row 7 0 tx_begin 0 0 0 (pos 0) 0 0 0 0 3
    ∷ row 7 1 tpreturn 1 0 0 (pos 0) 8 0 0 0 0
    ∷ row 8 0 tx_commit 0 0 0 (pos 0) 0 0 0 0 0
    ∷ []

-- a commit with a request that waits, one with a reply not fetched, and one after the fetch
abbrev pub replies_left : List Row
replies_left =
    row 1 0 tx_open 0 0 0 (pos 0) 0 0 0 0 0
    ∷ row 1 1 tx_open 0 0 0 (pos 0) 0 0 0 0 0
    ∷ row 1 1 tpadvertise 7 0 0 (pos 0) 1 0 0 0 0
    ∷ row 2 0 tx_begin 0 0 0 (pos 0) 0 0 0 0 1
    ∷ row 2 0 tpacall 7 0 0 (pos 0) 1 0 0 0 1
    ∷ row 3 0 tx_commit 0 0 0 (negsuc 1) 0 0 0 0 0
    ∷ row 4 0 tx_begin 0 0 0 (pos 0) 0 0 0 0 2
    ∷ row 4 0 tpacall 7 0 0 (pos 0) 2 0 0 0 2
    ∷ row 5 1 dispatch 0 0 0 (pos 0) 2 64 0 7 2
    ∷ row 5 1 tpreturn 1 0 0 (pos 0) 8 0 0 0 0
    ∷ row 6 0 tx_commit 0 0 0 (negsuc 1) 0 0 0 0 0
    ∷ row 7 0 tx_begin 0 0 0 (pos 0) 0 0 0 0 3
    ∷ row 7 0 tpacall 7 0 0 (pos 0) 3 0 0 0 3
    ∷ row 8 1 dispatch 0 0 0 (pos 0) 3 64 0 7 3
    ∷ row 8 1 tpreturn 1 0 0 (pos 0) 8 0 0 0 0
    ∷ row 9 0 tpgetrply 3 0 0 (pos 0) 0 0 0 0 3
    ∷ row 9 0 tx_commit 0 0 0 (pos 0) 0 0 0 0 0
    ∷ []

-- requests outside the transaction: without reply, cancelled, failed, and still open; in it a cancel is refused
abbrev pub outside : List Row
outside =
    row 1 0 tx_open 0 0 0 (pos 0) 0 0 0 0 0
    ∷ row 1 1 tx_open 0 0 0 (pos 0) 0 0 0 0 0
    ∷ row 1 1 tpadvertise 7 0 0 (pos 0) 1 0 0 0 0
    ∷ row 2 0 tpacall 7 1 1 (pos 0) 0 0 0 0 0
    ∷ row 2 0 tx_begin 0 0 0 (pos 0) 0 0 0 0 1
    ∷ row 2 0 tpacall 7 1 2 (pos 22) 0 0 0 0 1
    ∷ row 2 0 tpacall 7 3 3 (pos 0) 0 0 0 0 1
    ∷ row 3 1 dispatch 0 0 0 (pos 0) 1 64 1 7 0
    ∷ row 3 1 tpreturn 2 0 0 (pos 0) 4 0 0 0 0
    ∷ row 3 1 dispatch 0 0 0 (pos 0) 2 64 3 7 0
    ∷ row 3 1 terminate 0 0 0 (pos 0) 2 0 0 0 0
    ∷ row 4 1 tx_open 0 0 0 (pos 0) 0 0 0 0 0
    ∷ row 4 1 tpadvertise 7 0 0 (pos 0) 1 0 0 0 0
    ∷ row 4 0 tpacall 7 2 4 (pos 0) 3 0 0 0 1
    ∷ row 4 0 tpcancel 3 0 0 (pos 0) 0 0 0 0 1
    ∷ row 5 0 tpacall 7 2 5 (pos 0) 4 0 0 0 1
    ∷ row 5 0 tpacall 7 0 6 (pos 0) 5 0 0 0 1
    ∷ row 5 0 tpcancel 5 0 0 (pos 27) 0 0 0 0 1
    ∷ row 6 1 dispatch 0 0 0 (pos 0) 3 64 4 7 0
    ∷ row 6 1 tpreturn 1 0 0 (pos 0) 8 0 0 0 0
    ∷ row 6 1 dispatch 0 0 0 (pos 0) 4 64 5 7 0
    ∷ row 6 1 tpreturn 2 0 0 (pos 0) 4 0 0 0 0
    ∷ row 6 1 dispatch 0 0 0 (pos 0) 5 64 6 7 1
    ∷ row 6 1 tpreturn 1 0 0 (pos 0) 8 0 0 0 0
    ∷ row 7 0 tpgetrply 5 0 0 (pos 0) 0 0 0 0 1
    ∷ row 8 0 tx_commit 0 0 0 (pos 0) 0 0 0 0 0
    ∷ row 9 0 tpgetrply 4 0 0 (pos 30) 0 0 0 0 0
    ∷ []

-- a return with a wrong number is refused; the server serves on, and fails
abbrev pub refused_return : List Row
refused_return =
    row 1 0 tx_open 0 0 0 (pos 0) 0 0 0 0 0
    ∷ row 1 1 tx_open 0 0 0 (pos 0) 0 0 0 0 0
    ∷ row 1 1 tpadvertise 7 0 0 (pos 0) 1 0 0 0 0
    ∷ row 2 0 tx_begin 0 0 0 (pos 0) 0 0 0 0 1
    ∷ row 2 0 tpacall 7 0 0 (pos 0) 1 0 0 0 1
    ∷ row 3 1 dispatch 0 0 0 (pos 0) 1 64 0 7 1
    ∷ row 3 1 tpreturn 3 0 0 (pos 22) 0 0 0 0 1
    ∷ row 4 1 tpreturn 2 0 0 (pos 0) 4 0 0 0 0
    ∷ row 5 0 tpgetrply 1 0 0 (pos 30) 0 0 0 0 1
    ∷ row 5 0 tx_commit 0 0 0 (negsuc 1) 0 0 0 0 0
    ∷ []

-- rolled back while the service is at work; its reply was asked for too early
abbrev pub still_at_work : List Row
still_at_work =
    row 1 0 tx_open 0 0 0 (pos 0) 0 0 0 0 0
    ∷ row 1 1 tx_open 0 0 0 (pos 0) 0 0 0 0 0
    ∷ row 1 1 tpadvertise 7 0 0 (pos 0) 1 0 0 0 0
    ∷ row 2 0 tx_begin 0 0 0 (pos 0) 0 0 0 0 1
    ∷ row 2 0 tpacall 7 0 0 (pos 0) 1 0 0 0 1
    ∷ row 3 1 dispatch 0 0 0 (pos 0) 1 64 0 7 1
    ∷ row 4 0 tpgetrply 1 0 0 (pos 36) 0 0 0 0 1
    ∷ row 4 0 tx_commit 0 0 0 (negsuc 1) 0 0 0 0 0
    ∷ row 5 1 tpreturn 1 0 0 (pos 0) 8 0 0 0 0
    ∷ []

-- ---- the tables
abbrev pub real : List (List Row)
real = nested ∷ failing ∷ negligent ∷ dying ∷ replies_left ∷ outside ∷ refused_return ∷ still_at_work ∷ []

abbrev pub spoilt : List Spoilt
spoilt =
    -- committed, though the inner service failed
    breaks commit (showing 12 value_field 4 nested)
    -- committed, though the inner service ended in error
    ∷ breaks commit (showing 12 value_field 2 nested)
    -- committed, though nobody fetched the inner reply
    ∷ breaks commit (without 13 nested)
    -- committed after a failed service, whose reply was fetched
    ∷ breaks commit (coded 8 (pos 0) failing)
    -- rolled back for what failed in the transaction before
    ∷ breaks commit (coded 14 (negsuc 1) failing)
    -- rolled back, though the service succeeded
    ∷ breaks commit (showing 6 value_field 8 failing)
    -- committed after a return that left a request open
    ∷ breaks commit (coded 13 (pos 0) negligent)
    -- committed after the death of a server
    ∷ breaks commit (coded 8 (pos 0) dying)
    -- rolled back, though the death ended no service
    ∷ breaks commit (showing 6 value_field 0 dying)
    -- rolled back for the work that the owner left behind as it died
    ∷ breaks commit (coded 18 (negsuc 1) dying)
    -- committed with a request that nobody has taken
    ∷ breaks commit (coded 5 (pos 0) replies_left)
    -- committed with a reply that was not fetched
    ∷ breaks commit (coded 10 (pos 0) replies_left)
    -- rolled back with all fetched
    ∷ breaks commit (coded 16 (negsuc 1) replies_left)
    -- rolled back for requests outside the transaction
    ∷ breaks commit (coded 25 (negsuc 1) outside)
    -- committed, though the open and failed request is of the transaction
    ∷ breaks commit (asked 15 b_field 0 outside)
    -- committed, though the service failed after a refused return
    ∷ breaks commit (coded 9 (pos 0) refused_return)
    -- committed while the inner service is at work: it never returned
    ∷ breaks alone (without 12 nested)
    -- committed while a service is at work whose reply was fetched
    ∷ breaks alone (without 23 outside)
    ∷ []

-- altered where the statement says nothing or the same: it still holds
abbrev pub harmless : List (List Row)
harmless =
    -- a commit of a server is answered 0: it does not own the transaction
    coded 8 (pos 0) nested
    -- the first answer in a transaction is to a dispatch: it has no owner
    ∷ showing 7 tx_field 9 nested
    -- the owner itself is at work
    ∷ asked 7 party_field 0 nested
    -- a commit that is not to be is answered by some other number
    ∷ coded 8 (pos 22) failing
    -- a death without a value ends the service, and not badly
    ∷ coded 8 (pos 0) (showing 6 value_field 0 dying)
    ∷ []
