-- Fetches of whichever reply is there: histories, written by hand and answered so by the outside implementation, and the same ones altered, spoilt or harmless.
-- Assumes nothing.
use Rattle.std.proofs.Common.{List, [], ◌∷◌, pos, negsuc}
use Rattle.histories.proofs.Rows.{Row, row, coded, showing, asked, without, value_field, a_field, b_field}
use Rattle.histories.proofs.Rows.{commit, Spoilt, breaks, tx_open, tx_begin, tx_commit, tpadvertise}
use Rattle.histories.proofs.Rows.{tpacall, dispatch, tpgetrply, tpreturn}

-- two requests of a transaction, served out of order; what the fetches have in a is ignored
abbrev pub out_of_order : List Row
out_of_order =
    row 1 0 tx_open 0 0 0 (pos 0) 0 0 0 0 0
    ∷ row 1 1 tx_open 0 0 0 (pos 0) 0 0 0 0 0
    ∷ row 1 1 tpadvertise 7 0 0 (pos 0) 1 0 0 0 0
    ∷ row 1 2 tx_open 0 0 0 (pos 0) 0 0 0 0 0
    ∷ row 1 2 tpadvertise 8 0 0 (pos 0) 1 0 0 0 0
    ∷ row 2 0 tx_begin 0 0 0 (pos 0) 0 0 0 0 1
    ∷ row 2 0 tpacall 7 0 70 (pos 0) 1 0 0 0 1
    ∷ row 2 0 tpacall 8 0 80 (pos 0) 2 0 0 0 1
    ∷ row 3 1 dispatch 0 0 0 (pos 0) 1 64 70 7 1
    ∷ row 3 2 dispatch 0 0 0 (pos 0) 2 64 80 8 1
    ∷ row 4 0 tpgetrply 1 1 0 (pos 36) 0 0 0 0 1
    ∷ row 5 2 tpreturn 1 0 81 (pos 0) 8 0 0 0 0
    ∷ row 6 0 tpgetrply 1 1 0 (pos 0) 2 0 81 0 1
    ∷ row 7 1 tpreturn 1 0 71 (pos 0) 8 0 0 0 0
    ∷ row 8 0 tpgetrply 9 1 0 (pos 0) 1 0 71 0 1
    ∷ row 8 0 tpgetrply 1 1 0 (pos 24) 0 0 0 0 1
    ∷ row 9 0 tx_commit 0 0 0 (pos 0) 0 0 0 0 0
    ∷ []

-- of two replies only the lower was fetched, and with b = 2 none: rolled back
abbrev pub one_left : List Row
one_left =
    row 1 0 tx_open 0 0 0 (pos 0) 0 0 0 0 0
    ∷ row 1 1 tx_open 0 0 0 (pos 0) 0 0 0 0 0
    ∷ row 1 1 tpadvertise 7 0 0 (pos 0) 1 0 0 0 0
    ∷ row 2 0 tx_begin 0 0 0 (pos 0) 0 0 0 0 1
    ∷ row 2 0 tpacall 7 0 0 (pos 0) 1 0 0 0 1
    ∷ row 2 0 tpacall 7 0 0 (pos 0) 2 0 0 0 1
    ∷ row 3 1 dispatch 0 0 0 (pos 0) 1 64 0 7 1
    ∷ row 3 1 tpreturn 1 0 0 (pos 0) 8 0 0 0 0
    ∷ row 4 1 dispatch 0 0 0 (pos 0) 2 64 0 7 1
    ∷ row 4 1 tpreturn 1 0 0 (pos 0) 8 0 0 0 0
    ∷ row 5 0 tpgetrply 2 1 0 (pos 0) 1 0 0 0 1
    ∷ row 5 0 tpgetrply 2 2 0 (pos 22) 0 0 0 0 1
    ∷ row 6 0 tx_commit 0 0 0 (negsuc 1) 0 0 0 0 0
    ∷ []

-- a service failed, and whichever reply is there is its reply
abbrev pub any_failed : List Row
any_failed =
    row 1 0 tx_open 0 0 0 (pos 0) 0 0 0 0 0
    ∷ row 1 1 tx_open 0 0 0 (pos 0) 0 0 0 0 0
    ∷ row 1 1 tpadvertise 7 0 0 (pos 0) 1 0 0 0 0
    ∷ row 2 0 tx_begin 0 0 0 (pos 0) 0 0 0 0 1
    ∷ row 2 0 tpacall 7 0 0 (pos 0) 1 0 0 0 1
    ∷ row 3 1 dispatch 0 0 0 (pos 0) 1 64 0 7 1
    ∷ row 3 1 tpreturn 2 0 9 (pos 0) 4 0 0 0 0
    ∷ row 4 0 tpgetrply 0 1 0 (pos 30) 1 0 9 0 1
    ∷ row 4 0 tx_commit 0 0 0 (negsuc 1) 0 0 0 0 0
    ∷ []

-- ---- the tables
abbrev pub real : List (List Row)
real = out_of_order ∷ one_left ∷ any_failed ∷ []

abbrev pub spoilt : List Spoilt
spoilt =
    -- committed, though the fetch that took the reply of link 1 names none
    breaks commit (showing 14 value_field 0 out_of_order)
    -- committed, though it names link 2 once more
    ∷ breaks commit (showing 14 value_field 2 out_of_order)
    -- committed, though it is by number, and of link 9
    ∷ breaks commit (asked 14 b_field 0 out_of_order)
    -- committed, though nobody fetched the reply of link 2
    ∷ breaks commit (without 12 out_of_order)
    -- rolled back with all fetched
    ∷ breaks commit (coded 16 (negsuc 1) out_of_order)
    -- committed with a reply that was not fetched, though a fetch of the other one has its number in a
    ∷ breaks commit (coded 12 (pos 0) one_left)
    -- committed after a failed service, whose reply was fetched
    ∷ breaks commit (coded 8 (pos 0) any_failed)
    -- rolled back, though no service failed: 30 finishes the link that its value names
    ∷ breaks commit (showing 6 value_field 8 any_failed)
    -- committed, though with b = 2 the fetch is on link 9, whatever its value
    ∷ breaks commit (asked 14 b_field 2 out_of_order)
    ∷ []

-- altered where the statement says nothing or the same: it still holds
abbrev pub harmless : List (List Row)
harmless =
    -- by number, and of link 1
    asked 14 b_field 0 (asked 14 a_field 1 out_of_order)
    -- some other a
    ∷ asked 14 a_field 2 out_of_order
    -- no service failed, and 30 or 31 finishes the link that its value names
    ∷ coded 8 (pos 0) (showing 6 value_field 8 any_failed)
    ∷ coded 8 (pos 0) (coded 7 (pos 31) (showing 6 value_field 8 any_failed))
    ∷ []
