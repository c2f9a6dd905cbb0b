-- Who may call what: histories, written by hand and answered so by the outside implementation, and the same ones altered, spoilt or harmless.
-- Assumes nothing.
use Rattle.std.proofs.Common.{List, [], ◌∷◌, pos, negsuc}
use Rattle.histories.proofs.Rows.{Row, row, coded, showing, asked, without, value_field, a_field}
use Rattle.histories.proofs.Rows.{commit, Spoilt, breaks, tx_open, tx_begin, tx_commit, tx_set_timeout, tpadvertise}
use Rattle.histories.proofs.Rows.{tpacall, dispatch, tpgetrply, tpreturn, set_rights}

-- in a transaction rights shrink below an offer and a waiting link, which live on, and a request is not permitted: committed
abbrev pub rights_shrink : List Row
rights_shrink =
    row 1 0 tx_open 0 0 0 (pos 0) 0 0 0 0 0
    ∷ row 1 1 tx_open 0 0 0 (pos 0) 0 0 0 0 0
    ∷ row 1 1 tpadvertise 7 0 0 (pos 0) 1 0 0 0 0
    ∷ row 2 0 tx_begin 0 0 0 (pos 0) 0 0 0 0 1
    ∷ row 2 0 tpacall 7 0 5 (pos 0) 1 0 0 0 1
    ∷ row 3 0 set_rights 3 0 0 (pos 0) 0 0 0 0 1
    ∷ row 3 0 set_rights 0 0 0 (pos 0) 0 0 0 0 1
    ∷ row 3 1 set_rights 0 4294967295 4294967295 (pos 35) 0 0 0 0 0
    ∷ row 4 1 dispatch 0 0 0 (pos 0) 1 64 5 7 1
    ∷ row 4 1 tpreturn 1 0 6 (pos 0) 8 0 0 0 0
    ∷ row 5 0 tpacall 7 0 0 (pos 35) 0 0 0 0 1
    ∷ row 5 0 tpgetrply 1 0 0 (pos 0) 0 0 6 0 1
    ∷ row 6 0 tx_commit 0 0 0 (pos 0) 0 0 0 0 0
    ∷ []

-- a call that is not permitted moves the clock past the deadline: rolled back
abbrev pub refused_in_time : List Row
refused_in_time =
    row 0 0 tx_open 0 0 0 (pos 0) 0 0 0 0 0
    ∷ row 0 0 tx_set_timeout 1 0 0 (pos 0) 0 0 0 0 0
    ∷ row 0 0 tx_begin 0 0 0 (pos 0) 0 0 0 0 1
    ∷ row 1 1 set_rights 32 0 0 (pos 35) 0 0 0 0 0
    ∷ row 0 0 tx_commit 0 0 0 (negsuc 1) 0 0 0 0 0
    ∷ []

-- ---- the tables
abbrev pub real : List (List Row)
real = rights_shrink ∷ refused_in_time ∷ []

abbrev pub spoilt : List Spoilt
spoilt =
    -- rolled back, though neither lost rights nor a refusal stand against it
    breaks commit (coded 12 (negsuc 1) rights_shrink)
    -- committed, though the reply was not fetched
    ∷ breaks commit (without 11 rights_shrink)
    -- committed, though the request without the right was accepted, and its link is unfinished
    ∷ breaks commit (coded 10 (pos 0) (showing 10 value_field 2 rights_shrink))
    -- committed, though the refused call had moved the clock past the deadline
    ∷ breaks commit (coded 4 (pos 0) refused_in_time)
    -- rolled back in time, as a call of an unknown party moves no clock
    ∷ breaks commit (coded 3 (pos 21) refused_in_time)
    ∷ []

abbrev pub harmless : List (List Row)
harmless =
    -- rights refused, or not touched at all
    coded 5 (pos 35) rights_shrink
    ∷ without 6 rights_shrink
    -- another set
    ∷ asked 6 a_field 31 rights_shrink
    -- another refusal that moves the clock, and a call that was carried out
    ∷ coded 3 (pos 22) refused_in_time
    ∷ coded 3 (pos 0) refused_in_time
    ∷ []
