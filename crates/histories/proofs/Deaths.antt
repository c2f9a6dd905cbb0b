-- A service that dies during a booking, after its caller has disconnected or before: histories whose answers the outside implementation made, and the same
-- ones altered, spoilt or harmless. The drill files case-49 to case-51 of crates/drill_cases have their calls.
-- Assumes nothing.
use Rattle.std.proofs.Common.{List, [], ◌∷◌, pos, negsuc}
use Rattle.histories.proofs.Rows.{Row, row, coded, showing, commit, Spoilt, breaks, value_field, tx_open, tx_begin}
use Rattle.histories.proofs.Rows.{tx_commit, tpadvertise, tpconnect, dispatch, tpsend, tpdiscon, terminate}

-- the caller disconnects, and then the service dies: the booking is rolled back, and the next one is not touched
abbrev pub dies_after_disconnect : List Row
dies_after_disconnect =
    row 1 0 tx_open 0 0 0 (pos 0) 0 0 0 0 0
    ∷ row 1 1 tx_open 0 0 0 (pos 0) 0 0 0 0 0
    ∷ row 1 1 tpadvertise 7 0 0 (pos 0) 1 0 0 0 0
    ∷ row 2 0 tx_begin 0 0 0 (pos 0) 0 0 0 0 1
    ∷ row 2 0 tpconnect 7 4 1 (pos 0) 1 0 0 0 1
    ∷ row 3 1 dispatch 0 0 0 (pos 0) 1 65 1 7 1
    ∷ row 4 0 tpsend 1 0 2 (pos 0) 0 0 0 0 1
    ∷ row 5 0 tpdiscon 1 0 0 (pos 0) 0 0 0 0 1
    ∷ row 6 1 terminate 0 0 0 (pos 0) 2 0 0 0 0
    ∷ row 7 0 tx_commit 0 0 0 (negsuc 1) 0 0 0 0 0
    ∷ row 8 0 tx_begin 0 0 0 (pos 0) 0 0 0 0 2
    ∷ row 8 0 tx_commit 0 0 0 (pos 0) 0 0 0 0 0
    ∷ []

-- the service dies, and then the caller disconnects: the same answers in the other order
abbrev pub dies_before_disconnect : List Row
dies_before_disconnect =
    row 1 0 tx_open 0 0 0 (pos 0) 0 0 0 0 0
    ∷ row 1 1 tx_open 0 0 0 (pos 0) 0 0 0 0 0
    ∷ row 1 1 tpadvertise 7 0 0 (pos 0) 1 0 0 0 0
    ∷ row 2 0 tx_begin 0 0 0 (pos 0) 0 0 0 0 1
    ∷ row 2 0 tpconnect 7 4 1 (pos 0) 1 0 0 0 1
    ∷ row 3 1 dispatch 0 0 0 (pos 0) 1 65 1 7 1
    ∷ row 4 0 tpsend 1 0 2 (pos 0) 0 0 0 0 1
    ∷ row 5 1 terminate 0 0 0 (pos 0) 2 0 0 0 0
    ∷ row 6 0 tpdiscon 1 0 0 (pos 0) 0 0 0 0 1
    ∷ row 7 0 tx_commit 0 0 0 (negsuc 1) 0 0 0 0 0
    ∷ row 8 0 tx_begin 0 0 0 (pos 0) 0 0 0 0 2
    ∷ row 8 0 tx_commit 0 0 0 (pos 0) 0 0 0 0 0
    ∷ []

-- the service dies, and the caller learns of it as it sends: there is nothing left to disconnect
abbrev pub learns_of_death : List Row
learns_of_death =
    row 1 0 tx_open 0 0 0 (pos 0) 0 0 0 0 0
    ∷ row 1 1 tx_open 0 0 0 (pos 0) 0 0 0 0 0
    ∷ row 1 1 tpadvertise 7 0 0 (pos 0) 1 0 0 0 0
    ∷ row 2 0 tx_begin 0 0 0 (pos 0) 0 0 0 0 1
    ∷ row 2 0 tpconnect 7 4 1 (pos 0) 1 0 0 0 1
    ∷ row 3 1 dispatch 0 0 0 (pos 0) 1 65 1 7 1
    ∷ row 4 0 tpsend 1 0 2 (pos 0) 0 0 0 0 1
    ∷ row 5 1 terminate 0 0 0 (pos 0) 2 0 0 0 0
    ∷ row 6 0 tpsend 1 0 3 (pos 29) 0 2 0 0 1
    ∷ row 6 0 tpdiscon 1 0 0 (pos 24) 0 0 0 0 1
    ∷ row 7 0 tx_commit 0 0 0 (negsuc 1) 0 0 0 0 0
    ∷ row 8 0 tx_begin 0 0 0 (pos 0) 0 0 0 0 2
    ∷ row 8 0 tx_commit 0 0 0 (pos 0) 0 0 0 0 0
    ∷ []

-- ---- the tables
abbrev pub real : List (List Row)
real = dies_after_disconnect ∷ dies_before_disconnect ∷ learns_of_death ∷ []

abbrev pub spoilt : List Spoilt
spoilt =
    -- committed, though the caller disconnected and the service died
    breaks commit (coded 9 (pos 0) dies_after_disconnect)
    -- committed, though the service died and the caller disconnected
    ∷ breaks commit (coded 9 (pos 0) dies_before_disconnect)
    -- committed, though the caller learned that the service died
    ∷ breaks commit (coded 10 (pos 0) learns_of_death)
    -- the next booking rolled back for it
    ∷ breaks commit (coded 11 (negsuc 1) dies_after_disconnect)
    ∷ []

-- altered where the statement says nothing or the same: it still holds
abbrev pub harmless : List (List Row)
harmless =
    -- a death that failed nothing, of which the caller learned: committed
    coded 10 (pos 0) (showing 7 value_field 0 learns_of_death)
    ∷ []
