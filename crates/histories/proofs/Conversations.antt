-- Conversations: histories whose answers the outside implementation made, and the same ones altered, spoilt or harmless.
-- Assumes nothing.
use Rattle.std.proofs.Common.{List, [], ◌∷◌, pos, negsuc}
use Rattle.histories.proofs.Rows.{Row, row, placed, coded, showing, asked, without, unanswered, value_field, event_field, party_field}
use Rattle.histories.proofs.Rows.{kind_field, a_field, sender, commit, alone, Spoilt, breaks, tx_open, tx_begin, tx_commit, tpadvertise}
use Rattle.histories.proofs.Rows.{tpconnect, dispatch, tpcancel, tpsend, tprecv, tpdiscon, tpreturn, terminate}

-- a conversation with four turns in a transaction that is committed
abbrev pub turns : List Row
turns =
    row 1 0 tx_open 0 0 0 (pos 0) 0 0 0 0 0
    ∷ row 1 1 tx_open 0 0 0 (pos 0) 0 0 0 0 0
    ∷ row 1 1 tpadvertise 7 0 0 (pos 0) 1 0 0 0 0
    ∷ row 2 0 tx_begin 0 0 0 (pos 0) 0 0 0 0 1
    ∷ row 2 0 tpconnect 7 4 100 (pos 0) 1 0 0 0 1
    ∷ row 3 1 dispatch 0 0 0 (pos 0) 1 65 100 7 1
    ∷ row 3 0 tpsend 1 0 101 (pos 0) 0 0 0 0 1
    ∷ row 3 0 tpsend 1 1 102 (pos 0) 0 0 0 0 1
    ∷ row 4 1 tprecv 1 0 0 (pos 0) 0 0 101 0 1
    ∷ row 4 1 tprecv 1 0 0 (pos 29) 0 32 102 0 1
    ∷ row 5 1 tpsend 1 0 103 (pos 0) 0 0 0 0 1
    ∷ row 5 1 tpsend 1 1 104 (pos 0) 0 0 0 0 1
    ∷ row 6 0 tprecv 1 0 0 (pos 0) 0 0 103 0 1
    ∷ row 6 0 tprecv 1 0 0 (pos 29) 0 32 104 0 1
    ∷ row 7 0 tpsend 1 1 105 (pos 0) 0 0 0 0 1
    ∷ row 7 1 tprecv 1 0 0 (pos 29) 0 32 105 0 1
    ∷ row 8 1 tpreturn 1 0 106 (pos 0) 8 0 0 0 0
    ∷ row 9 0 tprecv 1 0 0 (pos 29) 0 8 106 0 1
    ∷ row 9 0 tx_commit 0 0 0 (pos 0) 0 0 0 0 0
    ∷ []

-- the new end sends too early, is refused, and sends after event 32; the server is disconnected
abbrev pub early : List Row
early =
    row 1 0 tx_open 0 0 0 (pos 0) 0 0 0 0 0
    ∷ row 1 1 tx_open 0 0 0 (pos 0) 0 0 0 0 0
    ∷ row 1 1 tpadvertise 7 0 0 (pos 0) 1 0 0 0 0
    ∷ row 2 0 tx_begin 0 0 0 (pos 0) 0 0 0 0 1
    ∷ row 2 0 tpconnect 7 4 1 (pos 0) 1 0 0 0 1
    ∷ row 2 1 dispatch 0 0 0 (pos 0) 1 65 1 7 1
    ∷ row 3 0 tpsend 1 1 2 (pos 0) 0 0 0 0 1
    ∷ row 3 1 tpsend 1 0 3 (pos 23) 0 0 0 0 1
    ∷ row 3 0 tpsend 1 0 4 (pos 23) 0 0 0 0 1
    ∷ row 3 1 tprecv 1 0 0 (pos 29) 0 32 2 0 1
    ∷ row 3 1 tpsend 1 1 5 (pos 0) 0 0 0 0 1
    ∷ row 4 0 tpdiscon 1 0 0 (pos 0) 0 0 0 0 1
    ∷ row 4 1 tpsend 1 0 6 (pos 29) 0 1 0 0 1
    ∷ row 4 1 tpsend 1 0 6 (pos 24) 0 0 0 0 1
    ∷ row 5 1 tpreturn 1 0 0 (pos 0) 2 0 0 0 0
    ∷ row 6 0 tx_commit 0 0 0 (negsuc 1) 0 0 0 0 0
    ∷ []

-- the server sends first, and dies with the turn
abbrev pub server_first : List Row
server_first =
    row 1 0 tx_open 0 0 0 (pos 0) 0 0 0 0 0
    ∷ row 1 1 tx_open 0 0 0 (pos 0) 0 0 0 0 0
    ∷ row 1 1 tpadvertise 7 0 0 (pos 0) 1 0 0 0 0
    ∷ row 2 0 tx_begin 0 0 0 (pos 0) 0 0 0 0 1
    ∷ row 2 0 tpconnect 7 8 1 (pos 0) 1 0 0 0 1
    ∷ row 2 0 tpsend 1 0 2 (pos 23) 0 0 0 0 1
    ∷ row 2 1 dispatch 0 0 0 (pos 0) 1 66 1 7 1
    ∷ row 2 1 tpsend 1 0 3 (pos 0) 0 0 0 0 1
    ∷ row 2 1 tpsend 1 0 4 (pos 0) 0 0 0 0 1
    ∷ row 3 0 tprecv 1 0 0 (pos 0) 0 0 3 0 1
    ∷ row 3 1 terminate 0 0 0 (pos 0) 2 0 0 0 0
    ∷ row 4 0 tprecv 1 0 0 (pos 29) 0 2 0 0 1
    ∷ row 4 0 tx_commit 0 0 0 (negsuc 1) 0 0 0 0 0
    ∷ []

-- a conversation outside the transaction that is disconnected: the commit does not mind; two conversations at a time keep their turns
abbrev pub apart : List Row
apart =
    row 1 0 tx_open 0 0 0 (pos 0) 0 0 0 0 0
    ∷ row 1 1 tx_open 0 0 0 (pos 0) 0 0 0 0 0
    ∷ row 1 1 tpadvertise 7 0 0 (pos 0) 1 0 0 0 0
    ∷ row 1 2 tx_open 0 0 0 (pos 0) 0 0 0 0 0
    ∷ row 1 2 tpadvertise 8 0 0 (pos 0) 1 0 0 0 0
    ∷ row 2 0 tx_begin 0 0 0 (pos 0) 0 0 0 0 1
    ∷ row 2 0 tpconnect 7 4 1 (pos 0) 1 0 0 0 1
    ∷ row 2 0 tpconnect 8 6 2 (pos 0) 2 0 0 0 1
    ∷ row 2 1 dispatch 0 0 0 (pos 0) 1 65 1 7 1
    ∷ row 2 2 dispatch 0 0 0 (pos 0) 2 65 2 8 0
    ∷ row 3 0 tpsend 1 1 3 (pos 0) 0 0 0 0 1
    ∷ row 3 0 tpsend 2 1 4 (pos 0) 0 0 0 0 1
    ∷ row 3 2 tprecv 2 0 0 (pos 29) 0 32 4 0 0
    ∷ row 3 2 tpsend 2 0 5 (pos 0) 0 0 0 0 0
    ∷ row 3 1 tpsend 1 0 6 (pos 23) 0 0 0 0 1
    ∷ row 3 1 tprecv 1 0 0 (pos 29) 0 32 3 0 1
    ∷ row 3 1 tpsend 1 0 7 (pos 0) 0 0 0 0 1
    ∷ row 4 0 tprecv 1 0 0 (pos 0) 0 0 7 0 1
    ∷ row 4 1 tpreturn 1 0 8 (pos 0) 8 0 0 0 0
    ∷ row 5 0 tpdiscon 2 0 0 (pos 0) 0 0 0 0 1
    ∷ row 5 0 tprecv 1 0 0 (pos 29) 0 8 8 0 1
    ∷ row 5 0 tx_commit 0 0 0 (pos 0) 0 0 0 0 0
    ∷ row 6 2 tpreturn 1 0 0 (pos 0) 2 0 0 0 0
    ∷ []

-- each end has the turn twice
abbrev pub back_and_forth : List Row
back_and_forth =
    row 1 0 tx_open 0 0 0 (pos 0) 0 0 0 0 0
    ∷ row 1 1 tx_open 0 0 0 (pos 0) 0 0 0 0 0
    ∷ row 1 1 tpadvertise 7 0 0 (pos 0) 1 0 0 0 0
    ∷ row 2 0 tx_begin 0 0 0 (pos 0) 0 0 0 0 1
    ∷ row 2 0 tpconnect 7 4 1 (pos 0) 1 0 0 0 1
    ∷ row 3 1 dispatch 0 0 0 (pos 0) 1 65 1 7 1
    ∷ row 3 0 tpsend 1 1 2 (pos 0) 0 0 0 0 1
    ∷ row 4 1 tprecv 1 0 0 (pos 29) 0 32 2 0 1
    ∷ row 5 1 tpsend 1 1 3 (pos 0) 0 0 0 0 1
    ∷ row 6 0 tprecv 1 0 0 (pos 29) 0 32 3 0 1
    ∷ row 7 0 tpsend 1 1 4 (pos 0) 0 0 0 0 1
    ∷ row 7 1 tprecv 1 0 0 (pos 29) 0 32 4 0 1
    ∷ row 8 1 tpsend 1 0 5 (pos 0) 0 0 0 0 1
    ∷ row 9 0 tprecv 1 0 0 (pos 0) 0 0 5 0 1
    ∷ row 9 1 tpreturn 1 0 6 (pos 0) 8 0 0 0 0
    ∷ row 9 0 tprecv 1 0 0 (pos 29) 0 8 6 0 1
    ∷ row 9 0 tx_commit 0 0 0 (pos 0) 0 0 0 0 0
    ∷ []

-- two conversations in a transaction: the originator sends in one, the server in the other; only the first has ended at the commit
abbrev pub side_by_side : List Row
side_by_side =
    row 1 0 tx_open 0 0 0 (pos 0) 0 0 0 0 0
    ∷ row 1 1 tx_open 0 0 0 (pos 0) 0 0 0 0 0
    ∷ row 1 1 tpadvertise 7 0 0 (pos 0) 1 0 0 0 0
    ∷ row 1 2 tx_open 0 0 0 (pos 0) 0 0 0 0 0
    ∷ row 1 2 tpadvertise 8 0 0 (pos 0) 1 0 0 0 0
    ∷ row 2 0 tx_begin 0 0 0 (pos 0) 0 0 0 0 1
    ∷ row 2 0 tpconnect 7 4 1 (pos 0) 1 0 0 0 1
    ∷ row 2 0 tpconnect 8 8 2 (pos 0) 2 0 0 0 1
    ∷ row 3 1 dispatch 0 0 0 (pos 0) 1 65 1 7 1
    ∷ row 3 2 dispatch 0 0 0 (pos 0) 2 66 2 8 1
    ∷ row 4 0 tpsend 1 1 3 (pos 0) 0 0 0 0 1
    ∷ row 4 2 tpsend 2 0 4 (pos 0) 0 0 0 0 1
    ∷ row 5 1 tprecv 1 0 0 (pos 29) 0 32 3 0 1
    ∷ row 5 1 tpreturn 1 0 5 (pos 0) 8 0 0 0 0
    ∷ row 6 0 tprecv 1 0 0 (pos 29) 0 8 5 0 1
    ∷ row 6 0 tprecv 2 0 0 (pos 0) 0 0 4 0 1
    ∷ row 7 0 tx_commit 0 0 0 (negsuc 1) 0 0 0 0 0
    ∷ row 8 2 tpsend 2 0 6 (pos 29) 0 1 0 0 1
    ∷ row 8 2 tpreturn 1 0 0 (pos 0) 2 0 0 0 0
    ∷ []

-- the server may not disconnect, and all ends well
abbrev pub refused_disconnect : List Row
refused_disconnect =
    row 1 0 tx_open 0 0 0 (pos 0) 0 0 0 0 0
    ∷ row 1 1 tx_open 0 0 0 (pos 0) 0 0 0 0 0
    ∷ row 1 1 tpadvertise 7 0 0 (pos 0) 1 0 0 0 0
    ∷ row 2 0 tx_begin 0 0 0 (pos 0) 0 0 0 0 1
    ∷ row 2 0 tpconnect 7 8 1 (pos 0) 1 0 0 0 1
    ∷ row 3 1 dispatch 0 0 0 (pos 0) 1 66 1 7 1
    ∷ row 3 1 tpdiscon 1 0 0 (pos 24) 0 0 0 0 1
    ∷ row 4 1 tpreturn 1 0 2 (pos 0) 8 0 0 0 0
    ∷ row 5 0 tprecv 1 0 0 (pos 29) 0 8 2 0 1
    ∷ row 6 0 tx_commit 0 0 0 (pos 0) 0 0 0 0 0
    ∷ []

-- ---- the tables
abbrev pub real : List (List Row)
real = turns ∷ early ∷ server_first ∷ apart ∷ back_and_forth ∷ side_by_side ∷ refused_disconnect ∷ []

abbrev pub spoilt : List Spoilt
spoilt =
    -- the server receives the grant with code 0 and no event, and sends
    breaks sender (coded 9 (pos 0) (showing 9 event_field 0 turns))
    -- with code 0 and the event
    ∷ breaks sender (coded 9 (pos 0) turns)
    -- with code 29 and another event
    ∷ breaks sender (showing 9 event_field 8 turns)
    -- in the answer to a send
    ∷ breaks sender (asked 9 kind_field tpsend turns)
    -- the originator receives it in the server's place
    ∷ breaks sender (asked 9 party_field 0 turns)
    -- the originator sends again without having received the grant
    ∷ breaks sender (without 13 turns)
    -- the server sends again without having received the second grant: the first counts no more
    ∷ breaks sender (without 11 back_and_forth)
    -- the server sends before it receives the grant
    ∷ breaks sender (coded 7 (pos 0) early)
    -- the originator sends where the server was to send first
    ∷ breaks sender (coded 5 (pos 0) server_first)
    -- a server sends early, while the other conversation has had its grant
    ∷ breaks sender (coded 14 (pos 0) apart)
    -- the grant comes on the other link
    ∷ breaks sender (asked 15 a_field 2 apart)
    -- rolled back, though nothing speaks against it
    ∷ breaks commit (coded 18 (negsuc 1) turns)
    -- committed, though the originator did not learn how the conversation ended
    ∷ breaks commit (without 17 turns)
    -- though not the originator but the server learned it
    ∷ breaks commit (asked 17 party_field 1 turns)
    -- though it learned it with code 0
    ∷ breaks commit (coded 17 (pos 0) turns)
    -- though it learned it by a call that is no 17 or 18
    ∷ breaks commit (asked 17 kind_field tpcancel turns)
    -- committed after a disconnect of a conversation whose end the originator learned
    ∷ breaks commit (asked 12 kind_field tpdiscon turns)
    -- committed after a disconnect
    ∷ breaks commit (coded 15 (pos 0) early)
    -- committed after the death of the server
    ∷ breaks commit (coded 12 (pos 0) server_first)
    -- rolled back for a disconnect outside the transaction
    ∷ breaks commit (coded 21 (negsuc 1) apart)
    -- rolled back for a disconnect that was refused
    ∷ breaks commit (coded 9 (negsuc 1) refused_disconnect)
    -- committed while the server is at work: it never returned
    ∷ breaks alone (without 16 turns)
    ∷ []

-- altered where the statement says nothing or the same: it still holds
abbrev pub harmless : List (List Row)
harmless =
    -- the originator learns by a 17 how the conversation ended
    asked 17 kind_field tpsend turns
    -- it learns event 2, though the service returned success
    ∷ showing 17 event_field 2 turns
    -- event 4
    ∷ showing 17 event_field 4 turns
    -- a commit that is refused by question 19 is none
    ∷ coded 18 (pos 19) turns
    -- the dispatch is refused, so that nobody is at work
    ∷ coded 5 (pos 32) (without 16 turns)
    -- its value is below 0, which counts as 0
    ∷ placed 5 value_field (negsuc 0) (without 16 turns)
    -- the last receive and the commit have no places for an answer: no transaction is to be committed
    ∷ unanswered 17 turns
    ∷ []
