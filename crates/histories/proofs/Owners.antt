-- Transactions of several owners: histories whose answers the outside implementation made, and the same ones altered, spoilt or harmless.
-- Assumes nothing.
use Rattle.std.proofs.Common.{List, [], ◌∷◌, pos, negsuc}
use Rattle.histories.proofs.Rows.{Row, row, coded, asked, without, unanswered, party_field, commit, alone, Spoilt, breaks}
use Rattle.histories.proofs.Rows.{tx_open, tx_begin, tx_commit, tpadvertise, tpacall, dispatch, tpgetrply, tpreturn}

-- two owners, whose transactions go on side by side: one is committed while a service of the other is at work, which fails then
abbrev pub owners : List Row
owners =
    row 1 0 tx_open 0 0 0 (pos 0) 0 0 0 0 0
    ∷ row 1 3 tx_open 0 0 0 (pos 0) 0 0 0 0 0
    ∷ row 1 1 tx_open 0 0 0 (pos 0) 0 0 0 0 0
    ∷ row 1 1 tpadvertise 7 0 0 (pos 0) 1 0 0 0 0
    ∷ row 1 2 tx_open 0 0 0 (pos 0) 0 0 0 0 0
    ∷ row 1 2 tpadvertise 8 0 0 (pos 0) 1 0 0 0 0
    ∷ row 2 0 tx_begin 0 0 0 (pos 0) 0 0 0 0 1
    ∷ row 2 3 tx_begin 0 0 0 (pos 0) 0 0 0 0 2
    ∷ row 3 0 tpacall 7 0 0 (pos 0) 1 0 0 0 1
    ∷ row 3 3 tpacall 8 0 0 (pos 0) 2 0 0 0 2
    ∷ row 3 3 tpacall 7 0 0 (pos 0) 3 0 0 0 2
    ∷ row 4 1 dispatch 0 0 0 (pos 0) 1 64 0 7 1
    ∷ row 4 2 dispatch 0 0 0 (pos 0) 2 64 0 8 2
    ∷ row 5 1 tpreturn 1 0 0 (pos 0) 8 0 0 0 0
    ∷ row 5 1 dispatch 0 0 0 (pos 0) 3 64 0 7 2
    ∷ row 6 0 tpgetrply 1 0 0 (pos 0) 0 0 0 0 1
    ∷ row 6 0 tx_commit 0 0 0 (pos 0) 0 0 0 0 0
    ∷ row 7 1 tpreturn 1 0 0 (pos 0) 8 0 0 0 0
    ∷ row 7 2 tpreturn 2 0 0 (pos 0) 4 0 0 0 0
    ∷ row 8 3 tpgetrply 3 0 0 (pos 0) 0 0 0 0 2
    ∷ row 8 3 tpgetrply 2 0 0 (pos 30) 0 0 0 0 2
    ∷ row 9 3 tx_commit 0 0 0 (negsuc 1) 0 0 0 0 0
    ∷ row 9 0 tx_begin 0 0 0 (pos 0) 0 0 0 0 3
    ∷ row 9 3 tx_begin 0 0 0 (pos 0) 0 0 0 0 4
    ∷ row 9 3 tx_commit 0 0 0 (pos 0) 0 0 0 0 0
    ∷ row 9 0 tx_commit 0 0 0 (pos 0) 0 0 0 0 0
    ∷ []

-- a service outside any transaction begins its own, and commits it before it returns
abbrev pub servers_own : List Row
servers_own =
    row 1 0 tx_open 0 0 0 (pos 0) 0 0 0 0 0
    ∷ row 1 1 tx_open 0 0 0 (pos 0) 0 0 0 0 0
    ∷ row 1 1 tpadvertise 7 0 0 (pos 0) 1 0 0 0 0
    ∷ row 1 2 tx_open 0 0 0 (pos 0) 0 0 0 0 0
    ∷ row 1 2 tpadvertise 8 0 0 (pos 0) 1 0 0 0 0
    ∷ row 2 0 tpacall 7 0 0 (pos 0) 1 0 0 0 0
    ∷ row 3 1 dispatch 0 0 0 (pos 0) 1 64 0 7 0
    ∷ row 3 1 tx_begin 0 0 0 (pos 0) 0 0 0 0 1
    ∷ row 3 1 tpacall 8 0 0 (pos 0) 2 0 0 0 1
    ∷ row 4 2 dispatch 0 0 0 (pos 0) 2 64 0 8 1
    ∷ row 4 2 tpreturn 1 0 0 (pos 0) 8 0 0 0 0
    ∷ row 5 1 tpgetrply 2 0 0 (pos 0) 0 0 0 0 1
    ∷ row 5 1 tx_commit 0 0 0 (pos 0) 0 0 0 0 0
    ∷ row 6 1 tpreturn 1 0 0 (pos 0) 8 0 0 0 0
    ∷ row 7 0 tpgetrply 1 0 0 (pos 0) 0 0 0 0 0
    ∷ []

-- commits of a party that is not opened
abbrev pub never_opened : List Row
never_opened =
    row 1 0 tx_commit 0 0 0 (negsuc 4) 0 0 0 0 0
    ∷ row 1 0 tx_commit 0 0 0 (negsuc 4) 0 0 0 0 0
    ∷ []

-- no monitor gives it: a begin is refused by question 21, and its answer ends in a transaction
abbrev pub refused_begin : List Row
refused_begin =
    row 1 0 tx_begin 0 0 0 (pos 21) 0 0 0 0 1
    ∷ row 2 0 tx_commit 0 0 0 (negsuc 1) 0 0 0 0 0
    ∷ []

-- no monitor gives it: a request is dispatched after its reply was fetched
abbrev pub dispatched_late : List Row
dispatched_late =
    row 1 0 tx_begin 0 0 0 (pos 0) 0 0 0 0 1
    ∷ row 1 0 tpacall 7 0 0 (pos 0) 1 0 0 0 1
    ∷ row 1 0 tpgetrply 1 0 0 (pos 0) 0 0 0 0 1
    ∷ row 1 1 dispatch 0 0 0 (pos 0) 1 0 0 0 1
    ∷ row 1 0 tx_commit 0 0 0 (pos 0) 0 0 0 0 0
    ∷ []

-- ---- the tables
abbrev pub real : List (List Row)
real = owners ∷ servers_own ∷ never_opened ∷ []

abbrev pub spoilt : List Spoilt
spoilt =
    -- the one rolled back for what the other will fail by
    breaks commit (coded 16 (negsuc 1) owners)
    -- the other committed, though its service failed
    ∷ breaks commit (coded 21 (pos 0) owners)
    -- the other committed, though its failed reply was not fetched
    ∷ breaks commit (without 20 (coded 21 (pos 0) owners))
    -- begun before the other and ended after it: rolled back
    ∷ breaks commit (coded 25 (negsuc 1) owners)
    -- a server's own transaction rolled back
    ∷ breaks commit (coded 12 (negsuc 1) servers_own)
    -- a server's own transaction committed without the reply
    ∷ breaks commit (without 11 servers_own)
    -- the one committed while its service is at work: it took the next link without a return
    ∷ breaks alone (without 13 owners)
    -- a server's own transaction committed while the service in it is at work
    ∷ breaks alone (without 10 servers_own)
    ∷ []

-- altered where the statement says nothing or the same: it still holds
abbrev pub harmless : List (List Row)
harmless =
    -- an answer that is not past question 21 tells no transaction to commit
    refused_begin
    -- the dispatch and the commit have no places for an answer: nobody is at work, and committed
    ∷ unanswered 3 dispatched_late
    -- the owner itself is at work
    ∷ coded 21 (pos 0) (asked 12 party_field 3 owners)
    ∷ []
