-- The TX state table (document 002): nine calls by five states.
-- Assumes nothing.
use Rattle.std.specs.Prelude.{ℕ, Bool, eqb, leb}
use Rattle.rules.specs.Choice.{pick}
use Rattle.rules.specs.Record.{is_opened, is_chained, party, with_settings, with_party}
use Rattle.rules.specs.Transaction.{tx_of}
use Rattle.rules.specs.declared.Party.{Party}
use Rattle.rules.specs.declared.Monitor.{Monitor}

-- "S0 not opened; S1/S2 opened, no T, unchained/chained; S3/S4 in T, unchained/chained."
unfoldable pub state_of : Monitor → ℕ → ℕ
state_of m p =
    pick (is_opened (party m p))
    (pick (eqb (tx_of m p) 0)
    (pick (is_chained (party m p)) 2 1)
    (pick (is_chained (party m p)) 4 3))
    0

-- a blank of the table
abbrev pub blank : ℕ
blank = 9

abbrev pub is_blank : ℕ → Bool
is_blank s = eqb s blank

-- the next state of the calls 1 to 9 in the states 0 to 4
unfoldable pub next_of : ℕ → ℕ → ℕ
next_of k s =
    -- open: S0 to S1; else no change
    pick (eqb k 1) (pick (eqb s 0) 1 s)
    -- close: S0 to S2 go to S0
    (pick (eqb k 2) (pick (leb s 2) 0 blank)
    -- begin: S1 to S3, S2 to S4
    (pick (eqb k 3) (pick (eqb s 1) 3 (pick (eqb s 2) 4 blank))
    -- commit, rollback: S3 and S4; unchained S1, chained a new transaction
    (pick (leb k 5) (pick (eqb s 3) 1 (pick (eqb s 4) 4 blank))
    -- control, at unchained: S1 to S4
    (pick (eqb k 8) (pick (eqb s 0) blank (pick (leb s 2) 1 3))
    -- info, commit return, timeout: S1 to S4, no change
    (pick (eqb s 0) blank s)))))

-- what a state says of a party's fields
unfoldable pub in_state : Party → ℕ → Party
in_state q s = with_settings q (pick (eqb s 0) 0 1) (pick (eqb s 2) 1 (pick (eqb s 4) 1 0)) q.timeout q.services

-- party p enters a state
unfoldable pub entered : Monitor → ℕ → ℕ → Monitor
entered m p s = with_party m p (in_state (party m p) s)
