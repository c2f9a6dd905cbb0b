-- Kinds 1 to 9: the TX calls.
-- Assumes nothing.
use Rattle.std.specs.Prelude.{ℕ, ◌+◌, Bool, not, ◌&&◌, eqb, leb, ℤ}
use Rattle.rules.specs.Choice.{pick}
use Rattle.rules.specs.Codes.{tx_ok, tx_not_supported, tx_info_outside, tx_info_inside, tx_protocol_error, tx_error, tx_einval, no_begin}
use Rattle.rules.specs.Record.{party, with_party, ruled, ask, with_timeout}
use Rattle.rules.specs.Transaction.{tx_of, is_owner, tx_left, begin_tx, end_tx, can_commit}
use Rattle.rules.specs.Votes.{all_can_start, commit_code}
use Rattle.rules.specs.States.{state_of, is_blank, next_of, entered}
use Rattle.rules.specs.declared.Ruled.{Ruled}
use Rattle.rules.specs.declared.Monitor.{Monitor}

-- the next state of party p's call, and whether there is one: a blank is TX_PROTOCOL_ERROR
abbrev pub next_state : Monitor → ℕ → ℕ → ℕ
next_state m p k = next_of k (state_of m p)

abbrev pub ask_state : Monitor → ℕ → ℕ → Ruled → Ruled
ask_state m p k rest = ask m (not (is_blank (next_state m p k))) tx_protocol_error rest

-- 1 open: S0 to S1; else no change
unfoldable pub open_of : Monitor → ℕ → Ruled
open_of m p = ask_state m p 1 (ruled (entered m p (next_state m p 1)) tx_ok)

-- 2 close: S0 to S2 go to S0, control and timeout 0. Services stay
unfoldable pub close_of : Monitor → ℕ → Ruled
close_of m p = ask_state m p 2 (ruled (with_party (entered m p (next_state m p 2)) p (with_timeout (party (entered m p (next_state m p 2)) p) 0)) tx_ok)

-- 3 begin: S1 to S3, S2 to S4. Transaction numbers left? −6
unfoldable pub begin_of : Monitor → ℕ → Ruled
begin_of m p =
    ask_state m p 3
    (ask m (tx_left m) tx_error
    (ruled (entered (begin_tx m p) p (next_state m p 3)) tx_ok))

-- "Unchained: S1. Chained: a new transaction begins; if numbers are spent, S2 and 100 is subtracted from the code":
-- party p goes on to the next state after its transaction ended with the code.
-- "A manager whose standing report says that it can't start subtracts 100 (once, if numbers are spent too) when chained, and
-- the party goes to S2.": whether the managers can start
unfoldable pub go_on : Monitor → ℕ → ℕ → Bool → ℤ → Ruled
go_on m p next start code =
    pick (eqb next 4)
    (pick (start && tx_left m)
    (ruled (entered (begin_tx m p) p 4) code)
    (ruled (entered m p 2) (no_begin code)))
    (ruled (entered m p next) code)

-- 4 commit: S3, S4, and only the owner, else −5
unfoldable pub commit_of : Monitor → ℕ → Ruled
commit_of m p =
    ask_state m p 4
    (ask m (is_owner m p) tx_protocol_error
    (go_on (end_tx m p) p (next_state m p 4) (all_can_start (party m p).reports) (commit_code (can_commit m p) (party m p).reports)))

-- 5 rollback: S3, S4, and only the owner, else −5. "Rollback still gives 0, or −100 so."
unfoldable pub rollback_of : Monitor → ℕ → Ruled
rollback_of m p =
    ask_state m p 5
    (ask m (is_owner m p) tx_protocol_error
    (go_on (end_tx m p) p (next_state m p 5) (all_can_start (party m p).reports) tx_ok))

-- 6 info: S1 to S4, code 1 in T, else 0
unfoldable pub info_of : Monitor → ℕ → Ruled
info_of m p = ask_state m p 6 (pick (eqb (tx_of m p) 0) (ruled m tx_info_outside) (ruled m tx_info_inside))

-- 7 commit return: a = 0 gives 0, 1 gives 1 (NOT_SUPPORTED), other a −8
unfoldable pub commit_return_of : Monitor → ℕ → ℕ → Ruled
commit_return_of m p a =
    ask_state m p 7
    (ask m (leb a 1) tx_einval
    (pick (eqb a 0) (ruled m tx_ok) (ruled m tx_not_supported)))

-- 8 control: 0 sets unchained, 1 chained, other a −8. At 1 the state is the one after that of 0
unfoldable pub control_of : Monitor → ℕ → ℕ → Ruled
control_of m p a =
    ask_state m p 8
    (ask m (leb a 1) tx_einval
    (ruled (entered m p (next_state m p 8 + a)) tx_ok))

-- 9 timeout: 0 sets none, up to 2,147,483,647, for later begins, other a −8
unfoldable pub timeout_of : Monitor → ℕ → ℕ → Ruled
timeout_of m p a =
    ask_state m p 9
    (ask m (leb a 2147483647) tx_einval
    (ruled (with_party m p (with_timeout (party m p) a)) tx_ok))
