-- The states and the calls of the TX table, as the rules number them.
-- Assumes nothing.
use Rattle.std.specs.Prelude.{ℕ, Option, Some, None}
use Rattle.rules.specs.States.{blank}
use Rattle.monitor.specs.declared.states.State.{State}
use Rattle.monitor.specs.declared.states.State.TheVariants.{S0, S1, S2, S3, S4}
use Rattle.monitor.specs.declared.states.TxCall.{TxCall}
use Rattle.monitor.specs.declared.states.TxCall.TheVariants.{Open, Close, Begin, Commit, Rollback, Info, SetCommitReturn, SetTransactionControl, SetTransactionTimeout}

abbrev pub state_number : State → ℕ
state_number S0 = 0
state_number S1 = 1
state_number S2 = 2
state_number S3 = 3
state_number S4 = 4

-- of a next state; where there is none, the table has a blank
abbrev pub next_number : Option State → ℕ
next_number (Some s) = state_number s
next_number None = blank

-- the state at the control chained of one that is opened
abbrev pub chained_of : State → State
chained_of S0 = S0
chained_of S1 = S2
chained_of S2 = S2
chained_of S3 = S4
chained_of S4 = S4

abbrev pub call_number : TxCall → ℕ
call_number Open = 1
call_number Close = 2
call_number Begin = 3
call_number Commit = 4
call_number Rollback = 5
call_number Info = 6
call_number SetCommitReturn = 7
call_number SetTransactionControl = 8
call_number SetTransactionTimeout = 9
