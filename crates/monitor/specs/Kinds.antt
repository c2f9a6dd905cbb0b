-- The kinds of calls, as the rules number them.
-- Assumes nothing.
use Rattle.std.specs.Prelude.{◌≡◌, ℕ, true, false, Result, MatchResult}
use Rattle.rules.specs.Step.{is_kind}
use Rattle.monitor.specs.declared.kinds.Kind.{Kind}
use Rattle.monitor.specs.declared.kinds.Kind.TheVariants.{TxOpen, TxClose, TxBegin, TxCommit, TxRollback, TxInfo, TxSetCommitReturn, TxSetTransactionControl}
use Rattle.monitor.specs.declared.kinds.Kind.TheVariants.{TxSetTransactionTimeout, TpAdvertise, TpUnadvertise, TpACall, TpConnect, Dispatch, TpGetRply, TpCancel}
use Rattle.monitor.specs.declared.kinds.Kind.TheVariants.{TpSend, TpRecv, TpDiscon, TpReturn, Terminate, Report, SetRights}
use Rattle.rules.specs.declared.refusal.Refusal.{Refusal}
use Rattle.rules.specs.declared.refusal.Refusal.TheVariants as why

abbrev pub kind_number : Kind → ℕ
kind_number TxOpen = 1
kind_number TxClose = 2
kind_number TxBegin = 3
kind_number TxCommit = 4
kind_number TxRollback = 5
kind_number TxInfo = 6
kind_number TxSetCommitReturn = 7
kind_number TxSetTransactionControl = 8
kind_number TxSetTransactionTimeout = 9
kind_number TpAdvertise = 10
kind_number TpUnadvertise = 11
kind_number TpACall = 12
kind_number TpConnect = 13
kind_number Dispatch = 14
kind_number TpGetRply = 15
kind_number TpCancel = 16
kind_number TpSend = 17
kind_number TpRecv = 18
kind_number TpDiscon = 19
kind_number TpReturn = 20
kind_number Terminate = 21
kind_number Report = 22
kind_number SetRights = 23

-- the kind of that number, or the refusal of a number that no kind has
abbrev pub Decodes : ℕ → Result Kind Refusal → Type 0
Decodes n r = MatchResult r (λ kind. (kind_number kind ≡ n) × (is_kind n ≡ true)) (λ e. (e ≡ why.UnknownKind) × (is_kind n ≡ false))
