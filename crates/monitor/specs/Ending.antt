-- How a service returned, what a manager reports, and how a transaction ended, as the rules number them.
-- Assumes nothing.
use Rattle.std.specs.Prelude.{ℕ, ℤ}
use Rattle.rules.specs.Codes.{tpev_svc_err, tpev_svc_fail, tpev_svc_succ, tx_ok, tx_rollback, tx_mixed, tx_hazard, tx_committed}
use Rattle.monitor.specs.declared.returns.Outcome.{Outcome}
use Rattle.monitor.specs.declared.returns.Outcome.TheVariants.{SvcErr, SvcFail, SvcSucc}
use Rattle.monitor.specs.declared.votes.Reported.{Reported}
use Rattle.monitor.specs.declared.votes.Reported.TheVariants as reported
use Rattle.monitor.specs.declared.votes.TxEnd.{TxEnd}
use Rattle.monitor.specs.declared.votes.TxEnd.TheVariants as ended

abbrev pub outcome_number : Outcome → ℕ
outcome_number SvcErr = tpev_svc_err
outcome_number SvcFail = tpev_svc_fail
outcome_number SvcSucc = tpev_svc_succ

abbrev pub kind_of : Reported → ℕ
kind_of reported.Prepared = 0
kind_of reported.ReadOnly = 1
kind_of reported.Veto = 2
kind_of reported.Committed = 3
kind_of reported.RolledBack = 4
kind_of reported.Mixed = 5
kind_of reported.Hazard = 6

abbrev pub code_of_end : TxEnd → ℤ
code_of_end ended.AsAsked = tx_ok
code_of_end ended.RolledBack = tx_rollback
code_of_end ended.Mixed = tx_mixed
code_of_end ended.Hazard = tx_hazard
code_of_end ended.Committed = tx_committed
