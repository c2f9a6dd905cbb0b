-- The walk over the kinds: every rule makes one of the moves.
-- Assumes nothing.
use Rattle.std.proofs.Common.{◌≡◌, true, ◌<◌}
use Rattle.rules.specs.Step.{rule_of, is_kind}
use Rattle.rules.specs.declared.Call.{Call}
use Rattle.rules.specs.declared.Monitor.{Monitor}
use Rattle.rules.proofs.ByKind.{by_kind}
use Rattle.rules.proofs.Fine.{Fine}
use Rattle.rules.proofs.History.Walk.Moved.{Moved}
use Rattle.rules.proofs.History.Walk.Tx.{open_moved, close_moved, begin_moved, commit_moved, rollback_moved}
use Rattle.rules.proofs.History.Walk.Tx.{info_moved, commit_return_moved, control_moved, timeout_moved}
use Rattle.rules.proofs.History.Walk.Services.{advertise_moved, unadvertise_moved}
use Rattle.rules.proofs.History.Walk.Requests.{request_moved, connect_moved, dispatch_moved}
use Rattle.rules.proofs.History.Walk.Replies.{fetch_moved, cancel_moved}
use Rattle.rules.proofs.History.Walk.Conversations.{send_moved, receive_moved, disconnect_moved}
use Rattle.rules.proofs.History.Walk.Votes.{report_moved}
use Rattle.rules.proofs.History.Walk.Rights.{rights_moved}
use Rattle.rules.proofs.History.Walk.Return.{return_moved, terminate_moved}

pub rule_moved : (m : Monitor) (c : Call) → Fine m → c.party < 16 → is_kind c.kind ≡ true → Moved m c (rule_of m c.party c.kind c.a c.b c.c)
rule_moved m c f p k = by_kind (Moved m c) m c.party c.kind c.a c.b c.c k (record {
  on_open = open_moved m c f p;
  on_close = close_moved m c f p;
  on_begin = begin_moved m c f p;
  on_commit = commit_moved m c f p;
  on_rollback = rollback_moved m c f p;
  on_info = info_moved m c f p;
  on_commit_return = commit_return_moved m c f p;
  on_control = control_moved m c f p;
  on_timeout = timeout_moved m c f p;
  on_advertise = advertise_moved m c f p;
  on_unadvertise = unadvertise_moved m c f p;
  on_request = request_moved m c f p;
  on_connect = connect_moved m c f p;
  on_dispatch = dispatch_moved m c f p;
  on_fetch = fetch_moved m c f p;
  on_cancel = cancel_moved m c f p;
  on_send = send_moved m c f p;
  on_receive = receive_moved m c f p;
  on_disconnect = disconnect_moved m c f p;
  on_return = return_moved m c f p;
  on_terminate = terminate_moved m c f p;
  on_report = report_moved m c f p;
  on_rights = rights_moved m c f;
})
