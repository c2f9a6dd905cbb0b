-- One call: the questions before the kind's, the clock, the kind's rule, the answer's last field.
-- Assumes nothing.
use Rattle.std.specs.Prelude.{ℕ, Bool, ◌&&◌, eqb, ltb, leb, ℤ}
use Rattle.rules.specs.Choice.{pick}
use Rattle.rules.specs.Codes.{unsound, unknown_kind, unknown_party}
use Rattle.rules.specs.Record.{with_clock, ruled}
use Rattle.rules.specs.Transaction.{tx_of}
use Rattle.rules.specs.Tx.{open_of, close_of, begin_of, commit_of, rollback_of, info_of, commit_return_of, control_of, timeout_of}
use Rattle.rules.specs.Services.{advertise_of, unadvertise_of}
use Rattle.rules.specs.Requests.{request_of, connect_of, dispatch_of}
use Rattle.rules.specs.Replies.{fetch_of, cancel_of}
use Rattle.rules.specs.Conversations.{send_of, receive_of, disconnect_of}
use Rattle.rules.specs.Return.{return_of, terminate_of}
use Rattle.rules.specs.Votes.{report_of}
use Rattle.rules.specs.Rights.{rights_of}
use Rattle.rules.specs.Sound.{sound}
use Rattle.rules.specs.declared.Ruled.{Ruled}
use Rattle.rules.specs.declared.Call.{Call}
use Rattle.rules.specs.declared.Stepped.{Stepped}
use Rattle.rules.specs.declared.Monitor.{Monitor}

-- "Each kind decides by its number."
unfoldable pub rule_of : Monitor → ℕ → ℕ → ℕ → ℕ → ℕ → Ruled
rule_of m p k a b c =
    pick (eqb k 1) (open_of m p)
    (pick (eqb k 2) (close_of m p)
    (pick (eqb k 3) (begin_of m p)
    (pick (eqb k 4) (commit_of m p)
    (pick (eqb k 5) (rollback_of m p)
    (pick (eqb k 6) (info_of m p)
    (pick (eqb k 7) (commit_return_of m p a)
    (pick (eqb k 8) (control_of m p a)
    (pick (eqb k 9) (timeout_of m p a)
    (pick (eqb k 10) (advertise_of m p a)
    (pick (eqb k 11) (unadvertise_of m p a)
    (pick (eqb k 12) (request_of m p a b c)
    (pick (eqb k 13) (connect_of m p a b c)
    (pick (eqb k 14) (dispatch_of m p)
    (pick (eqb k 15) (fetch_of m p a b)
    (pick (eqb k 16) (cancel_of m p a)
    (pick (eqb k 17) (send_of m p a b c)
    (pick (eqb k 18) (receive_of m p a)
    (pick (eqb k 19) (disconnect_of m p a)
    (pick (eqb k 20) (return_of m p a c)
    (pick (eqb k 21) (terminate_of m p)
    (pick (eqb k 22) (report_of m p a b c)
    (pick (eqb k 23) (rights_of m p a b c)
    (ruled m unknown_kind)))))))))))))))))))))))

-- "Kind 1 to 21?", and 22 and 23: "question 20 admits each kind as it is added"
abbrev pub is_kind : ℕ → Bool
is_kind k = leb 1 k && leb k 23

-- "the clock becomes the greater of its own and the call's"
unfoldable pub later_of : ℕ → ℕ → ℕ
later_of a b = pick (ltb a b) b a

abbrev pub advanced : Monitor → ℕ → Monitor
advanced m t = with_clock m (later_of m.clock t)

abbrev pub answered : Ruled → ℕ → Stepped
answered r t =
    record {
      monitor = r.monitor;
      answer = record { code = r.code; value = r.value; event = r.event; token = r.token; service = r.service; tx = t };
    }

-- what a rule gives, with the caller's T afterwards
unfoldable pub answered_to : Ruled → ℕ → Stepped
answered_to r p = answered r (tx_of r.monitor p)

-- questions 19, 20 and 21: "For these the last field is 0 and the record is unchanged"
unfoldable pub turned_down : Monitor → ℤ → Stepped
turned_down m code = answered (ruled m code) 0

-- a call on a record that is sound
unfoldable pub call_of : Monitor → Call → Stepped
call_of m c =
    pick (is_kind c.kind)
    (pick (leb c.party 15)
    (answered_to (rule_of (advanced m c.clock) c.party c.kind c.a c.b c.c) c.party)
    (turned_down m unknown_party))
    (turned_down m unknown_kind)

-- one call
unfoldable pub step_of : Monitor → Call → Stepped
step_of m c = pick (sound m) (call_of m c) (turned_down m unsound)
