-- Kinds 17 to 19: send, receive and disconnect on a conversation.
-- Assumes nothing.
use Rattle.std.specs.Prelude.{ℕ, Bool, not, ◌&&◌, ◌||◌, get_or, eqb, ltb, leb}
use Rattle.rules.specs.Choice.{pick, same}
use Rattle.rules.specs.Codes.{bad_argument, not_allowed_now, no_such_end, timed_out, nothing_unread, unread_full, tp_accepted, tpe_event, tpev_discon_imm, tpev_svc_succ, tpev_send_only}
use Rattle.rules.specs.Record.{is_conversation, is_working, is_returned, is_disconnected, is_notified, own_end, link_of, disconnected_link}
use Rattle.rules.specs.Record.{notified, with_sent, without_oldest, changed, removed, valued, ask}
use Rattle.rules.specs.Transaction.{expired, rollback_only_tx}
use Rattle.rules.specs.declared.Ruled.{Ruled}
use Rattle.rules.specs.declared.Link.{Link}
use Rattle.rules.specs.declared.Monitor.{Monitor}

-- ---- the caller's end
-- is this an open conversation end of party p's, as its originator
unfoldable pub originator_end : ℕ → Link → Bool
originator_end p l = is_conversation l && own_end p l

-- is it p's as its server: "working and not told"
unfoldable pub server_end : ℕ → Link → Bool
server_end p l = is_conversation l && (is_working l && (same l.server p && not (is_notified l)))

-- "An end of a conversation: the originator's if open, else the server's if working and not told"
unfoldable pub any_end : ℕ → Link → Bool
any_end p l = originator_end p l || server_end p l

-- "If cut, the server gets .."
unfoldable pub hears_disconnect : ℕ → Link → Bool
hears_disconnect p l = not (originator_end p l) && is_disconnected l

-- "If returned and nothing unread .. the originator gets .."
unfoldable pub hears_return : ℕ → Link → Bool
hears_return p l = originator_end p l && (is_returned l && eqb l.filled 0)

-- the caller's end as the record names it: 0 the originator's, 1 the server's
unfoldable pub end_side : ℕ → Link → ℕ
end_side p l = pick (originator_end p l) 0 1

-- is party p's end the sender (document 01: the holder)
unfoldable pub is_sender : ℕ → Link → Bool
is_sender p l = same l.sender (end_side p l)

-- ---- what the end's party learns
-- "29, event 1, and is told"
unfoldable pub tells_disconnect : Monitor → ℕ → Link → Ruled
tells_disconnect m a l = record { monitor = changed m a (notified l); code = tpe_event; value = 0; event = tpev_discon_imm; token = 0; service = 0 }

-- "29, event the outcome, and the ending token; the link goes"
unfoldable pub tells_return : Monitor → ℕ → Link → Ruled
tells_return m a l = record { monitor = removed m a; code = tpe_event; value = 0; event = l.outcome; token = l.ending; service = 0 }

-- ---- 17 send
unfoldable pub send_on : Monitor → ℕ → ℕ → ℕ → ℕ → Link → Ruled
send_on m p a b c l =
    ask m (any_end p l) no_such_end
    (ask m (leb b 1) bad_argument
    (ask m (not (expired m l.tx)) timed_out
    (pick (hears_disconnect p l) (tells_disconnect m a l)
    (pick (hears_return p l && not (eqb l.outcome tpev_svc_succ)) (tells_return m a l)
    (ask m (is_sender p l && eqb l.granting 0) not_allowed_now
    (ask m (ltb l.filled 4) unread_full
    (valued (changed m a (with_sent l b c)) 0)))))))

-- 17 send a, b = 1 grants (document 01: hands over), c
unfoldable pub send_of : Monitor → ℕ → ℕ → ℕ → ℕ → Ruled
send_of m p a b c = send_on m p a b c (link_of m a)

-- ---- 18 receive
-- "if it carries the hand-over (the last unread while the mark is set)"
unfoldable pub carries_grant : Link → Bool
carries_grant l = eqb l.filled 1 && eqb l.granting 1

-- "The oldest token comes with 0, or, if it carries the hand-over, 29 and event 32 (SENDONLY); the holder changes and the mark clears."
unfoldable pub received : Monitor → ℕ → ℕ → Link → Ruled
received m p a l =
    pick (carries_grant l)
    (record { monitor = changed m a (without_oldest l (end_side p l) 0); code = tpe_event; value = 0; event = tpev_send_only; token = get_or l.unread 0 0; service = 0 })
    (record { monitor = changed m a (without_oldest l l.sender l.granting); code = tp_accepted; value = 0; event = 0; token = get_or l.unread 0 0; service = 0 })

unfoldable pub receive_on : Monitor → ℕ → ℕ → Link → Ruled
receive_on m p a l =
    ask m (any_end p l) no_such_end
    (ask m (not (expired m l.tx)) timed_out
    (pick (hears_disconnect p l) (tells_disconnect m a l)
    (pick (hears_return p l) (tells_return m a l)
    (ask m (not (is_sender p l)) not_allowed_now
    (ask m (ltb 0 l.filled) nothing_unread
    (received m p a l))))))

-- 18 receive a
unfoldable pub receive_of : Monitor → ℕ → ℕ → Ruled
receive_of m p a = receive_on m p a (link_of m a)

-- ---- 19 disconnect
-- "the link goes if waiting or returned, else is cut"
unfoldable pub disconnected_at : Monitor → ℕ → Link → Monitor
disconnected_at m a l = pick (is_working l) (changed m a (disconnected_link l)) (removed m a)

-- 19 disconnect a: an open conversation end of the originator's? 24. "Its live T is doomed"
unfoldable pub disconnect_of : Monitor → ℕ → ℕ → Ruled
disconnect_of m p a =
    ask m (originator_end p (link_of m a)) no_such_end
    (valued (disconnected_at (rollback_only_tx m (link_of m a).tx) a (link_of m a)) 0)
