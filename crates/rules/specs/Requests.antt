-- Kinds 12 to 14: a request, a connect, and the dispatch of a waiting link.
-- Assumes nothing.
use Rattle.std.specs.Prelude.{ℕ, ◌+◌, ◌/◌, ◌%◌, Bool, not, ◌&&◌, get_or, eqb, ltb, leb}
use Rattle.rules.specs.Choice.{pick}
use Rattle.rules.specs.Codes.{bad_argument, not_allowed_now, not_offered, no_room_left, timed_out, nothing_waiting, not_permitted}
use Rattle.rules.specs.Codes.{tp_accepted, request_dispatched, receiver_dispatched}
use Rattle.rules.specs.Codes.{sender_dispatched, tp_no_reply, tp_no_tran, tp_send_only, tp_recv_only}
use Rattle.rules.specs.Lists.{first_of, any_of}
use Rattle.rules.specs.Record.{fresh_link, is_opened, is_request, is_waiting, own_end, party, live, serving, new_link}
use Rattle.rules.specs.Record.{working, with_party, replaced, added, valued, ask}
use Rattle.rules.specs.Transaction.{tx_of, ended, expired}
use Rattle.rules.specs.Services.{is_service, offers, may_request}
use Rattle.rules.specs.declared.Ruled.{Ruled}
use Rattle.rules.specs.declared.Party.{Party}
use Rattle.rules.specs.declared.Link.{Link}
use Rattle.rules.specs.declared.Monitor.{Monitor}

-- ---- flags
-- 1 if the flag is among those of b, else 0
abbrev pub flag_of : ℕ → ℕ → ℕ
flag_of flag b = b / flag % 2

abbrev pub no_reply : ℕ → Bool
no_reply b = eqb (flag_of tp_no_reply b) 1

abbrev pub no_tran : ℕ → Bool
no_tran b = eqb (flag_of tp_no_tran b) 1

abbrev pub recv_only : ℕ → Bool
recv_only b = eqb (flag_of tp_recv_only b) 1

-- of a connect: 2, 4 and 8 alone, one of 4 and 8
abbrev pub connect_flags : ℕ → Bool
connect_flags b = leb b 15 && (eqb (flag_of tp_no_reply b) 0 && not (eqb (flag_of tp_send_only b) (flag_of tp_recv_only b)))

-- "The link is of T unless b has 2."
unfoldable pub link_tx : Monitor → ℕ → ℕ → ℕ
link_tx m p b = pick (no_tran b) 0 (tx_of m p)

-- ---- 12, 13
-- "Fewer than 32 links and a number left?"
abbrev pub link_left : Monitor → Bool
link_left m = ltb m.count 32 && ltb m.lastlink 60000

-- the questions after the flags, for party p's link of the transaction t (0 none) to service a; "not permitted is 35, which comes
-- after 22"
unfoldable pub ask_link : Monitor → ℕ → ℕ → ℕ → Ruled → Ruled
ask_link m p t a rest =
    ask m (may_request a (party m p)) not_permitted
    (ask m (not (ended m t)) not_allowed_now
    (ask m (not (expired m t)) timed_out
    (ask m (any_of (offers a) m.parties) not_offered
    (ask m (link_left m) no_room_left
    rest))))

-- 12 request a, flags b (1 no reply, 2 no transaction), token c: service and flags good, and no bare 1 in T? 22
abbrev pub is_bare_no_reply : ℕ → Bool
is_bare_no_reply b = eqb b tp_no_reply

unfoldable pub request_of : Monitor → ℕ → ℕ → ℕ → ℕ → Ruled
request_of m p a b c =
    ask m (is_service a && (leb b 3 && not (is_bare_no_reply b && not (eqb (tx_of m p) 0)))) bad_argument
    (ask_link m p (link_tx m p b) a
    (valued
    (added m (new_link (m.lastlink + 1) 0 p (pick (no_reply b) 0 1) a (link_tx m p b) c 0))
    (pick (no_reply b) 0 (m.lastlink + 1))))

-- 13 connect a, flags b (2, 4 I send, 8 I receive; one of 4 and 8), token c: service and flags good? 22
unfoldable pub connect_of : Monitor → ℕ → ℕ → ℕ → ℕ → Ruled
connect_of m p a b c =
    ask m (is_service a && connect_flags b) bad_argument
    (ask_link m p (link_tx m p b) a
    (valued
    (added m (new_link (m.lastlink + 1) 1 p 1 a (link_tx m p b) c (pick (recv_only b) 1 0)))
    (m.lastlink + 1)))

-- ---- 14 take: the dispatch of a service
-- "opened, not serving, no T, no open originator end?"
unfoldable pub is_idle : Monitor → ℕ → Bool
is_idle m p = is_opened (party m p) && (eqb (party m p).served 0 && (eqb (tx_of m p) 0 && not (any_of (own_end p) (live m))))

-- a waiting link of a service that the party offers
unfoldable pub fits : Party → Link → Bool
fits q l = is_waiting l && offers l.service q

-- "event 64 request, 65 server receives, 66 server sends"
unfoldable pub dispatch_event : Link → ℕ
dispatch_event l = pick (is_request l) request_dispatched (pick (eqb l.sender 0) receiver_dispatched sender_dispatched)

-- the link l at the place i becomes working for party p
unfoldable pub dispatched : Monitor → ℕ → ℕ → Link → Ruled
dispatched m p i l =
    record {
      monitor = replaced (with_party m p (serving (party m p) l.number)) i (working l p);
      code = tp_accepted;
      value = l.number;
      event = dispatch_event l;
      token = l.first;
      service = l.service;
    }

-- the place of the waiting link with the lowest number
abbrev pub next_waiting : Monitor → ℕ → ℕ
next_waiting m p = first_of (fits (party m p)) (live m)

unfoldable pub dispatch_of : Monitor → ℕ → Ruled
dispatch_of m p =
    ask m (is_idle m p) not_allowed_now
    (ask m (ltb (next_waiting m p) m.count) nothing_waiting
    (dispatched m p (next_waiting m p) (get_or (live m) (next_waiting m p) fresh_link)))
