-- Kinds 15 and 16: a request's reply fetched, or given up.
-- Assumes nothing.
use Rattle.std.specs.Prelude.{ℕ, Bool, not, ◌&&◌, get_or, eqb, ltb, leb, ℤ}
use Rattle.rules.specs.Choice.{pick}
use Rattle.rules.specs.Codes.{bad_argument, no_such_end, in_transaction, timed_out, no_reply_yet, tp_accepted, tpe_svc_fail, tpe_svc_err}
use Rattle.rules.specs.Codes.{tpev_svc_fail, tpev_svc_succ, tp_get_any}
use Rattle.rules.specs.Lists.{first_of, any_of}
use Rattle.rules.specs.Record.{fresh_link, is_request, is_returned, own_end, live, link_of, closed, changed, removed, valued, ask}
use Rattle.rules.specs.Transaction.{expired}
use Rattle.rules.specs.declared.Ruled.{Ruled}
use Rattle.rules.specs.declared.Link.{Link}
use Rattle.rules.specs.declared.Monitor.{Monitor}

-- is this an open request end of party p's
unfoldable pub request_end : ℕ → Link → Bool
request_end p l = is_request l && own_end p l

-- "Outcome 8 gives 0, 4 gives 30, 2 gives 31"
unfoldable pub outcome_code : ℕ → ℤ
outcome_code o = pick (eqb o tpev_svc_succ) tp_accepted (pick (eqb o tpev_svc_fail) tpe_svc_fail tpe_svc_err)

-- the reply of link a is taken, and the link goes; the value is v
unfoldable pub fetched : Monitor → ℕ → Link → ℕ → Ruled
fetched m a l v = record { monitor = removed m a; code = outcome_code l.outcome; value = v; event = 0; token = l.ending; service = 0 }

-- fetch a: an open request end of the caller's? 24. Not expired? 28. Returned? 36
unfoldable pub fetch_one : Monitor → ℕ → ℕ → Ruled
fetch_one m p a =
    ask m (request_end p (link_of m a)) no_such_end
    (ask m (not (expired m (link_of m a).tx)) timed_out
    (ask m (is_returned (link_of m a)) no_reply_yet
    (fetched m a (link_of m a) 0)))

-- is this an open request end of party p's, of an expired transaction
unfoldable pub expired_end : Monitor → ℕ → Link → Bool
expired_end m p l = request_end p l && expired m l.tx

-- is this an open request end of party p's, with its reply there
unfoldable pub replied_end : ℕ → Link → Bool
replied_end p l = request_end p l && is_returned l

-- the place of "the lowest-numbered returned request with an open end of the caller's"
abbrev pub next_reply : Monitor → ℕ → ℕ
next_reply m p = first_of (replied_end p) (live m)

-- the reply of the link l is taken, and the value "says its number"
abbrev pub fetched_any : Monitor → Link → Ruled
fetched_any m l = fetched m l.number l l.number

-- fetch whichever reply is there: "has the caller an open request end? 24. Are the transactions of all requests with such
-- an end unexpired? 28. Is one of them returned?" 36
unfoldable pub fetch_any : Monitor → ℕ → Ruled
fetch_any m p =
    ask m (any_of (request_end p) (live m)) no_such_end
    (ask m (not (any_of (expired_end m p) (live m))) timed_out
    (ask m (ltb (next_reply m p) m.count) no_reply_yet
    (fetched_any m (get_or (live m) (next_reply m p) fresh_link))))

-- 15 fetch a; with b = 1 whichever reply is there, and a is ignored. "A b above 1 is 22, asked first."
unfoldable pub fetch_of : Monitor → ℕ → ℕ → ℕ → Ruled
fetch_of m p a b = ask m (leb b 1) bad_argument (pick (eqb b tp_get_any) (fetch_any m p) (fetch_one m p a))

-- "The end closes; a returned link goes; the service runs on."
unfoldable pub cancelled : Monitor → ℕ → Link → Monitor
cancelled m a l = pick (is_returned l) (removed m a) (changed m a (closed l))

-- 16 cancel a: as in 15, 24. Is its transaction 0? 27
unfoldable pub cancel_of : Monitor → ℕ → ℕ → Ruled
cancel_of m p a =
    ask m (request_end p (link_of m a)) no_such_end
    (ask m (eqb (link_of m a).tx 0) in_transaction
    (valued (cancelled m a (link_of m a)) 0))
