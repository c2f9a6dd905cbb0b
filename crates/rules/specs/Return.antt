-- Kinds 20 and 21: a service returns, and a party dies.
-- Assumes nothing.
use Rattle.std.specs.Prelude.{ℕ, List, [], ◌∷◌, not, ◌&&◌, ◌||◌, eqb}
use Rattle.rules.specs.Choice.{pick}
use Rattle.rules.specs.Codes.{bad_argument, not_allowed_now, tpev_svc_err, tpev_svc_fail, tpev_svc_succ, tp_success, tp_fail}
use Rattle.rules.specs.Lists.{any_of, collect}
use Rattle.rules.specs.Record.{fresh_party, is_conversation, is_attached, is_working, is_returned, is_server_free, own_end, party, live, link_of}
use Rattle.rules.specs.Record.{serving, closed, dropped, disconnected_link, returned, with_rights, with_parties, with_party, rebuilt, changed, removed, valued}
use Rattle.rules.specs.Record.{ask}
use Rattle.rules.specs.Transaction.{lost, rollback_only_in, rollback_only_tx, end_tx}
use Rattle.rules.specs.Conversations.{originator_end}
use Rattle.rules.specs.declared.Ruled.{Ruled}
use Rattle.rules.specs.declared.Party.{Party}
use Rattle.rules.specs.declared.Link.{Link}
use Rattle.rules.specs.declared.Monitor.{Monitor}

-- ---- the outcome
-- "8 or 4 by a"
unfoldable pub plain_outcome : ℕ → ℕ
plain_outcome a = pick (eqb a tp_success) tpev_svc_succ tpev_svc_fail

-- "2 if it has open originator ends or owns a transaction; for a conversation, else 2 if cut or told; else, if it is
-- not the free holder, 4 when a = 2 and c = 0 and otherwise 2; else 8 or 4 by a"; after the first of these, and so "before
-- the free-holder question", "a return with a = 1 inside a transaction that is already doomed or expired has outcome 2 in
-- place of 8" (document 02, R-7)
unfoldable pub outcome_of : Monitor → ℕ → ℕ → ℕ → Link → ℕ
outcome_of m p a c l =
    pick (any_of (own_end p) (live m) || not (eqb (party m p).owned 0)) tpev_svc_err
    (pick (eqb a tp_success && lost m l.tx) tpev_svc_err
    (pick (is_conversation l)
    (pick (not (eqb l.disconnected 0)) tpev_svc_err
    (pick (is_server_free l) (plain_outcome a)
    (pick (eqb a tp_fail && eqb c 0) tpev_svc_fail tpev_svc_err)))
    (plain_outcome a)))

-- "If outcome is 2, or it wasn't the free holder, unread is dropped."
unfoldable pub unread_after : ℕ → Link → Link
unread_after o l = pick (eqb o tpev_svc_err || not (is_server_free l)) (dropped l) l

-- ---- "Its own links close (conversations as by 19, requests as by 16, whatever their transaction)"
-- what is left of a link as party p's own ends close
unfoldable pub close_end : ℕ → Link → List Link
close_end p l =
    pick (own_end p l)
    (pick (is_conversation l)
    (pick (is_working l) (disconnected_link l ∷ []) [])
    (pick (is_returned l) [] (closed l ∷ [])))
    (l ∷ [])

-- the parties as each of p's open conversations makes its live transaction rollback-only
unfoldable pub rollback_only_by : ℕ → List Link → List Party → List Party
rollback_only_by p [] ps = ps
rollback_only_by p (l ∷ ls) ps = rollback_only_by p ls (pick (originator_end p l) (rollback_only_in l.tx ps) ps)

unfoldable pub close_own : Monitor → ℕ → Monitor
close_own m p = rebuilt (with_parties m (rollback_only_by p (live m) m.parties)) (collect (close_end p) (live m))

-- "its own transaction ends without a new one"
unfoldable pub end_own : Monitor → ℕ → Monitor
end_own m p = pick (eqb (party m p).owned 0) m (end_tx m p)

-- "Outcome 4 or 2 dooms the served link's live T, fetched or not."
unfoldable pub rollback_only_served : ℕ → ℕ → Monitor → Monitor
rollback_only_served o t m = pick (eqb o tpev_svc_succ) m (rollback_only_tx m t)

-- "The party serves none"
unfoldable pub serves_none : Monitor → ℕ → Monitor
serves_none m p = with_party m p (serving (party m p) 0)

-- ---- "the link is returned, or goes if the originator's end is closed"
-- "Ending token: c, but 0 for outcome 2."
unfoldable pub ending_of : ℕ → ℕ → ℕ
ending_of o c = pick (eqb o tpev_svc_err) 0 c

unfoldable pub hand_back : Monitor → ℕ → ℕ → ℕ → Monitor
hand_back m d o e = pick (is_attached (link_of m d)) (changed m d (returned (link_of m d) o e)) (removed m d)

-- party p, which serves the link d, leaves it with the outcome o and the ending token e: the steps in the text's order
unfoldable pub leave : Monitor → ℕ → ℕ → ℕ → ℕ → Monitor
leave m p d o e =
    hand_back (serves_none (rollback_only_served o (link_of m d).tx (end_own (close_own (changed m d (unread_after o (link_of m d))) p) p)) p) d o e

-- with the outcome o, which is the answer's value
unfoldable pub return_with : Monitor → ℕ → ℕ → ℕ → Ruled
return_with m p o c = valued (leave m p (party m p).served o (ending_of o c)) o

-- 20 return a (1 success, 2 fail), c: serving? 23. a good? 22
unfoldable pub return_of : Monitor → ℕ → ℕ → ℕ → Ruled
return_of m p a c =
    ask m (not (eqb (party m p).served 0)) not_allowed_now
    (ask m (eqb a tp_success || eqb a tp_fail) bad_argument
    (return_with m p (outcome_of m p a c (link_of m (party m p).served)) c))

-- ---- 21 fall: the party died
-- what it leaves behind: "if serving, as return with outcome 2 ..; its links close, its transaction ends"
unfoldable pub died_out : Monitor → ℕ → Monitor
died_out m p = pick (eqb (party m p).served 0) (end_own (close_own m p) p) (leave m p (party m p).served tpev_svc_err 0)

-- "the party is fresh", by what it was; "fall does not reset the sets"
abbrev pub after_death : Party → Party
after_death q = with_rights fresh_party q.mayrequest q.mayadvertise

unfoldable pub terminate_of : Monitor → ℕ → Ruled
terminate_of m p =
    valued (with_party (died_out m p) p (after_death (party m p))) (pick (eqb (party m p).served 0) 0 tpev_svc_err)
