-- Transactions: a party's T, its owner, ended, expired, lost, live, rollback-only; how one begins and ends.
-- Assumes nothing.
use Rattle.std.specs.Prelude.{ℕ, ◌+◌, List, [], ◌∷◌, Bool, false, not, ◌&&◌, ◌||◌, set, get_or, eqb, ltb, leb}
use Rattle.rules.specs.Choice.{pick, same}
use Rattle.rules.specs.Lists.{first_of, any_of, collect}
use Rattle.rules.specs.Record.{fresh_party, is_rollback_only, is_request, is_attached, is_working, is_notified, owns, party, live, link_of, owning}
use Rattle.rules.specs.Record.{owning_none, rollback_only, closed, disconnected_link, with_last_tx, with_parties, with_party, rebuilt}
use Rattle.rules.specs.declared.Party.{Party}
use Rattle.rules.specs.declared.Link.{Link}
use Rattle.rules.specs.declared.Monitor.{Monitor}

-- the transaction of the link that a party serves
unfoldable pub served_tx : Monitor → ℕ → ℕ
served_tx m d = pick (eqb d 0) 0 (link_of m d).tx

-- "A party's transaction T is the owned one, else its served link's."
unfoldable pub tx_of : Monitor → ℕ → ℕ
tx_of m p = pick (eqb (party m p).owned 0) (served_tx m (party m p).served) (party m p).owned

-- "T's owner is the lowest party that owns it"
abbrev pub owner_of : List Party → ℕ → ℕ
owner_of ps t = first_of (owns t) ps

abbrev pub owner_party : List Party → ℕ → Party
owner_party ps t = get_or ps (owner_of ps t) fresh_party

-- "without an owner T is ended"; "No transaction (0) is neither ended nor expired"
unfoldable pub ended : Monitor → ℕ → Bool
ended m t = not (eqb t 0) && not (any_of (owns t) m.parties)

-- has the party's deadline come
abbrev pub late : ℕ → Party → Bool
late clock q = not (eqb q.deadline 0) && leb q.deadline clock

-- can the party's transaction only be rolled back, by its mark or by its deadline
abbrev pub cannot_commit : ℕ → Party → Bool
cannot_commit clock q = is_rollback_only q || late clock q

-- "T is expired when its owner's deadline is not 0 and clock ≥ deadline"; "an ended one is not expired"
unfoldable pub expired : Monitor → ℕ → Bool
expired m t = pick (eqb t 0) false (late m.clock (owner_party m.parties t))

-- "inside a transaction that is already doomed or expired" (document 02, R-7): by its owner's mark or deadline. An ended one is neither, for without an
-- owner the party is a fresh one, which has no mark and no deadline; and no transaction (0) is neither.
unfoldable pub lost : Monitor → ℕ → Bool
lost m t = pick (eqb t 0) false (cannot_commit m.clock (owner_party m.parties t))

-- is party p in a transaction of which it is the owner
unfoldable pub is_owner : Monitor → ℕ → Bool
is_owner m p = not (eqb (party m p).owned 0) && same (owner_of m.parties (party m p).owned) p

-- ---- rollback-only (document 01: doomed)
-- the parties as t, if it is live, becomes rollback-only by its owner's mark
unfoldable pub rollback_only_in : ℕ → List Party → List Party
rollback_only_in t ps = pick (eqb t 0) ps (set ps (owner_of ps t) (rollback_only (owner_party ps t)))

abbrev pub rollback_only_tx : Monitor → ℕ → Monitor
rollback_only_tx m t = with_parties m (rollback_only_in t m.parties)

-- ---- a transaction begins
-- "Deadline is clock + timeout, or 0."
unfoldable pub deadline_of : ℕ → ℕ → ℕ
deadline_of clock timeout = pick (eqb timeout 0) 0 (clock + timeout)

-- party p begins a transaction with the next number
unfoldable pub begin_tx : Monitor → ℕ → Monitor
begin_tx m p = with_last_tx (with_party m p (owning (party m p) (m.lasttx + 1) (deadline_of m.clock (party m p).timeout))) (m.lasttx + 1)

-- "Transaction numbers left?"
abbrev pub tx_left : Monitor → Bool
tx_left m = ltb m.lasttx 60000

-- ---- a transaction ends
-- "a working request's originator end closes, a working conversation not yet told is cut"
unfoldable pub orphaned : Link → Link
orphaned l = pick (is_request l) (closed l) (pick (is_notified l) l (disconnected_link l))

-- what is left of a link as t ends: "T's waiting and returned links go"
unfoldable pub end_of : ℕ → Link → List Link
end_of t l = pick (same l.tx t) (pick (is_working l) (orphaned l ∷ []) []) (l ∷ [])

-- party p's own transaction ends: "the party's owned transaction, deadline and doomed mark become 0"
unfoldable pub end_tx : Monitor → ℕ → Monitor
end_tx m p = rebuilt (with_party m p (owning_none (party m p))) (collect (end_of (party m p).owned) (live m))

-- ---- commit
-- has a link of t its originator's end open
unfoldable pub is_open_of : ℕ → Link → Bool
is_open_of t l = is_attached l && same l.tx t

-- "T is not doomed, not expired, and no link of T has its originator's end open", of the T that party p owns
unfoldable pub can_commit : Monitor → ℕ → Bool
can_commit m p =
    not (is_rollback_only (party m p)) && (not (late m.clock (party m p)) && not (any_of (is_open_of (party m p).owned) (live m)))
