-- When a record is sound.
-- Assumes nothing.
use Rattle.std.specs.Prelude.{ℕ, ◌+◌, List, [], ◌∷◌, Bool, true, false, not, ◌&&◌, ◌||◌, eqb, ltb, leb, length}
use Rattle.rules.specs.Choice.{pick, same}
use Rattle.rules.specs.Lists.{any_of}
use Rattle.rules.specs.Record.{is_working, is_returned, is_ending, live, link_of}
use Rattle.rules.specs.declared.Party.{Party}
use Rattle.rules.specs.declared.Link.{Link}
use Rattle.rules.specs.declared.Monitor.{Monitor}

-- "originators and servers are 0 to 15, unread is at most 4, fields with listed choices hold one of them,
-- a returned link's outcome is not 0"
abbrev pub link_good : Link → Bool
link_good l =
    leb l.kind 1 && (leb l.originator 15 && (leb l.attached 1 && (leb l.state 2 && (leb l.server 15
    && ((eqb l.outcome 0 || is_ending l.outcome)
    && (leb l.sender 1 && (leb l.granting 1 && (leb l.disconnected 2 && (leb l.filled 4 && not (is_returned l && eqb l.outcome 0))))))))))

-- "their numbers rise strictly from 1 to at most the last number", from above prev; and each link is good
unfoldable pub links_good : ℕ → ℕ → List Link → Bool
links_good last prev [] = leb prev last
links_good last prev (l ∷ ls) = pick (ltb prev l.number && link_good l) (links_good last l.number ls) false

-- is it a working link with party p as server
unfoldable pub works_for : ℕ → Link → Bool
works_for p l = is_working l && same l.server p

-- "Each party's record keeps .. one report or none a manager", "up to 4": 0, 1 + b or 8 + b, with b 0 to 6
unfoldable pub reports_good : List ℕ → Bool
reports_good rs = eqb (length rs) 4 && not (any_of (ltb 14) rs)

abbrev pub choices_good : Party → Bool
choices_good q = leb q.opened 1 && (leb q.control 1 && (leb q.rollbackonly 1 && reports_good q.reports))

-- "each served number names a working link with that party as server"
unfoldable pub party_good : Monitor → ℕ → Party → Bool
party_good m p q = pick (eqb q.served 0) (choices_good q) (choices_good q && works_for p (link_of m q.served))

unfoldable pub parties_good : Monitor → ℕ → List Party → Bool
parties_good m p [] = true
parties_good m p (q ∷ qs) = pick (party_good m p q) (parties_good m (p + 1) qs) false

-- "A record is sound when links number at most 32, .., both last numbers are at most 60,000, .."
unfoldable pub sound : Monitor → Bool
sound m =
    pick (leb m.count 32)
    (leb m.lastlink 60000 && (leb m.lasttx 60000 && (links_good m.lastlink 0 (live m) && parties_good m 0 m.parties)))
    false
