-- Kind 23: party 0 replaces the set of services that a party may request, or that it may advertise.
-- Assumes nothing.
use Rattle.std.specs.Prelude.{◌≡◌, ℕ, ◌+◌, ◌*◌, ◌/◌, ◌%◌, Bool, ◌||◌, eqb, ltb}
use Rattle.rules.specs.Choice.{pick}
use Rattle.rules.specs.Codes.{bad_argument, not_permitted}
use Rattle.rules.specs.Record.{party, with_rights, with_party, valued, ask}
use Rattle.rules.specs.Services.{may_request, may_advertise}
use Rattle.rules.specs.declared.Ruled.{Ruled}
use Rattle.rules.specs.declared.Party.{Party}
use Rattle.rules.specs.declared.Monitor.{Monitor}

-- "b holds services 1 to 32, lowest bit first, c the rest"
abbrev pub set_of : ℕ → ℕ → ℕ
set_of b c = b + c * 4294967296

-- "a is twice the party, plus 1 for the advertising set"
abbrev pub party_of : ℕ → ℕ
party_of a = a / 2

abbrev pub is_advertising : ℕ → Bool
is_advertising a = eqb (a % 2) 1

-- party q with the set that a names replaced by s
unfoldable pub granted : Party → ℕ → ℕ → Party
granted q a s = pick (is_advertising a) (with_rights q q.mayrequest s) (with_rights q s q.mayadvertise)

-- 23 set rights a, b, c: "open only to party 0", 35 "first in kind 23". "An a of 32 or more is 22."
unfoldable pub rights_of : Monitor → ℕ → ℕ → ℕ → ℕ → Ruled
rights_of m p a b c =
    ask m (eqb p 0) not_permitted
    (ask m (ltb a 32) bad_argument
    (valued (with_party m (party_of a) (granted (party m (party_of a)) a (set_of b c))) 0))

-- ---- what the laws speak of
-- "35, which comes after 22 in kinds 10, 12 and 13"
abbrev pub needs_right : ℕ → Bool
needs_right k = eqb k 10 || (eqb k 12 || eqb k 13)

-- has party q the right that a call of such a kind k, of service a, needs
unfoldable pub has_right : Party → ℕ → ℕ → Bool
has_right q k a = pick (eqb k 10) (may_advertise a q) (may_request a q)

-- both sets stay
abbrev pub SameRights : Party → Party → Type 0
SameRights x y = (y.mayrequest ≡ x.mayrequest) × (y.mayadvertise ≡ x.mayadvertise)

-- The record m' is m, at another clock perhaps, but for what the parties may do.
pub record OnlyRights (m m' : Monitor) : Type 0 where
  pub lastlink' : m'.lastlink ≡ m.lastlink
  pub lasttx' : m'.lasttx ≡ m.lasttx
  pub links' : m'.links ≡ m.links
  pub count' : m'.count ≡ m.count
  pub parties' : (q : ℕ) → party m' q ≡ with_rights (party m q) (party m' q).mayrequest (party m' q).mayadvertise
