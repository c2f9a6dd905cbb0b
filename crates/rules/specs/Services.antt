-- Services, as a 64-bit set, and kinds 10 and 11: a party offers one, and no longer does.
-- Assumes nothing.
use Rattle.std.specs.Prelude.{ℕ, zero, suc, ◌+◌, ◌-◌, ◌/◌, ◌%◌, ◌^◌, Bool, ◌&&◌, ◌||◌, eqb, ltb, leb}
use Rattle.rules.specs.Choice.{pick}
use Rattle.rules.specs.Codes.{bad_argument, not_offered, no_room_left, not_permitted}
use Rattle.rules.specs.Record.{party, offering, with_party, valued, ask}
use Rattle.rules.specs.declared.Ruled.{Ruled}
use Rattle.rules.specs.declared.Party.{Party}
use Rattle.rules.specs.declared.Monitor.{Monitor}

-- services are 1 to 64
abbrev pub is_service : ℕ → Bool
is_service a = leb 1 a && leb a 64

-- 1 if bit a - 1 is in the set, else 0
abbrev pub bit_of : ℕ → ℕ → ℕ
bit_of s a = s / 2 ^ (a - 1) % 2

-- is service a in the set
unfoldable pub in_set : ℕ → ℕ → Bool
in_set s a = is_service a && eqb (bit_of s a) 1

unfoldable pub offers : ℕ → Party → Bool
offers a q = in_set q.services a

-- "a set of services that it may request and a set that it may advertise"
unfoldable pub may_request : ℕ → Party → Bool
may_request a q = in_set q.mayrequest a

unfoldable pub may_advertise : ℕ → Party → Bool
may_advertise a q = in_set q.mayadvertise a

-- how many of the services 1 to n are in the set
unfoldable pub count_to : ℕ → ℕ → ℕ
count_to zero s = 0
count_to (suc n) s = bit_of s (n + 1) + count_to n s

-- "how many services the party offers now"
unfoldable pub offered : ℕ → ℕ
offered s = count_to 64 s

unfoldable pub with_service : ℕ → ℕ → ℕ
with_service s a = pick (in_set s a) s (s + 2 ^ (a - 1))

abbrev pub without_service : ℕ → ℕ → ℕ
without_service s a = s - 2 ^ (a - 1)

-- party p offers the set s now
unfoldable pub offers_now : Monitor → ℕ → ℕ → Ruled
offers_now m p s = valued (with_party m p (offering (party m p) s)) (offered s)

-- 10 advertise a: 1 to 64? 22. Permitted? 35, which "comes after 22". Already offered, or fewer than 8 offered? 26
unfoldable pub advertise_of : Monitor → ℕ → ℕ → Ruled
advertise_of m p a =
    ask m (is_service a) bad_argument
    (ask m (may_advertise a (party m p)) not_permitted
    (ask m (offers a (party m p) || ltb (offered (party m p).services) 8) no_room_left
    (offers_now m p (with_service (party m p).services a))))

-- 11 unadvertise a: 1 to 64? 22. Offered? 25
unfoldable pub unadvertise_of : Monitor → ℕ → ℕ → Ruled
unadvertise_of m p a =
    ask m (is_service a) bad_argument
    (ask m (offers a (party m p)) not_offered
    (offers_now m p (without_service (party m p).services a)))
