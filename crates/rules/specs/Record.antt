-- The monitor's record: what is fresh, readers, look-ups, changes.
-- Assumes nothing.
use Rattle.std.specs.Prelude.{ℕ, ◌+◌, ◌-◌, List, [], ◌∷◌, ◌++◌, Bool, ◌&&◌, ◌||◌, length, set, get_or, take, drop, replicate, eqb, ltb, ℤ}
use Rattle.rules.specs.Choice.{pick, same}
use Rattle.rules.specs.Codes.{tp_accepted, tpev_svc_err, tpev_svc_fail, tpev_svc_succ}
use Rattle.rules.specs.Lists.{first_of, collect}
use Rattle.rules.specs.declared.Ruled.{Ruled}
use Rattle.rules.specs.declared.Party.{Party}
use Rattle.rules.specs.declared.Link.{Link}
use Rattle.rules.specs.declared.Monitor.{Monitor}

-- no resource manager has reported
abbrev pub no_reports : List ℕ
no_reports = replicate 4 0

-- the services 1 to 64
abbrev pub all_services : ℕ
all_services = 18446744073709551615

-- ---- "A fresh monitor and a fresh party have all zero, empty and not opened."; "fresh parties may do all, so both sets are full
-- there, the one exception to all zero" (document 02)
abbrev pub fresh_party : Party
fresh_party = record {
  opened = 0;
  control = 0;
  timeout = 0;
  services = 0;
  owned = 0;
  deadline = 0;
  rollbackonly = 0;
  served = 0;
  reports = no_reports;
  mayrequest = all_services;
  mayadvertise = all_services;
}

abbrev pub fresh_link : Link
fresh_link = record {
  number = 0;
  kind = 0;
  originator = 0;
  attached = 0;
  service = 0;
  tx = 0;
  state = 0;
  server = 0;
  first = 0;
  outcome = 0;
  ending = 0;
  sender = 0;
  granting = 0;
  disconnected = 0;
  unread = replicate 4 0;
  filled = 0;
}

-- the room for links, empty
unfoldable pub blanks : List Link
blanks = replicate 32 fresh_link

abbrev pub fresh_monitor : Monitor
fresh_monitor = record { clock = 0; lastlink = 0; lasttx = 0; parties = replicate 16 fresh_party; links = replicate 32 fresh_link; count = 0 }

-- ---- readers of a party and of a link
abbrev pub is_opened : Party → Bool
is_opened q = eqb q.opened 1

abbrev pub is_chained : Party → Bool
is_chained q = eqb q.control 1

abbrev pub is_rollback_only : Party → Bool
is_rollback_only q = eqb q.rollbackonly 1

abbrev pub is_request : Link → Bool
is_request l = eqb l.kind 0

abbrev pub is_conversation : Link → Bool
is_conversation l = eqb l.kind 1

-- is the originator's end open
abbrev pub is_attached : Link → Bool
is_attached l = eqb l.attached 1

abbrev pub is_waiting : Link → Bool
is_waiting l = eqb l.state 0

abbrev pub is_working : Link → Bool
is_working l = eqb l.state 1

abbrev pub is_returned : Link → Bool
is_returned l = eqb l.state 2

-- an outcome that a service returns with
abbrev pub is_ending : ℕ → Bool
is_ending o = eqb o tpev_svc_err || (eqb o tpev_svc_fail || eqb o tpev_svc_succ)

-- disconnected, and its server not yet notified (document 01: cut, not told)
abbrev pub is_disconnected : Link → Bool
is_disconnected l = eqb l.disconnected 1

-- disconnected, and its server notified (document 01: told)
abbrev pub is_notified : Link → Bool
is_notified l = eqb l.disconnected 2

-- the server is the sender, and no grant is under way (document 01: it is the free holder)
abbrev pub is_server_free : Link → Bool
is_server_free l = eqb l.sender 1 && eqb l.granting 0

unfoldable pub numbered : ℕ → Link → Bool
numbered n l = same l.number n

unfoldable pub owns : ℕ → Party → Bool
owns t q = same q.owned t

-- is this an open originator's end of party p's
unfoldable pub own_end : ℕ → Link → Bool
own_end p l = is_attached l && same l.originator p

-- ---- look-ups
abbrev pub party : Monitor → ℕ → Party
party m p = get_or m.parties p fresh_party

-- the links there are
abbrev pub live : Monitor → List Link
live m = take m.count m.links

abbrev pub place_of : Monitor → ℕ → ℕ
place_of m n = first_of (numbered n) (live m)

-- the link with the number n, or a fresh one, which fails the next question by itself
unfoldable pub link_of : Monitor → ℕ → Link
link_of m n = get_or (live m) (place_of m n) fresh_link

-- ---- what all changes are made of: each writes the fields of one topic out, and the others stay
-- a party: what it has set; the transaction and the link that it works for; what the resource managers reported; what it may do
abbrev pub with_settings : Party → (opened control timeout services : ℕ) → Party
with_settings q opened control timeout services = record {
  opened = opened;
  control = control;
  timeout = timeout;
  services = services;
  owned = q.owned;
  deadline = q.deadline;
  rollbackonly = q.rollbackonly;
  served = q.served;
  reports = q.reports;
  mayrequest = q.mayrequest;
  mayadvertise = q.mayadvertise;
}

abbrev pub with_work : Party → (owned deadline rollbackonly served : ℕ) → Party
with_work q owned deadline rollbackonly served = record {
  opened = q.opened;
  control = q.control;
  timeout = q.timeout;
  services = q.services;
  owned = owned;
  deadline = deadline;
  rollbackonly = rollbackonly;
  served = served;
  reports = q.reports;
  mayrequest = q.mayrequest;
  mayadvertise = q.mayadvertise;
}

abbrev pub with_reports : Party → List ℕ → Party
with_reports q reports = record {
  opened = q.opened;
  control = q.control;
  timeout = q.timeout;
  services = q.services;
  owned = q.owned;
  deadline = q.deadline;
  rollbackonly = q.rollbackonly;
  served = q.served;
  reports = reports;
  mayrequest = q.mayrequest;
  mayadvertise = q.mayadvertise;
}

abbrev pub with_rights : Party → (mayrequest mayadvertise : ℕ) → Party
with_rights q mayrequest mayadvertise = record {
  opened = q.opened;
  control = q.control;
  timeout = q.timeout;
  services = q.services;
  owned = q.owned;
  deadline = q.deadline;
  rollbackonly = q.rollbackonly;
  served = q.served;
  reports = q.reports;
  mayrequest = mayrequest;
  mayadvertise = mayadvertise;
}

-- a link: what it is made with; how far its service is; its ends; who may send, and what is unread
abbrev pub with_origin : Link → (number kind originator service tx first : ℕ) → Link
with_origin l number kind originator service tx first = record {
  number = number;
  kind = kind;
  originator = originator;
  attached = l.attached;
  service = service;
  tx = tx;
  state = l.state;
  server = l.server;
  first = first;
  outcome = l.outcome;
  ending = l.ending;
  sender = l.sender;
  granting = l.granting;
  disconnected = l.disconnected;
  unread = l.unread;
  filled = l.filled;
}

abbrev pub with_progress : Link → (state server outcome ending : ℕ) → Link
with_progress l state server outcome ending = record {
  number = l.number;
  kind = l.kind;
  originator = l.originator;
  attached = l.attached;
  service = l.service;
  tx = l.tx;
  state = state;
  server = server;
  first = l.first;
  outcome = outcome;
  ending = ending;
  sender = l.sender;
  granting = l.granting;
  disconnected = l.disconnected;
  unread = l.unread;
  filled = l.filled;
}

abbrev pub with_ends : Link → (attached disconnected : ℕ) → Link
with_ends l attached disconnected = record {
  number = l.number;
  kind = l.kind;
  originator = l.originator;
  attached = attached;
  service = l.service;
  tx = l.tx;
  state = l.state;
  server = l.server;
  first = l.first;
  outcome = l.outcome;
  ending = l.ending;
  sender = l.sender;
  granting = l.granting;
  disconnected = disconnected;
  unread = l.unread;
  filled = l.filled;
}

abbrev pub with_unread : Link → (sender granting : ℕ) → List ℕ → (filled : ℕ) → Link
with_unread l sender granting unread filled = record {
  number = l.number;
  kind = l.kind;
  originator = l.originator;
  attached = l.attached;
  service = l.service;
  tx = l.tx;
  state = l.state;
  server = l.server;
  first = l.first;
  outcome = l.outcome;
  ending = l.ending;
  sender = sender;
  granting = granting;
  disconnected = l.disconnected;
  unread = unread;
  filled = filled;
}

-- a monitor: its numbers; its parties and links
abbrev pub with_numbers : Monitor → (clock lastlink lasttx : ℕ) → Monitor
with_numbers m clock lastlink lasttx = record { clock = clock; lastlink = lastlink; lasttx = lasttx; parties = m.parties; links = m.links; count = m.count }

abbrev pub with_contents : Monitor → List Party → List Link → (count : ℕ) → Monitor
with_contents m parties links count = record { clock = m.clock; lastlink = m.lastlink; lasttx = m.lasttx; parties = parties; links = links; count = count }

-- ---- changes of a party
abbrev pub with_timeout : Party → ℕ → Party
with_timeout q t = with_settings q q.opened q.control t q.services

-- it offers the set s
abbrev pub offering : Party → ℕ → Party
offering q s = with_settings q q.opened q.control q.timeout s

-- a transaction begins
abbrev pub owning : Party → ℕ → ℕ → Party
owning q t d = with_work q t d q.rollbackonly q.served

-- one ends: "the party's owned transaction, deadline and doomed mark become 0"; of its reports, "all go when T ends"
abbrev pub owning_none : Party → Party
owning_none q = with_reports (with_work q 0 0 0 q.served) no_reports

-- its transaction can only be rolled back (document 01: doomed)
abbrev pub rollback_only : Party → Party
rollback_only q = with_work q q.owned q.deadline 1 q.served

-- "a later report replaces an earlier one": manager a's report becomes r
abbrev pub reporting : Party → ℕ → ℕ → Party
reporting q a r = with_reports q (set q.reports a r)

-- it serves the link d
abbrev pub serving : Party → ℕ → Party
serving q d = with_work q q.owned q.deadline q.rollbackonly d

-- ---- changes of a link
-- the originator's end closed
abbrev pub closed : Link → Link
closed l = with_ends l 0 l.disconnected

-- unread dropped; "dropping unread clears it too", the grant
abbrev pub dropped : Link → Link
dropped l = with_unread l l.sender 0 (replicate 4 0) 0

-- disconnected (document 01: cut): "originator's end closed, unread dropped"
abbrev pub disconnected_link : Link → Link
disconnected_link l = with_ends (dropped l) 0 1

-- its server was notified (document 01: told)
abbrev pub notified : Link → Link
notified l = with_ends l l.attached 2

-- "A new link is waiting, its originator the caller, service a, originator end otherwise open, first token c,
-- holder the server under flag 8 and else the originator; its other fields are 0 or empty."
abbrev pub new_link : (n kind p attached a t c sender : ℕ) → Link
new_link n kind p attached a t c sender = with_unread (with_ends (with_origin fresh_link n kind p a t c) attached 0) sender 0 (replicate 4 0) 0

-- party p works for it
abbrev pub working : Link → ℕ → Link
working l p = with_progress l 1 p l.outcome l.ending

-- returned, with its outcome and its ending token
abbrev pub returned : Link → ℕ → ℕ → Link
returned l o e = with_progress l 2 l.server o e

-- a token more, and with b = 1 the grant under way
abbrev pub with_sent : Link → ℕ → ℕ → Link
with_sent l b c = with_unread l l.sender b (set l.unread l.filled c) (l.filled + 1)

-- the oldest token gone
abbrev pub without_oldest : Link → ℕ → ℕ → Link
without_oldest l sender granting = with_unread l sender granting (drop 1 l.unread ++ (0 ∷ [])) (l.filled - 1)

-- ---- changes of the record
abbrev pub with_clock : Monitor → ℕ → Monitor
with_clock m t = with_numbers m t m.lastlink m.lasttx

abbrev pub with_last_link : Monitor → ℕ → Monitor
with_last_link m d = with_numbers m m.clock d m.lasttx

abbrev pub with_last_tx : Monitor → ℕ → Monitor
with_last_tx m t = with_numbers m m.clock m.lastlink t

abbrev pub with_parties : Monitor → List Party → Monitor
with_parties m ps = with_contents m ps m.links m.count

abbrev pub with_party : Monitor → ℕ → Party → Monitor
with_party m p q = with_parties m (set m.parties p q)

abbrev pub with_links : Monitor → List Link → Monitor
with_links m ls = with_contents m m.parties ls m.count

abbrev pub with_count : Monitor → ℕ → Monitor
with_count m n = with_contents m m.parties m.links n

-- the room for links is rebuilt of those that are left: "a removed link's room serves again"
abbrev pub rebuilt : Monitor → List Link → Monitor
rebuilt m ls = with_contents m m.parties (ls ++ drop (length ls) blanks) (length ls)

-- the link at a place becomes l
abbrev pub replaced : Monitor → ℕ → Link → Monitor
replaced m i l = with_links m (set m.links i l)

-- the link with the number n becomes l, in its place
unfoldable pub changed : Monitor → ℕ → Link → Monitor
changed m n l = pick (ltb (place_of m n) m.count) (replaced m (place_of m n) l) m

-- what is left of a link as the one with the number n goes
unfoldable pub gone_of : ℕ → Link → List Link
gone_of n l = pick (numbered n l) [] (l ∷ [])

unfoldable pub removed : Monitor → ℕ → Monitor
removed m n = rebuilt m (collect (gone_of n) (live m))

-- a new link, with the next number
abbrev pub added : Monitor → Link → Monitor
added m l = with_last_link (with_contents m m.parties (set m.links m.count l) (m.count + 1)) (m.lastlink + 1)

-- ---- what a rule gives
abbrev pub ruled : Monitor → ℤ → Ruled
ruled m code = record { monitor = m; code = code; value = 0; event = 0; token = 0; service = 0 }

abbrev pub valued : Monitor → ℕ → Ruled
valued m v = record { monitor = m; code = tp_accepted; value = v; event = 0; token = 0; service = 0 }

-- a question of a rule: a "no" gives the number, and changes nothing
abbrev pub ask : Monitor → Bool → ℤ → Ruled → Ruled
ask m question number rest = pick question rest (ruled m number)
