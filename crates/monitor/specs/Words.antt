-- The record's words: how many there are, where each party and each link has its own, and what the code reads and stores of one.
-- Assumes nothing.
use Rattle.std.specs.Prelude.{ℕ, ◌+◌, ◌*◌, ◌/◌, ◌%◌, List, [], ◌∷◌, get_or, set}
use Rattle.rules.specs.declared.Party.{Party}
use Rattle.rules.specs.declared.Link.{Link}

-- how many the head has (clock, last link number, last transaction number, how many links), each party, and each link
abbrev pub head_size : ℕ
head_size = 4

abbrev pub party_size : ℕ
party_size = 18

abbrev pub link_size : ℕ
link_size = 19

-- the head, then 16 parties, then 32 links
abbrev pub party_base : ℕ → ℕ
party_base p = head_size + p * party_size

abbrev pub link_base : ℕ → ℕ
link_base i = party_base 16 + i * link_size

-- all of them, 900
abbrev pub words : ℕ
words = link_base 32

-- ---- read
abbrev pub read_link : List ℕ → ℕ → Link
read_link xs i =
    record {
      number = get_or xs (link_base i) 0;
      kind = get_or xs (link_base i + 1) 0;
      originator = get_or xs (link_base i + 2) 0;
      attached = get_or xs (link_base i + 3) 0;
      service = get_or xs (link_base i + 4) 0;
      tx = get_or xs (link_base i + 5) 0;
      state = get_or xs (link_base i + 6) 0;
      server = get_or xs (link_base i + 7) 0;
      first = get_or xs (link_base i + 8) 0;
      outcome = get_or xs (link_base i + 9) 0;
      ending = get_or xs (link_base i + 10) 0;
      sender = get_or xs (link_base i + 11) 0;
      granting = get_or xs (link_base i + 12) 0;
      disconnected = get_or xs (link_base i + 13) 0;
      unread = get_or xs (link_base i + 14) 0 ∷ get_or xs (link_base i + 15) 0 ∷ get_or xs (link_base i + 16) 0 ∷ get_or xs (link_base i + 17) 0 ∷ [];
      filled = get_or xs (link_base i + 18) 0;
    }

-- the number of 64 bits in two words of the party p, from its place k on, the low half first
abbrev pub read_long : List ℕ → ℕ → ℕ → ℕ
read_long xs p k = get_or xs (party_base p + k) 0 + get_or xs (party_base p + (k + 1)) 0 * 4294967296

abbrev pub read_party : List ℕ → ℕ → Party
read_party xs p =
    record {
      opened = get_or xs (party_base p) 0;
      control = get_or xs (party_base p + 1) 0;
      timeout = get_or xs (party_base p + 2) 0;
      services = read_long xs p 3;
      owned = get_or xs (party_base p + 5) 0;
      deadline = read_long xs p 6;
      rollbackonly = get_or xs (party_base p + 8) 0;
      served = get_or xs (party_base p + 9) 0;
      reports = get_or xs (party_base p + 10) 0 ∷ get_or xs (party_base p + 11) 0 ∷ get_or xs (party_base p + 12) 0 ∷ get_or xs (party_base p + 13) 0 ∷ [];
      mayrequest = read_long xs p 14;
      mayadvertise = read_long xs p 16;
    }

-- ---- stored
abbrev pub link_words : Link → List ℕ
link_words l =
    l.number ∷ l.kind ∷ l.originator ∷ l.attached ∷ l.service ∷ l.tx ∷ l.state ∷ l.server ∷ l.first ∷ l.outcome ∷ l.ending
    ∷ l.sender ∷ l.granting ∷ l.disconnected
    ∷ get_or l.unread 0 0 ∷ get_or l.unread 1 0 ∷ get_or l.unread 2 0 ∷ get_or l.unread 3 0 ∷ l.filled ∷ []

-- the halves of a number of 64 bits
abbrev pub low : ℕ → ℕ
low x = x % 4294967296

abbrev pub high : ℕ → ℕ
high x = x / 4294967296

abbrev pub party_words : Party → List ℕ
party_words q =
    q.opened ∷ q.control ∷ q.timeout ∷ low q.services ∷ high q.services ∷ q.owned ∷ low q.deadline ∷ high q.deadline ∷ q.rollbackonly ∷ q.served
    ∷ get_or q.reports 0 0 ∷ get_or q.reports 1 0 ∷ get_or q.reports 2 0 ∷ get_or q.reports 3 0
    ∷ low q.mayrequest ∷ high q.mayrequest ∷ low q.mayadvertise ∷ high q.mayadvertise ∷ []

-- the numbers vs at the places from at + k on
abbrev pub stored_from : List ℕ → ℕ → ℕ → List ℕ → List ℕ
stored_from xs at k [] = xs
stored_from xs at k (v ∷ vs) = stored_from (set xs (at + k) v) at (k + 1) vs

-- from at on, as the code writes the places: at, at + 1, at + 2
abbrev pub stored : List ℕ → ℕ → List ℕ → List ℕ
stored xs at [] = xs
stored xs at (v ∷ vs) = stored_from (set xs at v) at 1 vs
