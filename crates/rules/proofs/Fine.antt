-- A sound record, taken apart: what soundness and the declared lengths say of its lists, link by link and party by party,
-- and what stands for a link that is not there.
-- Assumes nothing.
use Rattle.std.proofs.Common.{◌≡◌, List, [], ◌∷◌, true, ℕ, ◌≤◌, ◌<◌, length}
use Rattle.rules.specs.Choice.{pick, same}
use Rattle.rules.specs.Record.{fresh_link, is_working, party, live, returned}
use Rattle.rules.specs.Sound.{link_good, choices_good}
use Rattle.rules.specs.declared.Link.{Link}
use Rattle.rules.specs.declared.Monitor.{Monitor}
use Rattle.rules.specs.declared.Party.{Party}
use Rattle.rules.proofs.Logic.{Nz}

-- a link that is not there: nobody's end is open, and nothing is to come
unfoldable pub no_link : Link
no_link = returned fresh_link 2 0

-- the link with the number d, or no_link
unfoldable pub look : ℕ → List Link → Link
look d [] = no_link
look d (l ∷ ls) = pick (same l.number d) l (look d ls)

-- party q's transaction, of a record seen as two functions: P : party ↦ its record, L : number ↦ its link
unfoldable pub tx_p : (ℕ → Party) → (ℕ → Link) → ℕ → ℕ
tx_p P L q = pick (same (P q).owned 0) (L (P q).served).tx (P q).owned

-- the numbers rise strictly, above lo and up to hi
abbrev pub Between : ℕ → List Link → ℕ → Type 0
Between lo [] hi = lo ≤ hi
Between lo (l ∷ ls) hi = (lo < l.number) × Between l.number ls hi

-- the lengths that the struct's type gives
pub record Shape (m : Monitor) : Type 0 where
  pub parties16 : length m.parties ≡ 16
  pub links32 : length m.links ≡ 32

-- the record's numbers and the order of its links
pub record Frame (m : Monitor) : Type 0 where
  pub shape : Shape m
  pub count32 : m.count ≤ 32
  pub last_link : m.lastlink ≤ 60000
  pub last_tx : m.lasttx ≤ 60000
  pub rising : Between 0 (live m) m.lastlink

pub record Fine (m : Monitor) : Type 0 where
  pub frame : Frame m
  pub links : (d : ℕ) → link_good (look d (live m)) ≡ true
  pub choices : (q : ℕ) → choices_good (party m q) ≡ true
  pub works : (q : ℕ) → Nz (party m q).served → is_working (look (party m q).served (live m)) ≡ true
  pub mine : (q : ℕ) → Nz (party m q).served → (look (party m q).served (live m)).server ≡ q
