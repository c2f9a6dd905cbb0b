-- What one pass over the links finds for each party: the number that it serves, if the link works for it.
-- Assumes nothing.
use Rattle.std.specs.Prelude.{ℕ, ◌<◌, ◌≡◌, List, [], ◌∷◌, Bool, ◌&&◌, get_or}
use Rattle.rules.specs.Choice.{pick, same}
use Rattle.rules.specs.Record.{is_working, live, party}
use Rattle.rules.specs.declared.Link.{Link}
use Rattle.rules.specs.declared.Monitor.{Monitor}

-- is it a working link with the number d and party p as server
unfoldable pub served_by : ℕ → ℕ → Link → Bool
served_by p d l = same l.server p && (is_working l && same l.number d)

-- the number found for party p, which serves d, with f found before
unfoldable pub found_of : ℕ → ℕ → ℕ → List Link → ℕ
found_of p d f [] = f
found_of p d f (l ∷ ls) = found_of p d (pick (served_by p d l) l.number f) ls

abbrev pub found_for : Monitor → ℕ → ℕ → List Link → ℕ
found_for m p f ls = found_of p (party m p).served f ls

abbrev pub FoundAll : Monitor → List ℕ → Type 0
FoundAll m found = (p : ℕ) → p < 16 → get_or found p 0 ≡ found_for m p 0 (live m)
