-- The record of document 01 read off its words, every one of them, and what a rule tells beside it.
-- Assumes nothing.
use Rattle.std.specs.Prelude.{Result, Ok, Err, ℕ, zero, suc, ◌-◌, ◌<◌, ◌≤◌, ◌≡◌, Bool, true, false, List, [], ◌∷◌, Option, Some, None, MatchOption, option_to_list, eqb, ltb, length, get_or, drop, ℤ}
use Rattle.std.proofs.Math.Seq.{paste}
use Rattle.rules.specs.declared.Party.{Party}
use Rattle.rules.specs.declared.Link.{Link}
use Rattle.rules.specs.declared.Monitor.{Monitor}
use Rattle.rules.specs.declared.Ruled.{Ruled}
use Rattle.rules.specs.declared.Answer.{Answer}
use Rattle.rules.specs.declared.Stepped.{Stepped}
use Rattle.rules.specs.Choice.{pick, same}
use Rattle.rules.specs.Codes.{tp_accepted, list_run, code_of}
use Rattle.rules.specs.declared.refusal.Refusal.{Refusal}
use Rattle.rules.specs.Record.{ruled, fresh_link, blanks, party, live, place_of, with_origin, with_links, replaced}
use Rattle.rules.specs.Transaction.{owner_of, late}
use Rattle.monitor.specs.Words.{words, read_link, read_party}
use Rattle.monitor.specs.declared.Told.{Told}
use Rattle.monitor.specs.declared.found.Found.{Found}

-- the words of any record: as many as there are places, and each of 32 bits
pub record WordsOf (xs : List ℕ) : Type 0 where
  pub long : length xs ≡ words
  pub small : (k : ℕ) → k < words → get_or xs k 0 < 4294967296

-- the link at the place i, and the party p
unfoldable pub link_at : List ℕ → ℕ → Link
link_at xs i = read_link xs i

unfoldable pub party_at : List ℕ → ℕ → Party
party_at xs p = read_party xs p

-- n of them, from the place i on
unfoldable pub links_from : ℕ → ℕ → List ℕ → List Link
links_from zero i xs = []
links_from (suc n) i xs = link_at xs i ∷ links_from n (suc i) xs

unfoldable pub parties_from : ℕ → ℕ → List ℕ → List Party
parties_from zero p xs = []
parties_from (suc n) p xs = party_at xs p ∷ parties_from n (suc p) xs

abbrev pub view : List ℕ → Monitor
view xs = record { clock = get_or xs 0 0; lastlink = get_or xs 1 0; lasttx = get_or xs 2 0; parties = parties_from 16 0 xs; links = links_from 32 0 xs; count = get_or xs 3 0 }

-- ---- look-ups by place
-- the link at a place of the room
abbrev pub link_in : Monitor → ℕ → Link
link_in m i = get_or m.links i fresh_link

-- the link at the place i if there is one, and else a fresh one
abbrev pub live_at : Monitor → ℕ → Link
live_at m i = get_or (live m) i fresh_link

-- is this a link of the transaction t
unfoldable pub of_tx : ℕ → Link → Bool
of_tx t l = same l.tx t

-- the link found stands there in the record, as the first with its number
abbrev pub Stands : Monitor → Found → Type 0
Stands m found = (found.place ≡ place_of m found.link.number) × (found.place < m.count)

-- ---- what a search finds
-- the first place from one on and below `to` that the code's test passes, or none
abbrev pub first_place : (ℕ → Bool → Type 0) → ℕ → ℕ → Option ℕ → Type 0
first_place tested from to found =
    MatchOption found
    ((k : ℕ) → from ≤ k → k < to → tested k false)
    (λ i. (from ≤ i) × (i < to) × tested i true × ((k : ℕ) → from ≤ k → k < i → tested k false))

-- the place k where it is one of n, and none past them
abbrev pub place_among : ℕ → ℕ → Option ℕ
place_among n k = pick (ltb k n) (Some k) None

-- the owner of the transaction t if it is live: none of no transaction
abbrev pub live_owner : List Party → ℕ → Option ℕ
live_owner ps t = pick (eqb t 0) None (place_among 16 (owner_of ps t))

-- does the party pass the test f, if there is one
abbrev pub passes_at : (Party → Bool) → Monitor → Option ℕ → Bool
passes_at f m None = false
passes_at f m (Some p) = f (party m p)

-- has the deadline of the party come, if there is one
abbrev pub late_at : Monitor → Option ℕ → Bool
late_at m o = passes_at (late m.clock) m o

-- the code's test asks what f asks
abbrev pub tests : {A : Type 0} → (A → Bool → Type 0) → (A → Bool) → Type 0
tests {A = A} tested f = (x : A) (b : Bool) → tested x b → b ≡ f x

-- ---- what a sweep leaves
-- f leaves of each link that the test a takes what the code leaves of it, and the others as they are
pub record Leaves (left : Link → Option Link → Type 0) (a : Link → Bool) (f : Link → List Link) : Type 0 where
  pub taken : (l : Link) (r : Option Link) → a l ≡ true → left l r → option_to_list r ≡ f l
  pub kept : (l : Link) → a l ≡ false → f l ≡ l ∷ []

-- ---- parts of the record changed
-- the link with the number n
abbrev pub with_number : Link → ℕ → Link
with_number l n = with_origin l n l.kind l.originator l.service l.tx l.first

-- the link at the place i, if there is one, becomes l
abbrev pub changed_at : Monitor → ℕ → Link → Monitor
changed_at m i l = pick (ltb i m.count) (replaced m i l) m

-- the links from one place up to another are fresh
abbrev pub blanked : Monitor → ℕ → ℕ → Monitor
blanked m from to = with_links m (paste m.links from (drop from blanks) (to - from))

-- ---- what a rule and a call give: what they tell, with the record
abbrev pub ruled_by : Told → Monitor → Ruled
ruled_by r m = record { monitor = m; code = r.code; value = r.value; event = r.event; token = r.token; service = r.service }

abbrev pub told_code : ℤ → Told
told_code code = record { code = code; value = 0; event = 0; token = 0; service = 0 }

abbrev pub told_value : ℕ → Told
told_value v = record { code = tp_accepted; value = v; event = 0; token = 0; service = 0 }

-- the same of a rule that may refuse
abbrev pub told_of : Result Told Refusal → Told
told_of (Ok t) = t
told_of (Err why) = told_code (code_of why)

-- the questions before a link is made: what they leave of the rest
abbrev pub asked : Result Unit Refusal → Monitor → Ruled → Ruled
asked (Ok _) m rest = rest
asked (Err why) m rest = ruled m (code_of why)

-- how a list of calls was answered
abbrev pub list_code : Result Unit Refusal → ℤ
list_code (Ok _) = list_run
list_code (Err why) = code_of why

abbrev pub stepped : Answer → Monitor → Stepped
stepped r m = record { monitor = m; answer = r }

abbrev pub code_answer : ℤ → Answer
code_answer code = record { code = code; value = 0; event = 0; token = 0; service = 0; tx = 0 }
