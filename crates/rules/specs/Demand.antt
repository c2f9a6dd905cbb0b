-- Demand 3 as one claim: every history that starts at a fresh monitor and is answered by the rules.
-- Assumes nothing.
use Rattle.std.specs.Prelude.{◌≡◌, List, [], ◌∷◌, true, cond, ◌||◌, ℕ, ℤ, pos}
use Rattle.rules.specs.Record.{fresh_monitor}
use Rattle.rules.specs.Step.{step_of}
use Rattle.rules.specs.Run.{Listed, list_of}
use Rattle.rules.specs.History.{Event, same_code, holds, then_list}
use Rattle.rules.specs.declared.Call.{Call}
use Rattle.rules.specs.declared.Monitor.{Monitor}

-- "They come singly or in lent lists": a call, or a lent list of numbers with its list of answers as it is lent
pub data Entry : Type 0 where
  single : Call → Entry
  lent : List ℕ → List ℤ → Entry

-- "a lent list counts as its calls, and as none where it returned 17 or 16"
unfoldable pub then_lent : List ℕ → Listed → List Event → List Event
then_lent cs l h = cond (same_code (pos 17) l.code || same_code (pos 16) l.code) h (then_list cs l.places h)

-- the history h, and then the entries, which the rules answer from the record m on
unfoldable pub then_entries : Monitor → List Event → List Entry → List Event
then_entries m h [] = h
then_entries m h (single c ∷ es) = then_entries (step_of m c).monitor (record { call = c; answer = (step_of m c).answer } ∷ h) es
then_entries m h (lent cs out ∷ es) = then_entries (list_of m cs out).monitor (then_lent cs (list_of m cs out) h) es

-- "Demand 3 is a single claim about a whole list"
unfoldable pub Demand3 : Type 0
Demand3 = (es : List Entry) → holds (then_entries fresh_monitor [] es) ≡ true
