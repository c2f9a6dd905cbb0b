-- A lent list of calls, six numbers to a call, with its list of answers.
-- Assumes nothing.
use Rattle.std.specs.Prelude.{ℕ, zero, suc, ◌/◌, ◌%◌, ◌*◌, List, [], ◌∷◌, ◌++◌, eqb, leb, ℤ, pos, get_or, drop, length}
use Rattle.rules.specs.Choice.{pick}
use Rattle.rules.specs.Codes.{list_run, too_little_room, cut_short, unsound}
use Rattle.rules.specs.Sound.{sound}
use Rattle.rules.specs.Step.{call_of}
use Rattle.rules.specs.declared.Answer.{Answer}
use Rattle.rules.specs.declared.Call.{Call}
use Rattle.rules.specs.declared.Monitor.{Monitor}

-- the call at the front of a list of numbers
unfoldable pub call_at : List ℕ → Call
call_at cs = record { clock = get_or cs 0 0; party = get_or cs 1 0; kind = get_or cs 2 0; a = get_or cs 3 0; b = get_or cs 4 0; c = get_or cs 5 0 }

-- an answer's six places
unfoldable pub places_of : Answer → List ℤ
places_of r = r.code ∷ pos r.value ∷ pos r.event ∷ pos r.token ∷ pos r.service ∷ pos r.tx ∷ []

-- n calls, one after the other, on a sound record: the record after them, and the answers
unfoldable pub ran_of : ℕ → Monitor → List ℕ → Monitor
ran_of zero m cs = m
ran_of (suc n) m cs = ran_of n (call_of m (call_at cs)).monitor (drop 6 cs)

unfoldable pub answers_of : ℕ → Monitor → List ℕ → List ℤ
answers_of zero m cs = []
answers_of (suc n) m cs = places_of (call_of m (call_at cs)).answer ++ answers_of n (call_of m (call_at cs)).monitor (drop 6 cs)

-- how many calls a list of numbers holds
abbrev pub calls_in : List ℕ → ℕ
calls_in cs = length cs / 6

-- what a lent list gives: its code, the record, and the answer list's places afterwards
pub record Listed : Type 0 where
  pub code : ℤ
  pub monitor : Monitor
  pub places : List ℤ

abbrev pub listed : ℤ → Monitor → List ℤ → Listed
listed code m out = record { code = code; monitor = m; places = out }

-- "Is the length a multiple of six? 17. Has the answer list six places a call? 16." "Is the record sound? 19."
unfoldable pub list_of : Monitor → List ℕ → List ℤ → Listed
list_of m cs out =
    pick (eqb (length cs % 6) 0)
    (pick (leb (length cs) (length out))
    (pick (sound m)
    (listed list_run (ran_of (calls_in cs) m cs) (answers_of (calls_in cs) m cs ++ drop (calls_in cs * 6) out))
    (listed unsound m out))
    (listed too_little_room m out))
    (listed cut_short m out)
