-- A drill file run in pieces: turn after turn, each from where the one before it ended.
-- Assumes nothing.
use Rattle.std.specs.Prelude.{ℕ, zero, suc, ◌+◌, ◌*◌, Bool, true, false, List, [], ◌∷◌, ◌++◌, eqb, ℤ, pos, negsuc, take, drop, length}
use Rattle.rules.specs.Choice.{pick}
use Rattle.rules.specs.Codes.{file_run}
use Rattle.rules.specs.declared.Monitor.{Monitor}
use Rattle.monitor.specs.File.{Passed, passed, piece_of}

-- ---- one turn

-- the answers of the calls that a turn ran
abbrev pub said_by : Passed → List ℤ
said_by p = take (p.calls * 6) p.places

-- what a turn leaves of its bytes: those that its calls did not take
abbrev pub left_by : Passed → List ℕ → List ℕ
left_by p bytes = drop p.used bytes

-- any code but 0
unfoldable pub is_refused : ℤ → Bool
is_refused (pos zero) = false
is_refused (pos (suc n)) = true
is_refused (negsuc n) = true

-- A file is over at a refusal, and where the input has ended and no byte is left.
unfoldable pub is_over : Bool → ℤ → ℕ → Bool
is_over ended code left = pick (is_refused code) true (pick ended (eqb left 0) false)

-- ---- turn after turn

-- A turn, and those after it unless the file is over: they start from its record and from what it leaves.
unfoldable pub then_turns : Bool → List ℕ → Passed → (Monitor → List ℕ → List Passed) → List Passed
then_turns ended bytes p after = p ∷ pick (is_over ended p.code (length (left_by p bytes))) [] (after p.monitor (left_by p bytes))

-- The turns once the input has ended, at most so many. `lent k` are the answer places that are lent to turn k from here on.
unfoldable pub last_turns : ℕ → (ℕ → List ℤ) → Monitor → List ℕ → List Passed
last_turns zero lent m bytes = []
last_turns (suc most) lent m bytes = then_turns true bytes (piece_of m bytes true (lent 0)) (last_turns most (λ k. lent (suc k)))

-- The turns of an input that comes in these chunks, and ends with the last bytes. Each turn has the next chunk behind what was kept. Once the
-- input has ended there is one turn at least, and each that is not the last takes some bytes, so there are no more of them than bytes.
unfoldable pub turns_of : List (List ℕ) → List ℕ → (ℕ → List ℤ) → Monitor → List ℕ → List Passed
turns_of [] final lent m kept = last_turns (suc (length (kept ++ final))) lent m (kept ++ final)
turns_of (chunk ∷ chunks) final lent m kept =
    then_turns false (kept ++ chunk) (piece_of m (kept ++ chunk) false (lent 0)) (turns_of chunks final (λ k. lent (suc k)))

-- ---- what the turns give together

-- the chunks and the last bytes, as one input
unfoldable pub joined : List (List ℕ) → List ℕ → List ℕ
joined [] final = final
joined (chunk ∷ chunks) final = chunk ++ joined chunks final

-- a turn in front of what later ones give together: its answers before theirs, their record and their code
abbrev pub in_front : Passed → Passed → Passed
in_front p q = passed q.monitor q.code (p.calls + q.calls) (p.used + q.used) (said_by p ++ q.places)

-- All answers in order, how many calls were run and how many bytes they took, and the last turn's record and code; where there was none, these.
unfoldable pub together : Monitor → ℤ → List Passed → Passed
together m code [] = passed m code 0 0 []
together m code (p ∷ ps) = in_front p (together p.monitor p.code ps)

-- a file run in pieces
abbrev pub pieces_of : Monitor → List (List ℕ) → List ℕ → (ℕ → List ℤ) → Passed
pieces_of m chunks final lent = together m file_run (turns_of chunks final lent m [])

-- the answers at the front of these places
abbrev pub onto : List ℤ → Passed → Passed
onto out p = passed p.monitor p.code p.calls p.used (p.places ++ drop (p.calls * 6) out)
