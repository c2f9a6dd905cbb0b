-- The drill file: what call stands at a place of its bytes, which whole calls it has, what running it gives, and the bytes of a list of calls.
-- Assumes nothing.
use Rattle.std.specs.Prelude.{ℕ, zero, suc, ◌*◌, ◌/◌, ◌%◌, Bool, true, List, [], ◌∷◌, ◌++◌, eqb, ltb, leb, ℤ, pos, drop, length, Option, Some, None, Ok, Err}
use Rattle.std.specs.declared.result.Result.{Result}
use Rattle.number.specs.Writer.{Writing, written, unwritten, write_answer, write_buffer}
use Rattle.number.specs.Numbers.{Numbers, numbers, stopped, read_numbers, numbers_bytes}
use Rattle.rules.specs.Choice.{pick}
use Rattle.rules.specs.Codes.{file_run, too_little_room, cut_short, unsound}
use Rattle.rules.specs.Sound.{sound}
use Rattle.rules.specs.Run.{call_at, ran_of, answers_of}
use Rattle.rules.specs.declared.Call.{Call}
use Rattle.rules.specs.declared.Monitor.{Monitor}
use Rattle.number.specs.declared.reader.ReadError.{ReadError}
use Rattle.number.specs.declared.reader.ReadError.TheVariants.{CutShort, Malformed}
use Rattle.monitor.specs.declared.file.WriteError.{WriteError}
use Rattle.monitor.specs.declared.file.WriteError.TheVariants.{NoRoom, Unfinished}

-- ---- reading

-- What stands at a place of a file: a call with the place after it, nothing, or a refusal, 17 or 18.
pub data CallReading : Type 0 where
  called : Call → ℕ → CallReading
  nothing : CallReading
  broken : ℕ → CallReading

unfoldable pub as_call : Numbers → CallReading
as_call (numbers values next) = called (call_at values) next
as_call (stopped code) = broken code

-- The call at a place: six numbers. At the end of the input, or past it, nothing stands; inside a call the end is a refusal.
unfoldable pub read_call : List ℕ → ℕ → CallReading
read_call input place = pick (ltb place (length input)) (as_call (read_numbers 6 input place)) nothing

-- the code's answer, in document 01's numbers
unfoldable pub found : Result (Option (Call × ℕ)) ReadError → CallReading
found (Ok (Some (call, next))) = called call next
found (Ok None) = nothing
found (Err CutShort) = broken 17
found (Err Malformed) = broken 18

-- ---- the whole calls of a file

-- a call's six numbers
abbrev pub numbers_of : Call → List ℕ
numbers_of c = c.clock ∷ c.party ∷ c.kind ∷ c.a ∷ c.b ∷ c.c ∷ []

-- Calls one after the other: how many, their numbers as a list has them, and the place after them.
pub record Calls : Type 0 where
  pub count : ℕ
  pub numbers : List ℕ
  pub next : ℕ

abbrev pub no_calls : ℕ → Calls
no_calls place = record { count = 0; numbers = []; next = place }

unfoldable pub with_call : Call → Calls → Calls
with_call c w = record { count = suc w.count; numbers = numbers_of c ++ w.numbers; next = w.next }

-- a call, and those after it; else none from the place on
unfoldable pub further : CallReading → (ℕ → Calls) → ℕ → Calls
further (called c next) after place = with_call c (after next)
further nothing after place = no_calls place
further (broken code) after place = no_calls place

-- the whole calls from a place on, at most so many
unfoldable pub calls_from : ℕ → List ℕ → ℕ → Calls
calls_from zero input place = no_calls place
calls_from (suc most) input place = further (read_call input place) (calls_from most input) place

-- all whole calls of a file: a call takes some bytes, so there are no more calls than bytes
abbrev pub file_calls : List ℕ → Calls
file_calls input = calls_from (length input) input 0

-- The code at the place after the calls that were run: a refusal, or 0 where the file ends there or a call stands there that was not run.
-- A call that is cut short is no refusal where the file may go on.
unfoldable pub code_at : Bool → CallReading → ℤ
code_at last (called c next) = file_run
code_at last nothing = file_run
code_at last (broken code) = pick (eqb code 17) (pick last cut_short file_run) (pos code)

-- ---- running

-- What running tells: the record afterwards, the code, how many calls were run, the place after them, and the answers' places.
pub record Passed : Type 0 where
  pub monitor : Monitor
  pub code : ℤ
  pub calls : ℕ
  pub used : ℕ
  pub places : List ℤ

abbrev pub passed : Monitor → ℤ → ℕ → ℕ → List ℤ → Passed
passed m code calls used places = record { monitor = m; code = code; calls = calls; used = used; places = places }

-- these calls of the input run on a sound record
abbrev pub after_calls : Monitor → List ℕ → Bool → List ℤ → Calls → Passed
after_calls m input last out w =
    passed (ran_of w.count m w.numbers) (code_at last (read_call input w.next)) w.count w.next
    (answers_of w.count m w.numbers ++ drop (w.count * 6) out)

-- as many calls as there are places for
abbrev pub piece_run : Monitor → List ℕ → Bool → List ℤ → Passed
piece_run m input last out = after_calls m input last out (calls_from (length out / 6) input 0)

-- A piece of a file. "Is the record sound? 19."
unfoldable pub piece_of : Monitor → List ℕ → Bool → List ℤ → Passed
piece_of m input last out = pick (sound m) (piece_run m input last out) (passed m unsound 0 0 out)

-- A file. "Has the answer list six places a call? 16.", of its whole calls; then as a piece that is the last.
unfoldable pub file_of : Monitor → List ℕ → List ℤ → Passed
file_of m input out = pick (leb (file_calls input).count (length out / 6)) (piece_of m input true out) (passed m too_little_room 0 0 out)

-- ---- writing

-- the code's answer, in document 01's numbers
unfoldable pub file_written : Result ℕ WriteError → Writing
file_written (Ok place) = written place
file_written (Err NoRoom) = unwritten 16
file_written (Err Unfinished) = unwritten 17

-- is the list's length a multiple of six?
unfoldable pub whole_calls : List ℕ → Bool
whole_calls calls = eqb (length calls % 6) 0

unfoldable pub file_answer : List ℕ → ℕ → List ℕ → Writing
file_answer buffer place calls = pick (whole_calls calls) (write_answer buffer place (numbers_bytes calls)) (unwritten 17)

-- the whole buffer afterwards
unfoldable pub file_buffer : List ℕ → ℕ → List ℕ → List ℕ
file_buffer buffer place calls = pick (whole_calls calls) (write_buffer buffer place (numbers_bytes calls)) buffer
