-- A turn of the drill program: a piece run and listed, what it leaves moved to the front of the input's buffer, and whether the file is over. Then turn
-- after turn.
-- Assumes nothing.
use Rattle.std.specs.Prelude.{ℕ, zero, suc, ◌+◌, Bool, true, false, List, [], ◌∷◌, ◌++◌, ℤ, length, take, drop}
use Rattle.rules.specs.Choice.{pick}
use Rattle.rules.specs.declared.Monitor.{Monitor}
use Rattle.monitor.specs.Pieces.{is_over}
use Rattle.listing.specs.Piece.{Shown, listed_of}

-- What a turn gives: the record afterwards, how many bytes are kept, how many bytes of text there are, whether the file is over, and the three lent lists
-- afterwards: the input's buffer with the kept bytes at its front, the answer places, and the text's buffer.
pub record Turned : Type 0 where
  pub monitor : Monitor
  pub kept : ℕ
  pub written : ℕ
  pub over : Bool
  pub input : List ℕ
  pub places : List ℤ
  pub text : List ℕ

abbrev pub turned : Monitor → ℕ → ℕ → Bool → List ℕ → List ℤ → List ℕ → Turned
turned m kept written over input places text =
    record { monitor = m; kept = kept; written = written; over = over; input = input; places = places; text = text }

-- these bytes at the front of a buffer, and the rest of it as it was
abbrev pub at_front : List ℕ → List ℕ → List ℕ
at_front bytes buffer = bytes ++ drop (length bytes) buffer

-- a piece that was run and listed, and the bytes that it leaves
abbrev pub leaving : Bool → List ℕ → Shown → List ℕ → Turned
leaving ended input s left =
    turned s.monitor (length left) s.written (is_over ended s.code (length left)) (at_front left input) s.places s.text

-- The first bytes of the input's buffer are in hand, so many or all where it has fewer. What is kept are those that the piece's calls did not take.
unfoldable pub turned_of : Monitor → List ℕ → ℕ → Bool → List ℤ → List ℕ → Turned
turned_of m input count ended answers out =
    leaving ended input (listed_of m (take count input) ended answers out)
    (drop (listed_of m (take count input) ended answers out).used (take count input))

-- ---- the program, turn after turn

-- a chunk read into the input's buffer, behind the bytes that are kept
abbrev pub read_into : List ℕ → ℕ → List ℕ → List ℕ
read_into input kept chunk = take kept input ++ chunk ++ drop (kept + length chunk) input

-- a turn, and those after it unless the file is over
unfoldable pub unless_over : Turned → (Turned → List Turned) → List Turned
unless_over t after = t ∷ pick t.over [] (after t)

-- The turns once the input has ended, at most so many, each with what the one before it handed on.
unfoldable pub end_turns : ℕ → Turned → List Turned
end_turns zero t = []
end_turns (suc most) t = unless_over (turned_of t.monitor t.input t.kept true t.places t.text) (end_turns most)

-- The turns of an input that is read in these chunks. It has ended where a read gives nothing.
unfoldable pub program_turns : List (List ℕ) → Turned → List Turned
program_turns [] t = end_turns (suc t.kept) t
program_turns (chunk ∷ chunks) t =
    unless_over (turned_of t.monitor (read_into t.input t.kept chunk) (t.kept + length chunk) false t.places t.text)
    (program_turns chunks)

-- what they write, one after the other
unfoldable pub written_by : List Turned → List ℕ
written_by [] = []
written_by (t ∷ ts) = take t.written t.text ++ written_by ts
