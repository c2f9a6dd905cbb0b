-- Numbers one after the other, as the drill format has them: each at most 5 bytes, below 2^32. Their values, and their bytes.
-- Assumes nothing.
use Rattle.std.specs.Prelude.{ℕ, zero, suc, List, [], ◌∷◌, ◌++◌, ltb, length}
use Rattle.number.specs.Choice.{pick}
use Rattle.number.specs.Reader.{Reading, number, refused, read_number}
use Rattle.number.specs.Writer.{number_bytes}

-- ---- reading

abbrev pub drill_number : List ℕ → ℕ → Reading
drill_number input place = read_number 5 32 input place

-- What reading tells: the values with the place after them, or the first bad number's refusal.
pub data Numbers : Type 0 where
  numbers : List ℕ → ℕ → Numbers
  stopped : ℕ → Numbers

-- these values in front of those
unfoldable pub ahead : List ℕ → Numbers → Numbers
ahead values (numbers more next) = numbers (values ++ more) next
ahead values (stopped code) = stopped code

-- a number, and those after it
unfoldable pub onward : Reading → (ℕ → Numbers) → Numbers
onward (number value next) after = ahead (value ∷ []) (after next)
onward (refused code) after = stopped code

-- so many numbers from a place on
unfoldable pub read_numbers : ℕ → List ℕ → ℕ → Numbers
read_numbers zero input place = numbers [] place
read_numbers (suc count) input place = onward (drill_number input place) (read_numbers count input)

-- the numbers from a place on up to the end of the input, at most so many
unfoldable pub numbers_from : ℕ → List ℕ → ℕ → Numbers
numbers_from zero input place = numbers [] place
numbers_from (suc most) input place = pick (ltb place (length input)) (onward (drill_number input place) (numbers_from most input)) (numbers [] place)

-- every number of the input: a number takes some bytes, so there are no more numbers than bytes
abbrev pub all_numbers : List ℕ → Numbers
all_numbers input = numbers_from (length input) input 0

-- ---- writing

-- the bytes of numbers
unfoldable pub numbers_bytes : List ℕ → List ℕ
numbers_bytes [] = []
numbers_bytes (value ∷ values) = number_bytes 5 value ++ numbers_bytes values
