-- The bytes of a number, and what writing bytes into a buffer answers and leaves.
-- Assumes nothing.
use Rattle.std.specs.Prelude.{ℕ, zero, suc, ◌+◌, ◌/◌, ◌%◌, List, [], ◌∷◌, ◌++◌, Bool, leb, ltb, length, take, drop}
use Rattle.number.specs.Choice.{pick}

-- What writing tells: the place after the bytes, or the code of a refusal.
pub data Writing : Type 0 where
  written : ℕ → Writing
  unwritten : ℕ → Writing

-- The bytes of a number that `most` groups can hold.
unfoldable pub number_bytes : ℕ → ℕ → List ℕ
number_bytes zero value = []
number_bytes (suc most) value = pick (ltb value 128) (value ∷ []) ((value % 128 + 128) ∷ number_bytes most (value / 128))

-- Is there room for these bytes from the place on? At a place past the end there is none.
unfoldable pub fits : List ℕ → ℕ → List ℕ → Bool
fits buffer place bytes = leb (place + length bytes) (length buffer)

unfoldable pub write_answer : List ℕ → ℕ → List ℕ → Writing
write_answer buffer place bytes = pick (fits buffer place bytes) (written (place + length bytes)) (unwritten 16)

-- The whole buffer afterwards.
unfoldable pub write_buffer : List ℕ → ℕ → List ℕ → List ℕ
write_buffer buffer place bytes = pick (fits buffer place bytes) (take place buffer ++ bytes ++ drop (place + length bytes) buffer) buffer
