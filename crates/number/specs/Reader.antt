-- What number stands at the front of a list of bytes: groups of seven bits, lowest first, the top bit set on all but the last byte.
-- The most bytes and the most bits are parameters: 5 and 32 today, and 10 and 64 for numbers of 64 bits.
-- Assumes nothing.
use Rattle.std.specs.Prelude.{ℕ, zero, suc, ◌+◌, ◌-◌, ◌*◌, ◌%◌, ◌^◌, List, [], ◌∷◌, ltb, eqb, drop}
use Rattle.number.specs.Choice.{pick}

-- What reading tells: a number's value with the place after it, or the code of a refusal.
pub data Reading : Type 0 where
  number : ℕ → ℕ → Reading
  refused : ℕ → Reading

-- The number whose low groups make `low` and whose other groups, each worth `weight` times as much, are read as the last argument says.
-- Others that are all zero are not needed: 18.
unfoldable pub continued : ℕ → ℕ → Reading → Reading
continued low weight (number high next) = pick (eqb high 0) (refused 18) (number (low + high * weight) next)
continued low weight (refused code) = refused code

-- The groups at the front of the bytes, which stand at the place: at most `most` of them, and a value below `2 ^ bits`.
-- No byte may come: 18, whether the input goes on or not. The input ends: 17. A last group that is too large: 18.
unfoldable pub read_groups : ℕ → ℕ → ℕ → List ℕ → Reading
read_groups zero bits place bytes = refused 18
read_groups (suc most) bits place [] = refused 17
read_groups (suc most) bits place (byte ∷ bytes) =
    pick (ltb byte 128)
    (pick (ltb byte (2 ^ bits)) (number byte (place + 1)) (refused 18))
    (continued (byte % 128) 128 (read_groups most (bits - 7) (place + 1) bytes))

-- The number at a place of the input. A place past the end is cut short.
unfoldable pub read_number : ℕ → ℕ → List ℕ → ℕ → Reading
read_number most bits input place = read_groups most bits place (drop place input)

-- How many bytes the number at the front takes: up to the first below 128, at most `most`, and no more than there are.
unfoldable pub group_count : ℕ → List ℕ → ℕ
group_count zero bytes = 0
group_count (suc most) [] = 0
group_count (suc most) (byte ∷ bytes) = pick (ltb byte 128) 1 (suc (group_count most bytes))

-- The place after the number at a place of the input.
unfoldable pub number_end : ℕ → List ℕ → ℕ → ℕ
number_end most input place = place + group_count most (drop place input)
