-- Numbers and answers as text, in ASCII.
-- Assumes nothing.
use Rattle.std.specs.Prelude.{◌≡◌, ℕ, zero, suc, ◌+◌, ◌/◌, ◌%◌, List, [], ◌∷◌, ◌++◌, ltb, ℤ, pos, negsuc, nat_abs, length, get_or, drop}
use Rattle.std.specs.Int.Signed.{lt_z}
use Rattle.std.proofs.lemmas.List.Edits.{sets}
use Rattle.rules.specs.Choice.{pick}

-- A text has been put into a buffer at a place, which makes another, and ends at a place.
pub record Puts (before : List ℕ) (from : ℕ) (text after : List ℕ) (to : ℕ) : Type 0 where
  pub ends : to ≡ from + length text
  pub makes : after ≡ sets before from text

-- the decimal digits of a number that `most` digits can hold, the most significant first
unfoldable pub digits_of : ℕ → ℕ → List ℕ
digits_of zero n = []
digits_of (suc most) n = pick (ltb n 10) ((48 + n) ∷ []) (digits_of most (n / 10) ++ ((48 + n % 10) ∷ []))

-- a 64-bit number has at most 20
unfoldable pub decimal : ℕ → List ℕ
decimal n = digits_of 20 n

-- a signed number: a minus in front of a negative one
unfoldable pub signed : ℤ → List ℕ
signed z = pick (lt_z z (pos 0)) (45 ∷ decimal (nat_abs z)) (decimal (nat_abs z))

-- the minus in front of a negative number, else nothing
unfoldable pub sign : ℤ → List ℕ
sign (pos n) = []
sign (negsuc n) = 45 ∷ []

-- a number and the byte after it: a space, or a line feed at the end of a line
unfoldable pub field : ℤ → ℕ → List ℕ
field z after = signed z ++ (after ∷ [])

-- a line: the six fields at the front of a list of answers, one space between, a line feed at the end
unfoldable pub line_of : List ℤ → List ℕ
line_of fields =
    field (get_or fields 0 (pos 0)) 32
    ++ field (get_or fields 1 (pos 0)) 32
    ++ field (get_or fields 2 (pos 0)) 32
    ++ field (get_or fields 3 (pos 0)) 32
    ++ field (get_or fields 4 (pos 0)) 32
    ++ field (get_or fields 5 (pos 0)) 10

-- the lines of n answers
unfoldable pub lines_of : ℕ → List ℤ → List ℕ
lines_of zero fields = []
lines_of (suc n) fields = line_of fields ++ lines_of n (drop 6 fields)

-- a refusal's number alone on a line; 0 is none
unfoldable pub refusal_line : ℤ → List ℕ
refusal_line (pos zero) = []
refusal_line (pos (suc n)) = field (pos (suc n)) 10
refusal_line (negsuc n) = field (negsuc n) 10
