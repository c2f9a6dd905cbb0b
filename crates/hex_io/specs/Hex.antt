-- Bytes as text.
use Rattle.std.specs.Prelude.{ℕ, ◌-◌, ◌^◌, false, List, [], ◌∷◌, flat_map}
use Rattle.std.specs.Fmt.{digits, format_spec, padded_integral}

-- a space, and the hex digits in lower case, at least two: `hex_byte` of std says which two they are
abbrev pub byte_text : ℕ → List ℕ
byte_text b = 32 ∷ padded_integral (format_spec 32 0 4 2 (2 ^ 64 - 1)) false [] (digits 16 false b)

abbrev pub hex_text : List ℕ → List ℕ
hex_text = flat_map byte_text
