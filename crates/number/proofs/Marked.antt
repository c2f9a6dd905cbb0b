-- The examples that document 01 marks, in one table: each is read as it says, and each number among them is written so.
-- Assumes nothing.
use Rattle.std.proofs.Common.{ℕ, zero, suc, ◌<◌, ◌≡◌, refl, List, [], ◌∷◌, arith, length, get_or}
use Rattle.number.specs.Choice.{pick}
use Rattle.number.specs.Reader.{Reading, number, refused, continued, read_groups, read_number}
use Rattle.number.specs.Writer.{number_bytes}

-- The bytes, and what reading them at place 0 tells.
pub record Example : Type 0 where
  pub bytes : List ℕ
  pub tells : Reading

abbrev pub superfluous_zero : Example
superfluous_zero = record { bytes = 0x80 ∷ 0x00 ∷ []; tells = refused 18 }

abbrev pub marked : List Example
marked =
    record { bytes = 0x7F ∷ []; tells = number 127 1 }
    ∷ record { bytes = 0x80 ∷ 0x01 ∷ []; tells = number 128 2 }
    ∷ record { bytes = 0xAC ∷ 0x02 ∷ []; tells = number 300 2 }
    ∷ superfluous_zero
    ∷ []

-- What holds of an example.
pub record Holds (e : Example) : Type 0 where
  pub reads : read_number 5 32 e.bytes 0 ≡ e.tells
  pub writes : (value next : ℕ) → e.tells ≡ number value next → number_bytes 5 value ≡ e.bytes

pub marked_holds : (k : ℕ) → k < length marked → Holds (get_or marked k superfluous_zero)
unfolding read_number read_groups continued pick number_bytes
marked_holds zero h = record { reads = refl; writes = λ value next e. let same : 127 ≡ value = cc in rw (← same) refl }
marked_holds (suc zero) h = record { reads = refl; writes = λ value next e. let same : 128 ≡ value = cc in rw (← same) refl }
marked_holds (suc (suc zero)) h = record { reads = refl; writes = λ value next e. let same : 300 ≡ value = cc in rw (← same) refl }
marked_holds (suc (suc (suc zero))) h = record { reads = refl; writes = λ value next e. absurd cc }
marked_holds (suc (suc (suc (suc k)))) h = absurd (omega arith)
