-- The answers of the code, in document 01's codes: 16 no room, 17 cut short, 18 too long, too large or longer than needed.
-- Assumes nothing.
use Rattle.std.specs.Prelude.{ℕ, Ok, Err}
use Rattle.std.specs.declared.result.Result.{Result}
use Rattle.number.specs.Reader.{Reading, number, refused}
use Rattle.number.specs.Writer.{Writing, written, unwritten}
use Rattle.number.specs.declared.reader.ReadError.{ReadError}
use Rattle.number.specs.declared.reader.ReadError.TheVariants.{CutShort, Malformed}
use Rattle.number.specs.declared.writer.NoRoom.{NoRoom}

unfoldable pub decoded : Result (ℕ × ℕ) ReadError → Reading
decoded (Ok (value, next)) = number value next
decoded (Err CutShort) = refused 17
decoded (Err Malformed) = refused 18

unfoldable pub encoded : Result ℕ NoRoom → Writing
encoded (Ok place) = written place
encoded (Err _) = unwritten 16
