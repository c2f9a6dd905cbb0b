-- The answers of the code, as the entries tell them: the codes of the errors, and zeros beside a refusal.
-- Assumes nothing.
use Rattle.std.specs.Prelude.{ℕ, ℤ, Option, Some, None, Result, Ok, Err}
use Rattle.rules.specs.Codes.{sequence_done, too_little_room, cut_short, malformed, bad_argument, no_such_sequence}
use Rattle.number.specs.declared.reader.ReadError as number
use Rattle.number.specs.declared.reader.ReadError.TheVariants as bad
use Rattle.wire.specs.Sequences.{Read, no_request, read_done, read_refused}
use Rattle.wire.specs.Entries.{Written, wrote, Outgoing, outgoing}
use Rattle.wire.specs.declared.sequence.Request.{Request}
use Rattle.wire.specs.declared.reader.ReadError.{ReadError}
use Rattle.wire.specs.declared.reader.ReadError.TheVariants.{CutShort, Malformed, NoSuchSequence}
use Rattle.wire.specs.declared.writer.WriteError.{WriteError}
use Rattle.wire.specs.declared.writer.WriteError.TheVariants.{BadArgument, TooLittleRoom}

abbrev pub read_code : ReadError → ℤ
read_code CutShort = cut_short
read_code Malformed = malformed
read_code NoSuchSequence = no_such_sequence

abbrev pub write_code : WriteError → ℤ
write_code BadArgument = bad_argument
write_code TooLittleRoom = too_little_room

abbrev pub read_told : Result Request ReadError → Read
read_told (Ok r) = read_done r
read_told (Err e) = read_refused (read_code e)

abbrev pub written_told : Result ℕ WriteError → Written
written_told (Ok length) = wrote sequence_done length
written_told (Err e) = wrote (write_code e) 0

abbrev pub outgoing_told : Option Request → Outgoing
outgoing_told (Some r) = outgoing 1 r
outgoing_told None = outgoing 0 no_request

-- a bad number's refusal
abbrev pub number_refusal : number.ReadError → ReadError
number_refusal bad.CutShort = CutShort
number_refusal bad.Malformed = Malformed
