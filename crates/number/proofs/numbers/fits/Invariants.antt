-- What has been taken off the room is what the numbers so far take.
use Rattle.std.proofs.Common.{◌≡◌, ◌+◌, length, drop}
use Rattle.number.specs.Numbers.{numbers_bytes}
use Rattle.number.proofs.numbers.fits.Given as goal

abbrev pub invariant-loop-value : goal.invariant-loop-value
invariant-loop-value l = length (numbers_bytes l.values) + l.left ≡ l.room + length (numbers_bytes (drop l.value-index l.values))
