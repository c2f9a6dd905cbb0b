use Rattle.std.proofs.Common.{◌-◌, length}
use Rattle.wire.proofs.Kept.{Keeps}
use Rattle.wire.proofs.reader.wire_read.Given as goal

abbrev pub invariant-loop-at : goal.invariant-loop-at
invariant-loop-at l = Keeps l.input l.numbers.items l.at

abbrev pub decreases-loop-at : goal.decreases-loop-at
decreases-loop-at l = length l.input - l.at
