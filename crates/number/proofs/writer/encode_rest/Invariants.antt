use Rattle.std.proofs.Common.{◌+◌, ◌-◌, length}
use Rattle.std.proofs.lemmas.List.Edits.{sets}
use Rattle.number.specs.Writer.{number_bytes}
use Rattle.number.proofs.Stores.{Store}
use Rattle.number.proofs.writer.encode_rest.Given as goal

abbrev pub invariant-loop-rest : goal.invariant-loop-rest
invariant-loop-rest l =
    Store (l.place + length (number_bytes 4 l.value)) (length l.initial.buffer) (sets l.initial.buffer l.place (number_bytes 4 l.value)) l.buffer l.rest l.at (l.place + 4 - l.at)

abbrev pub decreases-loop-rest : goal.decreases-loop-rest
decreases-loop-rest l = l.rest
