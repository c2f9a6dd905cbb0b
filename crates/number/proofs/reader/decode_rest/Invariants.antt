use Rattle.std.proofs.Common.{◌+◌, drop}
use Rattle.number.specs.Reader.{continued, read_groups}
use Rattle.number.proofs.Turns.{Turn}
use Rattle.number.proofs.reader.decode_rest.Given as goal

abbrev pub invariant-loop-weight : goal.invariant-loop-weight
invariant-loop-weight l =
    Turn 5 32 (continued l.low 128 (read_groups 4 25 l.place (drop l.place l.input))) l.input l.value l.at (l.weight-index + 1)
