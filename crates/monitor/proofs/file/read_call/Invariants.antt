use Rattle.number.specs.Numbers.{read_numbers}
use Rattle.monitor.proofs.Calls.{Reads}
use Rattle.monitor.proofs.file.read_call.Given as goal

abbrev pub invariant-loop-value : goal.invariant-loop-value
invariant-loop-value l = Reads (read_numbers 6 l.input l.place) l.input l.value-items l.at l.value-index
