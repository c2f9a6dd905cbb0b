use Rattle.number.proofs.Successive.{Writes}
use Rattle.number.proofs.numbers.encode_all.Given as goal

abbrev pub invariant-loop-value : goal.invariant-loop-value
invariant-loop-value l = Writes l.initial.buffer l.place l.values l.buffer l.at l.value-index
