use Rattle.listing.specs.Text.{Puts, lines_of}
use Rattle.listing.proofs.text.put_lines.Given as goal

abbrev pub invariant-loop-call : goal.invariant-loop-call
invariant-loop-call l = Puts l.initial.out 0 (lines_of l.call-index l.answers) l.out l.at
