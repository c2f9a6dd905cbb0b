use Rattle.std.proofs.Common.{◌-◌, length}
use Rattle.monitor.proofs.Calls.{Counts}
use Rattle.monitor.proofs.file.count_calls.Given as goal

abbrev pub invariant-loop-next : goal.invariant-loop-next
invariant-loop-next l = Counts l.input l.at l.n

abbrev pub decreases-loop-next : goal.decreases-loop-next
decreases-loop-next l = length l.input - l.at
