use Rattle.std.proofs.Common.{length, ◌-◌}
use Rattle.number_timing.proofs.number_timing_read.Given as goal

abbrev pub decreases-loop-value : goal.decreases-loop-value
decreases-loop-value l = length l.input - l.place
