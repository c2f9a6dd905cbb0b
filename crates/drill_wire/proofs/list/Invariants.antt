-- Behind what was kept there is room.
use Rattle.std.proofs.Common.{◌<◌}
use Rattle.drill_wire.proofs.list.Given as goal

abbrev pub invariant-loop : goal.invariant-loop
invariant-loop g l = l.state.waiting.count < 4096
