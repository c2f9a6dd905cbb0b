-- `monitor::file::count_calls` meets its contract.
use Rattle.monitor.proofs.Calls.{call_shrinks, counts_one, counts_broken}
use Rattle.monitor.proofs.file.count_calls.Goals as goal

pub loop-next-smaller : goal.loop-next-smaller
loop-next-smaller c = call_shrinks _ _ _ c.in-Ok-Some.ensures _ _ c.in-Ok-Some.field-0-is

pub loop-next-preserved : goal.loop-next-preserved
loop-next-preserved c = counts_one c.loop-next.invariant _ _ _ c.in-Ok-Some.ensures c.in-Ok-Some.field-0-is

pub returns-in_default-2 : goal.returns-in_default-2
returns-in_default-2 c = counts_broken c.loop-next.invariant _ _ c.read_call.ensures c.in_default.is
