-- `number::writer::encode_rest` meets its contract: the loop keeps `Store`, with as many groups left as the four have left.
use Rattle.std.proofs.Common.{arith}
use Rattle.number.proofs.Stores.{goes_on}
use Rattle.number.proofs.writer.encode_rest.Goals as goal

pub loop-rest-preserved : goal.loop-rest-preserved
loop-rest-preserved c = goes_on c.loop-rest.invariant _ c.loop-rest-test.true (omega (arith, c.loop-rest.invariant.some))
