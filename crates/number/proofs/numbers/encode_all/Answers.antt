-- `number::numbers::encode_all` meets its contract: a number more is written.
use Rattle.number.specs.Answers.{encoded}
use Rattle.number.proofs.Successive.{writes_one}
use Rattle.number.proofs.numbers.encode_all.Goals as goal

pub loop-value-preserved : goal.loop-value-preserved
unfolding encoded
loop-value-preserved c =
    let e = c.in_ok-at.ensures in
    writes_one c.loop-value.invariant c.loop-value-test.true _ e.answer _ e.bytes
