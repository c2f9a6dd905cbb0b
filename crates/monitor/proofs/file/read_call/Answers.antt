-- `monitor::file::read_call` meets its contract.
use Rattle.std.proofs.lemmas.Result.{err_from_is_err_and}
use Rattle.number.specs.Answers.{decoded}
use Rattle.monitor.proofs.Calls.{reads_one, call_stops}
use Rattle.monitor.proofs.file.read_call.Goals as goal

pub loop-value-preserved : goal.loop-value-preserved
unfolding decoded
loop-value-preserved c = reads_one c.loop-value.invariant _ _ c.loop-value-test.true c.in_ok-value.ensures

pub returns-in_err-value : goal.returns-in_err-value
returns-in_err-value c =
    let p = err_from_is_err_and c.from_residual.result c.from_residual.ensures.1 in
    rw (p.1, p.2) (call_stops c.loop-value.invariant c.if-input-place.false _ c.loop-value-test.true c.in_err-value.ensures)
