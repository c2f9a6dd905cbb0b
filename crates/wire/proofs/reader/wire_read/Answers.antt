-- `wire::reader::wire_read` meets its contract.
use Rattle.std.proofs.Common.{ap, ◌∙◌}
use Rattle.std.proofs.lemmas.Result.{err_from_is_err_and}
use Rattle.number.specs.Answers.{decoded}
use Rattle.wire.specs.Sequences.{meaning_of}
use Rattle.wire.proofs.Kept.{keeps_bad, keeps_all}
use Rattle.wire.proofs.reader.wire_read.Goals as goal

pub returns-in_err-value : goal.returns-in_err-value
unfolding decoded
returns-in_err-value c =
    let p = err_from_is_err_and c.from_residual.result c.from_residual.ensures.1 in
    rw (p.1, p.2) (keeps_bad c.loop-at.invariant c.loop-at-test.true _ c.in_err-value.ensures)

pub returns : goal.returns
returns c = c.meaning.ensures ∙ ap meaning_of c.deref.ensures.0 ∙ keeps_all c.loop-at.invariant c.loop-at-test.false
