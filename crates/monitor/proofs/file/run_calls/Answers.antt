-- `file::run_calls` meets its contract.
use Rattle.monitor.proofs.Usual.{ap, sym, ◌∙◌, w64, to_z, of_z, pick, pick_true}
use Rattle.monitor.proofs.Calls.{call_shrinks, runs_one, runs_full, runs_cut, runs_malformed}
use Rattle.monitor.proofs.file.run_calls.Goals as goal

pub loop-call-smaller : goal.loop-call-smaller
loop-call-smaller c = call_shrinks _ _ _ c.in-Ok-Some.ensures _ _ c.in-Ok-Some.field-0-is

pub loop-call-preserved : goal.loop-call-preserved
loop-call-preserved c =
    let s = c.call_on-r.ensures in
    let i = c.in-Ok-Some in
    runs_one c.loop-call.invariant _ i.ensures _ _ i.field-0-is c.if-most-n.false _ _ s.0 s.1 _ c.put.ensures

pub returns-then-most-n : goal.returns-then-most-n
returns-then-most-n c = runs_full c.loop-call.invariant _ _ _ _ c.in-Ok-Some.ensures c.in-Ok-Some.field-0-is c.if-most-n.true

pub returns-in-Err-CutShort : goal.returns-in-Err-CutShort
unfolding pick
returns-in-Err-CutShort c =
    let e = c.in-Err-CutShort in
    runs_cut c.loop-call.invariant _ _ _ e.ensures e.field-0-is (ap (λ z. to_z w64 (of_z w64 z)) c.code-code.ensures.is ∙ sym (pick_true _ _ _ c.if-last.true))

pub returns-in-Err-Malformed : goal.returns-in-Err-Malformed
returns-in-Err-Malformed c =
    let e = c.in-Err-Malformed in
    runs_malformed c.loop-call.invariant _ _ _ e.ensures e.field-0-is (ap (λ z. to_z w64 (of_z w64 z)) c.code-code-in-Err-Malformed.ensures.is)
