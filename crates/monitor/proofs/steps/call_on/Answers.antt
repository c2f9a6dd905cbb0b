-- `steps::call_on` meets its contract.
use Rattle.monitor.proofs.Usual.{ap, ◌∙◌, Stepped, sound}
use Rattle.monitor.proofs.Steady.{call_sound, told_call}
use Rattle.monitor.proofs.steps.call_on.Goals as goal

pub returns : goal.returns
returns c =
    let a = c.args in
    let p = c.in-Ok-try_from in
    let e = c.tell.ensures ∙ told_call a.s.now a.c c.in-Ok.ensures.1 _ p.ensures p.p.known _ c.advance.ensures _ c.in-Ok.ensures.0 _ c.rule-r.ensures in
    (e, ap (λ (s : Stepped). sound s.monitor) e ∙ call_sound a.s.now a.c c.requires)
