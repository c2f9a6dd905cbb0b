-- `run::run` meets its contract.
use Rattle.monitor.proofs.Usual.{◌∙◌, ap, get_or, [], arith}
use Rattle.rules.specs.Run.{call_at}
use Rattle.monitor.proofs.Turns.{runs_one, runs_all}
use Rattle.monitor.proofs.run.run.Goals as goal

pub loop-i-preserved : goal.loop-i-preserved
loop-i-preserved c =
    let s = c.call_on-r.ensures in
    let call = c.from.ensures ∙ ap (λ chunks. call_at (get_or chunks c.loop-i.i [])) c.as_chunks.ensures.front in
    runs_one c.loop-i.invariant (omega (arith, c.as_chunks.ensures.front_len, c.loop-i-test.true)) _ call _ _ s.0 s.1 _ c.put.ensures

pub returns : goal.returns
returns c = runs_all c.loop-i.invariant (omega (arith, c.as_chunks.ensures.front_len))
