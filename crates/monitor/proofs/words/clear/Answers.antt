-- `words::clear` meets its contract: the parties before p are fresh, and the rest is 0.
use Rattle.monitor.proofs.Usual.{◌≡◌, ap, ◌∙◌, arith, Monitor, with_party, words, view, parties_long}
use Rattle.std.proofs.Common.{replicate}
use Rattle.monitor.proofs.Clearing.{cleared_to, cleared_more, cleared_all, zeros_fresh}
use Rattle.monitor.proofs.words.clear.Goals as goal

pub loop-p-preserved : goal.loop-p-preserved
loop-p-preserved c =
    let v = c.loop-p in
    let x = c.fresh in
    let put = c.put_party.ensures in
    let more = cleared_more (view (replicate words 0)) v.p _ (parties_long 16 0 _) (omega arith) x.ensures in
    put ∙ ap (λ (m : Monitor). with_party m v.p x.result) v.invariant ∙ more

pub returns : goal.returns
returns c =
    let e : c.loop-p.p ≡ 16 = omega arith in
    c.loop-p.invariant ∙ ap (cleared_to (view (replicate words 0))) e ∙ cleared_all (replicate words 0) ∙ zeros_fresh
