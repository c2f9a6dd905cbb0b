-- `links::blank_from` meets its contract: the links from `from` up to i are fresh, and the rest is as at first.
use Rattle.monitor.proofs.Usual.{ap, ◌∙◌, arith, Monitor, replaced, view, links_long}
use Rattle.monitor.proofs.Sweep.{blank_more}
use Rattle.monitor.proofs.links.blank_from.Goals as goal

pub loop-i-preserved : goal.loop-i-preserved
loop-i-preserved c =
    let a = c.args in
    let v = c.loop-i in
    let more = blank_more (view a.s.now) a.from v.i _ (links_long 32 0 _) (omega arith) (omega arith) c.fresh.ensures in
    c.put_link.ensures ∙ ap (λ (m : Monitor). replaced m v.i c.fresh.result) v.invariant ∙ more
