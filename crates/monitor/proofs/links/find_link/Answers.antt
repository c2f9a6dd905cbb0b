-- `links::find_link` meets its contract.
use Rattle.monitor.proofs.Usual.{rules, same}
use Rattle.rules.specs.Record.{numbered}
use Rattle.monitor.proofs.Talking.{found}
use Rattle.monitor.proofs.links.find_link.Goals as goal

pub returns : goal.returns
unfolding numbered same
returns c =
    let a = c.args in
    found a.s.now a.n c.requires (c.first_link.ensures.first (numbered a.n) (λ x b t. search rules)) c.in-Some.is c.link_at-link.ensures
