-- `fresh::run_fresh` meets its contract: the fresh monitor's list, and the theorem at it.
use Rattle.monitor.proofs.Usual.{ap, ◌∙◌, [], Monitor, list_of}
use Rattle.rules.specs.History.{holds}
use Rattle.rules.specs.Run.{Listed}
use Rattle.rules.specs.Demand.{then_lent}
use Rattle.rules.proofs.History.Theorem.{lent_holds}
use Rattle.monitor.proofs.fresh.run_fresh.Goals as goal

pub returns : goal.returns
returns c =
    let a = c.args in
    let e = c.run_list.ensures ∙ ap (λ (m : Monitor). list_of m a.calls.now a.answers.now) c.fresh-m.ensures in
    (e, ap (λ (l : Listed). holds (then_lent a.calls.now l [])) e ∙ lent_holds a.calls.now a.answers.now)
