-- `votes::all_can_start` meets its contract.
use Rattle.monitor.proofs.Usual.{sym, ◌∙◌, rules, ltb}
use Rattle.std.proofs.Common.{tests}
use Rattle.std.proofs.lemmas.Iterator.{YieldsList-from_slice}
use Rattle.std.proofs.lemmas.Iterator.Search.{all_from_yields_List}
use Rattle.monitor.proofs.Reports.{none_blocks}
use Rattle.monitor.proofs.votes.all_can_start.Goals as goal

pub returns : goal.returns
returns c =
    let rs = c.args.rs in
    all_from_yields_List (λ r. ltb r 8) _ _ _ c.all.ensures.ran (YieldsList-from_slice rs (cc)) (λ x b q k. search (rules, tests)) ∙ sym (none_blocks rs)
