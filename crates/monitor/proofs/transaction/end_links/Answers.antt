-- `transaction::end_links` meets its contract.
use Rattle.monitor.proofs.Usual.{rules, pick, same, pick_false}
use Rattle.rules.specs.Transaction.{end_of}
use Rattle.monitor.specs.View.{of_tx}
use Rattle.monitor.proofs.transaction.end_links.Goals as goal

pub returns : goal.returns
unfolding of_tx end_of pick same
returns c =
    let t = c.args.t in
    (c.sweep.ensures.swept (of_tx t) (end_of t) (λ x b t. search rules) (record { taken = λ l r t p. search rules; kept = λ l t. pick_false _ _ _ t }) c.requires.1, c.sweep.ensures.few)
