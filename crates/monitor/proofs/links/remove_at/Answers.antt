-- `links::remove_at` meets its contract.
use Rattle.monitor.proofs.Usual.{rules, pick, same, pick_false}
use Rattle.rules.specs.Record.{numbered, gone_of, removed}
use Rattle.monitor.proofs.links.remove_at.Goals as goal

pub returns : goal.returns
unfolding numbered gone_of removed pick same
returns c =
    let n = c.args.n in
    (c.sweep.ensures.swept (numbered n) (gone_of n) (λ x b t. search rules) (record { taken = λ l r t p. search rules; kept = λ l t. pick_false _ _ _ t }) c.requires.1, c.sweep.ensures.few)
