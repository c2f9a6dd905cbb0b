-- `returns::close_own` meets its contract.
use Rattle.monitor.proofs.Usual.{rules, pick, pick_false, Monitor, live, ap, sym, ◌∙◌}
use Rattle.rules.specs.Record.{own_end, rebuilt}
use Rattle.rules.specs.Lists.{first_of, collect}
use Rattle.rules.specs.Return.{close_end, close_own}
use Rattle.monitor.proofs.returns.close_own.Goals as goal

pub returns : goal.returns
unfolding close_end close_own pick
returns c =
    let p = c.args.p.index in
    (c.sweep.ensures.swept (own_end p) (close_end p) (λ x b t. search rules) (record { taken = λ l r t q. search rules; kept = λ l t. pick_false _ _ _ t }) (c.first_own-from.ensures ∙ ap (λ (m : Monitor). first_of (own_end p) (live m)) (sym c.mark_own.ensures)) ∙ ap (λ (m : Monitor). rebuilt m (collect (close_end p) (live m))) c.mark_own.ensures, c.sweep.ensures.few)
