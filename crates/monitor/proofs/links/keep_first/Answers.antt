-- `links::keep_first` meets its contract.
use Rattle.monitor.proofs.Usual.{ap, arith, Monitor}
use Rattle.monitor.proofs.Sweep.{keep_first_law}
use Rattle.monitor.proofs.links.keep_first.Goals as goal

pub returns : goal.returns
returns c =
    let n = ap (λ (m : Monitor). m.count) c.set_count.ensures in
    (keep_first_law c.args.s.now _ _ c.args.n c.requires c.blank_from.ensures c.set_count.ensures, omega (arith, n))
