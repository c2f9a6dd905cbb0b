-- `searches::first_party` meets its contract.
use Rattle.monitor.proofs.Usual.{found_party}
use Rattle.monitor.proofs.searches.first_party.Goals as goal

pub returns : goal.returns
returns g c f asks = found_party c.args.s.now c.first_place.ensures f (λ i b k t. asks _ _ t)
