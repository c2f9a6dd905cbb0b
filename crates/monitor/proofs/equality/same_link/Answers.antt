-- `equality::same_link` meets its contract.
use Rattle.monitor.proofs.Usual.{same_link, same}
use Rattle.monitor.proofs.Alike.{pointwise_refl}
use Rattle.monitor.proofs.equality.same_link.Goals as goal

pub returns : goal.returns
unfolding same_link same
returns c = rw (pointwise_refl c.args.x.unread) at c.eq.ensures
