-- `words::link_at` meets its contract.
use Rattle.monitor.proofs.Usual.{sym, link_at, link_law}
use Rattle.monitor.proofs.words.link_at.Goals as goal

pub returns : goal.returns
unfolding link_at
returns c = sym (link_law c.args.s.now c.args.i c.requires)
