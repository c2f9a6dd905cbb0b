-- `words::set_count` meets its contract.
use Rattle.monitor.proofs.Usual.{rules}
use Rattle.monitor.proofs.Put.{set_count_law}
use Rattle.monitor.proofs.words.set_count.Goals as goal

pub returns : goal.returns
returns c = set_count_law c.args.s.now c.args.n (search rules)
