-- `words::set_clock` meets its contract.
use Rattle.monitor.proofs.Usual.{rules}
use Rattle.monitor.proofs.Put.{set_clock_law}
use Rattle.monitor.proofs.words.set_clock.Goals as goal

pub returns : goal.returns
returns c = set_clock_law c.args.s.now c.args.t (search rules)
