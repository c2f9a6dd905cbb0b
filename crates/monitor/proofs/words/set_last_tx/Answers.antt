-- `words::set_last_tx` meets its contract.
use Rattle.monitor.proofs.Usual.{rules}
use Rattle.monitor.proofs.Put.{set_last_tx_law}
use Rattle.monitor.proofs.words.set_last_tx.Goals as goal

pub returns : goal.returns
returns c = set_last_tx_law c.args.s.now c.args.t (search rules)
