-- `words::put_party` meets its contract.
use Rattle.monitor.proofs.Usual.{◌≡◌, rules, length}
use Rattle.monitor.proofs.Put.{put_party_law}
use Rattle.monitor.proofs.words.put_party.Goals as goal

pub returns : goal.returns
returns c =
    let a = c.args in
    let u : length a.q.reports ≡ 4 = search rules in
    put_party_law a.s.now a.p a.q (search rules) c.requires u _ cc
