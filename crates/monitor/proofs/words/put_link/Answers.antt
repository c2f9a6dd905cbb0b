-- `words::put_link` meets its contract.
use Rattle.monitor.proofs.Usual.{◌≡◌, refl, rules, length}
use Rattle.monitor.proofs.Put.{put_link_law}
use Rattle.monitor.proofs.words.put_link.Goals as goal

pub returns : goal.returns
returns c =
    let a = c.args in
    let u : length a.l.unread ≡ 4 = search rules in
    put_link_law a.s.now a.i a.l (search rules) c.requires u _ refl
