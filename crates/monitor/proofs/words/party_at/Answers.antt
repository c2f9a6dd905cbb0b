-- `words::party_at` meets its contract.
use Rattle.monitor.proofs.Usual.{◌≡◌, sym, ◌∙◌, party_at, party_law}
use Rattle.monitor.proofs.words.party_at.Goals as goal

pub returns : goal.returns
unfolding party_at
returns c =
    let e : _ ≡ party_at c.args.s.now c.args.p = cc in
    e ∙ sym (party_law c.args.s.now c.args.p c.requires)
