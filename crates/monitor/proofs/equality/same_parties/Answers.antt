-- `equality::same_parties` meets its contract.
use Rattle.monitor.proofs.Usual.{refl, sym, ◌∙◌, arith, rules, fresh_party, party, view, same_party, parties_long}
use Rattle.std.proofs.Common.{tests}
use Rattle.std.proofs.lemmas.Iterator.{YieldsList-from_range}
use Rattle.std.proofs.lemmas.Iterator.Search.{all_from_yields_List}
use Rattle.monitor.specs.View.{parties_from}
use Rattle.monitor.proofs.Alike.{alike_at, same_party_derived}
use Rattle.monitor.proofs.equality.same_parties.Goals as goal

pub returns : goal.returns
unfolding parties_from
returns c =
    let a = c.args in
    let m = view a.x.now in
    let n = view a.y.now in
    let ps = parties_long 16 0 a.x.now in
    let rs = parties_long 16 0 a.y.now in
    all_from_yields_List (λ p. same_party (party m p) (party n p)) _ _ _ c.all.ensures.ran (YieldsList-from_range 0 16 16 (cc) refl) (λ x b q k. (search (rules, tests), same_party_derived _ _ _ (search (rules, tests))))
    ∙ sym (alike_at same_party fresh_party 16 m.parties n.parties (omega arith) (omega arith))
