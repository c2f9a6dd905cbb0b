-- `equality::same_links` meets its contract.
use Rattle.monitor.proofs.Usual.{ℕ, sym, ap, ◌∙◌, arith, rules, take, fresh_link, live, view, link_in, same_link, all_same, links_long}
use Rattle.std.proofs.Common.{tests}
use Rattle.std.proofs.lemmas.Iterator.{YieldsList-from_range}
use Rattle.std.proofs.lemmas.Iterator.Search.{all_from_yields_List}
use Rattle.monitor.proofs.Alike.{alike_at}
use Rattle.monitor.proofs.equality.same_links.Goals as goal

pub returns : goal.returns
returns c =
    let a = c.args in
    let m = view a.x.now in
    let n = view a.y.now in
    let ls = links_long 32 0 a.x.now in
    let ks = links_long 32 0 a.y.now in
    all_from_yields_List (λ i. same_link (link_in m i) (link_in n i)) _ _ _ c.all.ensures.ran (YieldsList-from_range 0 m.count m.count (cc) (omega arith)) (λ x b q k. search (rules, tests))
    ∙ sym (alike_at same_link fresh_link m.count m.links n.links (omega arith) (omega (arith, c.requires)))
    ∙ ap (λ (k : ℕ). all_same same_link (live m) (take k n.links)) c.requires.1
