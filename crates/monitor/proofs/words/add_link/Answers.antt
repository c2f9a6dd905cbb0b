-- `words::add_link` meets its contract: `put_link` writes the link, and two stores the last number and the count.
use Rattle.monitor.proofs.Usual.{◌+◌, ap, ◌∙◌, rules, Monitor, set, view, with_last_link, with_contents, with_count}
use Rattle.std.proofs.Common.{length-set}
use Rattle.monitor.proofs.Put.{set_last_link_law, set_count_law}
use Rattle.monitor.proofs.words.add_link.Goals as goal

pub returns : goal.returns
returns c =
    let a = c.args in
    let m = view a.s.now in
    let i = c.count-i in
    let d = c.last_link-d in
    let ys = c.put_link.new.s in
    set_count_law (set ys 1 (d.result + 1)) (i.result + 1) (length-set ys 1 (d.result + 1) ∙ search rules)
    ∙ ap (λ (k : Monitor). with_count k (i.result + 1)) (set_last_link_law ys (d.result + 1) (search rules))
    ∙ ap (λ (k : Monitor). with_count (with_last_link k (d.result + 1)) (i.result + 1)) c.put_link.ensures
    ∙ (λ z. with_last_link (with_contents m m.parties (set m.links (i.ensures z) a.l) (i.ensures z + 1)) (d.ensures z + 1))
