-- `transaction::has_open_end` meets its contract.
use Rattle.monitor.proofs.Usual.{refl, ◌-◌, ◌∙◌, arith, rules, live, view, link_in, is_open_of}
use Rattle.std.proofs.Common.{tests}
use Rattle.std.proofs.lemmas.Iterator.{YieldsList-from_range}
use Rattle.std.proofs.lemmas.Iterator.Search.{any_from_yields_List}
use Rattle.monitor.specs.View.{of_tx}
use Rattle.monitor.proofs.Sweep.{first_inside}
use Rattle.monitor.proofs.Owners.{none_open, some_from}
use Rattle.monitor.proofs.transaction.has_open_end.Goals as goal

pub returns : goal.returns
returns c =
    let t = c.args.t in
    let from = c.args.from in
    let m = view c.args.s.now in
    let inside = first_inside c.args.s.now (of_tx t) c.requires.0 c.requires.1 in
    any_from_yields_List (λ i. is_open_of t (link_in m i)) _ _ _ c.any.ensures.ran (YieldsList-from_range from m.count (m.count - from) (cc) refl) (λ x b q k. search (rules, tests))
    ∙ some_from (is_open_of t) c.args.s.now c.requires.0 (m.count - from) from (omega arith)
    ∙ none_open t (live m) c.requires.1
