-- `searches::first_link_from` meets its contract.
use Rattle.monitor.proofs.Usual.{view, link_in, found_link}
use Rattle.monitor.proofs.Search.{found_within}
use Rattle.monitor.proofs.searches.first_link_from.Goals as goal

pub returns : goal.returns
returns g c = record {
  within = found_within (λ i b. goal.F-post g c.args.test (link_in (view c.args.s.now) i) b) _ _ c.first_place.ensures c.count.ensures;
  first = λ f asks before. found_link c.args.s.now c.requires.room c.count.ensures c.first_place.ensures f before (λ i b k t. asks _ _ t);
}
