-- Laws of the rules on a link that is named by its number: a refusal told, a number that no link has, and a link found by its place.
-- Assumes nothing.
use Rattle.std.proofs.Common.{Option, Some, None, ℕ, ◌≤◌, ◌<◌, ◌≡◌, refl, ap, sym, ◌∙◌, List, ℤ, arith}
use Rattle.rules.specs.declared.Link.{Link}
use Rattle.rules.specs.declared.Monitor.{Monitor}
use Rattle.rules.specs.declared.Ruled.{Ruled}
use Rattle.rules.specs.Record.{fresh_link, numbered, live, place_of, link_of, ruled}
use Rattle.monitor.specs.declared.Told.{Told}
use Rattle.monitor.specs.View.{view, link_in, place_among, ruled_by, told_code}
use Rattle.rules.proofs.Changes.{place_fits}
use Rattle.rules.proofs.Logic.{same_true}
use Rattle.monitor.proofs.Laws.{live_long, there, nowhere}
use Rattle.monitor.proofs.Search.{found_some, found_none}

-- a code told beside the record as it was is what the rule refuses with
pub refused : {m : Monitor} {t : Told} {code : ℤ} {r : Ruled} → t ≡ told_code code → r ≡ ruled m code → ruled_by t m ≡ r
refused {m = m} e h = ap (λ (t : Told). ruled_by t m) e ∙ sym h

-- the look-up r of the number a
module _ (xs : List ℕ) (a : ℕ) (h : (view xs).count ≤ 32) {r : Option ℕ} (e : r ≡ place_among (view xs).count (place_of (view xs) a)) where
  pub no_link : r ≡ None → link_of (view xs) a ≡ fresh_link
  no_link z = nowhere xs a (place_of (view xs) a) refl h (found_none _ _ e z)

  -- and at its place is the link
  pub found : {i : ℕ} {l : Link} → r ≡ Some i → l ≡ link_in (view xs) i
      → ((i ≡ place_of (view xs) l.number) × (i < (view xs).count)) × (l ≡ link_of (view xs) a) × (l.number ≡ a)
  unfolding link_of numbered
  found {i = i} z t =
      let f = found_some _ _ e z in
      let n = live_long xs h in
      let same = t ∙ there xs a i f.0 h f.1 in
      let number = ap (λ (x : Link). x.number) same ∙ same_true _ a (place_fits (numbered a) (live (view xs)) (omega (arith, f))) in
      ((f.0 ∙ ap (place_of (view xs)) (sym number), f.1), same, number)
