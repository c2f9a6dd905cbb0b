-- A party's four reports: as many as it is declared with, and tests of each of them.
-- Assumes nothing.
use Rattle.std.proofs.Common.{ℕ, ◌≡◌, refl, sym, Bool, not, ◌&&◌, ◌||◌, List, [], ◌∷◌}
use Rattle.std.proofs.Common.{eq-eqb, ltb, leb, length, get_or, rules}
use mir.Val.{Val}
use denote.Laws.{Is}
use denote.Struct.Declared.{row}
use Rattle.std.specs.List.{list_all}
use Rattle.rules.specs.contracts.Party.{the_type}
use Rattle.rules.specs.declared.Party.{Party}
use Rattle.rules.specs.Choice.{pick}
use Rattle.rules.specs.Lists.{any_of}
use Rattle.rules.specs.Sound.{reports_good}
use Rattle.rules.specs.Votes.{all_can_start}
use Rattle.rules.proofs.Logic.{test, not_or}
use Rattle.rules.proofs.Votes.{any_four}

-- what owning a party tells: its array is as long as it is declared
pub reports_long : (q : Party) (vs : List Val) → Is (row the_type) q vs → length q.reports ≡ 4
reports_long q vs p = p.1.1.1.1.1.1.1.1.1.1.0.1.0.1

-- each passes g where none passes f
none_pass : (f g : ℕ → Bool) → ((r : ℕ) → g r ≡ not (f r)) → (rs : List ℕ) → list_all g rs ≡ not (any_of f rs)
unfolding any_of pick
none_pass f g e [] = refl
none_pass f g e (r ∷ rs) = test (f r) (λ y. rw (e r, y)) (λ y. rw (e r, y) (none_pass f g e rs))

not_above : (n x : ℕ) → not (ltb n x) ≡ leb x n
not_above n x = search rules

not_from : (n x : ℕ) → ltb x n ≡ not (leb n x)
not_from n x = search rules

-- each at most 14
pub reports_test : (rs : List ℕ) → length rs ≡ 4
    → reports_good rs ≡ leb (get_or rs 0 0) 14 && (leb (get_or rs 1 0) 14 && (leb (get_or rs 2 0) 14 && leb (get_or rs 3 0) 14))
unfolding reports_good
reports_test rs n =
    rw (
      eq-eqb (length rs) 4 n,
      any_four (ltb 14) rs n,
      not_or (ltb 14 (get_or rs 0 0)) (ltb 14 (get_or rs 1 0) || (ltb 14 (get_or rs 2 0) || ltb 14 (get_or rs 3 0))),
      not_or (ltb 14 (get_or rs 1 0)) (ltb 14 (get_or rs 2 0) || ltb 14 (get_or rs 3 0)),
      not_or (ltb 14 (get_or rs 2 0)) (ltb 14 (get_or rs 3 0)),
      not_above 14 (get_or rs 0 0),
      not_above 14 (get_or rs 1 0),
      not_above 14 (get_or rs 2 0),
      not_above 14 (get_or rs 3 0),
    )

pub none_blocks : (rs : List ℕ) → all_can_start rs ≡ list_all (λ r. ltb r 8) rs
unfolding all_can_start
none_blocks rs = sym (none_pass (leb 8) (λ r. ltb r 8) (not_from 8) rs)
