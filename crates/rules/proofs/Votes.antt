-- Laws of the managers' reports: the codes of a commit, when it is committed, and reports after one more.
-- Assumes nothing.
use Rattle.std.proofs.Common.{◌≡◌, refl, sym, ap, ◌∙◌, List, [], ◌∷◌, Bool, true, false, not, ◌&&◌, ◌||◌, ℕ, zero, suc, ◌+◌, ◌≤◌}
use Rattle.std.proofs.Common.{arith, eqb, ltb, ℤ, length, get_or, set, length-set, eqb-true, eq-eqb, ne_eqb, le-ltb, le-leb, rules}
use Rattle.std.proofs.Math.Bool.{beq, or-true, or-false}
use Rattle.std.proofs.lemmas.Bool.{eqb-false, lt-leb, not-true}
use Rattle.rules.specs.Choice.{pick}
use Rattle.rules.specs.Codes.{tx_ok, no_begin, not_allowed_now}
use Rattle.rules.specs.Lists.{any_of}
use Rattle.rules.specs.Record.{party, ruled}
use Rattle.rules.specs.Transaction.{is_owner, end_tx, can_commit}
use Rattle.rules.specs.States.{entered}
use Rattle.rules.specs.Tx.{next_state, go_on, commit_of, rollback_of}
use Rattle.rules.specs.Sound.{reports_good}
use Rattle.rules.specs.Votes.{report_number, report_is, is_prepared, is_veto, is_rolled_back, is_mixed, is_hazard, cant_start, decides, some_rolled_back, vote_code, code_after, commit_code, all_can_start, report_of}
use Rattle.rules.specs.Standing.{is_against, is_done}
use Rattle.rules.specs.declared.Monitor.{Monitor}
use Rattle.rules.proofs.Logic.{by_test, test, not_both, and_l, and_r, pick_true, pick_false, pick_yes, pick_or, beq_true}

-- ---- tables of tests
both : (Bool → Bool) → Bool
both f = f true && f false

both_at : (f : Bool → Bool) → both f ≡ true → (b : Bool) → f b ≡ true
unfolding both
both_at f h true = and_l (f true) _ h
both_at f h false = and_r (f true) _ h

-- a test of the code, in every case
unfoldable pub every_code : (Bool → Bool → Bool → Bool → Bool → Bool) → Bool
unfolding both
every_code g = both (λ d. both (λ x. both (λ z. both (λ k. both (λ b. g d x z k b)))))

every_code_lem : (g : Bool → Bool → Bool → Bool → Bool → Bool) → every_code g ≡ true → (d x z k b : Bool) → g d x z k b ≡ true
unfolding every_code both
every_code_lem g h d x z k b = both_at (g d x z k) (both_at (λ k. both (g d x z k)) (both_at (λ z. both (λ k. both (g d x z k)))
    (both_at (λ x. both (λ z. both (λ k. both (g d x z k)))) (both_at (λ d. both (λ x. both (λ z. both (λ k. both (g d x z k))))) h d) x) z) k) b

-- ---- the codes of a commit: a test that each of them passes
pub commit_code_test : (g : ℤ → Bool) → every_code (λ d x z k b. g (vote_code d x z k b)) ≡ true → (can : Bool) (rs : List ℕ) → g (commit_code can rs) ≡ true
unfolding commit_code code_after
commit_code_test g h can rs = every_code_lem (λ d x z k b. g (vote_code d x z k b)) h (decides can rs) _ _ _ _

-- ---- a test of either
any_or : (f g : ℕ → Bool) (rs : List ℕ) → any_of (λ r. f r || g r) rs ≡ any_of f rs || any_of g rs
unfolding any_of pick
any_or f g [] = refl
any_or f g (r ∷ rs) = test (f r) (λ y. rw y) (λ y. rw y (test (g r) (λ z. rw (z, or-true)) (λ z. rw z (any_or f g rs))))

any_against : (rs : List ℕ) → any_of is_against rs ≡ any_of is_veto rs || (any_of is_rolled_back rs || (any_of is_mixed rs || any_of is_hazard rs))
unfolding is_against
any_against rs = any_or is_veto _ rs ∙ ap (λ x. any_of is_veto rs || x) (any_or is_rolled_back _ rs ∙ ap (λ x. any_of is_rolled_back rs || x) (any_or is_mixed is_hazard rs))

-- committed after a commit decision, where none is mixed, is a hazard or counts as rolled back
vote_done : (d x z k b : Bool) → is_done (vote_code d x z k b) ≡ d && not (b || (x || z))
unfolding every_code both vote_code pick
vote_done d x z k b = search rules

-- a commit is committed exactly when document 01's conditions hold and no report stands against it
pub vote_law : (can : Bool) (rs : List ℕ) → is_done (commit_code can rs) ≡ can && not (any_of is_against rs)
unfolding commit_code code_after decides some_rolled_back
vote_law can rs = vote_done _ (any_of is_mixed rs) (any_of is_hazard rs) _ _
    ∙ none-against can (any_of is_veto rs) (any_of is_rolled_back rs) (any_of is_prepared rs) (any_of is_mixed rs || any_of is_hazard rs)
    ∙ ap (λ x. can && not x) (sym (any_against rs))
  where
    none-against : (can v b p y : Bool) → (can && not v) && not ((b || (v || (not (can && not v) && p))) || y) ≡ can && not (v || (b || y))
    none-against true false false p y = refl
    none-against _ _ _ p y = refl

-- the same with 100 subtracted
pub no_begin_law : (can : Bool) (rs : List ℕ) → is_done (no_begin (commit_code can rs)) ≡ is_done (commit_code can rs)
unfolding every_code both vote_code pick no_begin
no_begin_law can rs = beq_true _ _ (commit_code_test (λ z. beq (is_done (no_begin z)) (is_done z)) refl can rs)

-- ---- "made by the owner about its T (else 23)"
pub others_refused : (m : Monitor) (p a b c : ℕ) → is_owner m p ≡ false → report_of m p a b c ≡ ruled m not_allowed_now
unfolding report_of
others_refused m p a b c n = pick_false _ _ _ n

-- ---- a manager that can't start: "subtracts 100 .. when chained, and the party goes to S2"
module _ (m : Monitor) (p : ℕ) (owner : is_owner m p ≡ true) (cant : any_of cant_start (party m p).reports ≡ true) where
  stops : (code : ℤ) → go_on (end_tx m p) p 4 (all_can_start (party m p).reports) code ≡ ruled (entered (end_tx m p) p 2) (no_begin code)
  unfolding go_on all_can_start pick
  stops code = rw cant

  pub commit_stops : next_state m p 4 ≡ 4 → commit_of m p ≡ ruled (entered (end_tx m p) p 2) (no_begin (commit_code (can_commit m p) (party m p).reports))
  unfolding commit_of
  commit_stops n = rw (n, pick_yes, owner, pick_yes) (stops _)

  pub rollback_stops : next_state m p 5 ≡ 4 → rollback_of m p ≡ ruled (entered (end_tx m p) p 2) (no_begin tx_ok)
  unfolding rollback_of
  rollback_stops n = rw (n, pick_yes, owner, pick_yes) (stops _)

-- ---- one report more
any_set : (f : ℕ → Bool) (a v : ℕ) (rs : List ℕ) → any_of f rs ≡ false → f v ≡ false → any_of f (set rs a v) ≡ false
unfolding any_of pick
any_set f a v [] h k = h
any_set f zero v (r ∷ rs) h k = rw k (test (f r) (λ y. not_both refl (rw y at h)) (λ y. rw y at h))
any_set f (suc a) v (r ∷ rs) h k = test (f r) (λ y. not_both refl (rw y at h)) (λ y. rw y (any_set f a v rs (rw y at h) k))

pub report_small : (b c : ℕ) → b ≤ 6 → ltb 14 (report_number b c) ≡ false
unfolding report_number
report_small b c h = by_test (λ x. ltb 14 x ≡ false) (λ _. le-ltb 14 (8 + b) (omega arith)) (λ _. le-ltb 14 (1 + b) (omega arith))

pub reports_set : (rs : List ℕ) (a v : ℕ) → ltb 14 v ≡ false → reports_good rs ≡ true → reports_good (set rs a v) ≡ true
unfolding reports_good
reports_set rs a v s g = rw (length-set rs a v, and_l (eqb (length rs) 4) _ g, any_set (ltb 14) a v rs (not-true _ (and_r (eqb (length rs) 4) _ g)) s)

pub reports_four : (rs : List ℕ) → reports_good rs ≡ true → length rs ≡ 4
unfolding reports_good
reports_four rs g = eqb-true _ _ (and_l _ _ g)

-- ---- what a kept report says is what was reported
report_says : (b b' c : ℕ) → b ≤ 6 → b' ≤ 6 → report_is b' (report_number b c) ≡ eqb b b'
unfolding report_is report_number
report_says b b' c h h' = test (eqb c 1)
    (λ y. rw (pick_true {A = ℕ} (eqb c 1) (8 + b) (1 + b) y) (test (eqb b b')
    (λ z. let e = eqb-true b b' z in rw (z, eq-eqb (8 + b) (8 + b') (omega arith), or-true))
    (λ z. let e = eqb-false b b' z in rw (z, ne_eqb (8 + b) (1 + b') (omega arith), ne_eqb (8 + b) (8 + b') (omega arith)))))
    (λ y. rw (pick_false {A = ℕ} (eqb c 1) (8 + b) (1 + b) y) (test (eqb b b')
    (λ z. let e = eqb-true b b' z in rw (z, eq-eqb (1 + b) (1 + b') (omega arith)))
    (λ z. let e = eqb-false b b' z in rw (z, ne_eqb (1 + b) (1 + b') (omega arith), ne_eqb (1 + b) (8 + b') (omega arith)))))

pub against_says : (b c : ℕ) → b ≤ 6 → is_against (report_number b c) ≡ eqb b 2 || (eqb b 4 || (eqb b 5 || eqb b 6))
unfolding is_against
against_says b c h = rw (report_says b 2 c h (omega arith), report_says b 4 c h (omega arith), report_says b 5 c h (omega arith), report_says b 6 c h (omega arith))

-- "whether it can start a new transaction", "c = 1 if it can't start"
pub start_says : (b c : ℕ) → b ≤ 6 → cant_start (report_number b c) ≡ eqb c 1
unfolding report_number
start_says b c h = test (eqb c 1)
    (λ y. rw (pick_true {A = ℕ} (eqb c 1) (8 + b) (1 + b) y, y) (le-leb 8 (8 + b) (omega arith)))
    (λ y. rw (pick_false {A = ℕ} (eqb c 1) (8 + b) (1 + b) y, y) (lt-leb 8 (1 + b) (omega arith)))

-- none is against nothing
pub against_none : is_against 0 ≡ false
unfolding is_against report_is
against_none = refl

-- a test of all four
pub any_four : (f : ℕ → Bool) (rs : List ℕ) → length rs ≡ 4 → any_of f rs ≡ f (get_or rs 0 0) || (f (get_or rs 1 0) || (f (get_or rs 2 0) || f (get_or rs 3 0)))
unfolding any_of
any_four f (r₀ ∷ r₁ ∷ r₂ ∷ r₃ ∷ []) e =
    pick_or (f r₀) _ ∙ ap (λ x. f r₀ || x) (pick_or (f r₁) _ ∙ ap (λ x. f r₁ || x) (pick_or (f r₂) _ ∙ ap (λ x. f r₂ || x)
    (pick_or (f r₃) false ∙ or-false (f r₃))))
any_four f _ e = absurd (omega arith)
