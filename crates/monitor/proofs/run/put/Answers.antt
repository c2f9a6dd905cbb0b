-- six stores, one after the other
use Rattle.monitor.proofs.Usual.{ℕ, suc, ◌+◌, ◌≤◌, ◌≡◌, ◌∙◌, List, [], ◌∷◌, ◌++◌, arith, rules, length, take}
use Rattle.monitor.proofs.Usual.{drop, set, ℤ, w64, to_z, of_z, places_of}
use Rattle.std.proofs.lemmas.List.Edits.{sets-eq}
use Rattle.monitor.proofs.run.put.Goals as goal

abbrev stored : List ℤ → ℕ → ℤ → ℤ → ℤ → ℤ → ℤ → ℤ → List ℤ
stored l at a b c d e f = set (set (set (set (set (set l at a) (at + 1) b) (at + 2) c) (at + 3) d) (at + 4) e) (at + 5) f

six : (l : List ℤ) (at : ℕ) (a b c d e f : ℤ) → at + 6 ≤ length l → stored l at a b c d e f ≡ take at l ++ (a ∷ b ∷ c ∷ d ∷ e ∷ f ∷ []) ++ drop (at + 6) l
six l at a b c d e f h =
    let p : at + 1 ≡ suc at = omega arith in
    let q : at + 2 ≡ suc (suc at) = omega arith in
    let r : at + 3 ≡ suc (suc (suc at)) = omega arith in
    let s : at + 4 ≡ suc (suc (suc (suc at))) = omega arith in
    let t : at + 5 ≡ suc (suc (suc (suc (suc at)))) = omega arith in
    rw (p, q, r, s, t) (sets-eq (a ∷ b ∷ c ∷ d ∷ e ∷ f ∷ []) l at h)

pub returns : goal.returns
unfolding places_of
returns c =
    let a = c.args in
    let code : to_z w64 (of_z w64 a.r.code) ≡ a.r.code = search rules in
    let value : to_z w64 (of_z w64 c.from.result) ≡ c.from.result = search rules in
    let event : to_z w64 (of_z w64 c.from-2.result) ≡ c.from-2.result = search rules in
    let token : to_z w64 (of_z w64 c.from-3.result) ≡ c.from-3.result = search rules in
    let service : to_z w64 (of_z w64 c.from-4.result) ≡ c.from-4.result = search rules in
    let tx : to_z w64 (of_z w64 c.from-5.result) ≡ c.from-5.result = search rules in
    six a.out.now a.at _ _ _ _ _ _ (search rules)
    ∙ (λ i. take a.at a.out.now ++ (code i ∷ value i ∷ event i ∷ token i ∷ service i ∷ tx i ∷ []) ++ drop (a.at + 6) a.out.now)
    ∙ (λ i. take a.at a.out.now ++ (a.r.code ∷ c.from.ensures i ∷ c.from-2.ensures i ∷ c.from-3.ensures i ∷ c.from-4.ensures i ∷ c.from-5.ensures i ∷ []) ++ drop (a.at + 6) a.out.now)
