-- A turn of the loop over a list of calls, and the whole list.
-- Assumes nothing.
use Rattle.std.proofs.Common.{ℕ, zero, suc, ◌+◌, ◌-◌, ◌*◌, ◌≤◌, ◌<◌, ◌≡◌, refl, ap, sym, ◌∙◌, subst, true, List, []}
use Rattle.std.proofs.Common.{◌++◌, append_assoc, append-nil, arith, length, take, drop, get_or, length-append}
use Rattle.std.proofs.Common.{length-drop, take-append-drop, drop-drop, take_at, drop_at, length-take-le, get_or-take, ℤ}
use Rattle.std.specs.Simd.{first_chunks}
use Rattle.rules.specs.declared.Monitor.{Monitor}
use Rattle.rules.specs.declared.Stepped.{Stepped}
use Rattle.rules.specs.Sound.{sound}
use Rattle.rules.specs.Step.{call_of}
use Rattle.rules.specs.declared.Call.{Call}
use Rattle.rules.specs.declared.Answer.{Answer}
use Rattle.monitor.specs.View.{stepped}
use Rattle.rules.specs.Run.{call_at, places_of, ran_of, answers_of, calls_in}

-- one call more: the step at the front, and the rest
answers_more : (k : ℕ) (m : Monitor) (cs : List ℕ) (s : Stepped) → s ≡ call_of m (call_at cs)
    → answers_of (suc k) m cs ≡ places_of s.answer ++ answers_of k s.monitor (drop 6 cs)
unfolding answers_of
answers_more k m cs s e = ap (λ (t : Stepped). places_of t.answer ++ answers_of k t.monitor (drop 6 cs)) (sym e)

ran_more : (k : ℕ) (m : Monitor) (cs : List ℕ) (s : Stepped) → s ≡ call_of m (call_at cs) → ran_of (suc k) m cs ≡ ran_of k s.monitor (drop 6 cs)
unfolding ran_of
ran_more k m cs s e = ap (λ (t : Stepped). ran_of k t.monitor (drop 6 cs)) (sym e)

-- `n` of `count` calls have been run: all from the record `m`, and the `more` that are left from `cur`. Their answers stand in `out`, which was `out₀`.
pub record Run (m : Monitor) (count : ℕ) (numbers : List ℕ) (out₀ out : List ℤ) (cur : Monitor) (n more : ℕ) (left : List ℕ) : Type 0 where
  pub room : count * 6 ≤ length out₀
  pub counted : count ≡ n + more
  pub fine : sound cur ≡ true
  pub long : length out ≡ length out₀
  pub kept : drop (n * 6) out ≡ drop (n * 6) out₀
  pub ran : ran_of count m numbers ≡ ran_of more cur left
  pub said : answers_of count m numbers ≡ take (n * 6) out ++ answers_of more cur left

module _ {m : Monitor} {count : ℕ} {numbers left : List ℕ} {out₀ out : List ℤ} {cur : Monitor} {n : ℕ} where
  pub run_one : (more : ℕ) → Run m count numbers out₀ out cur n (suc more) left
      → (r : Answer) (cur' : Monitor) → stepped r cur' ≡ call_of cur (call_at left) → sound cur' ≡ true
      → (after : List ℤ) → after ≡ take (n * 6) out ++ places_of r ++ drop (n * 6 + 6) out
      → Run m count numbers out₀ after cur' (n + 1) more (drop 6 left)
  unfolding places_of
  run_one more k r cur' same fits after put =
      let done : List ℤ = take (n * 6) out ++ places_of r in
      let room = k.room in
      let long = k.long in
      let counted = k.counted in
      let before = length-take-le (n * 6) out (omega arith) in
      let front : length done ≡ (n + 1) * 6 = length-append (take (n * 6) out) (places_of r) ∙ omega arith in
      let six : n * 6 + 6 ≡ (n + 1) * 6 = omega arith in
      record {
        room = room;
        counted = omega arith;
        fine = fits;
        long =
            ap length put
            ∙ length-append done (drop (n * 6 + 6) out)
            ∙ omega (arith, length-drop (n * 6 + 6) out);
        kept =
            ap (drop ((n + 1) * 6)) put
            ∙ drop_at done (drop (n * 6 + 6) out) ((n + 1) * 6) front
            ∙ sym (drop-drop 6 (n * 6) out)
            ∙ ap (drop 6) k.kept
            ∙ drop-drop 6 (n * 6) out₀
            ∙ ap (λ (j : ℕ). drop j out₀) six;
        ran = k.ran ∙ ran_more more cur left (stepped r cur') same;
        said =
            k.said
            ∙ ap (λ (l : List ℤ). take (n * 6) out ++ l) (answers_more more cur left (stepped r cur') same)
            ∙ sym (append_assoc (take (n * 6) out) (places_of r) (answers_of more cur' (drop 6 left)))
            ∙ ap (λ (l : List ℤ). l ++ answers_of more cur' (drop 6 left))
            (sym (ap (take ((n + 1) * 6)) put ∙ take_at done (drop (n * 6 + 6) out) ((n + 1) * 6) front));
      }

  -- none is left to run
  module _ (k : Run m count numbers out₀ out cur n 0 left) where
    run_over : count ≡ n
    run_over = omega (arith, k.counted)

    pub over_ran : ran_of count m numbers ≡ cur
    unfolding ran_of
    over_ran = k.ran

    pub over_said : answers_of count m numbers ++ drop (count * 6) out₀ ≡ out
    unfolding answers_of
    over_said =
        ap (λ (l : List ℤ). l ++ drop (count * 6) out₀) (k.said ∙ append-nil (take (n * 6) out))
        ∙ ap (λ (j : ℕ). take (n * 6) out ++ drop (j * 6) out₀) run_over
        ∙ ap (λ (l : List ℤ). take (n * 6) out ++ l) (sym k.kept)
        ∙ take-append-drop (n * 6) out

-- ---- the loop over a lent list's calls

-- `i` calls of the list have been run
abbrev pub Runs : Monitor → List ℕ → List ℤ → List ℤ → Monitor → ℕ → Type 0
Runs m cs out₀ out cur i = Run m (calls_in cs) cs out₀ out cur i (calls_in cs - i) (drop (i * 6) cs)

pub runs_none : (m : Monitor) (cs : List ℕ) (out : List ℤ) → calls_in cs * 6 ≤ length out → sound m ≡ true → Runs m cs out out m 0
runs_none m cs out room h =
    let none : calls_in cs - 0 ≡ calls_in cs = omega arith in
    rw none (record { room = room; counted = omega arith; fine = h; long = refl; kept = refl; ran = refl; said = refl })

call_taken : (cs : List ℕ) → call_at (take 6 cs) ≡ call_at cs
unfolding call_at
call_taken cs =
    let p : (j : ℕ) → j < 6 → get_or (take 6 cs) j 0 ≡ get_or cs j 0 = λ j h. get_or-take 6 cs j 0 h in
    simp (p 0 (omega arith), p 1 (omega arith), p 2 (omega arith), p 3 (omega arith), p 4 (omega arith), p 5 (omega arith))

chunk_is : (k i : ℕ) (cs : List ℕ) → i < k → get_or (first_chunks 6 k cs) i [] ≡ take 6 (drop (i * 6) cs)
chunk_is zero i cs h = absurd (omega arith)
chunk_is (suc k) zero cs h = refl
chunk_is (suc k) (suc i) cs h = chunk_is k i (drop 6 cs) (omega arith) ∙ ap (take 6) (drop-drop (i * 6) 6 cs ∙ ap (λ (n : ℕ). drop n cs) (omega arith))

module _ {m : Monitor} {cs : List ℕ} {out₀ out : List ℤ} {cur : Monitor} {i : ℕ} (k : Runs m cs out₀ out cur i) where
  pub runs_one : i < calls_in cs → (c : Call) → c ≡ call_at (get_or (first_chunks 6 (calls_in cs) cs) i [])
      → (r : Answer) (cur' : Monitor) → stepped r cur' ≡ call_of cur c → sound cur' ≡ true
      → (after : List ℤ) → after ≡ take (i * 6) out ++ places_of r ++ drop (i * 6 + 6) out
      → Runs m cs out₀ after cur' (i + 1)
  runs_one h c e r cur' same fits after put =
      let left : calls_in cs - i ≡ suc (calls_in cs - (i + 1)) = omega arith in
      let six : i * 6 + 6 ≡ (i + 1) * 6 = omega arith in
      let call = e ∙ ap call_at (chunk_is (calls_in cs) i cs h) ∙ call_taken (drop (i * 6) cs) in
      let next = run_one (calls_in cs - (i + 1)) (subst (λ (j : ℕ). Run m (calls_in cs) cs out₀ out cur i j (drop (i * 6) cs)) left k)
      r cur' (same ∙ ap (call_of cur) call) fits after put
      in
      subst (λ (l : List ℕ). Run m (calls_in cs) cs out₀ after cur' (i + 1) (calls_in cs - (i + 1)) l)
      (drop-drop 6 (i * 6) cs ∙ ap (λ (j : ℕ). drop j cs) six) next

  pub runs_all : calls_in cs ≤ i → (cur ≡ ran_of (calls_in cs) m cs) × (out ≡ answers_of (calls_in cs) m cs ++ drop (calls_in cs * 6) out₀)
  runs_all h =
      let none : calls_in cs - i ≡ 0 = omega arith in
      let all = subst (λ (j : ℕ). Run m (calls_in cs) cs out₀ out cur i j (drop (i * 6) cs)) none k in
      (sym (over_ran all), sym (over_said all))
