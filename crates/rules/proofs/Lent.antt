-- A lent list, call by call: each answer stands in its place and is that of its call, a refused one too.
-- Assumes nothing.
use Rattle.std.proofs.Common.{◌≡◌, refl, sym, ap, subst, ◌∙◌, true, List, ◌++◌, ℕ, zero, suc, ◌+◌}
use Rattle.std.proofs.Common.{◌*◌, ◌<◌, le_of_suc-le-suc, not-suc-le-zero, arith, ℤ, drop, drop-drop}
use Rattle.rules.specs.Codes.{list_run, too_little_room, cut_short, unsound}
use Rattle.rules.specs.Step.{call_of}
use Rattle.rules.specs.Run.{call_at, places_of, ran_of, answers_of, calls_in, Listed, listed, list_of}
use Rattle.rules.specs.History.{first_answer}
use Rattle.rules.specs.Refusals.{is_refusal, Refused}
use Rattle.rules.specs.declared.Call.{Call}
use Rattle.rules.specs.declared.Monitor.{Monitor}
use Rattle.rules.specs.declared.Stepped.{Stepped}
use Rattle.rules.proofs.Logic.{by_test, not_both}
use Rattle.rules.proofs.AnswerCodes.{codes_differ}
use Rattle.rules.proofs.Refusals.{call_refusal_law}

-- the call in place i of a list, from 0
abbrev pub call_in : List ℕ → ℕ → Call
call_in cs i = call_at (drop (i * 6) cs)

-- what came of it: the record after the calls up to it, and its answer, read from its six places
abbrev pub shown_in : Monitor → List ℕ → List ℤ → ℕ → Stepped
shown_in m cs places i = record { monitor = ran_of (suc i) m cs; answer = first_answer (drop (i * 6) places) }

drop_six_more : {A : Type 0} (l : List A) (i : ℕ) → drop (suc i * 6) l ≡ drop (i * 6) (drop 6 l)
drop_six_more l i = let e : suc i * 6 ≡ 6 + i * 6 = omega arith in rw e (sym (drop-drop (i * 6) 6 l))

record_in_place : (i : ℕ) (m : Monitor) (cs : List ℕ) → ran_of (suc i) m cs ≡ (call_of (ran_of i m cs) (call_in cs i)).monitor
unfolding ran_of
record_in_place zero m cs = refl
record_in_place (suc i) m cs = record_in_place i (call_of m (call_at cs)).monitor (drop 6 cs)
    ∙ ap (λ (x : List ℕ). (call_of (ran_of i (call_of m (call_at cs)).monitor (drop 6 cs)) (call_at x)).monitor) (sym (drop_six_more cs i))

answer_in_place : (n i : ℕ) (m : Monitor) (cs : List ℕ) (rest : List ℤ) → i < n
    → first_answer (drop (i * 6) (answers_of n m cs ++ rest)) ≡ (call_of (ran_of i m cs) (call_in cs i)).answer
unfolding ran_of answers_of places_of first_answer
answer_in_place zero i m cs rest h = absurd (not-suc-le-zero h)
answer_in_place (suc n) zero m cs rest h = refl
answer_in_place (suc n) (suc i) m cs rest h =
    ap first_answer (drop_six_more (answers_of (suc n) m cs ++ rest) i)
    ∙ answer_in_place n i (call_of m (call_at cs)).monitor (drop 6 cs) rest (le_of_suc-le-suc h)
    ∙ ap (λ (x : List ℕ). (call_of (ran_of i (call_of m (call_at cs)).monitor (drop 6 cs)) (call_at x)).answer) (sym (drop_six_more cs i))

-- the i-th of n calls: the record after it and its answer are those of the call, on the record after the calls before it
pub each_call : (n i : ℕ) (m : Monitor) (cs : List ℕ) (rest : List ℤ) → i < n
    → shown_in m cs (answers_of n m cs ++ rest) i ≡ call_of (ran_of i m cs) (call_in cs i)
each_call n i m cs rest h = rw (answer_in_place n i m cs rest h, record_in_place i m cs)

-- the same of a list that ran
pub list_each_call : (m : Monitor) (cs : List ℕ) (out : List ℤ) → (list_of m cs out).code ≡ list_run → (i : ℕ) → i < calls_in cs
    → shown_in m cs (list_of m cs out).places i ≡ call_of (ran_of i m cs) (call_in cs i)
unfolding list_of
list_each_call m cs out = by_test Each (λ _. by_test Each (λ _. by_test Each
    (λ _ _ i h. each_call (calls_in cs) i m cs (drop (calls_in cs * 6) out) h)
    (λ _ e. absurd (codes_differ unsound list_run refl e)))
    (λ _ e. absurd (codes_differ too_little_room list_run refl e)))
    (λ _ e. absurd (codes_differ cut_short list_run refl e))
  where
    Each : Listed → Type 0
    Each l = l.code ≡ list_run → (i : ℕ) → i < calls_in cs → shown_in m cs l.places i ≡ call_of (ran_of i m cs) (call_in cs i)

-- a refused call inside a list is what a refused call is, and the calls after it go on from there
pub list_refusal_law : (m : Monitor) (cs : List ℕ) (out : List ℤ) → (list_of m cs out).code ≡ list_run → (i : ℕ) → i < calls_in cs
    → is_refusal (shown_in m cs (list_of m cs out).places i).answer.code ≡ true
    → Refused (ran_of i m cs) (call_in cs i) (shown_in m cs (list_of m cs out).places i)
list_refusal_law m cs out e i h =
    subst (λ (s : Stepped). is_refusal s.answer.code ≡ true → Refused (ran_of i m cs) (call_in cs i) s)
    (sym (list_each_call m cs out e i h)) (call_refusal_law (ran_of i m cs) (call_in cs i))

-- "Either leaves monitor and answers unchanged"; "a list refused with 19 writes no answers"
pub refused_list_law : (m : Monitor) (cs : List ℕ) (out : List ℤ) → is_refusal (list_of m cs out).code ≡ true
    → list_of m cs out ≡ listed (list_of m cs out).code m out
unfolding list_of is_refusal
refused_list_law m cs out = by_test Unchanged (λ _. by_test Unchanged (λ _. by_test Unchanged
    (λ _ e. not_both e refl) (λ _ _. refl)) (λ _ _. refl)) (λ _ _. refl)
  where
    Unchanged : Listed → Type 0
    Unchanged l = is_refusal l.code ≡ true → l ≡ listed l.code m out
