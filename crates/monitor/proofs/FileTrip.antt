-- What writing a list of calls answers and leaves, and that what is written is read: the bytes are read as the same calls.
-- Assumes nothing.
use Rattle.std.proofs.Common.{ℕ, zero, suc, ◌+◌, ◌-◌, ◌*◌, ◌/◌, ◌%◌, ◌≤◌, ◌<◌, ◌≡◌, ap, sym, ◌∙◌, List}
use Rattle.std.proofs.Common.{[], ◌∷◌, ◌++◌, append_assoc, arith, eqb-true, eq-eqb, ne_eqb, eqb, length, take, drop, length-append}
use Rattle.std.proofs.lemmas.Bool.{eqb-false}
use Rattle.number.specs.Writer.{written, unwritten, write_answer, write_buffer}
use Rattle.number.specs.Numbers.{read_numbers, numbers_bytes}
use Rattle.number.proofs.Stores.{written_next, written_part}
use Rattle.number.proofs.Successive.{Small, none_small, one_small, numbers_at, bytes_append, bytes_long}
use Rattle.rules.specs.Run.{call_at}
use Rattle.rules.proofs.Logic.{pick_true, pick_false, test}
use Rattle.monitor.specs.File.{called, as_call, read_call, Calls, no_calls, with_call, calls_from, file_calls, whole_calls, file_answer, file_buffer}
use Rattle.monitor.proofs.Calls.{call_some, call_none, calls_one, calls_nothing}

-- ---- what writing answers and leaves

module _ (buffer : List ℕ) (place : ℕ) (calls : List ℕ) where
  module _ (h : length calls % 6 ≡ 0 → ⊥) where
    pub unfinished_answer : unwritten 17 ≡ file_answer buffer place calls
    unfolding file_answer whole_calls
    unfinished_answer = sym (pick_false _ _ _ (ne_eqb _ _ h))

  module _ (h : length calls % 6 ≡ 0) where
    pub finished_answer : write_answer buffer place (numbers_bytes calls) ≡ file_answer buffer place calls
    unfolding file_answer whole_calls
    finished_answer = sym (pick_true _ _ _ (eq-eqb _ _ h))

    pub finished_buffer : write_buffer buffer place (numbers_bytes calls) ≡ file_buffer buffer place calls
    unfolding file_buffer whole_calls
    finished_buffer = sym (pick_true _ _ _ (eq-eqb _ _ h))

-- ---- what is written is read

-- the whole calls of a list
pub as_calls : ℕ → List ℕ → ℕ → Calls
as_calls count values next = record { count = count; numbers = values; next = next }

module _ (a b c d e g : ℕ) (rest front : List ℕ) where
  six : List ℕ
  six = a ∷ b ∷ c ∷ d ∷ e ∷ g ∷ []

  split : front ++ numbers_bytes (six ++ rest) ≡ front ++ (numbers_bytes six ++ numbers_bytes rest)
  split = ap (λ (l : List ℕ). front ++ l) (bytes_append six rest)

  call_at_lem : Small six → read_call (front ++ numbers_bytes (six ++ rest)) (length front) ≡ called (call_at six) (length front + length (numbers_bytes six))
  unfolding six as_call
  call_at_lem small =
      call_some (front ++ numbers_bytes (six ++ rest)) (length front) inside
      ∙ ap (λ (l : List ℕ). as_call (read_numbers 6 l (length front))) split
      ∙ ap as_call (numbers_at six front (numbers_bytes rest) small)
    where
      inside : length front < length (front ++ numbers_bytes (six ++ rest))
      inside = omega (arith, length-append front (numbers_bytes (six ++ rest)), bytes_long (six ++ rest))

  call_then : (most : ℕ) (all : Calls) → Small six
      → calls_from most ((front ++ numbers_bytes six) ++ numbers_bytes rest) (length (front ++ numbers_bytes six)) ≡ all
      → calls_from (suc most) (front ++ numbers_bytes (six ++ rest)) (length front) ≡ with_call (call_at six) all
  call_then most all small after =
      calls_one most (front ++ numbers_bytes (six ++ rest)) (length front) (call_at six) (length front + length (numbers_bytes six)) (call_at_lem small)
      ∙ ap (λ (l : List ℕ). with_call (call_at six) (calls_from most l (length front + length (numbers_bytes six))))
      (split ∙ sym (append_assoc front (numbers_bytes six) (numbers_bytes rest)))
      ∙ ap (λ (k : ℕ). with_call (call_at six) (calls_from most ((front ++ numbers_bytes six) ++ numbers_bytes rest) k)) (sym (length-append front (numbers_bytes six)))
      ∙ ap (with_call (call_at six)) after

calls_at : (n most : ℕ) (values front : List ℕ) → length values ≡ n * 6 → n ≤ most → Small values
    → calls_from most (front ++ numbers_bytes values) (length front) ≡ as_calls n values (length front + length (numbers_bytes values))
unfolding numbers_bytes as_calls with_call call_at six
calls_at zero most [] front l h none_small =
    calls_nothing most (front ++ []) (length front) (call_none (front ++ []) (length front) (omega (arith, length-append {A = ℕ} front [])))
    ∙ ap no_calls (omega arith)
calls_at zero most (a ∷ values) front l h small = absurd (omega arith)
calls_at (suc n) zero values front l h small = absurd (omega arith)
calls_at (suc n) (suc most) (a ∷ b ∷ c ∷ d ∷ e ∷ g ∷ rest) front l h (one_small p (one_small q (one_small r (one_small s (one_small t (one_small u small)))))) =
    let first : List ℕ = a ∷ b ∷ c ∷ d ∷ e ∷ g ∷ [] in
    let sum : length (numbers_bytes (first ++ rest)) ≡ length (numbers_bytes first) + length (numbers_bytes rest) =
    ap length (bytes_append first rest) ∙ length-append (numbers_bytes first) (numbers_bytes rest)
    in
    call_then a b c d e g rest front most _ (one_small p (one_small q (one_small r (one_small s (one_small t (one_small u none_small))))))
    (calls_at n most rest (front ++ numbers_bytes first) (omega arith) (omega arith) small)
    ∙ ap (as_calls (suc n) (first ++ rest)) (omega (arith, sum, length-append front (numbers_bytes first)))
calls_at (suc n) (suc most) _ front l h small = absurd (omega arith)

-- The bytes of a list of calls are a file with just those calls.
pub file_is_read : (calls : List ℕ) → length calls % 6 ≡ 0 → Small calls
    → calls_from (length (numbers_bytes calls)) (numbers_bytes calls) 0 ≡ as_calls (length calls / 6) calls (length (numbers_bytes calls))
file_is_read calls h small =
    calls_at (length calls / 6) (length (numbers_bytes calls)) calls [] (omega arith) (omega (arith, bytes_long calls)) small
    ∙ ap (as_calls (length calls / 6) calls) (omega arith)

-- What `write_calls` writes is a file with just the calls that it was given.
module _ (buffer : List ℕ) (place : ℕ) (calls : List ℕ) (next : ℕ) (e : file_answer buffer place calls ≡ written next) where
  whole : length calls % 6 ≡ 0
  whole = test (eqb (length calls % 6) 0) (λ f. eqb-true _ _ f) (λ f. let u = unfinished_answer buffer place calls (eqb-false _ _ f) in cc)

  wrote : write_answer buffer place (numbers_bytes calls) ≡ written next
  wrote = finished_answer buffer place calls whole ∙ e

  pub written_is_read : Small calls
      → file_calls (take (next - place) (drop place (file_buffer buffer place calls))) ≡ as_calls (length calls / 6) calls (next - place)
  written_is_read small =
      let n = written_next buffer place (numbers_bytes calls) next wrote in
      let long : length (numbers_bytes calls) ≡ next - place = omega arith in
      ap (λ (l : List ℕ). file_calls (take (next - place) (drop place l))) (sym (finished_buffer buffer place calls whole))
      ∙ ap file_calls (written_part buffer place (numbers_bytes calls) next wrote)
      ∙ file_is_read calls whole small
      ∙ ap (as_calls (length calls / 6) calls) long
