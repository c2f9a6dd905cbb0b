-- Laws of a drill file's calls: what holds before each turn of the loop over a call's six numbers, and where a call ends.
-- Assumes nothing.
use Rattle.std.proofs.Common.{ℕ, zero, suc, ◌+◌, ◌-◌, ◌*◌, ◌/◌, ◌^◌, ◌≤◌, ◌<◌, ◌≡◌, refl, ap, sym, ◌∙◌, subst, ⊎_elim, Bool, true}
use Rattle.std.proofs.Common.{List, [], ◌∷◌, ◌++◌, append_assoc, append-nil, add-one, arith, lt-ltb, le-ltb, add-zero}
use Rattle.std.proofs.Common.{ℤ, length, take, drop, set, length-set, length-append, length-drop, take-append-drop, take-suc-set}
use Rattle.std.proofs.Common.{take_all, length-take-le, take_at, drop_at, drop-drop, Option, Result, Ok, Err, Some, None}
use Rattle.number.specs.Reader.{number, refused, read_number}
use Rattle.number.specs.Numbers.{Numbers, numbers, stopped, ahead, read_numbers}
use Rattle.number.proofs.Reading.{below_or_not, number_after, number_within, one_of_three}
use Rattle.number.proofs.Successive.{ahead_none, ahead_ahead, ahead_read, one_more, no_more}
use Rattle.rules.specs.Run.{call_at, places_of, ran_of, answers_of}
use Rattle.rules.specs.Choice.{pick}
use Rattle.rules.specs.Codes.{file_run, cut_short, malformed}
use Rattle.rules.specs.Sound.{sound}
use Rattle.rules.specs.Step.{call_of}
use Rattle.rules.specs.declared.Answer.{Answer}
use Rattle.rules.specs.declared.Call.{Call}
use Rattle.rules.specs.declared.Stepped.{Stepped}
use Rattle.rules.specs.declared.Monitor.{Monitor}
use Rattle.number.specs.declared.reader.ReadError.{ReadError}
use Rattle.number.specs.declared.reader.ReadError.TheVariants.{CutShort, Malformed}
use Rattle.number.specs.Answers.{decoded}
use Rattle.monitor.specs.File.{CallReading, called, nothing, found}
use Rattle.monitor.specs.File.{broken, as_call, read_call, Calls, no_calls, with_call, further, calls_from, code_at, Passed}
use Rattle.monitor.specs.File.{passed, after_calls, file_calls, piece_of}
use Rattle.monitor.specs.View.{stepped}
use Rattle.rules.proofs.Logic.{pick_true, pick_false, by_test}

-- ---- numbers one after the other

-- The first `i` of six numbers have been read, and `told` is what reading all tells.
pub record Reads (told : Numbers) (input values : List ℕ) (at i : ℕ) : Type 0 where
  pub few : i ≤ 6
  pub long : length values ≡ 6
  pub tells : told ≡ ahead (take i values) (read_numbers (6 - i) input at)

pub reads_none : (input : List ℕ) (at : ℕ) → Reads (read_numbers 6 input at) input (0 ∷ 0 ∷ 0 ∷ 0 ∷ 0 ∷ 0 ∷ []) at 0
reads_none input at = record { few = omega arith; long = refl; tells = sym (ahead_none _) }

module _ {told : Numbers} {input values : List ℕ} {at i : ℕ} (r : Reads told input values at i) where
  left : i < 6 → 6 - i ≡ suc (5 - i)
  left h = omega arith

  pub reads_one : (value next : ℕ) → i < 6 → number value next ≡ read_number 5 32 input at → Reads told input (set values i value) next (i + 1)
  reads_one value next h e =
      record {
        few = omega arith;
        long = length-set values i value ∙ r.long;
        tells =
            r.tells
            ∙ ap (λ (n : ℕ). ahead (take i values) (read_numbers n input at)) (left h)
            ∙ ap (ahead (take i values)) (one_more (5 - i) input at value next (sym e))
            ∙ ahead_ahead (take i values) (value ∷ []) (read_numbers (5 - i) input next)
            ∙ ap (λ (l : List ℕ). ahead l (read_numbers (5 - i) input next)) (sym (take-suc-set values i value (omega (arith, r.long))))
            ∙ ap (λ (n : ℕ). ahead (take n (set values i value)) (read_numbers (5 - i) input next)) (sym (add-one i))
            ∙ ap (λ (n : ℕ). ahead (take (i + 1) (set values i value)) (read_numbers n input next)) (fewer h);
      }
    where
      fewer : i < 6 → 5 - i ≡ 6 - (i + 1)
      fewer h = omega arith

  reads_stop : (code : ℕ) → i < 6 → read_number 5 32 input at ≡ refused code → told ≡ stopped code
  unfolding ahead
  reads_stop code h e =
      r.tells
      ∙ ap (λ (n : ℕ). ahead (take i values) (read_numbers n input at)) (left h)
      ∙ ap (ahead (take i values)) (no_more (5 - i) input at code e)

  reads_all : 6 ≤ i → told ≡ numbers values at
  unfolding ahead read_numbers
  reads_all h =
      r.tells
      ∙ ap (λ (n : ℕ). ahead (take i values) (read_numbers n input at)) (none h)
      ∙ ap (λ (l : List ℕ). numbers l at) (append-nil (take i values) ∙ take_all i values (omega (arith, r.long)))
    where
      none : 6 ≤ i → 6 - i ≡ 0
      none h = omega (arith, r.few)

-- ---- a call

module _ (input : List ℕ) (place : ℕ) where
  pub call_none : length input ≤ place → read_call input place ≡ nothing
  unfolding read_call
  call_none h = pick_false _ _ _ (le-ltb _ _ h)

  pub call_some : place < length input → read_call input place ≡ as_call (read_numbers 6 input place)
  unfolding read_call
  call_some h = pick_true _ _ _ (lt-ltb _ _ h)

-- a bad number decides what its call tells, and six numbers are the call
module _ {input values : List ℕ} {place at i : ℕ} (r : Reads (read_numbers 6 input place) input values at i) (h : place < length input) where
  pub call_stops : (e : ReadError) → i < 6 → decoded (Err e) ≡ read_number 5 32 input at → found (Err e) ≡ read_call input place
  unfolding decoded found as_call
  call_stops CutShort few e = sym (call_some input place h ∙ ap as_call (reads_stop r 17 few (sym e)))
  call_stops Malformed few e = sym (call_some input place h ∙ ap as_call (reads_stop r 18 few (sym e)))

  pub call_read : (c : Call) → 6 ≤ i → c ≡ call_at values → found (Ok (Some (c, at))) ≡ read_call input place
  unfolding found as_call
  call_read c few e = ap (λ (c : Call). called c at) e ∙ sym (call_some input place h ∙ ap as_call (reads_all r few))

-- ---- where numbers and calls end

pub numbers_end : (count : ℕ) (input : List ℕ) (place : ℕ) (values : List ℕ) (next : ℕ) → read_numbers count input place ≡ numbers values next
    → (place + count ≤ next) × (place ≤ length input → next ≤ length input)
unfolding read_numbers
numbers_end zero input place values next e = let same : place ≡ next = cc in (omega arith, λ h. omega arith)
numbers_end (suc count) input place values next e =
    ⊎_elim
    (λ r. here (λ after more f. numbers_end count input after more next f) r.0 r.1 r.2)
    (⊎_elim (λ r. gone 17 r) (λ r. gone 18 r))
    (one_of_three 5 32 input place)
  where
    gone : (code : ℕ) → read_number 5 32 input place ≡ refused code → (place + suc count ≤ next) × (place ≤ length input → next ≤ length input)
    gone code r = let s = no_more count input place code r in cc

    here :
        ((after : ℕ) (more : List ℕ) → read_numbers count input after ≡ numbers more next
        → (after + count ≤ next) × (after ≤ length input → next ≤ length input))
        → (value after : ℕ) → read_number 5 32 input place ≡ number value after → (place + suc count ≤ next) × (place ≤ length input → next ≤ length input)
    here shorter value after r =
        let rest = ahead_read (value ∷ []) (read_numbers count input after) values next (sym (one_more count input place value after r) ∙ e) in
        let ends = shorter after rest.0 rest.1 in
        let past = number_after 5 32 input place value after r in
        let inside = number_within 5 32 input place value after r in
        (omega (arith, ends.0), λ h. ends.1 inside)

module _ (input : List ℕ) (place : ℕ) (c : Call) (next : ℕ) (e : read_call input place ≡ called c next) where
  call_inside : place < length input
  call_inside =
      ⊎_elim (λ h. h) (λ h. let s = call_none input place h in cc)
      (below_or_not place (length input))

  called_numbers : (ns : Numbers) → as_call ns ≡ called c next → (values : List ℕ) × (ns ≡ numbers values next)
  unfolding as_call
  called_numbers (numbers values end) f = let same : end ≡ next = cc in (values, ap (numbers values) same)
  called_numbers (stopped code) f = cc

  six : (values : List ℕ) × (read_numbers 6 input place ≡ numbers values next)
  six = called_numbers (read_numbers 6 input place) (sym (call_some input place call_inside) ∙ e)

  -- a call takes six bytes or more
  pub call_after : place + 6 ≤ next
  call_after = (numbers_end 6 input place six.0 next six.1).0

  pub call_within : next ≤ length input
  call_within = (numbers_end 6 input place six.0 next six.1).1 (omega (arith, call_inside))

-- what the code read: a call, or nothing
module _ (input : List ℕ) (at : ℕ) (o : Option (Call × ℕ)) (e : found (Ok o) ≡ read_call input at) where
  told_call : (c : Call) (next : ℕ) → o ≡ Some (c, next) → read_call input at ≡ called c next
  unfolding found
  told_call c next is = sym (rw is at e)

  told_nothing : o ≡ None → read_call input at ≡ nothing
  unfolding found
  told_nothing is = sym (rw is at e)

  pub call_shrinks : (c : Call) (next : ℕ) → o ≡ Some (c, next) → length input - next < length input - at
  call_shrinks c next is =
      let t : read_call input at ≡ called c next = told_call c next is in
      omega (arith, call_after input at c next t, call_within input at c next t)

-- ---- calls one after the other

module _ (most : ℕ) (input : List ℕ) (place : ℕ) where
  pub calls_one : (c : Call) (next : ℕ) → read_call input place ≡ called c next
      → calls_from (suc most) input place ≡ with_call c (calls_from most input next)
  unfolding calls_from further
  calls_one c next e = ap (λ (r : CallReading). further r (calls_from most input) place) e

pub calls_nothing : (most : ℕ) (input : List ℕ) (place : ℕ) → read_call input place ≡ nothing → calls_from most input place ≡ no_calls place
unfolding calls_from further
calls_nothing zero input place e = refl
calls_nothing (suc most) input place e = ap (λ (r : CallReading). further r (calls_from most input) place) e

pub calls_broken : (most : ℕ) (input : List ℕ) (place code : ℕ) → read_call input place ≡ broken code → calls_from most input place ≡ no_calls place
unfolding calls_from further
calls_broken zero input place code e = refl
calls_broken (suc most) input place code e = ap (λ (r : CallReading). further r (calls_from most input) place) e

told_broken : (e : ReadError) (most : ℕ) (input : List ℕ) (place : ℕ) → found (Err e) ≡ read_call input place → calls_from most input place ≡ no_calls place
unfolding found
told_broken CutShort most input place e = calls_broken most input place 17 (sym e)
told_broken Malformed most input place e = calls_broken most input place 18 (sym e)

-- What holds where no call is taken, and of a call with those after it, holds of the calls from a place on.
module _ (input : List ℕ) (P : ℕ → ℕ → Calls → Type 0)
    (none : (place : ℕ) → P 0 place (no_calls place))
    (stop : (most place : ℕ) → ((n : ℕ) → calls_from n input place ≡ no_calls place) → P (suc most) place (no_calls place))
    (one : (most place : ℕ) (c : Call) (next : ℕ) → read_call input place ≡ called c next → (w : Calls) → P most next w → P (suc most) place (with_call c w)) where
  pub calls_by : (most place : ℕ) → P most place (calls_from most input place)
  unfolding calls_from
  calls_by zero place = none place
  calls_by (suc most) place = go (calls_by most) (read_call input place) refl
    where
      go : ((next : ℕ) → P most next (calls_from most input next)) → (r : CallReading) → read_call input place ≡ r → P (suc most) place (calls_from (suc most) input place)
      go rest (called c next) e = subst (P (suc most) place) (sym (calls_one most input place c next e)) (one most place c next e _ (rest next))
      go rest nothing e = subst (P (suc most) place) (sym (calls_nothing (suc most) input place e)) (stop most place (λ n. calls_nothing n input place e))
      go rest (broken code) e = subst (P (suc most) place) (sym (calls_broken (suc most) input place code e)) (stop most place (λ n. calls_broken n input place code e))

-- ---- the loops over a file's calls

less_none : (n : ℕ) → n ≡ n - 0
less_none n = omega arith

-- `n` calls of the file have been counted, and the next may start at `at`.
pub record Counts (input : List ℕ) (at n : ℕ) : Type 0 where
  pub few : n ≤ at
  pub within : at ≤ length input
  pub tells : (calls_from (length input) input 0).count ≡ n + (calls_from (length input - n) input at).count

pub counts_none : (input : List ℕ) → Counts input 0 0
counts_none input =
    record { few = omega arith; within = omega arith; tells = omega (arith, ap (λ (f : ℕ). (calls_from f input 0).count) (less_none (length input))) }

module _ {input : List ℕ} {at n : ℕ} (k : Counts input at n) where
  pub counts_one : (o : Option (Call × ℕ)) (c : Call) (next : ℕ) → found (Ok o) ≡ read_call input at → o ≡ Some (c, next) → Counts input next (n + 1)
  unfolding with_call
  counts_one o c next told is =
      let e = told_call input at o told c next is in
      let past = call_after input at c next e in
      let inside = call_within input at c next e in
      let left : length input - n ≡ suc (length input - (n + 1)) = omega (arith, k.few) in
      let one : (calls_from (length input - n) input at).count ≡ suc (calls_from (length input - (n + 1)) input next).count =
      ap (λ (f : ℕ). (calls_from f input at).count) left ∙ ap (λ (w : Calls). w.count) (calls_one (length input - (n + 1)) input at c next e)
      in
      record { few = omega (arith, k.few); within = inside; tells = omega (arith, k.tells) }

  counts_over : calls_from (length input - n) input at ≡ no_calls at → n ≡ (file_calls input).count
  counts_over none = let z = ap (λ (w : Calls). w.count) none in omega (arith, k.tells)

  pub counts_nothing : (o : Option (Call × ℕ)) → found (Ok o) ≡ read_call input at → o ≡ None → n ≡ (file_calls input).count
  counts_nothing o told is = counts_over (calls_nothing _ input at (told_nothing input at o told is))

  pub counts_broken : (r : Result (Option (Call × ℕ)) ReadError) (e : ReadError) → found r ≡ read_call input at → r ≡ Err e → n ≡ (file_calls input).count
  counts_broken r e told is = counts_over (told_broken e _ input at (rw is at told))

-- `n` of the calls that are to be run have been run: `all` of them from the record `m`, and the rest from `cur`.
-- Their answers stand in `out`, which was `out₀`.
pub record Runs (m : Monitor) (input : List ℕ) (all : Calls) (most : ℕ) (out₀ out : List ℤ) (cur : Monitor) (at n : ℕ) : Type 0 where
  pub few : n ≤ most
  pub room : most * 6 ≤ length out₀
  pub short : length out₀ < 2 ^ 63
  pub fine : sound cur ≡ true
  pub within : at ≤ length input
  pub long : length out ≡ length out₀
  pub kept : drop (n * 6) out ≡ drop (n * 6) out₀
  pub counted : all.count ≡ n + (calls_from (most - n) input at).count
  pub ends : all.next ≡ (calls_from (most - n) input at).next
  pub ran : let rest = calls_from (most - n) input at in
      ran_of all.count m all.numbers ≡ ran_of rest.count cur rest.numbers
  pub said : let rest = calls_from (most - n) input at in
      answers_of all.count m all.numbers ≡ take (n * 6) out ++ answers_of rest.count cur rest.numbers

pub runs_none : (m : Monitor) (input : List ℕ) (out : List ℤ) → length out < 2 ^ 63 → sound m ≡ true
    → Runs m input (calls_from (length out / 6) input 0) (length out / 6) out out m 0 0
runs_none m input out bound h =
    let none = less_none (length out / 6) in
    record {
      few = omega arith;
      room = omega arith;
      short = bound;
      fine = h;
      within = omega arith;
      long = refl;
      kept = refl;
      counted = omega (arith, ap (λ (f : ℕ). (calls_from f input 0).count) none);
      ends = ap (λ (f : ℕ). (calls_from f input 0).next) none;
      ran = ap (λ (f : ℕ). ran_of (calls_from f input 0).count m (calls_from f input 0).numbers) none;
      said = ap (λ (f : ℕ). answers_of (calls_from f input 0).count m (calls_from f input 0).numbers) none;
    }

module _ {m : Monitor} {input : List ℕ} {all : Calls} {most : ℕ} {out₀ out : List ℤ} {cur : Monitor} {at n : ℕ}
    (k : Runs m input all most out₀ out cur at n) where
  module _ (o : Option (Call × ℕ)) (told : found (Ok o) ≡ read_call input at) (c : Call) (next : ℕ) (is : o ≡ Some (c, next)) (h : n < most) where
    e : read_call input at ≡ called c next
    e = told_call input at o told c next is

    rest : Calls
    rest = calls_from (most - (n + 1)) input next

    first : calls_from (most - n) input at ≡ with_call c rest
    unfolding rest
    first = let left : most - n ≡ suc (most - (n + 1)) = omega arith in ap (λ (f : ℕ). calls_from f input at) left ∙ calls_one (most - (n + 1)) input at c next e

    pub runs_one : (r : Answer) (cur' : Monitor) → stepped r cur' ≡ call_of cur c → sound cur' ≡ true
        → (after : List ℤ) → after ≡ take (n * 6) out ++ places_of r ++ drop (n * 6 + 6) out
        → Runs m input all most out₀ after cur' next (n + 1)
    unfolding rest with_call ran_of answers_of call_at places_of
    runs_one r cur' same fits after put =
        let s : Stepped = stepped r cur' in
        let past = call_after input at c next e in
        let done : List ℤ = take (n * 6) out ++ places_of s.answer in
        let room = k.room in
        let long = k.long in
        let before = length-take-le (n * 6) out (omega arith) in
        let front : length done ≡ (n + 1) * 6 = length-append (take (n * 6) out) (places_of s.answer) ∙ omega arith in
        let six : n * 6 + 6 ≡ (n + 1) * 6 = omega arith in
        record {
          few = omega arith;
          room = k.room;
          short = k.short;
          fine = fits;
          within = call_within input at c next e;
          long =
              ap length put
              ∙ length-append done (drop (n * 6 + 6) out)
              ∙ omega (arith, length-drop (n * 6 + 6) out);
          kept =
              ap (drop ((n + 1) * 6)) put
              ∙ drop_at done (drop (n * 6 + 6) out) ((n + 1) * 6) front
              ∙ sym (drop-drop 6 (n * 6) out)
              ∙ ap (drop 6) k.kept
              ∙ drop-drop 6 (n * 6) out₀
              ∙ ap (λ (j : ℕ). drop j out₀) six;
          counted = let f = ap (λ (w : Calls). w.count) first in omega (arith, k.counted);
          ends = k.ends ∙ ap (λ (w : Calls). w.next) first;
          ran =
              k.ran
              ∙ ap (λ (w : Calls). ran_of w.count cur w.numbers) first
              ∙ ap (λ (t : Stepped). ran_of rest.count t.monitor rest.numbers) (sym same);
          said =
              k.said
              ∙ ap (λ (w : Calls). take (n * 6) out ++ answers_of w.count cur w.numbers) first
              ∙ ap (λ (t : Stepped). take (n * 6) out ++ (places_of t.answer ++ answers_of rest.count t.monitor rest.numbers)) (sym same)
              ∙ sym (append_assoc (take (n * 6) out) (places_of s.answer) (answers_of rest.count s.monitor rest.numbers))
              ∙ ap (λ (l : List ℤ). l ++ answers_of rest.count s.monitor rest.numbers)
              (sym (ap (take ((n + 1) * 6)) put ∙ take_at done (drop (n * 6 + 6) out) ((n + 1) * 6) front));
        }

  -- no call is left to run
  runs_end : (last : Bool) (code : ℤ) → calls_from (most - n) input at ≡ no_calls at → code ≡ code_at last (read_call input at)
      → passed cur code n at out ≡ after_calls m input last out₀ all
  unfolding ran_of answers_of
  runs_end last code none tells =
      let count : all.count ≡ n = k.counted ∙ ap (λ (w : Calls). n + w.count) none ∙ add-zero n in
      let next : all.next ≡ at = k.ends ∙ ap (λ (w : Calls). w.next) none in
      let after : ran_of all.count m all.numbers ≡ cur = k.ran ∙ ap (λ (w : Calls). ran_of w.count cur w.numbers) none in
      let answers : answers_of all.count m all.numbers ≡ take (n * 6) out =
      k.said ∙ ap (λ (w : Calls). take (n * 6) out ++ answers_of w.count cur w.numbers) none ∙ append-nil (take (n * 6) out)
      in
      let places : answers_of all.count m all.numbers ++ drop (all.count * 6) out₀ ≡ out =
      ap (λ (l : List ℤ). l ++ drop (all.count * 6) out₀) answers
      ∙ ap (λ (j : ℕ). take (n * 6) out ++ drop (j * 6) out₀) count
      ∙ ap (λ (l : List ℤ). take (n * 6) out ++ l) (sym k.kept)
      ∙ take-append-drop (n * 6) out
      in
      let told : code_at last (read_call input all.next) ≡ code = ap (λ (p : ℕ). code_at last (read_call input p)) next ∙ sym tells in
      let listed = answers_of all.count m all.numbers ++ drop (all.count * 6) out₀ in
      sym
      (ap (λ (x : Monitor). passed x (code_at last (read_call input all.next)) all.count all.next listed) after
      ∙ ap (λ (x : ℤ). passed cur x all.count all.next listed) told
      ∙ ap (λ (x : ℕ). passed cur code x all.next listed) count
      ∙ ap (λ (x : ℕ). passed cur code n x listed) next
      ∙ ap (passed cur code n at) places)

  -- the places are used up
  pub runs_full : (last : Bool) (o : Option (Call × ℕ)) (c : Call) (next : ℕ) → found (Ok o) ≡ read_call input at → o ≡ Some (c, next) → most ≤ n
      → passed cur file_run n at out ≡ after_calls m input last out₀ all
  unfolding calls_from code_at
  runs_full last o c next told is h =
      runs_end last file_run (ap (λ (f : ℕ). calls_from f input at) none) (sym (ap (code_at last) (told_call input at o told c next is)))
    where
      none : most - n ≡ 0
      none = omega arith

  pub runs_over : (last : Bool) (o : Option (Call × ℕ)) → found (Ok o) ≡ read_call input at → o ≡ None → passed cur file_run n at out ≡ after_calls m input last out₀ all
  unfolding code_at
  runs_over last o told is =
      let e = told_nothing input at o told is in
      runs_end last file_run (calls_nothing _ _ _ e) (sym (ap (code_at last) e))

  module _ (last : Bool) (code : ℤ) (e : ReadError) (told : found (Err e) ≡ read_call input at) where
    pub runs_cut : e ≡ CutShort → code ≡ pick last cut_short file_run → passed cur code n at out ≡ after_calls m input last out₀ all
    unfolding found code_at pick
    runs_cut is same = runs_end last code (told_broken e _ input at told) (same ∙ ap (code_at last) (rw is at told))

    pub runs_malformed : e ≡ Malformed → code ≡ malformed → passed cur code n at out ≡ after_calls m input last out₀ all
    unfolding found code_at pick
    runs_malformed is same = runs_end last code (told_broken e _ input at told) (same ∙ ap (code_at last) (rw is at told))

-- no more calls than asked for
pub calls_few : (most : ℕ) (input : List ℕ) (place : ℕ) → (calls_from most input place).count ≤ most
unfolding with_call
calls_few most input place =
    calls_by input (λ n _ w. w.count ≤ n) (λ _. omega arith) (λ _ _ _. omega arith) (λ n at c next e w few. omega arith) most place

-- no more calls than there are places for
pub piece_few : (m : Monitor) (input : List ℕ) (last : Bool) (out : List ℤ) → (piece_of m input last out).calls ≤ length out / 6
unfolding piece_of
piece_few m input last out =
    by_test (λ (p : Passed). p.calls ≤ length out / 6) (λ _. calls_few (length out / 6) input 0) (λ _. omega arith)
