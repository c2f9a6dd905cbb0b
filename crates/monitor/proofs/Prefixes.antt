-- Laws of a drill file that goes on: what is read of its first bytes stays, what is read from a place on is what the bytes from there on have, and the whole
-- calls are those of a front and those of the rest.
-- Assumes nothing.
use Rattle.std.proofs.Common.{ℕ, zero, suc, ◌+◌, ◌-◌, ◌*◌, ◌≤◌, ◌<◌, ◌≡◌, refl, ap, sym, ◌∙◌, ◌⊎◌, inl, inr, ⊎_elim, Bool, List}
use Rattle.std.proofs.Common.{[], ◌∷◌, ◌++◌, append-nil, zero-add, add-zero, suc-add, arith, length, drop, length-append, length-drop, rules}
use Rattle.number.specs.Reader.{Reading, number, refused, read_number}
use Rattle.number.specs.Numbers.{Numbers, numbers, stopped, ahead, onward, read_numbers}
use Rattle.number.proofs.Reading.{below_or_not, one_of_three, number_within, number_near, cut_near_end, answer_extends, shifted, number_shifts}
use Rattle.number.proofs.Successive.{one_more, no_more}
use Rattle.rules.specs.declared.Call.{Call}
use Rattle.monitor.specs.File.{CallReading, called, nothing, broken, as_call}
use Rattle.monitor.specs.File.{read_call, Calls, no_calls, with_call, further, calls_from, file_calls, code_at}
use Rattle.monitor.proofs.Calls.{call_some, call_none, call_after, call_within, calls_one, calls_nothing, calls_by, calls_few}

-- ---- what follows

-- Numbers one after the other stay what they are whatever follows, unless they are cut short.
numbers_extend : (count : ℕ) (input more : List ℕ) (place : ℕ) → place ≤ length input → (read_numbers count input place ≡ stopped 17 → ⊥)
    → read_numbers count (input ++ more) place ≡ read_numbers count input place
unfolding read_numbers onward ahead
numbers_extend zero input more place h whole = refl
numbers_extend (suc count) input more place h whole =
    ap (λ (r : Reading). onward r (read_numbers count (input ++ more))) (answer_extends 5 32 input more place h (λ e. whole (no_more count input place 17 e)))
    ∙ same (λ next k w. numbers_extend count input more next k w) (read_number 5 32 input place) refl
  where
    same :
        ((next : ℕ) → next ≤ length input → (read_numbers count input next ≡ stopped 17 → ⊥)
        → read_numbers count (input ++ more) next ≡ read_numbers count input next)
        → (r : Reading) → read_number 5 32 input place ≡ r → onward r (read_numbers count (input ++ more)) ≡ onward r (read_numbers count input)
    same rest (number value next) e =
        ap (ahead (value ∷ []))
        (rest next (number_within 5 32 input place value next e) (λ c. whole (one_more count input place value next e ∙ ap (ahead (value ∷ [])) c)))
    same rest (refused code) e = refl

module _ (input more : List ℕ) (place : ℕ) where
  -- So does what stands at a place of the input, unless that is a call that is cut short.
  pub call_extends : place < length input → (read_call input place ≡ broken 17 → ⊥) → read_call (input ++ more) place ≡ read_call input place
  unfolding as_call
  call_extends h whole =
      call_some (input ++ more) place (omega (arith, length-append input more))
      ∙ ap as_call (numbers_extend 6 input more place (omega arith) (λ e. whole (call_some input place h ∙ ap as_call e)))
      ∙ sym (call_some input place h)

  pub called_extends : (c : Call) (next : ℕ) → read_call input place ≡ called c next → read_call (input ++ more) place ≡ called c next
  called_extends c next e =
      call_extends (omega (arith, call_after input place c next e, call_within input place c next e)) (λ f. cc) ∙ e

-- ---- from a place on

unfoldable shifted_numbers : ℕ → Numbers → Numbers
shifted_numbers by (numbers values next) = numbers values (by + next)
shifted_numbers by (stopped code) = stopped code

onward_shifts : (by : ℕ) (r : Reading) (f g : ℕ → Numbers) → ((next : ℕ) → f (by + next) ≡ shifted_numbers by (g next))
    → onward (shifted by r) f ≡ shifted_numbers by (onward r g)
unfolding onward shifted shifted_numbers ahead
onward_shifts by (number value next) f g same = ap (ahead (value ∷ [])) (same next) ∙ ahead-shifts (g next)
  where
    ahead-shifts : (ns : Numbers) → ahead (value ∷ []) (shifted_numbers by ns) ≡ shifted_numbers by (ahead (value ∷ []) ns)
    ahead-shifts (numbers values after) = refl
    ahead-shifts (stopped code) = refl
onward_shifts by (refused code) f g same = refl

numbers_shift : (count : ℕ) (input : List ℕ) (by place : ℕ) → read_numbers count input (by + place) ≡ shifted_numbers by (read_numbers count (drop by input) place)
unfolding read_numbers shifted_numbers
numbers_shift zero input by place = refl
numbers_shift (suc count) input by place =
    ap (λ (r : Reading). onward r (read_numbers count input)) (number_shifts 5 32 input by place)
    ∙ onward_shifts by (read_number 5 32 (drop by input) place) (read_numbers count input) (read_numbers count (drop by input)) (numbers_shift count input by)

-- a reading with the place after the call so much further on
unfoldable pub shifted_call : ℕ → CallReading → CallReading
shifted_call by (called c next) = called c (by + next)
shifted_call by nothing = nothing
shifted_call by (broken code) = broken code

-- the bytes in front of a place do not matter
pub call_shifts : (input : List ℕ) (by place : ℕ) → read_call input (by + place) ≡ shifted_call by (read_call (drop by input) place)
unfolding shifted_call as_call shifted_numbers
call_shifts input by place =
    let long = length-drop by input in
    ⊎_elim
    (λ h.
    call_some input (by + place) (omega arith)
    ∙ ap as_call (numbers_shift 6 input by place)
    ∙ as-call-shifts (read_numbers 6 (drop by input) place)
    ∙ ap (shifted_call by) (sym (call_some (drop by input) place h)))
    (λ h. call_none input (by + place) (omega arith) ∙ ap (shifted_call by) (sym (call_none (drop by input) place h)))
    (below_or_not place (length (drop by input)))
  where
    as-call-shifts : (ns : Numbers) → as_call (shifted_numbers by ns) ≡ shifted_call by (as_call ns)
    as-call-shifts (numbers values next) = refl
    as-call-shifts (stopped code) = refl

pub code_shifts : (last : Bool) (by : ℕ) (r : CallReading) → code_at last (shifted_call by r) ≡ code_at last r
unfolding code_at shifted_call
code_shifts last by nothing = refl
code_shifts last by _ = refl

abbrev pub shifted_calls : ℕ → Calls → Calls
shifted_calls by w = record w { next = by + w.next }

further_shifts : (by : ℕ) (r : CallReading) (f g : ℕ → Calls) (place : ℕ) → ((next : ℕ) → f (by + next) ≡ shifted_calls by (g next))
    → further (shifted_call by r) f (by + place) ≡ shifted_calls by (further r g place)
unfolding further shifted_call with_call
further_shifts by (called c next) f g place same = ap (with_call c) (same next)
further_shifts by _ f g place same = refl

calls_shift : (most : ℕ) (input : List ℕ) (by place : ℕ) → calls_from most input (by + place) ≡ shifted_calls by (calls_from most (drop by input) place)
unfolding calls_from
calls_shift zero input by place = refl
calls_shift (suc most) input by place =
    ap (λ (r : CallReading). further r (calls_from most input) (by + place)) (call_shifts input by place)
    ∙ further_shifts by (read_call (drop by input) place) (calls_from most input) (calls_from most (drop by input)) place (calls_shift most input by)

-- ---- a front and the rest

-- calls, and those after them
abbrev pub and_then : Calls → Calls → Calls
and_then w v = record { count = w.count + v.count; numbers = w.numbers ++ v.numbers; next = v.next }

none_then : (v : Calls) (place : ℕ) → v ≡ and_then (no_calls place) v
none_then v place = ap (λ (k : ℕ). record v { count = k }) (sym (zero-add v.count))

then_none : (w : Calls) → and_then w (no_calls w.next) ≡ w
then_none w = search rules

-- The calls that the first bytes have, at most so many, are the first of the whole.
calls_extend : (most n : ℕ) (input more : List ℕ) (place : ℕ)
    → let w = calls_from most input place in
    calls_from (w.count + n) (input ++ more) place ≡ and_then w (calls_from n (input ++ more) w.next)
unfolding with_call
calls_extend most n input more place = calls_by input (λ _ at w. Splits at w) none (λ _ at _. none at) (λ _ at c next e w f. one at c next e w f) most place
  where
    Splits : ℕ → Calls → Type 0
    Splits at w = calls_from (w.count + n) (input ++ more) at ≡ and_then w (calls_from n (input ++ more) w.next)

    none : (at : ℕ) → Splits at (no_calls at)
    none at = ap (λ (k : ℕ). calls_from k (input ++ more) at) (zero-add n) ∙ none_then (calls_from n (input ++ more) at) at

    one : (at : ℕ) (c : Call) (next : ℕ) → read_call input at ≡ called c next → (w : Calls) → Splits next w → Splits at (with_call c w)
    one at c next e w f =
        let rest = calls_from n (input ++ more) w.next in
        ap (λ (k : ℕ). calls_from k (input ++ more) at) (suc-add w.count n)
        ∙ calls_one (w.count + n) (input ++ more) at c next (called_extends input more at c next e)
        ∙ ap (with_call c) f
        ∙ ap (λ (k : ℕ). record { count = k; numbers = (with_call c w).numbers ++ rest.numbers; next = rest.next }) (sym (suc-add w.count rest.count))

-- no call stands after all whole calls
calls_rest : (most : ℕ) (input : List ℕ) (place : ℕ) → length input ≤ place + most → (n : ℕ)
    → calls_from n input (calls_from most input place).next ≡ no_calls (calls_from most input place).next
unfolding with_call
calls_rest most input place h n =
    calls_by input (λ some at w. length input ≤ at + some → calls_from n input w.next ≡ no_calls w.next)
    (λ at g. calls_nothing n input at (call_none input at (omega arith)))
    (λ some at stops g. stops n)
    (λ some at c next e w rest g. rest (omega (arith, call_after input at c next e)))
    most place h

-- whoever asks for at least as many calls as there are gets them all
pub calls_all : (most : ℕ) (input : List ℕ) → (file_calls input).count ≤ most → calls_from most input 0 ≡ file_calls input
calls_all most input h =
    let w : Calls = file_calls input in
    let more : ℕ = most - w.count in
    let sum : most ≡ w.count + more = omega arith in
    ap (λ (k : ℕ). calls_from k input 0) sum
    ∙ ap (λ (l : List ℕ). calls_from (w.count + more) l 0) (sym (append-nil input))
    ∙ calls_extend (length input) more input [] 0
    ∙ ap (λ (l : List ℕ). and_then w (calls_from more l w.next)) (append-nil input)
    ∙ ap (and_then w) (calls_rest (length input) input 0 (omega arith) more)
    ∙ then_none w

module _ (most : ℕ) (bytes more : List ℕ) where
  -- The whole calls are those of a front, at most so many, and those of the bytes that these leave.
  pub calls_split : file_calls (bytes ++ more)
      ≡ and_then (calls_from most bytes 0) (shifted_calls (calls_from most bytes 0).next (file_calls (drop (calls_from most bytes 0).next (bytes ++ more))))
  calls_split =
      let all : List ℕ = bytes ++ more in
      let w : Calls = calls_from most bytes 0 in
      let rest : List ℕ = drop w.next all in
      let few : (file_calls all).count ≤ length all = calls_few (length all) all 0 in
      let left : (file_calls rest).count ≤ length rest = calls_few (length rest) rest 0 in
      let long : length rest ≡ length all - w.next = length-drop w.next all in
      sym (calls_all (w.count + length all) all (omega arith))
      ∙ calls_extend most (length all) bytes more 0
      ∙ ap (λ (p : ℕ). and_then w (calls_from (length all) all p)) (sym (add-zero w.next))
      ∙ ap (and_then w) (calls_shift (length all) all w.next 0)
      ∙ ap (λ (v : Calls). and_then w (shifted_calls w.next v)) (calls_all (length all) rest (omega arith))

-- ---- six numbers a call

pub calls_long : (most : ℕ) (input : List ℕ) (place : ℕ) → length (calls_from most input place).numbers ≡ (calls_from most input place).count * 6
unfolding with_call
calls_long most input place =
    calls_by input (λ _ _ w. length w.numbers ≡ w.count * 6) (λ _. refl) (λ _ _ _. refl) (λ _ at c next e w rest. omega arith) most place

-- they end past the place where they start, and within the input
pub calls_end : (most : ℕ) (input : List ℕ) (place : ℕ) → place ≤ length input
    → (place ≤ (calls_from most input place).next) × ((calls_from most input place).next ≤ length input)
unfolding with_call
calls_end most input place =
    calls_by input (λ _ at w. at ≤ length input → (at ≤ w.next) × (w.next ≤ length input)) (λ at h. (omega arith, h)) (λ _ at _ h. (omega arith, h))
    (λ _ at c next e w rest h. let past = call_after input at c next e in
    let ends = rest (call_within input at c next e) in
    (omega (arith, ends.0), ends.1))
    most place

-- ---- refusals

-- Numbers are refused with 17, where no more bytes are left than they may have, or with 18.
numbers_stop : (count : ℕ) (input : List ℕ) (place code : ℕ) → read_numbers count input place ≡ stopped code
    → ((code ≡ 17) × (length input ≤ place + count * 5)) ⊎ (code ≡ 18)
unfolding read_numbers ahead
numbers_stop zero input place code e = cc
numbers_stop (suc count) input place code e =
    ⊎_elim
    (λ r. let near = number_near 5 32 input place r.0 r.1 r.2 in
    ⊎_elim (λ s. inl (s.0, omega (arith, s.1))) inr
    (numbers_stop count input r.1 code (later r.0 r.1 r.2 (read_numbers count input r.1) refl)))
    (⊎_elim (λ r. inl (here 17 r, omega (arith, cut_near_end 5 32 input place r))) (λ r. inr (here 18 r)))
    (one_of_three 5 32 input place)
  where
    here : (other : ℕ) → read_number 5 32 input place ≡ refused other → code ≡ other
    here other r = let s = no_more count input place other r in cc

    later : (value next : ℕ) → read_number 5 32 input place ≡ number value next → (ns : Numbers) → read_numbers count input next ≡ ns
        → read_numbers count input next ≡ stopped code
    later value next r (numbers values after) f =
        let s = one_more count input place value next r ∙ ap (ahead (value ∷ [])) f in
        cc
    later value next r (stopped other) f =
        let s = one_more count input place value next r ∙ ap (ahead (value ∷ [])) f in
        let same : other ≡ code = cc in
        f ∙ ap stopped same

-- A call is broken by 17, where at most 30 bytes are left, or by 18.
pub call_breaks : (input : List ℕ) (place code : ℕ) → read_call input place ≡ broken code → ((code ≡ 17) × (length input ≤ place + 30)) ⊎ (code ≡ 18)
unfolding as_call
call_breaks input place code e =
    ⊎_elim (λ h. go (read_numbers 6 input place) refl (sym (call_some input place h) ∙ e))
    (λ h. let n = call_none input place h in cc)
    (below_or_not place (length input))
  where
    go : (ns : Numbers) → read_numbers 6 input place ≡ ns → as_call (read_numbers 6 input place) ≡ broken code
        → ((code ≡ 17) × (length input ≤ place + 30)) ⊎ (code ≡ 18)
    go (numbers values next) f g = cc
    go (stopped other) f g = let same : other ≡ code = cc in numbers_stop 6 input place code (f ∙ ap stopped same)

-- nothing stands at the front of no bytes alone
pub nothing_none : (input : List ℕ) → read_call input 0 ≡ nothing → length input ≡ 0
unfolding as_call
nothing_none input e = ⊎_elim (λ h. absurd (go (read_numbers 6 input 0) (sym (call_some input 0 h) ∙ e))) (λ h. omega arith) (below_or_not 0 (length input))
  where
    go : (ns : Numbers) → as_call ns ≡ nothing → ⊥
    go (numbers values next) f = cc
    go (stopped code) f = cc
