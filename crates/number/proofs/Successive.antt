-- Laws of numbers one after the other: how they are read, stored and measured, and that what is written is read and what is read is written.
-- Assumes nothing.
use Rattle.std.proofs.Common.{ℕ, zero, suc, ◌+◌, ◌-◌, ◌^◌, ◌≤◌, ◌<◌, ◌≡◌, refl, ap, sym, ◌∙◌, subst, ◌⊎◌, inl, inr, ⊎_elim, List, [], ◌∷◌, ◌++◌, append_assoc, append-nil, add-one, arith, lt-ltb, le-ltb, length, drop, get_or, set, length-append, drop_of_length-le, take-append-drop, drop-cons, drop_at, drop-drop}
use Rattle.std.proofs.lemmas.List.Edits.{sets}
use Rattle.std.proofs.Math.Seq.{length-sets}
use Rattle.number.specs.Reader.{Reading, number, refused, read_groups, read_number}
use Rattle.number.specs.Writer.{number_bytes, written, unwritten, write_answer, write_buffer}
use Rattle.number.specs.Numbers.{Numbers, numbers, stopped, ahead, onward, read_numbers, numbers_from, all_numbers, numbers_bytes}
use Rattle.number.proofs.Choice.{pick_true, pick_false}
use Rattle.number.proofs.Groups.{bytes_some}
use Rattle.number.proofs.Reading.{below_or_not, one_of_three, number_after, number_within, number_below}
use Rattle.number.proofs.Stores.{fit_answer, fit_buffer}
use Rattle.number.proofs.RoundTrip.{bytes_are_read, number_bytes_lem}

-- ---- reading

pub ahead_none : (ns : Numbers) → ahead [] ns ≡ ns
unfolding ahead
ahead_none (numbers values next) = refl
ahead_none (stopped code) = refl

pub ahead_ahead : (xs ys : List ℕ) (ns : Numbers) → ahead xs (ahead ys ns) ≡ ahead (xs ++ ys) ns
unfolding ahead
ahead_ahead xs ys (numbers values next) = ap (λ (l : List ℕ). numbers l next) (sym (append_assoc xs ys values))
ahead_ahead xs ys (stopped code) = refl

module _ (count : ℕ) (input : List ℕ) (place : ℕ) where
  pub one_more : (value next : ℕ) → read_number 5 32 input place ≡ number value next
      → read_numbers (suc count) input place ≡ ahead (value ∷ []) (read_numbers count input next)
  unfolding read_numbers onward
  one_more value next e = ap (λ (r : Reading). onward r (read_numbers count input)) e

  pub no_more : (code : ℕ) → read_number 5 32 input place ≡ refused code → read_numbers (suc count) input place ≡ stopped code
  unfolding read_numbers onward
  no_more code e = ap (λ (r : Reading). onward r (read_numbers count input)) e

-- ---- every number up to the end of the input

module _ (input : List ℕ) (place : ℕ) where
  pub from_end : (most : ℕ) → length input ≤ place → numbers_from most input place ≡ numbers [] place
  unfolding numbers_from
  from_end zero h = refl
  from_end (suc most) h = pick_false _ _ _ (le-ltb _ _ h)

  pub from_here : (most fewer : ℕ) → most ≡ suc fewer → place < length input → (r : Reading) → read_number 5 32 input place ≡ r
      → numbers_from most input place ≡ onward r (numbers_from fewer input)
  unfolding numbers_from
  from_here most fewer left h r e =
      ap (λ (m : ℕ). numbers_from m input place) left
      ∙ pick_true _ _ _ (lt-ltb _ _ h)
      ∙ ap (λ (x : Reading). onward x (numbers_from fewer input)) e

-- The numbers up to `at` have been read as `values`.
pub record ReadsAll (input values : List ℕ) (at : ℕ) : Type 0 where
  pub most : ℕ
  pub within : at ≤ length input
  pub enough : length input ≤ at + most
  pub tells : all_numbers input ≡ ahead values (numbers_from most input at)

pub reads_all_none : (input : List ℕ) → ReadsAll input [] 0
reads_all_none input = record { most = length input; within = omega arith; enough = omega arith; tells = sym (ahead_none _) }

module _ {input values : List ℕ} {at : ℕ} (r : ReadsAll input values at) where
  module _ (h : at < length input) where
    here : (x : Reading) → read_number 5 32 input at ≡ x → all_numbers input ≡ ahead values (onward x (numbers_from (r.most - 1) input))
    here x e = r.tells ∙ ap (ahead values) (from_here input at r.most (r.most - 1) (omega (arith, r.enough)) h x e)

    pub reads_all_one : (value next : ℕ) → read_number 5 32 input at ≡ number value next → ReadsAll input (values ++ (value ∷ [])) next
    unfolding onward
    reads_all_one value next e =
        let past = number_after 5 32 input at value next e in
        record {
          most = r.most - 1;
          within = number_within 5 32 input at value next e;
          enough = omega (arith, r.enough);
          tells = here (number value next) e ∙ ahead_ahead values (value ∷ []) (numbers_from (r.most - 1) input next);
        }

    pub reads_all_stop : (code : ℕ) → read_number 5 32 input at ≡ refused code → all_numbers input ≡ stopped code
    unfolding onward ahead
    reads_all_stop code e = here (refused code) e

  pub reads_all_end : length input ≤ at → all_numbers input ≡ numbers values at
  unfolding ahead
  reads_all_end h =
      r.tells
      ∙ ap (ahead values) (from_end input at r.most h)
      ∙ ap (λ (l : List ℕ). numbers l at) (append-nil values)

-- ---- stores one after the other

module _ {A : Type 0} where
  pub sets_after : (l : List A) (i : ℕ) (xs ys : List A) (j : ℕ) → j ≡ i + length xs → sets (sets l i xs) j ys ≡ sets l i (xs ++ ys)
  sets_after l i [] ys j e = let same : j ≡ i = omega arith in ap (λ (k : ℕ). sets l k ys) same
  sets_after l i (x ∷ xs) ys j e = sets_after (set l i x) (suc i) xs ys j (omega arith)

-- the bytes of the numbers from a place on
module _ (values : List ℕ) (i : ℕ) where
  pub bytes_next : i < length values → numbers_bytes (drop i values) ≡ number_bytes 5 (get_or values i 0) ++ numbers_bytes (drop (i + 1) values)
  unfolding numbers_bytes
  bytes_next h =
      ap numbers_bytes (drop-cons values i 0 h) ∙ ap (λ (k : ℕ). number_bytes 5 (get_or values i 0) ++ numbers_bytes (drop k values)) (sym (add-one i))

  pub bytes_end : length values ≤ i → numbers_bytes (drop i values) ≡ []
  unfolding numbers_bytes
  bytes_end h = ap numbers_bytes (drop_of_length-le values h)

  pub long_next : i < length values
      → length (numbers_bytes (drop i values)) ≡ length (number_bytes 5 (get_or values i 0)) + length (numbers_bytes (drop (i + 1) values))
  long_next h = ap length (bytes_next h) ∙ length-append (number_bytes 5 (get_or values i 0)) (numbers_bytes (drop (i + 1) values))

  pub long_end : length values ≤ i → length (numbers_bytes (drop i values)) ≡ 0
  long_end h = ap length (bytes_end h)

-- ---- the numbers written

-- The bytes of the first `i` numbers have been written.
pub record Writes (before : List ℕ) (place : ℕ) (values buffer : List ℕ) (at i : ℕ) : Type 0 where
  pub few : i ≤ length values
  pub room : place + length (numbers_bytes values) ≤ length before
  pub long : length buffer ≡ length before
  pub ends : at + length (numbers_bytes (drop i values)) ≡ place + length (numbers_bytes values)
  pub makes : sets buffer at (numbers_bytes (drop i values)) ≡ sets before place (numbers_bytes values)

pub writes_none : (before : List ℕ) (place : ℕ) (values : List ℕ) → place + length (numbers_bytes values) ≤ length before
    → Writes before place values before place 0
writes_none before place values h = record { few = omega arith; room = h; long = refl; ends = refl; makes = refl }

module _ {before : List ℕ} {place : ℕ} {values buffer : List ℕ} {at i : ℕ} (w : Writes before place values buffer at i) where
  module _ (h : i < length values) where
    value : ℕ
    value = get_or values i 0

    size : length (numbers_bytes (drop i values)) ≡ length (number_bytes 5 value) + length (numbers_bytes (drop (i + 1) values))
    unfolding value
    size = long_next values i h

    fits : at + length (number_bytes 5 value) ≤ length buffer
    fits = omega (arith, w.ends, w.room, w.long, size)

    answer : written (at + length (number_bytes 5 value)) ≡ write_answer buffer at (number_bytes 5 value)
    answer = fit_answer buffer at (number_bytes 5 value) fits

    pub writes_room : unwritten 16 ≡ write_answer buffer at (number_bytes 5 (get_or values i 0)) → ⊥
    unfolding value
    writes_room e = let a = answer in let z : ◌≡◌ {A = ℕ} 0 1 = cc in omega arith

    pub writes_one : (next : ℕ) → written next ≡ write_answer buffer at (number_bytes 5 (get_or values i 0))
        → (after : List ℕ) → after ≡ write_buffer buffer at (number_bytes 5 (get_or values i 0))
        → Writes before place values after next (i + 1)
    unfolding value
    writes_one next e after made =
        let a = answer in
        let ends : next ≡ at + length (number_bytes 5 value) = cc in
        let stored : after ≡ sets buffer at (number_bytes 5 value) = made ∙ sym (fit_buffer buffer at (number_bytes 5 value) fits) in
        record {
          few = omega arith;
          room = w.room;
          long = ap length stored ∙ length-sets buffer at (number_bytes 5 value) ∙ w.long;
          ends = omega (arith, w.ends, size);
          makes =
              ap (λ (l : List ℕ). sets l next (numbers_bytes (drop (i + 1) values))) stored
              ∙ sets_after buffer at (number_bytes 5 value) (numbers_bytes (drop (i + 1) values)) next ends
              ∙ ap (sets buffer at) (sym (bytes_next values i h))
              ∙ w.makes;
        }

  pub writes_all : length values ≤ i → (at ≡ place + length (numbers_bytes values)) × (buffer ≡ sets before place (numbers_bytes values))
  writes_all h =
      let e = bytes_end values i h in
      (omega (arith, w.ends, ap length e), ap (sets buffer at) (sym e) ∙ w.makes)

-- ---- what is written is read

-- every number is below 2^32
pub data Small : List ℕ → Type 0 where
  none_small : Small []
  one_small : {value : ℕ} {values : List ℕ} → value < 2 ^ 32 → Small values → Small (value ∷ values)

-- a number that stands after `front` is read
number_at : (front after : List ℕ) (value : ℕ) → value < 2 ^ 32
    → read_number 5 32 (front ++ (number_bytes 5 value ++ after)) (length front) ≡ number value (length front + length (number_bytes 5 value))
unfolding read_number
number_at front after value h =
    ap (read_groups 5 32 (length front)) (drop_at front (number_bytes 5 value ++ after) (length front) refl)
    ∙ bytes_are_read 5 32 (length front) value after (omega arith) h (omega arith)

-- so are numbers one after the other
pub numbers_at : (values front after : List ℕ) → Small values
    → read_numbers (length values) (front ++ (numbers_bytes values ++ after)) (length front) ≡ numbers values (length front + length (numbers_bytes values))
unfolding read_numbers numbers_bytes ahead
numbers_at [] front after none_small = ap (numbers []) (omega arith)
numbers_at (value ∷ values) front after (one_small h rest) =
    let bytes : List ℕ = number_bytes 5 value in
    let input : List ℕ = front ++ ((bytes ++ numbers_bytes values) ++ after) in
    let split : input ≡ front ++ (bytes ++ (numbers_bytes values ++ after)) = ap (λ (l : List ℕ). front ++ l) (append_assoc bytes (numbers_bytes values) after) in
    let moved : input ≡ (front ++ bytes) ++ (numbers_bytes values ++ after) = split ∙ sym (append_assoc front bytes (numbers_bytes values ++ after)) in
    let next : length (front ++ bytes) ≡ length front + length bytes = length-append front bytes in
    one_more (length values) input (length front) value (length front + length bytes)
    (ap (λ (l : List ℕ). read_number 5 32 l (length front)) split ∙ number_at front (numbers_bytes values ++ after) value h)
    ∙ ap (λ (l : List ℕ). ahead (value ∷ []) (read_numbers (length values) l (length front + length bytes))) moved
    ∙ ap (λ (k : ℕ). ahead (value ∷ []) (read_numbers (length values) ((front ++ bytes) ++ (numbers_bytes values ++ after)) k)) (sym next)
    ∙ ap (ahead (value ∷ [])) (numbers_at values (front ++ bytes) after rest)
    ∙ ap (numbers (value ∷ values)) (omega (arith, next, length-append bytes (numbers_bytes values)))

pub bytes_append : (xs ys : List ℕ) → numbers_bytes (xs ++ ys) ≡ numbers_bytes xs ++ numbers_bytes ys
unfolding numbers_bytes
bytes_append [] ys = refl
bytes_append (x ∷ xs) ys =
    ap (λ (l : List ℕ). number_bytes 5 x ++ l) (bytes_append xs ys) ∙ sym (append_assoc (number_bytes 5 x) (numbers_bytes xs) (numbers_bytes ys))

-- a number takes a byte or more
pub bytes_long : (values : List ℕ) → length values ≤ length (numbers_bytes values)
unfolding numbers_bytes
bytes_long [] = omega arith
bytes_long (value ∷ values) =
    omega (arith, length-append (number_bytes 5 value) (numbers_bytes values), bytes_some 5 value (omega arith), bytes_long values)

-- numbers that stand at the end are read as all that there are from their place on
from_written : (values front : List ℕ) (most : ℕ) → length values ≤ most → Small values
    → numbers_from most (front ++ numbers_bytes values) (length front) ≡ numbers values (length front + length (numbers_bytes values))
unfolding numbers_bytes onward ahead
from_written [] front most few none_small =
    from_end (front ++ []) (length front) most (omega (arith, length-append {A = ℕ} front [])) ∙ ap (numbers []) (omega arith)
from_written (value ∷ values) front most few (one_small h rest) =
    let bytes : List ℕ = number_bytes 5 value in
    let input : List ℕ = front ++ (bytes ++ numbers_bytes values) in
    let moved : input ≡ (front ++ bytes) ++ numbers_bytes values = sym (append_assoc front bytes (numbers_bytes values)) in
    let next : length (front ++ bytes) ≡ length front + length bytes = length-append front bytes in
    let some = bytes_some 5 value (omega arith) in
    let sum = length-append bytes (numbers_bytes values) in
    from_here input (length front) most (most - 1) (omega arith) (omega (arith, length-append front (bytes ++ numbers_bytes values)))
    (number value (length front + length bytes)) (number_at front (numbers_bytes values) value h)
    ∙ ap (λ (l : List ℕ). ahead (value ∷ []) (numbers_from (most - 1) l (length front + length bytes))) moved
    ∙ ap (λ (k : ℕ). ahead (value ∷ []) (numbers_from (most - 1) ((front ++ bytes) ++ numbers_bytes values) k)) (sym next)
    ∙ ap (ahead (value ∷ [])) (from_written values (front ++ bytes) (most - 1) (omega arith) rest)
    ∙ ap (numbers (value ∷ values)) (omega arith)

-- What is written of numbers is read as just those.
pub all_written_read : (values : List ℕ) → Small values → all_numbers (numbers_bytes values) ≡ numbers values (length (numbers_bytes values))
all_written_read values small = from_written values [] (length (numbers_bytes values)) (bytes_long values) small ∙ ap (numbers values) (omega arith)

-- ---- what is read is written

pub ahead_read : (values : List ℕ) (ns : Numbers) (all : List ℕ) (next : ℕ) → ahead values ns ≡ numbers all next
    → (more : List ℕ) × (ns ≡ numbers more next) × (values ++ more ≡ all)
unfolding ahead
ahead_read values (numbers more end) all next e = let same : end ≡ next = cc in let whole : values ++ more ≡ all = cc in (more, ap (numbers more) same, whole)
ahead_read values (stopped code) all next e = let z : ◌≡◌ {A = ℕ} 0 1 = cc in absurd (omega arith)

-- the numbers from a place on have the bytes from there on
module _ (input : List ℕ) (bytes : (i : ℕ) → get_or input i 0 < 256) where
  from_none : (place : ℕ) (values : List ℕ) (next : ℕ) → length input ≤ place → numbers [] place ≡ numbers values next
      → (drop place input ≡ numbers_bytes values) × Small values
  unfolding numbers_bytes
  from_none place [] next h e = (drop_of_length-le input h, none_small)
  from_none place (value ∷ values) next h e = let z : ◌≡◌ {A = ℕ} 0 1 = cc in absurd (omega arith)

  from_read : (most place : ℕ) (values : List ℕ) (next : ℕ) → length input ≤ place + most → numbers_from most input place ≡ numbers values next
      → (drop place input ≡ numbers_bytes values) × Small values
  unfolding numbers_from onward numbers_bytes
  from_read zero place values next enough e = from_none place values next (omega arith) e
  from_read (suc most) place values next enough e =
      ⊎_elim
      (λ h.
      ⊎_elim
      (λ r. one (λ after more k f. from_read most after more next k f) h r.0 r.1 r.2)
      (⊎_elim (λ r. gone h 17 r) (λ r. gone h 18 r))
      (one_of_three 5 32 input place))
      (λ h. from_none place values next h (sym (from_end input place (suc most) h) ∙ e))
      (below_or_not place (length input))
    where
      gone : place < length input → (code : ℕ) → read_number 5 32 input place ≡ refused code → (drop place input ≡ numbers_bytes values) × Small values
      gone h code r =
          let s = from_here input place (suc most) most refl h (refused code) r in let z : ◌≡◌ {A = ℕ} 0 1 = cc in absurd (omega arith)

      one :
          ((after : ℕ) (more : List ℕ) → length input ≤ after + most → numbers_from most input after ≡ numbers more next
          → (drop after input ≡ numbers_bytes more) × Small more)
          → place < length input → (value after : ℕ) → read_number 5 32 input place ≡ number value after
          → (drop place input ≡ numbers_bytes values) × Small values
      one rest_read h value after r =
          let past = number_after 5 32 input place value after r in
          let rest = ahead_read (value ∷ []) (numbers_from most input after) values next
          (sym (from_here input place (suc most) most refl h (number value after) r) ∙ e) in
          let more = rest_read after rest.0 (omega arith) rest.1 in
          let whole : place + (after - place) ≡ after = omega arith in
          let split : drop place input ≡ number_bytes 5 value ++ numbers_bytes rest.0 =
          sym (take-append-drop (after - place) (drop place input))
          ∙ ap (λ (l : List ℕ). l ++ drop (after - place) (drop place input)) (number_bytes_lem 5 32 input place value after bytes r)
          ∙ ap (λ (l : List ℕ). number_bytes 5 value ++ l)
          (drop-drop (after - place) place input ∙ ap (λ (k : ℕ). drop k input) whole ∙ more.0)
          in
          subst (λ (l : List ℕ). (drop place input ≡ numbers_bytes l) × Small l) rest.2
          (split, one_small (number_below 5 32 input place value after r) more.1)

  -- What is read as numbers up to the end is what is written of just those.
  pub all_read_written : (values : List ℕ) (next : ℕ) → all_numbers input ≡ numbers values next → (input ≡ numbers_bytes values) × Small values
  all_read_written values next e = from_read (length input) 0 values next (omega arith) e

-- ---- a bad number

-- the only refusals are 17 and 18
from_stopped : (most : ℕ) (input : List ℕ) (place code : ℕ) → numbers_from most input place ≡ stopped code → (code ≡ 17) ⊎ (code ≡ 18)
unfolding numbers_from onward ahead
from_stopped zero input place code e = let z : ◌≡◌ {A = ℕ} 0 1 = cc in absurd (omega arith)
from_stopped (suc most) input place code e =
    ⊎_elim
    (λ h.
    ⊎_elim (λ r. later (λ after f. from_stopped most input after code f) h r.0 r.1 r.2)
    (⊎_elim (λ r. inl (here h 17 r)) (λ r. inr (here h 18 r)))
    (one_of_three 5 32 input place))
    (λ h. let s = from_end input place (suc most) h in let z : ◌≡◌ {A = ℕ} 0 1 = cc in absurd (omega arith))
    (below_or_not place (length input))
  where
    here : place < length input → (bad : ℕ) → read_number 5 32 input place ≡ refused bad → code ≡ bad
    here h bad r = let s = from_here input place (suc most) most refl h (refused bad) r in cc

    later : ((after : ℕ) → numbers_from most input after ≡ stopped code → (code ≡ 17) ⊎ (code ≡ 18))
        → place < length input → (value after : ℕ) → read_number 5 32 input place ≡ number value after → (code ≡ 17) ⊎ (code ≡ 18)
    later rest h value after r =
        rest after (go (numbers_from most input after) (sym (from_here input place (suc most) most refl h (number value after) r) ∙ e))
      where
        go : (ns : Numbers) → ahead (value ∷ []) ns ≡ stopped code → ns ≡ stopped code
        go (numbers values next) f = let z : ◌≡◌ {A = ℕ} 0 1 = cc in absurd (omega arith)
        go (stopped bad) f = f

pub all_stopped : (input : List ℕ) (code : ℕ) → all_numbers input ≡ stopped code → (code ≡ 17) ⊎ (code ≡ 18)
all_stopped input code e = from_stopped (length input) input 0 code e
