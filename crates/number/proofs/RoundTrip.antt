-- What is written is read, and what is read is what is written: one form for each number, for any most bytes and most bits.
-- Assumes nothing.
use Rattle.std.proofs.Common.{ℕ, zero, suc, ◌+◌, ◌-◌, ◌*◌, ◌/◌, ◌%◌, ◌^◌, ◌≤◌, ◌<◌, ◌≡◌, ap, ap₂, sym, ◌∙◌, subst, ⊎_elim, List, [], ◌∷◌, ◌++◌, append_assoc, arith, ltb, pow_mono, shr_lt, length, take, drop, get_or, length-drop, take-append-drop, get_or-drop, drop_at, length-take-le, take-add}
use Rattle.number.specs.Reader.{Reading, number, refused, continued, read_groups, read_number, group_count, number_end}
use Rattle.number.specs.Writer.{written, number_bytes, write_answer, write_buffer}
use Rattle.number.proofs.Choice.{by_test_lem}
use Rattle.number.proofs.Groups.{continued_zero, continued_high, front_last, front_more, front_ends, count_last, count_more, bytes_last, bytes_more}
use Rattle.number.proofs.Stores.{fit_answer, fit_list, answer_fits, written_next}
use Rattle.number.proofs.Reading.{below_or_not, number_end_lem, number_within}

-- ---- what is written is read

quotient_below : (bits value : ℕ) → value < 2 ^ bits → 128 ≤ value → value / 128 < 2 ^ (bits - 7)
quotient_below bits value h k = shr_lt (bits - 7) 7 (subst (λ (n : ℕ). value < 2 ^ n) whole h)
  where
    enough : 7 ≤ bits
    enough =
        ⊎_elim (λ (few : bits < 7). absurd (omega (arith, pow_mono {i = bits} {j = 7} (omega arith)))) (λ (many : 7 ≤ bits). many)
        (below_or_not bits 7)

    whole : bits ≡ bits - 7 + 7
    whole = omega (arith, enough)

module _ (most bits place value : ℕ) (after : List ℕ) where
  one_read : value < 128 → value < 2 ^ bits
      → read_groups (suc most) bits place (number_bytes (suc most) value ++ after) ≡ number value (place + length (number_bytes (suc most) value))
  one_read h small = rw (bytes_last most value h) (front_last most bits place value after h small)

  more_read : 128 ≤ value
      → read_groups most (bits - 7) (place + 1) (number_bytes most (value / 128) ++ after)
      ≡ number (value / 128) (place + 1 + length (number_bytes most (value / 128)))
      → read_groups (suc most) bits place (number_bytes (suc most) value ++ after) ≡ number value (place + length (number_bytes (suc most) value))
  more_read h rest =
      rw (bytes_more most value h)
      (front_more most bits place (value % 128 + 128) (number_bytes most (value / 128) ++ after) (omega arith)
      ∙ ap (continued ((value % 128 + 128) % 128) 128) rest
      ∙ continued_high ((value % 128 + 128) % 128) 128 (value / 128) _ (omega arith)
      ∙ ap₂ number (omega arith) (omega arith))

more_than_one : (most value : ℕ) → 128 ≤ value → value < 2 ^ (7 * suc most) → 0 < most
more_than_one zero value h k = absurd (omega arith)
more_than_one (suc most) value h k = omega arith

fewer_groups : (most value : ℕ) → 128 ≤ value → value < 2 ^ (7 * suc most) → value / 128 < 2 ^ (7 * most)
fewer_groups most value h k = subst (λ (n : ℕ). value / 128 < 2 ^ n) (omega arith) (quotient_below (7 * suc most) value k h)

pub bytes_are_read : (most bits place value : ℕ) (after : List ℕ) → 0 < most → value < 2 ^ bits → value < 2 ^ (7 * most)
    → read_groups most bits place (number_bytes most value ++ after) ≡ number value (place + length (number_bytes most value))
bytes_are_read zero bits place value after some small short = absurd (omega arith)
bytes_are_read (suc most) bits place value after some small short =
    ⊎_elim (λ h. one_read most bits place value after h small)
    (λ h.
    more_read most bits place value after h
    (bytes_are_read most (bits - 7) (place + 1) (value / 128) after
    (more_than_one most value h short) (quotient_below bits value small h) (fewer_groups most value h short)))
    (below_or_not value 128)

-- What the writer writes the reader reads, with the place after it.
pub written_is_read : (most bits : ℕ) (buffer : List ℕ) (place value next : ℕ) → write_answer buffer place (number_bytes most value) ≡ written next
    → 0 < most → bits ≤ 7 * most → value < 2 ^ bits
    → read_number most bits (write_buffer buffer place (number_bytes most value)) place ≡ number value next
unfolding read_number
written_is_read most bits buffer place value next e some room small =
    let bytes : List ℕ = number_bytes most value in
    let after : List ℕ = drop (place + length bytes) buffer in
    let k : 2 ^ bits ≤ 2 ^ (7 * most) = pow_mono room in
    let fit = answer_fits buffer place bytes next e in
    ap (λ (l : List ℕ). read_groups most bits place (drop place l))
    (sym (fit_list buffer place bytes fit) ∙ append_assoc (take place buffer) bytes after)
    ∙ ap (read_groups most bits place) (drop_at (take place buffer) (bytes ++ after) place (length-take-le place buffer (omega arith)))
    ∙ bytes_are_read most bits place value after some small (omega arith)
    ∙ ap (number value) (sym (written_next buffer place bytes next e))

-- ---- what is read is written

-- The number at the front, where there is one, has the bytes that the writer gives its value.
data Form (most : ℕ) (bytes : List ℕ) : Reading → Type 0 where
  formed : (value next : ℕ) → take (group_count most bytes) bytes ≡ number_bytes most value → Form most bytes (number value next)
  unformed : (code : ℕ) → Form most bytes (refused code)

module _ (most bits place byte : ℕ) (bytes : List ℕ) where
  form_last : byte < 128 → Form (suc most) (byte ∷ bytes) (read_groups (suc most) bits place (byte ∷ bytes))
  form_last h =
      rw (front_ends most bits place byte bytes h)
      (by_test_lem (Form (suc most) (byte ∷ bytes)) (ltb byte (2 ^ bits))
      (formed byte (place + 1) (ap (λ (k : ℕ). take k (byte ∷ bytes)) (count_last most byte bytes h) ∙ sym (bytes_last most byte h)))
      (unformed 18))

  form_more : 128 ≤ byte → byte < 256 → (r : Reading) → Form most bytes r → Form (suc most) (byte ∷ bytes) (continued (byte % 128) 128 r)
  unfolding continued
  form_more h k r (formed zero next e) = rw continued_zero (unformed 18)
  form_more h k r (formed (suc high) next e) =
      rw (continued_high (byte % 128) 128 (suc high) next (omega arith)) (formed value next same)
    where
      value : ℕ
      value = byte % 128 + suc high * 128

      same : take (group_count (suc most) (byte ∷ bytes)) (byte ∷ bytes) ≡ number_bytes (suc most) value
      same =
          ap (λ (n : ℕ). take n (byte ∷ bytes)) (count_more most byte bytes h)
          ∙ ap (λ (l : List ℕ). byte ∷ l) e
          ∙ ap₂ (λ (b v : ℕ). b ∷ number_bytes most v) (omega arith) (omega arith)
          ∙ sym (bytes_more most value (omega arith))
  form_more h k r (unformed code) = unformed code

form_front : (most bits place : ℕ) (bytes : List ℕ) → ((i : ℕ) → get_or bytes i 0 < 256) → Form most bytes (read_groups most bits place bytes)
unfolding read_groups
form_front zero bits place bytes b = unformed 18
form_front (suc most) bits place [] b = unformed 17
form_front (suc most) bits place (byte ∷ bytes) b =
    ⊎_elim (form_last most bits place byte bytes)
    (λ h.
    rw (front_more most bits place byte bytes h)
    (form_more most bits place byte bytes h (b 0) _ (form_front most (bits - 7) (place + 1) bytes (λ i. b (suc i)))))
    (below_or_not byte 128)

module _ (most bits : ℕ) (input : List ℕ) (place value next : ℕ) (bytes : (i : ℕ) → get_or input i 0 < 256)
    (e : read_number most bits input place ≡ number value next) where
  count : ℕ
  count = group_count most (drop place input)

  -- The bytes of an accepted number are those that the writer gives its value.
  counted : take count (drop place input) ≡ number_bytes most value
  unfolding read_number count
  counted = go (subst (Form most (drop place input)) e (form_front most bits place (drop place input) (λ i. rw get_or-drop (bytes (place + i)))))
    where
      go : Form most (drop place input) (number value next) → take (group_count most (drop place input)) (drop place input) ≡ number_bytes most value
      go (formed v n same) = same

  ends : next ≡ place + count
  unfolding count number_end
  ends = number_end_lem most bits input place value next e

  long : length (number_bytes most value) ≡ count
  long =
      let w = number_within most bits input place value next e in
      let f = ends in
      ap length (sym counted) ∙ length-take-le count (drop place input) (omega (arith, length-drop place input))

  pub number_bytes_lem : take (next - place) (drop place input) ≡ number_bytes most value
  number_bytes_lem = let f = ends in let c : next - place ≡ count = omega arith in ap (λ (k : ℕ). take k (drop place input)) c ∙ counted

  fit : place + length (number_bytes most value) ≤ length input
  fit = let w = number_within most bits input place value next e in let f = ends in let l = long in omega arith

  -- What the reader accepts is what the writer writes of that value: it gives the same next place, and writing it changes nothing.
  pub read_is_written : (write_answer input place (number_bytes most value) ≡ written next) × (write_buffer input place (number_bytes most value) ≡ input)
  read_is_written = (
    sym (fit_answer input place (number_bytes most value) fit) ∙ ap written (let f = ends in let l = long in omega arith),
    sym (fit_list input place (number_bytes most value) fit)
        ∙ ap₂ (λ (l : List ℕ) (k : ℕ). take place input ++ l ++ drop (place + k) input) (sym counted) long
        ∙ ap (λ (l : List ℕ). l ++ drop (place + count) input) (sym (take-add place count input))
        ∙ take-append-drop (place + count) input,
  )

-- A number has one form: two places at which the same value is read hold the same bytes.
pub one_form : (most bits : ℕ) (input other : List ℕ) (place at value next end : ℕ)
    → ((i : ℕ) → get_or input i 0 < 256) → ((i : ℕ) → get_or other i 0 < 256)
    → read_number most bits input place ≡ number value next → read_number most bits other at ≡ number value end
    → take (next - place) (drop place input) ≡ take (end - at) (drop at other)
one_form most bits input other place at value next end b c e f =
    number_bytes_lem most bits input place value next b e ∙ sym (number_bytes_lem most bits other at value end c f)
