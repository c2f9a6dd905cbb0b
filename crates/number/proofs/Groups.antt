-- Reading and writing, one group at a time.
-- Assumes nothing.
use Rattle.std.proofs.Common.{ℕ, zero, suc, ◌+◌, ◌-◌, ◌*◌, ◌^◌, ◌≤◌, ◌<◌, ◌/◌, ◌%◌, ◌≡◌, refl, ap, sym, ◌∙◌, List, [], ◌∷◌, add-mul, mul_assoc, mul_comm, add_assoc, add-one, arith, ne_eqb, lt-ltb, le-ltb, ltb, length, drop, get_or, drop_of_length-le, drop-cons}
use Rattle.number.specs.Choice.{pick}
use Rattle.number.specs.Reader.{Reading, number, refused, continued, read_groups, group_count}
use Rattle.number.specs.Writer.{number_bytes}
use Rattle.number.proofs.Choice.{pick_true, pick_false, pick_same, by_test_lem}

-- ---- a number that goes on

pub continued_zero : (low weight next : ℕ) → continued low weight (number 0 next) ≡ refused 18
unfolding continued pick
continued_zero low weight next = refl

pub continued_high : (low weight high next : ℕ) → 0 < high → continued low weight (number high next) ≡ number (low + high * weight) next
unfolding continued
continued_high low weight high next h = pick_false _ _ _ (ne_eqb high 0 (λ e. omega arith))

pub continued_twice : (low weight group : ℕ) (r : Reading) → continued low weight (continued group 128 r) ≡ continued (low + group * weight) (weight * 128) r
unfolding continued pick
continued_twice low weight group (number zero next) = refl
continued_twice low weight group (number (suc high) next) =
    ap (continued low weight) (continued_high group 128 (suc high) next (omega arith))
    ∙ continued_high low weight (group + suc high * 128) next (omega arith)
    ∙ ap (λ (value : ℕ). number value next) sums
    ∙ sym (continued_high (low + group * weight) (weight * 128) (suc high) next (omega arith))
  where
    sums : low + (group + suc high * 128) * weight ≡ low + group * weight + suc high * (weight * 128)
    sums =
        ap (λ (n : ℕ). low + n) (add-mul group (suc high * 128) weight)
        ∙ sym (add_assoc low (group * weight) (suc high * 128 * weight))
        ∙ ap (λ (n : ℕ). low + group * weight + n) (mul_assoc (suc high) 128 weight ∙ ap (λ (n : ℕ). suc high * n) (mul_comm 128 weight))
continued_twice low weight group (refused code) = refl

-- ---- the group at the front of a list

module _ (most bits place byte : ℕ) (bytes : List ℕ) where
  pub front_ends : byte < 128 → read_groups (suc most) bits place (byte ∷ bytes) ≡ pick (ltb byte (2 ^ bits)) (number byte (place + 1)) (refused 18)
  unfolding read_groups
  front_ends h = pick_true _ _ _ (lt-ltb byte 128 h)

  pub front_last : byte < 128 → byte < 2 ^ bits → read_groups (suc most) bits place (byte ∷ bytes) ≡ number byte (place + 1)
  front_last h k = front_ends h ∙ pick_true _ _ _ (lt-ltb byte (2 ^ bits) k)

  pub front_large : byte < 128 → 2 ^ bits ≤ byte → read_groups (suc most) bits place (byte ∷ bytes) ≡ refused 18
  front_large h k = front_ends h ∙ pick_false _ _ _ (le-ltb byte (2 ^ bits) k)

  pub front_more : 128 ≤ byte → read_groups (suc most) bits place (byte ∷ bytes) ≡ continued (byte % 128) 128 (read_groups most (bits - 7) (place + 1) bytes)
  unfolding read_groups
  front_more h = pick_false _ _ _ (le-ltb byte 128 h)

pub front_none : (most bits place : ℕ) → read_groups (suc most) bits place [] ≡ refused 17
unfolding read_groups
front_none most bits place = refl

-- no byte may follow this one, and it is too large or goes on
pub front_only : (bits place byte : ℕ) (bytes : List ℕ) → 2 ^ bits ≤ byte → read_groups 1 bits place (byte ∷ bytes) ≡ refused 18
unfolding read_groups continued
front_only bits place byte bytes h = pick_same _ _ _ _ (pick_false _ _ _ (le-ltb byte (2 ^ bits) h)) refl

module _ (most byte : ℕ) (bytes : List ℕ) where
  pub count_last : byte < 128 → group_count (suc most) (byte ∷ bytes) ≡ 1
  unfolding group_count
  count_last h = pick_true _ _ _ (lt-ltb byte 128 h)

  pub count_more : 128 ≤ byte → group_count (suc most) (byte ∷ bytes) ≡ suc (group_count most bytes)
  unfolding group_count
  count_more h = pick_false _ _ _ (le-ltb byte 128 h)

-- ---- the group at a place of the input

pub rest_at : (input : List ℕ) (place : ℕ) → place < length input → drop place input ≡ get_or input place 0 ∷ drop (place + 1) input
rest_at input place h = rw (add-one, drop-cons input place 0 h)

module _ (input : List ℕ) (most bits place : ℕ) where
  pub place_past : 0 < most → length input ≤ place → read_groups most bits place (drop place input) ≡ refused 17
  place_past h k = ap (read_groups most bits place) (drop_of_length-le input k) ∙ none most h
    where
      none : (m : ℕ) → 0 < m → read_groups m bits place [] ≡ refused 17
      none zero l = absurd (omega arith)
      none (suc m) l = front_none m bits place

  module _ (within : place < length input) where
    pub place_last : 0 < most → get_or input place 0 < 128 → get_or input place 0 < 2 ^ bits
        → read_groups most bits place (drop place input) ≡ number (get_or input place 0) (place + 1)
    place_last h k l = ap (read_groups most bits place) (rest_at input place within) ∙ last most h
      where
        last : (m : ℕ) → 0 < m → read_groups m bits place (get_or input place 0 ∷ drop (place + 1) input) ≡ number (get_or input place 0) (place + 1)
        last zero x = absurd (omega arith)
        last (suc m) x = front_last m bits place (get_or input place 0) (drop (place + 1) input) k l

    pub place_more : (fewer less : ℕ) → most ≡ suc fewer → bits - 7 ≡ less → 128 ≤ get_or input place 0
        → read_groups most bits place (drop place input) ≡ continued (get_or input place 0 % 128) 128 (read_groups fewer less (place + 1) (drop (place + 1) input))
    place_more fewer less e f h =
        ap (λ (m : ℕ). read_groups m bits place (drop place input)) e
        ∙ ap (read_groups (suc fewer) bits place) (rest_at input place within)
        ∙ front_more fewer bits place (get_or input place 0) (drop (place + 1) input) h
        ∙ ap (λ (b : ℕ). continued (get_or input place 0 % 128) 128 (read_groups fewer b (place + 1) (drop (place + 1) input))) f

-- ---- the bytes of a number

module _ (most value : ℕ) where
  pub bytes_last : value < 128 → number_bytes (suc most) value ≡ value ∷ []
  unfolding number_bytes
  bytes_last h = pick_true _ _ _ (lt-ltb value 128 h)

  pub bytes_more : 128 ≤ value → number_bytes (suc most) value ≡ (value % 128 + 128) ∷ number_bytes most (value / 128)
  unfolding number_bytes
  bytes_more h = pick_false _ _ _ (le-ltb value 128 h)

pub bytes_some : (most value : ℕ) → 0 < most → 0 < length (number_bytes most value)
unfolding number_bytes
bytes_some zero value h = absurd (omega arith)
bytes_some (suc most) value h = by_test_lem (λ (l : List ℕ). 0 < length l) (ltb value 128) (omega arith) (omega arith)

pub bytes_few : (most value : ℕ) → length (number_bytes most value) ≤ most
unfolding number_bytes
bytes_few zero value = omega arith
bytes_few (suc most) value =
    let few = bytes_few most (value / 128) in by_test_lem (λ (l : List ℕ). length l ≤ suc most) (ltb value 128) (omega arith) (omega arith)
