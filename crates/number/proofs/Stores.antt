-- What holds before each turn of the writer's loop over the groups, for any most bytes; what writing any bytes answers and leaves; a number's groups.
-- Assumes nothing.
use Rattle.std.proofs.Common.{ℕ, zero, suc, ◌+◌, ◌-◌, ◌*◌, ◌^◌, ◌≤◌, ◌<◌, ◌/◌, ◌%◌, ◌≡◌, ap, sym, ◌∙◌, subst, ⊎_elim, List, [], ◌∷◌, ◌++◌, append_assoc, add-one, arith, shr_lt, length, take, drop, set, length-set, le-leb, drop_at, take_at, length-take-le}
use Rattle.std.proofs.lemmas.Bool.{lt-leb}
use Rattle.std.proofs.lemmas.List.Edits.{sets, sets-eq}
use Rattle.number.specs.Writer.{written, unwritten, number_bytes, fits, write_answer, write_buffer}
use Rattle.number.proofs.Choice.{pick_true, pick_false}
use Rattle.number.proofs.Groups.{bytes_last, bytes_more}
use Rattle.number.proofs.Reading.{below_or_not}

-- The bytes of `rest`, stored from `at` on, make the list `after` and end at `next`; at most `left` of them come, and the buffer has `long` bytes.
pub record Store (next long : ℕ) (after buffer : List ℕ) (rest at left : ℕ) : Type 0 where
  pub some : 0 < left
  pub small : rest < 2 ^ (7 * left)
  pub ends : at + length (number_bytes left rest) ≡ next
  pub makes : sets buffer at (number_bytes left rest) ≡ after
  pub as_long : length buffer ≡ long
  pub room : next ≤ long

module _ {next long : ℕ} {after buffer : List ℕ} {rest at left : ℕ} (s : Store next long after buffer rest at left) where
  module _ (fewer : ℕ) (h : 128 ≤ rest) (e : left ≡ suc fewer) where
    first : number_bytes left rest ≡ (rest % 128 + 128) ∷ number_bytes fewer (rest / 128)
    first = ap (λ (m : ℕ). number_bytes m rest) e ∙ bytes_more fewer rest h

    more : 0 < fewer
    more = go fewer e
      where
        go : (m : ℕ) → left ≡ suc m → 0 < m
        go zero f = absurd (omega (arith, subst (λ (m : ℕ). rest < 2 ^ (7 * m)) f s.small))
        go (suc m) f = omega arith

    pub goes_on : Store next long after (set buffer at (rest % 128 + 128)) (rest / 128) (at + 1) fewer
    goes_on =
        record {
          some = more;
          small = shr_lt (7 * fewer) 7 (subst (λ (n : ℕ). rest < 2 ^ n) (omega arith) s.small);
          ends = let f : length (number_bytes left rest) ≡ suc (length (number_bytes fewer (rest / 128))) = ap length first in omega (arith, s.ends);
          makes =
              ap (λ (k : ℕ). sets (set buffer at (rest % 128 + 128)) k (number_bytes fewer (rest / 128))) (add-one at)
              ∙ ap (sets buffer at) (sym first)
              ∙ s.makes;
          as_long = rw length-set s.as_long;
          room = s.room;
        }

-- ---- what the writer answers and leaves, where there is room and where there is not

module _ (buffer : List ℕ) (place : ℕ) (bytes : List ℕ) where
  module _ (h : place + length bytes ≤ length buffer) where
    pub fit_answer : written (place + length bytes) ≡ write_answer buffer place bytes
    unfolding write_answer fits
    fit_answer = sym (pick_true _ _ _ (le-leb _ _ h))

    pub fit_list : take place buffer ++ bytes ++ drop (place + length bytes) buffer ≡ write_buffer buffer place bytes
    unfolding write_buffer fits
    fit_list = sym (pick_true _ _ _ (le-leb _ _ h))

    pub fit_buffer : sets buffer place bytes ≡ write_buffer buffer place bytes
    fit_buffer = sets-eq bytes buffer place h ∙ fit_list

  module _ (h : length buffer < place + length bytes) where
    pub unfit_answer : unwritten 16 ≡ write_answer buffer place bytes
    unfolding write_answer fits
    unfit_answer = sym (pick_false _ _ _ (lt-leb _ _ h))

    pub unfit_buffer : buffer ≡ write_buffer buffer place bytes
    unfolding write_buffer fits
    unfit_buffer = sym (pick_false _ _ _ (lt-leb _ _ h))

  module _ (next : ℕ) (e : write_answer buffer place bytes ≡ written next) where
    pub answer_fits : place + length bytes ≤ length buffer
    answer_fits =
        ⊎_elim
        (λ h. let u = unfit_answer h in let z : ◌≡◌ {A = ℕ} 0 1 = cc in absurd (omega arith))
        (λ h. h)
        (below_or_not (length buffer) (place + length bytes))

    pub written_next : next ≡ place + length bytes
    written_next = let f = fit_answer answer_fits in cc

    -- the bytes stand in the buffer between the two places
    pub written_part : take (next - place) (drop place (write_buffer buffer place bytes)) ≡ bytes
    written_part =
        let after : List ℕ = drop (place + length bytes) buffer in
        let n = written_next in
        let long : next - place ≡ length bytes = omega arith in
        let room = answer_fits in
        ap (λ (l : List ℕ). take (next - place) (drop place l)) (sym (fit_list answer_fits) ∙ append_assoc (take place buffer) bytes after)
        ∙ ap (take (next - place)) (drop_at (take place buffer) (bytes ++ after) place (length-take-le place buffer (omega arith)))
        ∙ take_at bytes after (next - place) (sym long)

-- ---- a number stored group by group

-- the last group
module _ (most value : ℕ) (some : 0 < most) (h : value < 128) where
  bytes_one : number_bytes most value ≡ value ∷ []
  bytes_one = go most some
    where
      go : (m : ℕ) → 0 < m → number_bytes m value ≡ value ∷ []
      go zero k = absurd (omega arith)
      go (suc m) k = bytes_last m value h

  pub one_long : length (number_bytes most value) ≡ 1
  one_long = ap length bytes_one

  pub one_set : (buffer : List ℕ) (at : ℕ) → sets buffer at (number_bytes most value) ≡ set buffer at value
  one_set buffer at = ap (sets buffer at) bytes_one

-- a first group, and what is left
pub one_byte_more : (value : ℕ) → 128 ≤ value → length (number_bytes 5 value) ≡ suc (length (number_bytes 4 (value / 128)))
one_byte_more value h = ap length (bytes_more 4 value h)

module _ (buffer : List ℕ) (place value : ℕ) where
  pub one_stored : value < 128 → place < length buffer → set buffer place value ≡ write_buffer buffer place (number_bytes 5 value)
  one_stored h k =
      sym (one_set 5 value (omega arith) h buffer place)
      ∙ fit_buffer buffer place (number_bytes 5 value) (omega (arith, one_long 5 value (omega arith) h))

  module _ (h : 128 ≤ value) (k : place + length (number_bytes 5 value) ≤ length buffer) where
    pub rest_fits : place + 1 + length (number_bytes 4 (value / 128)) ≤ length (set buffer place (value % 128 + 128))
    rest_fits = rw length-set (omega (arith, one_byte_more value h))

    pub more_stored : sets (set buffer place (value % 128 + 128)) (place + 1) (number_bytes 4 (value / 128)) ≡ write_buffer buffer place (number_bytes 5 value)
    more_stored =
        ap (λ (at : ℕ). sets (set buffer place (value % 128 + 128)) at (number_bytes 4 (value / 128))) (add-one place)
        ∙ ap (sets buffer place) (sym (bytes_more 4 value h))
        ∙ fit_buffer buffer place (number_bytes 5 value) k
