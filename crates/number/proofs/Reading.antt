-- Laws of reading, for any most bytes and most bits: the three answers, the bounds of a number, and that only its own bytes count.
-- Assumes nothing.
use Rattle.std.proofs.Common.{ℕ, zero, suc, ◌+◌, ◌-◌, ◌*◌, ◌%◌, ◌^◌, ◌≤◌, ◌<◌, ◌≡◌, refl, ap, sym, ◌∙◌, subst, ◌⊎◌, inl, inr, ⊎_elim, Bool, true, false, List, [], ◌∷◌, ◌++◌, arith, ltb-true, ltb-false, ltb, pow-add, length, take, drop, length-drop, drop-drop}
use Rattle.std.proofs.Math.Arith.{digits_lt}
use Rattle.std.proofs.lemmas.List.{take-append-le, drop-append-le}
use Rattle.number.specs.Choice.{pick}
use Rattle.number.specs.Reader.{Reading, number, refused, continued, read_groups, read_number, group_count, number_end}
use Rattle.number.proofs.Choice.{by_test_lem}
use Rattle.number.proofs.Groups.{continued_zero, continued_high, front_last, front_large, front_more, count_last, count_more, front_ends}

pub below_or_not : (m n : ℕ) → (m < n) ⊎ (n ≤ m)
below_or_not m n = go (ltb m n) refl
  where
    go : (b : Bool) → ltb m n ≡ b → (m < n) ⊎ (n ≤ m)
    go true e = inl (ltb-true m n e)
    go false e = inr (ltb-false m n e)

shifted_below : (bits low high : ℕ) → low < 128 → 0 < high → high < 2 ^ (bits - 7) → low + high * 128 < 2 ^ bits
shifted_below bits low high l some h = ⊎_elim few many (below_or_not bits 7)
  where
    few : bits < 7 → low + high * 128 < 2 ^ bits
    few k = absurd (omega (arith, subst (λ (n : ℕ). high < 2 ^ n) (none k) h))
      where
        none : bits < 7 → bits - 7 ≡ 0
        none k = omega arith

    many : 7 ≤ bits → low + high * 128 < 2 ^ bits
    many k =
        let e : 2 ^ bits ≡ 2 ^ (bits - 7) * 128 = ap (λ (n : ℕ). 2 ^ n) (whole k) ∙ pow-add 2 (bits - 7) 7 in
        let d : high * 128 + low < 2 ^ (bits - 7) * 128 = digits_lt h l in
        omega arith
      where
        whole : 7 ≤ bits → bits ≡ bits - 7 + 7
        whole k = omega arith

-- ---- at the front of a list

-- What reading the groups at the front can tell.
pub data ReadAs (most bits place : ℕ) (bytes : List ℕ) : Reading → Type 0 where
  accepted : (value next : ℕ) → value < 2 ^ bits → next ≡ place + group_count most bytes → 0 < group_count most bytes
      → group_count most bytes ≤ length bytes → ReadAs most bits place bytes (number value next)
  cut : length bytes ≤ group_count most bytes → ReadAs most bits place bytes (refused 17)
  malformed : ReadAs most bits place bytes (refused 18)

module _ (most bits place byte : ℕ) (bytes : List ℕ) where
  read_as_last : byte < 128 → ReadAs (suc most) bits place (byte ∷ bytes) (read_groups (suc most) bits place (byte ∷ bytes))
  read_as_last h =
      let one = count_last most byte bytes h in
      ⊎_elim
      (λ k. rw (front_last most bits place byte bytes h k) (accepted byte (place + 1) k (omega arith) (omega arith) (omega arith)))
      (λ k. rw (front_large most bits place byte bytes h k) malformed)
      (below_or_not byte (2 ^ bits))

  read_as_more : 128 ≤ byte → (r : Reading) → ReadAs most (bits - 7) (place + 1) bytes r → ReadAs (suc most) bits place (byte ∷ bytes) (continued (byte % 128) 128 r)
  unfolding continued
  read_as_more h r (accepted zero next small end some few) = rw continued_zero malformed
  read_as_more h r (accepted (suc high) next small end some few) =
      let more = count_more most byte bytes h in
      rw (continued_high (byte % 128) 128 (suc high) next (omega arith)) (accepted _ next below (omega arith) (omega arith) (omega arith))
    where
      below : byte % 128 + suc high * 128 < 2 ^ bits
      below = shifted_below bits (byte % 128) (suc high) (omega arith) (omega arith) small
  read_as_more h r (cut whole) = cut (omega (arith, count_more most byte bytes h))
  read_as_more h r malformed = malformed

pub read_as_front : (most bits place : ℕ) (bytes : List ℕ) → ReadAs most bits place bytes (read_groups most bits place bytes)
unfolding read_groups
read_as_front zero bits place bytes = malformed
read_as_front (suc most) bits place [] = cut (omega arith)
read_as_front (suc most) bits place (byte ∷ bytes) =
    ⊎_elim (read_as_last most bits place byte bytes)
    (λ h. rw (front_more most bits place byte bytes h) (read_as_more most bits place byte bytes h _ (read_as_front most (bits - 7) (place + 1) bytes)))
    (below_or_not byte 128)

module _ (most bits place byte : ℕ) (bytes : List ℕ) where
  alike_last : byte < 128 → (others : List ℕ) → take 1 others ≡ byte ∷ []
      → read_groups (suc most) bits place others ≡ read_groups (suc most) bits place (byte ∷ bytes)
  alike_last h [] e = let z : ◌≡◌ {A = ℕ} 0 1 = cc in absurd (omega arith)
  alike_last h (other ∷ others) e =
      let same : other ≡ byte = cc in
      ap (λ (b : ℕ). read_groups (suc most) bits place (b ∷ others)) same
      ∙ front_ends most bits place byte others h
      ∙ sym (front_ends most bits place byte bytes h)

  alike_more : 128 ≤ byte → (count : ℕ)
      → ((rest : List ℕ) → take count rest ≡ take count bytes → read_groups most (bits - 7) (place + 1) rest ≡ read_groups most (bits - 7) (place + 1) bytes)
      → (others : List ℕ) → take (suc count) others ≡ byte ∷ take count bytes
      → read_groups (suc most) bits place others ≡ read_groups (suc most) bits place (byte ∷ bytes)
  alike_more h count rest-alike [] e = let z : ◌≡◌ {A = ℕ} 0 1 = cc in absurd (omega arith)
  alike_more h count rest-alike (other ∷ others) e =
      let same : other ≡ byte = cc in
      let agree : take count others ≡ take count bytes = cc in
      ap (λ (b : ℕ). read_groups (suc most) bits place (b ∷ others)) same
      ∙ front_more most bits place byte others h
      ∙ ap (continued (byte % 128) 128) (rest-alike others agree)
      ∙ sym (front_more most bits place byte bytes h)

-- Bytes that agree with these up to the number's end are read alike, unless these are cut short.
pub front_alike : (most bits place : ℕ) (bytes others : List ℕ) → (read_groups most bits place bytes ≡ refused 17 → ⊥)
    → take (group_count most bytes) others ≡ take (group_count most bytes) bytes
    → read_groups most bits place others ≡ read_groups most bits place bytes
unfolding read_groups continued
front_alike zero bits place bytes others whole e = refl
front_alike (suc most) bits place [] others whole e = absurd (whole refl)
front_alike (suc most) bits place (byte ∷ bytes) others whole e =
    ⊎_elim
    (λ h. alike_last most bits place byte bytes h others (subst (λ (k : ℕ). take k others ≡ take k (byte ∷ bytes)) (count_last most byte bytes h) e))
    (λ h.
    alike_more most bits place byte bytes h (group_count most bytes)
    (λ rest agree.
    let cut : read_groups most (bits - 7) (place + 1) bytes ≡ refused 17 → ⊥ =
    λ c. whole (front_more most bits place byte bytes h ∙ ap (continued (byte % 128) 128) c)
    in
    front_alike most (bits - 7) (place + 1) bytes rest cut agree)
    others (subst (λ (k : ℕ). take k others ≡ take k (byte ∷ bytes)) (count_more most byte bytes h) e))
    (below_or_not byte 128)

-- no more groups than bytes, and than may come
groups_few : (most : ℕ) (bytes : List ℕ) → (group_count most bytes ≤ length bytes) × (group_count most bytes ≤ most)
unfolding group_count
groups_few zero bytes = (omega arith, omega arith)
groups_few (suc most) [] = (omega arith, omega arith)
groups_few (suc most) (byte ∷ bytes) =
    let few = groups_few most bytes in
    by_test_lem (λ (n : ℕ). (n ≤ suc (length bytes)) × (n ≤ suc most)) (ltb byte 128) (omega arith, omega arith) (omega (arith, few.0), omega (arith, few.1))

-- ---- at a place of the input

module _ (most bits : ℕ) (input : List ℕ) (place : ℕ) where
  -- one of the three answers always comes
  pub one_of_three :
      ((value : ℕ) × (next : ℕ) × (read_number most bits input place ≡ number value next))
      ⊎ ((read_number most bits input place ≡ refused 17) ⊎ (read_number most bits input place ≡ refused 18))
  unfolding read_number
  one_of_three = go _ refl (read_as_front most bits place (drop place input))
    where
      go : (r : Reading) → read_number most bits input place ≡ r → ReadAs most bits place (drop place input) r
          → ((value : ℕ) × (next : ℕ) × (read_number most bits input place ≡ number value next))
          ⊎ ((read_number most bits input place ≡ refused 17) ⊎ (read_number most bits input place ≡ refused 18))
      go r e (accepted value next small end some few) = inl (value, next, e)
      go r e (cut whole) = inr (inl e)
      go r e malformed = inr (inr e)

  -- a number that is cut short goes on to the input's end
  pub cut_reaches_end : read_number most bits input place ≡ refused 17 → length input ≤ number_end most input place
  unfolding read_number number_end
  cut_reaches_end e = go (subst (ReadAs most bits place (drop place input)) e (read_as_front most bits place (drop place input)))
    where
      go : ReadAs most bits place (drop place input) (refused 17) → length input ≤ place + group_count most (drop place input)
      go (cut whole) = omega (arith, length-drop place input)

  -- and then the input has no more bytes from the place on than a number may have
  pub cut_near_end : read_number most bits input place ≡ refused 17 → length input ≤ place + most
  unfolding number_end
  cut_near_end e = omega (arith, cut_reaches_end e, (groups_few most (drop place input)).1)

  module _ (value next : ℕ) (e : read_number most bits input place ≡ number value next) where
    read_number_lem : ReadAs most bits place (drop place input) (number value next)
    unfolding read_number
    read_number_lem = subst (ReadAs most bits place (drop place input)) e (read_as_front most bits place (drop place input))

    -- the value fits
    pub number_below : value < 2 ^ bits
    number_below = go read_number_lem
      where
        go : ReadAs most bits place (drop place input) (number value next) → value < 2 ^ bits
        go (accepted v n small end some few) = small

    pub number_end_lem : next ≡ number_end most input place
    unfolding number_end
    number_end_lem = go read_number_lem
      where
        go : ReadAs most bits place (drop place input) (number value next) → next ≡ place + group_count most (drop place input)
        go (accepted v n small end some few) = end

    -- the next place is past this one
    pub number_after : place < next
    number_after = go read_number_lem
      where
        go : ReadAs most bits place (drop place input) (number value next) → place < next
        go (accepted v n small end some few) = omega arith

    -- at most by the most bytes
    pub number_near : next ≤ place + most
    unfolding number_end
    number_near = omega (arith, number_end_lem, (groups_few most (drop place input)).1)

    -- and not past the input's end
    pub number_within : next ≤ length input
    number_within = go read_number_lem
      where
        go : ReadAs most bits place (drop place input) (number value next) → next ≤ length input
        go (accepted v n small end some few) = omega (arith, length-drop place input)

-- What follows does not matter, unless the number is cut short.
pub answer_extends : (most bits : ℕ) (input more : List ℕ) (place : ℕ) → place ≤ length input → (read_number most bits input place ≡ refused 17 → ⊥)
    → read_number most bits (input ++ more) place ≡ read_number most bits input place
unfolding read_number
answer_extends most bits input more place h whole =
    ap (read_groups most bits place) (drop-append-le place input more h)
    ∙ front_alike most bits place (drop place input) (drop place input ++ more) whole
    (take-append-le (group_count most (drop place input)) (drop place input) more (groups_few most (drop place input)).0)

-- ---- the same bytes at another place

-- an answer with the place after the number so much further on
unfoldable pub shifted : ℕ → Reading → Reading
shifted by (number value next) = number value (by + next)
shifted by (refused code) = refused code

continued_shifts : (by low weight : ℕ) (r : Reading) → continued low weight (shifted by r) ≡ shifted by (continued low weight r)
unfolding continued shifted pick
continued_shifts by low weight (number zero next) = refl
continued_shifts by low weight (number (suc high) next) =
    continued_high low weight (suc high) (by + next) (omega arith)
    ∙ ap (shifted by) (sym (continued_high low weight (suc high) next (omega arith)))
continued_shifts by low weight (refused code) = refl

module _ (by most bits place byte : ℕ) (bytes : List ℕ) where
  next_place : by + place + 1 ≡ by + (place + 1)
  next_place = omega arith

  last_shifts : byte < 128 → read_groups (suc most) bits (by + place) (byte ∷ bytes) ≡ shifted by (read_groups (suc most) bits place (byte ∷ bytes))
  unfolding shifted
  last_shifts h =
      ⊎_elim
      (λ k.
      front_last most bits (by + place) byte bytes h k
      ∙ ap (number byte) next_place
      ∙ ap (shifted by) (sym (front_last most bits place byte bytes h k)))
      (λ k. front_large most bits (by + place) byte bytes h k ∙ ap (shifted by) (sym (front_large most bits place byte bytes h k)))
      (below_or_not byte (2 ^ bits))

  more_shifts : 128 ≤ byte → read_groups most (bits - 7) (by + (place + 1)) bytes ≡ shifted by (read_groups most (bits - 7) (place + 1) bytes)
      → read_groups (suc most) bits (by + place) (byte ∷ bytes) ≡ shifted by (read_groups (suc most) bits place (byte ∷ bytes))
  more_shifts h e =
      front_more most bits (by + place) byte bytes h
      ∙ ap (λ (p : ℕ). continued (byte % 128) 128 (read_groups most (bits - 7) p bytes)) next_place
      ∙ ap (continued (byte % 128) 128) e
      ∙ continued_shifts by (byte % 128) 128 (read_groups most (bits - 7) (place + 1) bytes)
      ∙ ap (shifted by) (sym (front_more most bits place byte bytes h))

groups_shift : (by most bits place : ℕ) (bytes : List ℕ) → read_groups most bits (by + place) bytes ≡ shifted by (read_groups most bits place bytes)
unfolding read_groups shifted
groups_shift by zero bits place bytes = refl
groups_shift by (suc most) bits place [] = refl
groups_shift by (suc most) bits place (byte ∷ bytes) =
    ⊎_elim (last_shifts by most bits place byte bytes)
    (λ h. more_shifts by most bits place byte bytes h (groups_shift by most (bits - 7) (place + 1) bytes))
    (below_or_not byte 128)

-- what stands at a place is what stands there once some bytes in front of it are left out
pub number_shifts : (most bits : ℕ) (input : List ℕ) (by place : ℕ)
    → read_number most bits input (by + place) ≡ shifted by (read_number most bits (drop by input) place)
unfolding read_number
number_shifts most bits input by place =
    ap (read_groups most bits (by + place)) (sym (drop-drop place by input)) ∙ groups_shift by most bits place (drop place (drop by input))
