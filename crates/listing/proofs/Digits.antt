-- Laws of decimal digits, fields and lines.
-- Assumes nothing.
use Rattle.std.proofs.Common.{◌≡◌, ℕ, zero, suc, ◌+◌, ◌*◌, ◌/◌, ◌%◌, ◌^◌, ◌≤◌, ◌<◌, true, false, List, [], ◌∷◌, ◌++◌, ℤ, pos, negsuc, length, take, drop, get_or, refl, ap, sym, ◌∙◌, append_assoc, append-nil, length-append, length-drop, take-append-drop, add-one, arith, ⊎_elim, lt-ltb, le-ltb, ltb-true, nat_abs, length-take, length-take-le, drop-drop, zero-add, add-zero, suc-add}
use Rattle.std.specs.Int.Signed.{lt_z}
use Rattle.std.proofs.Math.ListN.{get_or-append}
use Rattle.std.specs.Simd.{first_chunks}
use Rattle.std.specs.Fmt.{decimal as std_decimal}
use Rattle.std.proofs.lemmas.Fmt.{AppendsLastDigit, decimal_from_appends, decimal_digit, decimal_step, length-decimal-le}
use Rattle.std.proofs.lemmas.List.{drop-append-le}
use Rattle.number.proofs.Reading.{below_or_not}
use Rattle.rules.proofs.Logic.{pick_true, pick_false}
use Rattle.listing.proofs.Puts.{puts_then}
use Rattle.listing.specs.Text.{Puts, digits_of, decimal, signed, sign, field, line_of, lines_of, refusal_line}

digits_append : AppendsLastDigit digits_of
unfolding digits_of
digits_append = record { one = λ k n h. pick_true _ _ _ (lt-ltb _ _ h); more = λ k n h. pick_false _ _ _ (le-ltb _ _ h) }

-- a number's digits are what std writes of it
decimal_is : (n : ℕ) → n < 2 ^ 64 → decimal n ≡ std_decimal n
unfolding decimal
decimal_is n h = decimal_from_appends digits_of digits_append 20 n h (length-decimal-le 20 n (omega arith) (omega arith) h)

pub decimal_last : (n : ℕ) → n < 10 → decimal n ≡ (48 + n) ∷ []
decimal_last n h = decimal_is n (omega arith) ∙ decimal_digit n h

pub decimal_more : (n : ℕ) → 10 ≤ n → n < 2 ^ 64 → decimal n ≡ decimal (n / 10) ++ ((48 + n % 10) ∷ [])
decimal_more n h k = decimal_is n k ∙ decimal_step n h k ∙ ap (λ (l : List ℕ). l ++ ((48 + n % 10) ∷ [])) (sym (decimal_is (n / 10) (omega arith)))

pub decimal_longer : (n : ℕ) → 10 ≤ n → n < 2 ^ 64 → length (decimal n) ≡ length (decimal (n / 10)) + 1
decimal_longer n h k = simp length-append at (ap length (decimal_more n h k))

digits_short : (most n : ℕ) → length (digits_of most n) ≤ most
unfolding digits_of
digits_short zero n = omega arith
digits_short (suc most) n =
    ⊎_elim
    (λ h. let e = ap length (digits_append.one most n h) in omega arith)
    (λ h. omega (arith, simp length-append at (ap length (digits_append.more most n h)), digits_short most (n / 10)))
    (below_or_not n 10)

pub decimal_short : (n : ℕ) → length (decimal n) ≤ 20
unfolding decimal
decimal_short n = digits_short 20 n

-- ---- fields

pub sign_some : (z : ℤ) → lt_z z (pos 0) ≡ true → 45 ∷ [] ≡ sign z
unfolding sign
sign_some (pos n) h = absurd (omega (arith, ltb-true n 0 h))
sign_some (negsuc n) h = refl

pub sign_none : (z : ℤ) → lt_z z (pos 0) ≡ false → [] ≡ sign z
unfolding sign
sign_none (pos n) h = refl
sign_none (negsuc n) h = cc

pub sign_short : (z : ℤ) → length (sign z) ≤ 1
unfolding sign
sign_short (pos n) = omega arith
sign_short (negsuc n) = omega arith

pub field_is : (z : ℤ) (after size : ℕ) → size ≡ nat_abs z → field z after ≡ sign z ++ decimal size ++ (after ∷ [])
unfolding field signed sign
field_is (pos n) after size e = rw e (ap (λ (l : List ℕ). l ++ (after ∷ [])) (pick_false _ _ _ (le-ltb n 0 (omega arith))))
field_is (negsuc n) after size e = rw e (ap (λ (l : List ℕ). l ++ (after ∷ [])) (pick_true _ _ _ refl))

pub field_short : (z : ℤ) (after : ℕ) → length (field z after) ≤ 22
field_short z after = rw (field_is z after (nat_abs z) refl) (simp length-append (omega (arith, sign_short z, decimal_short (nat_abs z))))

pub field_same : (y z : ℤ) (after : ℕ) {l m : List ℕ} {i j : ℕ} → Puts l i (field y after) m j → y ≡ z → Puts l i (field z after) m j
field_same y z after p e = rw e at p

-- ---- lines

pub line_short : (answers : List ℤ) → length (line_of answers) ≤ 132
unfolding line_of
line_short answers =
    let short = λ (n after : ℕ). field_short (get_or answers n (pos 0)) after in
    simp length-append (omega (arith, short 0 32, short 1 32, short 2 32, short 3 32, short 4 32, short 5 10))

lines_more : (n : ℕ) (answers : List ℤ) → lines_of (suc n) answers ≡ lines_of n answers ++ line_of (drop (n * 6) answers)
unfolding lines_of
lines_more zero answers = append-nil (line_of answers)
lines_more (suc n) answers =
    ap (λ (l : List ℕ). line_of answers ++ l) (lines_more n (drop 6 answers))
    ∙ sym (append_assoc (line_of answers) (lines_of n (drop 6 answers)) (line_of (drop (n * 6) (drop 6 answers))))
    ∙ ap (λ (l : List ℤ). line_of answers ++ lines_of n (drop 6 answers) ++ line_of l) (drop-drop (n * 6) 6 answers ∙ ap (λ (k : ℕ). drop k answers) (omega arith))

call_is : (k i : ℕ) (answers : List ℤ) → i < k → get_or (first_chunks 6 k answers) i [] ≡ take 6 (drop (i * 6) answers)
call_is zero i answers h = absurd (omega arith)
call_is (suc k) zero answers h = refl
call_is (suc k) (suc i) answers h = call_is k i (drop 6 answers) (omega arith) ∙ ap (take 6) (drop-drop (i * 6) 6 answers ∙ ap (λ (n : ℕ). drop n answers) (omega arith))

pub line_front : (xs ys : List ℤ) → 6 ≤ length xs → line_of (xs ++ ys) ≡ line_of xs
unfolding line_of
line_front xs ys h =
    let at : (k : ℕ) → k < 6 → get_or (xs ++ ys) k (pos 0) ≡ get_or xs k (pos 0) = λ k less. get_or-append xs ys (pos 0) k (omega arith) in
    rw (at 0 (omega arith), at 1 (omega arith), at 2 (omega arith), at 3 (omega arith), at 4 (omega arith), at 5 (omega arith))

line_taken : (xs : List ℤ) → 6 ≤ length xs → line_of (take 6 xs) ≡ line_of xs
line_taken xs h = sym (line_front (take 6 xs) (drop 6 xs) (omega (arith, length-take 6 xs))) ∙ ap line_of (take-append-drop 6 xs)

pub lines_short : (n : ℕ) (answers : List ℤ) → length (lines_of n answers) ≤ n * 132
unfolding lines_of
lines_short zero answers = omega arith
lines_short (suc n) answers = simp length-append (omega (arith, line_short answers, lines_short n (drop 6 answers)))

pub line_next : {l m more : List ℕ} {at end : ℕ} {calls : List (List ℤ)} (answers : List ℤ) (n : ℕ)
    → calls ≡ first_chunks 6 (length answers / 6) answers → n < length answers / 6
    → Puts l 0 (lines_of n answers) m at → Puts m at (line_of (get_or calls n [])) more end → Puts l 0 (lines_of (n + 1) answers) more end
line_next answers n e less p q =
    let line =
    ap (λ calls. line_of (get_or calls n [])) e
    ∙ ap line_of (call_is (length answers / 6) n answers less)
    ∙ line_taken (drop (n * 6) answers) (omega (arith, length-drop (n * 6) answers))
    in
    rw (add-one n, lines_more n answers, ← line) (puts_then p q)

pub lines_append : (a b : ℕ) (xs ys : List ℤ) → length xs ≡ a * 6 → lines_of (a + b) (xs ++ ys) ≡ lines_of a xs ++ lines_of b ys
unfolding lines_of
lines_append zero b [] ys h = ap (λ (k : ℕ). lines_of k ys) (zero-add b)
lines_append zero b (x ∷ xs) ys h = absurd (omega arith)
lines_append (suc a) b xs ys h =
    ap (λ (k : ℕ). lines_of k (xs ++ ys)) (suc-add a b)
    ∙ ap (λ (l : List ℕ). l ++ lines_of (a + b) (drop 6 (xs ++ ys))) (line_front xs ys (omega arith))
    ∙ ap (λ (l : List ℤ). line_of xs ++ lines_of (a + b) l) (drop-append-le 6 xs ys (omega arith))
    ∙ ap (λ (l : List ℕ). line_of xs ++ l) (lines_append a b (drop 6 xs) ys (omega (arith, length-drop 6 xs)))
    ∙ sym (append_assoc (line_of xs) (lines_of a (drop 6 xs)) (lines_of b ys))

-- what stands past the answers does not matter
pub lines_front : (a : ℕ) (xs ys : List ℤ) → length xs ≡ a * 6 → lines_of a (xs ++ ys) ≡ lines_of a xs
unfolding lines_of
lines_front a xs ys h =
    ap (λ (k : ℕ). lines_of k (xs ++ ys)) (sym (add-zero a)) ∙ lines_append a 0 xs ys h ∙ append-nil (lines_of a xs)

pub lines_taken : (n : ℕ) (answers : List ℤ) → n * 6 ≤ length answers → lines_of (length (take (n * 6) answers) / 6) (take (n * 6) answers) ≡ lines_of n answers
lines_taken n answers h =
    let long = length-take-le (n * 6) answers h in
    ap (λ (k : ℕ). lines_of k (take (n * 6) answers)) (omega arith)
    ∙ sym (lines_front n (take (n * 6) answers) (drop (n * 6) answers) long)
    ∙ ap (lines_of n) (take-append-drop (n * 6) answers)

-- ---- a refusal's line

pub refusal_none : (code : ℤ) → code ≡ pos 0 → [] ≡ refusal_line code
unfolding refusal_line
refusal_none code e = ap refusal_line (sym e)

pub refusal_some : (code : ℤ) → (code ≡ pos 0 → ⊥) → field code 10 ≡ refusal_line code
unfolding refusal_line
refusal_some (pos zero) h = absurd (h refl)
refusal_some (pos (suc n)) h = refl
refusal_some (negsuc n) h = refl

pub refusal_short : (code : ℤ) → length (refusal_line code) ≤ 22
unfolding refusal_line
refusal_short (pos zero) = omega arith
refusal_short (pos (suc n)) = field_short (pos (suc n)) 10
refusal_short (negsuc n) = field_short (negsuc n) 10
