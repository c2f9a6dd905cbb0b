-- Laws of a set of services: how many a set has, and the bit of one.
-- Assumes nothing.
use Rattle.std.proofs.Common.{ℕ, zero, suc, ◌+◌, ◌-◌, ◌*◌, ◌/◌, ◌%◌, ◌^◌, ◌≤◌, ◌<◌, ◌≡◌, refl, ap, ap₂, sym, ◌∙◌, Bool}
use Rattle.std.proofs.Common.{true, false, mod-lt, mod-eq_of_lt, zero-lt-suc, one-mul, suc-mul, mul-le-mul_right}
use Rattle.std.proofs.Common.{arith, le-leb, eqb-true, eqb, lit<, pow-add, pow_pos, shl_exact, shr_lt, rules}
use Rattle.std.proofs.Math.Nat.{mod-one}
use Rattle.std.proofs.lemmas.Bool.{eqb-false}
use lib.Count.{ones}
use Rattle.std.proofs.lemmas.Nat.{ones_cat, mod-pow-add}
use Rattle.std.proofs.Math.Pow.{split}
use Rattle.rules.specs.Services.{bit_of, in_set, count_to, offered}

-- ---- the ones of a set are as many as the services in it
bit_ones : (b : ℕ) → b < 2 → ones b ≡ b
unfolding ones
bit_ones zero h = refl
bit_ones (suc zero) h = refl
bit_ones (suc (suc b)) h = absurd (omega arith)

no_ones : ones zero ≡ zero
unfolding ones
no_ones = refl

ones_count : (n s : ℕ) → ones (s % 2 ^ n) ≡ count_to n s
unfolding count_to
ones_count zero s = ap ones (mod-one s) ∙ no_ones
ones_count (suc n) s =
    let b : ℕ = s / 2 ^ n % 2 in
    let e : suc n ≡ 1 + n = omega arith in
    let f : n + 1 - 1 ≡ n = omega arith in
    ap (λ (k : ℕ). ones (s % 2 ^ k)) e
    ∙ ap ones (mod-pow-add s 1 n)
    ∙ ones_cat n b (s % 2 ^ n) (mod-lt s (pow_pos n))
    ∙ ap₂ (λ (x y : ℕ). x + y) (bit_ones b (mod-lt (s / 2 ^ n) (zero-lt-suc 1)) ∙ ap (λ (k : ℕ). s / 2 ^ k % 2) (sym f)) (ones_count n s)

pub ones_offered : (s : ℕ) → s < 2 ^ 64 → ones s ≡ offered s
unfolding offered
ones_offered s h = ap ones (sym (mod-eq_of_lt h)) ∙ ones_count 64 s

-- ---- the bit b of a number
module _ (s b : ℕ) where
  -- where it is not there, it can be added
  bit_fits : b < 64 → s < 2 ^ 64 → s / 2 ^ b % 2 ≡ 0 → s + 2 ^ b < 2 ^ 64
  bit_fits l h z =
      let q : ℕ = s / 2 ^ (1 + b) in
      let w : 63 - b + (1 + b) ≡ 64 = omega arith in
      let low : s % 2 ^ (1 + b) ≡ 0 * 2 ^ b + s % 2 ^ b = mod-pow-add s 1 b ∙ ap (λ (x : ℕ). x * 2 ^ b + s % 2 ^ b) z in
      let few : q < 2 ^ (63 - b) = shr_lt (63 - b) (1 + b) (rw w h) in
      let room : suc q * 2 ^ (1 + b) ≤ 2 ^ (63 - b) * 2 ^ (1 + b) = mul-le-mul_right (2 ^ (1 + b)) few in
      let all : 2 ^ 64 ≡ 2 ^ (63 - b) * 2 ^ (1 + b) = ap (λ (k : ℕ). 2 ^ k) (sym w) ∙ pow-add 2 (63 - b) (1 + b) in
      omega (arith, split s (1 + b), mod-lt s (pow_pos b), suc-mul q (2 ^ (1 + b)), pow-add 2 1 b)

  -- where it is there, it can be taken away
  bit_there : s / 2 ^ b % 2 ≡ 1 → 2 ^ b ≤ s
  bit_there z = search rules

-- the bit of service a, as the code makes it
pub shifted : (a : ℕ) → 1 ≤ a → a ≤ 64 → 1 * 2 ^ (a - 1) % 18446744073709551616 ≡ 2 ^ (a - 1)
shifted a l h = shl_exact 1 (a - 1) 64 (lit< tt) (omega arith) ∙ one-mul (2 ^ (a - 1))

-- ---- a service joins a set and leaves it
module _ (s a : ℕ) (l : 1 ≤ a) (h : a ≤ 64) where
  its_bit : (b : Bool) → in_set s a ≡ b → eqb (bit_of s a) 1 ≡ b
  unfolding in_set
  its_bit b e = sym (rw (le-leb 1 a l, le-leb a 64 h)) ∙ e

  pub joins : s < 2 ^ 64 → in_set s a ≡ false → s + 2 ^ (a - 1) < 2 ^ 64
  joins k e =
      let n : bit_of s a ≡ 1 → ⊥ = eqb-false (bit_of s a) 1 (its_bit false e) in
      let z : bit_of s a ≡ 0 = omega (arith, mod-lt (s / 2 ^ (a - 1)) (zero-lt-suc 1)) in
      bit_fits s (a - 1) (omega arith) k z

  pub leaves : in_set s a ≡ true → 2 ^ (a - 1) ≤ s
  leaves e = bit_there s (a - 1) (eqb-true (bit_of s a) 1 (its_bit true e))
