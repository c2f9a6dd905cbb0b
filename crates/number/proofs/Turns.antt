-- What holds before each turn of the reader's loop over the groups, for any most bytes and most bits.
-- Assumes nothing.
use Rattle.std.proofs.Common.{ℕ, ◌+◌, ◌-◌, ◌*◌, ◌^◌, ◌%◌, ◌≤◌, ◌<◌, ◌≡◌, ap, sym, ◌∙◌, List, add_comm, arith, pow-add, pow_mono, length, drop, get_or}
use Rattle.std.proofs.Math.Arith.{digits_lt}
use Rattle.number.specs.Reader.{Reading, number, refused, continued, read_groups}
use Rattle.number.proofs.Groups.{continued_zero, continued_high, continued_twice, front_only, rest_at, place_past, place_last, place_more}

-- The groups read so far, each of which went on, make `value`; the next one stands at `at`.
pub record Turn (most bits : ℕ) (told : Reading) (input : List ℕ) (value at groups : ℕ) : Type 0 where
  pub few : groups < most
  pub below : value < 2 ^ (7 * groups)
  pub tells : told ≡ continued value (2 ^ (7 * groups)) (read_groups (most - groups) (bits - 7 * groups) at (drop at input))

module _ {most bits : ℕ} {told : Reading} {input : List ℕ} {value at groups : ℕ} (t : Turn most bits told input value at groups) where
  weighs_next : 2 ^ (7 * groups) * 128 ≡ 2 ^ (7 * (groups + 1))
  weighs_next = sym (pow-add 2 (7 * groups) 7) ∙ ap (λ (k : ℕ). 2 ^ k) (omega arith)

  sum_below : (group limit : ℕ) → group < limit → value + group * 2 ^ (7 * groups) < limit * 2 ^ (7 * groups)
  sum_below group limit h = rw (add_comm value (group * 2 ^ (7 * groups))) (digits_lt h t.below)

  pub cut_short : length input ≤ at → refused 17 ≡ told
  unfolding continued
  cut_short h =
      sym
      (t.tells
      ∙ ap (continued value (2 ^ (7 * groups))) (place_past input (most - groups) (bits - 7 * groups) at (omega (arith, t.few)) h))

  module _ (within : at < length input) where
    ended : get_or input at 0 < 128 → get_or input at 0 < 2 ^ (bits - 7 * groups)
        → told ≡ continued value (2 ^ (7 * groups)) (number (get_or input at 0) (at + 1))
    ended h k =
        t.tells
        ∙ ap (continued value (2 ^ (7 * groups)))
        (place_last input (most - groups) (bits - 7 * groups) at within (omega (arith, t.few)) h k)

    pub superfluous : get_or input at 0 ≡ 0 → refused 18 ≡ told
    superfluous e =
        let k : 2 ^ 0 ≤ 2 ^ (bits - 7 * groups) = pow_mono {i = 0} {j = bits - 7 * groups} (omega arith) in
        sym
        (ended (omega arith) (omega arith)
        ∙ ap (λ (high : ℕ). continued value (2 ^ (7 * groups)) (number high (at + 1))) e
        ∙ continued_zero value (2 ^ (7 * groups)) (at + 1))

    pub last : get_or input at 0 < 128 → get_or input at 0 < 2 ^ (bits - 7 * groups) → 0 < get_or input at 0
        → number (value + get_or input at 0 * 2 ^ (7 * groups)) (at + 1) ≡ told
    last h k l = sym (ended h k ∙ continued_high value (2 ^ (7 * groups)) (get_or input at 0) (at + 1) l)

    -- a group that does not go on, before the last that may come, is small enough
    pub last_early : 7 * (groups + 1) ≤ bits → get_or input at 0 < 128 → 0 < get_or input at 0
        → number (value + get_or input at 0 * 2 ^ (7 * groups)) (at + 1) ≡ told
    last_early room h l =
        let k : 2 ^ 7 ≤ 2 ^ (bits - 7 * groups) = pow_mono {i = 7} {j = bits - 7 * groups} (omega arith) in
        last h (omega arith) l

    pub too_large : groups + 1 ≡ most → 2 ^ (bits - 7 * groups) ≤ get_or input at 0 → refused 18 ≡ told
    unfolding continued
    too_large e h =
        sym
        (t.tells
        ∙ ap (λ (m : ℕ). continued value (2 ^ (7 * groups)) (read_groups m (bits - 7 * groups) at (drop at input))) (omega arith)
        ∙ ap (λ (l : List ℕ). continued value (2 ^ (7 * groups)) (read_groups 1 (bits - 7 * groups) at l)) (rest_at input at within)
        ∙ ap (continued value (2 ^ (7 * groups)))
        (front_only (bits - 7 * groups) at (get_or input at 0) (drop (at + 1) input) h))

    pub goes_on : groups + 1 < most → 128 ≤ get_or input at 0
        → Turn most bits told input (value + (get_or input at 0 % 128) * 2 ^ (7 * groups)) (at + 1) (groups + 1)
    goes_on f h =
        let group : ℕ = get_or input at 0 % 128 in
        let rest : Reading = read_groups (most - (groups + 1)) (bits - 7 * (groups + 1)) (at + 1) (drop (at + 1) input) in
        record {
          few = f;
          below = omega (arith, sum_below group 128 (omega arith), weighs_next);
          tells =
              t.tells
              ∙ ap (continued value (2 ^ (7 * groups)))
              (place_more input (most - groups) (bits - 7 * groups) at within (most - (groups + 1)) (bits - 7 * (groups + 1)) (omega arith) (omega arith) h)
              ∙ continued_twice value (2 ^ (7 * groups)) group rest
              ∙ ap (λ (w : ℕ). continued (value + group * 2 ^ (7 * groups)) w rest) weighs_next;
        }
