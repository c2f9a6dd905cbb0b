-- `number::reader::decode_rest` meets its contract: the loop keeps `Turn`, and each return is one of its cases.
use Rattle.std.proofs.Common.{◌≡◌, ℕ, zero, suc, ◌+◌, ◌-◌, ◌*◌, ◌%◌, ◌^◌, ◌<◌, [], ◌∷◌, get_or, refl, arith}
use Rattle.number.specs.Answers.{decoded}
use Rattle.number.proofs.Turns.{superfluous, last_early, last, too_large, goes_on}
use Rattle.number.proofs.reader.decode_rest.Goals as goal
use Rattle.number.proofs.reader.decode_rest.Goals.{then-last-eq0-via-then-last-eq0, then-last-eq0-via-else-last-eq0+then-last-gt15}

weighs : (i : ℕ) → i < 3 → get_or (128 ∷ 16384 ∷ 2097152 ∷ []) i 0 ≡ 2 ^ (7 * (i + 1))
weighs zero h = refl
weighs (suc zero) h = refl
weighs (suc (suc zero)) h = refl
weighs (suc (suc (suc i))) h = absurd (omega arith)

pub returns-then-byte-eq0 : goal.returns-then-byte-eq0
unfolding decoded
returns-then-byte-eq0 c = superfluous c.loop-weight.invariant c.if-input-at.false (rw c.from-byte.ensures at c.if-byte-eq0.true)

pub returns-then-byte-lt128 : goal.returns-then-byte-lt128
unfolding decoded
returns-then-byte-lt128 c =
    let l = c.loop-weight in
    let weight = weighs l.weight-index (omega arith) in
    let byte = c.from-byte.ensures in
    let whole : get_or c.args.input.now l.at 0 % 128 ≡ get_or c.args.input.now l.at 0 = omega (arith, byte) in
    rw (byte, weight, whole) (last_early l.invariant c.if-input-at.false (omega arith) (rw byte at c.if-byte-lt128.true) (omega (arith, byte)))

pub loop-weight-preserved : goal.loop-weight-preserved
loop-weight-preserved c =
    let weight = weighs c.loop-weight.weight-index (omega arith) in
    rw (c.from-byte.ensures, weight) (goes_on c.loop-weight.invariant c.if-input-at.false (omega arith) (rw c.from-byte.ensures at c.if-byte-lt128.false))

pub returns-then-last-eq0 : goal.returns-then-last-eq0
unfolding decoded
returns-then-last-eq0 c =
    let t = c.loop-weight.invariant in
    elim c.then-last-eq0.branch [
      | then-last-eq0-via-then-last-eq0 w ↦ superfluous t c.if-input-at-2.false (rw c.from-last.ensures at w.if-last-eq0.true)
      | then-last-eq0-via-else-last-eq0+then-last-gt15 w ↦
          let bits : 32 - 7 * (c.loop-weight.weight-index + 1) ≡ 4 = omega arith in
          too_large t c.if-input-at-2.false (omega arith) (rw bits (omega (arith, c.from-last.ensures)))
    ]

pub returns : goal.returns
unfolding decoded
returns c =
    let i = c.loop-weight.weight-index in
    let bits : 32 - 7 * (i + 1) ≡ 4 = omega arith in
    let before : 7 * (i + 1) ≡ 28 = omega arith in
    let byte = c.from-last.ensures in
    let told = last c.loop-weight.invariant c.if-input-at-2.false (omega arith) (rw bits (omega (arith, byte))) (omega (arith, byte)) in
    rw byte (rw before at told)
