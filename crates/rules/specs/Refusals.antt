-- Which answers are refusals, what a refused call leaves, and which kinds say that nothing is there.
-- Assumes nothing.
use Rattle.std.specs.Prelude.{◌≡◌, Bool, true, false, ◌&&◌, ◌||◌, ℕ, eqb, leb, ℤ, pos, negsuc}
use Rattle.rules.specs.Choice.{pick}
use Rattle.rules.specs.Transaction.{tx_of}
use Rattle.rules.specs.Step.{advanced}
use Rattle.rules.specs.declared.Call.{Call}
use Rattle.rules.specs.declared.Monitor.{Monitor}
use Rattle.rules.specs.declared.Stepped.{Stepped}

-- "Refusals are 16 to 28, 32, −5, −6 and −8." "33 to 39 .. join document 01's refusals" (document 02).
unfoldable pub is_refusal : ℤ → Bool
is_refusal (pos n) = (leb 16 n && leb n 28) || (leb 32 n && leb n 39)
is_refusal (negsuc n) = eqb n 4 || (eqb n 5 || eqb n 7)

-- the questions before the clock moves: 19, 20 and 21
unfoldable pub is_early : ℤ → Bool
is_early (pos n) = eqb 19 n || (eqb 20 n || eqb 21 n)
is_early (negsuc n) = false

-- the codes of a call that was carried out: 0, 1, 29, 30, 31, −2, −3, −4, −9, −100, −102, −103, −104 and −109
unfoldable pub is_outcome : ℤ → Bool
is_outcome (pos n) = leb n 1 || (leb 29 n && leb n 31)
is_outcome (negsuc n) = eqb n 1 || (eqb n 2 || (eqb n 3 || (eqb n 8 || (eqb n 99 || (eqb n 101 || (eqb n 102 || (eqb n 103 || eqb n 108)))))))

-- The code of a call of kind k: "Keep it for an empty take. A fetch with no return yet and a receive with nothing unread get a
-- second number, a send on a full link a third." (document 02)
pub record NothingOf (k : ℕ) (code : ℤ) : Type 0 where
  pub taking : code ≡ pos 32 → k ≡ 14
  pub fetching_or_receiving : code ≡ pos 36 → eqb k 15 || eqb k 18 ≡ true
  pub sending : code ≡ pos 37 → k ≡ 17

-- The call c on the record m was refused with s: beside its number and the caller's T all is 0, and the record is as it was
-- but for the clock. At 19, 20 and 21 "the last field is 0 and the record is unchanged".
pub record Refused (m : Monitor) (c : Call) (s : Stepped) : Type 0 where
  pub value : s.answer.value ≡ 0
  pub event : s.answer.event ≡ 0
  pub token : s.answer.token ≡ 0
  pub service : s.answer.service ≡ 0
  pub tx : s.answer.tx ≡ pick (is_early s.answer.code) 0 (tx_of m c.party)
  pub monitor : s.monitor ≡ pick (is_early s.answer.code) m (advanced m c.clock)
