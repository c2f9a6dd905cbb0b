-- `tx::tx_set_transaction_control` meets its contract: the state at unchained, and the one after it at chained.
use Rattle.monitor.proofs.Usual.{ℕ, ◌≡◌, ◌+◌, ◌%◌, refl, arith, rules, eqb, leb, pick, next_of, control_of}
use Rattle.rules.proofs.Logic.{by_test}
use Rattle.monitor.specs.declared.states.State.{State}
use Rattle.monitor.specs.declared.states.State.TheVariants.{S0, S1, S2, S3, S4}
use Rattle.monitor.specs.States.{state_number, chained_of}
use Rattle.monitor.proofs.tx.tx_set_transaction_control.Goals as goal
use Rattle.monitor.proofs.tx.tx_set_transaction_control.Goals.{in-0, in-1}

-- the row has S1, S3 and blanks
control_odd : (x : ℕ) → next_of 8 x % 2 ≡ 1
unfolding next_of pick
control_odd x =
    let odd : ℕ → Type 0 = λ n. n % 2 ≡ 1 in
    by_test odd {b = eqb x 0} {x = 9} {y = pick (leb x 2) 1 3} (λ _. refl) (λ _. by_test odd {b = leb x 2} {x = 1} {y = 3} (λ _. refl) (λ _. refl))

chained_next : (s : State) (x : ℕ) → state_number s ≡ next_of 8 x → state_number (chained_of s) ≡ state_number s + 1
chained_next S0 x e = let o = control_odd x in omega arith
chained_next S1 x e = refl
chained_next S2 x e = let o = control_odd x in omega arith
chained_next S3 x e = refl
chained_next S4 x e = let o = control_odd x in omega arith

pub returns : goal.returns
unfolding control_of pick
returns c = elim c.match-a.branch [
  | in-0 w ↦ search rules
  | in-1 w ↦ let next = chained_next _ _ c.in_ok-next.ensures.0 in search rules
]
