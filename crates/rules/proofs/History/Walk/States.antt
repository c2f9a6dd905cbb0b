-- The TX state table in the walk: what a state says of its party, what each call's next state is, and entering one.
-- Assumes nothing.
use Rattle.std.proofs.Common.{◌≡◌, refl, ap, ◌∙◌, true, false, not, ◌||◌, ℕ, ◌+◌, ◌<◌, arith, eqb, leb, eqb-true, ne_eqb}
use Rattle.std.proofs.lemmas.Bool.{and_from}
use Rattle.rules.specs.Choice.{pick}
use Rattle.rules.specs.Record.{is_opened, party}
use Rattle.rules.specs.Transaction.{tx_of}
use Rattle.rules.specs.States.{state_of, is_blank, next_of, in_state, entered}
use Rattle.rules.specs.Sound.{choices_good}
use Rattle.rules.specs.declared.Monitor.{Monitor}
use Rattle.rules.specs.declared.Party.{Party}
use Rattle.rules.proofs.Logic.{by_test, test, pick_false, pick_no, not_both, and_r}
use Rattle.rules.proofs.Fine.{Frame}
use Rattle.rules.proofs.Parties.{party_frame}
use Rattle.rules.proofs.History.Walk.Base.{OwnOnly, own_set, own_then}

-- ---- a party's state
-- each state, as far as the walk reads it
pub data State (m : Monitor) (p : ℕ) : ℕ → Type 0 where
  shut : is_opened (party m p) ≡ false → State m p 0
  free : tx_of m p ≡ 0 → State m p 1
  free_chained : tx_of m p ≡ 0 → State m p 2
  busy : State m p 3
  busy_chained : State m p 4

pub state_is : (m : Monitor) (p : ℕ) → State m p (state_of m p)
unfolding state_of
state_is m p = by_test (State m p)
    (λ _. by_test (State m p)
    (λ z. let t : tx_of m p ≡ 0 = eqb-true (tx_of m p) 0 z in by_test (State m p) (λ _. free_chained t) (λ _. free t))
    (λ _. by_test (State m p) (λ _. busy_chained) (λ _. busy)))
    (λ n. shut n)

-- S1 and S2
pub state_free : {m : Monitor} {p s : ℕ} → State m p s → eqb s 1 || eqb s 2 ≡ true → tx_of m p ≡ 0
state_free (shut n) h = not_both h refl
state_free (free t) h = t
state_free (free_chained t) h = t
state_free _ h = not_both h refl

-- S0 to S2, of an opened party
pub state_low : {m : Monitor} {p s : ℕ} → State m p s → leb s 2 ≡ true → is_opened (party m p) ≡ true → tx_of m p ≡ 0
state_low (shut n) h o = not_both o n
state_low (free t) h o = t
state_low (free_chained t) h o = t
state_low _ h o = not_both h refl

-- ---- the next state
-- open
pub next_open : (s : ℕ) → eqb (next_of 1 s) 0 ≡ false
next_open s = rw (is s) (by_test (λ n. eqb n 0 ≡ false) {x = 1} {y = s} (λ _. refl) (λ n. n))
  where
    is : (s : ℕ) → next_of 1 s ≡ pick (eqb s 0) 1 s
    is s = unfold next_of pick in refl

-- close
pub next_close : (s : ℕ) → not (is_blank (next_of 2 s)) ≡ true → leb s 2 ≡ true
next_close s = rw (is s) (by_test (λ n. not (is_blank n) ≡ true → leb s 2 ≡ true) {x = 0} {y = 9} (λ e _. e) (λ _ h. not_both h refl))
  where
    is : (s : ℕ) → next_of 2 s ≡ pick (leb s 2) 0 9
    is s = unfold next_of pick in refl

-- begin: from S1 or S2
abbrev next3 : ℕ → ℕ
next3 s = pick (eqb s 1) 3 (pick (eqb s 2) 4 9)

next_3 : (s : ℕ) → next_of 3 s ≡ next3 s
unfolding next_of pick
next_3 s = refl

pub next_begin : (s : ℕ) → not (is_blank (next_of 3 s)) ≡ true → eqb s 1 || eqb s 2 ≡ true
next_begin s = rw (next_3 s) (test (eqb s 1) (λ e _. rw e) (λ e. rw (e, pick_no) (two s)))
  where
    two : (s : ℕ) → not (is_blank (pick (eqb s 2) 4 9)) ≡ true → eqb s 2 ≡ true
    two s = by_test (λ n. not (is_blank n) ≡ true → eqb s 2 ≡ true) {x = 4} {y = 9} (λ e _. e) (λ _ h. not_both h refl)

pub next_begun : (s : ℕ) → eqb (next_of 3 s) 0 ≡ false
next_begun s = rw (next_3 s) (by_test (λ n. eqb n 0 ≡ false) (λ _. refl) (λ _. by_test (λ n. eqb n 0 ≡ false) (λ _. refl) (λ _. refl)))

-- control: with a added
pub next_control : (s a : ℕ) → eqb (next_of 8 s + a) 0 ≡ false
next_control s a = ne_eqb (next_of 8 s + a) 0 (λ z. some s (omega arith))
  where
    is : (s : ℕ) → next_of 8 s ≡ pick (eqb s 0) 9 (pick (leb s 2) 1 3)
    is s = unfold next_of pick in refl

    some : (s : ℕ) → next_of 8 s ≡ 0 → ⊥
    some s = rw (is s) (by_test (λ n. n ≡ 0 → ⊥) (λ _ z. omega arith) (λ _. by_test (λ n. n ≡ 0 → ⊥) (λ _ z. omega arith) (λ _ z. omega arith)))

-- ---- entering a state
pub in_good : (x : Party) (s : ℕ) → choices_good x ≡ true → choices_good (in_state x s) ≡ true
unfolding in_state
in_good x s g = and_from _ _
    (by_test (λ n. leb n 1 ≡ true) (λ _. refl) (λ _. refl))
    (and_from _ _ (by_test (λ n. leb n 1 ≡ true) (λ _. refl) (λ _. by_test (λ n. leb n 1 ≡ true) (λ _. refl) (λ _. refl)))
    (and_r (leb x.control 1) _ (and_r (leb x.opened 1) _ g)))

pub in_opened : (x : Party) (s : ℕ) → eqb s 0 ≡ false → is_opened (in_state x s) ≡ true
unfolding in_state
in_opened x s n = rw (pick_false {A = ℕ} (eqb s 0) 0 1 n)

-- party p, whose record became x, enters the state s
pub own_entered : {m m' : Monitor} {p : ℕ} {x : Party} (s : ℕ) → OwnOnly m m' p x → Frame m' → p < 16 → OwnOnly m (entered m' p s) p (in_state x s)
unfolding entered
own_entered {m} {m'} {p} {x} s o f b =
    let n = own_set m' (entered m' p s) p (in_state (party m' p) s) f.shape b refl in
    own_then o (record { here = n.here ∙ ap (λ y. in_state y s) o.here; there = n.there })

pub frame_entered : {m : Monitor} (p s : ℕ) → p < 16 → Frame m → Frame (entered m p s)
unfolding entered
frame_entered {m} p s b f = party_frame m f.shape p b (in_state (party m p) s) f
