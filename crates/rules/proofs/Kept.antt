-- What every call keeps: a sound record sound, and the clock and the last numbers from falling.
-- So question 19 is never answered from a fresh monitor.
-- Assumes nothing.
use Rattle.std.proofs.Common.{◌≡◌, refl, sym, ◌∙◌, true, false, not, List, [], ◌∷◌, ◌++◌, ℕ, zero, suc, ◌≤◌, ◌<◌, arith, ℤ, drop, leb-true, ltb-true}
use Rattle.rules.specs.Choice.{pick}
use Rattle.rules.specs.Codes.{unsound}
use Rattle.rules.specs.Record.{fresh_monitor}
use Rattle.rules.specs.Sound.{sound}
use Rattle.rules.specs.Step.{rule_of, is_kind, advanced, later_of, answered_to, turned_down, call_of, step_of}
use Rattle.rules.specs.Run.{call_at, places_of, ran_of, answers_of, calls_in, Listed, list_of}
use Rattle.rules.specs.History.{Event, some, same_code, answered_by, first_call, first_answer, then_calls, then_list}
use Rattle.rules.specs.Demand.{Entry, single, lent, then_lent, then_entries}
use Rattle.rules.specs.After.{record_after}
use Rattle.rules.specs.Refusals.{is_early}
use Rattle.rules.specs.declared.Call.{Call}
use Rattle.rules.specs.declared.Monitor.{Monitor}
use Rattle.rules.specs.declared.Stepped.{Stepped}
use Rattle.rules.proofs.Logic.{by_test, not_both, pick_true, pick_false}
use Rattle.rules.proofs.Fine.{Shape, Fine}
use Rattle.rules.proofs.AnswerCodes.{codes_apart}
use Rattle.rules.proofs.Sound.{sound_fine, fine_sound, fresh_fine, clock_fine, moved_fine}
use Rattle.rules.proofs.Refusals.{rule_past}
use Rattle.rules.proofs.History.Bridge.{move_grows}
use Rattle.rules.proofs.History.Walk.Moved.{Moved}
use Rattle.rules.proofs.History.Walk.All.{rule_moved}

-- a sound record with the declared lengths
pub record SoundRecord (m : Monitor) : Type 0 where
  pub shape : Shape m
  pub is_sound : sound m ≡ true

fine_of : {m : Monitor} → SoundRecord m → Fine m
fine_of {m} s = sound_fine m s.shape s.is_sound

of_fine : {m : Monitor} → Fine m → SoundRecord m
of_fine {m} f = record { shape = f.frame.shape; is_sound = fine_sound m f }

-- ---- a sound record stays sound
module _ (m : Monitor) (s : SoundRecord m) (c : Call) where
  fine₀ : Fine (advanced m c.clock)
  fine₀ = clock_fine m (later_of m.clock c.clock) (fine_of s)

  -- a set clock keeps it
  pub clock_sound_kept : SoundRecord (advanced m c.clock)
  clock_sound_kept = of_fine fine₀

  pub rule_kept : is_kind c.kind ≡ true → c.party < 16
      → Moved (advanced m c.clock) c (rule_of (advanced m c.clock) c.party c.kind c.a c.b c.c)
  rule_kept k p = rule_moved (advanced m c.clock) c fine₀ p k

  pub call_sound_kept : SoundRecord (call_of m c).monitor
  unfolding call_of answered_to turned_down
  call_sound_kept = by_test (λ (x : Stepped). SoundRecord x.monitor)
      (λ k. by_test (λ (x : Stepped). SoundRecord x.monitor)
      (λ p. let b : c.party < 16 = omega (arith, leb-true c.party 15 p) in of_fine (moved_fine (advanced m c.clock) c _ fine₀ (rule_kept k b) b))
      (λ _. s))
      (λ _. s)

  pub sound_kept : SoundRecord (step_of m c).monitor
  unfolding step_of
  sound_kept = by_test (λ (x : Stepped). SoundRecord x.monitor) (λ _. call_sound_kept) (λ n. not_both s.is_sound n)

pub calls_sound_kept : (n : ℕ) (m : Monitor) (cs : List ℕ) → SoundRecord m → SoundRecord (ran_of n m cs)
unfolding ran_of
calls_sound_kept zero m cs s = s
calls_sound_kept (suc n) m cs s = calls_sound_kept n (call_of m (call_at cs)).monitor (drop 6 cs) (call_sound_kept m s (call_at cs))

pub list_sound_kept : (m : Monitor) → SoundRecord m → (cs : List ℕ) (out : List ℤ) → SoundRecord (list_of m cs out).monitor
unfolding list_of
list_sound_kept m s cs out =
    by_test Keeps (λ _. by_test Keeps (λ _. by_test Keeps (λ _. calls_sound_kept (calls_in cs) m cs s) (λ _. s)) (λ _. s)) (λ _. s)
  where
    Keeps : Listed → Type 0
    Keeps l = SoundRecord l.monitor

pub entries_sound_kept : (es : List Entry) (m : Monitor) → SoundRecord m → SoundRecord (record_after m es)
unfolding record_after
entries_sound_kept [] m s = s
entries_sound_kept (single c ∷ es) m s = entries_sound_kept es (step_of m c).monitor (sound_kept m s c)
entries_sound_kept (lent cs out ∷ es) m s = entries_sound_kept es (list_of m cs out).monitor (list_sound_kept m s cs out)

-- it is the record in which the rules answer whatever comes after those entries
pub answered_after : (es fs : List Entry) (m : Monitor) (h : List Event) → then_entries m h (es ++ fs) ≡ then_entries (record_after m es) (then_entries m h es) fs
unfolding then_entries record_after
answered_after [] fs m h = refl
answered_after (single c ∷ es) fs m h = answered_after es fs (step_of m c).monitor _
answered_after (lent cs out ∷ es) fs m h = answered_after es fs (list_of m cs out).monitor _

pub fresh_sound : SoundRecord fresh_monitor
fresh_sound = of_fine fresh_fine

-- every record that is reached from a fresh monitor is sound
pub never_unsound : (es : List Entry) → SoundRecord (record_after fresh_monitor es)
never_unsound es = entries_sound_kept es fresh_monitor fresh_sound

-- ---- question 19
past_not_19 : (code : ℤ) → is_early code ≡ false → same_code unsound code ≡ false
unfolding is_early
past_not_19 code = codes_apart is_early unsound code refl

-- the questions after it never answer 19, whatever the record
call_not_19 : (m : Monitor) (c : Call) → same_code unsound (call_of m c).answer.code ≡ false
unfolding call_of answered_to turned_down
call_not_19 m c = by_test Not19
    (λ k. by_test Not19
    (λ _. past_not_19 _ (rule_past (advanced m c.clock) c.party c.kind c.a c.b c.c k))
    (λ _. refl))
    (λ _. refl)
  where
    Not19 : Stepped → Type 0
    Not19 s = same_code unsound s.answer.code ≡ false

-- a call is answered 19 just when the record is not sound
pub unsound_19 : (m : Monitor) (c : Call) → same_code unsound (step_of m c).answer.code ≡ not (sound m)
unfolding step_of turned_down
unsound_19 m c = by_test (λ (s : Stepped). same_code unsound s.answer.code ≡ not (sound m))
    (λ y. rw y (call_not_19 m c)) (λ n. rw n)

-- no lent list returns 19 on a sound record
pub sound_list_not_19 : (m : Monitor) → SoundRecord m → (cs : List ℕ) (out : List ℤ) → same_code unsound (list_of m cs out).code ≡ false
unfolding list_of
sound_list_not_19 m s cs out =
    by_test Not19 (λ _. by_test Not19 (λ _. by_test Not19 (λ _. refl) (λ n. not_both s.is_sound n)) (λ _. refl)) (λ _. refl)
  where
    Not19 : Listed → Type 0
    Not19 l = same_code unsound l.code ≡ false

pub reached_list_not_19 : (es : List Entry) (cs : List ℕ) (out : List ℤ) → same_code unsound (list_of (record_after fresh_monitor es) cs out).code ≡ false
reached_list_not_19 es cs out = sound_list_not_19 (record_after fresh_monitor es) (never_unsound es) cs out

-- no event of the history was answered 19
Silent19 : List Event → Type 0
Silent19 h = some (answered_by unsound) h ≡ false

calls_silent : (n : ℕ) (m : Monitor) (cs : List ℕ) (rest : List ℤ) (h : List Event) → Silent19 h → Silent19 (then_calls n cs (answers_of n m cs ++ rest) h)
unfolding then_calls answers_of places_of first_answer first_call
calls_silent zero m cs rest h i = i
calls_silent (suc n) m cs rest h i = calls_silent n (call_of m (call_at cs)).monitor (drop 6 cs) rest _
    (unfold Silent19 some answered_by in rw (call_not_19 m (call_at cs)) i)

list_silent : (m : Monitor) → SoundRecord m → (cs : List ℕ) (out : List ℤ) (h : List Event) → Silent19 h → Silent19 (then_lent cs (list_of m cs out) h)
unfolding list_of then_lent then_list
list_silent m s cs out h i =
    by_test Keeps (λ _. by_test Keeps (λ _. by_test Keeps (λ _. calls_silent (calls_in cs) m cs _ h i) (λ n. not_both s.is_sound n)) (λ _. i)) (λ _. i)
  where
    Keeps : Listed → Type 0
    Keeps l = Silent19 (then_lent cs l h)

entries_silent : (es : List Entry) (m : Monitor) (h : List Event) → SoundRecord m → Silent19 h → Silent19 (then_entries m h es)
unfolding then_entries
entries_silent [] m h s i = i
entries_silent (single c ∷ es) m h s i = entries_silent es (step_of m c).monitor _ (sound_kept m s c)
    (unfold Silent19 some answered_by in rw (unsound_19 m c, s.is_sound) i)
entries_silent (lent cs out ∷ es) m h s i = entries_silent es (list_of m cs out).monitor _ (list_sound_kept m s cs out) (list_silent m s cs out h i)

pub never_19 : (es : List Entry) → some (answered_by unsound) (then_entries fresh_monitor [] es) ≡ false
unfolding Silent19 some
never_19 es = entries_silent es fresh_monitor [] fresh_sound refl

-- ---- the clock
later_not_below : (a b : ℕ) → a ≤ later_of a b
unfolding later_of
later_not_below a b = by_test (λ (x : ℕ). a ≤ x) (λ e. omega (arith, ltb-true a b e)) (λ _. omega arith)

module _ (m : Monitor) (sh : Shape m) (c : Call) where
  ClockOf : Stepped → Type 0
  ClockOf s = s.monitor.clock ≡ pick (is_early s.answer.code) m.clock (later_of m.clock c.clock)

  call_clock : sound m ≡ true → ClockOf (call_of m c)
  unfolding call_of answered_to turned_down ClockOf is_early
  call_clock y =
      let s : SoundRecord m = record { shape = sh; is_sound = y } in
      by_test ClockOf
      (λ k. by_test ClockOf
      (λ p. (rule_kept m s c k (omega (arith, leb-true c.party 15 p))).clock'
      ∙ sym (pick_false _ m.clock _ (rule_past (advanced m c.clock) c.party c.kind c.a c.b c.c k)))
      (λ _. sym (pick_true true m.clock _ refl)))
      (λ _. sym (pick_true true m.clock _ refl))

  -- "the clock becomes the greater of its own and the call's", past question 21; before it stays
  pub clock_after : (step_of m c).monitor.clock ≡ pick (is_early (step_of m c).answer.code) m.clock (later_of m.clock c.clock)
  unfolding step_of turned_down ClockOf is_early
  clock_after = by_test ClockOf (λ y. call_clock y) (λ _. sym (pick_true true m.clock _ refl))

-- ---- the numbers: the clock, the last link's and the last transaction's
pub record Grown (m m' : Monitor) : Type 0 where
  pub clock : m.clock ≤ m'.clock
  pub lastlink : m.lastlink ≤ m'.lastlink
  pub lasttx : m.lasttx ≤ m'.lasttx

module _ (m : Monitor) (sh : Shape m) (c : Call) where
  GrownTo : Stepped → Type 0
  GrownTo s = Grown m s.monitor

  unmoved : Grown m m
  unmoved = omega arith

  call_grows : sound m ≡ true → GrownTo (call_of m c)
  unfolding call_of answered_to turned_down GrownTo
  call_grows y =
      by_test GrownTo
      (λ k. by_test GrownTo
      (λ p. let v = rule_kept m (record { shape = sh; is_sound = y }) c k (omega (arith, leb-true c.party 15 p)) in
      record { clock = rw v.clock' (later_not_below m.clock c.clock); lastlink = (move_grows v.move).0; lasttx = (move_grows v.move).1 })
      (λ _. unmoved))
      (λ _. unmoved)

  pub numbers_never_fall : Grown m (step_of m c).monitor
  unfolding step_of turned_down GrownTo
  numbers_never_fall = by_test GrownTo (λ y. call_grows y) (λ _. unmoved)
