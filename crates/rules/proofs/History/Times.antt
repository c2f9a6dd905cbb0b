-- The clock, the parties' transactions and timeouts, and each transaction's deadline, against what the history shows of them.
-- Assumes nothing.
use Rattle.std.proofs.Common.{◌≡◌, refl, sym, ap, ◌∙◌, true, false, cond, not, ◌&&◌, ◌||◌, List, ◌∷◌, ℕ, suc}
use Rattle.std.proofs.Common.{◌+◌, ◌≤◌, max, arith, eqb, ltb, leb, eqb-true, eq-eqb, ne_eqb, ltb-true, ltb-false}
use Rattle.std.proofs.lemmas.Bool.{eqb-false}
use Rattle.rules.specs.Choice.{same}
use Rattle.rules.specs.Record.{is_opened, is_working, is_waiting, party, live}
use Rattle.rules.specs.Transaction.{tx_of, late, deadline_of}
use Rattle.rules.specs.Step.{later_of, answered_to}
use Rattle.rules.specs.History.{Event, some, of_kind, by, accepted, past21, ends_in, up_to_start, latest_tx}
use Rattle.rules.specs.History.{greatest_clock, shown_timeout, timeout_at_start, due, deadline_passed}
use Rattle.rules.specs.declared.Call.{Call}
use Rattle.rules.specs.declared.Link.{Link}
use Rattle.rules.specs.declared.Monitor.{Monitor}
use Rattle.rules.specs.declared.Party.{Party}
use Rattle.rules.specs.declared.Ruled.{Ruled}
use Rattle.rules.proofs.Logic.{Nz, pick_true, pick_false, test, not_both, same_true, same_false, same_ne, zero_nz}
use Rattle.rules.proofs.Fine.{look, Fine}
use Rattle.rules.proofs.Looks.{look_zero, served_there, tx_of_tx_p, link_low}
use Rattle.rules.proofs.History.Tells.{Tell}
use Rattle.rules.proofs.History.Moves
use Rattle.rules.proofs.History.Moves.{Left, Move}
use Rattle.rules.proofs.History.Left.{left_working, fades, fades_works}
use Rattle.rules.proofs.History.Stamped.{tx_p_keeps}
use Rattle.rules.proofs.History.Walk.Moved.{event_of, Own, keeps, loses, begins, time_after, Moved}

pub record Times (m : Monitor) (h : List Event) : Type 0 where
  pub clock : greatest_clock h ≡ m.clock
  pub latest : (q : ℕ) → latest_tx h q ≡ tx_of m q
  pub timeout : (q : ℕ) → shown_timeout h q ≡ (party m q).timeout
  pub deadline : (q : ℕ) → Nz (party m q).owned
      → (party m q).deadline ≡ deadline_of (greatest_clock (up_to_start (party m q).owned h)) (timeout_at_start (up_to_start (party m q).owned h))
  pub opened : (q : ℕ) → Nz (party m q).owned → is_opened (party m q) ≡ true

-- ---- a move leaves the transactions of the links that others serve
module _ (c : Call) (p n m : ℕ) (P : ℕ → Party) (L : ℕ → Link) (n' m' : ℕ) (P' : ℕ → Party) (L' : ℕ → Link) (q : ℕ)
    (works : is_working (L (P q).served) ≡ true) (low : (P q).served ≤ n) (nz : Nz (P q).served) (stays : (P' q).served ≡ (P q).served) where
  waits_not : (d : ℕ) → is_waiting (L d) ≡ true → same (P q).served d ≡ false
  waits_not d w =
      same_ne _ _ (λ e. let a = eqb-true (L d).state 0 w in let b = eqb-true (L (P q).served).state 1 works in let c = ap (λ x. (L x).state) e in omega arith)

  rests_not : (d : ℕ) → is_working (L d) ≡ false → same (P q).served d ≡ false
  rests_not d w = same_ne _ _ (λ e. not_both {X = ⊥} works (rw e w))

  faded : (d : ℕ) → Left (L d) (L' d) → (is_working (L d) ≡ true → is_working (L' d) ≡ true) → ((e : ℕ) → same e d ≡ false → L' e ≡ L e)
      → (L' (P q).served).tx ≡ (L (P q).served).tx
  faded d f w o = (left_working (fades d o f _) (fades_works d o w _ works)).3

  served_tx_lem : {t : Tell} → Move c p n m P L n' m' P' L' t → (L' (P q).served).tx ≡ (L (P q).served).tx
  served_tx_lem (Moves.quiet k a b s) = (b _).tx'
  served_tx_lem (Moves.sends k d s) = (s.like _).tx'
  served_tx_lem (Moves.grants k d s) = (s.like _).tx'
  served_tx_lem (Moves.finishes k d s) = ap (λ l. l.tx) (s.others _ (rests_not d s.rests))
  served_tx_lem (Moves.cancels k d s) = faded d s.fade s.fade_works s.others
  served_tx_lem (Moves.disconnects k d s) = faded d s.fade s.fade_works s.others
  served_tx_lem (Moves.leaves k bad s _) = (left_working (s.less _) (s.stays q (rw stays nz) works)).3
  served_tx_lem (Moves.ends k s) = (left_working (s.less _) (s.works' _ works)).3
  served_tx_lem (Moves.begins a b _ _ s) = ap (λ l. l.tx) (s.links' _)
  served_tx_lem (Moves.renews a b _ Pₑ Lₑ s r) = ap (λ l. l.tx) (r.links' _) ∙ (left_working (s.less _) (s.works' _ works)).3
  served_tx_lem (Moves.makes a b x _ s) = ap (λ l. l.tx) (s.others _ (same_ne _ _ (omega arith)))
  served_tx_lem (Moves.makes_free a b s) = ap (λ l. l.tx) (s.others _ (same_ne _ _ (omega arith)))
  served_tx_lem (Moves.takes k d s) = ap (λ l. l.tx) (s.others _ (waits_not d s.waits))

-- ---- the greatest clock is the record's
later_max : (a b : ℕ) → max a b ≡ later_of a b
unfolding later_of
later_max a b = test (ltb a b)
    (λ e. let l = ltb-true a b e in (let r : max a b ≡ b = omega arith in r) ∙ sym (pick_true _ _ _ e))
    (λ e. let l = ltb-false a b e in (let r : max a b ≡ a = omega arith in r) ∙ sym (pick_false _ _ _ e))

-- a transaction that has started does not start again
pub started_before : (t : ℕ) (e : Event) (h : List Event) → some (ends_in t) h ≡ true → up_to_start t (e ∷ h) ≡ up_to_start t h
unfolding up_to_start
started_before t e h s = rw s

-- ---- a call past question 21, on a record whose clock is the call's already
module _ (m : Monitor) (h : List Event) (c : Call) (r : Ruled) (f : Fine m) (k : Moved m c r)
    (clk : greatest_clock (event_of c r ∷ h) ≡ m.clock) (lat : (q : ℕ) → latest_tx h q ≡ tx_of m q) (tim : (q : ℕ) → shown_timeout h q ≡ (party m q).timeout)
    (dead : (q : ℕ) → Nz (party m q).owned
    → (party m q).deadline ≡ deadline_of (greatest_clock (up_to_start (party m q).owned h)) (timeout_at_start (up_to_start (party m q).owned h)))
    (open' : (q : ℕ) → Nz (party m q).owned → is_opened (party m q) ≡ true)
    (seen : (t : ℕ) → Nz t → t ≤ m.lasttx → some (ends_in t) h ≡ true) (unseen : some (ends_in (suc m.lasttx)) h ≡ false)
    (below : (q : ℕ) → (party m q).owned ≤ m.lasttx) where
  e : Event
  e = event_of c r

  other : (q : ℕ) → same q c.party ≡ false → by q e ≡ false
  unfolding e event_of by
  other q n = ne_eqb _ _ (λ x. same_false _ _ n (sym x))

  own : by c.party e ≡ true
  unfolding e event_of by
  own = eq-eqb c.party c.party refl

  -- the others' transactions
  tx_other : (q : ℕ) → same q c.party ≡ false → tx_of r.monitor q ≡ tx_of m q
  tx_other q n =
      tx_of_tx_p r.monitor k.frame q ∙ tx_p_keeps _ _ _ _ q (k.others q n).owned' (k.others q n).served' served ∙ sym (tx_of_tx_p m f.frame q)
    where
      zero-tx : (d : ℕ) → same d 0 ≡ true → (look d (live r.monitor)).tx ≡ (look d (live m)).tx
      zero-tx d z = let i = same_true d 0 z in rw (i, look_zero m f.frame, look_zero r.monitor k.frame)

      served : (look (party m q).served (live r.monitor)).tx ≡ (look (party m q).served (live m)).tx
      served = test (same (party m q).served 0) (zero-tx _) (λ z.
          served_tx_lem c c.party m.lastlink m.lasttx (λ q. party m q) (λ d. look d (live m))
          r.monitor.lastlink r.monitor.lasttx (λ q. party r.monitor q) (λ d. look d (live r.monitor)) q
          (f.works q z) (link_low m f.frame _ (served_there m f q z)) z (k.others q n).served' k.move)

  past : past21 e ≡ true
  unfolding e
  past = k.past

  latest₁ : (q : ℕ) → latest_tx (e ∷ h) q ≡ tx_of r.monitor q
  unfolding latest_tx
  latest₁ q = test (same q c.party)
      (λ y. let i : q ≡ c.party = same_true _ _ y in rw (i, own, past) answered)
      (λ y. rw (other q y) (lat q ∙ sym (tx_other q y)))
    where
      answered : e.answer.tx ≡ tx_of r.monitor c.party
      answered = unfold e event_of answered_to in refl

  timeout₁ : (q : ℕ) → shown_timeout (e ∷ h) q ≡ (party r.monitor q).timeout
  unfolding shown_timeout
  timeout₁ q = test (same q c.party)
      (λ y. let i : q ≡ c.party = same_true _ _ y in rw (i, own, tim c.party) (sym after))
      (λ y. rw (other q y) (tim q ∙ sym (k.others q y).timeout'))
    where
      after : (party r.monitor c.party).timeout
          ≡ cond (accepted e && of_kind 9 e) e.call.a (cond (accepted e && (of_kind 2 e || of_kind 21 e)) 0 (party m c.party).timeout)
      after = unfold time_after e in k.timeout'

  deadline_old : (q : ℕ) (y : Party) → y.owned ≡ (party m q).owned → y.deadline ≡ (party m q).deadline → Nz y.owned
      → y.deadline ≡ deadline_of (greatest_clock (up_to_start y.owned (e ∷ h))) (timeout_at_start (up_to_start y.owned (e ∷ h)))
  deadline_old q y a b z =
      let z' : Nz (party m q).owned = rw a at z in
      rw (a, started_before (party m q).owned e h (seen (party m q).owned z' (below q))) (b ∙ dead q z')

  new_start : (party r.monitor c.party).owned ≡ suc m.lasttx → up_to_start (suc m.lasttx) (e ∷ h) ≡ e ∷ h
  unfolding up_to_start
  new_start a = rw (unseen, ends)
    where
      z : Nz (party r.monitor c.party).owned
      z = rw a (same_ne _ _ (omega arith))

      new : tx_of r.monitor c.party ≡ (party r.monitor c.party).owned
      new = unfold tx_of same in pick_false _ _ _ z

      ends : ends_in (suc m.lasttx) e ≡ true
      ends = unfold ends_in e event_of answered_to in eq-eqb (tx_of r.monitor c.party) (suc m.lasttx) (new ∙ a)

  deadline_own : Own m c.kind (party m c.party) (party r.monitor c.party) → Nz (party r.monitor c.party).owned
      → (party r.monitor c.party).deadline
      ≡ deadline_of (greatest_clock (up_to_start (party r.monitor c.party).owned (e ∷ h)))
      (timeout_at_start (up_to_start (party r.monitor c.party).owned (e ∷ h)))
  deadline_own (keeps a b _) z = deadline_old c.party (party r.monitor c.party) a b z
  deadline_own (loses a _) z = zero_nz a z
  deadline_own (begins a b _) z = b ∙ rw (a, new_start a, now, start)
    where
      now : greatest_clock (e ∷ h) ≡ m.clock
      now = unfold e in clk

      start : timeout_at_start (e ∷ h) ≡ (party m c.party).timeout
      start = unfold timeout_at_start e event_of in tim c.party

  pub times : Times r.monitor (event_of c r ∷ h)
  unfolding e
  times = record {
    clock = clk ∙ sym k.clock';
    latest = latest₁;
    timeout = timeout₁;
    deadline = λ q. test (same q c.party)
        (λ y. let i : q ≡ c.party = same_true _ _ y in rw i (deadline_own k.own))
        (λ y. deadline_old q (party r.monitor q) (k.others q y).owned' (k.others q y).deadline');
    opened = λ q. test (same q c.party)
        (λ y. let i : q ≡ c.party = same_true _ _ y in rw i (k.opened' (open' c.party)))
        (λ y z. rw (k.others q y).opened' (open' q (rw (k.others q y).owned' at z)));
  }

-- ---- the clock of a call past question 21
pub clock_next : (h : List Event) (c : Call) (r : Ruled) (clock : ℕ) → greatest_clock h ≡ clock → past21 (event_of c r) ≡ true
    → greatest_clock (event_of c r ∷ h) ≡ later_of clock c.clock
clock_next h c r clock q p = heard (event_of c r) p ∙ ap (λ x. max x (event_of c r).call.clock) q ∙ called
  where
    heard : (x : Event) → past21 x ≡ true → greatest_clock (x ∷ h) ≡ max (greatest_clock h) x.call.clock
    heard x p = unfold greatest_clock in rw p

    called : max clock (event_of c r).call.clock ≡ later_of clock c.clock
    called = unfold event_of in later_max clock c.clock

-- ---- the deadline
pub late_due : (timeout clock now : ℕ) (q : Party) → q.deadline ≡ deadline_of clock timeout → late now q ≡ not (eqb timeout 0) && leb (due timeout clock) now
unfolding deadline_of due
late_due timeout clock now q e = rw e (test (eqb timeout 0)
    (λ z. rw (pick_true (eqb timeout 0) 0 (clock + timeout) z, z))
    (λ z. let n = eqb-false timeout 0 z in let s : clock + timeout ≡ timeout + clock = omega arith in
    rw (pick_false (eqb timeout 0) 0 (clock + timeout) z, z, s, ne_eqb (timeout + clock) 0 (omega arith))))

-- the owner's deadline has come exactly when the history shows it
pub late_shown : (m : Monitor) (h now : List Event) (p : ℕ) → Times m h → Nz (party m p).owned → (clock : ℕ) → greatest_clock now ≡ clock
    → deadline_passed (up_to_start (party m p).owned h) now ≡ late clock (party m p)
unfolding deadline_passed
late_shown m h now p t z clock e = sym (late_due _ _ clock (party m p) (t.deadline p z) ∙ rw (← e))
