-- An accepted request: what is written of its call and answer says what its new link says, and is never refused by 22.
-- Assumes nothing.
use Rattle.std.proofs.Common.{ℕ, suc, ◌+◌, ◌≤◌, ◌<◌, ◌≡◌, refl, ap, sym, ◌∙◌, subst, ◌⊎◌, inl, inr, ⊎_elim, true, false, not, ◌&&◌, ◌||◌, List, add-one, arith, ltb-true, leb-true, eqb-true, eqb, ltb, leb, pos, length}
use Rattle.std.proofs.lemmas.Bool.{eqb-false}
use Rattle.number.proofs.Reading.{below_or_not}
use Rattle.number.proofs.Stores.{fit_answer, unfit_answer}
use Rattle.rules.specs.Choice.{pick}
use Rattle.rules.specs.Codes.{too_little_room}
use Rattle.rules.specs.Record.{is_waiting, link_of, new_link, added, valued}
use Rattle.rules.specs.Requests.{no_reply, no_tran, link_tx, ask_link, is_bare_no_reply, request_of}
use Rattle.rules.specs.Services.{is_service}
use Rattle.rules.specs.Sound.{sound}
use Rattle.rules.specs.Step.{rule_of, later_of, advanced, answered_to, turned_down, call_of, step_of}
use Rattle.rules.specs.Transaction.{tx_of}
use Rattle.rules.specs.declared.Call.{Call}
use Rattle.rules.specs.declared.Link.{Link}
use Rattle.rules.specs.declared.Monitor.{Monitor}
use Rattle.rules.specs.declared.Ruled.{Ruled}
use Rattle.rules.specs.declared.Stepped.{Stepped}
use Rattle.rules.proofs.Logic.{pick_true, by_test, test, not_both, and_l, and_r, and_true}
use Rattle.rules.proofs.Fine.{no_link, Shape, Fine}
use Rattle.rules.proofs.Looks.{look_link_of}
use Rattle.rules.proofs.Changes.{added_new}
use Rattle.rules.proofs.Sound.{sound_fine, clock_fine}
use Rattle.rules.proofs.History.Walk.Requests.{added_tx}
use Rattle.wire.specs.Sequences.{request, is_writable}
use Rattle.wire.specs.Entries.{Written, Outgoing, bytes_of, wrote, as_written, wire_answer, outgoing, is_accepted, some_tx, outgoing_of, of_link}
use Rattle.wire.specs.declared.sequence.Request.{Request}
use Rattle.wire.proofs.RoundTrip.{eleven_bytes}

-- ---- the rule
-- A request on the record m that was accepted with r: its service and flags are good, and it made one link.
record Requested (m : Monitor) (p a b c : ℕ) (r : Ruled) : Type 0 where
  good : is_service a && (leb b 3 && not (is_bare_no_reply b && not (eqb (tx_of m p) 0))) ≡ true
  room : m.count < 32
  left : m.lastlink < 60000
  gives : r ≡ valued (added m (new_link (m.lastlink + 1) 0 p (pick (no_reply b) 0 1) a (link_tx m p b) c 0)) (pick (no_reply b) 0 (m.lastlink + 1))

requested : (m : Monitor) (p a b c : ℕ) → is_accepted (request_of m p a b c).code ≡ true → Requested m p a b c (request_of m p a b c)
unfolding request_of ask_link is_accepted
requested m p a b c = by_test Accepted
    (λ g. by_test Accepted (λ _. by_test Accepted (λ _. by_test Accepted (λ _. by_test Accepted (λ _. by_test Accepted
    (λ h _. record { good = g; room = ltb-true _ 32 (and_l _ _ h); left = ltb-true _ 60000 (and_r (ltb m.count 32) _ h); gives = refl })
    (λ _ e. not_both e refl))
    (λ _ e. not_both e refl))
    (λ _ e. not_both e refl))
    (λ _ e. not_both e refl))
    (λ _ e. not_both e refl))
    (λ _ e. not_both e refl)
  where
    Accepted : Ruled → Type 0
    Accepted r = is_accepted r.code ≡ true → Requested m p a b c r

waiting_none : is_waiting no_link ≡ false
unfolding no_link
waiting_none = refl

-- ---- flags
-- good flags are a reply wanted, or a link of no transaction
by_small : (P : ℕ → Type 0) → P 0 → P 1 → P 2 → P 3 → (b : ℕ) → leb b 3 ≡ true → P b
by_small P p q r s b h =
    test (eqb b 0) (λ e. at 0 e p) λ n0. test (eqb b 1) (λ e. at 1 e q) λ n1. test (eqb b 2) (λ e. at 2 e r) λ n2.
    test (eqb b 3) (λ e. at 3 e s) λ n3.
    absurd
    (let l = leb-true b 3 h in
    let a0 = eqb-false b 0 n0 in
    let a1 = eqb-false b 1 n1 in
    let a2 = eqb-false b 2 n2 in
    let a3 = eqb-false b 3 n3 in
    omega arith)
  where
    at : (k : ℕ) → eqb b k ≡ true → P k → P b
    at k e x = subst P (sym (eqb-true b k e)) x

Writable : ℕ → ℕ → Type 0
Writable reply tx = leb reply 1 && (leb tx 1 && (eqb reply 1 || not (eqb tx 1))) ≡ true

flags_writable : (t b : ℕ) → leb b 3 && not (is_bare_no_reply b && not (eqb t 0)) ≡ true → Writable (pick (no_reply b) 0 1) (some_tx (pick (no_tran b) 0 t))
unfolding Writable some_tx pick
flags_writable t b e =
    by_small
    (λ (b : ℕ). leb b 3 && not (is_bare_no_reply b && not (eqb t 0)) ≡ true → Writable (pick (no_reply b) 0 1) (some_tx (pick (no_tran b) 0 t)))
    (λ _. test (eqb t 0) (λ y. rw y) (λ n. rw n))
    (λ f. test (eqb t 0) (λ y. rw y) (λ n. not_both f (rw n)))
    (λ _. refl)
    (λ _. refl)
    b (and_l _ _ e) e

-- ---- one call
module _ (m : Monitor) (c : Call) (k : c.kind ≡ 12) where
  request_step : sound m ≡ true → leb c.party 15 ≡ true
      → step_of m c ≡ answered_to (request_of (advanced m c.clock) c.party c.a c.b c.c) c.party
  unfolding step_of call_of rule_of pick
  request_step s p = rw (s, k, p)

  -- none is accepted before the kind's questions
  refuses_record : sound m ≡ false → is_accepted (step_of m c).answer.code ≡ false
  unfolding step_of turned_down pick is_accepted
  refuses_record n = rw n

  refuses_party : sound m ≡ true → leb c.party 15 ≡ false → is_accepted (step_of m c).answer.code ≡ false
  unfolding step_of call_of turned_down pick is_accepted
  refuses_party s n = rw (s, k, n)

-- What is written of the call c on m, answered with s: a request that can be written, and that says what the new link says.
pub record OutgoingNew (c : Call) (s : Stepped) : Type 0 where
  pub says : outgoing_of c s.answer ≡ outgoing 1 (of_link (link_of s.monitor s.monitor.lastlink))
  pub writable : is_writable (outgoing_of c s.answer).request ≡ true

module _ (m : Monitor) (fine : Fine m) (c : Call) (k : c.kind ≡ 12) where
  abbrev new : Link
  new = new_link (m.lastlink + 1) 0 c.party (pick (no_reply c.b) 0 1) c.a (link_tx m c.party c.b) c.c 0

  module _ (room : m.count < 32) (left : m.lastlink < 60000) where
    new_there : link_of (added m new) (m.lastlink + 1) ≡ new
    new_there =
        let at = added_new m fine.frame room new (add-one m.lastlink) in
        ap (link_of (added m new)) (add-one m.lastlink)
        ∙ look_link_of (added m new) is_waiting waiting_none (suc m.lastlink) (ap is_waiting at)
        ∙ at

    same_tx : tx_of (added m new) c.party ≡ tx_of m c.party
    same_tx = added_tx m fine room left new (add-one m.lastlink) c.party

  -- the request, where the caller's transaction is t
  abbrev request_in : ℕ → Request
  request_in t = request c.a c.c (pick (no_reply c.b) 0 1) (some_tx (pick (no_tran c.b) 0 t))

  outgoing_new : (r : Ruled) → Requested m c.party c.a c.b c.c r → OutgoingNew c (answered_to r c.party)
  unfolding answered_to outgoing_of is_accepted is_writable link_tx Writable
  outgoing_new r q =
      let tx = same_tx q.room q.left in
      let yes : eqb c.kind 12 && true ≡ true = rw k in
      rw q.gives
      (record {
        says =
            pick_true _ _ _ yes
            ∙ ap (λ (t : ℕ). outgoing 1 (request_in t)) tx
            ∙ ap (λ (l : Link). outgoing 1 (of_link l)) (sym (new_there q.room q.left));
        writable =
            ap (λ (x : Outgoing). is_writable x.request) (pick_true _ _ _ yes)
            ∙ ap (λ (t : ℕ). is_writable (request_in t)) tx
            ∙ and_true (is_service c.a) _ (and_l (is_service c.a) _ q.good)
            (flags_writable (tx_of m c.party) c.b (and_r (is_service c.a) _ q.good));
      })

-- An accepted kind 12 on a record with the declared lengths.
pub accepted_is_outgoing : (m : Monitor) → Shape m → (c : Call) → c.kind ≡ 12 → is_accepted (step_of m c).answer.code ≡ true → OutgoingNew c (step_of m c)
unfolding answered_to
accepted_is_outgoing m sh c k e = test (sound m)
    (λ s. test (leb c.party 15)
    (λ p. let m₀ = advanced m c.clock in
    let is = request_step m c k s p in
    let fine = clock_fine m (later_of m.clock c.clock) (sound_fine m sh s) in
    rw is (outgoing_new m₀ fine c k _ (requested m₀ c.party c.a c.b c.c (rw is at e))))
    (λ n. not_both e (refuses_party m c k s n)))
    (λ n. not_both e (refuses_record m c k n))

-- ---- what is written of it

module _ (buffer : List ℕ) (r : Request) (w : is_writable r ≡ true) where
  pub enough_written : 11 ≤ length buffer → wire_answer buffer r ≡ wrote (pos 0) (length (bytes_of r))
  unfolding wire_answer as_written
  enough_written h =
      let few = eleven_bytes r w in
      pick_true _ _ _ w ∙ ap as_written (sym (fit_answer buffer 0 (bytes_of r) (omega arith))) ∙ ap (wrote (pos 0)) (omega arith)

  pub only_room : ((wire_answer buffer r).code ≡ pos 0) ⊎ ((wire_answer buffer r).code ≡ too_little_room)
  unfolding wire_answer as_written
  only_room =
      ⊎_elim
      (λ h. inr (ap (λ (x : Written). x.code) (pick_true _ _ _ w ∙ ap as_written (sym (unfit_answer buffer 0 (bytes_of r) h)))))
      (λ h. inl (ap (λ (x : Written). x.code) (pick_true _ _ _ w ∙ ap as_written (sym (fit_answer buffer 0 (bytes_of r) h)))))
      (below_or_not (length buffer) (0 + length (bytes_of r)))

-- An accepted kind 12 is never refused by 22: by 16, where the buffer is too short, and with 11 bytes not at all.
module _ (m : Monitor) (sh : Shape m) (c : Call) (k : c.kind ≡ 12) (e : is_accepted (step_of m c).answer.code ≡ true) (buffer : List ℕ) where
  abbrev sent : Request
  sent = (outgoing_of c (step_of m c).answer).request

  pub never_22 : ((wire_answer buffer sent).code ≡ pos 0) ⊎ ((wire_answer buffer sent).code ≡ too_little_room)
  never_22 = only_room buffer sent (accepted_is_outgoing m sh c k e).writable

  pub never_refused : 11 ≤ length buffer → wire_answer buffer sent ≡ wrote (pos 0) (length (bytes_of sent))
  never_refused h = enough_written buffer sent (accepted_is_outgoing m sh c k e).writable h
