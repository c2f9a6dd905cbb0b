-- What numbers say: a request's sequence says that request, where it can be written, and other numbers say none.
-- Assumes nothing.
use Rattle.std.proofs.Common.{ℕ, ◌-◌, ◌≤◌, ◌≡◌, refl, ap, ap₂, sym, ◌∙◌, subst, ◌≢◌, ⊎_elim, Bool, true, false, not, ◌&&◌, ◌||◌, List, arith, eqb-true, eq-eqb, leb-true, eqb, leb, length, get_or}
use Rattle.std.proofs.lemmas.Bool.{eqb-false}
use Rattle.number.proofs.Reading.{below_or_not}
use Rattle.rules.specs.Choice.{pick}
use Rattle.rules.specs.Codes.{no_such_sequence}
use Rattle.rules.specs.Services.{is_service}
use Rattle.rules.proofs.Logic.{pick_true, pick_false, by_test, test, not_both, and_l, and_r, and_true, and_false}
use Rattle.wire.specs.Sequences.{request, read_done, read_refused, agree, sequence_of, IsSequenceOf, is_writable, wants_reply, of_tx, says, said_by, meaning_of}
use Rattle.wire.specs.declared.sequence.Request.{Request}
use Rattle.wire.proofs.Agreement.{same_numbers_lem, agree_refl}

-- ---- what a request's numbers say

says_own : (r : Request) → is_service r.service ≡ true → says (sequence_of r) r ≡ true
unfolding says
says_own r s =
    and_true (is_service r.service) _ s
    (and_true (eqb (length (sequence_of r)) (length (sequence_of r))) _ (eq-eqb (length (sequence_of r)) _ refl) (agree_refl (sequence_of r)))

-- a list of numbers that says a request is that request's sequence
pub said_own : (values : List ℕ) (r : Request) → says values r ≡ true → values ≡ sequence_of r
unfolding says
said_own values r e = same_numbers_lem values (sequence_of r) (and_r (is_service r.service) _ e)

module _ (service token : ℕ) (s : is_service service ≡ true) where
  means_in_tx : meaning_of (sequence_of (request service token 1 1)) ≡ read_done (request service token 1 1)
  unfolding meaning_of said_by sequence_of pick
  means_in_tx = pick_true _ _ _ (says_own (request service token 1 1) s)

  means_replied : meaning_of (sequence_of (request service token 1 0)) ≡ read_done (request service token 1 0)
  unfolding meaning_of said_by sequence_of pick says
  means_replied = pick_false _ _ _ (and_false (is_service token)) ∙ pick_true _ _ _ (says_own (request service token 1 0) s)

  means_unreplied : meaning_of (sequence_of (request service token 0 0)) ≡ read_done (request service token 0 0)
  unfolding meaning_of said_by sequence_of pick says agree
  means_unreplied =
      pick_false _ _ _ (and_false (is_service token))
      ∙ pick_false _ _ _
      (ap (λ (b : Bool). is_service service && (eqb service service && b)) (and_false (eqb token token))
      ∙ ap (λ (b : Bool). is_service service && b) (and_false (eqb service service))
      ∙ and_false (is_service service))
      ∙ pick_true _ _ _ (says_own (request service token 0 0) s)

-- ---- the three forms

-- a request that can be written has one of the three
module _ (r : Request) (w : is_writable r ≡ true) where
  pub good_service : is_service r.service ≡ true
  unfolding is_writable
  good_service = and_l (is_service r.service) _ w

  flags : leb r.reply 1 && (leb r.tx 1 && (wants_reply r || not (of_tx r))) ≡ true
  unfolding is_writable
  flags = and_r (is_service r.service) _ w

  reply_small : r.reply ≤ 1
  reply_small = leb-true r.reply 1 (and_l _ _ flags)

  tx_small : r.tx ≤ 1
  tx_small = leb-true r.tx 1 (and_l _ _ (and_r (leb r.reply 1) _ flags))

  outside : eqb r.reply 1 ≡ false → eqb r.tx 1 ≡ false
  outside n = test (eqb r.tx 1)
      (λ y. not_both (and_r (leb r.tx 1) _ (and_r (leb r.reply 1) _ flags)) (rw (n, y)))
      (λ z. z)

  zero_of : (n : ℕ) → n ≤ 1 → eqb n 1 ≡ false → n ≡ 0
  zero_of n h e = ⊎_elim (λ k. omega arith) (λ k. absurd (eqb-false n 1 e (omega arith))) (below_or_not n 1)

  pub by_form : (P : Request → Type 0) → P (request r.service r.token 1 1) → P (request r.service r.token 1 0)
      → P (request r.service r.token 0 0) → P r
  by_form P in_tx replied unreplied = test (eqb r.reply 1)
      (λ y. test (eqb r.tx 1)
      (λ z. at 1 1 (eqb-true _ 1 y) (eqb-true _ 1 z) in_tx)
      (λ z. at 1 0 (eqb-true _ 1 y) (zero_of _ tx_small z) replied))
      (λ n. at 0 0 (zero_of _ reply_small n) (zero_of _ tx_small (outside n)) unreplied)
    where
      at : (reply tx : ℕ) → r.reply ≡ reply → r.tx ≡ tx → P (request r.service r.token reply tx) → P r
      at reply tx e f p = subst P (sym (ap₂ (λ (x y : ℕ). request r.service r.token x y) e f)) p

  pub means_own : meaning_of (sequence_of r) ≡ read_done r
  means_own =
      let s = good_service in
      by_form (λ (q : Request). meaning_of (sequence_of q) ≡ read_done q)
      (means_in_tx r.service r.token s) (means_replied r.service r.token s) (means_unreplied r.service r.token s)

-- ---- numbers that say none

-- the third last number but the last
abbrev service_of : List ℕ → ℕ
service_of values = get_or values (length values - 3) 0

own_service : (r : Request) → service_of (sequence_of r) ≡ r.service
unfolding sequence_of
own_service r =
    by_test Own (λ _. by_test Own (λ _. refl) (λ _. refl)) (λ _. refl)
  where
    Own : List ℕ → Type 0
    Own values = service_of values ≡ r.service

none_of_three : (at : ℕ → ℕ) (isSaid : Request → Bool) → ((q : Request) → isSaid q ≡ false) → said_by at isSaid ≡ read_refused no_such_sequence
unfolding said_by
none_of_three at isSaid never = pick_false _ _ _ (never _) ∙ pick_false _ _ _ (never _) ∙ pick_false _ _ _ (never _)

none_said : (values : List ℕ) → ((q : Request) → values ≡ sequence_of q → is_service q.service ≡ false) → meaning_of values ≡ read_refused no_such_sequence
unfolding meaning_of says
none_said values never =
    none_of_three (λ i. get_or values i 0) (says values)
    (λ q. test (says values q) (λ y. not_both (and_l _ _ y) (never q (said_own values q y))) (λ n. n))

-- ---- what numbers say, by whose sequence they are

module _ (values : List ℕ) where
  pub says_its_own : (r : Request) → IsSequenceOf r values → is_service r.service ≡ true → read_done r ≡ meaning_of values
  unfolding is_writable
  says_its_own r own s = sym (ap meaning_of own.same ∙ means_own r (and_true (is_service r.service) _ s own.flags))

  pub says_no_service : (r : Request) → IsSequenceOf r values → is_service r.service ≡ false → read_refused no_such_sequence ≡ meaning_of values
  says_no_service r own n =
      sym (none_said values (λ q e. ap is_service (sym (own_service q) ∙ ap service_of (sym e ∙ own.same) ∙ own_service r) ∙ n))

  pub says_none : ((r : Request) → values ≢ sequence_of r) → read_refused no_such_sequence ≡ meaning_of values
  says_none none = sym (none_said values (λ q e. absurd (none q e)))
