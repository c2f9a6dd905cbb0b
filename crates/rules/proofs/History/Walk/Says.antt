-- What an answer says: past question 21, of 20 and 21 a value only where accepted, what it tells by its kind, and the caller's timeout after it.
-- Assumes nothing.
use Rattle.std.proofs.Common.{◌≡◌, refl, Bool, true, false, cond, not, ◌&&◌, ◌||◌, ℕ, eqb, leb, ℤ, pos, eqb-true, ne_eqb, rules}
use Rattle.std.proofs.Math.Bool.{and-false, and-true}
use Rattle.rules.specs.Choice.{same}
use Rattle.rules.specs.Record.{is_ending}
use Rattle.rules.specs.Transaction.{tx_of}
use Rattle.rules.specs.Step.{answered_to}
use Rattle.rules.specs.History.{of_kind, same_code, unheard, answered_by, with_value, with_event, accepted, past21, replied, link_on, flag2, ends_in}
use Rattle.rules.specs.declared.Call.{Call}
use Rattle.rules.specs.declared.Ruled.{Ruled}
use Rattle.rules.proofs.Logic.{not_both, Nz, or_cases, and_l, and_r}
use Rattle.rules.proofs.History.Tells.{Tell, nothing, sent, given, made, taken, finished, disconnected, left, ending_event, tell_of, Valueless}
use Rattle.rules.proofs.History.Walk.Moved.{event_of, time_after}

-- a code past question 21
abbrev pub is_past : ℤ → Bool
is_past z = not (unheard z)

-- a code that is none of 0, 29, 30 and 31: with it no kind tells anything
abbrev pub is_silent : ℤ → Bool
is_silent z = not (same_code (pos 0) z || (same_code (pos 29) z || (same_code (pos 30) z || same_code (pos 31) z)))

-- the code of a refusal by a kind's rule, and of the TX answers that are not 0
abbrev pub is_quiet : ℤ → Bool
is_quiet z = is_silent z && is_past z

-- a kind that tells nothing, whatever its answer
abbrev pub is_plain : ℕ → Bool
is_plain k = leb k 11 || (eqb k 16 || leb 22 k)

-- a kind that sets the caller's timeout when accepted
abbrev pub is_timed : ℕ → Bool
is_timed k = eqb k 9 || (eqb k 2 || eqb k 21)

-- the codes of a fetch that takes the reply
abbrev pub is_fetched : ℤ → Bool
is_fetched z = same_code (pos 0) z || (same_code (pos 30) z || same_code (pos 31) z)

pub record Says (c : Call) (r : Ruled) (t : Tell) : Type 0 where
  pub past : past21 (event_of c r) ≡ true
  pub valueless : Valueless (event_of c r)
  pub tells : tell_of (event_of c r) ≡ t

fetched_past : (z : ℤ) → is_fetched z ≡ true → is_past z ≡ true
fetched_past z h = search rules

module _ (c : Call) (r : Ruled) where
  -- ---- the value: by the code, the value, and the kind
  pub says_accepted : {t : Tell} → r.code ≡ pos 0 → tell_of (event_of c r) ≡ t → Says c r t
  unfolding event_of answered_to past21 accepted answered_by
  says_accepted z e = record { past = rw z; valueless = λ _ n. not_both (rw z) n; tells = e }

  pub says_valueless : {t : Tell} → r.value ≡ 0 → is_past r.code ≡ true → tell_of (event_of c r) ≡ t → Says c r t
  unfolding event_of answered_to past21
  says_valueless v z e = record { past = z; valueless = λ _ _. v; tells = e }

  pub says_by_kind : {t : Tell} → eqb c.kind 20 || eqb c.kind 21 ≡ false → is_past r.code ≡ true → tell_of (event_of c r) ≡ t → Says c r t
  unfolding event_of answered_to past21 of_kind
  says_by_kind k z e = record { past = z; valueless = λ y _. not_both y k; tells = e }

  -- ---- nothing: by the code, and by the kind
  tells_silent : is_silent r.code ≡ true → tell_of (event_of c r) ≡ nothing
  unfolding tell_of ending_event event_of answered_to accepted answered_by replied
  tells_silent h = search rules

  pub says_quiet : r.value ≡ 0 → is_quiet r.code ≡ true → Says c r nothing
  says_quiet v z = says_valueless v (and_r (is_silent r.code) _ z) (tells_silent (and_l _ _ z))

  pub tells_plain : (k : ℕ) → c.kind ≡ k → is_plain k ≡ true → tell_of (event_of c r) ≡ nothing
  unfolding tell_of of_kind event_of
  tells_plain k e h = search rules

  -- ---- 12, 13
  -- a link of the caller's transaction
  pub says_made : eqb c.kind 12 || eqb c.kind 13 ≡ true → r.code ≡ pos 0 → flag2 c.b ≡ false → Nz (tx_of r.monitor c.party)
      → Says c r (made r.value)
  unfolding tell_of of_kind event_of answered_to accepted answered_by ends_in same
  says_made k z f t = says_accepted z (rw (k, z, f, t))

  -- a link of no transaction
  pub says_made_flagged : eqb c.kind 12 || eqb c.kind 13 ≡ true → r.code ≡ pos 0 → flag2 c.b ≡ true → Says c r nothing
  unfolding tell_of of_kind event_of answered_to accepted answered_by
  says_made_flagged k z f = says_accepted z (rw (k, z, f))

  pub says_made_free : eqb c.kind 12 || eqb c.kind 13 ≡ true → r.code ≡ pos 0 → tx_of r.monitor c.party ≡ 0 → Says c r nothing
  unfolding tell_of of_kind event_of answered_to accepted answered_by ends_in
  says_made_free k z t = says_accepted z (rw (k, z, t, and-false (not (flag2 c.b))))

  -- ---- 14
  pub says_taken : c.kind ≡ 14 → r.code ≡ pos 0 → Says c r (taken r.value)
  unfolding tell_of of_kind event_of answered_to accepted answered_by
  says_taken k z = says_accepted z (rw (k, z))

  -- ---- 15
  -- link d is the one that the value names, or by b the one asked for
  pub says_fetched : c.kind ≡ 15 → is_fetched r.code ≡ true → (d : ℕ) → cond (eqb c.b 1) r.value c.a ≡ d → Says c r (finished d)
  unfolding tell_of of_kind event_of answered_to answered_by replied link_on
  says_fetched k z d e = says_by_kind (rw k) (fetched_past r.code z) (rw (k, z, and-true (eqb c.b 1), e))

  -- ---- 16
  pub says_cancelled : c.kind ≡ 16 → r.code ≡ pos 0 → Says c r nothing
  says_cancelled k z = says_accepted z (tells_plain 16 k refl)

  -- ---- 17, 18
  pub says_sent : c.kind ≡ 17 → r.code ≡ pos 0 → Says c r (sent c.a)
  unfolding tell_of of_kind event_of answered_to accepted answered_by link_on
  says_sent k z = says_accepted z (rw (k, z))

  pub says_received : c.kind ≡ 18 → r.code ≡ pos 0 → Says c r nothing
  unfolding tell_of of_kind event_of answered_to accepted answered_by ending_event
  says_received k z = says_accepted z (rw (k, z))

  pub says_given : c.kind ≡ 18 → r.value ≡ 0 → r.code ≡ pos 29 → r.event ≡ 32 → Says c r (given c.a)
  unfolding tell_of of_kind event_of answered_to answered_by with_event link_on
  says_given k v z e = says_valueless v (rw z) (rw (k, z, e))

  -- the end that the originator learns
  pub says_ended : eqb c.kind 17 || eqb c.kind 18 ≡ true → r.value ≡ 0 → r.code ≡ pos 29 → is_ending r.event ≡ true → Says c r (finished c.a)
  unfolding tell_of of_kind event_of answered_to accepted answered_by with_event ending_event link_on
  says_ended k v z e = says_valueless v (rw z) (or_cases (eqb c.kind 17) _ k
      (λ a. rw (eqb-true c.kind 17 a, z, e))
      (λ a. rw (eqb-true c.kind 18 a, z, ne_eqb r.event 32 (λ q. not_both e (rw q)), e)))

  -- the server is notified of a disconnect
  pub says_notified : eqb c.kind 17 || eqb c.kind 18 ≡ true → r.value ≡ 0 → r.code ≡ pos 29 → r.event ≡ 1 → Says c r nothing
  unfolding tell_of of_kind event_of answered_to accepted answered_by with_event ending_event
  says_notified k v z e =
      says_valueless v (rw z) (or_cases (eqb c.kind 17) _ k (λ a. rw (eqb-true c.kind 17 a, z, e)) (λ a. rw (eqb-true c.kind 18 a, z, e)))

  -- ---- 19
  pub says_disconnected : c.kind ≡ 19 → r.code ≡ pos 0 → Says c r (disconnected c.a)
  unfolding tell_of of_kind event_of answered_to accepted answered_by link_on
  says_disconnected k z = says_accepted z (rw (k, z))

  -- ---- 20, 21
  pub says_left : eqb c.kind 20 || eqb c.kind 21 ≡ true → r.code ≡ pos 0 → Says c r (left (eqb r.value 2 || eqb r.value 4))
  unfolding tell_of of_kind event_of answered_to accepted answered_by with_value
  says_left k z = says_accepted z (or_cases (eqb c.kind 20) _ k (λ a. rw (eqb-true c.kind 20 a, z)) (λ a. rw (eqb-true c.kind 21 a, z)))

  -- ---- the caller's timeout
  pub time_refused : (x : ℕ) → same_code (pos 0) r.code ≡ false → time_after (event_of c r) x ≡ x
  unfolding time_after event_of answered_to accepted answered_by
  time_refused x z = rw z

  pub time_kept : (x k : ℕ) → c.kind ≡ k → is_timed k ≡ false → time_after (event_of c r) x ≡ x
  unfolding time_after event_of answered_to of_kind accepted answered_by
  time_kept x k e h = search rules

  pub time_set : (x : ℕ) → c.kind ≡ 9 → r.code ≡ pos 0 → time_after (event_of c r) x ≡ c.a
  unfolding time_after event_of answered_to of_kind accepted answered_by
  time_set x k z = rw (k, z)

  pub time_none : (x : ℕ) → eqb c.kind 2 || eqb c.kind 21 ≡ true → r.code ≡ pos 0 → time_after (event_of c r) x ≡ 0
  unfolding time_after event_of answered_to of_kind accepted answered_by
  time_none x k z = search rules
