-- Who may not send: what a history shows of sends and of SENDONLY, and the sender rule from it.
-- Assumes nothing.
use Rattle.std.proofs.Common.{◌≡◌, refl, sym, ap, Bool, true, false, cond, not, ◌&&◌, ◌||◌, List, [], ◌∷◌, ℕ, pos, eqb-true, rules}
use Rattle.std.proofs.Math.Bool.{and-false, and-true, or-true}
use Rattle.std.proofs.lemmas.Bool.{not-true}
use Rattle.rules.specs.Choice.{same}
use Rattle.rules.specs.History.{Event, some, of_kind, by, answered_by, with_event, accepted, replied, link_on, on, flag2}
use Rattle.rules.specs.History.{ends_in, is_send, different_ends, given_send_only, sends_apart, sender_rule}
use Rattle.rules.proofs.Logic.{test, not_both, or_l, or_r}
use Rattle.rules.proofs.History.Tells.{Tell, nothing, sent, given, made, taken, finished, disconnected, left, ending_event, tell_of}

-- an accepted send on d
unfoldable pub any_sent : List Event → ℕ → Bool
any_sent h d = some (λ e. is_send e && on d e) h

-- another party sent on d, and p was not given SENDONLY on d since
unfoldable pub barred : List Event → ℕ → ℕ → Bool
barred [] p d = false
barred (e ∷ h) p d = (is_send e && (on d e && not (by p e))) || (not (given_send_only p d e) && barred h p d)

-- ---- the sender rule
module _ (e : Event) (s : is_send e ≡ true) where
  apart_step : (x : Event) → (is_send x && (on (link_on e) x && not (by e.call.party x))) ≡ false → not (different_ends x e) ≡ true
  unfolding different_ends
  apart_step x z = rw (s, z)

  apart : (h between : List Event) → some (given_send_only e.call.party (link_on e)) between || not (barred h e.call.party (link_on e)) ≡ true
      → sends_apart e between h ≡ true
  unfolding sends_apart some barred
  apart [] between z = refl
  apart (x ∷ h) between z = test (some (given_send_only e.call.party (link_on e)) between)
      (λ g. rw (g, or-true) (apart h (x ∷ between) (rw (g, or-true))))
      (λ g. let b = not-true _ (rw g at z) in
      let n = apart_step x (or_l _ _ b) in
      let r = or_r (is_send x && (on (link_on e) x && not (by e.call.party x))) _ b in
      rw n (apart h (x ∷ between) (test (given_send_only e.call.party (link_on e) x) (λ y. rw y) (λ y. rw (y, g) (ap not (rw y at r))))))

silent : (e : Event) → is_send e ≡ false → (h between : List Event) → sends_apart e between h ≡ true
unfolding sends_apart different_ends
silent e s [] between = refl
silent e s (x ∷ h) between = rw (s, and-false) (silent e s h (x ∷ between))

pub sender_rule_lem : (h : List Event) (e : Event) → (is_send e ≡ true → barred h e.call.party (link_on e) ≡ false) → sender_rule h e ≡ true
unfolding sender_rule some
sender_rule_lem h e f = test (is_send e) (λ s. apart e s h [] (rw (f s))) (λ s. silent e s h [])

-- ---- what an event tells of sends
abbrev pub sends_at : Tell → ℕ → Bool
sends_at (sent x) d = same x d
sends_at _ d = false

abbrev pub gives_at : Tell → ℕ → Bool
gives_at (given x) d = same x d
gives_at _ d = false

-- a test of what is told that fails at all but a send and SENDONLY
record Elsewhere (f : Tell → Bool) : Type 0 where
  nothing' : f nothing ≡ false
  made' : (x : ℕ) → f (made x) ≡ false
  taken' : (x : ℕ) → f (taken x) ≡ false
  finished' : (x : ℕ) → f (finished x) ≡ false
  disconnected' : (x : ℕ) → f (disconnected x) ≡ false
  left' : (b : Bool) → f (left b) ≡ false

module _ (f : Tell → Bool) (w : Elsewhere f) where
  choice : (b : Bool) (x y : Tell) → (b ≡ true → f x ≡ false) → f y ≡ false → f (cond b x y) ≡ false
  choice true x y p q = p refl
  choice false x y p q = q

  ended : (e : Event) → f (cond (ending_event e) (finished (link_on e)) nothing) ≡ false
  ended e = choice (ending_event e) _ _ (λ _. w.finished' _) w.nothing'

  -- fails at what an event tells, if it does for a 17 and for an 18
  elsewhere : (e : Event) → (of_kind 17 e ≡ true → f (cond (accepted e) (sent (link_on e)) (cond (ending_event e) (finished (link_on e)) nothing)) ≡ false)
      → (of_kind 18 e ≡ true → f (cond (answered_by (pos 29) e && with_event 32 e) (given (link_on e)) (cond (ending_event e) (finished (link_on e)) nothing)) ≡ false)
      → f (tell_of e) ≡ false
  unfolding tell_of
  elsewhere e s g =
      choice (of_kind 12 e || of_kind 13 e) _ _ (λ _. choice (accepted e && (not (flag2 e.call.b) && not (ends_in 0 e))) _ _ (λ _. w.made' _) w.nothing')
      (choice (of_kind 14 e) _ _ (λ _. choice (accepted e) _ _ (λ _. w.taken' _) w.nothing')
      (choice (of_kind 15 e) _ _ (λ _. choice (replied e) _ _ (λ _. w.finished' _) w.nothing')
      (choice (of_kind 17 e) _ _ s
      (choice (of_kind 18 e) _ _ g
      (choice (of_kind 19 e) _ _ (λ _. choice (accepted e) _ _ (λ _. w.disconnected' _) w.nothing')
      (choice (of_kind 20 e || of_kind 21 e) _ _ (λ _. choice (accepted e) _ _ (λ _. w.left' _) w.nothing') w.nothing'))))))

tell_17 : (e : Event) → of_kind 17 e ≡ true → tell_of e ≡ cond (accepted e) (sent (link_on e)) (cond (ending_event e) (finished (link_on e)) nothing)
unfolding tell_of of_kind
tell_17 e k = rw (eqb-true e.call.kind 17 k)

tell_18 : (e : Event) → of_kind 18 e ≡ true
    → tell_of e ≡ cond (answered_by (pos 29) e && with_event 32 e) (given (link_on e)) (cond (ending_event e) (finished (link_on e)) nothing)
unfolding tell_of of_kind
tell_18 e k = rw (eqb-true e.call.kind 18 k)

module _ (e : Event) (d : ℕ) where
  sends_else : Elsewhere (λ t. sends_at t d)
  sends_else = search rules

  gives_else : Elsewhere (λ t. gives_at t d)
  gives_else = search rules

  pub tells_send : is_send e && on d e ≡ sends_at (tell_of e) d
  unfolding is_send on same
  tells_send = test (of_kind 17 e)
      (λ k. rw (k, tell_17 e k) (test (accepted e) (λ a. rw a) (λ a. rw a (sym (ended (λ t. sends_at t d) sends_else e)))))
      (λ k. rw k (sym (elsewhere (λ t. sends_at t d) sends_else e (λ y. not_both y k)
      (λ _. choice (λ t. sends_at t d) sends_else (answered_by (pos 29) e && with_event 32 e) _ _ (λ _. refl) (ended (λ t. sends_at t d) sends_else e)))))

  pub tells_given : of_kind 18 e && (on d e && (answered_by (pos 29) e && with_event 32 e)) ≡ gives_at (tell_of e) d
  unfolding on same
  tells_given = test (of_kind 18 e)
      (λ k.
      rw (k, tell_18 e k)
      (test (answered_by (pos 29) e && with_event 32 e) (λ a. rw a (and-true _)) (λ a. rw (a, and-false) (sym (ended (λ t. gives_at t d) gives_else e)))))
      (λ k. rw k (sym (elsewhere (λ t. gives_at t d) gives_else e
      (λ _. choice (λ t. gives_at t d) gives_else (accepted e) _ _ (λ _. refl) (ended (λ t. gives_at t d) gives_else e)) (λ y. not_both y k))))
