-- How one event adds to what a history shows, from the history statement's own definitions.
-- Assumes nothing.
use Rattle.std.proofs.Common.{◌≡◌, refl, sym, ap, ◌∙◌, Bool, true, false, cond, not, ◌&&◌}
use Rattle.std.proofs.Common.{◌||◌, List, [], ◌∷◌, ℕ, ◌≤◌, ◌<◌, arith, eqb, ℤ, pos, eqb-true}
use Rattle.std.proofs.Math.Path.{fun_ext}
use Rattle.std.proofs.Math.Bool.{and-false, and-true, and_assoc, and_comm, or-true, or-false}
use Rattle.rules.specs.Choice.{pick, same}
use Rattle.rules.specs.declared.Call.{Call}
use Rattle.rules.specs.declared.Link.{Link}
use Rattle.rules.specs.declared.Party.{Party}
use Rattle.rules.specs.History.{Event, some, of_kind, by, answered_by, with_value, with_event, accepted, replied, link_on, on, ends_in, up_to_start}
use Rattle.rules.specs.History.{started_by, shown_owner, same_code, makes, is_link_of, serves, failed_end, disconnect, finishes}
use Rattle.rules.proofs.Logic.{test, same_refl, same_ne, and_r, pick_yes, pick_no}
use Rattle.rules.proofs.Logic.{Nz, cond_same, cond_of, cond_and, cond_not}
use Rattle.rules.proofs.AnswerCodes.{of_code}
use Rattle.rules.proofs.History.Tells.{Tell, made, taken, disconnected, tell_of, ending_event, Valueless, can_start}
use Rattle.rules.proofs.History.Shows.{Shows, shows_of, Next, serves_after, is_made, is_finished, fails_now, disconnects_now}
use Rattle.rules.proofs.History.Moves
use Rattle.rules.proofs.History.Moves.{Move}
use Rattle.rules.proofs.History.World.{World}

-- ---- the links that a history names, by its takes and disconnects, are up to n
abbrev pub ToldUpTo : ℕ → Tell → Type 0
ToldUpTo n (taken d) = d ≤ n
ToldUpTo n (disconnected d) = d ≤ n
ToldUpTo n _ = Unit {0}

abbrev pub Bounds : ℕ → List Event → Type 0
Bounds n [] = Unit {0}
Bounds n (e ∷ h) = ToldUpTo n (tell_of e) × Bounds n h

pub told_grows : (n n' : ℕ) (t : Tell) → n ≤ n' → ToldUpTo n t → ToldUpTo n' t
told_grows n n' (taken d) le b = omega arith
told_grows n n' (disconnected d) le b = omega arith
told_grows n n' _ le b = b

pub bounds_grow : (n n' : ℕ) (h : List Event) → n ≤ n' → Bounds n h → Bounds n' h
bounds_grow n n' [] le b = b
bounds_grow n n' (e ∷ h) le b = (told_grows n n' (tell_of e) le b.0, bounds_grow n n' h le b.1)

pub bounds_next : (n : ℕ) (h : List Event) (e : Event) (t : Tell) → tell_of e ≡ t → ToldUpTo n t → Bounds n h → Bounds n (e ∷ h)
bounds_next n h e t is b bs = (rw is b, bs)

-- ---- what the event's tell says of each question
-- by whether the call is of kind k
of_it : {X : Type 0} (e : Event) (k : ℕ) → (e.call.kind ≡ k → X) → (eqb e.call.kind k ≡ false → X) → X
of_it e k f g = test (eqb e.call.kind k) (λ y. f (eqb-true _ _ y)) g

disc_tells : (e : Event) (f : ℕ → Bool) → of_kind 19 e && (accepted e && f (link_on e)) ≡ disconnects_now (tell_of e) f
unfolding tell_of of_kind link_on
disc_tells e f = of_it e 19
    (λ q. rw q (simp (cond_of (λ t. disconnects_now t f), cond_and)))
    (λ n. rw n (simp (cond_of (λ t. disconnects_now t f), cond_same)))

by_same : (o : ℕ) (e : Event) → by o e ≡ same e.call.party o
unfolding by same
by_same o e = refl

makes_tells : (e : Event) (d u : ℕ) → Nz u → makes u e && with_value d e ≡ is_made (tell_of e) d && same e.answer.tx u
unfolding tell_of makes of_kind ends_in with_value same
makes_tells e d u z = simp (cond_of (λ t. is_made t d), cond_same, cond_and) (test (eqb e.answer.tx u)
    (λ y. let r : e.answer.tx ≡ u = eqb-true _ _ y in rw (y, r, z) (simp (and-true, and_assoc)))
    (λ n. rw n (simp and-false)))

serves_tells : (e : Event) (f : ℕ → Bool) (h : List Event) (q : ℕ) → serves f (e ∷ h) q ≡ serves_after (tell_of e) (same e.call.party q) f (serves f h q)
unfolding tell_of serves of_kind by same accepted answered_by
serves_tells e f h q = of_it e 14
    (λ y. rw y (simp after (take-law (by q e) (accepted e) (f e.answer.value) (serves f h q))))
    (λ n14. of_it e 20
    (λ y. rw y (simp after (leave-law (by q e) (accepted e) (serves f h q))))
    (λ n20. of_it e 21
    (λ y. rw y (simp after (leave-law (by q e) (accepted e) (serves f h q))))
    (λ n21. rw (n14, n20, n21) (simp (after, cond_same, and-false)))))
  where
    after : (b : Bool) (s t : Tell) → serves_after (cond b s t) (eqb e.call.party q) f (serves f h q)
        ≡ cond b (serves_after s (eqb e.call.party q) f (serves f h q)) (serves_after t (eqb e.call.party q) f (serves f h q))
    after b s t = cond_of (λ t. serves_after t (eqb e.call.party q) f (serves f h q)) b s t

    take-law : (m a x b : Bool) → cond (m && (a && false)) false ((m && (a && x)) || b) ≡ cond a ((m && x) || b) b
    take-law true true x b = refl
    take-law true false x b = refl
    take-law false true x b = refl
    take-law false false x b = refl

    leave-law : (m a b : Bool) → cond (m && (a && true)) false ((m && (a && false)) || b) ≡ cond a (not m && b) b
    leave-law true true b = refl
    leave-law true false b = refl
    leave-law false true b = refl
    leave-law false false b = refl

finishes_tells : (e : Event) (d o : ℕ) → finishes d o e ≡ is_finished (tell_of e) d && (of_kind 15 e || by o e)
unfolding tell_of finishes of_kind on by same ending_event link_on replied accepted answered_by with_event
finishes_tells e d o = of_it e 15
    (λ y.
    rw y
    (simp (cond_of (λ t. is_finished t d), cond_and, or-false, and-true) (and_comm (eqb (cond (eqb e.call.b 1 && replied e) e.answer.value e.call.a) d) (replied e))))
    (λ n15. of_it e 17
    (λ y.
    rw y
    (simp (cond_of (λ t. is_finished t d), cond_and, cond_not) (unless (accepted e) (eqb e.call.a d) (by o e) (ending_event e) (λ a. rw (zero-code e.answer.code a)))))
    (λ n17. of_it e 18
    (λ y.
    rw y
    (simp (cond_of (λ t. is_finished t d), cond_and, cond_not) (unless (answered_by (pos 29) e && with_event 32 e) (eqb e.call.a d) (by o e) (ending_event e) given-first)))
    (λ n18. rw (n15, n17, n18) (simp (cond_of (λ t. is_finished t d), cond_same)))))
  where
    unless : (a l o x : Bool) → (a ≡ true → x ≡ false) → l && (o && x) ≡ (not a && (x && l)) && o
    unless true l o x e = rw (e refl) (simp and-false)
    unless false l o true e = rw and-true
    unless false l o false e = simp and-false

    -- SENDONLY is no ending event
    given-first : answered_by (pos 29) e && with_event 32 e ≡ true → ending_event e ≡ false
    given-first a = let r : e.answer.event ≡ 32 = eqb-true _ _ (and_r (answered_by (pos 29) e) _ a) in unfold ending_event with_event in rw (r, and-false)

    zero-code : (z : ℤ) → same_code (pos 0) z ≡ true → same_code (pos 29) z ≡ false
    zero-code z e = of_code (λ x. same_code (pos 29) x ≡ false) (pos 0) z refl e

fails_tells : (e : Event) → Valueless e → (b : Bool)
    → (of_kind 20 e || of_kind 21 e) && ((with_value 2 e || with_value 4 e) && b) ≡ fails_now (tell_of e) b
unfolding tell_of of_kind accepted answered_by with_value
fails_tells e nv b = of_it e 20
    (λ y. rw y (simp (cond_of (λ t. fails_now t b), cond_and) (needless (rw y))))
    (λ n20. of_it e 21
    (λ y. rw y (simp (cond_of (λ t. fails_now t b), cond_and) (needless (rw y))))
    (λ n21. rw (n20, n21) (simp (cond_of (λ t. fails_now t b), cond_same))))
  where
    needless : of_kind 20 e || of_kind 21 e ≡ true → (with_value 2 e || with_value 4 e) && b ≡ accepted e && ((with_value 2 e || with_value 4 e) && b)
    needless k = test (accepted e) (λ y. rw y) (λ n. rw (n, nv k n))

-- ---- what tests f and g say alike of numbers up to n, a history bounded by n shows alike
module _ (n : ℕ) (f g : ℕ → Bool) (alike : (d : ℕ) → d ≤ n → f d ≡ g d) where
  after_like : (t : Tell) (mine b : Bool) → ToldUpTo n t → serves_after t mine f b ≡ serves_after t mine g b
  after_like (taken d) mine b le = rw (alike d le)
  after_like _ mine b le = refl

  pub serves_like : (h : List Event) → Bounds n h → (q : ℕ) → serves f h q ≡ serves g h q
  unfolding serves
  serves_like [] b q = refl
  serves_like (e ∷ h) b q =
      serves_tells e f h q ∙ rw (serves_like h b.1 q) (after_like (tell_of e) (same e.call.party q) (serves g h q) b.0) ∙ sym (serves_tells e g h q)

  pub failed_like : (h : List Event) → Bounds n h → failed_end f h ≡ failed_end g h
  unfolding failed_end
  failed_like [] b = refl
  failed_like (e ∷ h) b = rw (serves_like h b.1 e.call.party, failed_like h b.1)

  pub disconnect_like : (h : List Event) → Bounds n h → disconnect f h ≡ disconnect g h
  unfolding disconnect some
  disconnect_like [] b = refl
  disconnect_like (e ∷ h) b =
      rw (disc_tells e f, disc_tells e g, step (tell_of e) b.0) (ap (λ x. disconnects_now (tell_of e) g || x) (disconnect_like h b.1))
    where
      step : (t : Tell) → ToldUpTo n t → disconnects_now t f ≡ disconnects_now t g
      step (disconnected d) le = alike d le
      step _ le = refl

-- a link is made with a number above n
abbrev pub MadeAbove : ℕ → Tell → Type 0
MadeAbove n (made d) = n < d
MadeAbove n _ = Unit {0}

none_made : (n : ℕ) (t : Tell) → MadeAbove n t → (d : ℕ) → d ≤ n → is_made t d ≡ false
none_made n (made x) above d le = same_ne x d (omega arith)
none_made n _ above d le = refl

-- a disconnect makes no link
disc_made : (t : Tell) (y : Bool) (f : ℕ → Bool) → disconnects_now t (λ d. (is_made t d && y) || f d) ≡ disconnects_now t f
disc_made (disconnected x) y f = refl
disc_made _ y f = refl

-- ---- the event e, which tells t, adds this to the history h
module _ (n : ℕ) (h : List Event) (e : Event) (t : Tell) (bounds : Bounds n h) (tells : tell_of e ≡ t) (above : MadeAbove n t)
    (valueless : Valueless e) where
  link_next : (d u : ℕ) → Nz u → is_link_of (e ∷ h) u d ≡ (is_made t d && same e.answer.tx u) || is_link_of h u d
  unfolding is_link_of some
  link_next d u z = rw (makes_tells e d u z, tells)

  links_like : (u : ℕ) → Nz u → (d : ℕ) → d ≤ n → is_link_of (e ∷ h) u d ≡ is_link_of h u d
  links_like u z d le = link_next d u z ∙ rw (none_made n t above d le)

  failed_next : (u : ℕ) → Nz u → failed_end (is_link_of (e ∷ h) u) (e ∷ h) ≡ fails_now t (serves (is_link_of h u) h e.call.party) || failed_end (is_link_of h u) h
  unfolding failed_end
  failed_next u z = rw (
    fails_tells e valueless (serves (is_link_of (e ∷ h) u) h e.call.party),
    tells,
    serves_like n (is_link_of (e ∷ h) u) (is_link_of h u) (links_like u z) h bounds e.call.party,
    failed_like n (is_link_of (e ∷ h) u) (is_link_of h u) (links_like u z) h bounds,
  )

  disc_next : (u : ℕ) → Nz u → disconnect (is_link_of (e ∷ h) u) (e ∷ h) ≡ disconnects_now t (is_link_of h u) || disconnect (is_link_of h u) h
  disc_next u z = unfold disconnect some in ap (λ x. x || disconnect (is_link_of (e ∷ h) u) h) (now ∙ disc_made t (same e.answer.tx u) (is_link_of h u))
      ∙ ap (λ x. disconnects_now t (is_link_of h u) || x) (disconnect_like n (is_link_of (e ∷ h) u) (is_link_of h u) (links_like u z) h bounds)
    where
      now : of_kind 19 e && (accepted e && is_link_of (e ∷ h) u (link_on e)) ≡ disconnects_now t (λ d. (is_made t d && same e.answer.tx u) || is_link_of h u d)
      now = disc_tells e (is_link_of (e ∷ h) u) ∙ rw (tells, fun_ext (λ d. link_next d u z))

  owner_next : (u q : ℕ)
      → shown_owner (e ∷ h) u q ≡ pick (some (ends_in u) h) (shown_owner h u q) ((same e.answer.tx u && can_start e.call) && same e.call.party q)
  unfolding shown_owner up_to_start started_by ends_in by of_kind can_start same
  owner_next u q = test (some (ends_in u) h)
      (λ y. rw (y, pick_yes))
      (λ n. rw (n, pick_no) (test (eqb e.answer.tx u) (λ y. rw y (and_comm (by q e) (can_start e.call))) (λ n. rw n)))

  pub next : Next t e.call.party e.answer.tx (can_start e.call) (shows_of h) (shows_of (e ∷ h))
  unfolding shows_of some
  next = record {
    serves' = λ q f. rw (← tells) (serves_tells e f h q);
    link_of' = link_next;
    made_by' = λ d u o z. rw (← and_assoc, makes_tells e d u z, tells, by_same o e);
    finishes' = λ d fi. rw (finishes_tells e d e.call.party, tells, fi, by_same e.call.party e, same_refl, or-true);
    finished' = λ d o fi. rw (fi, or-true);
    unfinished' = λ d o un. rw (finishes_tells e d o, tells, un);
    failed' = failed_next;
    disc' = disc_next;
    owner' = λ u q _. owner_next u q;
    seen' = λ u. unfold ends_in same in refl;
  }

-- ---- a move's numbers
module _ {c : Call} {p n m : ℕ} {P : ℕ → Party} {L : ℕ → Link} {n' m' : ℕ} {P' : ℕ → Party} {L' : ℕ → Link} where
  -- the last link's and the last transaction's never fall
  kept_grows : Moves.Kept c p n m P L n' m' P' L' → (n ≤ n') × (m ≤ m')
  kept_grows k = (omega (arith, k.link), omega (arith, k.tx))

  pub move_grows : {t : Tell} → Move c p n m P L n' m' P' L' t → (n ≤ n') × (m ≤ m')
  move_grows (Moves.quiet k _ _ _) = kept_grows k
  move_grows (Moves.sends k _ _) = kept_grows k
  move_grows (Moves.grants k _ _) = kept_grows k
  move_grows (Moves.finishes k _ _) = kept_grows k
  move_grows (Moves.cancels k _ _) = kept_grows k
  move_grows (Moves.disconnects k _ _) = kept_grows k
  move_grows (Moves.leaves k _ _ _) = kept_grows k
  move_grows (Moves.ends k _) = kept_grows k
  move_grows (Moves.begins a b _ _ _) = (omega arith, omega arith)
  move_grows (Moves.renews a b _ _ _ _ _) = (omega arith, omega arith)
  move_grows (Moves.makes a b _ _ _) = (omega arith, omega arith)
  move_grows (Moves.makes_free a b _) = (omega arith, omega arith)
  move_grows (Moves.takes k _ _) = kept_grows k

  pub move_above : {t : Tell} → Move c p n m P L n' m' P' L' t → MadeAbove n t
  move_above (Moves.makes _ _ _ _ _) = omega arith
  move_above _ = tt

  pub move_told : {t : Tell} {v : Shows} → World n m P L v → Move c p n m P L n' m' P' L' t → ToldUpTo n t
  move_told w (Moves.takes _ d x) = w.upper d x.there
  move_told w (Moves.disconnects _ d x) = w.upper d x.there
  move_told w _ = tt
