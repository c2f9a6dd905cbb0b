-- Laws of what is left of a link: what it still is, it was before.
-- Assumes nothing.
use Rattle.std.proofs.Common.{◌≡◌, refl, ap, ◌∙◌, true, false, ◌||◌, ℕ, ◌≤◌, arith, rules}
use Rattle.std.proofs.Math.Bool.{or-true}
use Rattle.rules.specs.Choice.{same}
use Rattle.rules.specs.Record.{is_attached, is_waiting, is_working, is_returned, is_ending}
use Rattle.rules.specs.declared.Link.{Link}
use Rattle.rules.proofs.Logic.{Nz, same_refl, same_true, test, not_both, or_cases, by_number}
use Rattle.rules.proofs.Fine.{no_link}
use Rattle.rules.proofs.History.Moves.{is_whole, Like, Left, alike, gone, shut, back}

pub like_refl : {l l' : Link} → l' ≡ l → Like l l'
like_refl e = search rules

pub left_refl : {l l' : Link} → l' ≡ l → Left l l'
left_refl e = alike (like_refl e) (ap (λ x. x.sender) e)

-- its transaction, if it has one
pub left_tx : {l l' : Link} → Left l l' → Nz l'.tx → l'.tx ≡ l.tx
unfolding no_link
left_tx (alike e s) z = e.tx'
left_tx (gone e) z = not_both (same_refl 0) (rw e at z)
left_tx (shut e) z = e.tx'
left_tx (back e) z = e.tx'

pub left_nought : {l l' : Link} → Left l l' → l.tx ≡ 0 → l'.tx ≡ 0
left_nought {l} {l'} x e = test (same l'.tx 0) (λ z. same_true _ _ z) (λ z. left_tx x z ∙ e)

pub left_low : {l l' : Link} (m : ℕ) → Left l l' → l.tx ≤ m → l'.tx ≤ m
left_low {l} {l'} m x b = test (same l'.tx 0) (λ z. omega (arith, same_true _ _ z)) (λ z. rw (left_tx x z) b)

-- what a link that is there keeps
pub left_number : {l l' : Link} → Left l l' → Nz l'.number → (l'.number ≡ l.number) × (l'.tx ≡ l.tx) × (l'.originator ≡ l.originator)
unfolding no_link
left_number (alike e s) z = (e.number', e.tx', e.originator')
left_number (gone e) z = not_both (same_refl 0) (rw e at z)
left_number (shut e) z = (e.number', e.tx', e.originator')
left_number (back e) z = (e.number', e.tx', e.originator')

-- what one with the originator's end open keeps
pub left_open : {l l' : Link} → Left l l' → is_attached l' ≡ true
    → (is_attached l ≡ true) × (l'.originator ≡ l.originator) × (l'.tx ≡ l.tx) × (l'.number ≡ l.number)
unfolding no_link
left_open (alike e s) z = (rw e.attached' at z, e.originator', e.tx', e.number')
left_open (gone e) z = not_both (rw e at z) refl
left_open (shut e) z = not_both z e.closed'
left_open (back e) z = (rw e.attached' at z, e.originator', e.tx', e.number')

pub left_waiting : {l l' : Link} → Left l l' → is_waiting l' ≡ true → is_waiting l ≡ true
unfolding no_link
left_waiting (alike e s) z = rw e.state' at z
left_waiting (gone e) z = not_both (rw e at z) refl
left_waiting (shut e) z = rw e.state' at z
left_waiting (back e) z = not_both (rw e.state' at z) refl

pub left_live : {l l' : Link} → Left l l' → is_attached l' || is_waiting l' ≡ true → is_attached l || is_waiting l ≡ true
left_live {l} {l'} x o = or_cases (is_attached l') (is_waiting l') o (λ z. rw (left_open x z).0) (λ z. rw (left_waiting x z, or-true))

-- what a working one keeps
pub left_working : {l l' : Link} → Left l l' → is_working l' ≡ true
    → (is_working l ≡ true) × (l'.number ≡ l.number) × (l'.server ≡ l.server) × (l'.tx ≡ l.tx)
unfolding no_link
left_working (alike e s) z = (rw e.state' at z, e.number', e.server', e.tx')
left_working (gone e) z = not_both (rw e at z) refl
left_working (shut e) z = (rw e.state' at z, e.number', e.server', e.tx')
left_working (back e) z = not_both (rw e.state' at z) refl

-- a disconnected one has the originator's end closed
pub left_disconnected : {l l' : Link} → Left l l' → (is_whole l ≡ false → is_attached l ≡ false) → is_whole l' ≡ false → is_attached l' ≡ false
unfolding no_link
left_disconnected (alike e s) f z = rw e.attached' (f (rw e.whole' at z))
left_disconnected (gone e) f z = rw e
left_disconnected (shut e) f z = e.closed'
left_disconnected (back e) f z = rw e.attached' (f (rw e.whole' at z))

-- a returned one has an outcome
pub left_ends : {l l' : Link} → Left l l' → (is_returned l ≡ true → is_ending l.outcome ≡ true) → is_returned l' ≡ true → is_ending l'.outcome ≡ true
unfolding no_link
left_ends (alike e s) f z = rw e.outcome' (f (rw e.state' at z))
left_ends (gone e) f z = rw e
left_ends (shut e) f z = rw e.outcome' (f (rw e.state' at z))
left_ends (back e) f z = e.ending'

-- ---- one link fades, the others stay
module _ {L L' : ℕ → Link} (d : ℕ) (others : (e : ℕ) → same e d ≡ false → L' e ≡ L e) where
  pub fades : Left (L d) (L' d) → (e : ℕ) → Left (L e) (L' e)
  fades fade = by_number d (λ e. Left (L e) (L' e)) fade (λ e q. left_refl (others e q))

  pub fades_works : (is_working (L d) ≡ true → is_working (L' d) ≡ true) → (e : ℕ) → is_working (L e) ≡ true → is_working (L' e) ≡ true
  fades_works f = by_number d (λ e. is_working (L e) ≡ true → is_working (L' e) ≡ true) f (λ e q. rw (others e q) (λ z. z))
