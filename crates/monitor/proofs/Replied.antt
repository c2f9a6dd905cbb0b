-- Laws of a returned request: a reply that is there can be fetched, since it has an outcome; and it stands no earlier than the first request end.
-- Assumes nothing.
use Rattle.std.proofs.Common.{ℕ, suc, ◌<◌, ◌≤◌, ◌≡◌, ap, sym, ◌∙◌, Bool, true, false, List, [], ◌∷◌, arith}
use Rattle.rules.specs.declared.Link.{Link}
use Rattle.rules.specs.Record.{is_ending, is_returned, live, place_of, link_of}
use Rattle.rules.specs.declared.Monitor.{Monitor}
use Rattle.rules.specs.Lists.{first_of}
use Rattle.rules.specs.Replies.{request_end, expired_end, replied_end, next_reply}
use Rattle.rules.specs.Sound.{sound}
use Rattle.rules.proofs.Changes.{place_fits}
use Rattle.rules.proofs.Sound.{sound_ended}
use Rattle.rules.proofs.Logic.{and_l, pick_true, pick_false, test}
use Rattle.rules.proofs.History.Walk.Replies.{replied_end_lem, replied_returned}
use Rattle.monitor.specs.View.{view, link_in, live_at}
use Rattle.monitor.proofs.Laws.{live_long, read_live, read_ended, sound_room}

-- the first that passes a test stands no earlier than the first that passes one that asks less
no_earlier : (f g : Link → Bool) → ((l : Link) → f l ≡ true → g l ≡ true) → (s : List Link) → first_of g s ≤ first_of f s
unfolding first_of
no_earlier f g h [] = omega arith
no_earlier f g h (x ∷ s) = test (g x)
    (λ t. let z : first_of g (x ∷ s) ≡ 0 = pick_true _ _ _ t in omega arith)
    (λ t. let z : first_of g (x ∷ s) ≡ suc (first_of g s) = pick_false _ _ _ t in
    let r = no_earlier f g h s in
    test (f x)
    (λ e. let w : ◌≡◌ {A = Bool} true false = sym (h x e) ∙ t in cc)
    (λ e. let w : first_of f (x ∷ s) ≡ suc (first_of f s) = pick_false _ _ _ e in omega arith))

-- of party p's request ends, of which the first stands at the place `from`
module _ (m : Monitor) (p : ℕ) {from : ℕ} (e : from ≡ first_of (request_end p) (live m)) where
  pub expired_from : from ≤ first_of (expired_end m p) (live m)
  unfolding expired_end
  expired_from = let r = no_earlier (expired_end m p) (request_end p) (λ l t. and_l _ _ t) (live m) in omega arith

  pub replied_from : from ≤ first_of (replied_end p) (live m)
  replied_from = let r = no_earlier (replied_end p) (request_end p) (λ l t. replied_end_lem p l t) (live m) in omega arith

module _ (xs : List ℕ) (h : sound (view xs) ≡ true) where
  -- the link l found by its number
  pub found_ended : (a : ℕ) {l : Link} → l ≡ link_of (view xs) a → is_returned l ≡ true → is_ending l.outcome ≡ true
  unfolding link_of
  found_ended a e r = ap (λ (x : Link). is_ending x.outcome) e ∙ sound_ended (view xs) h (place_of (view xs) a) (ap (λ (x : Link). is_returned x) (sym e) ∙ r)

  -- the link l that was read at the place of the next reply
  pub next_ended : (p : ℕ) {i : ℕ} {l : Link} → i ≡ next_reply (view xs) p → i < (view xs).count → l ≡ link_in (view xs) i → is_ending l.outcome ≡ true
  next_ended p {i = i} e k r =
      let n = live_long xs (sound_room _ h) in
      let returned = ap (λ (x : Link). is_returned x) (read_live xs i (sound_room _ h) k r ∙ ap (live_at (view xs)) e)
      ∙ replied_returned p _ (place_fits (replied_end p) (live (view xs)) (omega arith)) in
      read_ended xs h i k r returned
