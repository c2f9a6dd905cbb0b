-- The invariant of demand 3's sender rule: whoever may send on a conversation is not barred; each move keeps it.
-- Assumes nothing.
use Rattle.std.proofs.Common.{◌≡◌, refl, sym, subst, ◌∙◌, Bool, true, false, not, ◌&&◌, ◌||◌}
use Rattle.std.proofs.Common.{List, [], ◌∷◌, ℕ, suc, ◌≤◌, ◌<◌, arith, eqb, pos, eqb-true, eq-eqb}
use Rattle.std.proofs.Math.Bool.{and-false, and_comm}
use Rattle.rules.specs.Choice.{pick, same}
use Rattle.rules.specs.Record.{is_conversation, is_waiting, working}
use Rattle.rules.specs.History.{Event, some, of_kind, by, answered_by, with_event, link_on, on, is_send, given_send_only, sender_rule}
use Rattle.rules.specs.declared.Call.{Call}
use Rattle.rules.specs.declared.Link.{Link}
use Rattle.rules.specs.declared.Party.{Party}
use Rattle.rules.proofs.Logic.{Nz, pick_true, pick_false, by_test, test, not_both, same_refl, same_true, same_ne, or_l, or_r}
use Rattle.rules.proofs.Fine.{no_link}
use Rattle.rules.proofs.History.Tells.{Tell, nothing, sent, given, taken, tell_of}
use Rattle.rules.proofs.History.Moves
use Rattle.rules.proofs.History.Moves.{Like, Left, alike, gone, shut, back, End, origin, service, Sends, Grants, Makes, Takes, Move}
use Rattle.rules.proofs.History.Left.{fades}
use Rattle.rules.proofs.History.Sending.{any_sent, barred, sender_rule_lem, sends_at, gives_at, tells_send, tells_given}

-- is the end that may send barred: a says whether anything was sent on the link, f which parties are barred on it
unfoldable pub turn_barred : Bool → (ℕ → Bool) → Link → Bool
turn_barred a f l = pick (eqb l.sender 1) (pick (is_waiting l) a (f l.server)) (f l.originator)

pub record Turns (n : ℕ) (L : ℕ → Link) (h : List Event) : Type 0 where
  pub unsent : (d : ℕ) → n < d → any_sent h d ≡ false
  pub fewer : (q d : ℕ) → any_sent h d ≡ false → barred h q d ≡ false
  pub calm : (d : ℕ) → is_conversation (L d) ≡ true → turn_barred (any_sent h d) (λ q. barred h q d) (L d) ≡ false

-- ---- how an event adds to it
module _ (h : List Event) (e : Event) where
  any_next : (d : ℕ) → any_sent (e ∷ h) d ≡ sends_at (tell_of e) d || any_sent h d
  unfolding any_sent some
  any_next d = rw (tells_send e d)

  barred_next : (q d : ℕ)
      → barred (e ∷ h) q d ≡ (sends_at (tell_of e) d && not (same e.call.party q)) || (not (gives_at (tell_of e) d && same e.call.party q) && barred h q d)
  unfolding barred given_send_only by same
  barred_next q d = rw (← tells_send e d, ← tells_given e d)
      (swap (is_send e) (on d e) (not (eqb e.call.party q)) (eqb e.call.party q)
      (of_kind 18 e && (on d e && (answered_by (pos 29) e && with_event 32 e))) (barred h q d))
    where
      swap : (s o n m g b : Bool) → (s && (o && n)) || (not (m && g) && b) ≡ ((s && o) && n) || (not (g && m) && b)
      swap true o n m g b = rw (and_comm m g)
      swap false o n m g b = rw (and_comm m g)

  -- nobody is barred by what is no send on d
  bar_keep : (q d : ℕ) → sends_at (tell_of e) d ≡ false → barred h q d ≡ false → barred (e ∷ h) q d ≡ false
  bar_keep q d s b = barred_next q d ∙ rw (s, b, and-false)

  any_keep : (d : ℕ) → sends_at (tell_of e) d ≡ false → any_sent (e ∷ h) d ≡ any_sent h d
  any_keep d s = any_next d ∙ rw s

  fewer_next : ((q d : ℕ) → any_sent h d ≡ false → barred h q d ≡ false) → (q d : ℕ) → any_sent (e ∷ h) d ≡ false → barred (e ∷ h) q d ≡ false
  fewer_next f q d a = let z = sym (any_next d) ∙ a in bar_keep q d (or_l _ _ z) (f q d (or_r (sends_at (tell_of e) d) _ z))

  turn_keep : (d : ℕ) (l : Link) → sends_at (tell_of e) d ≡ false → turn_barred (any_sent h d) (λ q. barred h q d) l ≡ false
      → turn_barred (any_sent (e ∷ h) d) (λ q. barred (e ∷ h) q d) l ≡ false
  unfolding turn_barred
  turn_keep d l s t = test (eqb l.sender 1)
      (λ x. test (is_waiting l)
      (λ w. pick_true _ _ _ x ∙ pick_true _ _ _ w ∙ any_keep d s ∙ sym (pick_true _ _ _ x ∙ pick_true _ _ _ w) ∙ t)
      (λ w. pick_true _ _ _ x ∙ pick_false _ _ _ w ∙ bar_keep l.server d s (sym (pick_true _ _ _ x ∙ pick_false _ _ _ w) ∙ t)))
      (λ x. pick_false _ _ _ x ∙ bar_keep l.originator d s (sym (pick_false _ _ _ x) ∙ t))

-- ---- what is left of a link has the same turn
pub left_turn : (a : Bool) (f : ℕ → Bool) (l l' : Link) → Left l l' → (is_conversation l ≡ true → turn_barred a f l ≡ false) → is_conversation l' ≡ true
    → turn_barred a f l' ≡ false
unfolding turn_barred
left_turn a f l l' (alike k s) t c = rw (s, k.state', k.server', k.originator') (t (rw k.kind' at c))
left_turn a f l l' (gone k) t c = not_both (rw k at c) (unfold no_link in refl)
left_turn a f l l' (shut k) t c = rw (k.sender', k.state', k.server', k.originator') (t (rw k.kind' at c))
left_turn a f l l' (back k) t c =
    let w = eqb-true l.state 1 k.worked in
    rw (k.sender', k.state', k.server', k.originator') (rw w at (t (rw k.kind' at c)))

-- where nothing was sent nobody is barred
free : (a : Bool) (f : ℕ → Bool) (l : Link) → a ≡ false → ((q : ℕ) → f q ≡ false) → turn_barred a f l ≡ false
unfolding turn_barred
free a f l z g = by_test (λ x. x ≡ false) (λ _. by_test (λ x. x ≡ false) (λ _. z) (λ _. g l.server)) (λ _. g l.originator)

module _ (n : ℕ) (L : ℕ → Link) (h : List Event) (e : Event) (i : Turns n L h) (n' : ℕ) (L' : ℕ → Link) where
  -- an event that is no send
  still : n ≤ n' → ((d : ℕ) → sends_at (tell_of e) d ≡ false)
      → ((d : ℕ) → is_conversation (L' d) ≡ true → turn_barred (any_sent h d) (λ q. barred h q d) (L' d) ≡ false) → Turns n' L' (e ∷ h)
  still le s t = record {
    unsent = λ d b. any_keep h e d (s d) ∙ i.unsent d (omega arith);
    fewer = fewer_next h e i.fewer;
    calm = λ d c. turn_keep h e d (L' d) (s d) (t d c);
  }

  lost : n ≤ n' → ((d : ℕ) → sends_at (tell_of e) d ≡ false) → ((d : ℕ) → Left (L d) (L' d)) → Turns n' L' (e ∷ h)
  lost le s less = still le s (λ d. left_turn _ _ (L d) (L' d) (less d) (i.calm d))

-- party p's end is the sender's: it is not barred
end_free : (a : Bool) (f : ℕ → Bool) (l : Link) (p : ℕ) {side : ℕ} → End l p side → l.sender ≡ side → turn_barred a f l ≡ false → f p ≡ false
unfolding turn_barred pick
end_free a f l p (origin o) s t = rw o at (rw s at t)
end_free a f l p (service o w) s t = rw o at (rw (s, w) at t)

-- and the other way round
end_turn : (a : Bool) (f : ℕ → Bool) (l l' : Link) (p : ℕ) {side : ℕ} → End l p side → Like l l' → l'.sender ≡ side → f p ≡ false → turn_barred a f l' ≡ false
unfolding turn_barred pick
end_turn a f l l' p (origin o) k s t = rw (s, k.originator', o) t
end_turn a f l l' p (service o w) k s t = rw (s, k.state', w, k.server', o) t

-- ---- the moves; upper: no link is there above the last number
module _ (c : Call) (p n m : ℕ) (P : ℕ → Party) (L : ℕ → Link) (n' m' : ℕ) (P' : ℕ → Party) (L' : ℕ → Link)
    (h : List Event) (e : Event) (mine : e.call.party ≡ p) (upper : (d : ℕ) → Nz (L d).number → d ≤ n) (i : Turns n L h) where
  -- what is told is no send
  quietly : {t : Tell} → tell_of e ≡ t → ((d : ℕ) → sends_at t d ≡ false) → (d : ℕ) → sends_at (tell_of e) d ≡ false
  quietly q s d = rw q (s d)

  like_turn : (x : ℕ) → Like (L x) (L' x) → (L' x).sender ≡ (L x).sender → is_conversation (L' x) ≡ true
      → turn_barred (any_sent h x) (λ q. barred h q x) (L' x) ≡ false
  like_turn x k s = left_turn _ _ (L x) (L' x) (alike k s) (i.calm x)

  -- the sender is not barred
  pub sender_free : (d : ℕ) → Sends P L P' L' p d → barred h p d ≡ false
  sender_free d s = end_free (any_sent h d) (λ q. barred h q d) (L d) p s.end s.sender (i.calm d s.conversation)

  -- nor after its own send
  sent_turns : (d : ℕ) → n' ≡ n → tell_of e ≡ sent d → Sends P L P' L' p d → Turns n' L' (e ∷ h)
  sent_turns d k q s = record {
    unsent = λ x b. let u = upper d s.there in let ne : d ≡ x → ⊥ = λ r. omega arith in any_next h e x ∙ rw (q, same_ne d x ne) (i.unsent x (omega arith));
    fewer = fewer_next h e i.fewer;
    calm = λ x z. test (same d x)
        (λ y. let r : x ≡ d = sym (same_true d x y) in rw r (end_turn _ _ (L d) (L' d) p s.end (s.like d) (s.sender' d ∙ s.sender) after))
        (λ y. turn_keep h e x (L' x) (rw (q, y)) (like_turn x (s.like x) (s.sender' x) z));
  }
    where
      after : barred (e ∷ h) p d ≡ false
      after = barred_next h e p d ∙ rw (q, mine, same_refl d, same_refl p) (sender_free d s)

  -- whoever is given SENDONLY is barred no longer
  given_turns : (d : ℕ) → n' ≡ n → tell_of e ≡ given d → Grants P L P' L' p d → Turns n' L' (e ∷ h)
  given_turns d k q s = record {
    unsent = λ x b. any_keep h e x (rw q) ∙ i.unsent x (omega arith);
    fewer = fewer_next h e i.fewer;
    calm = λ x z. test (same x d)
        (λ y. let r : x ≡ d = same_true x d y in rw r (end_turn _ _ (L d) (L' d) p s.end (s.like d) s.sender after))
        (λ y. turn_keep h e x (L' x) (rw q) (like_turn x (s.like x) (s.others x y) z));
  }
    where
      after : barred (e ∷ h) p d ≡ false
      after = barred_next h e p d ∙ rw (q, mine, same_refl d, same_refl p)

  -- nothing was sent on a new link
  made_turns : (x : ℕ) → n' ≡ suc n → ((d : ℕ) → sends_at (tell_of e) d ≡ false) → Makes P L P' L' p (suc n) x → Turns n' L' (e ∷ h)
  made_turns x k q s = still n L h e i n' L' (omega arith) q (λ d. test (same d (suc n))
      (λ y z.
      let r : d ≡ suc n = same_true _ _ y in
      let none = i.unsent d (omega arith) in
      free (any_sent h d) (λ q. barred h q d) (L' d) none (λ q. i.fewer q d none))
      (λ y. rw (s.others d y) (i.calm d)))

  -- a waiting link's server-to-be has heard of no send
  taken_turns : (d : ℕ) → n' ≡ n → tell_of e ≡ taken d → Takes P L P' L' p d → Turns n' L' (e ∷ h)
  taken_turns d k q s = still n L h e i n' L' (omega arith) (quietly q (λ _. refl)) (λ x. test (same x d)
      (λ y. let r : x ≡ d = same_true _ _ y in rw (r, s.works) works)
      (λ y. rw (s.others x y) (i.calm x)))
    where
      works : is_conversation (L d) ≡ true → turn_barred (any_sent h d) (λ q. barred h q d) (working (L d) p) ≡ false
      works z = unfold turn_barred in test (eqb (L d).sender 1)
          (λ y. pick_true _ _ _ y ∙ pick_false _ _ _ refl ∙ i.fewer p d (sym (pick_true _ _ _ y ∙ pick_true _ _ _ s.waits) ∙ i.calm d z))
          (λ y. pick_false _ _ _ y ∙ sym (pick_false _ _ _ y) ∙ i.calm d z)

  pub turns : {t : Tell} → tell_of e ≡ t → Move c p n m P L n' m' P' L' t → Turns n' L' (e ∷ h)
  turns q (Moves.quiet k a b s) = lost n L h e i n' L' (omega (arith, k.link)) (quietly q (λ _. refl)) (λ d. alike (b d) (s d))
  turns q (Moves.sends k d s) = sent_turns d k.link q s
  turns q (Moves.grants k d s) = given_turns d k.link q s
  turns q (Moves.finishes k d s) = lost n L h e i n' L' (omega (arith, k.link)) (quietly q (λ _. refl)) (fades d s.others (gone s.gone'))
  turns q (Moves.cancels k d s) = lost n L h e i n' L' (omega (arith, k.link)) (quietly q (λ _. refl)) (fades d s.others s.fade)
  turns q (Moves.disconnects k d s) = lost n L h e i n' L' (omega (arith, k.link)) (quietly q (λ _. refl)) (fades d s.others s.fade)
  turns q (Moves.leaves k bad s _) = lost n L h e i n' L' (omega (arith, k.link)) (quietly q (λ _. refl)) s.less
  turns q (Moves.ends k s) = lost n L h e i n' L' (omega (arith, k.link)) (quietly q (λ _. refl)) s.less
  turns q (Moves.begins a b _ _ s) = still n L h e i n' L' (omega (arith, a)) (quietly q (λ _. refl)) (λ d. rw (s.links' d) (i.calm d))
  turns q (Moves.renews a b _ Pₑ Lₑ s r) =
      still n L h e i n' L' (omega (arith, a)) (quietly q (λ _. refl)) (λ d. rw (r.links' d) (left_turn _ _ (L d) (Lₑ d) (s.less d) (i.calm d)))
  turns q (Moves.makes a b x _ s) = made_turns x a (quietly q (λ _. refl)) s
  turns q (Moves.makes_free a b s) = made_turns 0 a (quietly q (λ _. refl)) s
  turns q (Moves.takes k d s) = taken_turns d k.link q s

  -- the sender rule at this event
  pub sender_holds : {t : Tell} → tell_of e ≡ t → Move c p n m P L n' m' P' L' t → sender_rule h e ≡ true
  sender_holds q k = sender_rule_lem h e (λ s. subst (λ (x : ℕ). barred h x (link_on e) ≡ false) (sym mine) (spoken q k (own-send s)))
    where
      own-send : is_send e ≡ true → sends_at (tell_of e) (link_on e) ≡ true
      own-send s = unfold on in (sym (tells_send e (link_on e)) ∙ rw (s, eq-eqb (link_on e) (link_on e) refl))

      spoken : {t : Tell} → tell_of e ≡ t → Move c p n m P L n' m' P' L' t → sends_at (tell_of e) (link_on e) ≡ true → barred h p (link_on e) ≡ false
      spoken q (Moves.sends k d s) y = let r : d ≡ link_on e = same_true _ _ (rw q at y) in rw (← r) (sender_free d s)
      spoken q _ y = not_both (rw q at y) refl

-- an event that tells nothing and leaves the links
pub turns_still : (n : ℕ) (L : ℕ → Link) (h : List Event) (e : Event) → Turns n L h → tell_of e ≡ nothing → Turns n L (e ∷ h)
turns_still n L h e i q = still n L h e i n L (omega arith) (λ d. rw q) i.calm

pub silent_rule : (h : List Event) (e : Event) → tell_of e ≡ nothing → sender_rule h e ≡ true
silent_rule h e q = sender_rule_lem h e (λ s. unfold on in not_both (rw (s, eq-eqb (link_on e) (link_on e) refl) at (sym (tells_send e (link_on e)))) (rw q))

pub no_turns : (n : ℕ) (L : ℕ → Link) → Turns n L []
unfolding any_sent barred some turn_barred
no_turns n L =
    record {
      unsent = λ _ _. refl;
      fewer = λ _ _ _. refl;
      calm = λ d _. by_test (λ x. x ≡ false) (λ _. by_test (λ x. x ≡ false) (λ _. refl) (λ _. refl)) (λ _. refl);
    }
