-- What is left of a link as party p's own ends close and its transaction t (0: it has none) ends, and as the link that it served goes back.
-- Assumes nothing.
use Rattle.std.proofs.Common.{◌≡◌, refl, sym, ◌∙◌, true, false, ◌||◌, ℕ, eqb, rules}
use Rattle.rules.specs.Choice.{pick, same}
use Rattle.rules.specs.Record.{is_attached, is_waiting, is_working, is_ending, own_end, returned}
use Rattle.rules.specs.Return.{close_end, unread_after}
use Rattle.rules.specs.declared.Link.{Link}
use Rattle.rules.proofs.Logic.{by_test, test, not_both, pick_true, pick_false, and_r, same_true, Nz}
use Rattle.rules.proofs.Fine.{no_link}
use Rattle.rules.proofs.Changes.{Thin, Thins, none, one, left_in, left_by}
use Rattle.rules.proofs.History.Moves.{is_whole, Like, Back, Left, gone, back}
use Rattle.rules.proofs.History.Left.{like_refl}
use Rattle.rules.proofs.History.Walk.LinkChanges.{no_link_attached, no_link_waiting, working_returned_not, closed_shut, disconnected_link_shut}
use Rattle.rules.proofs.History.Walk.LinkChanges.{dropped_like, returned_back, own_end_lem, no_link_own}
use Rattle.rules.proofs.History.Walk.Ending.{end_left, end_works, end_swept, end_spared, end_none, Fade, stays}
use Rattle.rules.proofs.History.Walk.Ending.{goes, shuts, fade_left, fade_open, end_fade, Works, Dull}

-- both come to pass
unfoldable pub part_left : ℕ → ℕ → Link → Link
part_left p t l = pick (eqb t 0) (left_by (close_end p) l) (end_left t (left_by (close_end p) l))

-- the served link, which was l and is x by now, goes back with the outcome o and the ending token e
unfoldable pub hand_left : ℕ → ℕ → Link → Link
hand_left o e x = pick (is_attached x) (returned x o e) no_link

-- where the originator's end is open then, it was before, and the link has returned
pub hand_open : {X : Type 0} (o e : ℕ) (x : Link) → is_attached (hand_left o e x) ≡ true
    → (is_attached x ≡ true → hand_left o e x ≡ returned x o e → X) → X
unfolding hand_left
hand_open o e x a f = test (is_attached x)
    (λ y. f y (pick_true _ _ _ y))
    (λ n. not_both (rw (pick_false (is_attached x) (returned x o e) no_link n) at a) no_link_attached)

-- ---- the closing leaves of a link none or one, with its number
pub close_thin : (p : ℕ) → Thins (close_end p)
unfolding close_end
close_thin p l = by_test (Thin l)
    (λ _. by_test (Thin l) (λ _. by_test (Thin l) (λ _. one _ refl) (λ _. none)) (λ _. by_test (Thin l) (λ _. none) (λ _. one _ refl)))
    (λ _. one _ refl)

pub close_no : (p : ℕ) → left_by (close_end p) no_link ≡ no_link
unfolding close_end left_in
close_no p = by_test (λ xs. left_in xs ≡ no_link) (λ o. not_both o (no_link_own p)) (λ _. refl)

-- ---- the link fades, whatever the closing and the end do to it
close_fade : (p : ℕ) (l : Link) → Fade l (left_by (close_end p) l)
unfolding close_end left_in
close_fade p l = by_test (λ xs. Fade l (left_in xs))
    (λ _. by_test (λ xs. Fade l (left_in xs))
    (λ _. by_test (λ xs. Fade l (left_in xs)) (λ _. shuts (disconnected_link_shut l)) (λ _. goes refl))
    (λ _. by_test (λ xs. Fade l (left_in xs)) (λ _. goes refl) (λ _. shuts (closed_shut l))))
    (λ _. stays refl)

part_fade : (p t : ℕ) (l : Link) → Fade l (part_left p t l)
unfolding part_left
part_fade p t l = by_test (Fade l) (λ _. close_fade p l) (λ _. end_fade t l _ (close_fade p l))

-- a link whose originator's end is open then is as it was
pub part_open : (p t : ℕ) (l : Link) → is_attached (part_left p t l) ≡ true → part_left p t l ≡ l
part_open p t l a = fade_open l _ (part_fade p t l) a

-- ---- a working link works on
close_works : (p : ℕ) (l : Link) → Works l → Works (left_by (close_end p) l)
unfolding close_end left_in
close_works p l w = by_test (λ xs. Works (left_in xs))
    (λ _. by_test (λ xs. Works (left_in xs))
    (λ _. by_test (λ xs. Works (left_in xs)) (λ _. w) (λ n. not_both w n))
    (λ _. by_test (λ xs. Works (left_in xs)) (λ r. not_both r (working_returned_not l w)) (λ _. w)))
    (λ _. w)

pub part_works : (p t : ℕ) (l : Link) → is_working l ≡ true → is_working (part_left p t l) ≡ true
unfolding part_left
part_works p t l w = by_test Works (λ _. close_works p l w) (λ _. end_works t _ (close_works p l w))

-- ---- p's own ends are closed
close_own_lem : (p : ℕ) (l : Link) → l.originator ≡ p → is_attached (left_by (close_end p) l) ≡ false
unfolding close_end left_in
close_own_lem p l e = by_test (λ xs. is_attached (left_in xs) ≡ false)
    (λ _. by_test (λ xs. is_attached (left_in xs) ≡ false)
    (λ _. by_test (λ xs. is_attached (left_in xs) ≡ false) (λ _. refl) (λ _. no_link_attached))
    (λ _. by_test (λ xs. is_attached (left_in xs) ≡ false) (λ _. no_link_attached) (λ _. refl)))
    (λ n. test (is_attached l) (λ o. not_both (own_end_lem p l o e) n) (λ o. o))

end_shut : (t : ℕ) (l : Link) → is_attached l ≡ false → is_attached (end_left t l) ≡ false
end_shut t l s = test (is_attached (end_left t l)) (λ o. not_both (rw (← fade_open l _ (end_fade t l l (stays refl)) o) o) s) (λ o. o)

part_own : (p t : ℕ) (l : Link) → l.originator ≡ p → is_attached (part_left p t l) ≡ false
unfolding part_left
part_own p t l e = by_test (λ (x : Link). is_attached x ≡ false) (λ _. close_own_lem p l e) (λ _. end_shut t _ (close_own_lem p l e))

-- ---- the links of a transaction that ends are neither open nor waiting
fade_dull : (t : ℕ) (l x : Link) → Fade l x → (is_whole l ≡ false → is_attached l ≡ false) → Nz t → l.tx ≡ t → Dull (end_left t x)
fade_dull t l x (stays i) c z e = rw i (end_swept t l c e)
fade_dull t l x (goes i) c z e = rw (i, end_none t z, no_link_attached) no_link_waiting
fade_dull t l x (shuts s) c z e = end_swept t x (λ _. s.closed') (s.tx' ∙ e)

pub part_dull : (p t : ℕ) (l : Link) → (is_whole l ≡ false → is_attached l ≡ false) → Nz t → l.tx ≡ t
    → is_attached (part_left p t l) || is_waiting (part_left p t l) ≡ false
unfolding part_left same
part_dull p t l c z e = rw (pick_false (eqb t 0) (left_by (close_end p) l) (end_left t (left_by (close_end p) l)) z)
    (fade_dull t l _ (close_fade p l) c z e)

-- ---- a link that is neither p's nor of its transaction stays
close_spared : (p : ℕ) (l : Link) → (l.originator ≡ p → ⊥) → left_by (close_end p) l ≡ l
unfolding close_end left_in own_end
close_spared p l n = by_test (λ xs. left_in xs ≡ l) (λ o. absurd (n (same_true _ _ (and_r (is_attached l) _ o)))) (λ _. refl)

part_spared : (p t : ℕ) (l : Link) → (l.originator ≡ p → ⊥) → (l.tx ≡ t → Nz t → ⊥) → part_left p t l ≡ l
unfolding part_left same
part_spared p t l a b = by_test (λ x. x ≡ l) (λ _. close_spared p l a)
    (λ z. rw (close_spared p l a) (end_spared t l (λ e. b e z)))

-- ---- what counts of both, whatever the link was
pub record Closing (p t : ℕ) (l l' : Link) : Type 0 where
  pub less : Left l l'
  pub own : l.originator ≡ p → is_attached l' ≡ false
  pub spared : (l.originator ≡ p → ⊥) → (l.tx ≡ t → Nz t → ⊥) → is_attached l ≡ true → is_attached l' ≡ true

pub part_closing : (p t : ℕ) (l : Link) → Closing p t l (part_left p t l)
part_closing p t l = record
    { less = fade_left l _ (part_fade p t l); own = part_own p t l; spared = λ a b o. rw (part_spared p t l a b) o }

-- ---- and of the served link
pub unread_like : (o : ℕ) (l : Link) → Like l (unread_after o l)
unfolding unread_after
unread_like o l = by_test (Like l) (λ _. dropped_like l) (λ _. like_refl refl)

unread_sender : (o : ℕ) (l : Link) → (unread_after o l).sender ≡ l.sender
unfolding unread_after
unread_sender o l = by_test (λ (x : Link). x.sender ≡ l.sender) (λ _. refl) (λ _. refl)

-- alike, and then returned
like_back : (l x y : Link) → Like l x → x.sender ≡ l.sender → Back x y → Back l y
like_back l x y k s b = search rules

module _ (p t o e : ℕ) (l : Link) (w : is_working l ≡ true) (n : is_ending o ≡ true) where
  abbrev kept : Link
  kept = part_left p t (unread_after o l)

  hand_left_lem : Left l (hand_left o e kept)
  unfolding hand_left
  hand_left_lem = by_test (Left l)
      (λ a. let k = unread_like o l in
      rw (fade_open (unread_after o l) _ (part_fade p t (unread_after o l)) a)
      (back (like_back l (unread_after o l) _ k (unread_sender o l) (returned_back (unread_after o l) o e (rw k.state' w) n))))
      (λ _. gone refl)

  hand_attached : is_attached (hand_left o e kept) ≡ is_attached kept
  unfolding hand_left
  hand_attached = by_test (λ (x : Link). is_attached x ≡ is_attached kept) (λ _. refl) (λ a. no_link_attached ∙ sym a)

  pub hand_closing : Closing p t l (hand_left o e (part_left p t (unread_after o l)))
  hand_closing = let k = unread_like o l in record {
    less = hand_left_lem;
    own = λ i. hand_attached ∙ part_own p t (unread_after o l) (k.originator' ∙ i);
    spared = λ a b i. hand_attached ∙ rw (part_spared p t (unread_after o l) (λ j. a (sym k.originator' ∙ j)) (λ j. b (sym k.tx' ∙ j)), k.attached') i;
  }
