-- The record after each step of a party's leaving: parties and links afterwards by those before.
-- Assumes nothing.
use Rattle.std.proofs.Common.{◌≡◌, refl, sym, ap, ◌∙◌, true, false, ℕ, ◌<◌, eqb, get_or, eqb-true, arith}
use Rattle.rules.specs.Choice.{pick, same}
use Rattle.rules.specs.Record.{fresh_party, is_conversation, is_attached, own_end, party, live, link_of, owning_none, rollback_only, returned, changed}
use Rattle.rules.specs.Transaction.{rollback_only_tx, end_tx}
use Rattle.rules.specs.Conversations.{originator_end}
use Rattle.rules.specs.Return.{close_end, rollback_only_by, close_own, end_own, rollback_only_served, hand_back}
use Rattle.rules.specs.declared.Link.{Link}
use Rattle.rules.specs.declared.Party.{Party}
use Rattle.rules.specs.declared.Monitor.{Monitor}
use Rattle.rules.proofs.Logic.{by_test, test, pick_true, pick_false, and_l, and_r, same_true, Nz}
use Rattle.rules.proofs.Fine.{look, Frame}
use Rattle.rules.proofs.Looks.{look_number, there, link_of_look, look_link_of}
use Rattle.rules.proofs.Parties.{rollback_only_in_length, rollback_only_in_either, rollback_only_in_miss, rollback_only_in_hit}
use Rattle.rules.proofs.Parties.{rollback_only_by_length, rollback_only_by_either, rollback_only_by_miss, Marks, plain}
use Rattle.rules.proofs.Parties.{marked, marks_more, marks_owned, rollback_only_in_free, rollback_only_by_free}
use Rattle.rules.proofs.Changes.{left_by, parties_frame, changed_clock, changed_lastlink, changed_lasttx, changed_parties, changed_same}
use Rattle.rules.proofs.Changes.{changed_other, changed_frame, collected_look, collected_frame, removed_same, removed_other}
use Rattle.rules.proofs.Changes.{removed_frame, removed_clock, removed_lastlink, removed_lasttx, removed_parties}
use Rattle.rules.proofs.History.Walk.LinkChanges.{no_link_attached}
use Rattle.rules.proofs.History.Walk.Ending.{end_left, end_own_lem, end_frame, end_look}
use Rattle.rules.proofs.History.Walk.Parting.{part_left, hand_left, close_thin, close_no}

-- ---- the record's own numbers stay
pub record Numbers (m m' : Monitor) : Type 0 where
  pub clock' : m'.clock ≡ m.clock
  pub lastlink' : m'.lastlink ≡ m.lastlink
  pub lasttx' : m'.lasttx ≡ m.lasttx

pub numbers_then : {m m₁ m₂ : Monitor} → Numbers m m₁ → Numbers m₁ m₂ → Numbers m m₂
numbers_then f g = omega arith

pub changed_numbers : (m : Monitor) (d : ℕ) (l : Link) → Numbers m (changed m d l)
changed_numbers m d l = record { clock' = changed_clock m d l; lastlink' = changed_lastlink m d l; lasttx' = changed_lasttx m d l }

-- ---- p's own ends close
module _ (m : Monitor) (fr : Frame m) (p : ℕ) where
  closed_look : (e : ℕ) → look e (live (close_own m p)) ≡ left_by (close_end p) (look e (live m))
  unfolding close_own
  closed_look e = collected_look (close_end p) (close_thin p) m fr (rollback_only_by p (live m) m.parties) (close_no p) e

  closed_frame : Frame (close_own m p)
  unfolding close_own
  closed_frame = collected_frame (close_end p) (close_thin p) m fr _ (rollback_only_by_length p (live m) m.parties ∙ fr.shape.parties16)

  closed_marks : (q : ℕ) → Marks (party m q) (party (close_own m p) q)
  unfolding close_own
  closed_marks q = rollback_only_by_either p (Marks (party m q)) (marks_more (party m q)) q (live m) m.parties (plain refl)

  closed_free : (q : ℕ) → (party m q).owned ≡ 0 → party (close_own m p) q ≡ party m q
  unfolding close_own
  closed_free q e = rollback_only_by_free p q (live m) m.parties e

  closed_miss : (q : ℕ) → ((e : ℕ) → is_attached (look e (live m)) ≡ true → (look e (live m)).originator ≡ p → (look e (live m)).tx ≡ (party m q).owned → ⊥)
      → party (close_own m p) q ≡ party m q
  unfolding close_own originator_end own_end
  closed_miss q n = rollback_only_by_miss p q 0 m.lastlink (live m) fr.rising m.parties
      (λ e a i. let o = and_r (is_conversation (look e (live m))) _ a in n e (and_l _ _ o) (same_true _ _ (and_r (is_attached (look e (live m))) _ o)) (sym i))

-- ---- its own transaction ends
-- the party then
unfoldable pub shed : Party → Party
shed x = pick (eqb x.owned 0) x (owning_none x)

module _ (m : Monitor) (fr : Frame m) (p : ℕ) (b : p < 16) where
  ended_look : (e : ℕ) → look e (live (end_own m p)) ≡ pick (eqb (party m p).owned 0) (look e (live m)) (end_left (party m p).owned (look e (live m)))
  unfolding end_own same
  ended_look e = test (eqb (party m p).owned 0)
      (λ z. ap (λ x. look e (live x)) (pick_true _ _ _ z) ∙ sym (pick_true _ _ _ z))
      (λ z. ap (λ x. look e (live x)) (pick_false _ _ _ z) ∙ end_look m fr p b z e ∙ sym (pick_false _ _ _ z))

  ended_frame : Frame (end_own m p)
  unfolding end_own
  ended_frame = by_test Frame (λ _. fr) (λ _. end_frame m fr p b)

  ended_self : party (end_own m p) p ≡ shed (party m p)
  unfolding end_own shed
  ended_self = test (eqb (party m p).owned 0)
      (λ z. ap (λ x. party x p) (pick_true _ _ _ z) ∙ sym (pick_true _ _ _ z))
      (λ z. ap (λ x. party x p) (pick_false _ _ _ z) ∙ (end_own_lem m fr p b).here ∙ sym (pick_false _ _ _ z))

  ended_other : (q : ℕ) → same q p ≡ false → party (end_own m p) q ≡ party m q
  unfolding end_own
  ended_other q n = by_test (λ x. party x q ≡ party m q) (λ _. refl) (λ _. (end_own_lem m fr p b).there q n)

-- by the two cases
pub shed_by : (X : Party → Type 0) (x : Party) → (x.owned ≡ 0 → X x) → (eqb x.owned 0 ≡ false → X (owning_none x)) → X (shed x)
unfolding shed
shed_by X x a b = by_test X (λ z. a (eqb-true _ 0 z)) b

pub shed_owned : (x : Party) → (shed x).owned ≡ 0
shed_owned x = shed_by (λ y. y.owned ≡ 0) x (λ z. z) (λ _. refl)

shed_marked : (x y : Party) → Marks x y → (x.owned ≡ 0 → y ≡ x) → shed y ≡ shed x
unfolding shed
shed_marked x y (plain e) f = ap shed e
shed_marked x y (marked e) f = test (eqb x.owned 0)
    (λ z. ap shed (f (eqb-true _ 0 z)))
    (λ z. ap shed e ∙ pick_false (eqb x.owned 0) (rollback_only x) (owning_none x) z ∙ sym (pick_false (eqb x.owned 0) x (owning_none x) z))

-- ---- both
abbrev pub shed_all : Monitor → ℕ → Monitor
shed_all m p = end_own (close_own m p) p

module _ (m : Monitor) (fr : Frame m) (p : ℕ) (b : p < 16) where
  pub shed_all_frame : Frame (shed_all m p)
  shed_all_frame = ended_frame (close_own m p) (closed_frame m fr p) p b

  pub shed_all_look : (e : ℕ) → look e (live (shed_all m p)) ≡ part_left p (party m p).owned (look e (live m))
  unfolding part_left
  shed_all_look e = ended_look (close_own m p) (closed_frame m fr p) p b e
      ∙ rw (marks_owned (party m p) (party (close_own m p) p) (closed_marks m fr p p), closed_look m fr p e)

  pub shed_all_self : party (shed_all m p) p ≡ shed (party m p)
  shed_all_self = ended_self (close_own m p) (closed_frame m fr p) p b
      ∙ shed_marked (party m p) (party (close_own m p) p) (closed_marks m fr p p) (closed_free m fr p p)

  shed_all_other : (q : ℕ) → same q p ≡ false → party (shed_all m p) q ≡ party (close_own m p) q
  shed_all_other q n = ended_other (close_own m p) (closed_frame m fr p) p b q n

  pub shed_all_marks : (q : ℕ) → same q p ≡ false → Marks (party m q) (party (shed_all m p) q)
  shed_all_marks q n = rw (shed_all_other q n) (closed_marks m fr p q)

  pub shed_all_free : (q : ℕ) → same q p ≡ false → (party m q).owned ≡ 0 → party (shed_all m p) q ≡ party m q
  shed_all_free q n z = shed_all_other q n ∙ closed_free m fr p q z

  pub shed_all_miss : (q : ℕ) → same q p ≡ false
      → ((e : ℕ) → is_attached (look e (live m)) ≡ true → (look e (live m)).originator ≡ p → (look e (live m)).tx ≡ (party m q).owned → ⊥)
      → party (shed_all m p) q ≡ party m q
  shed_all_miss q n f = shed_all_other q n ∙ closed_miss m fr p q f

pub shed_all_numbers : (m : Monitor) (p : ℕ) → Numbers m (shed_all m p)
unfolding close_own end_own end_tx
shed_all_numbers m p =
    by_test (Numbers m) (λ _. record { clock' = refl; lastlink' = refl; lasttx' = refl }) (λ _. record { clock' = refl; lastlink' = refl; lasttx' = refl })

-- ---- the served link's transaction becomes rollback-only, unless the outcome is 8
module _ (o t : ℕ) (m : Monitor) where
  pub rollback_only_served_live : live (rollback_only_served o t m) ≡ live m
  unfolding rollback_only_served
  rollback_only_served_live = by_test (λ x. live x ≡ live m) (λ _. refl) (λ _. refl)

  pub rollback_only_served_numbers : Numbers m (rollback_only_served o t m)
  unfolding rollback_only_served
  rollback_only_served_numbers =
      by_test (Numbers m) (λ _. record { clock' = refl; lastlink' = refl; lasttx' = refl }) (λ _. record { clock' = refl; lastlink' = refl; lasttx' = refl })

  pub rollback_only_served_frame : Frame m → Frame (rollback_only_served o t m)
  unfolding rollback_only_served
  rollback_only_served_frame fr = by_test Frame (λ _. fr) (λ _. parties_frame m fr _ (rollback_only_in_length t m.parties ∙ fr.shape.parties16))

  -- a party as it was, or marked, before: so after
  pub rollback_only_served_marks : (x : Party) (q : ℕ) → Marks x (party m q) → Marks x (party (rollback_only_served o t m) q)
  unfolding rollback_only_served
  rollback_only_served_marks x q k = by_test (λ y. Marks x (party y q)) (λ _. k) (λ _. rollback_only_in_either t (Marks x) q m.parties k (marks_more x _ k))

  pub rollback_only_served_free : (q : ℕ) → (party m q).owned ≡ 0 → party (rollback_only_served o t m) q ≡ party m q
  unfolding rollback_only_served
  rollback_only_served_free q z = by_test (λ y. party y q ≡ party m q) (λ _. refl) (λ _. rollback_only_in_free t q m.parties z)

  pub rollback_only_served_hit : (q : ℕ) → eqb o 8 ≡ false → Nz t → (party m q).owned ≡ t → ((r : ℕ) → (party m r).owned ≡ t → r ≡ q)
      → party (rollback_only_served o t m) q ≡ rollback_only (party m q)
  unfolding rollback_only_served
  rollback_only_served_hit q z n e u =
      let marks : rollback_only_served o t m ≡ rollback_only_tx m t = unfold pick in rw z in
      ap (λ x. party x q) marks ∙ rollback_only_in_hit t n q m.parties e u

  pub rollback_only_served_miss : (q : ℕ) → (eqb o 8 ≡ false → (party m q).owned ≡ t → ⊥) → party (rollback_only_served o t m) q ≡ party m q
  unfolding rollback_only_served
  rollback_only_served_miss q n = by_test (λ y. party y q ≡ party m q) (λ _. refl) (λ z. rollback_only_in_miss t q m.parties (n z))

-- ---- the served link, d, goes back
module _ (m : Monitor) (fr : Frame m) (d o e : ℕ) where
  -- the rule's look-up finds an open end where there is one
  open_same : is_attached (link_of m d) ≡ is_attached (look d (live m))
  open_same = test (is_attached (link_of m d))
      (λ a. ap (λ x. is_attached x) (link_of_look m (λ l. is_attached l) refl d a))
      (λ a. test (is_attached (look d (live m)))
      (λ y. ap (λ x. is_attached x) (look_link_of m (λ l. is_attached l) no_link_attached d y))
      (λ y. a ∙ sym y))

  module _ (a : is_attached (link_of m d) ≡ true) where
    found : link_of m d ≡ look d (live m)
    found = link_of_look m (λ l. is_attached l) refl d a

    number : (link_of m d).number ≡ d
    number = ap (λ x. x.number) found ∙ look_number d (live m) (there m fr (λ l. is_attached l) no_link_attached d (rw open_same at a))

    present : Nz (look d (live m)).number
    present = there m fr (λ l. is_attached l) no_link_attached d (rw open_same at a)

  pub hand_back_frame : Frame (hand_back m d o e)
  unfolding hand_back
  hand_back_frame = by_test Frame (λ a. changed_frame m fr d (present a) _ (number a)) (λ _. removed_frame m fr d)

  pub hand_back_self : look d (live (hand_back m d o e)) ≡ hand_left o e (look d (live m))
  unfolding hand_back hand_left
  hand_back_self = by_test (λ x. look d (live x) ≡ hand_left o e (look d (live m)))
      (λ a. changed_same m fr d (present a) _ (number a) ∙ ap (λ x. returned x o e) (found a) ∙ sym (pick_true _ _ _ (sym open_same ∙ a)))
      (λ a. removed_same m fr d ∙ sym (pick_false _ _ _ (sym open_same ∙ a)))

  pub hand_back_other : (q : ℕ) → same q d ≡ false → look q (live (hand_back m d o e)) ≡ look q (live m)
  unfolding hand_back
  hand_back_other q n = by_test (λ x. look q (live x) ≡ look q (live m))
      (λ a. changed_other m fr d (present a) _ (number a) q n) (λ _. removed_other m fr d q n)

pub hand_back_numbers : (m : Monitor) (d o e : ℕ) → Numbers m (hand_back m d o e)
unfolding hand_back
hand_back_numbers m d o e = by_test (Numbers m) (λ _. changed_numbers m d _)
    (λ _. record { clock' = removed_clock m d; lastlink' = removed_lastlink m d; lasttx' = removed_lasttx m d })

pub hand_back_party : (m : Monitor) (d o e q : ℕ) → party (hand_back m d o e) q ≡ party m q
unfolding hand_back
hand_back_party m d o e q =
    by_test (λ x. party x q ≡ party m q) (λ _. ap (λ ps. get_or ps q fresh_party) (changed_parties m d _))
    (λ _. ap (λ ps. get_or ps q fresh_party) (removed_parties m d))
