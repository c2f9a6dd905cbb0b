-- A party has left: what that is, of the record before and after, and that the rules' steps come to it.
-- Assumes nothing.
use Rattle.std.proofs.Common.{◌≡◌, refl, sym, ap, ◌∙◌, Bool, true, false, ◌||◌, ℕ, ◌<◌, eqb, get_or, rules}
use Rattle.std.proofs.Math.Bool.{or-false}
use Rattle.rules.specs.Choice.{same}
use Rattle.rules.specs.Record.{fresh_party, is_rollback_only, is_attached, is_waiting, is_working, is_ending, party, live, link_of, returned, serving, with_party, changed}
use Rattle.rules.specs.Return.{unread_after, rollback_only_served, serves_none, hand_back, leave}
use Rattle.rules.specs.declared.Link.{Link}
use Rattle.rules.specs.declared.Party.{Party}
use Rattle.rules.specs.declared.Monitor.{Monitor}
use Rattle.rules.proofs.Logic.{test, not_both, same_true, same_false, Nz, by_number}
use Rattle.rules.proofs.Fine.{look, Frame, Fine}
use Rattle.rules.proofs.Looks.{look_number, link_of_tx, link_of_served, served_there}
use Rattle.rules.proofs.Parties.{party_same, party_other, party_frame, Marks, marks_owned}
use Rattle.rules.proofs.Changes.{changed_parties, changed_same, changed_other, changed_frame}
use Rattle.rules.proofs.History.Moves.{is_whole, Like}
use Rattle.rules.proofs.History.Left.{like_refl}
use Rattle.rules.proofs.History.Walk.Parting.{part_left, part_open, hand_left, hand_open, Closing, part_closing, part_works, part_dull, unread_like, hand_closing}
use Rattle.rules.proofs.History.Walk.Leaving.{Numbers, numbers_then, changed_numbers, shed, shed_owned, shed_all, shed_all_frame, shed_all_look}
use Rattle.rules.proofs.History.Walk.Leaving.{shed_all_self, shed_all_marks, shed_all_free, shed_all_miss, shed_all_numbers}
use Rattle.rules.proofs.History.Walk.Leaving.{rollback_only_served_live, rollback_only_served_numbers, rollback_only_served_frame}
use Rattle.rules.proofs.History.Walk.Leaving.{rollback_only_served_marks, rollback_only_served_free, rollback_only_served_miss}
use Rattle.rules.proofs.History.Walk.Leaving.{rollback_only_served_hit, hand_back_frame, hand_back_self, hand_back_other, hand_back_numbers}
use Rattle.rules.proofs.History.Walk.Leaving.{hand_back_party}

-- party p has left m, with a failed end or not, and is x in m'
pub record Parted (m m' : Monitor) (p : ℕ) (bad : Bool) (x : Party) : Type 0 where
  pub frame : Frame m'
  pub numbers : Numbers m m'
  -- the links: its own ends are closed, its transaction's links are at rest, and no other is touched but the one that it served
  pub closing : (e : ℕ) → Closing p (party m p).owned (look e (live m)) (look e (live m'))
  pub works' : (e : ℕ) → same e (party m p).served ≡ false → is_working (look e (live m)) ≡ true → is_working (look e (live m')) ≡ true
  pub ended' : (e : ℕ) → same e (party m p).served ≡ false → (is_whole (look e (live m)) ≡ false → is_attached (look e (live m)) ≡ false)
      → Nz (party m p).owned → (look e (live m)).tx ≡ (party m p).owned → is_attached (look e (live m')) || is_waiting (look e (live m')) ≡ false
  -- the parties: the others may be marked, those that own nothing not
  pub self : party m' p ≡ x
  pub marks : (q : ℕ) → same q p ≡ false → Marks (party m q) (party m' q)
  pub free : (q : ℕ) → same q p ≡ false → (party m q).owned ≡ 0 → party m' q ≡ party m q
  pub miss : (q : ℕ) → same q p ≡ false → ((party m q).owned ≡ (look (party m p).served (live m)).tx → bad ≡ true → ⊥)
      → ((e : ℕ) → is_attached (look e (live m)) ≡ true → (look e (live m)).originator ≡ p → (look e (live m)).tx ≡ (party m q).owned → ⊥)
      → party m' q ≡ party m q
  pub hit : (q : ℕ) → same q p ≡ false → bad ≡ true → (party m q).owned ≡ (look (party m p).served (live m)).tx → Nz (party m q).owned
      → ((r : ℕ) → (party m r).owned ≡ (party m q).owned → r ≡ q) → is_rollback_only (party m' q) ≡ true

-- ---- p's record becomes another
pub parted_as : (m m' : Monitor) (p : ℕ) (bad : Bool) (x y : Party) → p < 16 → Parted m m' p bad x → Parted m (with_party m' p y) p bad y
parted_as m m' p bad x y b h =
    let sh = h.frame.shape in
    record {
      frame = party_frame m' sh p b y h.frame;
      numbers = record { clock' = h.numbers.clock'; lastlink' = h.numbers.lastlink'; lasttx' = h.numbers.lasttx' };
      closing = h.closing;
      works' = h.works';
      ended' = h.ended';
      self = party_same m' sh p b y;
      marks = λ q n. rw (party_other m' sh p b y q n) (h.marks q n);
      free = λ q n z. party_other m' sh p b y q n ∙ h.free q n z;
      miss = λ q n f g. party_other m' sh p b y q n ∙ h.miss q n f g;
      hit = λ q n a e z u. rw (party_other m' sh p b y q n) (h.hit q n a e z u);
    }

-- ---- it served none
pub shed_parted : (m : Monitor) → Frame m → (p : ℕ) → p < 16 → Parted m (shed_all m p) p false (shed (party m p))
shed_parted m fr p b = record {
  frame = shed_all_frame m fr p b;
  numbers = shed_all_numbers m p;
  closing = λ e. rw (shed_all_look m fr p b e) (part_closing p (party m p).owned (look e (live m)));
  works' = λ e _ w. rw (shed_all_look m fr p b e) (part_works p (party m p).owned (look e (live m)) w);
  ended' = λ e _ c z t. rw (shed_all_look m fr p b e) (part_dull p (party m p).owned (look e (live m)) c z t);
  self = shed_all_self m fr p b;
  marks = shed_all_marks m fr p b;
  free = shed_all_free m fr p b;
  miss = λ q n _ g. shed_all_miss m fr p b q n g;
  hit = λ q n a e z u. not_both a refl;
}

-- ---- it served a link, and leaves it with the outcome o
abbrev pub is_bad : ℕ → Bool
is_bad o = eqb o 2 || eqb o 4

-- an outcome is failed just where it is not 8
bad_8 : (o : ℕ) → is_bad o ≡ true → eqb o 8 ≡ false
bad_8 o h = search rules

not_8_bad : (o : ℕ) → is_ending o ≡ true → eqb o 8 ≡ false → is_bad o ≡ true
not_8_bad o h n = rw (n, or-false (eqb o 4)) at h

module _ (m : Monitor) (fi : Fine m) (p : ℕ) (b : p < 16) (s : Nz (party m p).served) (o e : ℕ) (n : is_ending o ≡ true) where
  -- the link that it serves, its transaction, and the steps
  abbrev d : ℕ
  d = (party m p).served

  abbrev l : Link
  l = look (party m p).served (live m)

  abbrev m1 : Monitor
  m1 = changed m d (unread_after o (link_of m d))

  abbrev m3 : Monitor
  m3 = shed_all m1 p

  abbrev m4 : Monitor
  m4 = rollback_only_served o (link_of m d).tx m3

  abbrev m5 : Monitor
  m5 = serves_none m4 p

  -- unread dropped, or not
  number1 : (unread_after o (link_of m d)).number ≡ d
  number1 = (unread_like o (link_of m d)).number' ∙ ap (λ x. x.number) (link_of_served m fi p s) ∙ look_number d (live m) (served_there m fi p s)

  frame1 : Frame m1
  frame1 = changed_frame m fi.frame d (served_there m fi p s) (unread_after o (link_of m d)) number1

  self1 : look d (live m1) ≡ unread_after o l
  self1 = changed_same m fi.frame d (served_there m fi p s) (unread_after o (link_of m d)) number1 ∙ ap (unread_after o) (link_of_served m fi p s)

  other1 : (i : ℕ) → same i d ≡ false → look i (live m1) ≡ look i (live m)
  other1 i = changed_other m fi.frame d (served_there m fi p s) (unread_after o (link_of m d)) number1 i

  like1 : (i : ℕ) → Like (look i (live m)) (look i (live m1))
  like1 = by_number d (λ i. Like (look i (live m)) (look i (live m1))) (rw self1 (unread_like o l)) (λ i y. like_refl (other1 i y))

  party1 : (q : ℕ) → party m1 q ≡ party m q
  party1 q = ap (λ ps. get_or ps q fresh_party) (changed_parties m d (unread_after o (link_of m d)))

  -- its own ends closed, its transaction ended
  self3 : party m3 p ≡ shed (party m p)
  self3 = shed_all_self m1 frame1 p b ∙ ap shed (party1 p)

  owned3 : (party m3 p).owned ≡ 0
  owned3 = ap (λ x. x.owned) self3 ∙ shed_owned (party m p)

  marks3 : (q : ℕ) → same q p ≡ false → Marks (party m q) (party m3 q)
  marks3 q y = rw (party1 q) at (shed_all_marks m1 frame1 p b q y)

  free3 : (q : ℕ) → same q p ≡ false → (party m q).owned ≡ 0 → party m3 q ≡ party m q
  free3 q y z = shed_all_free m1 frame1 p b q y (ap (λ x. x.owned) (party1 q) ∙ z) ∙ party1 q

  miss3 : (q : ℕ) → same q p ≡ false
      → ((i : ℕ) → is_attached (look i (live m)) ≡ true → (look i (live m)).originator ≡ p → (look i (live m)).tx ≡ (party m q).owned → ⊥)
      → party m3 q ≡ party m q
  miss3 q y f = shed_all_miss m1 frame1 p b q y
      (λ i a r t. f i (rw (like1 i).attached' at a) (sym (like1 i).originator' ∙ r) (sym (like1 i).tx' ∙ t ∙ ap (λ x. x.owned) (party1 q))) ∙ party1 q

  -- the served transaction rollback-only, and the party serving none
  frame4 : Frame m4
  frame4 = rollback_only_served_frame o (link_of m d).tx m3 (shed_all_frame m1 frame1 p b)

  frame5 : Frame m5
  unfolding serves_none
  frame5 = party_frame m4 frame4.shape p b (serving (party m4 p) 0) frame4

  look5 : (i : ℕ) → look i (live m5) ≡ part_left p (party m p).owned (look i (live m1))
  unfolding serves_none
  look5 i =
      ap (look i) (rollback_only_served_live o (link_of m d).tx m3) ∙ shed_all_look m1 frame1 p b i ∙ ap (λ x. part_left p x.owned (look i (live m1))) (party1 p)

  other5 : (q : ℕ) → same q p ≡ false → party m5 q ≡ party m4 q
  unfolding serves_none
  other5 q y = party_other m4 frame4.shape p b (serving (party m4 p) 0) q y

  self5 : party m5 p ≡ serving (shed (party m p)) 0
  unfolding serves_none
  self5 = party_same m4 frame4.shape p b (serving (party m4 p) 0) ∙ ap (λ x. serving x 0) (rollback_only_served_free o (link_of m d).tx m3 p owned3 ∙ self3)

  -- the link back
  self6 : look d (live (hand_back m5 d o e)) ≡ hand_left o e (part_left p (party m p).owned (unread_after o l))
  self6 = hand_back_self m5 frame5 d o e ∙ ap (hand_left o e) (look5 d ∙ ap (part_left p (party m p).owned) self1)

  other6 : (i : ℕ) → same i d ≡ false → look i (live (hand_back m5 d o e)) ≡ part_left p (party m p).owned (look i (live m))
  other6 i y = hand_back_other m5 frame5 d o e i y ∙ look5 i ∙ ap (part_left p (party m p).owned) (other1 i y)

  party6 : (q : ℕ) → same q p ≡ false → party (hand_back m5 d o e) q ≡ party m4 q
  party6 q y = hand_back_party m5 d o e q ∙ other5 q y

  numbers5 : Numbers m m5
  unfolding serves_none
  numbers5 =
      let later = numbers_then (shed_all_numbers m1 p) (rollback_only_served_numbers o (link_of m d).tx m3) in
      let k = numbers_then (changed_numbers m d (unread_after o (link_of m d))) later in
      record { clock' = k.clock'; lastlink' = k.lastlink'; lasttx' = k.lasttx' }

  only : (q : ℕ) → (party m q).owned ≡ l.tx → Nz (party m q).owned → ((r : ℕ) → (party m r).owned ≡ (party m q).owned → r ≡ q)
      → (r : ℕ) → (party m3 r).owned ≡ (link_of m d).tx → r ≡ q
  only q t z u r y = test (same r p)
      (λ w. let i : r ≡ p = same_true r p w in
      absurd (same_false _ _ z (t ∙ sym (link_of_tx m d) ∙ sym y ∙ ap (λ x. (party m3 x).owned) i ∙ owned3)))
      (λ w. u r (sym (marks_owned (party m r) (party m3 r) (marks3 r w)) ∙ y ∙ link_of_tx m d ∙ sym t))

  pub leave_parted : Parted m (leave m p (party m p).served o e) p (is_bad o) (serving (shed (party m p)) 0)
  unfolding leave
  leave_parted = record {
    frame = hand_back_frame m5 frame5 d o e;
    numbers = numbers_then numbers5 (hand_back_numbers m5 d o e);
    closing = λ i. test (same i d)
        (λ y. let r : i ≡ d = same_true i d y in rw (r, self6) (hand_closing p (party m p).owned o e l (fi.works p s) n))
        (λ y. rw (other6 i y) (part_closing p (party m p).owned (look i (live m))));
    works' = λ i y w. rw (other6 i y) (part_works p (party m p).owned (look i (live m)) w);
    ended' = λ i y c z t. rw (other6 i y) (part_dull p (party m p).owned (look i (live m)) c z t);
    self = hand_back_party m5 d o e p ∙ self5;
    marks = λ q y. rw (party6 q y) (rollback_only_served_marks o (link_of m d).tx m3 (party m q) q (marks3 q y));
    free = λ q y z. party6 q y ∙ rollback_only_served_free o (link_of m d).tx m3 q (ap (λ x. x.owned) (free3 q y z) ∙ z) ∙ free3 q y z;
    miss = λ q y f g. party6 q y
        ∙ rollback_only_served_miss o (link_of m d).tx m3 q
        (λ z i. f (sym (marks_owned (party m q) (party m3 q) (marks3 q y)) ∙ i ∙ link_of_tx m d) (not_8_bad o n z))
        ∙ miss3 q y g;
    hit = λ q y a t z u. ap (λ x. is_rollback_only x) (party6 q y ∙ rollback_only_served_hit o (link_of m d).tx m3 q (bad_8 o a)
        (rw (link_of_tx m d, ← t) z) (marks_owned (party m q) (party m3 q) (marks3 q y) ∙ t ∙ sym (link_of_tx m d)) (only q t z u));
  }

  -- the link that it leaves with its originator's end open
  pub leave_back : is_attached (look d (live (leave m p (party m p).served o e))) ≡ true
      → look d (live (leave m p (party m p).served o e)) ≡ returned (unread_after o l) o e
  unfolding leave
  leave_back a = let x = part_left p (party m p).owned (unread_after o l) in
      hand_open o e x (rw self6 at a) (λ y h. self6 ∙ h ∙ ap (λ z. returned z o e) (part_open p (party m p).owned (unread_after o l) y))
