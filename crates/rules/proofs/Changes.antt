-- Looking a link up after each change of the record: changed, rebuilt, removed, added, replaced; and the frame of the record after it.
-- Assumes nothing.
use Rattle.std.proofs.Common.{◌≡◌, refl, sym, ap, subst, ◌∙◌, List, [], ◌∷◌, ◌++◌, Bool, true, false, ℕ, zero, suc, ◌≤◌, ◌<◌, arith, add-one}
use Rattle.std.proofs.Common.{length, get_or, set, drop, length-set, length-append, length-drop, take-suc-set, lt-ltb, rules}
use Rattle.std.proofs.lemmas.List.{length-replicate, set-get_or}
use Rattle.std.proofs.Math.Seq.{take-append_seam, take-set-lt}
use Rattle.rules.specs.Choice.{pick, same}
use Rattle.rules.specs.Lists.{first_of, collect}
use Rattle.rules.specs.Record.{fresh_link, blanks, numbered, live, place_of, with_parties, rebuilt, replaced, changed, gone_of, removed, added}
use Rattle.rules.specs.declared.Link.{Link}
use Rattle.rules.specs.declared.Party.{Party}
use Rattle.rules.specs.declared.Monitor.{Monitor}
use Rattle.rules.proofs.Logic.{Nz, pick_true, pick_false, pick_same, test, by_test, not_both, same_refl, same_true, same_false, same_ne, suc_nz, by_number}
use Rattle.rules.proofs.Fine.{no_link, look, Between, Frame}
use Rattle.rules.proofs.Looks.{between_low, look_below, look_cases, look_next}

pub live_length : (m : Monitor) → Frame m → length (live m) ≡ m.count
live_length m fr = search rules

-- ---- other parties, the same links (`live` computes to that of m)
pub parties_frame : (m : Monitor) → Frame m → (ps : List Party) → length ps ≡ 16 → Frame (with_parties m ps)
parties_frame m fr ps e = search rules

-- ---- in a list: the first place that passes a test, and a place at which l stands instead
pub place_fits : (f : Link → Bool) (ls : List Link) → first_of f ls < length ls → f (get_or ls (first_of f ls) fresh_link) ≡ true
unfolding first_of pick
place_fits f [] h = absurd (omega arith)
place_fits f (x ∷ xs) h = test (f x) (λ q. rw q q) (λ q. rw q (place_fits f xs (let r = rw q at h in omega arith)))

place_there : (n : ℕ) (ls : List Link) → Nz (look n ls).number → first_of (numbered n) ls < length ls
unfolding first_of numbered look pick no_link
place_there n [] h = not_both (same_refl 0) h
place_there n (x ∷ xs) h = test (same x.number n)
    (λ q. rw q (omega arith))
    (λ q. rw q (let r = place_there n xs (rw q at h) in omega arith))

place_above : (lo hi i : ℕ) (ls : List Link) → Between lo ls hi → i < length ls → lo < (get_or ls i fresh_link).number
place_above lo hi i [] h k = absurd (omega arith)
place_above lo hi zero (x ∷ xs) h k = h.0
place_above lo hi (suc i) (x ∷ xs) h k = let r = place_above x.number hi i xs h.1 (omega arith) in let a = h.0 in omega arith

-- the link at a place is the first with its number
pub place_first : (lo hi i : ℕ) (ls : List Link) → Between lo ls hi → i < length ls → first_of (numbered (get_or ls i fresh_link).number) ls ≡ i
unfolding first_of numbered pick
place_first lo hi i [] h k = absurd (omega arith)
place_first lo hi zero (x ∷ xs) h k = rw (same_refl x.number)
place_first lo hi (suc i) (x ∷ xs) h k =
    rw (same_ne x.number (get_or xs i fresh_link).number (let r = place_above x.number hi i xs h.1 (omega arith) in omega arith))
    (ap suc (place_first x.number hi i xs h.1 (omega arith)))

module _ (l : Link) where
  set_between : (lo hi i : ℕ) (ls : List Link) → Between lo ls hi → i < length ls → l.number ≡ (get_or ls i fresh_link).number → Between lo (set ls i l) hi
  set_between lo hi i [] h k e = absurd (omega arith)
  set_between lo hi zero (x ∷ xs) h k e = rw e h
  set_between lo hi (suc i) (x ∷ xs) h k e = (h.0, set_between x.number hi i xs h.1 (omega arith) e)

  set_same : (lo hi i : ℕ) (ls : List Link) → Between lo ls hi → i < length ls → l.number ≡ (get_or ls i fresh_link).number → look l.number (set ls i l) ≡ l
  unfolding look pick
  set_same lo hi i [] h k e = absurd (omega arith)
  set_same lo hi zero (x ∷ xs) h k e = rw (same_refl l.number)
  set_same lo hi (suc i) (x ∷ xs) h k e =
      rw (same_ne x.number l.number (let r = place_above x.number hi i xs h.1 (omega arith) in omega arith))
      (set_same x.number hi i xs h.1 (omega arith) e)

  set_other : (d i : ℕ) (ls : List Link) → l.number ≡ (get_or ls i fresh_link).number → same d l.number ≡ false → look d (set ls i l) ≡ look d ls
  unfolding look pick
  set_other d i [] e n = refl
  set_other d zero (x ∷ xs) e n =
      rw (same_ne l.number d (λ r. same_false d l.number n (sym r)), same_ne x.number d (λ r. same_false d l.number n (sym (e ∙ r))))
  set_other d (suc i) (x ∷ xs) e n = test (same x.number d) (λ q. rw q) (λ q. rw q (set_other d i xs e n))

-- ---- the link at the first place that passes a test
module _ (m : Monitor) (fr : Frame m) (f : Link → Bool) (h : first_of f (live m) < m.count) where
  in_live : first_of f (live m) < length (live m)
  in_live = rw (live_length m fr) h

  pub first_fits : f (get_or (live m) (first_of f (live m)) fresh_link) ≡ true
  first_fits = place_fits f (live m) in_live

  pub first_look : look (get_or (live m) (first_of f (live m)) fresh_link).number (live m) ≡ get_or (live m) (first_of f (live m)) fresh_link
  first_look =
      rw (set-get_or (live m) (first_of f (live m)) fresh_link) at
      (set_same (get_or (live m) (first_of f (live m)) fresh_link) 0 m.lastlink (first_of f (live m)) (live m) fr.rising in_live refl)

  pub first_there : Nz (get_or (live m) (first_of f (live m)) fresh_link).number
  first_there = same_ne _ 0 (let r = place_above 0 m.lastlink (first_of f (live m)) (live m) fr.rising in_live in omega arith)

  -- that link becomes l, of its number
  module _ (l : Link) (e : l.number ≡ (get_or (live m) (first_of f (live m)) fresh_link).number) where
    replaced_live : live (replaced m (first_of f (live m)) l) ≡ set (live m) (first_of f (live m)) l
    replaced_live = take-set-lt m.count m.links (first_of f (live m)) l h

    pub replaced_same : look l.number (live (replaced m (first_of f (live m)) l)) ≡ l
    replaced_same = ap (λ (x : List Link). look l.number x) replaced_live ∙ set_same l 0 m.lastlink (first_of f (live m)) (live m) fr.rising in_live e

    pub replaced_other : (d : ℕ) → same d l.number ≡ false → look d (live (replaced m (first_of f (live m)) l)) ≡ look d (live m)
    replaced_other d n = ap (λ (x : List Link). look d x) replaced_live ∙ set_other l d (first_of f (live m)) (live m) e n

    pub replaced_frame : Frame (replaced m (first_of f (live m)) l)
    replaced_frame = record {
      shape = record { parties16 = fr.shape.parties16; links32 = length-set m.links (first_of f (live m)) l ∙ fr.shape.links32 };
      count32 = fr.count32;
      last_link = fr.last_link;
      last_tx = fr.last_tx;
      rising = rw replaced_live
          (set_between l 0 m.lastlink (first_of f (live m)) (live m) fr.rising in_live e);
    }

-- ---- the link with the number n becomes l, of that number
place_in : (m : Monitor) → Frame m → (n : ℕ) → Nz (look n (live m)).number → place_of m n < m.count
place_in m fr n t = rw (live_length m fr) at (place_there n (live m) t)

-- where it is there, the change is a replacement: the other fields compute
pub changed_is : (m : Monitor) → Frame m → (n : ℕ) → Nz (look n (live m)).number → (l : Link) → changed m n l ≡ replaced m (place_of m n) l
unfolding changed
changed_is m fr n t l = pick_true _ _ _ (lt-ltb (place_of m n) m.count (place_in m fr n t))

module _ (m : Monitor) (n : ℕ) (l : Link) where
  pub changed_clock : (changed m n l).clock ≡ m.clock
  unfolding changed
  changed_clock = by_test (λ (x : Monitor). x.clock ≡ m.clock) (λ _. refl) (λ _. refl)

  pub changed_lastlink : (changed m n l).lastlink ≡ m.lastlink
  unfolding changed
  changed_lastlink = by_test (λ (x : Monitor). x.lastlink ≡ m.lastlink) (λ _. refl) (λ _. refl)

  pub changed_lasttx : (changed m n l).lasttx ≡ m.lasttx
  unfolding changed
  changed_lasttx = by_test (λ (x : Monitor). x.lasttx ≡ m.lasttx) (λ _. refl) (λ _. refl)

  pub changed_parties : (changed m n l).parties ≡ m.parties
  unfolding changed
  changed_parties = by_test (λ (x : Monitor). x.parties ≡ m.parties) (λ _. refl) (λ _. refl)

module _ (m : Monitor) (fr : Frame m) (n : ℕ) (t : Nz (look n (live m)).number) (l : Link) (e : l.number ≡ n) where
  its_number : l.number ≡ (get_or (live m) (place_of m n) fresh_link).number
  unfolding numbered
  its_number = e ∙ sym (same_true _ n (first_fits m fr (numbered n) (place_in m fr n t)))

  pub changed_same : look n (live (changed m n l)) ≡ l
  changed_same = rw (changed_is m fr n t l)
      (subst (λ (x : ℕ). look x (live (replaced m (place_of m n) l)) ≡ l) e (replaced_same m fr (numbered n) (place_in m fr n t) l its_number))

  pub changed_other : (d : ℕ) → same d n ≡ false → look d (live (changed m n l)) ≡ look d (live m)
  changed_other d a = rw (changed_is m fr n t l) (replaced_other m fr (numbered n) (place_in m fr n t) l its_number d (rw e a))

  pub changed_frame : Frame (changed m n l)
  changed_frame = rw (changed_is m fr n t l) (replaced_frame m fr (numbered n) (place_in m fr n t) l its_number)

  -- by the link: the one changed, or another
  pub changed_by : (X : ℕ → Link → Type 0) → X n l → ((d : ℕ) → same d n ≡ false → X d (look d (live m))) → (d : ℕ) → X d (look d (live (changed m n l)))
  changed_by X a b = by_number n (λ d. X d (look d (live (changed m n l)))) (rw changed_same a) (λ d q. rw (changed_other d q) (b d q))

-- ---- the room for links rebuilt of a list
pub rebuilt_live : (m : Monitor) (ls : List Link) → live (rebuilt m ls) ≡ ls
rebuilt_live m ls = take-append_seam ls (drop (length ls) blanks)

rebuilt_length : (ls : List Link) → length ls ≤ 32 → length (ls ++ drop (length ls) blanks) ≡ 32
unfolding blanks
rebuilt_length ls h =
    let a = length-append ls (drop (length ls) blanks) in
    let b = length-drop (length ls) blanks in
    let c : length blanks ≡ 32 = length-replicate 32 fresh_link in
    omega arith

pub rebuilt_frame : (m : Monitor) → Frame m → (ps : List Party) → length ps ≡ 16 → (ls : List Link) → length ls ≤ 32 → Between 0 ls m.lastlink
    → Frame (rebuilt (with_parties m ps) ls)
rebuilt_frame m fr ps e ls h b = record {
  shape = record { parties16 = e; links32 = rebuilt_length ls h };
  count32 = h;
  last_link = fr.last_link;
  last_tx = fr.last_tx;
  rising = rw (rebuilt_live m ls) b;
}

-- ---- what f leaves of each link: nothing, or one link with its number
pub data Thin (l : Link) : List Link → Type 0 where
  none : Thin l []
  one : (x : Link) → x.number ≡ l.number → Thin l (x ∷ [])

abbrev pub Thins : (Link → List Link) → Type 0
Thins f = (l : Link) → Thin l (f l)

unfoldable pub left_in : List Link → Link
left_in [] = no_link
left_in (x ∷ xs) = x

abbrev pub left_by : (Link → List Link) → Link → Link
left_by f l = left_in (f l)

thin_cases : {X : Type 0} {l : Link} {xs : List Link} → Thin l xs → (xs ≡ [] → X) → ((x : Link) → xs ≡ x ∷ [] → x.number ≡ l.number → X) → X
thin_cases none f g = f refl
thin_cases (one x e) f g = g x refl e

module _ (f : Link → List Link) (k : Thins f) where
  pub collect_length : (ls : List Link) → length (collect f ls) ≤ length ls
  unfolding collect
  collect_length [] = omega arith
  collect_length (l ∷ ls) = let r = collect_length ls in thin_cases (k l)
      (λ q. rw q (omega arith))
      (λ x q e. rw q (omega arith))

  pub collect_between : (lo hi : ℕ) (ls : List Link) → Between lo ls hi → Between lo (collect f ls) hi
  unfolding collect
  collect_between lo hi [] h = h
  collect_between lo hi (l ∷ ls) h =
      let r = collect_between l.number hi ls h.1 in
      thin_cases (k l)
      (λ q. rw q (between_low lo l.number hi (collect f ls) (omega arith) r))
      (λ x q e. rw (q, e) (h.0, r))

  pub collect_look : left_by f no_link ≡ no_link → (e lo hi : ℕ) (ls : List Link) → Between lo ls hi → look e (collect f ls) ≡ left_by f (look e ls)
  unfolding collect look pick left_in
  collect_look z e lo hi [] h = sym z
  collect_look z e lo hi (l ∷ ls) h = test (same l.number e)
      (λ q. let r = same_true _ _ q in
      let b : look e (collect f ls) ≡ no_link = look_below l.number hi e (collect f ls) (collect_between l.number hi ls h.1) (omega arith) in
      thin_cases (k l) (λ y. rw (q, y, b)) (λ x y n. rw (q, y, n, q)))
      (λ q. let ih = collect_look z e l.number hi ls h.1 in
      thin_cases (k l) (λ y. rw (q, y) ih) (λ x y n. rw (q, y, n, q) ih))

  -- the room rebuilt of what f leaves, with the parties ps
  pub collected_look : (m : Monitor) → Frame m → (ps : List Party) → left_by f no_link ≡ no_link → (e : ℕ)
      → look e (live (rebuilt (with_parties m ps) (collect f (live m)))) ≡ left_by f (look e (live m))
  collected_look m fr ps z e =
      ap (λ (x : List Link). look e x) (rebuilt_live (with_parties m ps) (collect f (live m))) ∙ collect_look z e 0 m.lastlink (live m) fr.rising

  pub collected_frame : (m : Monitor) → Frame m → (ps : List Party) → length ps ≡ 16 → Frame (rebuilt (with_parties m ps) (collect f (live m)))
  collected_frame m fr ps e =
      rebuilt_frame m fr ps e (collect f (live m))
      (let a = collect_length (live m) in let b = live_length m fr in let c = fr.count32 in omega arith)
      (collect_between 0 m.lastlink (live m) fr.rising)

-- ---- the link with the number n goes
gone_thins : (n : ℕ) → Thins (gone_of n)
unfolding gone_of
gone_thins n l = by_test (λ (x : List Link). Thin l x) (λ _. none) (λ _. one l refl)

gone_left : (n : ℕ) (l : Link) → left_by (gone_of n) l ≡ pick (same l.number n) no_link l
unfolding gone_of left_in numbered pick
gone_left n l = test (same l.number n) (λ q. rw q) (λ q. rw q)

module _ (m : Monitor) (fr : Frame m) (n : ℕ) where
  removed_look : (d : ℕ) → look d (live (removed m n)) ≡ pick (same (look d (live m)).number n) no_link (look d (live m))
  unfolding removed
  removed_look d = collected_look (gone_of n) (gone_thins n) m fr m.parties (gone_left n no_link ∙ pick_same _ no_link) d ∙ gone_left n (look d (live m))

  pub removed_same : look n (live (removed m n)) ≡ no_link
  removed_same = look_cases n (live m)
      (λ a. removed_look n ∙ rw a (pick_same _ no_link))
      (λ a. removed_look n ∙ pick_true _ _ _ (rw a (same_refl n)))

  pub removed_other : (d : ℕ) → same d n ≡ false → look d (live (removed m n)) ≡ look d (live m)
  removed_other d a = look_cases d (live m)
      (λ z. removed_look d ∙ rw z (pick_same _ no_link))
      (λ z. removed_look d ∙ pick_false _ _ _ (rw z a))

  pub removed_frame : Frame (removed m n)
  unfolding removed
  removed_frame = collected_frame (gone_of n) (gone_thins n) m fr m.parties fr.shape.parties16

pub removed_parties : (m : Monitor) (n : ℕ) → (removed m n).parties ≡ m.parties
unfolding removed
removed_parties m n = refl

pub removed_clock : (m : Monitor) (n : ℕ) → (removed m n).clock ≡ m.clock
unfolding removed
removed_clock m n = refl

pub removed_lastlink : (m : Monitor) (n : ℕ) → (removed m n).lastlink ≡ m.lastlink
unfolding removed
removed_lastlink m n = refl

pub removed_lasttx : (m : Monitor) (n : ℕ) → (removed m n).lasttx ≡ m.lasttx
unfolding removed
removed_lasttx m n = refl

-- ---- a new link, with the next number
snoc_between : (lo hi : ℕ) (l : Link) → l.number ≡ suc hi → (ls : List Link) → Between lo ls hi → Between lo (ls ++ (l ∷ [])) (suc hi)
snoc_between lo hi l e [] h = (omega arith, omega arith)
snoc_between lo hi l e (x ∷ xs) h = (h.0, snoc_between x.number hi l e xs h.1)

snoc_new : (d : ℕ) (l : Link) → same l.number d ≡ true → Nz d → (ls : List Link) → look d ls ≡ no_link → look d (ls ++ (l ∷ [])) ≡ l
unfolding look pick no_link
snoc_new d l e z [] h = rw e
snoc_new d l e z (x ∷ xs) h = test (same x.number d)
    (λ q. absurd (same_false d 0 z (sym (same_true _ _ q) ∙ ap (λ (y : Link). y.number) (rw q at h))))
    (λ q. rw q (snoc_new d l e z xs (rw q at h)))

snoc_other : (d : ℕ) (l : Link) → same l.number d ≡ false → (ls : List Link) → look d (ls ++ (l ∷ [])) ≡ look d ls
unfolding look pick
snoc_other d l q [] = rw q
snoc_other d l q (x ∷ xs) = test (same x.number d) (λ z. rw z) (λ z. rw z (snoc_other d l q xs))

module _ (m : Monitor) (fr : Frame m) (room : m.count < 32) (l : Link) (e : l.number ≡ suc m.lastlink) where
  added_live : live (added m l) ≡ live m ++ (l ∷ [])
  added_live = rw (add-one m.count) (take-suc-set m.links m.count l (let a = fr.shape.links32 in omega arith))

  pub added_new : look (suc m.lastlink) (live (added m l)) ≡ l
  added_new = ap (λ (x : List Link). look (suc m.lastlink) x) added_live
      ∙ snoc_new (suc m.lastlink) l (rw e (same_refl (suc m.lastlink))) (suc_nz m.lastlink) (live m) (look_next m fr)

  pub added_other : (d : ℕ) → same d (suc m.lastlink) ≡ false → look d (live (added m l)) ≡ look d (live m)
  added_other d n = ap (λ (x : List Link). look d x) added_live
      ∙ snoc_other d l (same_ne l.number d (λ r. same_false d (suc m.lastlink) n (sym r ∙ e))) (live m)

  pub added_frame : m.lastlink < 60000 → Frame (added m l)
  added_frame h = record {
    shape = record { parties16 = fr.shape.parties16; links32 = length-set m.links m.count l ∙ fr.shape.links32 };
    count32 = omega arith;
    last_link = omega arith;
    last_tx = fr.last_tx;
    rising = rw (add-one m.lastlink)
        (rw added_live (snoc_between 0 m.lastlink l e (live m) fr.rising));
  }
