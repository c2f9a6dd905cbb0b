-- Laws of the record read off its words: a link, a party, what is left of them from a place on, and look-ups by place.
-- Assumes nothing.
use Rattle.std.proofs.Common.{ℕ, zero, suc, ◌+◌, ◌≤◌, ◌<◌, ◌≡◌, refl, ap, sym, ◌∙◌, List, [], ◌∷◌, Bool, true, le_of_suc-le-suc}
use Rattle.std.proofs.Common.{not-suc-le-zero, arith, lt-ltb, leb-true, ltb, length, drop, get_or, drop_of_length-le, length-take-le}
use Rattle.std.proofs.lemmas.List.{drop_more}
use Rattle.rules.specs.declared.Party.{Party}
use Rattle.rules.specs.declared.Link.{Link}
use Rattle.rules.specs.declared.Monitor.{Monitor}
use Rattle.rules.specs.Record.{is_returned, is_ending, live, party, place_of, link_of, replaced, changed, fresh_party, fresh_link}
use Rattle.rules.specs.Sound.{sound}
use Rattle.rules.specs.Transaction.{tx_left}
use Rattle.rules.proofs.Logic.{pick_true, by_test}
use Rattle.rules.proofs.Fine.{Shape}
use Rattle.rules.proofs.Sound.{sound_ended, sound_placed}
use Rattle.monitor.specs.View.{link_at, party_at, links_from, parties_from, view, link_in, live_at, changed_at}
use Rattle.monitor.proofs.Lists.{live_cons, live_end, live_at_lem, live_past}

-- ---- links
pub links_long : (n i : ℕ) (xs : List ℕ) → length (links_from n i xs) ≡ n
unfolding links_from
links_long zero i xs = refl
links_long (suc n) i xs = ap suc (links_long n (suc i) xs)

pub links_at : (n i : ℕ) (xs : List ℕ) (j : ℕ) (d : Link) → j < n → get_or (links_from n i xs) j d ≡ link_at xs (i + j)
unfolding links_from
links_at zero i xs j d h = absurd (not-suc-le-zero h)
links_at (suc n) i xs zero d h = ap (link_at xs) (omega arith)
links_at (suc n) i xs (suc j) d h = links_at n (suc i) xs j d (le_of_suc-le-suc h) ∙ ap (link_at xs) (omega arith)

pub link_law : (xs : List ℕ) (i : ℕ) → i < 32 → link_in (view xs) i ≡ link_at xs i
link_law xs i h = links_at 32 0 xs i fresh_link h ∙ ap (link_at xs) (omega arith)

-- the live links from the place i on, one step
pub next_live : (xs : List ℕ) (i : ℕ) → (view xs).count ≤ 32 → i < (view xs).count → drop i (live (view xs)) ≡ link_in (view xs) i ∷ drop (i + 1) (live (view xs))
next_live xs i h k = let e = links_long 32 0 xs in live_cons (view xs).count (view xs).links i fresh_link (omega arith) k

pub end_live : (xs : List ℕ) (i : ℕ) → (view xs).count ≤ 32 → (view xs).count ≤ i → drop i (live (view xs)) ≡ []
end_live xs i h k = let e = links_long 32 0 xs in live_end (view xs).count (view xs).links i (omega arith) k

-- there are as many as are counted
pub live_long : (xs : List ℕ) → (view xs).count ≤ 32 → length (live (view xs)) ≡ (view xs).count
live_long xs h = let e = links_long 32 0 xs in length-take-le (view xs).count (view xs).links (omega arith)

-- a link there is is the one at its place of the room
pub live_in : (xs : List ℕ) (i : ℕ) → (view xs).count ≤ 32 → i < (view xs).count → live_at (view xs) i ≡ link_in (view xs) i
live_in xs i h k = let e = links_long 32 0 xs in live_at_lem (view xs).count (view xs).links i fresh_link fresh_link (omega arith) k

-- ---- parties
pub parties_long : (n i : ℕ) (xs : List ℕ) → length (parties_from n i xs) ≡ n
unfolding parties_from
parties_long zero i xs = refl
parties_long (suc n) i xs = ap suc (parties_long n (suc i) xs)

-- the record that the code holds has the declared lengths
pub view_shape : (xs : List ℕ) → Shape (view xs)
view_shape xs = record { parties16 = parties_long 16 0 xs; links32 = links_long 32 0 xs }

pub parties_at : (n i : ℕ) (xs : List ℕ) (j : ℕ) (d : Party) → j < n → get_or (parties_from n i xs) j d ≡ party_at xs (i + j)
unfolding parties_from
parties_at zero i xs j d h = absurd (not-suc-le-zero h)
parties_at (suc n) i xs zero d h = ap (party_at xs) (omega arith)
parties_at (suc n) i xs (suc j) d h = parties_at n (suc i) xs j d (le_of_suc-le-suc h) ∙ ap (party_at xs) (omega arith)

pub party_law : (xs : List ℕ) (p : ℕ) → p < 16 → party (view xs) p ≡ party_at xs p
party_law xs p h = parties_at 16 0 xs p fresh_party h ∙ ap (party_at xs) (omega arith)

pub next_party : (xs : List ℕ) (p : ℕ) → p < 16 → drop p (view xs).parties ≡ party (view xs) p ∷ drop (p + 1) (view xs).parties
next_party xs p h = let e = parties_long 16 0 xs in drop_more (view xs).parties p fresh_party (omega arith)

pub end_party : (xs : List ℕ) (p : ℕ) → 16 ≤ p → drop p (view xs).parties ≡ []
end_party xs p h =
    let e = parties_long 16 0 xs in
    let k : length (view xs).parties ≤ p = omega arith in
    drop_of_length-le (view xs).parties k

-- ---- by the place of the link with the number n
module _ (m : Monitor) (n i : ℕ) (e : i ≡ place_of m n) where
  pub live_of : live_at m i ≡ link_of m n
  unfolding link_of
  live_of = ap (live_at m) e

  pub changed_of : (l : Link) → changed_at m i l ≡ changed m n l
  unfolding changed
  changed_of l = ap (λ (j : ℕ). changed_at m j l) e

-- where it stands, and where there is none
module _ (xs : List ℕ) (n i : ℕ) (e : i ≡ place_of (view xs) n) (h : (view xs).count ≤ 32) where
  pub there : i < (view xs).count → link_in (view xs) i ≡ link_of (view xs) n
  there k = sym (live_in xs i h k) ∙ live_of (view xs) n i e

  pub nowhere : (view xs).count ≤ i → link_of (view xs) n ≡ fresh_link
  nowhere k = let l = links_long 32 0 xs in sym (live_of (view xs) n i e) ∙ live_past (view xs).count (view xs).links i fresh_link (omega arith) k

-- a change of it in its place
pub replaced_of : (m : Monitor) (n i : ℕ) (l : Link) → i ≡ place_of m n → i < m.count → replaced m i l ≡ changed m n l
replaced_of m n i l e k = sym (pick_true _ _ _ (lt-ltb i m.count k)) ∙ changed_of m n i e l

-- a change leaves as many links
pub count_kept : {m n : Monitor} → m ≡ n → n.count ≤ 32 → m.count ≤ 32
count_kept e h = let c = ap (λ (k : Monitor). k.count) e in omega (arith, h, c)

-- a sound record has room for its links
pub sound_room : (m : Monitor) → sound m ≡ true → m.count ≤ 32
unfolding sound
sound_room m e = by_test (λ (b : Bool). b ≡ true → m.count ≤ 32) (λ t _. leb-true _ _ t) (λ _ z. cc) e

-- the link l that was read at the place i is one of those there are
pub read_live : (xs : List ℕ) (i : ℕ) {l : Link} → (view xs).count ≤ 32 → i < (view xs).count → l ≡ link_in (view xs) i → l ≡ live_at (view xs) i
read_live xs i h k r = r ∙ sym (live_in xs i h k)

-- and in a sound record
module _ (xs : List ℕ) (h : sound (view xs) ≡ true) (i : ℕ) (k : i < (view xs).count) {l : Link} (r : l ≡ link_in (view xs) i) where
  is_live : l ≡ live_at (view xs) i
  is_live = read_live xs i (sound_room (view xs) h) k r

  -- it is the first with its number
  pub read_first : i ≡ place_of (view xs) l.number
  read_first =
      let n = live_long xs (sound_room (view xs) h) in
      sym (ap (λ (x : Link). place_of (view xs) x.number) is_live ∙ sound_placed (view xs) h i (omega arith))

  -- its outcome, if it is returned, is 8, 4 or 2
  pub read_ended : is_returned l ≡ true → is_ending l.outcome ≡ true
  read_ended t = ap (λ (x : Link). is_ending x.outcome) is_live ∙ sound_ended (view xs) h i (ap (λ (x : Link). is_returned x) (sym is_live) ∙ t)

-- ---- a transaction number is left where the last one, n, is below the greatest
pub tx_left_lem : (m : Monitor) (n : ℕ) → n ≡ m.lasttx → n < 60000 → tx_left m ≡ true
tx_left_lem m n e h = ap (λ (t : ℕ). ltb t 60000) (sym e) ∙ lt-ltb n 60000 h
