-- A sweep over the live links in place: what f makes of each, at most one, is moved to the front; then the room past the last is
-- blanked and the count set.
-- Assumes nothing.
use Rattle.std.proofs.Common.{Option, Some, None, option_to_list, ℕ, suc, ◌+◌, ◌-◌, ◌≤◌, ◌<◌, ◌≡◌, refl, ap, sym, ◌∙◌, Bool, false, List, []}
use Rattle.std.proofs.Common.{◌∷◌, ◌++◌, append-nil, append_assoc, add-one, arith, length, take, drop, get_or, set, length-drop}
use Rattle.std.proofs.Common.{take-append-drop, drop_of_length-le, take-suc-set, drop-set-lt, drop-drop, get_or-drop, length-take-le, take-take}
use Rattle.std.proofs.lemmas.List.{get_or-replicate}
use Rattle.std.proofs.Math.Seq.{paste, paste-zero, paste-suc}
use Rattle.rules.specs.declared.Link.{Link}
use Rattle.rules.specs.declared.Monitor.{Monitor}
use Rattle.rules.specs.Lists.{first_of, collect}
use Rattle.rules.specs.Record.{fresh_link, blanks, live, with_contents, with_links, with_count, rebuilt, replaced}
use Rattle.rules.proofs.Logic.{pick_true, pick_false, test}
use Rattle.monitor.specs.View.{link_in, blanked, view}
use Rattle.monitor.proofs.Lists.{first_within, collect_more}
use Rattle.monitor.proofs.Laws.{links_long, live_long}

-- ---- the loop that blanks
blanks_long : length blanks ≡ 32
unfolding blanks
blanks_long = refl

blank_at : (i : ℕ) (d : Link) → i < 32 → get_or blanks i d ≡ fresh_link
unfolding blanks
blank_at i d h = get_or-replicate 32 i fresh_link d h

pub blank_none : (xs : List ℕ) (from : ℕ) → view xs ≡ blanked (view xs) from from
blank_none xs from =
    let e : from - from ≡ 0 = omega arith in
    ap (with_links (view xs)) (paste-zero (view xs).links from (drop from blanks) ∙ ap (paste (view xs).links from (drop from blanks)) (sym e))

pub blank_more : (m : Monitor) (from i : ℕ) (x : Link) → length m.links ≡ 32 → from ≤ i → i < 32 → x ≡ fresh_link
    → replaced (blanked m from i) i x ≡ blanked m from (i + 1)
blank_more m from i x n h k e =
    let b : List Link = drop from blanks in
    let u : from + (i - from) ≡ i = omega arith in
    let v : suc (i - from) ≡ i + 1 - from = omega arith in
    let blank = ap (λ (j : ℕ). get_or blanks j fresh_link) u ∙ blank_at i fresh_link k in
    let w : get_or b (i - from) fresh_link ≡ x = get_or-drop from blanks (i - from) fresh_link ∙ blank ∙ sym e in
    let r = length-drop from blanks in
    ap (with_links m)
    (ap (λ (j : ℕ). set (paste m.links from b (i - from)) j x) (sym u)
    ∙ ap (set (paste m.links from b (i - from)) (from + (i - from))) (sym w)
    ∙ paste-suc m.links from b (i - from) fresh_link (omega arith) (omega (arith, blanks_long))
    ∙ ap (paste m.links from b) v)

-- all that stands past the places before j is fresh, where what stands past n is
room_left : (ls : List Link) (j n : ℕ) → j ≤ n → drop n ls ≡ drop n blanks → paste ls j (drop j blanks) (n - j) ≡ take j ls ++ drop j blanks
room_left ls j n h e =
    let u : j + (n - j) ≡ n = omega arith in
    ap (λ (k : ℕ). take j ls ++ take (n - j) (drop j blanks) ++ drop k ls) u
    ∙ ap (λ (r : List Link). take j ls ++ take (n - j) (drop j blanks) ++ r) (e ∙ ap (λ (k : ℕ). drop k blanks) (sym u) ∙ sym (drop-drop (n - j) j blanks))
    ∙ append_assoc (take j ls) (take (n - j) (drop j blanks)) (drop (n - j) (drop j blanks))
    ∙ ap (λ (r : List Link). take j ls ++ r) (take-append-drop (n - j) (drop j blanks))

pub keep_first_law : (xs ys zs : List ℕ) (n : ℕ) → n ≤ 32 → view ys ≡ blanked (view xs) n 32 → view zs ≡ with_count (view ys) n
    → view zs ≡ rebuilt (view xs) (take n (view xs).links)
keep_first_law xs ys zs n h a b =
    let ls : List Link = (view xs).links in
    let long = links_long 32 0 xs in
    let c : n ≡ length (take n ls) = sym (length-take-le n ls (omega arith)) in
    let none = drop_of_length-le blanks {i = 32} (omega (arith, blanks_long)) in
    let past : drop 32 ls ≡ drop 32 blanks = drop_of_length-le ls {i = 32} (omega arith) ∙ sym none in
    let r = room_left ls n 32 h past ∙ ap (λ (m : ℕ). take n ls ++ drop m blanks) c in
    b ∙ ap (λ (m : Monitor). with_count m n) a ∙ (λ z. with_contents (view xs) (view xs).parties (r z) (c z))

-- ---- the loop that moves, of the numbers ws at first and xs now, at the place i, with j links moved so far
pub record Sweeps (f : Link → List Link) (ws xs : List ℕ) (i j : ℕ) : Type 0 where
  pub room : (view ws).count ≤ 32
  pub inside : i ≤ (view ws).count
  pub behind : j ≤ i
  -- the first j links are what f left of the first i
  pub front : take j (view xs).links ≡ collect f (take i (view ws).links)
  -- those from i on are as at first
  pub rest : drop i (view xs).links ≡ drop i (view ws).links
  pub other : view xs ≡ with_links (view ws) (view xs).links

-- before the first that the test a takes, f leaves each as it is
kept_up_to : (f : Link → List Link) (a : Link → Bool) → ((x : Link) → a x ≡ false → f x ≡ x ∷ []) → (l : List Link)
    → collect f (take (first_of a l) l) ≡ take (first_of a l) l
unfolding first_of collect
kept_up_to f a keeps [] = refl
kept_up_to f a keeps (x ∷ l) = test (a x)
    (λ e. let zero-th = pick_true (a x) 0 (suc (first_of a l)) e in
    ap (λ (k : ℕ). collect f (take k (x ∷ l))) zero-th ∙ ap (λ (k : ℕ). take k (x ∷ l)) (sym zero-th))
    (λ e. ap (λ (k : ℕ). collect f (take k (x ∷ l))) (pick_false (a x) 0 (suc (first_of a l)) e)
    ∙ ap (λ (r : List Link). r ++ collect f (take (first_of a l) l)) (keeps x e)
    ∙ ap (λ (r : List Link). x ∷ r) (kept_up_to f a keeps l)
    ∙ ap (λ (k : ℕ). take k (x ∷ l)) (sym (pick_false (a x) 0 (suc (first_of a l)) e)))

-- it starts there
pub sweep_start : (ws : List ℕ) (f : Link → List Link) (a : Link → Bool) → ((x : Link) → a x ≡ false → f x ≡ x ∷ []) → {i : ℕ} → (view ws).count ≤ 32
    → i ≡ first_of a (live (view ws)) → Sweeps f ws ws i i
sweep_start ws f a keeps {i = i} r e =
    let k = first_within a (live (view ws)) in
    let n = live_long ws r in
    let h : i ≤ (view ws).count = omega arith in
    let t : take i (live (view ws)) ≡ take i (view ws).links = take-take i (view ws).count (view ws).links h in
    let kept = ap (λ (i : ℕ). collect f (take i (live (view ws)))) e ∙ kept_up_to f a keeps (live (view ws)) ∙ ap (λ (i : ℕ). take i (live (view ws))) (sym e) in
    record { room = r; inside = h; behind = omega arith; front = sym (ap (collect f) (sym t) ∙ kept ∙ t); rest = refl; other = refl }

-- the first that is taken is one of the links there are, or past the last
pub first_inside : (xs : List ℕ) (a : Link → Bool) {at : ℕ} → (view xs).count ≤ 32 → at ≡ first_of a (live (view xs)) → at ≤ (view xs).count
first_inside xs a h e =
    let k = first_within a (live (view xs)) in
    let l = live_long xs h in
    omega arith

module _ {f : Link → List Link} {ws xs : List ℕ} {i j : ℕ} (g : Sweeps f ws xs i j) where
  -- the link at the place i, of which o is left
  module _ (k : i < (view ws).count) {l : Link} (r : l ≡ link_in (view xs) i) where
    as_first : l ≡ link_in (view ws) i
    as_first =
        let z : i + 0 ≡ i = omega arith in
        r
        ∙ ap (link_in (view xs)) (sym z)
        ∙ sym (get_or-drop i (view xs).links 0 fresh_link)
        ∙ ap (λ (x : List Link). get_or x 0 fresh_link) g.rest
        ∙ get_or-drop i (view ws).links 0 fresh_link
        ∙ ap (link_in (view ws)) z

    more : (o : Option Link) → option_to_list o ≡ f l → collect f (take (i + 1) (view ws).links) ≡ take j (view xs).links ++ option_to_list o
    more o q =
        let e = links_long 32 0 ws in
        collect_more f (view ws).links fresh_link i (omega arith)
        ∙ ap (λ (x : List Link). x ++ f (get_or (view ws).links i fresh_link)) (sym g.front)
        ∙ ap (λ (x : Link). take j (view xs).links ++ f x) (sym as_first)
        ∙ ap (λ (x : List Link). take j (view xs).links ++ x) (sym q)

    rest_more : drop (i + 1) (view xs).links ≡ drop (i + 1) (view ws).links
    rest_more = sym (drop-drop 1 i (view xs).links) ∙ ap (drop 1) g.rest ∙ drop-drop 1 i (view ws).links

    -- nothing
    pub sweep_drop : {o : Option Link} → option_to_list o ≡ f l → o ≡ None → Sweeps f ws xs (i + 1) j
    sweep_drop q z =
        let e = more _ q ∙ ap (λ (x : Option Link). take j (view xs).links ++ option_to_list x) z ∙ append-nil (take j (view xs).links) in
        record { room = g.room; inside = omega arith; behind = omega arith; front = sym e; rest = rest_more; other = g.other }

    -- x, which is put at the place j
    pub sweep_put : {o : Option Link} {x : Link} → option_to_list o ≡ f l → o ≡ Some x → (ys : List ℕ) → view ys ≡ replaced (view xs) j x → Sweeps f ws ys (i + 1) (j + 1)
    sweep_put {x = x} q z ys p =
        let ls : List Link = (view xs).links in
        let o : (view ys).links ≡ set ls j x = ap (λ (m : Monitor). m.links) p in
        let e = links_long 32 0 xs in
        let t : take (j + 1) (set ls j x) ≡ take j ls ++ (x ∷ []) = ap (λ (m : ℕ). take m (set ls j x)) (add-one j) ∙ take-suc-set ls j x (omega arith) in
        record {
          room = g.room;
          inside = omega arith;
          behind = omega arith;
          front = ap (take (j + 1)) o ∙ t ∙ sym (more _ q ∙ ap (λ (y : Option Link). take j ls ++ option_to_list y) z);
          rest = ap (drop (i + 1)) o ∙ drop-set-lt (i + 1) ls j x (omega arith) ∙ rest_more;
          other = p ∙ ap (λ (m : Monitor). with_links m (set ls j x)) g.other ∙ ap (with_links (view ws)) (sym o);
        }

  -- the end: the first j links are kept
  pub swept : (ys : List ℕ) → i ≡ (view ws).count → view ys ≡ rebuilt (view xs) (take j (view xs).links) → view ys ≡ rebuilt (view ws) (collect f (live (view ws)))
  swept ys e k =
      k
      ∙ ap (rebuilt (view xs)) (g.front ∙ ap (λ (m : ℕ). collect f (take m (view ws).links)) e)
      ∙ ap (λ (m : Monitor). rebuilt m (collect f (live (view ws)))) g.other
