-- The numbers of good links rise, so that a served number names one link at most, which one pass over the links finds.
-- Assumes nothing.
use Rattle.std.proofs.Common.{ℕ, ◌+◌, ◌≤◌, ◌<◌, ◌≡◌, refl, ap, sym, ◌∙◌, List, [], ◌∷◌, Bool, true, false, ◌&&◌, arith, ltb-true, leb-true, le-leb}
use Rattle.std.proofs.Common.{eqb-true, eq-eqb, ne_eqb, eqb, ltb, leb, length, get_or, set, drop, length-set, get_or-set_same, get_or-set_other}
use Rattle.std.proofs.lemmas.Bool.{lt-leb, eqb-false}
use Rattle.rules.specs.Choice.{pick, same}
use Rattle.rules.specs.Lists.{first_of}
use Rattle.rules.specs.Record.{fresh_link, is_working, live, party, numbered, link_of}
use Rattle.rules.specs.Sound.{link_good, links_good, works_for, choices_good, party_good, parties_good}
use Rattle.rules.specs.declared.Party.{Party}
use Rattle.rules.specs.declared.Link.{Link}
use Rattle.rules.specs.declared.Monitor.{Monitor}
use Rattle.std.proofs.Math.Bool.{and-true}
use Rattle.rules.proofs.Logic.{pick_true, pick_false, test, same_ne, same_true, same_false, and_l, and_r, and_false}
use Rattle.monitor.specs.Served.{served_by, found_of, found_for, FoundAll}
use Rattle.monitor.specs.View.{view, link_in}
use Rattle.monitor.proofs.Laws.{end_live, end_party}
use Rattle.monitor.proofs.Checks.{links_over, link_passed, link_failed, parties_over, party_passed, party_failed}
use Rattle.monitor.proofs.Comparing.{link_read, party_read}

-- ---- one link, as the code tests it
module _ (p d : ℕ) (l : Link) where
  pub serves_here : (b : Bool) → l.server ≡ p → is_working l && eqb l.number d ≡ b → served_by p d l ≡ b
  unfolding served_by same
  serves_here b e t = ap (λ (x : Bool). x && (is_working l && eqb l.number d)) (eq-eqb _ _ e) ∙ t

  pub serves_else : (l.server ≡ p → ⊥) → served_by p d l ≡ false
  unfolding served_by
  serves_else n = ap (λ (x : Bool). x && (is_working l && same l.number d)) (same_ne _ _ n)

  serves_not : same l.number d ≡ false → served_by p d l ≡ false
  unfolding served_by
  serves_not e =
      ap (λ (x : Bool). same l.server p && (is_working l && x)) e
      ∙ ap (λ (x : Bool). same l.server p && x) (and_false (is_working l)) ∙ and_false (same l.server p)

-- ---- good links: the first is past prev, and the rest past it
module _ (last prev : ℕ) (l : Link) (ls : List Link) (g : links_good last prev (l ∷ ls) ≡ true) where
  first_good : ltb prev l.number && link_good l ≡ true
  unfolding links_good
  first_good = test (ltb prev l.number && link_good l) (λ e. e) (λ e. e ∙ sym (pick_false _ _ _ e) ∙ g)

  rest_good : links_good last l.number ls ≡ true
  unfolding links_good
  rest_good = sym (pick_true _ _ _ first_good) ∙ g

  rises : prev < l.number
  rises = ltb-true _ _ (and_l _ _ first_good)

pub server_small : (l : Link) → link_good l ≡ true → l.server < 16
server_small l g =
    let k = and_r (leb l.kind 1) _ g in
    let o = and_r (leb l.originator 15) _ k in
    let a = and_r (leb l.attached 1) _ o in
    let t = and_r (leb l.state 2) _ a in
    let h = leb-true l.server 15 (and_l _ _ t) in
    omega arith

-- ---- past the number d, none is found
past : (last p d : ℕ) (ls : List Link) (prev f : ℕ) → links_good last prev ls ≡ true → d ≤ prev → found_of p d f ls ≡ f
unfolding found_of
past last p d [] prev f g h = refl
past last p d (l ∷ ls) prev f g h =
    let r = rises last prev l ls g in
    let n : same l.number d ≡ false = same_ne _ _ (λ e. omega (arith, e)) in
    ap (λ (x : ℕ). found_of p d x ls) (pick_false _ _ _ (serves_not p d l n)) ∙ past last p d ls l.number f (rest_good last prev l ls g) (omega arith)

-- what is found is d where the link d works for p
chosen : (d n : ℕ) (a b : Bool) → d ≡ n → (d ≡ 0 → ⊥) → eqb d (pick (a && (b && true)) n 0) ≡ b && a
unfolding pick
chosen d n true true e z = eq-eqb d n e
chosen d n true false e z = ne_eqb d 0 z
chosen d n false true e z = ne_eqb d 0 z
chosen d n false false e z = ne_eqb d 0 z

module _ (last p d : ℕ) (z : d ≡ 0 → ⊥) where
  finds_here : (l : Link) (ls : List Link) → links_good last l.number ls ≡ true → same l.number d ≡ true
      → eqb d (found_of p d 0 (l ∷ ls)) ≡ works_for p (get_or (l ∷ ls) (first_of (numbered d) (l ∷ ls)) fresh_link)
  unfolding found_of first_of works_for numbered served_by
  finds_here l ls g t =
      let e : l.number ≡ d = same_true _ _ t in
      ap (eqb d) (past last p d ls l.number _ g (omega arith))
      ∙ ap (λ (x : Bool). eqb d (pick (same l.server p && (is_working l && x)) l.number 0)) t
      ∙ chosen d l.number (same l.server p) (is_working l) (sym e) z
      ∙ sym (ap (λ (k : ℕ). works_for p (get_or (l ∷ ls) k fresh_link)) (pick_true _ _ _ t))

  finds_later : (l : Link) (ls : List Link) → eqb d (found_of p d 0 ls) ≡ works_for p (get_or ls (first_of (numbered d) ls) fresh_link)
      → same l.number d ≡ false → eqb d (found_of p d 0 (l ∷ ls)) ≡ works_for p (get_or (l ∷ ls) (first_of (numbered d) (l ∷ ls)) fresh_link)
  unfolding found_of first_of numbered
  finds_later l ls r t =
      ap (λ (x : ℕ). eqb d (found_of p d x ls)) (pick_false _ _ _ (serves_not p d l t))
      ∙ r
      ∙ sym (ap (λ (k : ℕ). works_for p (get_or (l ∷ ls) k fresh_link)) (pick_false _ _ _ t))

  finds_served : (ls : List Link) (prev : ℕ) → links_good last prev ls ≡ true → eqb d (found_of p d 0 ls) ≡ works_for p (get_or ls (first_of (numbered d) ls) fresh_link)
  unfolding found_of first_of works_for
  finds_served [] prev g = ne_eqb d 0 z
  finds_served (l ∷ ls) prev g =
      let r = rest_good last prev l ls g in
      test (same l.number d) (finds_here l ls r) (finds_later l ls (finds_served ls l.number r))

-- a party is good where what is found for it is what it serves
party_found : (m : Monitor) (p : ℕ) (q : Party) → links_good m.lastlink 0 (live m) ≡ true
    → party_good m p q ≡ choices_good q && eqb q.served (found_of p q.served 0 (live m))
unfolding party_good link_of
party_found m p q g = test (eqb q.served 0) none some
  where
    none : eqb q.served 0 ≡ true → party_good m p q ≡ choices_good q && eqb q.served (found_of p q.served 0 (live m))
    none t =
        let e : q.served ≡ 0 = eqb-true _ _ t in
        let f = past m.lastlink p q.served (live m) 0 0 g (omega arith) in
        pick_true _ _ _ t ∙ sym (ap (λ (x : Bool). choices_good q && x) (ap (eqb q.served) f ∙ t) ∙ and-true (choices_good q))

    some : eqb q.served 0 ≡ false → party_good m p q ≡ choices_good q && eqb q.served (found_of p q.served 0 (live m))
    some t = pick_false _ _ _ t ∙ sym (ap (λ (x : Bool). choices_good q && x) (finds_served m.lastlink p q.served (eqb-false _ _ t) (live m) 0 g))

party_tested : (m : Monitor) (found : List ℕ) (p : ℕ) (q : Party) → p < 16 → q ≡ party m p → links_good m.lastlink 0 (live m) ≡ true → FoundAll m found
    → party_good m p q ≡ choices_good q && eqb q.served (get_or found p 0)
party_tested m found p q h e g f =
    party_found m p q g
    ∙ ap (λ (d : ℕ). choices_good q && eqb q.served d) (ap (λ (q : Party). found_of p q.served 0 (live m)) e ∙ sym (f p h))

-- ---- the pass over the links
-- The links before place i are good, and rise to prev; found has what they give each party.
pub record Finds (m : Monitor) (prev i : ℕ) (found : List ℕ) : Type 0 where
  pub good : links_good m.lastlink 0 (live m) ≡ links_good m.lastlink prev (drop i (live m))
  pub long : length found ≡ 16
  pub each : (p : ℕ) → p < 16 → found_for m p (get_or found p 0) (drop i (live m)) ≡ found_for m p 0 (live m)

found_next : (p d f h : ℕ) (s : List Link) (l : Link) (r : List Link) → s ≡ l ∷ r → pick (served_by p d l) l.number f ≡ h
    → found_of p d f s ≡ found_of p d h r
unfolding found_of
found_next p d f h s l r k e = ap (found_of p d f) k ∙ ap (λ (x : ℕ). found_of p d x r) e

module _ (found : List ℕ) (d : ℕ → ℕ) (l : Link) (p : ℕ) where
  found_put : length found ≡ 16 → l.server < 16 → is_working l && eqb l.number (d l.server) ≡ true
      → pick (served_by p (d p) l) l.number (get_or found p 0) ≡ get_or (set found l.server l.number) p 0
  found_put n h t =
      test (same l.server p)
      (λ s.
      let e = same_true _ _ s in
      pick_true _ _ _ (serves_here p (d p) l true e (ap (λ (k : ℕ). is_working l && eqb l.number (d k)) (sym e) ∙ t))
      ∙ sym (ap (λ (k : ℕ). get_or (set found l.server l.number) k 0) (sym e) ∙ get_or-set_same found l.server l.number 0 (omega arith)))
      (λ s.
      let e = same_false _ _ s in
      pick_false _ _ _ (serves_else p (d p) l e) ∙ sym (get_or-set_other found l.server p l.number 0 (λ q. e (sym q))))

  found_kept : is_working l && eqb l.number (d l.server) ≡ false → pick (served_by p (d p) l) l.number (get_or found p 0) ≡ get_or found p 0
  found_kept t =
      test (same l.server p)
      (λ s.
      let e = same_true _ _ s in
      pick_false _ _ _ (serves_here p (d p) l false e (ap (λ (k : ℕ). is_working l && eqb l.number (d k)) (sym e) ∙ t)))
      (λ s. pick_false _ _ _ (serves_else p (d p) l (same_false _ _ s)))

module _ (xs : List ℕ) {prev i : ℕ} {found : List ℕ} (k : Finds (view xs) prev i found) (few : (view xs).count ≤ 32) where
  module _ (l : Link) (b : Bool) (e : b ≡ link_good l) (is : l ≡ link_in (view xs) i) (h : i < (view xs).count) where
    pub finds_bad : ltb prev l.number && b ≡ false → links_good (view xs).lastlink 0 (live (view xs)) ≡ false
    finds_bad t = k.good ∙ link_failed _ _ _ l _ (link_read xs i l few h is) (ap (λ (b : Bool). ltb prev l.number && b) (sym e) ∙ t)

    module _ (t : ltb prev l.number && b ≡ true) where
      pub finds_small : l.server < 16
      finds_small = server_small l (sym e ∙ and_r (ltb prev l.number) b t)

      next_finds : (after : List ℕ) → length after ≡ 16
          → ((p : ℕ) → pick (served_by p (party (view xs) p).served l) l.number (get_or found p 0) ≡ get_or after p 0) → Finds (view xs) l.number (i + 1) after
      next_finds after n next =
          let r = link_read xs i l few h is in
          record {
            good = k.good ∙ link_passed _ _ _ l _ r (ap (λ (b : Bool). ltb prev l.number && b) (sym e) ∙ t);
            long = n;
            each = λ p u. sym (found_next p _ _ _ _ l _ r (next p)) ∙ k.each p u;
          }

      module _ (q : Party) (served : q ≡ party (view xs) l.server) where
        works : is_working l && eqb l.number q.served ≡ is_working l && eqb l.number (party (view xs) l.server).served
        works = ap (λ (q : Party). is_working l && eqb l.number q.served) served

        pub finds_put : is_working l && eqb l.number q.served ≡ true → Finds (view xs) l.number (i + 1) (set found l.server l.number)
        finds_put w = next_finds _ (length-set found l.server l.number ∙ k.long) (λ p. found_put found (λ p. (party (view xs) p).served) l p k.long finds_small (sym works ∙ w))

        pub finds_kept : is_working l && eqb l.number q.served ≡ false → Finds (view xs) l.number (i + 1) found
        finds_kept w = next_finds found k.long (λ p. found_kept found (λ p. (party (view xs) p).served) l p (sym works ∙ w))

  module _ (h : (view xs).count ≤ i) where
    finds_good : links_good (view xs).lastlink 0 (live (view xs)) ≡ leb prev (view xs).lastlink
    finds_good = k.good ∙ links_over _ _ _ (end_live xs i few h)

    pub finds_past : (view xs).lastlink < prev → links_good (view xs).lastlink 0 (live (view xs)) ≡ false
    finds_past p = finds_good ∙ lt-leb _ _ p

    pub finds_over : prev ≤ (view xs).lastlink → (links_good (view xs).lastlink 0 (live (view xs)) ≡ true) × FoundAll (view xs) found
    unfolding found_of
    finds_over p = (
      finds_good ∙ le-leb _ _ p,
      λ p u. sym (ap (found_for (view xs) p (get_or found p 0)) (end_live xs i few h)) ∙ k.each p u,
    )

-- ---- the pass over the parties
-- Those before place p are good.
pub record Tests (m : Monitor) (p : ℕ) : Type 0 where
  pub tells : parties_good m 0 m.parties ≡ parties_good m p (drop p m.parties)

module _ (xs : List ℕ) {p : ℕ} (k : Tests (view xs) p) where
  pub tests_over : 16 ≤ p → true ≡ parties_good (view xs) 0 (view xs).parties
  tests_over h = sym (k.tells ∙ parties_over _ _ _ (end_party xs p h))

  module _ (found : List ℕ) (r : (links_good (view xs).lastlink 0 (live (view xs)) ≡ true) × FoundAll (view xs) found) (q : Party) (is : q ≡ party (view xs) p)
      (b : Bool) (e : b ≡ choices_good q) (h : p < 16) where
    tested : party_good (view xs) p q ≡ b && eqb q.served (get_or found p 0)
    tested = party_tested (view xs) found p q h is r.0 r.1 ∙ ap (λ (b : Bool). b && eqb q.served (get_or found p 0)) (sym e)

    pub tests_bad : b && eqb q.served (get_or found p 0) ≡ false → false ≡ parties_good (view xs) 0 (view xs).parties
    tests_bad t = sym (k.tells ∙ party_failed _ _ _ q _ (party_read xs p q h is) (tested ∙ t))

    pub tests_good : b && eqb q.served (get_or found p 0) ≡ true → Tests (view xs) (p + 1)
    tests_good t = record { tells = k.tells ∙ party_passed _ _ _ q _ (party_read xs p q h is) (tested ∙ t) }
