-- A record is sound just when it is fine, and a call keeps it fine.
-- Assumes nothing.
use Rattle.std.proofs.Common.{◌≡◌, refl, sym, ap, subst, ◌∙◌, List, [], ◌∷◌, Bool, true, false, ◌&&◌, ℕ, zero, suc}
use Rattle.std.proofs.Common.{◌+◌, ◌<◌, arith, eqb, ltb, leb, length, get_or, ltb-true, leb-true, lt-ltb, le-leb, rules}
use Rattle.std.proofs.lemmas.Bool.{and_from}
use Rattle.rules.specs.Choice.{pick, same}
use Rattle.rules.specs.Record.{fresh_party, fresh_link, fresh_monitor, is_working, is_returned, is_ending, party, live, place_of, link_of, working, with_clock}
use Rattle.rules.specs.Lists.{any_of}
use Rattle.rules.specs.Sound.{link_good, reports_good, choices_good, links_good, works_for, party_good, parties_good, sound}
use Rattle.rules.specs.declared.Call.{Call}
use Rattle.rules.specs.declared.Link.{Link}
use Rattle.rules.specs.declared.Party.{Party}
use Rattle.rules.specs.declared.Monitor.{Monitor}
use Rattle.rules.specs.declared.Ruled.{Ruled}
use Rattle.rules.proofs.Logic.{Nz, pick_true, pick_false, test, by_test, not_both, same_refl, same_true, same_ne, and_l, and_r, by_number}
use Rattle.rules.proofs.Fine.{no_link, look, Between, Shape, Fine}
use Rattle.rules.proofs.Parties.{fresh_choices}
use Rattle.rules.proofs.Looks.{look_below, look_next, link_of_look, look_link_of}
use Rattle.rules.proofs.Changes.{place_first}
use Rattle.rules.proofs.History.Moves.{Like, Left, alike, gone, shut, back, Idle, Ends, Begins, Makes, Takes, Move, quiet, sends, grants}
use Rattle.rules.proofs.History.Moves.{finishes, cancels, disconnects, leaves, ends, begins, renews, makes, makes_free, takes}
use Rattle.rules.proofs.History.Left.{fades_works}
use Rattle.rules.proofs.History.Tells.{Tell}
use Rattle.rules.proofs.History.Walk.Moved.{Moved}
use Rattle.rules.proofs.History.Walk.LinkChanges.{no_link_good, working_waits_not, working_good, returned_ending}

-- ---- the links
-- a choice whose other side is false
both : (a b : Bool) → pick a b false ≡ true → (a ≡ true) × (b ≡ true)
unfolding pick
both true b h = (refl, h)
both false b h = not_both h refl

from_both : (a b : Bool) → a ≡ true → b ≡ true → pick a b false ≡ true
from_both a b p q = pick_true a b false p ∙ q

links_rise : (last prev : ℕ) (ls : List Link) → links_good last prev ls ≡ true → Between prev ls last
unfolding links_good
links_rise last prev [] h = leb-true prev last h
links_rise last prev (l ∷ ls) h =
    let b = both _ _ h in
    (ltb-true prev l.number (and_l _ _ b.0), links_rise last l.number ls b.1)

links_good_lem : (last prev : ℕ) (ls : List Link) → links_good last prev ls ≡ true → (d : ℕ) → link_good (look d ls) ≡ true
unfolding links_good look
links_good_lem last prev [] h d = no_link_good
links_good_lem last prev (l ∷ ls) h d =
    let b = both _ _ h in
    by_test (λ (x : Link). link_good x ≡ true) (λ _. and_r (ltb prev l.number) _ b.0) (λ _. links_good_lem last l.number ls b.1 d)

-- whichever place it stands at, a returned link's outcome is 8, 4 or 2
links_ended : (last prev : ℕ) (ls : List Link) → links_good last prev ls ≡ true → (i : ℕ)
    → is_returned (get_or ls i fresh_link) ≡ true → is_ending (get_or ls i fresh_link).outcome ≡ true
unfolding links_good
links_ended last prev [] h i r = not_both r refl
links_ended last prev (l ∷ ls) h zero r = returned_ending l (and_r (ltb prev l.number) _ (both _ _ h).0) r
links_ended last prev (l ∷ ls) h (suc i) r = links_ended last l.number ls (both _ _ h).1 i r

good_links : (last prev : ℕ) (ls : List Link) → Between prev ls last → ((d : ℕ) → link_good (look d ls) ≡ true) → links_good last prev ls ≡ true
unfolding links_good look
good_links last prev [] h f = le-leb prev last h
good_links last prev (l ∷ ls) h f =
    let g : link_good l ≡ true = rw (pick_true _ l (look l.number ls) (same_refl l.number)) at (f l.number) in
    from_both _ _ (and_from _ _ (lt-ltb prev l.number h.0) g)
    (good_links last l.number ls h.1 (λ d. test (same l.number d)
    (λ q. let r = same_true _ _ q in rw (look_below l.number last d ls h.1 (omega arith)) no_link_good)
    (λ q. rw (pick_false _ l (look d ls) q) at (f d))))

-- ---- the parties
module _ (m : Monitor) where
  party_choices : (p : ℕ) (q : Party) → party_good m p q ≡ true → choices_good q ≡ true
  unfolding party_good
  party_choices p q h = test (eqb q.served 0)
      (λ e. sym (pick_true _ (choices_good q) (choices_good q && works_for p (link_of m q.served)) e) ∙ h)
      (λ e. and_l (choices_good q) _ (sym (pick_false _ (choices_good q) (choices_good q && works_for p (link_of m q.served)) e) ∙ h))

  party_works : (p : ℕ) (q : Party) → party_good m p q ≡ true → Nz q.served → works_for p (link_of m q.served) ≡ true
  unfolding party_good same
  party_works p q h n = and_r (choices_good q) _ (sym (pick_false _ (choices_good q) (choices_good q && works_for p (link_of m q.served)) n) ∙ h)

  good_party : (p : ℕ) (q : Party) → choices_good q ≡ true → (Nz q.served → works_for p (link_of m q.served) ≡ true) → party_good m p q ≡ true
  unfolding party_good same
  good_party p q h f = by_test (λ (x : Bool). x ≡ true) (λ _. h) (λ e. and_from (choices_good q) _ h (f e))

  parties_good_lem : (p i k : ℕ) (qs : List Party) → k ≡ p + i → parties_good m p qs ≡ true → party_good m k (get_or qs i fresh_party) ≡ true
  unfolding parties_good
  parties_good_lem p i k [] e h = good_party k fresh_party fresh_choices (λ n. not_both (same_refl 0) n)
  parties_good_lem p zero k (q ∷ qs) e h = subst (λ (x : ℕ). party_good m x q ≡ true) (omega arith) (both _ _ h).0
  parties_good_lem p (suc i) k (q ∷ qs) e h = parties_good_lem (p + 1) i k qs (omega arith) (both _ _ h).1

  good_parties : (p : ℕ) (qs : List Party) → ((i k : ℕ) → k ≡ p + i → party_good m k (get_or qs i fresh_party) ≡ true) → parties_good m p qs ≡ true
  unfolding parties_good
  good_parties p [] f = refl
  good_parties p (q ∷ qs) f = from_both _ _ (f 0 p (omega arith)) (good_parties (p + 1) qs (λ i k e. f (suc i) k (omega arith)))

  -- the rules' look-up and ours find the same working link
  works_look : (p d : ℕ) → works_for p (link_of m d) ≡ true → works_for p (look d (live m)) ≡ true
  unfolding works_for
  works_look p d h = rw (link_of_look m (λ l. is_working l) refl d (and_l _ _ h)) at h

  look_works : (p d : ℕ) → works_for p (look d (live m)) ≡ true → works_for p (link_of m d) ≡ true
  unfolding works_for no_link
  look_works p d h = rw (look_link_of m (λ l. is_working l) refl d (and_l _ _ h)) h

-- ---- the lists of a sound record
sound_lists : (m : Monitor) → sound m ≡ true → links_good m.lastlink 0 (live m) && parties_good m 0 m.parties ≡ true
unfolding sound
sound_lists m h = and_r (leb m.lasttx 60000) _ (and_r (leb m.lastlink 60000) _ (both _ _ h).1)

sound_links : (m : Monitor) → sound m ≡ true → links_good m.lastlink 0 (live m) ≡ true
sound_links m h = and_l _ _ (sound_lists m h)

-- a returned link's outcome is 8, 4 or 2
pub sound_ended : (m : Monitor) → sound m ≡ true → (i : ℕ)
    → is_returned (get_or (live m) i fresh_link) ≡ true → is_ending (get_or (live m) i fresh_link).outcome ≡ true
sound_ended m h i r = links_ended m.lastlink 0 (live m) (sound_links m h) i r

-- the link at a place is the first with its number
pub sound_placed : (m : Monitor) → sound m ≡ true → (i : ℕ) → i < length (live m) → place_of m (get_or (live m) i fresh_link).number ≡ i
sound_placed m h i k = place_first 0 m.lastlink i (live m) (links_rise m.lastlink 0 (live m) (sound_links m h)) k

-- ---- both ways
pub sound_fine : (m : Monitor) → Shape m → sound m ≡ true → Fine m
unfolding sound works_for
sound_fine m sh h =
    let b = both _ _ h in
    let c = and_r (leb m.lastlink 60000) _ b.1 in
    let ls = sound_links m h in
    let ps : (q : ℕ) → party_good m q (party m q) ≡ true =
    λ q. parties_good_lem m 0 q q m.parties (omega arith) (and_r (links_good m.lastlink 0 (live m)) _ (sound_lists m h))
    in
    let ws : (q : ℕ) → Nz (party m q).served → works_for q (look (party m q).served (live m)) ≡ true =
    λ q n. works_look m q (party m q).served (party_works m q (party m q) (ps q) n)
    in
    record {
      frame = record {
        shape = sh;
        count32 = leb-true _ 32 b.0;
        last_link = leb-true _ 60000 (and_l (leb m.lastlink 60000) _ b.1);
        last_tx = leb-true _ 60000 (and_l (leb m.lasttx 60000) _ c);
        rising = links_rise m.lastlink 0 (live m) ls;
      };
      links = links_good_lem m.lastlink 0 (live m) ls;
      choices = λ q. party_choices m q (party m q) (ps q);
      works = λ q n. and_l _ _ (ws q n);
      mine = λ q n. same_true _ q (and_r (is_working (look (party m q).served (live m))) _ (ws q n));
    }

pub fine_sound : (m : Monitor) → Fine m → sound m ≡ true
unfolding sound works_for
fine_sound m fi =
    from_both _ _ (le-leb m.count 32 fi.frame.count32)
    (and_from _ _ (le-leb m.lastlink 60000 fi.frame.last_link)
    (and_from _ _ (le-leb m.lasttx 60000 fi.frame.last_tx)
    (and_from _ _ (good_links m.lastlink 0 (live m) fi.frame.rising fi.links)
    (good_parties m 0 m.parties (λ i k e. subst (λ (x : ℕ). party_good m x (party m i) ≡ true) (omega arith)
    (good_party m i (party m i) (fi.choices i) (λ n. look_works m i (party m i).served
    (and_from _ _ (fi.works i n) (rw (fi.mine i n) (same_refl i))))))))))

pub fresh_fine : Fine fresh_monitor
unfolding sound links_good parties_good party_good reports_good any_of pick
fresh_fine = sound_fine fresh_monitor (record { parties16 = refl; links32 = refl }) refl

pub clock_fine : (m : Monitor) (t : ℕ) → Fine m → Fine (with_clock m t)
clock_fine m t fi = search rules

-- ---- a move keeps it
-- what soundness says of links and of who serves them
record Good (P : ℕ → Party) (L : ℕ → Link) : Type 0 where
  links : (d : ℕ) → link_good (L d) ≡ true
  works : (q : ℕ) → Nz (P q).served → is_working (L (P q).served) ≡ true
  mine : (q : ℕ) → Nz (P q).served → (L (P q).served).server ≡ q

-- a link stays good, and with its server if it works
record Safe (l l' : Link) : Type 0 where
  good' : link_good l ≡ true → link_good l' ≡ true
  server' : is_working l' ≡ true → l'.server ≡ l.server

same_safe : {l l' : Link} → l' ≡ l → Safe l l'
same_safe e = search rules

gone_safe : {l l' : Link} → l' ≡ no_link → Safe l l'
unfolding no_link
gone_safe e = search rules

like_safe : {l l' : Link} → Like l l' → Safe l l'
like_safe k = record { good' = k.good'; server' = λ _. k.server' }

left_safe : {l l' : Link} → Left l l' → Safe l l'
left_safe (alike k s) = like_safe k
left_safe (gone e) = gone_safe e
left_safe (shut k) = record { good' = k.good'; server' = λ _. k.server' }
left_safe (back k) = record { good' = k.good'; server' = λ _. k.server' }

-- by the link: d, or another, which stays
one_safe : (L L' : ℕ → Link) (d : ℕ) → Safe (L d) (L' d) → ((e : ℕ) → same e d ≡ false → L' e ≡ L e) → (e : ℕ) → Safe (L e) (L' e)
one_safe L L' d s o = by_number d (λ e. Safe (L e) (L' e)) s (λ e q. same_safe (o e q))

module _ {P : ℕ → Party} {L : ℕ → Link} {P' : ℕ → Party} {L' : ℕ → Link} (g : Good P L) where
  -- who still serves a link serves the same, and it works
  good_after : ((e : ℕ) → Safe (L e) (L' e)) → ((q : ℕ) → Nz (P' q).served → (P' q).served ≡ (P q).served)
      → ((q : ℕ) → Nz (P' q).served → is_working (L (P q).served) ≡ true → is_working (L' (P q).served) ≡ true) → Good P' L'
  good_after s v w = search rules

  idle_good : Idle P L P' L' → ((e : ℕ) → Safe (L e) (L' e)) → ((e : ℕ) → is_working (L e) ≡ true → is_working (L' e) ≡ true) → Good P' L'
  idle_good i s w = good_after s (λ q _. i.served' q) (λ q _. w (P q).served)

  like_good : Idle P L P' L' → ((e : ℕ) → Like (L e) (L' e)) → Good P' L'
  like_good i k = idle_good i (λ e. like_safe (k e)) (λ e w. rw (k e).state' w)

  ends_good : (p : ℕ) → Ends P L P' L' p → Good P' L'
  ends_good p k = good_after (λ e. left_safe (k.less e)) (λ q _. k.served' q) (λ q _. k.works' (P q).served)

  begins_good : (p t : ℕ) → Begins P L P' L' p t → Good P' L'
  begins_good p t k = search rules

  makes_good : (p d x : ℕ) → is_working (L d) ≡ false → Makes P L P' L' p d x → Good P' L'
  makes_good p d x n k = idle_good k.idle
      (one_safe L L' d (record { good' = λ _. k.good; server' = λ w. not_both k.waits (working_waits_not (L' d) w) }) k.others)
      (fades_works d k.others (λ w. not_both w n))

  takes_good : (p d : ℕ) → p < 16 → Takes P L P' L' p d → Good P' L'
  takes_good p d h k =
      let kept : (q : ℕ) → same q p ≡ false → Nz (P q).served → L' (P' q).served ≡ L (P q).served = λ q a n. ap L' (k.served' q a)
      ∙ k.others (P q).served
      (same_ne _ d (λ r. not_both k.waits (working_waits_not (L d) (rw r at (g.works q n))))) in
      let nz : (q : ℕ) → same q p ≡ false → Nz (P' q).served → Nz (P q).served = λ q a n. rw (k.served' q a) at n in
      let new : (q : ℕ) → same q p ≡ true → L' (P' q).served ≡ working (L d) p =
      λ q a. ap (λ (x : ℕ). L' (P' x).served) (same_true q p a) ∙ ap L' k.p_served ∙ k.works
      in
      record {
        links = λ e. test (same e d)
            (λ a. rw (ap L' (same_true e d a) ∙ k.works) (working_good (L d) p h k.waits (g.links d)))
            (λ a. rw (k.others e a) (g.links e));
        works = λ q n. test (same q p)
            (λ a. rw (new q a) refl)
            (λ a. rw (kept q a (nz q a n)) (g.works q (nz q a n)));
        mine = λ q n. test (same q p)
            (λ a. ap (λ (x : Link). x.server) (new q a) ∙ sym (same_true q p a))
            (λ a. ap (λ (x : Link). x.server) (kept q a (nz q a n)) ∙ g.mine q (nz q a n));
      }

move_good : (c : Call) (p n m n' m' : ℕ) {P : ℕ → Party} {L : ℕ → Link} {P' : ℕ → Party} {L' : ℕ → Link} {t : Tell}
    → p < 16 → is_working (L (suc n)) ≡ false → Good P L → Move c p n m P L n' m' P' L' t → Good P' L'
move_good c p n m n' m' h z g (quiet k i l s) = like_good g i l
move_good c p n m n' m' h z g (sends k d s) = like_good g s.idle s.like
move_good c p n m n' m' h z g (grants k d s) = like_good g s.idle s.like
move_good c p n m n' m' h z g (finishes k d f) =
    idle_good g f.idle (one_safe _ _ d (gone_safe f.gone') f.others) (fades_works d f.others (λ w. not_both w f.rests))
move_good c p n m n' m' h z g (cancels k d f) =
    idle_good g f.idle (one_safe _ _ d (left_safe f.fade) f.others) (fades_works d f.others f.fade_works)
move_good c p n m n' m' h z g (disconnects k d f) =
    good_after g (one_safe _ _ d (left_safe f.fade) f.others) (λ q _. f.served' q) (λ q _. fades_works d f.others f.fade_works _)
move_good c p n m n' m' h z g (leaves k bad l s) = good_after g (λ e. left_safe (l.less e)) l.served' l.stays
move_good c p n m n' m' h z g (ends k e) = ends_good g p e
move_good c p n m n' m' h z g (begins a b s x k) = begins_good g p (suc m) k
move_good c p n m n' m' h z g (renews a b s Pₑ Lₑ e k) = begins_good (ends_good g p e) p (suc m) k
move_good c p n m n' m' h z g (makes a b x y k) = makes_good g p (suc n) x z k
move_good c p n m n' m' h z g (makes_free a b k) = makes_good g p (suc n) 0 z k
move_good c p n m n' m' h z g (takes k d t) = takes_good g p d h t

pub moved_fine : (m : Monitor) (c : Call) (r : Ruled) → Fine m → Moved m c r → c.party < 16 → Fine r.monitor
unfolding no_link
moved_fine m c r fi mv h =
    let z : is_working (look (suc m.lastlink) (live m)) ≡ false = rw (look_next m fi.frame) in
    let g : Good (λ q. party m q) (λ d. look d (live m)) = record { links = fi.links; works = fi.works; mine = fi.mine } in
    let g' : Good (λ q. party r.monitor q) (λ d. look d (live r.monitor)) =
    move_good c c.party m.lastlink m.lasttx r.monitor.lastlink r.monitor.lasttx h z g mv.move
    in
    record { frame = mv.frame; links = g'.links; choices = λ q. mv.choices q (fi.choices q); works = g'.works; mine = g'.mine }
