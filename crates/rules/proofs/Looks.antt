-- Looking a link up by its number: in a list with rising numbers, in the rules' own way, and under a test on the whole list.
-- Assumes nothing.
use Rattle.std.proofs.Common.{◌≡◌, refl, ap, List, [], ◌∷◌, Bool, true, false, ℕ, suc, ◌≤◌, ◌<◌, arith, ltb, get_or, ltb-true, ltb-false}
use Rattle.rules.specs.Choice.{pick, same}
use Rattle.rules.specs.Lists.{first_of, any_of}
use Rattle.rules.specs.Record.{fresh_link, is_working, numbered, party, live, link_of}
use Rattle.rules.specs.Transaction.{served_tx, tx_of}
use Rattle.rules.specs.declared.Link.{Link}
use Rattle.rules.specs.declared.Monitor.{Monitor}
use Rattle.rules.proofs.Logic.{Nz, test, by_test, not_both, same_refl, same_true, same_false, same_ne, zero_nz}
use Rattle.rules.proofs.Fine.{no_link, tx_p, look, Between, Frame, Fine}

-- ---- rising numbers
pub between_le : (lo hi : ℕ) (ls : List Link) → Between lo ls hi → lo ≤ hi
between_le lo hi [] h = h
between_le lo hi (l ∷ ls) h = let r = between_le l.number hi ls h.1 in omega arith

pub between_low : (lo lo' hi : ℕ) (ls : List Link) → lo ≤ lo' → Between lo' ls hi → Between lo ls hi
between_low lo lo' hi [] e h = omega arith
between_low lo lo' hi (l ∷ ls) e h = (omega arith, h.1)

pub look_above : (lo hi d : ℕ) (ls : List Link) → Between lo ls hi → hi < d → look d ls ≡ no_link
unfolding look pick
look_above lo hi d [] h e = refl
look_above lo hi d (l ∷ ls) h e =
    let r = between_le l.number hi ls h.1 in
    rw (same_ne l.number d (omega arith)) (look_above l.number hi d ls h.1 e)

pub look_below : (lo hi d : ℕ) (ls : List Link) → Between lo ls hi → d ≤ lo → look d ls ≡ no_link
unfolding look pick
look_below lo hi d [] h e = refl
look_below lo hi d (l ∷ ls) h e =
    rw (same_ne l.number d (omega arith)) (look_below l.number hi d ls h.1 (omega arith))

-- g: a test that the missing link fails
pub look_there : (g : Link → Bool) → g no_link ≡ false → (lo hi d : ℕ) (ls : List Link) → Between lo ls hi → g (look d ls) ≡ true → lo < (look d ls).number
unfolding look pick
look_there g gn lo hi d [] h e = not_both e gn
look_there g gn lo hi d (l ∷ ls) h e = test (same l.number d)
    (λ q. rw q h.0)
    (λ q. rw q (let r = look_there g gn l.number hi d ls h.1 (rw q at e) in let a = h.0 in omega arith))

-- what is looked up is not there, or has the number
pub look_cases : {X : Type 0} (d : ℕ) (ls : List Link) → (look d ls ≡ no_link → X) → ((look d ls).number ≡ d → X) → X
unfolding look pick
look_cases d [] f g = f refl
look_cases d (l ∷ ls) f g = test (same l.number d)
    (λ q. g (rw q (same_true _ _ q)))
    (λ q. look_cases d ls (λ a. f (rw q a)) (λ a. g (rw q a)))

pub look_number : (d : ℕ) (ls : List Link) → Nz (look d ls).number → (look d ls).number ≡ d
unfolding no_link
look_number d ls n = look_cases d ls (λ a. absurd (same_false _ 0 n (ap (λ (x : Link). x.number) a))) (λ a. a)

-- in the record: a link that passes a test that the missing link fails is there
pub there : (m : Monitor) → Frame m → (g : Link → Bool) → g no_link ≡ false → (d : ℕ) → g (look d (live m)) ≡ true → Nz (look d (live m)).number
there m fr g gn d h = same_ne _ 0 (let r = look_there g gn 0 m.lastlink d (live m) fr.rising h in omega arith)

pub look_zero : (m : Monitor) → Frame m → look 0 (live m) ≡ no_link
look_zero m fr = look_below 0 m.lastlink 0 (live m) fr.rising (omega arith)

pub look_next : (m : Monitor) → Frame m → look (suc m.lastlink) (live m) ≡ no_link
look_next m fr = look_above 0 m.lastlink (suc m.lastlink) (live m) fr.rising (omega arith)

-- a link that is there has a number up to the last
pub link_low : (m : Monitor) → Frame m → (d : ℕ) → Nz (look d (live m)).number → d ≤ m.lastlink
unfolding no_link
link_low m fr d z = test (ltb m.lastlink d)
    (λ y. zero_nz (ap (λ (x : Link). x.number) (look_above 0 m.lastlink d (live m) fr.rising (ltb-true _ _ y))) z)
    (λ y. ltb-false _ _ y)

-- ---- the rules' own look-up
first_cases : {X : Type 0} (a : ℕ) (ls : List Link) → (get_or ls (first_of (numbered a) ls) fresh_link ≡ look a ls → X)
    → (get_or ls (first_of (numbered a) ls) fresh_link ≡ fresh_link → look a ls ≡ no_link → X) → X
unfolding look first_of numbered pick
first_cases a [] f g = g refl refl
first_cases a (l ∷ ls) f g = test (same l.number a)
    (λ q. f (rw q))
    (λ q. first_cases a ls (λ e. f (rw q e)) (λ e z. g (rw q e) (rw q z)))

pub link_of_cases : {X : Type 0} (m : Monitor) (a : ℕ) → (link_of m a ≡ look a (live m) → X) → (link_of m a ≡ fresh_link → look a (live m) ≡ no_link → X) → X
unfolding link_of
link_of_cases m a f g = first_cases a (live m) f g

-- under a test that a fresh link fails, or that the missing one does, they agree
pub link_of_look : (m : Monitor) (g : Link → Bool) → g fresh_link ≡ false → (a : ℕ) → g (link_of m a) ≡ true → link_of m a ≡ look a (live m)
link_of_look m g gf a h = link_of_cases m a (λ e. e) (λ e z. not_both (rw e at h) gf)

pub look_link_of : (m : Monitor) (g : Link → Bool) → g no_link ≡ false → (a : ℕ) → g (look a (live m)) ≡ true → link_of m a ≡ look a (live m)
look_link_of m g gn a h = link_of_cases m a (λ e. e) (λ e z. not_both (rw z at h) gn)

pub link_of_tx : (m : Monitor) (a : ℕ) → (link_of m a).tx ≡ (look a (live m)).tx
unfolding no_link
link_of_tx m a = link_of_cases m a (λ e. ap (λ (x : Link). x.tx) e) (λ e z. rw (e, z))

pub link_of_served : (m : Monitor) → Fine m → (p : ℕ) → Nz (party m p).served → link_of m (party m p).served ≡ look (party m p).served (live m)
unfolding no_link
link_of_served m fi p n = look_link_of m (λ l. is_working l) refl (party m p).served (fi.works p n)

-- the link that a party serves is there, and has that number
pub served_there : (m : Monitor) → Fine m → (p : ℕ) → Nz (party m p).served → Nz (look (party m p).served (live m)).number
unfolding no_link
served_there m fi p n = there m fi.frame (λ l. is_working l) refl (party m p).served (fi.works p n)

-- a party's transaction
served_tx_look : (m : Monitor) → Frame m → (d : ℕ) → served_tx m d ≡ (look d (live m)).tx
unfolding served_tx no_link same
served_tx_look m fr d = by_test (λ (x : ℕ). x ≡ (look d (live m)).tx)
    (λ e. rw (same_true d 0 e, look_zero m fr))
    (λ e. link_of_tx m d)

pub tx_of_tx_p : (m : Monitor) → Frame m → (p : ℕ) → tx_of m p ≡ tx_p (λ q. party m q) (λ d. look d (live m)) p
unfolding tx_of tx_p same
tx_of_tx_p m fr p = rw (served_tx_look m fr (party m p).served)

-- ---- a test on all links
pub any_none : (f : Link → Bool) → f no_link ≡ false → (ls : List Link) → any_of f ls ≡ false → (e : ℕ) → f (look e ls) ≡ false
unfolding look any_of pick
any_none f z [] h e = z
any_none f z (l ∷ ls) h e = test (f l)
    (λ y. not_both refl (rw y at h))
    (λ y. test (same l.number e) (λ q. rw q y) (λ q. rw q (any_none f z ls (rw y at h) e)))

pub any_some : (f : Link → Bool) (lo hi : ℕ) (ls : List Link) → Between lo ls hi → any_of f ls ≡ true → (e : ℕ) × (f (look e ls) ≡ true) × (lo < e)
unfolding look any_of pick
any_some f lo hi [] h t = not_both t refl
any_some f lo hi (l ∷ ls) h t = test (f l)
    (λ q. (l.number, rw (same_refl l.number) q, h.0))
    (λ q. let r = any_some f l.number hi ls h.1 (rw q at t) in
    (r.0, rw (same_ne l.number r.0 (let b = r.2 in omega arith)) r.1, let b = r.2 in let a = h.0 in omega arith))

pub any_one : (f : Link → Bool) → f no_link ≡ false → (e : ℕ) (ls : List Link) → f (look e ls) ≡ true → any_of f ls ≡ true
any_one f z e ls h = test (any_of f ls) (λ y. y) (λ y. not_both h (any_none f z ls y e))
