-- What each change of a link leaves of it: alike, its end closed, returned; and that it is still a good link.
-- Assumes nothing.
use Rattle.std.proofs.Common.{◌≡◌, refl, true, false, ◌&&◌, ◌||◌, List, ℕ, ◌<◌}
use Rattle.std.proofs.Common.{eqb, leb, ltb, eqb-true, rules}
use Rattle.std.proofs.lemmas.Bool.{and_from}
use Rattle.rules.specs.Record.{is_attached, is_waiting, is_working, is_returned, is_ending, is_disconnected, is_notified, own_end, with_ends, with_unread}
use Rattle.rules.specs.Record.{closed, dropped, disconnected_link, notified, new_link, working, returned, with_sent, without_oldest}
use Rattle.rules.specs.Sound.{link_good}
use Rattle.rules.specs.declared.Link.{Link}
use Rattle.rules.proofs.Logic.{same_refl}
use Rattle.rules.proofs.Fine.{no_link}
use Rattle.rules.proofs.History.Moves.{is_whole, Like, Shut, Back, Left}

-- ---- a good link, taken apart
pub record Parts (l : Link) : Type 0 where
  pub kind : leb l.kind 1 ≡ true
  pub originator : leb l.originator 15 ≡ true
  pub attached : leb l.attached 1 ≡ true
  pub state : leb l.state 2 ≡ true
  pub server : leb l.server 15 ≡ true
  pub outcome : eqb l.outcome 0 || is_ending l.outcome ≡ true
  pub sender : leb l.sender 1 ≡ true
  pub granting : leb l.granting 1 ≡ true
  pub disconnected : leb l.disconnected 2 ≡ true
  pub filled : leb l.filled 4 ≡ true
  pub ended : is_returned l && eqb l.outcome 0 ≡ false

pub parts : (l : Link) → link_good l ≡ true → Parts l
parts l g = search rules

pub whole : (l : Link) → Parts l → link_good l ≡ true
whole l h = search rules

-- ---- no link
pub no_link_good : link_good no_link ≡ true
unfolding no_link
no_link_good = refl

-- it is closed, neither waiting nor working
pub no_link_attached : is_attached no_link ≡ false
unfolding no_link
no_link_attached = refl

pub no_link_waiting : is_waiting no_link ≡ false
unfolding no_link
no_link_waiting = refl

pub no_link_working : is_working no_link ≡ false
unfolding no_link
no_link_working = refl

-- ---- party p's own end
pub own_end_lem : (p : ℕ) (l : Link) → is_attached l ≡ true → l.originator ≡ p → own_end p l ≡ true
unfolding own_end
own_end_lem p l a o = and_from _ _ a (rw o (same_refl p))

pub no_link_own : (p : ℕ) → own_end p no_link ≡ false
unfolding own_end no_link
no_link_own p = refl

-- ---- states exclude each other
pub returned_rests : (l : Link) → is_returned l ≡ true → is_working l ≡ false
returned_rests l e = let r : l.state ≡ 2 = eqb-true l.state 2 e in rw r

pub working_waits_not : (l : Link) → is_working l ≡ true → is_waiting l ≡ false
working_waits_not l e = let r : l.state ≡ 1 = eqb-true l.state 1 e in rw r

pub working_returned_not : (l : Link) → is_working l ≡ true → is_returned l ≡ false
working_returned_not l e = let r : l.state ≡ 1 = eqb-true l.state 1 e in rw r

-- disconnected, or its server notified of it
pub notified_not_whole : (l : Link) → is_notified l ≡ true → is_whole l ≡ false
notified_not_whole l e = let r : l.disconnected ≡ 2 = eqb-true l.disconnected 2 e in rw r

-- a good link that is returned has an outcome
pub returned_ending : (l : Link) → link_good l ≡ true → is_returned l ≡ true → is_ending l.outcome ≡ true
returned_ending l g r = search rules

-- ---- a link with another end, sender, grant, disconnection or unread
abbrev adjusted : Link → (attached sender granting disconnected : ℕ) → List ℕ → ℕ → Link
adjusted l a s g d u f = with_unread (with_ends l a d) s g u f

-- the choices that it holds instead are good, where the link was
abbrev GoodChoices : Link → (attached sender granting disconnected filled : ℕ) → Type 0
GoodChoices l a s g d f = Parts l → (leb a 1 ≡ true) × (leb s 1 ≡ true) × (leb g 1 ≡ true) × (leb d 2 ≡ true) × (leb f 4 ≡ true)

adjusted_good : (l : Link) (a s g d f : ℕ) (u : List ℕ) → GoodChoices l a s g d f → link_good l ≡ true → link_good (adjusted l a s g d u f) ≡ true
adjusted_good l a s g d f u c k = let h = parts l k in let n = c h in whole (adjusted l a s g d u f) (record {
  kind = h.kind;
  originator = h.originator;
  attached = n.0;
  state = h.state;
  server = h.server;
  outcome = h.outcome;
  sender = n.1;
  granting = n.2;
  disconnected = n.3;
  filled = n.4;
  ended = h.ended;
})

-- it is shut, where the end is closed and the sender the same
adjusted_shut : (l : Link) {a s g d f : ℕ} {u : List ℕ} → GoodChoices l a s g d f → eqb a 1 ≡ false → s ≡ l.sender → Shut l (adjusted l a s g d u f)
adjusted_shut l {a} {s} {g} {d} {f} {u} c o r = record {
  number' = refl;
  kind' = refl;
  originator' = refl;
  closed' = o;
  tx' = refl;
  state' = refl;
  server' = refl;
  outcome' = refl;
  sender' = r;
  good' = adjusted_good l a s g d f u c;
}

-- the originator's end closes
pub closed_shut : (l : Link) → Shut l (closed l)
closed_shut l = search rules

pub disconnected_link_shut : (l : Link) → Shut l (disconnected_link l)
disconnected_link_shut l = adjusted_shut l (λ h. (refl, h.sender, refl, refl, refl)) refl refl

pub closed_left : (l : Link) → Left l (closed l)
closed_left l = Left.shut (closed_shut l)

pub disconnected_link_left : (l : Link) → Left l (disconnected_link l)
disconnected_link_left l = Left.shut (disconnected_link_shut l)

-- alike but for what is unread, the grant and the sender
pub dropped_like : (l : Link) → Like l (dropped l)
dropped_like l = search rules

pub notified_like : (l : Link) → is_disconnected l ≡ true → Like l (notified l)
notified_like l c = search rules

pub with_sent_like : (l : Link) (b c : ℕ) → leb b 1 ≡ true → ltb l.filled 4 ≡ true → Like l (with_sent l b c)
with_sent_like l b c s r = search rules

pub without_oldest_like : (l : Link) (s g : ℕ) → (Parts l → leb s 1 ≡ true) → (Parts l → leb g 1 ≡ true) → Like l (without_oldest l s g)
without_oldest_like l s g sg gg = search rules

-- ---- returned, with an outcome
pub returned_back : (l : Link) (o e : ℕ) → is_working l ≡ true → is_ending o ≡ true → Back l (returned l o e)
returned_back l o e w n = search rules

-- ---- taken by party p; made by party p
pub working_good : (l : Link) (p : ℕ) → p < 16 → is_waiting l ≡ true → link_good l ≡ true → link_good (working l p) ≡ true
working_good l p b w g = search rules

pub new_link_good : (n k p at a t c s : ℕ) → p < 16 → leb k 1 ≡ true → leb at 1 ≡ true → leb s 1 ≡ true → link_good (new_link n k p at a t c s) ≡ true
new_link_good n k p at a t c s b kg ag sg = search rules
