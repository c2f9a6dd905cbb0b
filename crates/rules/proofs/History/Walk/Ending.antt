-- What the end of a transaction leaves: of a link, and of the record (kinds 4, 5, 20 and 21).
-- Assumes nothing.
use Rattle.std.proofs.Common.{◌≡◌, refl, sym, ap, ◌∙◌, true, false, ◌||◌, ℕ, ◌<◌, set, length-set, rules}
use Rattle.rules.specs.Choice.{same}
use Rattle.rules.specs.Record.{is_attached, is_waiting, is_working, is_notified, party, live, owning_none, closed, disconnected_link}
use Rattle.rules.specs.Transaction.{orphaned, end_of, end_tx}
use Rattle.rules.specs.declared.Link.{Link}
use Rattle.rules.specs.declared.Monitor.{Monitor}
use Rattle.rules.specs.declared.Party.{Party}
use Rattle.rules.proofs.Logic.{by_test, Nz, same_refl, same_false, same_ne, not_both}
use Rattle.rules.proofs.Fine.{no_link, look, Frame}
use Rattle.rules.proofs.Changes.{Thin, none, one, Thins, left_in, left_by, collected_look, collected_frame}
use Rattle.rules.proofs.History.Moves.{is_whole, Left, gone, Ends, Shut, shut}
use Rattle.rules.proofs.History.Left.{left_refl}
use Rattle.rules.proofs.History.Walk.LinkChanges.{working_waits_not, notified_not_whole, no_link_attached, no_link_waiting}
use Rattle.rules.proofs.History.Walk.LinkChanges.{no_link_working, closed_shut, disconnected_link_shut}
use Rattle.rules.proofs.History.Walk.Base.{OwnOnly, own_set, own_all}

-- ---- a link fades: it stays, it is gone, or its end is shut
pub data Fade (l l' : Link) : Type 0 where
  stays : l' ≡ l → Fade l l'
  goes : l' ≡ no_link → Fade l l'
  shuts : Shut l l' → Fade l l'

pub fade_left : (l x : Link) → Fade l x → Left l x
fade_left l x (stays e) = left_refl e
fade_left l x (goes e) = gone e
fade_left l x (shuts s) = shut s

-- what is still open is as it was
pub fade_open : (l x : Link) → Fade l x → is_attached x ≡ true → x ≡ l
fade_open l x (stays e) o = e
fade_open l x (goes e) o = not_both o (rw e no_link_attached)
fade_open l x (shuts s) o = not_both o s.closed'

shut_trans : (l x y : Link) → Shut l x → Shut x y → Shut l y
shut_trans l x y s u = search rules

fade_shut : (l x y : Link) → Fade l x → Shut x y → is_working x ≡ true → Fade l y
fade_shut l x y (stays e) u w = shuts (rw e at u)
fade_shut l x y (goes e) u w = not_both w (rw e no_link_working)
fade_shut l x y (shuts s) u w = shuts (shut_trans l x y s u)

-- ---- what is left of a link as t ends
abbrev pub end_left : ℕ → Link → Link
end_left t l = left_by (end_of t) l

-- a statement of what is left, by what becomes of the link
orphaned_by : (X : Link → Type 0) (l : Link) → X (closed l) → (is_notified l ≡ true → X l) → X (disconnected_link l) → X (orphaned l)
unfolding orphaned
orphaned_by X l a b c = by_test X (λ _. a) (λ _. by_test X b (λ _. c))

end_by : (X : Link → Type 0) (t : ℕ) (l : Link) → (is_working l ≡ true → X (orphaned l)) → (is_working l ≡ false → X no_link)
    → (same l.tx t ≡ false → X l) → X (end_left t l)
unfolding end_of left_in
end_by X t l a b c = by_test (λ xs. X (left_in xs)) (λ _. by_test (λ xs. X (left_in xs)) a b) c

end_thins : (t : ℕ) → Thins (end_of t)
unfolding end_of
end_thins t l =
    by_test (Thin l) (λ _. by_test (Thin l) (λ _. one (orphaned l) (orphaned_by (λ (x : Link). x.number ≡ l.number) l refl (λ _. refl) refl)) (λ _. none))
    (λ _. one l refl)

pub end_fade : (t : ℕ) (l x : Link) → Fade l x → Fade l (end_left t x)
end_fade t l x f = end_by (Fade l) t x
    (λ w. orphaned_by (Fade l) x (fade_shut l x _ f (closed_shut x) w) (λ _. f) (fade_shut l x _ f (disconnected_link_shut x) w))
    (λ _. goes refl) (λ _. f)

-- a working link works on
abbrev pub Works : Link → Type 0
Works l = is_working l ≡ true

pub end_works : (t : ℕ) (l : Link) → Works l → Works (end_left t l)
end_works t l w = end_by Works t l (λ _. orphaned_by Works l w (λ _. w) w) (λ n. not_both w n) (λ _. w)

-- a link of t is neither open nor waiting, where a disconnected one was not open
abbrev pub Dull : Link → Type 0
Dull l = is_attached l || is_waiting l ≡ false

pub end_swept : (t : ℕ) (l : Link) → (is_whole l ≡ false → is_attached l ≡ false) → l.tx ≡ t → Dull (end_left t l)
end_swept t l h e = end_by Dull t l
    (λ w. let n = working_waits_not l w in orphaned_by Dull l n (λ c. rw (h (notified_not_whole l c)) n) n)
    (λ _. rw no_link_attached no_link_waiting)
    (λ n. not_both (rw e (same_refl t)) n)

pub end_spared : (t : ℕ) (l : Link) → (l.tx ≡ t → ⊥) → end_left t l ≡ l
unfolding end_of left_in
end_spared t l n = by_test (λ ls. left_in ls ≡ l) (λ s. not_both s (same_ne l.tx t n)) (λ _. refl)

pub end_none : (t : ℕ) → Nz t → end_left t no_link ≡ no_link
end_none t z = end_spared t no_link (λ e. same_false t 0 z (sym (no_tx_lem ∙ e)))
  where
    no_tx_lem : 0 ≡ no_link.tx
    no_tx_lem = unfold no_link in refl

-- ---- of the record, as the transaction that party p owns ends
module _ (m : Monitor) (fr : Frame m) (p : ℕ) (b : p < 16) where
  pub end_own_lem : OwnOnly m (end_tx m p) p (owning_none (party m p))
  unfolding end_tx
  end_own_lem = own_set m (end_tx m p) p (owning_none (party m p)) fr.shape b refl

  pub end_frame : Frame (end_tx m p)
  unfolding end_tx
  end_frame = collected_frame (end_of (party m p).owned) (end_thins (party m p).owned) m fr
      (set m.parties p (owning_none (party m p))) (length-set m.parties p (owning_none (party m p)) ∙ fr.shape.parties16)

  module _ (has : Nz (party m p).owned) where
    pub end_look : (e : ℕ) → look e (live (end_tx m p)) ≡ end_left (party m p).owned (look e (live m))
    unfolding end_tx
    end_look e = collected_look (end_of (party m p).owned) (end_thins (party m p).owned) m fr
        (set m.parties p (owning_none (party m p))) (end_none (party m p).owned has) e

    -- as a move, to a record m' that has those links, and y as party p's record
    pub ends_to : (m' : Monitor) (y : Party) → OwnOnly m m' p y → live m' ≡ live (end_tx m p) → y.owned ≡ 0 → y.rollbackonly ≡ 0
        → y.served ≡ (party m p).served
        → Ends (λ q. party m q) (λ d. look d (live m)) (λ q. party m' q) (λ d. look d (live m')) p
    ends_to m' y o l n k s = record {
      has = has;
      p_owned = ap (λ x. x.owned) o.here ∙ n;
      p_mark = ap (λ x. x.rollbackonly) o.here ∙ k;
      served' = own_all (λ q x. x.served ≡ (party m q).served) o s (λ _. refl);
      owned' = λ q e. ap (λ x. x.owned) (o.there q e);
      mark' = λ q e. ap (λ x. x.rollbackonly) (o.there q e);
      less = λ e. rw (at e) (fade_left (look e (live m)) _ (end_fade (party m p).owned (look e (live m)) (look e (live m)) (stays refl)));
      works' = λ e w. rw (at e) (end_works (party m p).owned (look e (live m)) w);
      swept = λ e h t. rw (at e) (end_swept (party m p).owned (look e (live m)) h t);
      spared = λ e n. at e ∙ end_spared (party m p).owned (look e (live m)) n;
    }
      where
        at : (e : ℕ) → look e (live m') ≡ end_left (party m p).owned (look e (live m))
        at e = ap (look e) l ∙ end_look e

    pub end_ends : Ends (λ q. party m q) (λ d. look d (live m)) (λ q. party (end_tx m p) q) (λ d. look d (live (end_tx m p))) p
    end_ends = ends_to (end_tx m p) (owning_none (party m p)) end_own_lem refl refl refl refl

-- the rest stays
pub end_clock : (m : Monitor) (p : ℕ) → (end_tx m p).clock ≡ m.clock
unfolding end_tx
end_clock m p = refl

pub end_lastlink : (m : Monitor) (p : ℕ) → (end_tx m p).lastlink ≡ m.lastlink
unfolding end_tx
end_lastlink m p = refl

pub end_lasttx : (m : Monitor) (p : ℕ) → (end_tx m p).lasttx ≡ m.lasttx
unfolding end_tx
end_lasttx m p = refl
