-- Kinds 20 and 21: a party that has left makes the move `leaves`; so do a return and a death.
-- Assumes nothing.
use Rattle.std.proofs.Common.{◌≡◌, refl, sym, ap, ◌∙◌, Bool, true, false, ◌||◌, ℕ, ◌<◌, eqb}
use Rattle.std.proofs.lemmas.Bool.{not-true}
use Rattle.rules.specs.Choice.{pick, same}
use Rattle.rules.specs.Codes.{bad_argument, not_allowed_now}
use Rattle.rules.specs.Lists.{any_of}
use Rattle.rules.specs.Record.{no_reports, is_rollback_only, is_attached, is_ending, own_end, party, live, serving, with_party, valued}
use Rattle.rules.specs.Rights.{SameRights}
use Rattle.rules.specs.Sound.{choices_good}
use Rattle.rules.specs.Return.{plain_outcome, outcome_of, leave, return_with, return_of, died_out, after_death, terminate_of}
use Rattle.rules.specs.declared.Call.{Call}
use Rattle.rules.specs.declared.Link.{Link}
use Rattle.rules.specs.declared.Monitor.{Monitor}
use Rattle.rules.specs.declared.Party.{Party}
use Rattle.rules.proofs.Logic.{by_test, test, not_both, pick_true, same_refl, same_true, same_false, same_ne, Nz, zero_nz, by_number, nz_other}
use Rattle.rules.proofs.Fine.{look, Fine}
use Rattle.rules.proofs.Looks.{look_zero, any_one}
use Rattle.rules.proofs.Parties.{marks_owned, marks_served, marks_grow, none_good, marks_good, Cleared, fresh_choices}
use Rattle.rules.proofs.History.Moves.{Sane, Loses, Leaves, leaves}
use Rattle.rules.proofs.History.Tells.{left}
use Rattle.rules.proofs.History.Walk.Moved.{event_of, time_after, loses, Moved}
use Rattle.rules.proofs.History.Walk.Says.{says_left, time_kept, time_none}
use Rattle.rules.proofs.History.Walk.LinkChanges.{no_link_attached, own_end_lem, no_link_own}
use Rattle.rules.proofs.History.Walk.Base.{ask_moved, refused, marks_stay, rights_self, marks_rights}
use Rattle.rules.proofs.History.Walk.Leaving.{shed, shed_by, shed_owned}
use Rattle.rules.proofs.History.Walk.Parted.{Parted, parted_as, shed_parted, is_bad, leave_parted}

-- ---- the move of a party that has left and is x, which has nothing
module _ (m m' : Monitor) (p : ℕ) (bad : Bool) (x : Party) (fi : Fine m) (h : Parted m m' p bad x) (x-owned : x.owned ≡ 0) (x-served : x.served ≡ 0)
    (x-mark : (same (party m p).owned 0 ≡ true → is_rollback_only (party m p) ≡ false) → is_rollback_only x ≡ false)
    (bad_open : (e : ℕ) → Nz (party m p).served → is_attached (look e (live m)) ≡ true → (look e (live m)).originator ≡ p → bad ≡ true) where
  -- p serves none afterwards; who serves one still is another party, and its link another link
  serves_other : (q : ℕ) → Nz (party m' q).served → same q p ≡ false
  serves_other q = nz_other (λ r. (party m' r).served) p q (ap (λ y. y.served) h.self ∙ x-served)

  served_same : (q : ℕ) → Nz (party m' q).served → (party m' q).served ≡ (party m q).served
  served_same q z = marks_served _ _ (h.marks q (serves_other q z))

  link_other : (q : ℕ) → Nz (party m' q).served → same (party m q).served (party m p).served ≡ false
  link_other q z = let i = served_same q z in let zq : Nz (party m q).served = rw (← i) z in
      same_ne _ _ (λ e. same_false _ _ (serves_other q z)
      (sym (fi.mine q zq) ∙ ap (λ d. (look d (live m)).server) e ∙ fi.mine p (rw (← e) zq)))

  parted_loses : Loses (λ q. party m q) (λ d. look d (live m)) (λ q. party m' q) (λ d. look d (live m'))
  parted_loses = record {
    less = λ e. (h.closing e).less;
    served' = served_same;
    stays = λ q z w. h.works' (party m q).served (link_other q z) w;
  }

  -- the link that it serves is not of its own transaction
  apart : Sane (λ q. party m q) (λ d. look d (live m)) p → (look (party m p).served (live m)).tx ≡ (party m p).owned → Nz (party m p).owned → ⊥
  apart s e z = same_false _ _ z (s.alone (rw e z))

  parted_leaves : Sane (λ q. party m q) (λ d. look d (live m)) p
      → Leaves (λ q. party m q) (λ d. look d (live m)) (λ q. party m' q) (λ d. look d (live m')) p bad
  parted_leaves s = record {
    less = λ e. (h.closing e).less;
    bad_open = bad_open;
    p_owned = ap (λ y. y.owned) h.self ∙ x-owned;
    p_served = ap (λ y. y.served) h.self ∙ x-served;
    p_mark = λ f. ap (λ y. is_rollback_only y) h.self ∙ x-mark f;
    p_open = λ e i. (h.closing e).own i;
    p_ended = λ e z i. test (same e (party m p).served)
        (λ y. let r : e ≡ (party m p).served = same_true _ _ y in absurd (apart s (rw r at i) z))
        (λ y. h.ended' e y (s.disconnected_shut e) z i);
    owned' = λ q n. marks_owned _ _ (h.marks q n);
    served' = λ q n. marks_served _ _ (h.marks q n);
    grows = λ q n r. marks_grow _ _ (h.marks q n) r;
    unowned = λ q n z. ap (λ y. y.rollbackonly) (h.free q n z);
    hit = λ q n a e z. h.hit q n a e z (λ r i. s.unique r q (rw i z) i);
    miss = λ q n z f g. ap (λ y. y.rollbackonly) (h.miss q n f g);
    works' = h.works';
    spared = λ e _ a c o. (h.closing e).spared a c o;
    itself = λ a o. (h.closing (party m p).served).spared
        (λ i. not_both (bad_open (party m p).served (same_ne _ _ (λ z. not_both o (rw (z, look_zero m fi.frame) no_link_attached))) o i) a)
        (λ i z. apart s i z) o;
  }

  parted_good : (choices_good (party m p) ≡ true → choices_good x ≡ true) → (q : ℕ) → choices_good (party m q) ≡ true → choices_good (party m' q) ≡ true
  parted_good f = by_number p (λ q. choices_good (party m q) ≡ true → choices_good (party m' q) ≡ true) (rw h.self f) (λ q y. marks_good _ _ (h.marks q y))

-- the call that makes it, answered 0 with the value v
parted_moved : (m m' : Monitor) (c : Call) (v : ℕ) (x : Party) → Fine m → eqb c.kind 20 || eqb c.kind 21 ≡ true → Parted m m' c.party (is_bad v) x
    → x.owned ≡ 0 → x.served ≡ 0
    → ((same (party m c.party).owned 0 ≡ true → is_rollback_only (party m c.party) ≡ false) → is_rollback_only x ≡ false)
    → (choices_good (party m c.party) ≡ true → choices_good x ≡ true) → Cleared (party m c.party) x → SameRights (party m c.party) x
    → x.timeout ≡ time_after (event_of c (valued m' v)) (party m c.party).timeout
    → ((e : ℕ) → Nz (party m c.party).served → is_attached (look e (live m)) ≡ true → (look e (live m)).originator ≡ c.party → is_bad v ≡ true)
    → Moved m c (valued m' v)
parted_moved m m' c v x fi k h xo xs xm xg xr xq xt bo =
    let says = says_left c (valued m' v) k refl in
    let none : (party m' c.party).owned ≡ 0 = ap (λ y. y.owned) h.self ∙ xo in
    record {
      frame = h.frame;
      clock' = h.numbers.clock';
      choices = parted_good m m' c.party (is_bad v) x fi h xo xs xm bo xg;
      others = λ q n. marks_stay _ _ (h.marks q n);
      rights = λ _. by_number c.party (λ q. SameRights (party m q) (party m' q)) (rw h.self xq) (λ q n. marks_rights _ _ (h.marks q n));
      own = loses none (λ f. ap (λ y. y.reports) h.self ∙ xr f);
      timeout' = ap (λ y. y.timeout) h.self ∙ xt;
      opened' = λ _. zero_nz none;
      past = says.past;
      valueless = says.valueless;
      tell = left (is_bad v);
      tells = says.tells;
      move = leaves (record { link = h.numbers.lastlink'; tx = h.numbers.lasttx' }) (is_bad v)
          (parted_loses m m' c.party (is_bad v) x fi h xo xs xm bo) (parted_leaves m m' c.party (is_bad v) x fi h xo xs xm bo);
    }

-- ---- 20
-- an open end of p's own makes the outcome 2
outcome_open : (m : Monitor) (p a t : ℕ) (l : Link) (e : ℕ) → is_attached (look e (live m)) ≡ true → (look e (live m)).originator ≡ p → outcome_of m p a t l ≡ 2
unfolding outcome_of
outcome_open m p a t l e o i =
    let y : any_of (own_end p) (live m) ≡ true = any_one (own_end p) (no_link_own p) e (live m) (own_end_lem p (look e (live m)) o i) in
    pick_true _ _ _ (rw y)

abbrev Ending : ℕ → Type 0
Ending o = is_ending o ≡ true

plain_ends : (a : ℕ) → is_ending (plain_outcome a) ≡ true
unfolding plain_outcome
plain_ends a = by_test Ending (λ _. refl) (λ _. refl)

outcome_ends : (m : Monitor) (p a t : ℕ) (l : Link) → is_ending (outcome_of m p a t l) ≡ true
unfolding outcome_of
outcome_ends m p a t l = by_test Ending (λ _. refl)
    (λ _. by_test Ending (λ _. refl)
    (λ _. by_test Ending
    (λ _. by_test Ending (λ _. refl) (λ _. by_test Ending (λ _. plain_ends a) (λ _. by_test Ending (λ _. refl) (λ _. refl))))
    (λ _. plain_ends a)))

-- the party afterwards, of a return
shed_mark : (x : Party) → (same x.owned 0 ≡ true → is_rollback_only x ≡ false) → is_rollback_only (shed x) ≡ false
shed_mark x f = shed_by (λ y. is_rollback_only y ≡ false) x (λ z. f (rw z (same_refl 0))) (λ _. refl)

shed_good : (x : Party) → choices_good x ≡ true → choices_good (shed x) ≡ true
shed_good x g = shed_by (λ y. choices_good y ≡ true) x (λ _. g) (λ _. none_good x g)

shed_cleared : (x : Party) → Cleared x (shed x)
shed_cleared x f = shed_by (λ y. y.reports ≡ no_reports) x f (λ _. refl)

shed_rights : (x : Party) → SameRights x (shed x)
shed_rights x = shed_by (SameRights x) x (λ _. rights_self x) (λ _. (refl, refl))

shed_timeout : (x : Party) → (shed x).timeout ≡ x.timeout
shed_timeout x = shed_by (λ y. y.timeout ≡ x.timeout) x (λ _. refl) (λ _. refl)

served_rights : (x : Party) → SameRights x (serving (shed x) 0)
served_rights x = ((shed_rights x).0, (shed_rights x).1)

-- and of a death
fallen_good : (x : Party) → choices_good x ≡ true → choices_good (after_death x) ≡ true
fallen_good x _ = fresh_choices

module _ (m : Monitor) (c : Call) (fi : Fine m) (b : c.party < 16) where
  left_moved : c.kind ≡ 20 → Nz (party m c.party).served → (o e : ℕ) → is_ending o ≡ true
      → ((i : ℕ) → is_attached (look i (live m)) ≡ true → (look i (live m)).originator ≡ c.party → is_bad o ≡ true)
      → Moved m c (valued (leave m c.party (party m c.party).served o e) o)
  left_moved k s o e n bo = parted_moved m _ c o (serving (shed (party m c.party)) 0) fi (rw k) (leave_parted m fi c.party b s o e n)
      (shed_owned (party m c.party)) refl (shed_mark (party m c.party)) (shed_good (party m c.party)) (shed_cleared (party m c.party))
      (served_rights (party m c.party)) (shed_timeout (party m c.party) ∙ sym (time_kept c _ _ 20 k refl)) (λ i _. bo i)

  pub return_moved : c.kind ≡ 20 → Moved m c (return_of m c.party c.a c.c)
  unfolding return_of return_with same
  return_moved k = ask_moved
      (λ s. ask_moved
      (λ _. left_moved k (not-true _ s) _ _ (outcome_ends m c.party c.a c.c _)
      (λ i o r. ap is_bad (outcome_open m c.party c.a c.c _ i o r)))
      (λ _. refused bad_argument refl fi))
      (λ _. refused not_allowed_now refl fi)

  -- ---- 21
  died_moved : (m' : Monitor) (v : ℕ) (x : Party) → c.kind ≡ 21 → Parted m m' c.party (is_bad v) x
      → ((i : ℕ) → Nz (party m c.party).served → is_attached (look i (live m)) ≡ true → (look i (live m)).originator ≡ c.party → is_bad v ≡ true)
      → Moved m c (valued (with_party m' c.party (after_death (party m c.party))) v)
  died_moved m' v x k h bo = let y = after_death (party m c.party) in
      parted_moved m _ c v y fi (rw k) (parted_as m m' c.party (is_bad v) x y b h)
      refl refl (λ _. refl) (fallen_good (party m c.party)) (λ _. refl) (refl, refl)
      (sym (time_none c _ _ (rw k) refl)) bo

  -- it served none, or a link
  either_moved : (served : Bool) (x y : Monitor) (z : Party) (v w : ℕ) → (served ≡ true → Moved m c (valued (with_party x c.party z) v))
      → (served ≡ false → Moved m c (valued (with_party y c.party z) w))
      → Moved m c (valued (with_party (pick served x y) c.party z) (pick served v w))
  unfolding pick
  either_moved true x y z v w f g = f refl
  either_moved false x y z v w f g = g refl

  pub terminate_moved : c.kind ≡ 21 → Moved m c (terminate_of m c.party)
  unfolding terminate_of died_out same
  terminate_moved k = either_moved (eqb (party m c.party).served 0) _ _ _ _ _
      (λ z. died_moved _ _ _ k (shed_parted m fi.frame c.party b) (λ _ s. not_both z s))
      (λ z. died_moved _ _ _ k (leave_parted m fi c.party b z _ _ refl) (λ _ _ _ _. refl))
