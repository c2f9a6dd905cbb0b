-- Looking a party up after each change of the parties, the owner of a transaction, and the marks of those that can only be rolled back.
-- Assumes nothing.
use Rattle.std.proofs.Common.{◌≡◌, refl, sym, ap, ◌∙◌, List, [], ◌∷◌, true, false, ℕ, zero, suc, ◌<◌, arith, eqb, ltb, length}
use Rattle.std.proofs.Common.{get_or, set, length-set, get_or-set_same, get_or-set_other, eqb-true, ltb-true, ltb-false, ne_eqb, rules}
use Rattle.std.proofs.Math.ListN.{get_or-eq_default}
use Rattle.std.proofs.lemmas.Bool.{eqb-false, not-true, not-false}
use Rattle.rules.specs.Choice.{pick, same}
use Rattle.rules.specs.Lists.{first_of, any_of}
use Rattle.rules.specs.Record.{no_reports, fresh_party, is_rollback_only, owns, own_end, party, rollback_only, owning_none, with_party}
use Rattle.rules.specs.Transaction.{tx_of, owner_of, owner_party, ended, is_owner, rollback_only_in}
use Rattle.rules.specs.Conversations.{originator_end}
use Rattle.rules.specs.Return.{rollback_only_by}
use Rattle.rules.specs.Sound.{reports_good, choices_good}
use Rattle.rules.specs.declared.Link.{Link}
use Rattle.rules.specs.declared.Party.{Party}
use Rattle.rules.specs.declared.Monitor.{Monitor}
use Rattle.rules.proofs.Logic.{Nz, pick_true, pick_false, and_l, test, by_test}
use Rattle.rules.proofs.Logic.{not_both, same_refl, same_true, same_false, same_ne}
use Rattle.rules.proofs.Fine.{no_link, look, Between, Shape, Frame}
use Rattle.rules.proofs.Looks.{look_below}

-- ---- one party becomes x
module _ (m : Monitor) (sh : Shape m) (p : ℕ) (h : p < 16) (x : Party) where
  pub party_same : party (with_party m p x) p ≡ x
  party_same = search rules

  pub party_other : (q : ℕ) → same q p ≡ false → party (with_party m p x) q ≡ party m q
  party_other q n = get_or-set_other m.parties p q x fresh_party (same_false q p n)

  pub party_frame : Frame m → Frame (with_party m p x)
  party_frame fr = search rules

-- a party that owns a transaction is one of the list
pub owner_in : (ps : List Party) (q : ℕ) → Nz (get_or ps q fresh_party).owned → q < length ps
owner_in ps q n = test (ltb q (length ps)) (λ a. ltb-true _ _ a)
    (λ a. absurd (same_false _ 0 n (ap (λ (x : Party). x.owned) (get_or-eq_default ps fresh_party (ltb-false _ _ a)))))

-- ---- the owner of a transaction
pub owner_some : (t : ℕ) (ps : List Party) → any_of (owns t) ps ≡ true → (q : ℕ) × ((get_or ps q fresh_party).owned ≡ t)
unfolding any_of owns pick
owner_some t [] h = not_both h refl
owner_some t (x ∷ ps) h = test (same x.owned t)
    (λ e. (0, same_true _ _ e))
    (λ e. let r = owner_some t ps (rw e at h) in (suc r.0, r.1))

-- the only party that owns t is its owner
pub owner_is_lem : (t : ℕ) → Nz t → (q : ℕ) (ps : List Party) → (get_or ps q fresh_party).owned ≡ t → ((r : ℕ) → (get_or ps r fresh_party).owned ≡ t → r ≡ q)
    → owner_of ps t ≡ q
unfolding first_of owns pick
owner_is_lem t n q [] h u = absurd (same_false t 0 n (sym h))
owner_is_lem t n zero (x ∷ ps) h u = let z : same x.owned t ≡ true = rw h (same_refl t) in rw z
owner_is_lem t n (suc q) (x ∷ ps) h u = test (same x.owned t)
    (λ y. absurd (let r : 0 ≡ suc q = u 0 (same_true _ _ y) in omega arith))
    (λ y. rw y (ap suc (owner_is_lem t n q ps h (λ r e. let z : suc r ≡ suc q = u (suc r) e in omega arith))))

module _ (m : Monitor) where
  -- a transaction that is not ended has an owner
  pub live_owner_lem : (t : ℕ) → Nz t → ended m t ≡ false → (q : ℕ) × ((party m q).owned ≡ t)
  unfolding ended same
  live_owner_lem t n h = owner_some t m.parties (not-false _ (rw n at h))

  -- no transaction of its own, where it has no transaction at all
  pub owned_none : (p : ℕ) → tx_of m p ≡ 0 → (party m p).owned ≡ 0
  unfolding tx_of
  owned_none p z = test (eqb (party m p).owned 0) (λ e. eqb-true _ 0 e) (λ e. sym (pick_false _ _ _ e) ∙ z)

  pub is_owner_owns : (p : ℕ) → is_owner m p ≡ true → Nz (party m p).owned
  unfolding is_owner same
  is_owner_owns p h = not-true _ (and_l _ _ h)

  pub is_owner_only : (p : ℕ) → Nz (party m p).owned → ((r : ℕ) → (party m r).owned ≡ (party m p).owned → r ≡ p) → is_owner m p ≡ true
  unfolding is_owner
  is_owner_only p n u =
      let z : eqb (party m p).owned 0 ≡ false = ne_eqb _ 0 (same_false _ 0 n) in
      rw (z, owner_is_lem (party m p).owned n p m.parties refl u) (same_refl p)

-- ---- a transaction becomes rollback-only by its owner's mark
marks_either : (t : ℕ) (X : Party → Type 0) (q : ℕ) (ps : List Party) → X (get_or ps q fresh_party) → X (rollback_only (get_or ps q fresh_party))
    → X (get_or (set ps (owner_of ps t) (rollback_only (owner_party ps t))) q fresh_party)
unfolding first_of owns pick
marks_either t X q [] a b = a
marks_either t X zero (x ∷ ps) a b = test (same x.owned t) (λ y. rw y b) (λ y. rw y a)
marks_either t X (suc q) (x ∷ ps) a b = test (same x.owned t) (λ y. rw y a) (λ y. rw y (marks_either t X q ps a b))

marks_miss : (t q : ℕ) (ps : List Party) → ((get_or ps q fresh_party).owned ≡ t → ⊥)
    → get_or (set ps (owner_of ps t) (rollback_only (owner_party ps t))) q fresh_party ≡ get_or ps q fresh_party
unfolding first_of owns pick
marks_miss t q [] h = refl
marks_miss t zero (x ∷ ps) h = rw (same_ne x.owned t h)
marks_miss t (suc q) (x ∷ ps) h = test (same x.owned t) (λ y. rw y) (λ y. rw y (marks_miss t q ps h))

pub rollback_only_in_length : (t : ℕ) (ps : List Party) → length (rollback_only_in t ps) ≡ length ps
unfolding rollback_only_in
rollback_only_in_length t ps = by_test (λ (x : List Party). length x ≡ length ps) (λ _. refl) (λ _. length-set ps _ _)

-- each party is as it was, or has the mark besides
pub rollback_only_in_either : (t : ℕ) (X : Party → Type 0) (q : ℕ) (ps : List Party) → X (get_or ps q fresh_party)
    → X (rollback_only (get_or ps q fresh_party)) → X (get_or (rollback_only_in t ps) q fresh_party)
unfolding rollback_only_in
rollback_only_in_either t X q ps a b = by_test (λ (x : List Party). X (get_or x q fresh_party)) (λ _. a) (λ _. marks_either t X q ps a b)

pub rollback_only_in_miss : (t q : ℕ) (ps : List Party) → ((get_or ps q fresh_party).owned ≡ t → ⊥) → get_or (rollback_only_in t ps) q fresh_party ≡ get_or ps q fresh_party
unfolding rollback_only_in
rollback_only_in_miss t q ps h = by_test (λ (x : List Party). get_or x q fresh_party ≡ get_or ps q fresh_party) (λ _. refl) (λ _. marks_miss t q ps h)

-- a party that owns nothing is marked by none
pub rollback_only_in_free : (t q : ℕ) (ps : List Party) → (get_or ps q fresh_party).owned ≡ 0 → get_or (rollback_only_in t ps) q fresh_party ≡ get_or ps q fresh_party
unfolding rollback_only_in
rollback_only_in_free t q ps e = test (eqb t 0)
    (λ z. ap (λ x. get_or x q fresh_party) (pick_true _ _ _ z))
    (λ z. rollback_only_in_miss t q ps (λ i. eqb-false t 0 z (sym i ∙ e)))

pub rollback_only_in_hit : (t : ℕ) → Nz t → (q : ℕ) (ps : List Party) → (get_or ps q fresh_party).owned ≡ t → ((r : ℕ) → (get_or ps r fresh_party).owned ≡ t → r ≡ q)
    → get_or (rollback_only_in t ps) q fresh_party ≡ rollback_only (get_or ps q fresh_party)
unfolding rollback_only_in
rollback_only_in_hit t n q ps h u =
    ap (λ (x : List Party). get_or x q fresh_party) (pick_false _ _ _ (ne_eqb t 0 (same_false t 0 n)))
    ∙ rw (owner_is_lem t n q ps h u) (get_or-set_same ps q _ fresh_party (owner_in ps q (rw h n)))

-- ---- a party as it was, or with the mark besides
pub data Marks (x y : Party) : Type 0 where
  plain : y ≡ x → Marks x y
  marked : y ≡ rollback_only x → Marks x y

pub marks_more : (x y : Party) → Marks x y → Marks x (rollback_only y)
marks_more x y (plain e) = marked (rw e)
marks_more x y (marked e) = marked (rw e)

pub marks_owned : (x y : Party) → Marks x y → y.owned ≡ x.owned
marks_owned x y (plain e) = rw e
marks_owned x y (marked e) = rw e

pub marks_served : (x y : Party) → Marks x y → y.served ≡ x.served
marks_served x y (plain e) = rw e
marks_served x y (marked e) = rw e

pub marks_grow : (x y : Party) → Marks x y → is_rollback_only x ≡ true → is_rollback_only y ≡ true
marks_grow x y (plain e) r = rw e r
marks_grow x y (marked e) r = rw e

pub reports_good_lem : (x : Party) → choices_good x ≡ true → reports_good x.reports ≡ true
reports_good_lem x g = search rules

-- with the mark the choices are as good, and without a transaction
pub mark_good : (x : Party) → choices_good x ≡ true → choices_good (rollback_only x) ≡ true
mark_good x g = search rules

pub none_good : (x : Party) → choices_good x ≡ true → choices_good (owning_none x) ≡ true
unfolding reports_good any_of pick
none_good x g = search rules

pub fresh_choices : choices_good fresh_party ≡ true
unfolding reports_good any_of pick
fresh_choices = refl

-- where a party without a transaction has no reports, y has none
abbrev pub Cleared : Party → Party → Type 0
Cleared x y = (x.owned ≡ 0 → x.reports ≡ no_reports) → y.reports ≡ no_reports

pub marks_good : (x y : Party) → Marks x y → choices_good x ≡ true → choices_good y ≡ true
marks_good x y (plain e) g = rw e g
marks_good x y (marked e) g = rw e (mark_good x g)

-- ---- the transactions of party p's open conversations become rollback-only
pub rollback_only_by_length : (p : ℕ) (ls : List Link) (ps : List Party) → length (rollback_only_by p ls ps) ≡ length ps
unfolding rollback_only_by
rollback_only_by_length p [] ps = refl
rollback_only_by_length p (l ∷ ls) ps =
    rollback_only_by_length p ls _ ∙ by_test (λ (x : List Party). length x ≡ length ps) (λ _. rollback_only_in_length l.tx ps) (λ _. refl)

pub rollback_only_by_either : (p : ℕ) (X : Party → Type 0) → ((x : Party) → X x → X (rollback_only x)) → (q : ℕ) (ls : List Link) (ps : List Party)
    → X (get_or ps q fresh_party) → X (get_or (rollback_only_by p ls ps) q fresh_party)
unfolding rollback_only_by
rollback_only_by_either p X f q [] ps a = a
rollback_only_by_either p X f q (l ∷ ls) ps a =
    rollback_only_by_either p X f q ls _ (by_test (λ (y : List Party). X (get_or y q fresh_party)) (λ _. rollback_only_in_either l.tx X q ps a (f _ a)) (λ _. a))

-- what one link does to party q
rollback_only_by_step : (p q : ℕ) (l : Link) (ps : List Party) → (originator_end p l ≡ true → get_or (rollback_only_in l.tx ps) q fresh_party ≡ get_or ps q fresh_party)
    → get_or (pick (originator_end p l) (rollback_only_in l.tx ps) ps) q fresh_party ≡ get_or ps q fresh_party
rollback_only_by_step p q l ps a = by_test (λ (y : List Party). get_or y q fresh_party ≡ get_or ps q fresh_party) a (λ _. refl)

-- a party that owns nothing stays as it was, and so does one whose transaction is that of none of them
pub rollback_only_by_free : (p q : ℕ) (ls : List Link) (ps : List Party) → (get_or ps q fresh_party).owned ≡ 0
    → get_or (rollback_only_by p ls ps) q fresh_party ≡ get_or ps q fresh_party
unfolding rollback_only_by
rollback_only_by_free p q [] ps e = refl
rollback_only_by_free p q (l ∷ ls) ps e =
    let i = rollback_only_by_step p q l ps (λ _. rollback_only_in_free l.tx q ps e) in
    rollback_only_by_free p q ls _ (ap (λ x. x.owned) i ∙ e) ∙ i

not_missing : (p e lo hi : ℕ) (ls : List Link) → Between lo ls hi → originator_end p (look e ls) ≡ true → lo < e
unfolding originator_end own_end no_link
not_missing p e lo hi ls h o = test (ltb lo e) (λ a. ltb-true _ _ a)
    (λ a. not_both (rw (look_below lo hi e ls h (ltb-false _ _ a)) at o) refl)

pub rollback_only_by_miss : (p q lo hi : ℕ) (ls : List Link) → Between lo ls hi → (ps : List Party)
    → ((e : ℕ) → originator_end p (look e ls) ≡ true → (get_or ps q fresh_party).owned ≡ (look e ls).tx → ⊥)
    → get_or (rollback_only_by p ls ps) q fresh_party ≡ get_or ps q fresh_party
unfolding rollback_only_by look
rollback_only_by_miss p q lo hi [] h ps a = refl
rollback_only_by_miss p q lo hi (l ∷ ls) h ps a =
    let here = pick_true _ l (look l.number ls) (same_refl l.number) in
    let k = rollback_only_by_step p q l ps (λ y. rollback_only_in_miss l.tx q ps (λ r. a l.number (rw here y) (rw here r))) in
    rollback_only_by_miss p q l.number hi ls h.1 _ (λ e o r.
    let b = not_missing p e l.number hi ls h.1 o in
    let n = pick_false _ l (look e ls) (same_ne l.number e (omega arith)) in
    a e (rw n o) (rw n (ap (λ (x : Party). x.owned) (sym k) ∙ r))) ∙ k
