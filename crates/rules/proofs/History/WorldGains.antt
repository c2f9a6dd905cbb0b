-- The invariant after the moves that add something: a transaction begins, a link is made, a link is taken.
-- Assumes nothing.
use Rattle.std.proofs.Common.{◌≡◌, refl, sym, ap, ◌∙◌, Bool, true, false, not, ◌&&◌, ◌||◌, ℕ, suc, ◌≤◌, arith, eqb-true}
use Rattle.std.proofs.Math.Path.{fun_ext}
use Rattle.std.proofs.Math.Bool.{and-false, or-true, or-false}
use Rattle.rules.specs.Choice.{same}
use Rattle.rules.specs.Record.{is_rollback_only, is_attached, is_waiting, is_working, is_returned, is_ending, working}
use Rattle.rules.specs.declared.Link.{Link}
use Rattle.rules.specs.declared.Party.{Party}
use Rattle.rules.proofs.Logic.{pick_true, pick_false, test, not_both, same_refl, same_true, same_false, same_ne}
use Rattle.rules.proofs.Logic.{and_l, Nz, by_number, suc_nz, zero_nz, above_nz}
use Rattle.rules.proofs.Fine.{tx_p}
use Rattle.rules.proofs.History.Tells.{nothing, made, taken}
use Rattle.rules.proofs.History.Shows.{Shows, Next}
use Rattle.rules.proofs.History.Moves.{is_whole, Ends, Begins, Makes, Takes}
use Rattle.rules.proofs.History.World.{World}
use Rattle.rules.proofs.History.Left.{left_nought, like_refl}
use Rattle.rules.proofs.History.Stamped.{tx_p_keeps, agrees, unstamped, stamped, plain_nothing, plainly}
use Rattle.rules.proofs.History.WorldLosses.{idle_keeps, ends_keeps}

-- ---- a transaction begins
-- what v shows, with the owners that v' shows
abbrev restamped : Shows → Shows → Shows
restamped v v' = record v { owner = v'.owner; seen = v'.seen }

module _ {n m : ℕ} {P : ℕ → Party} {L : ℕ → Link} {v : Shows} (w : World n m P L v) {P' : ℕ → Party} {L' : ℕ → Link} {v' : Shows} {p x : ℕ} {starts : Bool}
    (is : x ≡ tx_p P' L' p) (begun : starts ≡ true) (k : Next nothing p x starts v v') (none : tx_p P L p ≡ 0) (h : Begins P L P' L' p (suc m)) where
  -- p owned none, and serves a link of none
  none_owned : (P p).owned ≡ 0
  unfolding tx_p
  none_owned = test (same (P p).owned 0) (λ y. same_true _ _ y) (λ y. sym (pick_false (same (P p).owned 0) (L (P p).served).tx (P p).owned y) ∙ none)

  none_served : (L (P p).served).tx ≡ 0
  unfolding tx_p
  none_served = sym (pick_true (same (P p).owned 0) (L (P p).served).tx (P p).owned (rw none_owned (same_refl 0))) ∙ none

  -- the answer ends in the new one
  is_new : x ≡ suc m
  unfolding tx_p
  is_new = is ∙ rw h.p_owned (pick_false _ _ _ (suc_nz m))

  owner_old : (t r : ℕ) → Nz t → t ≤ m → v'.owner t r ≡ v.owner t r
  owner_old t r z b = k.owner' t r z ∙ pick_true _ _ _ (w.seen_low t z b)

  owner_new : (r : ℕ) → v'.owner (suc m) r ≡ same p r
  owner_new r = k.owner' (suc m) r (suc_nz m) ∙ pick_false _ _ _ (w.seen_high (suc m) (omega arith)) ∙ rw (is_new, same_refl (suc m), begun)

  begins_stamped : World n (suc m) P' L (restamped v v')
  begins_stamped = record {
    owner_is = by_number p (λ q. (r : ℕ) → Nz (P' q).owned → v'.owner (P' q).owned r ≡ same q r)
        (λ r _. rw h.p_owned (owner_new r))
        (λ q e r z. let z' : Nz (P q).owned = rw (h.owned' q e) at z in rw (h.owned' q e) (owner_old (P q).owned r z' (w.below q) ∙ w.owner_is q r z'));
    below = by_number p (λ q. (P' q).owned ≤ suc m) (let a = h.p_owned in omega arith) (λ q e. let b = w.below q in let a = h.owned' q e in omega arith);
    seen_low = λ t z b. k.seen' t ∙ rw is_new (test (same (suc m) t) (λ e. rw e) (λ e. rw e (w.seen_low t z (let f = same_false (suc m) t e in omega arith))));
    seen_high = λ t b. k.seen' t ∙ rw (is_new, same_ne (suc m) t (omega arith)) (w.seen_high t (omega arith));
    clean = by_number p (λ q. same (P' q).owned 0 ≡ true → is_rollback_only (P' q) ≡ false)
        (λ z. not_both (rw h.p_owned at z) (suc_nz m))
        (λ q e z. rw (h.mark' q e) (w.clean q (rw (h.owned' q e) at z)));
    mark_is = by_number p (λ q. Nz (P' q).owned → is_rollback_only (P' q) ≡ v.failed (P' q).owned || v.disc (P' q).owned)
        (λ _. rw (h.p_owned, w.new_failed (suc m) (omega arith), w.new_disc (suc m) (omega arith), h.p_mark) (w.clean p (rw none_owned (same_refl 0))))
        (λ q e z. rw (h.owned' q e, h.mark' q e) (w.mark_is q (rw (h.owned' q e) at z)));
    serve = λ q f. rw (h.served' q) (w.serve q f);
    works = λ q z. rw (h.served' q) (w.works q (rw (h.served' q) at z));
    mine = λ q z. rw (h.served' q) (w.mine q (rw (h.served' q) at z));
    alone = by_number p (λ q. Nz (L (P' q).served).tx → (P' q).owned ≡ 0)
        (λ z. zero_nz none_served (rw (h.served' p) at z))
        (λ q e z. h.owned' q e ∙ w.alone q (rw (h.served' q) at z));
    not_own = λ q z. let z' : Nz (L (P q).served).tx = rw (h.served' q) at z in rw (h.served' q) (owner_old _ q z' (w.low (P q).served) ∙ w.not_own q z');
    of_tx = w.of_tx;
    maker = w.maker;
    unfinished = w.unfinished;
    live = λ d z o. let r = w.live d z o in (
      r.0,
      test (same r.0 p)
          (λ e. absurd (same_false _ _ z (sym r.1 ∙ ap (λ x. (P x).owned) (same_true _ _ e) ∙ none_owned)))
          (λ e. h.owned' _ e ∙ r.1),
    );
    home = λ d z o. let hm = w.home d z o in test (same (L d).originator p)
        (λ e. let r = same_true _ _ e in absurd (same_false _ _ z (hm ∙ ap (λ x. tx_p P L x) r ∙ none)))
        (λ e. hm ∙ sym (tx_p_keeps P P' L L (L d).originator (h.owned' _ e) (h.served' _) refl));
    kept =
        λ d o. by_number p
        (λ q. Nz (P' q).owned → v.made_by d (P' q).owned o ≡ true → is_rollback_only (P' q) ≡ false → v.finished d o ≡ false → is_attached (L d) ≡ true)
        (λ _ b _ _. not_both (rw h.p_owned at b) (w.new_by d (suc m) o (omega arith)))
        (λ q e z b un fi. w.kept d o q (rw (h.owned' q e) at z) (rw (h.owned' q e) at b) (rw (h.mark' q e) at un) fi);
    there_open = w.there_open;
    there_work = w.there_work;
    nought = w.nought;
    disconnected_shut = w.disconnected_shut;
    ends = w.ends;
    low = λ d. let b = w.low d in omega arith;
    upper = w.upper;
    new_failed = λ t b. w.new_failed t (omega arith);
    new_disc = λ t b. w.new_disc t (omega arith);
    new_of = λ d t b. w.new_of d t (omega arith);
    new_by = λ d t o b. w.new_by d t o (omega arith);
    new_link = w.new_link;
    new_made = w.new_made;
    new_fin = w.new_fin;
    zero_of = w.zero_of;
  }

  pub begins_world : World n (suc m) P' L' v'
  begins_world = rw (fun_ext h.links') (agrees begins_stamped (record {
    serves' = k.serves';
    link_of' = k.link_of';
    made_by' = k.made_by';
    finished' = λ d o. k.unfinished' d o refl;
    failed' = k.failed';
    disc' = k.disc';
    owner' = λ _ _ _ _. refl;
    seen' = λ _ s. s;
    unseen' = λ _ _. refl;
  }))

-- the owned transaction ends, and a new one begins
pub renews_world : {n m : ℕ} {P : ℕ → Party} {L : ℕ → Link} {v : Shows} (w : World n m P L v)
    {Pₑ P' : ℕ → Party} {Lₑ L' : ℕ → Link} {v' : Shows} {p x : ℕ} {starts : Bool}
    → x ≡ tx_p P' L' p → starts ≡ true → Next nothing p x starts v v' → Ends P L Pₑ Lₑ p → Begins Pₑ Lₑ P' L' p (suc m) → World n (suc m) P' L' v'
unfolding tx_p
renews_world {P} {L} w {p} is begun k e b = begins_world (ends_keeps w e) is begun k
    (rw e.p_owned (pick_true _ _ _ (same_refl 0) ∙ rw (e.served' p) (left_nought (e.less (P p).served) serves_none))) b
  where
    serves_none : (L (P p).served).tx ≡ 0
    serves_none = test (same (L (P p).served).tx 0) (λ y. same_true _ _ y) (λ y. zero_nz (w.alone p y) e.has)

-- ---- a link is made
-- what v shows, with other links
abbrev relinked : Shows → (ℕ → ℕ → Bool) → (ℕ → ℕ → ℕ → Bool) → Shows
relinked v lo mb = record v { link_of = lo; made_by = mb }

-- p makes the link suc n of x
module _ {n m : ℕ} {P : ℕ → Party} {L : ℕ → Link} {v : Shows} (w : World n m P L v) {P' : ℕ → Party} {L' : ℕ → Link} {p x : ℕ}
    (h : Makes P L P' L' p (suc n) x) where
  -- the parties are as they were
  wₚ : World n m P' L v
  wₚ = idle_keeps w (record { owned' = h.idle.owned'; served' = h.idle.served'; mark' = h.idle.mark' }) (λ e. like_refl refl)

  -- a served link is an old one
  old_served : (q : ℕ) → L' (P' q).served ≡ L (P' q).served
  old_served q = h.others _ (test (same (P' q).served 0)
      (λ e. let r = same_true _ _ e in same_ne _ _ (omega arith))
      (λ e. let u = wₚ.upper (P' q).served (wₚ.there_work _ (wₚ.works q e)) in same_ne _ _ (omega arith)))

  make_tx : (q : ℕ) → tx_p P' L' q ≡ tx_p P' L q
  make_tx q = tx_p_keeps P' P' L L' q refl refl (ap (λ z. z.tx) (old_served q))

  x_own : Nz x → x ≡ tx_p P' L p
  x_own z = h.own z ∙ sym (tx_p_keeps P P' L L p (h.idle.owned' p) (h.idle.served' p) refl)

  x_live : Nz x → (q : ℕ) × ((P' q).owned ≡ x)
  x_live z = let r = h.live z in (r.0, h.idle.owned' r.0 ∙ r.1)

  x_low : x ≤ m
  x_low = test (same x 0) (λ e. let r = same_true x 0 e in omega arith) (λ z. let r = x_live z in let a = r.1 in let b = wₚ.below r.0 in omega arith)

  waits_state : (L' (suc n)).state ≡ 0
  waits_state = eqb-true _ _ h.waits

  makes_ends : Nz x → tx_p P' L' p ≡ x
  makes_ends z = make_tx p ∙ sym (x_own z)

  module _ (lo : ℕ → ℕ → Bool) (mb : ℕ → ℕ → ℕ → Bool) (links : (d u : ℕ) → Nz u → lo d u ≡ (same (suc n) d && same x u) || v.link_of d u)
      (makers : (d u o : ℕ) → Nz u → mb d u o ≡ ((same (suc n) d && same x u) && same p o) || v.made_by d u o) where
    old_links : (d u : ℕ) → Nz u → same d (suc n) ≡ false → lo d u ≡ v.link_of d u
    old_links d u z e = links d u z ∙ rw (same_ne (suc n) d (λ r. same_false d (suc n) e (sym r)))

    old_makers : (d u o : ℕ) → Nz u → same d (suc n) ≡ false → mb d u o ≡ v.made_by d u o
    old_makers d u o z e = makers d u o z ∙ rw (same_ne (suc n) d (λ r. same_false d (suc n) e (sym r)))

    new_links : (u : ℕ) → Nz u → lo (suc n) u ≡ same x u
    new_links u z = links (suc n) u z ∙ rw (same_refl (suc n), wₚ.new_link (suc n) u z (omega arith), or-false)

    new_makers : (u o : ℕ) → Nz u → mb (suc n) u o ≡ same x u && same p o
    new_makers u o z = makers (suc n) u o z ∙ rw (same_refl (suc n), wₚ.new_made (suc n) u o z (omega arith), or-false)

    makes_core : World (suc n) m P' L' (relinked v lo mb)
    makes_core = record {
      owner_is = wₚ.owner_is;
      below = wₚ.below;
      seen_low = wₚ.seen_low;
      seen_high = wₚ.seen_high;
      clean = wₚ.clean;
      mark_is = wₚ.mark_is;
      serve = wₚ.serve;
      works = λ q z. rw (old_served q) (wₚ.works q z);
      mine = λ q z. rw (old_served q) (wₚ.mine q z);
      alone = λ q z. wₚ.alone q (rw (old_served q) at z);
      not_own = λ q z. rw (old_served q) (wₚ.not_own q (rw (old_served q) at z));
      of_tx = by_number (suc n) (λ d. Nz (L' d).number → (t : ℕ) → Nz t → lo d t ≡ same (L' d).tx t)
          (λ _ t nt. rw h.tx (new_links t nt))
          (λ e q z t nt. rw (h.others e q) (old_links e t nt q ∙ wₚ.of_tx e (rw (h.others e q) at z) t nt));
      maker = by_number (suc n) (λ d. Nz (L' d).number → (t o : ℕ) → Nz t → mb d t o ≡ same (L' d).tx t && same (L' d).originator o)
          (λ _ t o nt. rw (h.tx, h.originator) (new_makers t o nt))
          (λ e q z t o nt. rw (h.others e q) (old_makers e t o nt q ∙ wₚ.maker e (rw (h.others e q) at z) t o nt));
      unfinished = by_number (suc n) (λ d. Nz (L' d).number → v.finished d (L' d).originator ≡ false)
          (λ _. wₚ.new_fin (suc n) _ (omega arith)) (λ e q z. rw (h.others e q) (wₚ.unfinished e (rw (h.others e q) at z)));
      live = by_number (suc n) (λ d. Nz (L' d).tx → is_attached (L' d) || is_waiting (L' d) ≡ true → (q : ℕ) × ((P' q).owned ≡ (L' d).tx))
          (λ z _. let r = x_live (rw h.tx at z) in (r.0, rw h.tx r.1))
          (λ e q. rw (h.others e q) (wₚ.live e));
      home = by_number (suc n) (λ d. Nz (L' d).tx → is_attached (L' d) ≡ true → (L' d).tx ≡ tx_p P' L' (L' d).originator)
          (λ z _. rw (make_tx _, h.tx, h.originator) (x_own (rw h.tx at z)))
          (λ e q z o. rw (make_tx _, h.others e q) (wₚ.home e (rw (h.others e q) at z) (rw (h.others e q) at o)));
      kept =
          by_number (suc n)
          (λ d. (o q : ℕ) → Nz (P' q).owned → mb d (P' q).owned o ≡ true → is_rollback_only (P' q) ≡ false → v.finished d o ≡ false → is_attached (L' d) ≡ true)
          (λ o q z b _ _. let y : x ≡ (P' q).owned = same_true _ _ (and_l _ _ (sym (new_makers (P' q).owned o z) ∙ b)) in h.attached (rw y z))
          (λ e q o r z b un fi. rw (h.others e q) (wₚ.kept e o r z (sym (old_makers e (P' r).owned o z q) ∙ b) un fi));
      there_open =
          by_number (suc n) (λ d. is_attached (L' d) ≡ true → Nz (L' d).number) (λ _. rw h.number (suc_nz n)) (λ e q. rw (h.others e q) (wₚ.there_open e));
      there_work =
          by_number (suc n) (λ d. is_working (L' d) ≡ true → Nz (L' d).number) (λ _. rw h.number (suc_nz n)) (λ e q. rw (h.others e q) (wₚ.there_work e));
      nought = rw (h.others 0 (same_ne 0 (suc n) (omega arith))) wₚ.nought;
      disconnected_shut =
          by_number (suc n) (λ d. is_whole (L' d) ≡ false → is_attached (L' d) ≡ false) (λ z. not_both h.whole z)
          (λ e q. rw (h.others e q) (wₚ.disconnected_shut e));
      ends =
          by_number (suc n) (λ d. is_returned (L' d) ≡ true → is_ending (L' d).outcome ≡ true) (λ z. not_both (rw waits_state at z) refl)
          (λ e q. rw (h.others e q) (wₚ.ends e));
      low = by_number (suc n) (λ d. (L' d).tx ≤ m) (rw h.tx x_low) (λ e q. rw (h.others e q) (wₚ.low e));
      upper = by_number (suc n) (λ d. Nz (L' d).number → d ≤ suc n) (λ _. omega arith) (λ e q z. let u = wₚ.upper e (rw (h.others e q) at z) in omega arith);
      new_failed = wₚ.new_failed;
      new_disc = wₚ.new_disc;
      new_of = λ d t b. links d t (above_nz m t b) ∙ let l = x_low in rw (same_ne x t (omega arith), and-false) (wₚ.new_of d t b);
      new_by = λ d t o b. makers d t o (above_nz m t b) ∙ let l = x_low in rw (same_ne x t (omega arith), and-false) (wₚ.new_by d t o b);
      new_link = λ d t z b. old_links d t z (same_ne d (suc n) (omega arith)) ∙ wₚ.new_link d t z (omega arith);
      new_made = λ d t o z b. old_makers d t o z (same_ne d (suc n) (omega arith)) ∙ wₚ.new_made d t o z (omega arith);
      new_fin = λ d o b. wₚ.new_fin d o (omega arith);
      zero_of = λ t z. old_links 0 t z (same_ne 0 (suc n) (omega arith)) ∙ wₚ.zero_of t z;
    }

module _ {n m : ℕ} {P : ℕ → Party} {L : ℕ → Link} {v : Shows}
    (w : World n m P L v) {P' : ℕ → Party} {L' : ℕ → Link} {v' : Shows} {p x : ℕ} {starts : Bool} (is : x ≡ tx_p P' L' p) where
  pub makes_world : Next (made (suc n)) p x starts v v' → (y : ℕ) → Nz y → Makes P L P' L' p (suc n) y → World (suc n) m P' L' v'
  makes_world k y z h =
      stamped k is (makes_core wₖ h v'.link_of v'.made_by (λ d u nu. k.link_of' d u nu ∙ rw x-is) (λ d u o nu. k.made_by' d u o nu ∙ rw x-is))
    where
      wₖ : World n m P L (relinked (unstamped v v') v.link_of v.made_by)
      wₖ = agrees w (record {
        serves' = k.serves';
        link_of' = λ _ _ _. refl;
        made_by' = λ _ _ _ _. refl;
        finished' = λ d o. k.unfinished' d o refl;
        failed' = k.failed';
        disc' = k.disc';
        owner' = λ _ _ _ _. refl;
        seen' = λ _ s. s;
        unseen' = λ _ _. refl;
      })

      x-is : x ≡ y
      x-is = is ∙ makes_ends w h z

  pub makes_free_world : Next nothing p x starts v v' → Makes P L P' L' p (suc n) 0 → World (suc n) m P' L' v'
  makes_free_world k h = plainly k is plain_nothing (makes_core w h v.link_of v.made_by
      (λ d u nu. rw (zero-not u nu, and-false)) (λ d u o nu. rw (zero-not u nu, and-false)))
    where
      zero-not : (u : ℕ) → Nz u → same 0 u ≡ false
      zero-not u z = same_ne 0 u (λ r. same_false u 0 z (sym r))

-- ---- a link is taken
-- what v shows, with other servers
abbrev reserved : Shows → (ℕ → (ℕ → Bool) → Bool) → Shows
reserved v s = record v { serves = s }

module _ {n m : ℕ} {P : ℕ → Party} {L : ℕ → Link} {v : Shows} (w : World n m P L v) {P' : ℕ → Party} {L' : ℕ → Link} {p d : ℕ} (s : ℕ → (ℕ → Bool) → Bool)
    (servers : (q : ℕ) (f : ℕ → Bool) → s q f ≡ (same p q && f d) || v.serves q f) (h : Takes P L P' L' p d) where
  by_link : (X : ℕ → Link → Type 0) → X d (working (L d) p) → ((e : ℕ) → X e (L e)) → (e : ℕ) → X e (L' e)
  by_link X a b = by_number d (λ e. X e (L' e)) (rw h.works a) (λ e q. rw (h.others e q) (b e))

  waited : (L d).state ≡ 0
  waited = eqb-true _ _ h.waits

  d_nz : Nz d
  d_nz = rw h.number at h.there

  not_d : (q : ℕ) → Nz (P q).served → L' (P q).served ≡ L (P q).served
  not_d q z = h.others _ (same_ne _ _ (λ e. not_both {X = ⊥} (w.works q z) (rw (e, waited) refl)))

  same_tx : (e : ℕ) → (L' e).tx ≡ (L e).tx
  same_tx = by_link (λ e l. l.tx ≡ (L e).tx) refl (λ _. refl)

  -- the link's transaction is live, and not p's
  take_live : Nz (L d).tx → (q : ℕ) × ((P q).owned ≡ (L d).tx)
  take_live z = w.live d z (rw (waited, or-true))

  take_own : Nz (L d).tx → v.owner (L d).tx p ≡ false
  take_own z = let r = take_live z in ap (λ t. v.owner t p) (sym r.1) ∙ w.owner_is r.0 p (rw r.1 z)
      ∙ same_ne _ _ (λ e. same_false _ _ z (sym r.1 ∙ ap (λ q. (P q).owned) e ∙ h.free))

  take_home : (e : ℕ) → Nz (L e).tx → is_attached (L e) ≡ true → (L e).tx ≡ tx_p P' L' (L e).originator
  take_home e z o = w.home e z o ∙ sym (tx_p_keeps P P' L L' (L e).originator (h.owned' _) (h.served' _ (same_ne _ _ (h.no_ends e o))) (same_tx _))

  take_kept : (e o q : ℕ) → Nz (P' q).owned → v.made_by e (P' q).owned o ≡ true → is_rollback_only (P' q) ≡ false → v.finished e o ≡ false
      → is_attached (L e) ≡ true
  take_kept e o q z b un fi = w.kept e o q (rw (h.owned' q) at z) (rw (h.owned' q) at b) (rw (h.mark' q) at un) fi

  takes_core : World n m P' L' (reserved v s)
  takes_core = record {
    owner_is = λ q r z. rw (h.owned' q) (w.owner_is q r (rw (h.owned' q) at z));
    below = λ q. rw (h.owned' q) (w.below q);
    seen_low = w.seen_low;
    seen_high = w.seen_high;
    clean = λ q z. rw (h.mark' q) (w.clean q (rw (h.owned' q) at z));
    mark_is = λ q z. rw (h.owned' q, h.mark' q) (w.mark_is q (rw (h.owned' q) at z));
    serve = by_number p (λ q. (f : ℕ → Bool) → s q f ≡ not (same (P' q).served 0) && f (P' q).served)
        (λ f. servers p f ∙ rw (same_refl p, w.serve p f, h.served_none, same_refl 0, or-false, h.p_served, d_nz))
        (λ q e f. servers q f ∙ rw (same_ne p q (λ r. same_false q p e (sym r)), h.served' q e) (w.serve q f));
    works = by_number p (λ q. Nz (P' q).served → is_working (L' (P' q).served) ≡ true)
        (λ _. rw (h.p_served, h.works)) (λ q e z. let z' : Nz (P q).served = rw (h.served' q e) at z in rw (h.served' q e, not_d q z') (w.works q z'));
    mine = by_number p (λ q. Nz (P' q).served → (L' (P' q).served).server ≡ q)
        (λ _. rw (h.p_served, h.works)) (λ q e z. let z' : Nz (P q).served = rw (h.served' q e) at z in rw (h.served' q e, not_d q z') (w.mine q z'));
    alone = by_number p (λ q. Nz (L' (P' q).served).tx → (P' q).owned ≡ 0)
        (λ _. h.owned' p ∙ h.free) (λ q e z. h.owned' q ∙ w.alone q (rw (h.served' q e, same_tx (P q).served) at z));
    not_own = by_number p (λ q. Nz (L' (P' q).served).tx → v.owner (L' (P' q).served).tx q ≡ false)
        (λ z. rw (h.p_served, same_tx d) (take_own (rw (h.p_served, same_tx d) at z)))
        (λ q e z. rw (h.served' q e, same_tx (P q).served) (w.not_own q (rw (h.served' q e, same_tx (P q).served) at z)));
    of_tx = by_link (λ e l. Nz l.number → (t : ℕ) → Nz t → v.link_of e t ≡ same l.tx t) (w.of_tx d) w.of_tx;
    maker = by_link (λ e l. Nz l.number → (t o : ℕ) → Nz t → v.made_by e t o ≡ same l.tx t && same l.originator o) (w.maker d) w.maker;
    unfinished = by_link (λ e l. Nz l.number → v.finished e l.originator ≡ false) (w.unfinished d) w.unfinished;
    live = by_link (λ e l. Nz l.tx → is_attached l || is_waiting l ≡ true → (q : ℕ) × ((P' q).owned ≡ l.tx))
        (λ z o. let r = take_live z in (r.0, h.owned' _ ∙ r.1))
        (λ e z o. let r = w.live e z o in (r.0, h.owned' _ ∙ r.1));
    home = by_link (λ e l. Nz l.tx → is_attached l ≡ true → l.tx ≡ tx_p P' L' l.originator) (take_home d) take_home;
    kept =
        by_link (λ e l. (o q : ℕ) → Nz (P' q).owned → v.made_by e (P' q).owned o ≡ true → is_rollback_only (P' q) ≡ false → v.finished e o ≡ false → is_attached l ≡ true)
        (take_kept d) take_kept;
    there_open = by_link (λ e l. is_attached l ≡ true → Nz l.number) (λ _. h.there) w.there_open;
    there_work = by_link (λ e l. is_working l ≡ true → Nz l.number) (λ _. h.there) w.there_work;
    nought = same_tx 0 ∙ w.nought;
    disconnected_shut = by_link (λ e l. is_whole l ≡ false → is_attached l ≡ false) (w.disconnected_shut d) w.disconnected_shut;
    ends = by_link (λ e l. is_returned l ≡ true → is_ending l.outcome ≡ true) (λ z. not_both z refl) w.ends;
    low = λ e. rw (same_tx e) (w.low e);
    upper = by_link (λ e l. Nz l.number → e ≤ n) (w.upper d) w.upper;
    new_failed = w.new_failed;
    new_disc = w.new_disc;
    new_of = w.new_of;
    new_by = w.new_by;
    new_link = w.new_link;
    new_made = w.new_made;
    new_fin = w.new_fin;
    zero_of = w.zero_of;
  }

pub takes_world : {n m : ℕ} {P : ℕ → Party} {L : ℕ → Link} {v : Shows} → World n m P L v
    → {P' : ℕ → Party} {L' : ℕ → Link} {v' : Shows} {p x d : ℕ} {starts : Bool}
    → x ≡ tx_p P' L' p → Next (taken d) p x starts v v' → Takes P L P' L' p d → World n m P' L' v'
takes_world {n} {m} {P} {L} {v} w {v'} is k h = stamped k is (takes_core wₖ v'.serves k.serves' h)
  where
    wₖ : World n m P L (reserved (unstamped v v') v.serves)
    wₖ = agrees w (record {
      serves' = λ _ _. refl;
      link_of' = k.link_of';
      made_by' = k.made_by';
      finished' = λ d o. k.unfinished' d o refl;
      failed' = k.failed';
      disc' = k.disc';
      owner' = λ _ _ _ _. refl;
      seen' = λ _ s. s;
      unseen' = λ _ _. refl;
    })
