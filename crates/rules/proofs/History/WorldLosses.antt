-- The invariant after each move by which links only lose: nothing, a send, a grant, a finish, a cancel, a disconnect, an end.
-- Each lemma goes from World n m P L v, with the last field x of the answer and what the event adds (Next), to World n m P' L' v'.
-- Assumes nothing.
use Rattle.std.proofs.Common.{◌≡◌, refl, sym, ap, ◌∙◌, Bool, true, false, ◌&&◌, ◌||◌, ℕ, arith}
use Rattle.std.proofs.Math.Bool.{and-false, or-true}
use Rattle.rules.specs.Choice.{same}
use Rattle.rules.specs.Record.{is_attached, is_working, is_rollback_only}
use Rattle.rules.specs.declared.Link.{Link}
use Rattle.rules.specs.declared.Party.{Party}
use Rattle.rules.proofs.Logic.{Nz, pick_true, pick_false, same_refl, same_true, same_false, same_ne, test}
use Rattle.rules.proofs.Logic.{not_both, and_l, and_r, or_l, above_nz, nz_other}
use Rattle.rules.proofs.Fine.{no_link, tx_p}
use Rattle.rules.proofs.History.Tells.{nothing, sent, given, finished, disconnected, left}
use Rattle.rules.proofs.History.Moves.{Like, Left, gone, Idle, Sends, Grants, Finishes, Cancels, Disconnects, Leaves, Ends}
use Rattle.rules.proofs.History.Shows.{Shows, Next}
use Rattle.rules.proofs.History.World.{World}
use Rattle.rules.proofs.History.Left.{left_nought, left_open, left_working, fades, fades_works}
use Rattle.rules.proofs.History.Stamped.{tx_p_keeps, unique, unstamped, stamped, plain_nothing, plain_sent, plain_given, plainly}
use Rattle.rules.proofs.History.Losing.{loses}

-- ---- what the moves share
module _ {n m : ℕ} {P : ℕ → Party} {L : ℕ → Link} {v : Shows} (w : World n m P L v) where
  -- a served link that goes on to work keeps its transaction
  served_tx_keeps : {L' : ℕ → Link} → ((e : ℕ) → Left (L e) (L' e)) → (q : ℕ) → (Nz (P q).served → is_working (L' (P q).served) ≡ true)
      → (L' (P q).served).tx ≡ (L (P q).served).tx
  served_tx_keeps less q works = test (same (P q).served 0)
      (λ e. let r = same_true _ _ e in rw (r, w.nought) (left_nought (less 0) w.nought))
      (λ e. (left_working (less _) (works e)).3)

  served_tx_stays : {L' : ℕ → Link} → ((e : ℕ) → Left (L e) (L' e)) → ((e : ℕ) → is_working (L e) ≡ true → is_working (L' e) ≡ true)
      → (q : ℕ) → (L' (P q).served).tx ≡ (L (P q).served).tx
  served_tx_stays less works q = served_tx_keeps less q (λ e. works _ (w.works q e))

  -- an open end that was made for the transaction t is of t, and its maker is its originator
  made_tx : (d t o : ℕ) → is_attached (L d) ≡ true → Nz t → v.made_by d t o ≡ true → ((L d).tx ≡ t) × ((L d).originator ≡ o)
  made_tx d t o a z b = let k = sym (w.maker d (w.there_open d a) t o z) ∙ b in
      (same_true _ _ (and_l (same (L d).tx t) (same (L d).originator o) k), same_true _ _ (and_r (same (L d).tx t) (same (L d).originator o) k))

-- ---- nothing that counts changes
module _ {n m : ℕ} {P : ℕ → Party} {L : ℕ → Link} {v : Shows} (w : World n m P L v) {P' : ℕ → Party} {L' : ℕ → Link}
    (i : Idle P L P' L') (like : (e : ℕ) → Like (L e) (L' e)) where
  pub idle_keeps : World n m P' L' v
  idle_keeps = record {
    owner_is = λ q r z. rw (i.owned' q) (w.owner_is q r (rw (i.owned' q) at z));
    below = λ q. rw (i.owned' q) (w.below q);
    seen_low = w.seen_low;
    seen_high = w.seen_high;
    clean = λ q z. rw (i.mark' q) (w.clean q (rw (i.owned' q) at z));
    mark_is = λ q z. rw (i.mark' q, i.owned' q) (w.mark_is q (rw (i.owned' q) at z));
    serve = λ q f. rw (i.served' q) (w.serve q f);
    works = λ q z. rw (i.served' q, (like (P q).served).state') (w.works q (rw (i.served' q) at z));
    mine = λ q z. rw (i.served' q, (like (P q).served).server') (w.mine q (rw (i.served' q) at z));
    alone = λ q z. rw (i.owned' q) (w.alone q (rw (i.served' q, (like (P q).served).tx') at z));
    not_own = λ q z. rw (i.served' q, (like (P q).served).tx') (w.not_own q (rw (i.served' q, (like (P q).served).tx') at z));
    of_tx = λ d z t nt. rw (like d).tx' (w.of_tx d (rw (like d).number' at z) t nt);
    maker = λ d z t o nt. rw ((like d).tx', (like d).originator') (w.maker d (rw (like d).number' at z) t o nt);
    unfinished = λ d z. rw (like d).originator' (w.unfinished d (rw (like d).number' at z));
    live = λ d z o. let r = w.live d (rw (like d).tx' at z) (rw ((like d).attached', (like d).state') at o) in (r.0, i.owned' _ ∙ r.1 ∙ sym (like d).tx');
    home = λ d z o. rw ((like d).tx', (like d).originator') (w.home d (rw (like d).tx' at z) (rw (like d).attached' at o)
        ∙ sym (tx_p_keeps P P' L L' (L d).originator (i.owned' _) (i.served' _) (like _).tx'));
    kept = λ d o q z b un fi. rw (like d).attached' (w.kept d o q (rw (i.owned' q) at z) (rw (i.owned' q) at b) (rw (i.mark' q) at un) fi);
    there_open = λ d o. rw (like d).number' (w.there_open d (rw (like d).attached' at o));
    there_work = λ d o. rw (like d).number' (w.there_work d (rw (like d).state' at o));
    nought = (like 0).tx' ∙ w.nought;
    disconnected_shut = λ d c. rw (like d).attached' (w.disconnected_shut d (rw (like d).whole' at c));
    ends = λ d c. rw (like d).outcome' (w.ends d (rw (like d).state' at c));
    low = λ d. rw (like d).tx' (w.low d);
    upper = λ d z. w.upper d (rw (like d).number' at z);
    new_failed = w.new_failed;
    new_disc = w.new_disc;
    new_of = w.new_of;
    new_by = w.new_by;
    new_link = w.new_link;
    new_made = w.new_made;
    new_fin = w.new_fin;
    zero_of = w.zero_of;
  }

-- ---- a link that its originator has learnt the end of goes
module _ {n m : ℕ} {P : ℕ → Party} {L : ℕ → Link} {v : Shows} (w : World n m P L v) {P' : ℕ → Party} {L' : ℕ → Link} {v' : Shows} {p x d : ℕ} {starts : Bool}
    (is : x ≡ tx_p P' L' p) (k : Next (finished d) p x starts v v') (h : Finishes P L P' L' p d) where
  finish_less : (e : ℕ) → Left (L e) (L' e)
  finish_less = fades d h.others (gone h.gone')

  finish_works : (e : ℕ) → is_working (L e) ≡ true → is_working (L' e) ≡ true
  finish_works = fades_works d h.others (λ y. not_both y h.rests)

  -- of another link as much is finished as before
  finish_other : (e o : ℕ) → same e d ≡ false → v'.finished e o ≡ v.finished e o
  finish_other e o q = k.unfinished' e o (same_ne d e (λ r. same_false e d q (sym r)))

  finish_there : (e : ℕ) → Nz (L' e).number → same e d ≡ false
  unfolding no_link
  finish_there e z = same_ne e d (λ r. not_both {X = ⊥} (same_refl 0) (rw (r, h.gone') at z))

  -- who made d, for a transaction, is its originator p, for whom it is finished now
  finish_kept : (e o t : ℕ) → Nz t → v.made_by e t o ≡ true → v'.finished e o ≡ false → same e d ≡ false
  finish_kept e o t z b fi = same_ne e d (λ r.
      let b' : v.made_by d t o ≡ true = rw r at b in
      let o' : (L d).originator ≡ o = same_true _ _ (and_r (same (L d).tx t) (same (L d).originator o) (sym (w.maker d h.there t o z) ∙ b')) in
      let po : p ≡ o = sym h.originator ∙ o' in
      not_both {X = ⊥} (k.finishes' d (same_refl d)) (rw (po, ← r) fi))

  pub finishes_world : World n m P' L' v'
  finishes_world = stamped k is (loses n m P L v P' L' (unstamped v v') w (record {
    link_of' = k.link_of';
    made_by' = k.made_by';
    owner' = λ _ _. refl;
    seen' = λ _. refl;
    less = finish_less;
    owned' = λ q _. h.idle.owned' q;
    served' = λ q _. h.idle.served' q;
    serve' = λ q f. rw (h.idle.served' q) (k.serves' q f ∙ w.serve q f);
    stays = λ q z. finish_works _ (w.works q (rw (h.idle.served' q) at z));
    clean' = λ q z. rw (h.idle.mark' q) (w.clean q (rw (h.idle.owned' q) at z));
    mark_is' = λ q z. let z' : Nz (P q).owned = rw (h.idle.owned' q) at z in rw (h.idle.mark' q, k.failed' _ z', k.disc' _ z') (w.mark_is q z');
    unfinished' = λ e z. finish_other e _ (finish_there e z);
    alive = λ _ q _ _ _. h.idle.owned' q;
    home' = λ e _ _. tx_p_keeps P P' L L' (L e).originator (h.idle.owned' _) (h.idle.served' _) (served_tx_stays w finish_less finish_works _);
    kept' = λ e o q z b un fi. let y = finish_kept e o _ (rw (h.idle.owned' q) at z) b fi in
        (rw (h.idle.mark' q) at un, sym (finish_other e o y) ∙ fi, λ a. rw (h.others e y) a);
    new_failed' = λ t b. k.failed' t (above_nz m t b) ∙ w.new_failed t b;
    new_disc' = λ t b. k.disc' t (above_nz m t b) ∙ w.new_disc t b;
    new_fin' = λ e o b. let u = w.upper d h.there in finish_other e o (same_ne e d (omega arith)) ∙ w.new_fin e o b;
  }))

-- ---- an end of no transaction closes
module _ {n m : ℕ} {P : ℕ → Party} {L : ℕ → Link} {v : Shows} (w : World n m P L v) {P' : ℕ → Party} {L' : ℕ → Link} {d : ℕ} (h : Cancels P L P' L' d) where
  cancel_less : (e : ℕ) → Left (L e) (L' e)
  cancel_less = fades d h.others h.fade

  cancel_works : (e : ℕ) → is_working (L e) ≡ true → is_working (L' e) ≡ true
  cancel_works = fades_works d h.others h.fade_works

  pub cancels_keeps : World n m P' L' v
  cancels_keeps = loses n m P L v P' L' v w (record {
    link_of' = λ _ _ _. refl;
    made_by' = λ _ _ _ _. refl;
    owner' = λ _ _. refl;
    seen' = λ _. refl;
    less = cancel_less;
    owned' = λ q _. h.idle.owned' q;
    served' = λ q _. h.idle.served' q;
    serve' = λ q f. rw (h.idle.served' q) (w.serve q f);
    stays = λ q z. cancel_works _ (w.works q (rw (h.idle.served' q) at z));
    clean' = λ q z. rw (h.idle.mark' q) (w.clean q (rw (h.idle.owned' q) at z));
    mark_is' = λ q z. rw (h.idle.mark' q) (w.mark_is q (rw (h.idle.owned' q) at z));
    unfinished' = λ _ _. refl;
    alive = λ _ q _ _ _. h.idle.owned' q;
    home' = λ e _ _. tx_p_keeps P P' L L' (L e).originator (h.idle.owned' _) (h.idle.served' _) (served_tx_stays w cancel_less cancel_works _);
    kept' = λ e o q z b un fi. let z' : Nz (P q).owned = rw (h.idle.owned' q) at z in (
      rw (h.idle.mark' q) at un,
      fi,
      λ a. rw (h.others e (same_ne e d (λ r.
          same_false _ 0 z' (sym (made_tx w e _ o a z' b).0 ∙ ap (λ y. (L y).tx) r ∙ h.no_tx)))) a,
    );
    new_failed' = w.new_failed;
    new_disc' = w.new_disc;
    new_fin' = w.new_fin;
  })

-- ---- the originator disconnects
module _ {n m : ℕ} {P : ℕ → Party} {L : ℕ → Link} {v : Shows} (w : World n m P L v) {P' : ℕ → Party} {L' : ℕ → Link} {v' : Shows} {p x d : ℕ} {starts : Bool}
    (is : x ≡ tx_p P' L' p) (k : Next (disconnected d) p x starts v v') (h : Disconnects P L P' L' d) where
  disconnects_less : (e : ℕ) → Left (L e) (L' e)
  disconnects_less = fades d h.others h.fade

  disconnects_works : (e : ℕ) → is_working (L e) ≡ true → is_working (L' e) ≡ true
  disconnects_works = fades_works d h.others h.fade_works

  -- the owner of the link's transaction is marked, another's mark stays
  disconnects_hit : (q : ℕ) → Nz (P q).owned → (L d).tx ≡ (P q).owned → is_rollback_only (P' q) ≡ true
  disconnects_hit q z r = h.hit (unique w) q (rw r z) (sym r)

  disconnects_miss : (q : ℕ) → same (L d).tx (P q).owned ≡ false → (P' q).rollbackonly ≡ (P q).rollbackonly
  disconnects_miss q y = h.miss q (λ r. same_false _ _ y (sym r))

  disconnects_disc : (u : ℕ) → Nz u → v'.disc u ≡ same (L d).tx u || v.disc u
  disconnects_disc u z = k.disc' u z ∙ rw (w.of_tx d h.there u z)

  disconnects_mark : (q : ℕ) → Nz (P q).owned → is_rollback_only (P' q) ≡ v'.failed (P q).owned || v'.disc (P q).owned
  disconnects_mark q z = rw (k.failed' _ z, disconnects_disc _ z) (test (same (L d).tx (P q).owned)
      (λ y. rw (disconnects_hit q z (same_true _ _ y), y) (sym (or-true (v.failed (P q).owned))))
      (λ y. rw (disconnects_miss q y, y) (w.mark_is q z)))

  pub hangs_world : World n m P' L' v'
  hangs_world = stamped k is (loses n m P L v P' L' (unstamped v v') w (record {
    link_of' = k.link_of';
    made_by' = k.made_by';
    owner' = λ _ _. refl;
    seen' = λ _. refl;
    less = disconnects_less;
    owned' = λ q _. h.owned' q;
    served' = λ q _. h.served' q;
    serve' = λ q f. rw (h.served' q) (k.serves' q f ∙ w.serve q f);
    stays = λ q z. disconnects_works _ (w.works q (rw (h.served' q) at z));
    clean' = λ q z. let z' : same (P q).owned 0 ≡ true = rw (h.owned' q) at z in rw (h.unowned q (same_true _ _ z')) (w.clean q z');
    mark_is' = λ q z. disconnects_mark q (rw (h.owned' q) at z);
    unfinished' = λ e _. k.unfinished' e _ refl;
    alive = λ _ q _ _ _. h.owned' q;
    home' = λ e _ _. tx_p_keeps P P' L L' (L e).originator (h.owned' _) (h.served' _) (served_tx_stays w disconnects_less disconnects_works _);
    kept' = λ e o q z b un fi. let z' : Nz (P q).owned = rw (h.owned' q) at z in
        test (same (L d).tx (P q).owned)
        (λ y. not_both (disconnects_hit q z' (same_true _ _ y)) un)
        (λ y. (
          rw (disconnects_miss q y) at un,
          sym (k.unfinished' e o refl) ∙ fi,
          λ a. rw (h.others e (same_ne e d (λ r.
              same_false _ _ y (ap (λ u. (L u).tx) (sym r) ∙ (made_tx w e _ o a z' b).0)))) a,
        ));
    new_failed' = λ t b. k.failed' t (above_nz m t b) ∙ w.new_failed t b;
    new_disc' = λ t b. k.disc' t (above_nz m t b) ∙ rw (w.new_of d t b) (w.new_disc t b);
    new_fin' = λ e o b. k.unfinished' e o refl ∙ w.new_fin e o b;
  }))

-- ---- the owner's transaction ends
module _ {n m : ℕ} {P : ℕ → Party} {L : ℕ → Link} {v : Shows} (w : World n m P L v) {P' : ℕ → Party} {L' : ℕ → Link} {p : ℕ} (h : Ends P L P' L' p) where
  end_other : (q : ℕ) → Nz (P' q).owned → same q p ≡ false
  end_other q = nz_other (λ r. (P' r).owned) p q h.p_owned

  -- an open end that is left is not p's
  end_home : (d : ℕ) → Nz (L d).tx → is_attached (L' d) ≡ true → same (L d).originator p ≡ false
  unfolding tx_p
  end_home d z o = same_ne _ _ (λ r. not_both {X = ⊥} o (or_l _ _ (h.swept d (w.disconnected_shut d)
      (w.home d z (left_open (h.less d) o).0 ∙ rw (r, pick_false (same (P p).owned 0) (L (P p).served).tx (P p).owned h.has)))))

  pub ends_keeps : World n m P' L' v
  ends_keeps = loses n m P L v P' L' v w (record {
    link_of' = λ _ _ _. refl;
    made_by' = λ _ _ _ _. refl;
    owner' = λ _ _. refl;
    seen' = λ _. refl;
    less = h.less;
    owned' = λ q z. h.owned' q (end_other q z);
    served' = λ q _. h.served' q;
    serve' = λ q f. rw (h.served' q) (w.serve q f);
    stays = λ q z. h.works' _ (w.works q (rw (h.served' q) at z));
    clean' = λ q z. test (same q p)
        (λ y. let r : q ≡ p = same_true q p y in rw (r, h.p_mark))
        (λ y. rw (h.mark' q y) (w.clean q (rw (h.owned' q y) at z)));
    mark_is' = λ q z. let y = end_other q z in rw (h.mark' q y) (w.mark_is q (rw (h.owned' q y) at z));
    unfinished' = λ _ _. refl;
    alive = λ d q z o e. test (same q p)
        (λ y. let r : q ≡ p = same_true q p y in not_both o (h.swept d (w.disconnected_shut d) (sym e ∙ ap (λ u. (P u).owned) r)))
        (h.owned' q);
    home' = λ d z o. let y = end_home d z o in tx_p_keeps P P' L L' (L d).originator (h.owned' _ y) (h.served' _) (served_tx_stays w h.less h.works' _);
    kept' = λ e o q z b un fi. let y = end_other q z in let z' : Nz (P q).owned = rw (h.owned' q y) at z in
        (rw (h.mark' q y) at un, fi, λ a. rw (h.spared e (λ t. same_false q p y (unique w q p z' (sym (made_tx w e _ o a z' b).0 ∙ t)))) a);
    new_failed' = w.new_failed;
    new_disc' = w.new_disc;
    new_fin' = w.new_fin;
  })

-- ---- party p leaves the link that it serves
module _ {n m : ℕ} {P : ℕ → Party} {L : ℕ → Link} {v : Shows} (w : World n m P L v) {P' : ℕ → Party} {L' : ℕ → Link} {v' : Shows} {p x : ℕ} {bad starts : Bool}
    (is : x ≡ tx_p P' L' p) (k : Next (left bad) p x starts v v') (h : Leaves P L P' L' p bad) where
  -- who has something afterwards is not p
  leave_other : (q : ℕ) → Nz (P' q).owned → same q p ≡ false
  leave_other q = nz_other (λ r. (P' r).owned) p q h.p_owned

  leave_server : (q : ℕ) → Nz (P' q).served → same q p ≡ false
  leave_server q = nz_other (λ r. (P' r).served) p q h.p_served

  -- what another owns is not p's
  not_mine : (q : ℕ) → same q p ≡ false → Nz (P q).owned → (P q).owned ≡ (P p).owned → ⊥
  not_mine q y z e = same_false q p y (unique w q p z e)

  -- an open end of p's, of another's transaction: that is the served link's, and the end is a failed one
  ours : (q : ℕ) → same q p ≡ false → Nz (P q).owned → (e : ℕ) → is_attached (L e) ≡ true → (L e).originator ≡ p → (L e).tx ≡ (P q).owned
      → ((P q).owned ≡ (L (P p).served).tx) × (bad ≡ true)
  unfolding tx_p
  ours q y z e o a t = (eq, h.bad_open e (same_ne _ _ (λ u. same_false _ _ z (eq ∙ ap (λ i. (L i).tx) u ∙ w.nought))) o a)
    where
      hm : (L e).tx ≡ tx_p P L (L e).originator
      hm = w.home e (rw t z) o

      eq : (P q).owned ≡ (L (P p).served).tx
      eq = test (same (P p).owned 0)
          (λ u. sym t ∙ hm ∙ rw (a, pick_true (same (P p).owned 0) (L (P p).served).tx (P p).owned u))
          (λ u. absurd (not_mine q y z (sym t ∙ hm ∙ rw (a, pick_false (same (P p).owned 0) (L (P p).served).tx (P p).owned u))))

  -- does p serve a link of u
  of_served : (u : ℕ) → Nz u → v.serves p (λ d. v.link_of d u) ≡ same (L (P p).served).tx u
  of_served u z = w.serve p (λ d. v.link_of d u) ∙ test (same (P p).served 0)
      (λ e. let r = same_true _ _ e in rw (r, w.nought, same_refl 0) (sym (same_ne 0 u (λ i. same_false u 0 z (sym i)))))
      (λ e. rw e (w.of_tx (P p).served (w.there_work _ (w.works p e)) u z))

  leave_failed : (u : ℕ) → Nz u → v'.failed u ≡ (bad && same (L (P p).served).tx u) || v.failed u
  leave_failed u z = k.failed' u z ∙ rw (of_served u z)

  leave_mark : (q : ℕ) → same q p ≡ false → Nz (P q).owned → is_rollback_only (P' q) ≡ v'.failed (P q).owned || v'.disc (P q).owned
  leave_mark q y z = rw (leave_failed _ z, k.disc' _ z) (test (same (L (P p).served).tx (P q).owned)
      (λ e. let r = same_true _ _ e in test bad
      (λ b. rw (e, b, h.hit q y b (sym r) z))
      (λ b. rw (b, h.miss q y z (λ _ u. not_both u b) (λ i o a t. not_both (ours q y z i o a t).1 b)) (w.mark_is q z)))
      (λ e. rw (e, and-false, h.miss q y z (λ u _. same_false _ _ e (sym u)) (λ i o a t. same_false _ _ e (sym (ours q y z i o a t).0))) (w.mark_is q z)))

  -- another's served link is another, and goes on to work
  apart : (q : ℕ) → same q p ≡ false → Nz (P q).served → same (P q).served (P p).served ≡ false
  apart q y z = same_ne _ _ (λ e. same_false q p y (sym (w.mine q z) ∙ ap (λ i. (L i).server) e ∙ w.mine p (rw e at z)))

  leave_stays : (q : ℕ) → same q p ≡ false → Nz (P q).served → is_working (L' (P q).served) ≡ true
  leave_stays q y z = h.works' _ (apart q y z) (w.works q z)

  leave_tx : (q : ℕ) → same q p ≡ false → (L' (P q).served).tx ≡ (L (P q).served).tx
  leave_tx q y = served_tx_keeps w h.less q (leave_stays q y)

  -- an open end of a transaction of another, which is not marked, stays open
  leave_kept : (e o q : ℕ) → same q p ≡ false → Nz (P q).owned → v.made_by e (P q).owned o ≡ true → is_rollback_only (P' q) ≡ false
      → is_attached (L e) ≡ true → is_attached (L' e) ≡ true
  leave_kept e o q y z b un a =
      let t = (made_tx w e _ o a z b).0 in
      test (same e (P p).served)
      (λ u. let r = same_true _ _ u in test bad
      (λ f. not_both (h.hit q y f (sym t ∙ ap (λ i. (L i).tx) r) z) un)
      (λ f. rw r (h.itself f (rw r at a))))
      (λ u. h.spared e u
      (λ i. let j = ours q y z e a i t in not_both {X = ⊥} (h.hit q y j.1 j.0 z) un)
      (λ i _. not_mine q y z (sym t ∙ i)) a)

  pub leaves_world : World n m P' L' v'
  leaves_world = stamped k is (loses n m P L v P' L' (unstamped v v') w (record {
    link_of' = k.link_of';
    made_by' = k.made_by';
    owner' = λ _ _. refl;
    seen' = λ _. refl;
    less = h.less;
    owned' = λ q z. h.owned' q (leave_other q z);
    served' = λ q z. h.served' q (leave_server q z);
    serve' = λ q f. k.serves' q f ∙ test (same q p)
        (λ y. let r : q ≡ p = same_true q p y in rw (r, same_refl p, h.p_served, same_refl 0))
        (λ y. rw (same_ne p q (λ r. same_false q p y (sym r)), h.served' q y) (w.serve q f));
    stays = λ q z. let y = leave_server q z in leave_stays q y (rw (h.served' q y) at z);
    clean' = λ q z. test (same q p)
        (λ y. let r : q ≡ p = same_true q p y in rw r (h.p_mark (w.clean p)))
        (λ y. let z' : same (P q).owned 0 ≡ true = rw (h.owned' q y) at z in rw (h.unowned q y (same_true _ _ z')) (w.clean q z'));
    mark_is' = λ q z. let y = leave_other q z in leave_mark q y (rw (h.owned' q y) at z);
    unfinished' = λ e _. k.unfinished' e _ refl;
    alive = λ d q z o e. test (same q p)
        (λ y. let r : q ≡ p = same_true q p y in
        let e' : (L d).tx ≡ (P p).owned = sym e ∙ ap (λ i. (P i).owned) r in not_both o (h.p_ended d (rw (← e') z) e'))
        (h.owned' q);
    home' = λ d z o. let y = same_ne (L d).originator p (λ r. not_both {X = ⊥} o (h.p_open d r)) in
        tx_p_keeps P P' L L' (L d).originator (h.owned' _ y) (h.served' _ y) (leave_tx _ y);
    kept' = λ e o q z b un fi. let y = leave_other q z in (
      test (is_rollback_only (P q)) (λ u. not_both (h.grows q y u) un) (λ u. u),
      sym (k.unfinished' e o refl) ∙ fi,
      leave_kept e o q y (rw (h.owned' q y) at z) b un,
    );
    new_failed' =
        λ t b. k.failed' t (above_nz m t b) ∙ rw (w.serve p (λ d. v.link_of d t), w.new_of (P p).served t b, and-false, and-false) (w.new_failed t b);
    new_disc' = λ t b. k.disc' t (above_nz m t b) ∙ w.new_disc t b;
    new_fin' = λ e o b. k.unfinished' e o refl ∙ w.new_fin e o b;
  }))

-- ---- the moves that tell nothing of links and transactions
module _ {n m : ℕ} {P : ℕ → Party} {L : ℕ → Link} {v : Shows} (w : World n m P L v) {P' : ℕ → Party} {L' : ℕ → Link} {v' : Shows} {p x : ℕ} {starts : Bool}
    (is : x ≡ tx_p P' L' p) where
  pub quiet_world : Next nothing p x starts v v' → Idle P L P' L' → ((e : ℕ) → Like (L e) (L' e)) → World n m P' L' v'
  quiet_world k i like = plainly k is plain_nothing (idle_keeps w i like)

  pub sends_world : {d : ℕ} → Next (sent d) p x starts v v' → Sends P L P' L' p d → World n m P' L' v'
  sends_world {d} k h = plainly k is (plain_sent d) (idle_keeps w h.idle h.like)

  pub grants_world : {d : ℕ} → Next (given d) p x starts v v' → Grants P L P' L' p d → World n m P' L' v'
  grants_world {d} k h = plainly k is (plain_given d) (idle_keeps w h.idle h.like)

  pub cancels_world : {d : ℕ} → Next nothing p x starts v v' → Cancels P L P' L' d → World n m P' L' v'
  cancels_world k h = plainly k is plain_nothing (cancels_keeps w h)

  pub ends_world : Next nothing p x starts v v' → Ends P L P' L' p → World n m P' L' v'
  ends_world k h = plainly k is plain_nothing (ends_keeps w h)
