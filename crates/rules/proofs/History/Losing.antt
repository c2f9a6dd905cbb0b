-- The invariant where links only lose: it is rebuilt from the few facts that differ from move to move.
-- Assumes nothing.
use Rattle.std.proofs.Common.{◌≡◌, sym, ◌∙◌, Bool, true, false, not, ◌&&◌, ◌||◌, ℕ, ◌<◌, arith}
use Rattle.rules.specs.Choice.{same}
use Rattle.rules.specs.Record.{is_attached, is_waiting, is_working, is_rollback_only}
use Rattle.rules.specs.declared.Link.{Link}
use Rattle.rules.specs.declared.Party.{Party}
use Rattle.rules.proofs.Logic.{Nz, same_true, test, above_nz, zero_nz}
use Rattle.rules.proofs.Fine.{tx_p}
use Rattle.rules.proofs.History.Moves.{Left}
use Rattle.rules.proofs.History.Left.{left_tx, left_nought, left_low, left_number, left_open, left_live, left_working, left_disconnected, left_ends}
use Rattle.rules.proofs.History.Shows.{Shows}
use Rattle.rules.proofs.History.World.{World}

module _ (n m : ℕ) (P : ℕ → Party) (L : ℕ → Link) (v : Shows) (P' : ℕ → Party) (L' : ℕ → Link) (v' : Shows) where
  pub record Losing : Type 0 where
    -- what is shown of links and owners stays
    pub link_of' : (d u : ℕ) → Nz u → v'.link_of d u ≡ v.link_of d u
    pub made_by' : (d u o : ℕ) → Nz u → v'.made_by d u o ≡ v.made_by d u o
    pub owner' : (u q : ℕ) → v'.owner u q ≡ v.owner u q
    pub seen' : (u : ℕ) → v'.seen u ≡ v.seen u
    -- links lose, and so do parties
    pub less : (e : ℕ) → Left (L e) (L' e)
    pub owned' : (q : ℕ) → Nz (P' q).owned → (P' q).owned ≡ (P q).owned
    pub served' : (q : ℕ) → Nz (P' q).served → (P' q).served ≡ (P q).served
    pub serve' : (q : ℕ) (f : ℕ → Bool) → v'.serves q f ≡ not (same (P' q).served 0) && f (P' q).served
    pub stays : (q : ℕ) → Nz (P' q).served → is_working (L' (P q).served) ≡ true
    pub clean' : (q : ℕ) → same (P' q).owned 0 ≡ true → is_rollback_only (P' q) ≡ false
    pub mark_is' : (q : ℕ) → Nz (P' q).owned → is_rollback_only (P' q) ≡ v'.failed (P q).owned || v'.disc (P q).owned
    pub unfinished' : (e : ℕ) → Nz (L' e).number → v'.finished e (L e).originator ≡ v.finished e (L e).originator
    pub alive : (d q : ℕ) → Nz (L d).tx → is_attached (L' d) || is_waiting (L' d) ≡ true → (P q).owned ≡ (L d).tx → (P' q).owned ≡ (P q).owned
    pub home' : (d : ℕ) → Nz (L d).tx → is_attached (L' d) ≡ true → tx_p P' L' (L d).originator ≡ tx_p P L (L d).originator
    pub kept' : (d o q : ℕ) → Nz (P' q).owned → v.made_by d (P q).owned o ≡ true → is_rollback_only (P' q) ≡ false → v'.finished d o ≡ false
        → (is_rollback_only (P q) ≡ false) × (v.finished d o ≡ false) × (is_attached (L d) ≡ true → is_attached (L' d) ≡ true)
    pub new_failed' : (t : ℕ) → m < t → v'.failed t ≡ false
    pub new_disc' : (t : ℕ) → m < t → v'.disc t ≡ false
    pub new_fin' : (d o : ℕ) → n < d → v'.finished d o ≡ false

  module _ (w : World n m P L v) (h : Losing) where
    nought' : (L' 0).tx ≡ 0
    nought' = left_nought (h.less 0) w.nought

    -- who serves a link of a transaction has served it before
    served_tx' : (q : ℕ) → Nz (L' (P' q).served).tx → ((L' (P' q).served).tx ≡ (L (P q).served).tx) × Nz (L (P q).served).tx
    served_tx' q z = test (same (P' q).served 0)
        (λ e. let r = same_true _ _ e in zero_nz (rw (r, nought')) z)
        (λ e. let r = h.served' q e in let t = left_tx (h.less (P q).served) (rw r at z) in (rw r t, rw t at (rw r at z)))

    alone' : (q : ℕ) → Nz (L' (P' q).served).tx → (P' q).owned ≡ 0
    alone' q z = test (same (P' q).owned 0) (λ y. same_true _ _ y) (λ y. h.owned' q y ∙ w.alone q (served_tx' q z).1)

    pub loses : World n m P' L' v'
    loses = record {
      owner_is = λ q r z. rw (h.owned' q z, h.owner' (P q).owned r) (w.owner_is q r (rw (h.owned' q z) at z));
      below = λ q. test (same (P' q).owned 0) (λ z. omega (arith, same_true _ _ z)) (λ z. rw (h.owned' q z) (w.below q));
      seen_low = λ t z b. h.seen' t ∙ w.seen_low t z b;
      seen_high = λ t b. h.seen' t ∙ w.seen_high t b;
      clean = h.clean';
      mark_is = λ q z. rw (h.owned' q z) (h.mark_is' q z);
      serve = h.serve';
      works = λ q z. rw (h.served' q z) (h.stays q z);
      mine = λ q z. rw (h.served' q z) ((left_working (h.less (P q).served) (h.stays q z)).2 ∙ w.mine q (rw (h.served' q z) at z));
      alone = alone';
      not_own = λ q z. let s = served_tx' q z in rw (s.0, h.owner' (L (P q).served).tx q) (w.not_own q s.1);
      of_tx = λ d z t nt. let e = left_number (h.less d) z in rw (h.link_of' d t nt, e.1) (w.of_tx d (rw e.0 at z) t nt);
      maker = λ d z t o nt. let e = left_number (h.less d) z in rw (h.made_by' d t o nt, e.1, e.2) (w.maker d (rw e.0 at z) t o nt);
      unfinished = λ d z. let e = left_number (h.less d) z in rw e.2 (h.unfinished' d z ∙ w.unfinished d (rw e.0 at z));
      live = λ d z o. let e = left_tx (h.less d) z in let z' : Nz (L d).tx = rw e at z in let r = w.live d z' (left_live (h.less d) o) in
          (r.0, h.alive d r.0 z' o r.1 ∙ r.1 ∙ sym e);
      home = λ d z o. let e = left_open (h.less d) o in let z' : Nz (L d).tx = rw e.2 at z in
          rw (e.2, e.1) (w.home d z' e.0 ∙ sym (h.home' d z' o));
      kept = λ d o q z b un fi. let e = h.owned' q z in let z' : Nz (P q).owned = rw e at z in
          let b' : v.made_by d (P q).owned o ≡ true = sym (h.made_by' d _ o z') ∙ (rw e at b) in
          let k = h.kept' d o q z b' un fi in
          k.2 (w.kept d o q z' b' k.0 k.1);
      there_open = λ d o. let e = left_open (h.less d) o in rw e.3 (w.there_open d e.0);
      there_work = λ d o. let e = left_working (h.less d) o in rw e.1 (w.there_work d e.0);
      nought = nought';
      disconnected_shut = λ d. left_disconnected (h.less d) (w.disconnected_shut d);
      ends = λ d. left_ends (h.less d) (w.ends d);
      low = λ d. left_low m (h.less d) (w.low d);
      upper = λ d z. w.upper d (rw (left_number (h.less d) z).0 at z);
      new_failed = h.new_failed';
      new_disc = h.new_disc';
      new_of = λ d t b. h.link_of' d t (above_nz m t b) ∙ w.new_of d t b;
      new_by = λ d t o b. h.made_by' d t o (above_nz m t b) ∙ w.new_by d t o b;
      new_link = λ d t z b. h.link_of' d t z ∙ w.new_link d t z b;
      new_made = λ d t o z b. h.made_by' d t o z ∙ w.new_made d t o z b;
      new_fin = h.new_fin';
      zero_of = λ t z. h.link_of' 0 t z ∙ w.zero_of t z;
    }
