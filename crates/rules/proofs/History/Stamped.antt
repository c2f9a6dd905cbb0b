-- The invariant and an answer's last field: a transaction's number that is not new shows nothing new.
-- Assumes nothing.
use Rattle.std.proofs.Common.{◌≡◌, refl, sym, ap, ◌∙◌, Bool, true, false, ℕ, ◌≤◌, ◌<◌, arith, rules}
use Rattle.std.proofs.Math.Bool.{or-true}
use Rattle.rules.specs.declared.Link.{Link}
use Rattle.rules.specs.declared.Party.{Party}
use Rattle.rules.proofs.Logic.{Nz, pick_true, same_refl, same_true, same_ne, by_test, above_nz}
use Rattle.rules.proofs.Fine.{tx_p}
use Rattle.rules.proofs.History.Tells.{Tell, nothing, sent, given}
use Rattle.rules.proofs.History.Moves.{Sane}
use Rattle.rules.proofs.History.Shows.{Shows, Next, serves_after, is_made, is_finished, fails_now, disconnects_now}
use Rattle.rules.proofs.History.World.{World}

pub tx_p_keeps : (P P' : ℕ → Party) (L L' : ℕ → Link) (q : ℕ) → (P' q).owned ≡ (P q).owned → (P' q).served ≡ (P q).served
    → (L' (P q).served).tx ≡ (L (P q).served).tx → tx_p P' L' q ≡ tx_p P L q
unfolding tx_p
tx_p_keeps P P' L L' q a b c = rw (a, b, c)

-- ---- what the invariant says of a record
module _ {n m : ℕ} {P : ℕ → Party} {L : ℕ → Link} {v : Shows} (w : World n m P L v) where
  -- one owner for each transaction
  pub unique : (q r : ℕ) → Nz (P q).owned → (P q).owned ≡ (P r).owned → q ≡ r
  unique q r z e = same_true q r (sym (w.owner_is q r z) ∙ ap (λ t. v.owner t r) e ∙ w.owner_is r r (rw (← e) z) ∙ same_refl r)

  pub sane : (p : ℕ) → Sane P L p
  sane p = record { alone = w.alone p; disconnected_shut = w.disconnected_shut; unique = unique }

  pub tx_low : (p : ℕ) → tx_p P L p ≤ m
  unfolding tx_p
  tx_low p = by_test (λ t. t ≤ m) (λ e. w.low (P p).served) (λ e. w.below p)

-- ---- v and v' show the same, but for transactions not seen before and up to m
pub record Agrees (m : ℕ) (v v' : Shows) : Type 0 where
  pub serves' : (q : ℕ) (f : ℕ → Bool) → v'.serves q f ≡ v.serves q f
  pub link_of' : (d u : ℕ) → Nz u → v'.link_of d u ≡ v.link_of d u
  pub made_by' : (d u o : ℕ) → Nz u → v'.made_by d u o ≡ v.made_by d u o
  pub finished' : (d o : ℕ) → v'.finished d o ≡ v.finished d o
  pub failed' : (u : ℕ) → Nz u → v'.failed u ≡ v.failed u
  pub disc' : (u : ℕ) → Nz u → v'.disc u ≡ v.disc u
  pub owner' : (u q : ℕ) → Nz u → v.seen u ≡ true → v'.owner u q ≡ v.owner u q
  pub seen' : (u : ℕ) → v.seen u ≡ true → v'.seen u ≡ true
  pub unseen' : (u : ℕ) → m < u → v'.seen u ≡ v.seen u

pub agrees : {n m : ℕ} {P : ℕ → Party} {L : ℕ → Link} {v v' : Shows} → World n m P L v → Agrees m v v' → World n m P L v'
agrees {m} {P} {L} w a = record {
  owner_is = λ q r z. a.owner' _ r z (w.seen_low _ z (w.below q)) ∙ w.owner_is q r z;
  below = w.below;
  seen_low = λ t z b. a.seen' t (w.seen_low t z b);
  seen_high = λ t b. a.unseen' t b ∙ w.seen_high t b;
  clean = w.clean;
  mark_is = λ q z. rw (a.failed' _ z, a.disc' _ z) (w.mark_is q z);
  serve = λ q f. a.serves' q f ∙ w.serve q f;
  works = w.works;
  mine = w.mine;
  alone = w.alone;
  not_own = λ q z. a.owner' _ q z (w.seen_low _ z (w.low _)) ∙ w.not_own q z;
  of_tx = λ d z t nt. a.link_of' d t nt ∙ w.of_tx d z t nt;
  maker = λ d z t o nt. a.made_by' d t o nt ∙ w.maker d z t o nt;
  unfinished = λ d z. a.finished' d _ ∙ w.unfinished d z;
  live = w.live;
  home = w.home;
  kept = λ d o q z b un fi. w.kept d o q z (sym (a.made_by' d _ o z) ∙ b) un (sym (a.finished' d o) ∙ fi);
  there_open = w.there_open;
  there_work = w.there_work;
  nought = w.nought;
  disconnected_shut = w.disconnected_shut;
  ends = w.ends;
  low = w.low;
  upper = w.upper;
  new_failed = λ t b. a.failed' t (above_nz m t b) ∙ w.new_failed t b;
  new_disc = λ t b. a.disc' t (above_nz m t b) ∙ w.new_disc t b;
  new_of = λ d t b. a.link_of' d t (above_nz m t b) ∙ w.new_of d t b;
  new_by = λ d t o b. a.made_by' d t o (above_nz m t b) ∙ w.new_by d t o b;
  new_link = λ d t z b. a.link_of' d t z ∙ w.new_link d t z b;
  new_made = λ d t o z b. a.made_by' d t o z ∙ w.new_made d t o z b;
  new_fin = λ d o b. a.finished' d o ∙ w.new_fin d o b;
  zero_of = λ t z. a.link_of' 0 t z ∙ w.zero_of t z;
}

-- ---- an event whose answer ends in the caller's transaction, which is not new
-- what v' shows, with the owners that v shows
abbrev pub unstamped : Shows → Shows → Shows
unstamped v v' = record v' { owner = v.owner; seen = v.seen }

module _ {t : Tell} {p x : ℕ} {starts : Bool} {v v' : Shows} (k : Next t p x starts v v') where
  next_owner : (u q : ℕ) → Nz u → v.seen u ≡ true → v'.owner u q ≡ v.owner u q
  next_owner u q z s = k.owner' u q z ∙ pick_true _ _ _ s

  next_seen : (u : ℕ) → v.seen u ≡ true → v'.seen u ≡ true
  next_seen u s = k.seen' u ∙ rw (s, or-true)

  next_unseen : (m u : ℕ) → x ≤ m → m < u → v'.seen u ≡ v.seen u
  next_unseen m u le b = k.seen' u ∙ rw (same_ne x u (omega arith))

  pub stamped : {n m : ℕ} {P : ℕ → Party} {L : ℕ → Link} → x ≡ tx_p P L p → World n m P L (unstamped v v') → World n m P L v'
  stamped {m} is w = agrees w (record {
    serves' = λ _ _. refl;
    link_of' = λ _ _ _. refl;
    made_by' = λ _ _ _ _. refl;
    finished' = λ _ _. refl;
    failed' = λ _ _. refl;
    disc' = λ _ _. refl;
    owner' = next_owner;
    seen' = next_seen;
    unseen' = λ u. next_unseen m u (rw is (tx_low w p));
  })

-- ---- an event that tells nothing of links and transactions
pub record Plain (t : Tell) : Type 0 where
  pub serves' : (mine : Bool) (f : ℕ → Bool) (b : Bool) → serves_after t mine f b ≡ b
  pub made' : (d : ℕ) → is_made t d ≡ false
  pub finished' : (d : ℕ) → is_finished t d ≡ false
  pub failed' : (b : Bool) → fails_now t b ≡ false
  pub disc' : (f : ℕ → Bool) → disconnects_now t f ≡ false

pub plain_nothing : Plain nothing
plain_nothing = search rules

pub plain_sent : (d : ℕ) → Plain (sent d)
plain_sent d = search rules

pub plain_given : (d : ℕ) → Plain (given d)
plain_given d = search rules

-- the answer ends in a transaction that is not new, or in none
pub plainly_old : {t : Tell} {p x n m : ℕ} {starts : Bool} {v v' : Shows} {P : ℕ → Party} {L : ℕ → Link}
    → Next t p x starts v v' → x ≤ m → Plain t → World n m P L v → World n m P L v'
plainly_old {t} {p} {m} k le a w = agrees w (record {
  serves' = λ q f. k.serves' q f ∙ a.serves' _ f _;
  link_of' = λ d u z. k.link_of' d u z ∙ rw (a.made' d);
  made_by' = λ d u o z. k.made_by' d u o z ∙ rw (a.made' d);
  finished' = λ d o. k.unfinished' d o (a.finished' d);
  failed' = λ u z. k.failed' u z ∙ rw (a.failed' _);
  disc' = λ u z. k.disc' u z ∙ rw (a.disc' _);
  owner' = next_owner k;
  seen' = next_seen k;
  unseen' = λ u. next_unseen k m u le;
})

pub plainly : {t : Tell} {p x n m : ℕ} {starts : Bool} {v v' : Shows} {P : ℕ → Party} {L : ℕ → Link}
    → Next t p x starts v v' → x ≡ tx_p P L p → Plain t → World n m P L v → World n m P L v'
plainly {p} k is a w = plainly_old k (rw is (tx_low w p)) a w
