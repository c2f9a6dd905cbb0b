-- The invariant at the start: fresh parties, no links and an empty history.
-- Assumes nothing.
use Rattle.std.proofs.Common.{◌≡◌, refl, [], ℕ, arith}
use Rattle.rules.specs.Record.{fresh_party}
use Rattle.rules.specs.History.{some, up_to_start, started_by, shown_owner, is_link_of, serves, failed_end, disconnect}
use Rattle.rules.specs.declared.Link.{Link}
use Rattle.rules.specs.declared.Party.{Party}
use Rattle.rules.proofs.Logic.{not_both, same_refl, same_false, zero_nz}
use Rattle.rules.proofs.Fine.{no_link}
use Rattle.rules.proofs.History.Shows.{shows_of}
use Rattle.rules.proofs.History.World.{World}

module _ {P : ℕ → Party} {L : ℕ → Link} (fresh : (q : ℕ) → P q ≡ fresh_party) (empty : (d : ℕ) → L d ≡ no_link) where
  no_owned : (q : ℕ) → (P q).owned ≡ 0
  no_owned q = rw (fresh q)

  no_served : (q : ℕ) → (P q).served ≡ 0
  no_served q = rw (fresh q)

  no_number : (d : ℕ) → (L d).number ≡ 0
  unfolding no_link
  no_number d = rw (empty d)

  no_tx_lem : (d : ℕ) → (L d).tx ≡ 0
  unfolding no_link
  no_tx_lem d = rw (empty d)

  pub start_world : World 0 0 P L (shows_of [])
  unfolding shows_of some up_to_start started_by shown_owner is_link_of serves failed_end disconnect no_link
  start_world = record {
    owner_is = λ q r z. zero_nz (no_owned q) z;
    below = λ q. let a = no_owned q in omega arith;
    seen_low = λ t z b. absurd (same_false _ _ z (omega arith));
    seen_high = λ _ _. refl;
    clean = λ q _. rw (fresh q);
    mark_is = λ q z. zero_nz (no_owned q) z;
    serve = λ q f. rw (no_served q, same_refl 0);
    works = λ q z. zero_nz (no_served q) z;
    mine = λ q z. zero_nz (no_served q) z;
    alone = λ q z. zero_nz (no_tx_lem _) z;
    not_own = λ q z. zero_nz (no_tx_lem _) z;
    of_tx = λ d z t nt. zero_nz (no_number d) z;
    maker = λ d z t o nt. zero_nz (no_number d) z;
    unfinished = λ _ _. refl;
    live = λ d z _. zero_nz (no_tx_lem d) z;
    home = λ d z _. zero_nz (no_tx_lem d) z;
    kept = λ d o q z _ _ _. zero_nz (no_owned q) z;
    there_open = λ d o. not_both (rw (empty d) at o) refl;
    there_work = λ d o. not_both (rw (empty d) at o) refl;
    nought = no_tx_lem 0;
    disconnected_shut = λ d _. rw (empty d);
    ends = λ d _. rw (empty d);
    low = λ d. let a = no_tx_lem d in omega arith;
    upper = λ d z. zero_nz (no_number d) z;
    new_failed = λ _ _. refl;
    new_disc = λ _ _. refl;
    new_of = λ _ _ _. refl;
    new_by = λ _ _ _ _. refl;
    new_link = λ _ _ _ _. refl;
    new_made = λ _ _ _ _ _. refl;
    new_fin = λ _ _ _. refl;
    zero_of = λ _ _. refl;
  }
