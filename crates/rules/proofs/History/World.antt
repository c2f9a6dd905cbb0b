-- The invariant of demand 3's commit rule: parties and links against what the history shows of them.
-- Assumes nothing.
use Rattle.std.proofs.Common.{◌≡◌, Bool, true, false, not, ◌&&◌, ◌||◌, ℕ, ◌≤◌, ◌<◌}
use Rattle.rules.specs.Choice.{same}
use Rattle.rules.specs.Record.{is_attached, is_waiting, is_working, is_returned, is_ending, is_rollback_only}
use Rattle.rules.specs.declared.Link.{Link}
use Rattle.rules.specs.declared.Party.{Party}
use Rattle.rules.proofs.Logic.{Nz}
use Rattle.rules.proofs.Fine.{tx_p}
use Rattle.rules.proofs.History.Moves.{is_whole}
use Rattle.rules.proofs.History.Shows.{Shows}

-- with the last link number n and the last transaction number m
pub record World (n m : ℕ) (P : ℕ → Party) (L : ℕ → Link) (v : Shows) : Type 0 where
  -- transactions and their owners
  pub owner_is : (q r : ℕ) → Nz (P q).owned → v.owner (P q).owned r ≡ same q r
  pub below : (q : ℕ) → (P q).owned ≤ m
  pub seen_low : (t : ℕ) → Nz t → t ≤ m → v.seen t ≡ true
  pub seen_high : (t : ℕ) → m < t → v.seen t ≡ false
  pub clean : (q : ℕ) → same (P q).owned 0 ≡ true → is_rollback_only (P q) ≡ false
  pub mark_is : (q : ℕ) → Nz (P q).owned → is_rollback_only (P q) ≡ v.failed (P q).owned || v.disc (P q).owned
  -- served links
  pub serve : (q : ℕ) (f : ℕ → Bool) → v.serves q f ≡ not (same (P q).served 0) && f (P q).served
  pub works : (q : ℕ) → Nz (P q).served → is_working (L (P q).served) ≡ true
  pub mine : (q : ℕ) → Nz (P q).served → (L (P q).served).server ≡ q
  pub alone : (q : ℕ) → Nz (L (P q).served).tx → (P q).owned ≡ 0
  pub not_own : (q : ℕ) → Nz (L (P q).served).tx → v.owner (L (P q).served).tx q ≡ false
  -- links of a transaction
  pub of_tx : (d : ℕ) → Nz (L d).number → (t : ℕ) → Nz t → v.link_of d t ≡ same (L d).tx t
  pub maker : (d : ℕ) → Nz (L d).number → (t o : ℕ) → Nz t → v.made_by d t o ≡ same (L d).tx t && same (L d).originator o
  pub unfinished : (d : ℕ) → Nz (L d).number → v.finished d (L d).originator ≡ false
  pub live : (d : ℕ) → Nz (L d).tx → is_attached (L d) || is_waiting (L d) ≡ true → (q : ℕ) × ((P q).owned ≡ (L d).tx)
  pub home : (d : ℕ) → Nz (L d).tx → is_attached (L d) ≡ true → (L d).tx ≡ tx_p P L (L d).originator
  pub kept : (d o q : ℕ) → Nz (P q).owned → v.made_by d (P q).owned o ≡ true → is_rollback_only (P q) ≡ false → v.finished d o ≡ false
      → is_attached (L d) ≡ true
  -- what is there
  pub there_open : (d : ℕ) → is_attached (L d) ≡ true → Nz (L d).number
  pub there_work : (d : ℕ) → is_working (L d) ≡ true → Nz (L d).number
  pub nought : (L 0).tx ≡ 0
  pub disconnected_shut : (d : ℕ) → is_whole (L d) ≡ false → is_attached (L d) ≡ false
  pub ends : (d : ℕ) → is_returned (L d) ≡ true → is_ending (L d).outcome ≡ true
  pub low : (d : ℕ) → (L d).tx ≤ m
  pub upper : (d : ℕ) → Nz (L d).number → d ≤ n
  -- nothing is shown of numbers to come
  pub new_failed : (t : ℕ) → m < t → v.failed t ≡ false
  pub new_disc : (t : ℕ) → m < t → v.disc t ≡ false
  pub new_of : (d t : ℕ) → m < t → v.link_of d t ≡ false
  pub new_by : (d t o : ℕ) → m < t → v.made_by d t o ≡ false
  pub new_link : (d t : ℕ) → Nz t → n < d → v.link_of d t ≡ false
  pub new_made : (d t o : ℕ) → Nz t → n < d → v.made_by d t o ≡ false
  pub new_fin : (d o : ℕ) → n < d → v.finished d o ≡ false
  pub zero_of : (t : ℕ) → Nz t → v.link_of 0 t ≡ false
