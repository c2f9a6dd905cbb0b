-- The invariant after any move.
-- Assumes nothing.
use Rattle.std.proofs.Common.{◌≡◌, ℕ}
use Rattle.rules.specs.declared.Call.{Call}
use Rattle.rules.specs.declared.Link.{Link}
use Rattle.rules.specs.declared.Party.{Party}
use Rattle.rules.proofs.Fine.{tx_p}
use Rattle.rules.proofs.History.Tells.{Tell, can_start}
use Rattle.rules.proofs.History.Moves.{Kept, Move, quiet, sends, grants, finishes, cancels, disconnects}
use Rattle.rules.proofs.History.Moves.{leaves, ends, begins, renews, makes, makes_free, takes}
use Rattle.rules.proofs.History.Shows.{Shows, Next}
use Rattle.rules.proofs.History.World.{World}
use Rattle.rules.proofs.History.Stamped.{sane}
use Rattle.rules.proofs.History.WorldLosses.{quiet_world, sends_world, grants_world, finishes_world}
use Rattle.rules.proofs.History.WorldLosses.{cancels_world, hangs_world, leaves_world, ends_world}
use Rattle.rules.proofs.History.WorldGains.{begins_world, renews_world, makes_world, makes_free_world, takes_world}

module _ {c : Call} {p n m : ℕ} {P : ℕ → Party} {L : ℕ → Link} {n' m' : ℕ} {P' : ℕ → Party} {L' : ℕ → Link} where
  -- where the last numbers stay
  kept_world : {v' : Shows} → Kept c p n m P L n' m' P' L' → World n m P' L' v' → World n' m' P' L' v'
  kept_world k w = rw (k.link, k.tx) w

  pub move_world : {t : Tell} {x : ℕ} {v v' : Shows} → Move c p n m P L n' m' P' L' t → World n m P L v → x ≡ tx_p P' L' p → Next t p x (can_start c) v v'
      → World n' m' P' L' v'
  move_world (quiet k i like s) w is e = kept_world k (quiet_world w is e i like)
  move_world (sends k d h) w is e = kept_world k (sends_world w is e h)
  move_world (grants k d h) w is e = kept_world k (grants_world w is e h)
  move_world (finishes k d h) w is e = kept_world k (finishes_world w is e h)
  move_world (cancels k d h) w is e = kept_world k (cancels_world w is e h)
  move_world (disconnects k d h) w is e = kept_world k (hangs_world w is e h)
  move_world (leaves k bad _ h) w is e = kept_world k (leaves_world w is e (h (sane w p)))
  move_world (ends k h) w is e = kept_world k (ends_world w is e h)
  move_world (begins a b s none h) w is e = rw (a, b) (begins_world w is s e none h)
  move_world (renews a b s Pₑ Lₑ f h) w is e = rw (a, b) (renews_world w is s e f h)
  move_world (makes a b y z h) w is e = rw (a, b) (makes_world w is e y z h)
  move_world (makes_free a b h) w is e = rw (a, b) (makes_free_world w is e h)
  move_world (takes k d h) w is e = kept_world k (takes_world w is e h)
