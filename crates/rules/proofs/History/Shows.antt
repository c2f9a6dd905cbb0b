-- What a history shows of links and transactions, as functions, and how one event adds to it.
-- Assumes nothing.
use Rattle.std.proofs.Common.{◌≡◌, Bool, true, false, not, ◌&&◌, ◌||◌, List, ℕ}
use Rattle.rules.specs.Choice.{pick, same}
use Rattle.rules.specs.History.{Event, some, by, with_value, ends_in, shown_owner, makes, is_link_of, serves, failed_end, disconnect, finishes}
use Rattle.rules.proofs.Logic.{Nz}
use Rattle.rules.proofs.History.Tells.{Tell, made, taken, finished, disconnected, left}

pub record Shows : Type 0 where
  -- the party serves a link that passes the test
  pub serves : ℕ → (ℕ → Bool) → Bool
  -- link d is of t
  pub link_of : ℕ → ℕ → Bool
  -- link d, of t, was made by party o
  pub made_by : ℕ → ℕ → ℕ → Bool
  -- link d of originator o is finished
  pub finished : ℕ → ℕ → Bool
  -- t has a failed end, a disconnect
  pub failed : ℕ → Bool
  pub disc : ℕ → Bool
  -- t is owned by the party
  pub owner : ℕ → ℕ → Bool
  -- an answer ended in t
  pub seen : ℕ → Bool

unfoldable pub shows_of : List Event → Shows
shows_of h =
    record {
      serves = λ q f. serves f h q;
      link_of = λ d t. is_link_of h t d;
      made_by = λ d t o. some (λ e. makes t e && (with_value d e && by o e)) h;
      finished = λ d o. some (finishes d o) h;
      failed = λ t. failed_end (is_link_of h t) h;
      disc = λ t. disconnect (is_link_of h t) h;
      owner = λ t p. shown_owner h t p;
      seen = λ t. some (ends_in t) h;
    }

-- after an event of party p's that tells t
abbrev pub serves_after : Tell → Bool → (ℕ → Bool) → Bool → Bool
serves_after (taken d) mine f b = (mine && f d) || b
serves_after (left bad) mine f b = not mine && b
serves_after _ mine f b = b

-- the new link, as a test of d
abbrev pub is_made : Tell → ℕ → Bool
is_made (made x) d = same x d
is_made _ d = false

abbrev pub is_finished : Tell → ℕ → Bool
is_finished (finished x) d = same x d
is_finished _ d = false

abbrev pub fails_now : Tell → Bool → Bool
fails_now (left bad) b = bad && b
fails_now _ b = false

abbrev pub disconnects_now : Tell → (ℕ → Bool) → Bool
disconnects_now (disconnected x) f = f x
disconnects_now _ f = false

-- an event that tells t, by party p, with an answer that ends in x, adds this; `starts`: it is a 3, 4 or 5
pub record Next (t : Tell) (p x : ℕ) (starts : Bool) (v v' : Shows) : Type 0 where
  pub serves' : (q : ℕ) (f : ℕ → Bool) → v'.serves q f ≡ serves_after t (same p q) f (v.serves q f)
  pub link_of' : (d u : ℕ) → Nz u → v'.link_of d u ≡ (is_made t d && same x u) || v.link_of d u
  pub made_by' : (d u o : ℕ) → Nz u → v'.made_by d u o ≡ ((is_made t d && same x u) && same p o) || v.made_by d u o
  -- what it finishes, it finishes for its caller at least, and nothing else
  pub finishes' : (d : ℕ) → is_finished t d ≡ true → v'.finished d p ≡ true
  pub finished' : (d o : ℕ) → v.finished d o ≡ true → v'.finished d o ≡ true
  pub unfinished' : (d o : ℕ) → is_finished t d ≡ false → v'.finished d o ≡ v.finished d o
  pub failed' : (u : ℕ) → Nz u → v'.failed u ≡ fails_now t (v.serves p (λ d. v.link_of d u)) || v.failed u
  pub disc' : (u : ℕ) → Nz u → v'.disc u ≡ disconnects_now t (λ d. v.link_of d u) || v.disc u
  pub owner' : (u q : ℕ) → Nz u → v'.owner u q ≡ pick (v.seen u) (v.owner u q) ((same x u && starts) && same p q)
  pub seen' : (u : ℕ) → v'.seen u ≡ same x u || v.seen u
