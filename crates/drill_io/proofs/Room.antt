-- Where a turn leaves the file open, what it keeps leaves room for the next read.
use Rattle.std.proofs.Common.{◌≡◌, ℕ, ◌<◌, Bool, true, false, Option, Some, None, IfSome, MatchOption, sym, subst}
use Rattle.listing.specs.declared.turn.Turned.{Turned}
use Rattle.drill_io.specs.declared.State.{State}

pub room_after : (room : ℕ) (turned : Turned) (ended : Bool) (next : Option State)
    → MatchOption next (turned.over ≡ true)
    (λ s. (turned.over ≡ false) × (s ≡ record { store = turned.store; waiting = record { count = turned.kept; ended = ended } }))
    → (turned.over ≡ false → turned.kept < room)
    → IfSome next (λ s. s.waiting.count < room)
room_after room turned ended None after kept = tt
room_after room turned ended (Some s) after kept = subst (λ (x : State). x.waiting.count < room) (sym after.1) (kept after.0)
