-- The text is within its lines, and where the file goes on what is kept leaves room.
use Rattle.std.proofs.Common.{sym, arith, length-take-le}
use Rattle.listing.proofs.Turns.{turn_fits, turn_leaves_room}
use Rattle.drill_io.proofs.Room.{room_after}
use Rattle.drill_wire.proofs.turn.Goals as goal

pub slice_bounds-lines-end : goal.slice_bounds-lines-end
slice_bounds-lines-end g c = omega (arith, turn_fits _ _ _ _ _ _ _ c.list_turn-turned.ensures, c.list_turn-turned.auto.out)

pub slice_bounds-write_lines-end : goal.slice_bounds-write_lines-end
slice_bounds-write_lines-end g c =
    sym (length-take-le _ _ (omega (arith, turn_fits _ _ _ _ _ _ _ c.list_turn-turned.ensures, c.list_turn-turned.auto.out)))

pub returns : goal.returns
returns g c =
    room_after _ c.list_turn-turned.result _ _ c.after.ensures
    (λ on. omega (arith, turn_leaves_room _ _ _ _ _ _ (omega arith) (omega arith) _ c.list_turn-turned.ensures on, c.wait.auto.input))
