-- The text is within its buffer.
use Rattle.std.proofs.Common.{sym, arith, length-take-le}
use Rattle.listing.proofs.Pieces.{written_fits}
use Rattle.drill_cases.proofs.spent.list_stored.Goals as goal

pub slice_bounds-text-end : goal.slice_bounds-text-end
slice_bounds-text-end c = omega (arith, written_fits _ _ _ _ _ _ c.list_piece-listed.ensures, c.list_piece-listed.auto.out)

pub slice_bounds-write_all-end : goal.slice_bounds-write_all-end
slice_bounds-write_all-end c =
    sym (length-take-le _ _ (omega (arith, written_fits _ _ _ _ _ _ c.list_piece-listed.ensures, c.list_piece-listed.auto.out)))
