-- A sign, digits and the byte behind them are a field.
use Rattle.std.proofs.Common.{to_z-of_z}
use Rattle.listing.proofs.Digits.{field_is}
use Rattle.listing.proofs.Puts.{puts_byte, puts_then}
use Rattle.listing.proofs.text.put_field.Goals as goal

pub returns : goal.returns
returns c =
    let text = rw (to_z-of_z c.ranges.n) at (puts_then c.put_sign-first.ensures c.put_digits-end.ensures) in
    let size = rw (to_z-of_z c.ranges.n) at c.unsigned_abs.ensures.value in
    rw (field_is c.args.n c.args.after c.unsigned_abs.result size) (puts_byte text c.args.after)
