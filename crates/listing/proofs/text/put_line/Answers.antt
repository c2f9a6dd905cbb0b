-- Six fields, one behind the other, are a line.
use Rattle.std.proofs.Common.{get_or, pos, rules}
use Rattle.listing.specs.Text.{line_of}
use Rattle.listing.proofs.Digits.{field_same}
use Rattle.listing.proofs.Puts.{puts_then}
use Rattle.listing.proofs.text.put_line.Goals as goal

pub returns : goal.returns
unfolding line_of
returns c =
    let at = get_or c.args.call.now in
    let first = field_same _ (at 0 (pos 0)) _ c.put_field-at.ensures (search rules) in
    let second = field_same _ (at 1 (pos 0)) _ c.put_field-at-2.ensures (search rules) in
    let third = field_same _ (at 2 (pos 0)) _ c.put_field-at-3.ensures (search rules) in
    let fourth = field_same _ (at 3 (pos 0)) _ c.put_field-at-4.ensures (search rules) in
    let fifth = field_same _ (at 4 (pos 0)) _ c.put_field-at-5.ensures (search rules) in
    let sixth = field_same _ (at 5 (pos 0)) _ c.put_field.ensures (search rules) in
    puts_then (puts_then (puts_then (puts_then (puts_then first second) third) fourth) fifth) sixth
