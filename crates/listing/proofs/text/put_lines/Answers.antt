-- `text::put_lines` meets its contract.
use Rattle.std.proofs.Common.{arith}
use Rattle.listing.proofs.Digits.{line_next}
use Rattle.listing.proofs.text.put_lines.Goals as goal

pub loop-call-preserved : goal.loop-call-preserved
loop-call-preserved c =
    line_next _ _ c.as_chunks.ensures.front (omega (arith, c.as_chunks.ensures.front_len)) c.loop-call.invariant c.put_line-at.ensures
