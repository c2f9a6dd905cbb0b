-- `listing::piece::list_piece` meets its contract.
use Rattle.std.proofs.Common.{◌≡◌, length-take-le, sym, arith, rules, w64, to_z, of_z}
use Rattle.monitor.specs.File.{passed}
use Rattle.monitor.specs.View.{view}
use Rattle.listing.proofs.Digits.{lines_taken}
use Rattle.listing.proofs.Puts.{puts_then}
use Rattle.listing.proofs.Pieces.{few_calls, listed_little, listed_enough}
use Rattle.listing.proofs.piece.list_piece.Goals as goal
use Rattle.listing.proofs.piece.list_piece.Goals.{then-room-lt22-via-then-room-lt22, then-room-lt22-via-else-room-lt22+then-room-answers}

pub returns-then-room-lt22 : goal.returns-then-room-lt22
returns-then-room-lt22 c =
    let raw : to_z w64 (of_z w64 c.code.result) ≡ c.code.result = search rules in
    rw (raw, c.code.ensures.is)
    (listed_little _ _ _ _ _
    (elim c.then-room-lt22.branch [
      | then-room-lt22-via-then-room-lt22 w ↦ omega (arith, w.if-room-lt22.true)
      | then-room-lt22-via-else-room-lt22+then-room-answers w ↦ omega (arith, w.if-room-answers.true)
    ]))

pub slice_bounds-put_lines-end-2 : goal.slice_bounds-put_lines-end-2
slice_bounds-put_lines-end-2 c =
    let few = few_calls _ _ _ _ c.run_piece-ran.ensures in
    sym (length-take-le _ _ (omega (arith, c.run_piece-ran.auto.answers)))

pub returns : goal.returns
returns c =
    let few = few_calls _ _ _ _ c.run_piece-ran.ensures in
    let r = c.run_piece-ran.result in
    let answers = c.run_piece-ran.new.answers in
    let raw : to_z w64 (of_z w64 r.code) ≡ r.code = search rules in
    let lines = rw (lines_taken r.calls answers (omega arith)) at c.put_lines-lines.ensures in
    rw raw
    (listed_enough _ _ _ _ _ (omega arith) (passed (view r.store.words) r.code r.calls r.used answers) c.run_piece-ran.ensures _ _
    (puts_then lines (rw raw at c.put_refusal-written.ensures)))
