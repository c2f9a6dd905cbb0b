-- `listing::turn::list_turn` meets its contract.
use Rattle.std.proofs.Common.{◌≡◌, rules, w64, to_z, of_z}
use Rattle.monitor.specs.View.{view}
use Rattle.listing.specs.Piece.{Shown, shown}
use Rattle.listing.proofs.Turns.{turn_is}
use Rattle.listing.proofs.turn.list_turn.Goals as goal

pub returns : goal.returns
returns c =
    let same_code : to_z w64 (of_z w64 c.list_piece-listed.result.code) ≡ c.list_piece-listed.result.code = search rules in
    let a = c.args in
    let k = c.keep_rest-kept in
    let l = c.list_piece-listed in
    let r = l.result in
    let s : Shown = shown (view r.store.words) r.used r.written r.code l.new.answers l.new.out in
    turn_is (view a.m.words) a.input.now a.count c.min-held.result a.ended a.answers.now a.out.now c.min-held.ensures
    s l.ensures k.result k.ensures.kept k.new.buffer k.ensures.moved c.is_over.result (rw same_code at c.is_over.ensures)
