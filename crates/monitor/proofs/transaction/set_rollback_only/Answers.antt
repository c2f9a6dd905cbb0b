-- `transaction::set_rollback_only` meets its contract.
use Rattle.monitor.proofs.Usual.{◌≤◌, ap, sym, ◌∙◌, arith, ne_eqb, length, with_parties, rollback_only_in, view, pick_false, parties_long, found_none}
use Rattle.rules.specs.Transaction.{owner_of}
use Rattle.std.proofs.Math.Seq.{set_out}
use Rattle.monitor.proofs.transaction.set_rollback_only.Goals as goal

pub returns-in_default : goal.returns-in_default
unfolding rollback_only_in
returns-in_default c =
    let m = view c.args.s.now in
    let n = parties_long 16 0 c.args.s.now in
    let past = found_none _ _ c.owner.ensures c.in_default.is in
    let h : length m.parties ≤ owner_of m.parties c.args.t = omega arith in
    ap (with_parties m) (sym (pick_false _ _ _ (ne_eqb _ _ c.if-t-eq0.false) ∙ set_out m.parties _ _ h))
