use Rattle.std.proofs.Common.{◌≡◌, drop}
use Rattle.rules.specs.Record.{live, with_parties}
use Rattle.rules.specs.Return.{rollback_only_by}
use Rattle.monitor.specs.View.{view}
use Rattle.monitor.proofs.returns.mark_own.Given as goal

abbrev pub invariant-loop-i : goal.invariant-loop-i
invariant-loop-i l =
    record {
      other : view l.s ≡ with_parties (view l.initial.s) (view l.s).parties;
      marked : rollback_only_by l.p.index (drop l.i (live (view l.initial.s))) (view l.s).parties ≡ rollback_only_by l.p.index (live (view l.initial.s)) (view l.initial.s).parties;
    }
