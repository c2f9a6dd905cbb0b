-- `sound::links_found` meets its contract.
use Rattle.monitor.proofs.Usual.{arith}
use Rattle.monitor.proofs.Served.{finds_put, finds_kept, finds_past, finds_over}
use Rattle.monitor.proofs.sound.links_found.Goals as goal
use Rattle.monitor.proofs.sound.links_found.Goals.{then-works, else-works}

pub loop-i-preserved : goal.loop-i-preserved
loop-i-preserved c =
    elim c.if-works.branch [
      | then-works q ↦
          rw q.found-is
          (finds_put c.args.s.now c.loop-i.invariant c.requires _ _ c.link_good.ensures c.link_at-l.ensures (omega arith) c.if-not-ok.false _ c.party_at.ensures q.if-works.true)
      | else-works q ↦
          rw q.found-is
          (finds_kept c.args.s.now c.loop-i.invariant c.requires _ _ c.link_good.ensures c.link_at-l.ensures (omega arith) c.if-not-ok.false _ c.party_at.ensures q.if-works.false)
    ]

pub returns-then-prev-last_link : goal.returns-then-prev-last_link
returns-then-prev-last_link c = finds_past c.args.s.now c.loop-i.invariant c.requires (omega arith) (omega arith)

pub returns : goal.returns
returns c = finds_over c.args.s.now c.loop-i.invariant c.requires (omega arith) (omega arith)
