-- `links::sweep` meets its contract.
use Rattle.monitor.proofs.Usual.{refl, sym, ◌∙◌, arith}
use Rattle.monitor.proofs.Sweep.{sweep_start, sweep_drop, sweep_put, swept}
use Rattle.monitor.proofs.links.sweep.Goals as goal

pub loop-i-init : goal.loop-i-init
loop-i-init g c = (omega arith, c.requires.inside, λ a f asks leaves e. sweep_start _ f a leaves.kept c.requires.room e)

-- another link stays
pub loop-i-preserved-then-not-takes : goal.loop-i-preserved-then-not-takes
loop-i-preserved-then-not-takes g c =
    let at = c.count-i-end.ensures in (
      omega arith,
      omega (arith, at),
      λ a f asks leaves e.
          sweep_put (c.loop-i.invariant.2 a f asks leaves e) (omega (arith, at)) c.link_at-l.ensures
          (sym (leaves.kept _ (sym (asks _ _ c.takes.ensures) ∙ c.if-not-takes.true))) refl _ c.put_link.ensures,
    )

-- of one that is taken nothing is left, or another
pub loop-i-preserved-in_default : goal.loop-i-preserved-in_default
loop-i-preserved-in_default g c =
    let at = c.count-i-end.ensures in (
      omega arith,
      omega (arith, at),
      λ a f asks leaves e.
          sweep_drop (c.loop-i.invariant.2 a f asks leaves e) (omega (arith, at)) c.link_at-l.ensures
          (leaves.taken _ _ (sym (asks _ _ c.takes.ensures) ∙ c.if-not-takes.false) c.left.ensures) c.in_default.is,
    )

pub loop-i-preserved : goal.loop-i-preserved
loop-i-preserved g c =
    let at = c.count-i-end.ensures in (
      omega arith,
      omega (arith, at),
      λ a f asks leaves e.
          sweep_put (c.loop-i.invariant.2 a f asks leaves e) (omega (arith, at)) c.link_at-l.ensures
          (leaves.taken _ _ (sym (asks _ _ c.takes.ensures) ∙ c.if-not-takes.false) c.left.ensures) c.in-Some.is _ c.put_link-in-loop-i.ensures,
    )

pub returns : goal.returns
returns g c = record {
  swept = λ a f asks leaves e. swept (c.loop-i.invariant.2 a f asks leaves e) _ (let at = c.count-i-end.ensures in omega (arith, c.loop-i.invariant.1)) c.keep_first.ensures.0;
  few = c.keep_first.ensures.1;
}
