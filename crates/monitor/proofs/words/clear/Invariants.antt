use Rattle.monitor.proofs.Usual.{◌≡◌, words, view}
use Rattle.std.proofs.Common.{replicate}
use Rattle.monitor.proofs.Clearing.{cleared_to}
use Rattle.monitor.proofs.words.clear.Given as goal

abbrev pub invariant-loop-p : goal.invariant-loop-p
invariant-loop-p l = view l.s ≡ cleared_to (view (replicate words 0)) l.p
