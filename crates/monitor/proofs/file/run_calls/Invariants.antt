use Rattle.monitor.proofs.Usual.{◌-◌, length, view}
use Rattle.monitor.specs.File.{calls_from}
use Rattle.monitor.proofs.Calls.{Runs}
use Rattle.monitor.proofs.file.run_calls.Given as goal

abbrev pub invariant-loop-call : goal.invariant-loop-call
invariant-loop-call l =
    Runs (view l.initial.s) l.input (calls_from l.most l.input 0) l.most l.initial.answers l.answers (view l.s) l.at l.n

abbrev pub decreases-loop-call : goal.decreases-loop-call
decreases-loop-call l = length l.input - l.at
