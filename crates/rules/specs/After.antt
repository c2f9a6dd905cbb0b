-- The record that a list of entries leaves.
-- Assumes nothing.
use Rattle.std.specs.Prelude.{List, [], ◌∷◌}
use Rattle.rules.specs.Step.{step_of}
use Rattle.rules.specs.Run.{list_of}
use Rattle.rules.specs.Demand.{Entry, single, lent}
use Rattle.rules.specs.declared.Monitor.{Monitor}

unfoldable pub record_after : Monitor → List Entry → Monitor
record_after m [] = m
record_after m (single c ∷ es) = record_after (step_of m c).monitor es
record_after m (lent cs out ∷ es) = record_after (list_of m cs out).monitor es
