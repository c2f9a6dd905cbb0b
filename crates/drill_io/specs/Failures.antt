-- What is told of a failure.
use Rattle.std.specs.Prelude.{ℕ, List, codes}
use Rattle.drill_io.specs.declared.told.Failure.{Failure}
use Rattle.drill_io.specs.declared.told.Failure.TheVariants.{CannotRead, CannotWrite}

abbrev pub failure_text : Failure → List ℕ
failure_text CannotRead = codes "cannot read"
failure_text CannotWrite = codes "cannot write"
