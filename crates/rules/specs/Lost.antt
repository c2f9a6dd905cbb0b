-- A success returned in a lost transaction (document 02, R-7), as its laws speak of it.
-- Assumes nothing.
use Rattle.std.specs.Prelude.{◌≡◌, true, false, ◌<◌, eqb}
use Rattle.rules.specs.Codes.{tp_success}
use Rattle.rules.specs.Record.{party, link_of}
use Rattle.rules.specs.Transaction.{lost}
use Rattle.rules.specs.Sound.{sound}
use Rattle.rules.specs.Step.{advanced}
use Rattle.rules.specs.declared.Call.{Call}
use Rattle.rules.specs.declared.Monitor.{Monitor}

-- On the sound record m the call c returns success, by a party of 0 to 15 that serves a link whose transaction is lost at the raised clock.
pub record LostSuccess (m : Monitor) (c : Call) : Type 0 where
  pub is_sound : sound m ≡ true
  pub known : c.party < 16
  pub returns : c.kind ≡ 20
  pub succeeds : c.a ≡ tp_success
  pub serves : eqb (party m c.party).served 0 ≡ false
  pub is_lost : lost (advanced m c.clock) (link_of m (party m c.party).served).tx ≡ true
