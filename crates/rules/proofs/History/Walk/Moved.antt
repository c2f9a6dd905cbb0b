-- What the walk over the kinds shows of each rule: the record's frame, the caller's own record, and the move with what it tells.
-- Assumes nothing.
use Rattle.std.proofs.Common.{◌≡◌, true, false, cond, ◌&&◌, ◌||◌, ℕ, suc, eqb}
use Rattle.rules.specs.Choice.{same}
use Rattle.rules.specs.Record.{is_opened, party, live}
use Rattle.rules.specs.Transaction.{deadline_of}
use Rattle.rules.specs.Rights.{SameRights}
use Rattle.rules.specs.Sound.{choices_good}
use Rattle.rules.specs.Step.{answered_to}
use Rattle.rules.specs.History.{Event, of_kind, accepted, past21}
use Rattle.rules.specs.declared.Call.{Call}
use Rattle.rules.specs.declared.Monitor.{Monitor}
use Rattle.rules.specs.declared.Party.{Party}
use Rattle.rules.specs.declared.Ruled.{Ruled}
use Rattle.rules.proofs.Logic.{Nz}
use Rattle.rules.proofs.Fine.{look, Frame}
use Rattle.rules.proofs.Parties.{Cleared}
use Rattle.rules.proofs.History.Tells.{Tell, tell_of, Valueless}
use Rattle.rules.proofs.History.Moves.{Move}

-- the call and its answer
unfoldable pub event_of : Call → Ruled → Event
event_of c r = record { call = c; answer = (answered_to r c.party).answer }

-- another party's fields stay, but for the mark
pub record Stays (x y : Party) : Type 0 where
  pub opened' : y.opened ≡ x.opened
  pub timeout' : y.timeout ≡ x.timeout
  pub owned' : y.owned ≡ x.owned
  pub deadline' : y.deadline ≡ x.deadline
  pub served' : y.served ≡ x.served
  pub reports' : y.reports ≡ x.reports

-- the caller's own record x becomes y, by a call of kind k: its transaction as it was, with its reports unless k is 22; none; or
-- a new one, in either case without reports
pub data Own (m : Monitor) (k : ℕ) (x y : Party) : Type 0 where
  keeps : y.owned ≡ x.owned → y.deadline ≡ x.deadline → (eqb k 22 ≡ false → y.reports ≡ x.reports) → Own m k x y
  loses : y.owned ≡ 0 → Cleared x y → Own m k x y
  begins : y.owned ≡ suc m.lasttx → y.deadline ≡ deadline_of m.clock x.timeout → Cleared x y → Own m k x y

-- the caller's timeout, as the call and its answer tell
unfoldable pub time_after : Event → ℕ → ℕ
time_after e x = cond (accepted e && of_kind 9 e) e.call.a (cond (accepted e && (of_kind 2 e || of_kind 21 e)) 0 x)

pub record Moved (m : Monitor) (c : Call) (r : Ruled) : Type 0 where
  pub frame : Frame r.monitor
  pub clock' : r.monitor.clock ≡ m.clock
  pub choices : (q : ℕ) → choices_good (party m q) ≡ true → choices_good (party r.monitor q) ≡ true
  pub others : (q : ℕ) → same q c.party ≡ false → Stays (party m q) (party r.monitor q)
  pub rights : eqb c.kind 23 ≡ false → (q : ℕ) → SameRights (party m q) (party r.monitor q)
  pub own : Own m c.kind (party m c.party) (party r.monitor c.party)
  pub timeout' : (party r.monitor c.party).timeout ≡ time_after (event_of c r) (party m c.party).timeout
  pub opened' : (Nz (party m c.party).owned → is_opened (party m c.party) ≡ true)
      → Nz (party r.monitor c.party).owned → is_opened (party r.monitor c.party) ≡ true
  pub past : past21 (event_of c r) ≡ true
  pub valueless : Valueless (event_of c r)
  pub tell : Tell
  pub tells : tell_of (event_of c r) ≡ tell
  pub move : Move c c.party m.lastlink m.lasttx (λ q. party m q) (λ d. look d (live m))
      r.monitor.lastlink r.monitor.lasttx (λ q. party r.monitor q) (λ d. look d (live r.monitor)) tell
