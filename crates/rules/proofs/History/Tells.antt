-- What one call and its answer tell, by the history statement's own terms.
-- Assumes nothing.
use Rattle.std.proofs.Common.{◌≡◌, Bool, true, false, cond, not, ◌&&◌, ◌||◌, ℕ, eqb, pos}
use Rattle.rules.specs.History.{Event, of_kind, answered_by, with_value, with_event, accepted, replied, link_on, flag2, ends_in}
use Rattle.rules.specs.declared.Call.{Call}

-- nothing that the statement reads; a send on d; SENDONLY given on d; link d made, of the transaction that the answer ends in;
-- link d taken; link d finished; a disconnect on d; the caller left the link that it served, with a failed end or not
pub data Tell : Type 0 where
  nothing : Tell
  sent given made taken finished disconnected : ℕ → Tell
  left : Bool → Tell

unfoldable pub ending_event : Event → Bool
ending_event e = answered_by (pos 29) e && (with_event 2 e || (with_event 4 e || with_event 8 e))

unfoldable pub tell_of : Event → Tell
tell_of e =
    cond (of_kind 12 e || of_kind 13 e) (cond (accepted e && (not (flag2 e.call.b) && not (ends_in 0 e))) (made e.answer.value) nothing)
    (cond (of_kind 14 e) (cond (accepted e) (taken e.answer.value) nothing)
    (cond (of_kind 15 e) (cond (replied e) (finished (link_on e)) nothing)
    (cond (of_kind 17 e) (cond (accepted e) (sent (link_on e)) (cond (ending_event e) (finished (link_on e)) nothing))
    (cond (of_kind 18 e) (cond (answered_by (pos 29) e && with_event 32 e) (given (link_on e)) (cond (ending_event e) (finished (link_on e)) nothing))
    (cond (of_kind 19 e) (cond (accepted e) (disconnected (link_on e)) nothing)
    (cond (of_kind 20 e || of_kind 21 e) (cond (accepted e) (left (with_value 2 e || with_value 4 e)) nothing)
    nothing))))))

-- of kinds 20 and 21, only an accepted call has a value
abbrev pub Valueless : Event → Type 0
Valueless e = of_kind 20 e || of_kind 21 e ≡ true → accepted e ≡ false → e.answer.value ≡ 0

-- can the call start a transaction: a 3, 4 or 5
unfoldable pub can_start : Call → Bool
can_start c = eqb c.kind 3 || (eqb c.kind 4 || eqb c.kind 5)
