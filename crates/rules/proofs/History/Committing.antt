-- How the rule of commit answers the owner of a transaction.
-- Assumes nothing.
use Rattle.std.proofs.Common.{◌≡◌, refl, ap, ◌∙◌, Bool, true, false, not, ◌&&◌, List, ℕ, eqb}
use Rattle.rules.specs.Choice.{pick, same}
use Rattle.rules.specs.Codes.{tx_protocol_error}
use Rattle.rules.specs.Record.{is_opened, is_chained, party, ruled}
use Rattle.rules.specs.Transaction.{tx_of, is_owner, end_tx, can_commit}
use Rattle.rules.specs.States.{state_of, is_blank, next_of}
use Rattle.rules.specs.Tx.{go_on, commit_of}
use Rattle.rules.specs.Votes.{commit_code}
use Rattle.rules.specs.Standing.{is_against, is_done}
use Rattle.rules.specs.Lists.{any_of}
use Rattle.rules.specs.Step.{answered_to}
use Rattle.rules.specs.History.{answered_by, committed}
use Rattle.rules.specs.declared.Call.{Call}
use Rattle.rules.specs.declared.Monitor.{Monitor}
use Rattle.rules.specs.declared.Ruled.{Ruled}
use Rattle.rules.proofs.Logic.{Nz, pick_true, pick_false, by_test, test}
use Rattle.rules.proofs.Votes.{vote_law, no_begin_law}
use Rattle.rules.proofs.History.Walk.Moved.{event_of}

committed_code : (c : Call) (r : Ruled) → committed (event_of c r) ≡ is_done r.code
unfolding committed answered_by event_of answered_to
committed_code c r = refl

-- the code is that of the votes, with or without a new transaction
go_on_code : (m : Monitor) (p next : ℕ) (start can : Bool) (rs : List ℕ) → is_done (go_on m p next start (commit_code can rs)).code ≡ is_done (commit_code can rs)
unfolding go_on
go_on_code m p next start can rs = by_test (λ (r : Ruled). is_done r.code ≡ is_done (commit_code can rs))
    (λ _. by_test (λ (r : Ruled). is_done r.code ≡ is_done (commit_code can rs)) (λ _. refl) (λ _. no_begin_law can rs))
    (λ _. refl)

-- in a transaction commit has a next state
in_tx_lem : (m : Monitor) (p : ℕ) → is_opened (party m p) ≡ true → Nz (party m p).owned → not (is_blank (next_of 4 (state_of m p))) ≡ true
in_tx_lem m p o z = test (is_chained (party m p))
    (λ y. rw (state ∙ pick_true _ _ _ y) (unfold next_of pick in refl))
    (λ y. rw (state ∙ pick_false _ _ _ y) (unfold next_of pick in refl))
  where
    tx : eqb (tx_of m p) 0 ≡ false
    tx = unfold tx_of same in (rw (pick_false _ _ _ z) z)

    state : state_of m p ≡ pick (is_chained (party m p)) 4 3
    state = unfold state_of in (pick_true _ _ _ o ∙ pick_false _ _ _ tx)

pub commit_code_lem : (m : Monitor) (c : Call) → is_opened (party m c.party) ≡ true → Nz (party m c.party).owned → is_owner m c.party ≡ true
    → committed (event_of c (commit_of m c.party)) ≡ can_commit m c.party && not (any_of is_against (party m c.party).reports)
unfolding commit_of
commit_code_lem m c o z w = committed_code c _
    ∙ ap (λ (r : Ruled). is_done r.code) (pick_true _ _ (ruled m tx_protocol_error) (in_tx_lem m c.party o z) ∙ pick_true _ _ _ w)
    ∙ go_on_code (end_tx m c.party) c.party _ _ (can_commit m c.party) (party m c.party).reports
    ∙ vote_law (can_commit m c.party) (party m c.party).reports
