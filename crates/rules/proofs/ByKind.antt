-- A statement of every kind's rule is one of whatever rule the kind's number chooses.
-- Assumes nothing.
use Rattle.std.proofs.Common.{◌≡◌, true, ℕ, suc, ◌≤◌, arith, eqb, leb, eqb-true, leb-true}
use Rattle.std.proofs.lemmas.Bool.{eqb-false}
use Rattle.rules.specs.Choice.{pick}
use Rattle.rules.specs.Tx.{open_of, close_of, begin_of, commit_of, rollback_of, info_of, commit_return_of, control_of, timeout_of}
use Rattle.rules.specs.Services.{advertise_of, unadvertise_of}
use Rattle.rules.specs.Requests.{request_of, connect_of, dispatch_of}
use Rattle.rules.specs.Replies.{fetch_of, cancel_of}
use Rattle.rules.specs.Conversations.{send_of, receive_of, disconnect_of}
use Rattle.rules.specs.Return.{return_of, terminate_of}
use Rattle.rules.specs.Votes.{report_of}
use Rattle.rules.specs.Rights.{rights_of}
use Rattle.rules.specs.Step.{rule_of, is_kind}
use Rattle.rules.specs.declared.Monitor.{Monitor}
use Rattle.rules.specs.declared.Ruled.{Ruled}
use Rattle.rules.proofs.Logic.{by_test, and_l, and_r}

-- P holds of the rule of each kind k
pub record OfEachKind (P : Ruled → Type 0) (m : Monitor) (p k a b c : ℕ) : Type 0 where
  pub on_open : k ≡ 1 → P (open_of m p)
  pub on_close : k ≡ 2 → P (close_of m p)
  pub on_begin : k ≡ 3 → P (begin_of m p)
  pub on_commit : k ≡ 4 → P (commit_of m p)
  pub on_rollback : k ≡ 5 → P (rollback_of m p)
  pub on_info : k ≡ 6 → P (info_of m p)
  pub on_commit_return : k ≡ 7 → P (commit_return_of m p a)
  pub on_control : k ≡ 8 → P (control_of m p a)
  pub on_timeout : k ≡ 9 → P (timeout_of m p a)
  pub on_advertise : k ≡ 10 → P (advertise_of m p a)
  pub on_unadvertise : k ≡ 11 → P (unadvertise_of m p a)
  pub on_request : k ≡ 12 → P (request_of m p a b c)
  pub on_connect : k ≡ 13 → P (connect_of m p a b c)
  pub on_dispatch : k ≡ 14 → P (dispatch_of m p)
  pub on_fetch : k ≡ 15 → P (fetch_of m p a b)
  pub on_cancel : k ≡ 16 → P (cancel_of m p a)
  pub on_send : k ≡ 17 → P (send_of m p a b c)
  pub on_receive : k ≡ 18 → P (receive_of m p a)
  pub on_disconnect : k ≡ 19 → P (disconnect_of m p a)
  pub on_return : k ≡ 20 → P (return_of m p a c)
  pub on_terminate : k ≡ 21 → P (terminate_of m p)
  pub on_report : k ≡ 22 → P (report_of m p a b c)
  pub on_rights : k ≡ 23 → P (rights_of m p a b c)

pub by_kind : (P : Ruled → Type 0) (m : Monitor) (p k a b c : ℕ) → is_kind k ≡ true → OfEachKind P m p k a b c → P (rule_of m p k a b c)
unfolding rule_of
by_kind P m p k a b c h f =
    of-kind 1 (leb-true 1 k (and_l _ _ h)) f.on_open λ above1.
    of-kind 2 above1 f.on_close λ above2.
    of-kind 3 above2 f.on_begin λ above3.
    of-kind 4 above3 f.on_commit λ above4.
    of-kind 5 above4 f.on_rollback λ above5.
    of-kind 6 above5 f.on_info λ above6.
    of-kind 7 above6 f.on_commit_return λ above7.
    of-kind 8 above7 f.on_control λ above8.
    of-kind 9 above8 f.on_timeout λ above9.
    of-kind 10 above9 f.on_advertise λ above10.
    of-kind 11 above10 f.on_unadvertise λ above11.
    of-kind 12 above11 f.on_request λ above12.
    of-kind 13 above12 f.on_connect λ above13.
    of-kind 14 above13 f.on_dispatch λ above14.
    of-kind 15 above14 f.on_fetch λ above15.
    of-kind 16 above15 f.on_cancel λ above16.
    of-kind 17 above16 f.on_send λ above17.
    of-kind 18 above17 f.on_receive λ above18.
    of-kind 19 above18 f.on_disconnect λ above19.
    of-kind 20 above19 f.on_return λ above20.
    of-kind 21 above20 f.on_terminate λ above21.
    of-kind 22 above21 f.on_report λ above22.
    of-kind 23 above22 f.on_rights λ above23.
    absurd (none (leb-true k 23 (and_r (leb 1 k) _ h)) above23)
  where
    -- it is i, or above it
    of-kind : (i : ℕ) {x y : Ruled} → i ≤ k → (k ≡ i → P x) → (suc i ≤ k → P y) → P (pick (eqb k i) x y)
    of-kind i le g rest = by_test P (λ e. g (eqb-true k i e)) (λ n. rest (let d = eqb-false k i n in omega arith))

    none : k ≤ 23 → 24 ≤ k → ⊥
    none x y = omega arith
