-- Laws of a return in a lost transaction (document 02, R-7): what is lost; when a success stays one, and a failure; that a success returned in a
-- lost transaction has value 2; and what it leaves.
-- Assumes nothing.
use Rattle.std.proofs.Common.{◌≡◌, refl, sym, ap, ◌∙◌, true, false, not, ◌&&◌, ◌||◌, List, [], ◌∷◌, ℕ, ◌<◌, arith, eqb, le-leb, rules}
use Rattle.rules.specs.Choice.{pick, same}
use Rattle.rules.specs.Codes.{tp_accepted, tp_success, tp_fail, tpev_svc_err, tpev_svc_fail, tpev_svc_succ, timed_out, tpe_svc_err}
use Rattle.rules.specs.Lists.{first_of, any_of}
use Rattle.rules.specs.Record.{fresh_party, is_rollback_only, is_attached, is_returned, is_conversation, is_server_free, owns, own_end, party, live, link_of, dropped, returned, valued}
use Rattle.rules.specs.Transaction.{owner_party, ended, expired, lost}
use Rattle.rules.specs.Replies.{request_end, outcome_code, fetched, fetch_one, fetch_of}
use Rattle.rules.specs.Return.{plain_outcome, outcome_of, unread_after, ending_of, leave, return_with, return_of}
use Rattle.rules.specs.Sound.{sound}
use Rattle.rules.specs.Lost.{LostSuccess}
use Rattle.rules.specs.Step.{rule_of, later_of, advanced, answered_to, call_of, step_of}
use Rattle.rules.specs.declared.Call.{Call}
use Rattle.rules.specs.declared.Link.{Link}
use Rattle.rules.specs.declared.Monitor.{Monitor}
use Rattle.rules.specs.declared.Party.{Party}
use Rattle.rules.proofs.Fine.{Shape, Fine, look}
use Rattle.rules.proofs.Looks.{link_of_look, link_of_served}
use Rattle.rules.proofs.Sound.{sound_fine, clock_fine}
use Rattle.rules.proofs.Kept.{sound_kept}
use Rattle.rules.proofs.History.Walk.Parted.{leave_parted, leave_back}
use Rattle.rules.proofs.History.Walk.Replies.{request_attached}
use Rattle.rules.proofs.Logic.{by_test, test, not_both, pick_true, Nz}

-- ---- what is lost
-- none is not lost
pub none_not_lost : (m : Monitor) → lost m 0 ≡ false
unfolding lost pick
none_not_lost m = refl

-- nor is an ended one: who would own it is a fresh party
no_owner : (t : ℕ) (ps : List Party) → any_of (owns t) ps ≡ false → owner_party ps t ≡ fresh_party
unfolding any_of first_of pick
no_owner t [] e = refl
no_owner t (q ∷ ps) e = test (owns t q) (λ y. not_both refl (rw y at e)) (λ n. rw n (no_owner t ps (rw n at e)))

pub ended_not_lost : (m : Monitor) (t : ℕ) → ended m t ≡ true → lost m t ≡ false
unfolding ended lost pick
ended_not_lost m t e = test (eqb t 0) (λ z. rw z) (λ n. rw (n, no_owner t m.parties (search rules)))

-- an expired one is, and one that can only be rolled back, by its owner's mark
pub lost_says : (m : Monitor) (t : ℕ) → lost m t ≡ (not (eqb t 0) && is_rollback_only (owner_party m.parties t)) || expired m t
unfolding lost expired pick
lost_says m t = test (eqb t 0) (λ z. rw z) (λ n. rw n)

-- ---- the outcomes
module _ (m : Monitor) (p c : ℕ) (l : Link) where
  -- A success stays one exactly where the party has no open end of its own and owns no transaction, the link's transaction is not lost, and a
  -- conversation is not disconnected and the server is its sender, with no grant under way; else its outcome is 2.
  pub success_law : outcome_of m p tp_success c l
      ≡ pick (not (any_of (own_end p) (live m)) && (eqb (party m p).owned 0 && (not (lost m l.tx)
      && (not (is_conversation l) || (eqb l.disconnected 0 && is_server_free l)))))
      tpev_svc_succ tpev_svc_err
  unfolding outcome_of plain_outcome pick
  success_law = search rules

  -- So does a failure, but that it is not asked whether the transaction is lost, and that without a token the server need not be the sender.
  pub fail_law : outcome_of m p tp_fail c l
      ≡ pick (not (any_of (own_end p) (live m)) && (eqb (party m p).owned 0
      && (not (is_conversation l) || (eqb l.disconnected 0 && (is_server_free l || eqb c 0)))))
      tpev_svc_fail tpev_svc_err
  unfolding outcome_of plain_outcome pick
  fail_law = search rules

-- ---- a success returned in a lost transaction
lost_outcome : (m : Monitor) (p c : ℕ) (l : Link) → lost m l.tx ≡ true → outcome_of m p tp_success c l ≡ tpev_svc_err
unfolding outcome_of
lost_outcome m p c l e = by_test (λ o. o ≡ tpev_svc_err) (λ _. refl) (λ _. pick_true _ _ _ e)

lost_return : (m : Monitor) (p c : ℕ) → eqb (party m p).served 0 ≡ false → lost m (link_of m (party m p).served).tx ≡ true
    → return_of m p tp_success c ≡ valued (leave m p (party m p).served tpev_svc_err 0) tpev_svc_err
unfolding return_of return_with ending_of pick
lost_return m p c n l = rw (n, lost_outcome m p c (link_of m (party m p).served) l)

-- a fetch by number of a link with this outcome
error_fetched : (m : Monitor) (f : Call) (d : ℕ) → sound m ≡ true → f.kind ≡ 15 → f.b ≡ 0 → f.a ≡ d → f.party < 16
    → request_end f.party (link_of m d) ≡ true → is_returned (link_of m d) ≡ true → (link_of m d).outcome ≡ tpev_svc_err
    → (step_of m f).answer.code ≡ pick (expired (advanced m f.clock) (link_of m d).tx) timed_out tpe_svc_err
unfolding step_of call_of rule_of fetch_of fetch_one fetched answered_to link_of pick outcome_code
error_fetched m f d s k b a p o r e = test (expired (advanced m f.clock) (link_of m d).tx)
    (λ x. rw (s, k, b, a, o, x, le-leb f.party 15 (omega arith)))
    (λ x. rw (s, k, b, a, o, x, r, e, le-leb f.party 15 (omega arith)))

module _ (m : Monitor) (c : Call) (h : LostSuccess m c) where
  -- the link that its party serves, and the record afterwards
  abbrev d : ℕ
  d = (party m c.party).served

  abbrev after : Monitor
  after = (step_of m c).monitor

  -- It gives what a return with outcome 2 and no token gives.
  pub lost_step : step_of m c ≡ answered_to (valued (leave (advanced m c.clock) c.party d tpev_svc_err 0) tpev_svc_err) c.party
  unfolding step_of call_of rule_of link_of pick
  lost_step = rw (
    h.is_sound,
    h.returns,
    h.succeeds,
    le-leb c.party 15 (omega (arith, h.known)),
    lost_return (advanced m c.clock) c.party c.c h.serves h.is_lost,
  )

  -- So it is accepted, with value 2.
  pub lost_success : ((step_of m c).answer.code ≡ tp_accepted) × ((step_of m c).answer.value ≡ tpev_svc_err)
  unfolding answered_to
  lost_success = (ap (λ s. s.answer.code) lost_step, ap (λ s. s.answer.value) lost_step)

  -- ---- what it leaves: on records with the declared lengths
  module _ (sh : Shape m) where
    fine : Fine m
    fine = sound_fine m sh h.is_sound

    fine₀ : Fine (advanced m c.clock)
    fine₀ = clock_fine m (later_of m.clock c.clock) fine

    same_link : link_of m d ≡ look d (live m)
    unfolding same
    same_link = link_of_served m fine c.party h.serves

    -- where the originator's end is open, the link as it was, "unread data is dropped with it", returned with outcome 2 and no token
    pub lost_reply : is_attached (link_of after d) ≡ true → link_of after d ≡ returned (dropped (link_of m d)) tpev_svc_err 0
    unfolding answered_to same unread_after pick
    lost_reply o =
        let is = ap (λ s. s.monitor) lost_step in
        let found = link_of_look after (λ x. is_attached x) refl d o in
        let back = leave_back (advanced m c.clock) fine₀ c.party h.known h.serves tpev_svc_err 0 refl (rw (found, is) at o) in
        found ∙ ap (λ x. look d (live x)) is ∙ back ∙ ap (λ x. returned (unread_after tpev_svc_err x) tpev_svc_err 0) (sym same_link)

    -- the transaction rollback-only by the mark of its only owner, an expired one too: "outcome 4 or 2 dooms the served link's live T"
    pub lost_marks : (q : ℕ) → same q c.party ≡ false → (party m q).owned ≡ (link_of m d).tx → Nz (party m q).owned
        → ((r : ℕ) → (party m r).owned ≡ (party m q).owned → r ≡ q) → is_rollback_only (party after q) ≡ true
    unfolding answered_to same
    lost_marks q n t z only =
        let left = leave_parted (advanced m c.clock) fine₀ c.party h.known h.serves tpev_svc_err 0 refl in
        ap (λ s. is_rollback_only (party s.monitor q)) lost_step ∙ left.hit q n refl (t ∙ ap (λ x. x.tx) same_link) z only

    -- "A fetch that takes such a reply answers 31", but 28 first where the transaction is expired at the clock that the fetch raises. This is of a fetch
    -- by number; a fetch of whichever reply is there answers as one by number (`any_reply_law`).
    pub lost_fetched : (f : Call) → f.kind ≡ 15 → f.b ≡ 0 → f.a ≡ d → f.party < 16 → request_end f.party (link_of after d) ≡ true
        → (step_of after f).answer.code ≡ pick (expired (advanced after f.clock) (link_of after d).tx) timed_out tpe_svc_err
    lost_fetched f k b a p o =
        let reply = lost_reply (request_attached f.party (link_of after d) o) in
        let kept = sound_kept m (record { shape = sh; is_sound = h.is_sound }) c in
        error_fetched after f d kept.is_sound k b a p o (rw reply refl) (rw reply refl)
