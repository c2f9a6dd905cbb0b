-- One call keeps the whole invariant of demand 3, and the statement holds at it.
-- Assumes nothing.
use Rattle.std.proofs.Common.{◌≡◌, refl, sym, ap, ◌∙◌, Bool, true, false, not, ◌&&◌, List, ◌∷◌, ℕ, suc, ◌<◌, arith, eqb, eqb-true}
use Rattle.std.proofs.lemmas.Bool.{and_from}
use Rattle.rules.specs.Choice.{pick}
use Rattle.rules.specs.Record.{is_attached, is_rollback_only, party, live, link_of}
use Rattle.rules.specs.Transaction.{served_tx, tx_of, late, is_owner, is_open_of, can_commit}
use Rattle.rules.specs.Lists.{any_of}
use Rattle.rules.specs.Tx.{commit_of}
use Rattle.rules.specs.Votes.{report_of}
use Rattle.rules.specs.Standing.{is_against}
use Rattle.rules.specs.Step.{rule_of, is_kind, advanced, later_of, answered_to}
use Rattle.rules.specs.History.{Event, of_kind, past21, tx_at, latest_tx, up_to_start, greatest_clock, deadline_passed}
use Rattle.rules.specs.History.{stands_against, committed, sender_rule, commit_rule, alone_rule, holds}
use Rattle.rules.specs.declared.Call.{Call}
use Rattle.rules.specs.declared.Monitor.{Monitor}
use Rattle.rules.specs.declared.Ruled.{Ruled}
use Rattle.rules.proofs.Logic.{Nz, test, same_refl, same_true, and_l, and_r}
use Rattle.rules.proofs.Fine.{no_link, tx_p, look, Fine}
use Rattle.rules.proofs.Looks.{tx_of_tx_p, any_some, any_one, link_low}
use Rattle.rules.proofs.Parties.{is_owner_only}
use Rattle.rules.proofs.Sound.{clock_fine, moved_fine}
use Rattle.rules.proofs.History.Tells.{tell_of, Valueless, can_start}
use Rattle.rules.proofs.History.Shows.{shows_of, Next}
use Rattle.rules.proofs.History.World.{World}
use Rattle.rules.proofs.History.Stamped.{unique}
use Rattle.rules.proofs.History.WorldMoves.{move_world}
use Rattle.rules.proofs.History.Bridge.{Bounds, told_grows, bounds_grow, bounds_next, next, move_grows, move_above, move_told}
use Rattle.rules.proofs.History.Commits.{Answered, commit_holds}
use Rattle.rules.proofs.History.Turns.{Turns, turns, sender_holds}
use Rattle.rules.proofs.History.Times.{Times, times, clock_next, late_shown}
use Rattle.rules.proofs.History.Votes.{Votes, against_shown, votes_other, votes_report}
use Rattle.rules.proofs.History.Committing.{commit_code_lem}
use Rattle.rules.proofs.History.Walk.Moved.{event_of, Moved}
use Rattle.rules.proofs.History.Walk.All.{rule_moved}

-- the record m is reached with the history h
pub record Reached (m : Monitor) (h : List Event) : Type 0 where
  pub fine : Fine m
  pub world : World m.lastlink m.lasttx (λ q. party m q) (λ d. look d (live m)) (shows_of h)
  pub turns : Turns m.lastlink (λ d. look d (live m)) h
  pub times : Times m h
  pub votes : Votes (λ q. party m q) h
  pub bounds : Bounds m.lastlink h
  pub statement : holds h ≡ true

commit_rule_lem : (m : Monitor) (p k a b c : ℕ) → k ≡ 4 → rule_of m p k a b c ≡ commit_of m p
unfolding rule_of pick
commit_rule_lem m p k a b c e = rw e

report_rule : (m : Monitor) (p k a b c : ℕ) → k ≡ 22 → rule_of m p k a b c ≡ report_of m p a b c
unfolding rule_of pick
report_rule m p k a b c e = rw e

-- the same with the clock of a call, of which the history does not tell yet
module _ (m : Monitor) (h : List Event) (i : Reached m h) (c : Call) (kind : is_kind c.kind ≡ true) (party16 : c.party < 16) where
  m₀ : Monitor
  m₀ = advanced m c.clock

  r : Ruled
  r = rule_of m₀ c.party c.kind c.a c.b c.c

  e : Event
  e = event_of c r

  fine₀ : Fine m₀
  unfolding m₀
  fine₀ = clock_fine m (later_of m.clock c.clock) i.fine

  moved : Moved m₀ c r
  unfolding r
  moved = rule_moved m₀ c fine₀ party16 kind

  world₀ : World m₀.lastlink m₀.lasttx (λ q. party m₀ q) (λ d. look d (live m₀)) (shows_of h)
  unfolding m₀
  world₀ = i.world

  votes₀ : Votes (λ q. party m₀ q) h
  unfolding m₀
  votes₀ = i.votes

  turns₀ : Turns m₀.lastlink (λ d. look d (live m₀)) h
  unfolding m₀
  turns₀ = i.turns

  bounds₀ : Bounds m₀.lastlink h
  unfolding m₀
  bounds₀ = i.bounds

  tells : tell_of e ≡ moved.tell
  unfolding e
  tells = moved.tells

  valueless : Valueless e
  unfolding e
  valueless = moved.valueless

  next₁ : Next moved.tell c.party e.answer.tx (can_start c) (shows_of h) (shows_of (e ∷ h))
  unfolding e event_of
  next₁ = next m₀.lastlink h (event_of c r) moved.tell bounds₀ moved.tells (move_above moved.move) valueless

  tx₁ : e.answer.tx ≡ tx_p (λ q. party r.monitor q) (λ d. look d (live r.monitor)) c.party
  unfolding e event_of answered_to
  tx₁ = tx_of_tx_p r.monitor moved.frame c.party

  world₁ : World r.monitor.lastlink r.monitor.lasttx (λ q. party r.monitor q) (λ d. look d (live r.monitor)) (shows_of (e ∷ h))
  world₁ = move_world moved.move world₀ tx₁ next₁

  -- ---- the times
  clock₁ : greatest_clock (e ∷ h) ≡ m₀.clock
  unfolding e m₀
  clock₁ = clock_next h c _ m.clock i.times.clock moved.past

  latest₀ : (q : ℕ) → latest_tx h q ≡ tx_of m₀ q
  unfolding m₀ tx_of served_tx link_of
  latest₀ = i.times.latest

  times₁ : Times r.monitor (e ∷ h)
  unfolding e
  times₁ =
      times m₀ h c r fine₀ moved (unfold e in clock₁) latest₀ (unfold m₀ in i.times.timeout) (unfold m₀ in i.times.deadline) (unfold m₀ in i.times.opened)
      (unfold shows_of in world₀.seen_low) (unfold shows_of in world₀.seen_high (suc m₀.lasttx) (omega arith)) world₀.below

  -- ---- the managers' reports
  votes₁ : Votes (λ q. party r.monitor q) (e ∷ h)
  unfolding e
  votes₁ = test (eqb c.kind 22)
      (λ y. rw (reported y) (votes_report m₀ h c fine₀ party16 votes₀ (λ z q o. unique world₀ q c.party (rw o z) o) (eqb-true _ _ y)))
      (λ n. votes_other m₀ h c r moved votes₀ n (unfold shows_of in world₀.seen_high (suc m₀.lasttx) (omega arith)))
    where
      reported : eqb c.kind 22 ≡ true → r ≡ report_of m₀ c.party c.a c.b c.c
      reported y = unfold r in report_rule m₀ c.party c.kind c.a c.b c.c (eqb-true _ _ y)

  -- ---- the commit rule
  commits : c.kind ≡ 4 → r ≡ commit_of m₀ c.party
  unfolding r
  commits k = commit_rule_lem m₀ c.party c.kind c.a c.b c.c k

  module _ (k : c.kind ≡ 4) (z : Nz (party m₀ c.party).owned) where
    owner₀ : is_owner m₀ c.party ≡ true
    owner₀ = is_owner_only m₀ c.party z (λ q y. unique world₀ q c.party (rw y z) y)

    code₁ : committed e ≡ can_commit m₀ c.party && not (any_of is_against (party m₀ c.party).reports)
    unfolding e
    code₁ = ap (λ (x : Ruled). committed (event_of c x)) (commits k) ∙ commit_code_lem m₀ c (unfold m₀ in i.times.opened c.party z) z owner₀

    late₁ : deadline_passed (up_to_start (party m₀ c.party).owned h) (e ∷ h) ≡ late m₀.clock (party m₀ c.party)
    late₁ = unfold m₀ in late_shown m h (e ∷ h) c.party i.times z m₀.clock clock₁

  no_open : (t : ℕ) → is_open_of t no_link ≡ false
  unfolding is_open_of no_link
  no_open t = refl

  module _ (k : c.kind ≡ 4) (t : ℕ) (z : Nz t) (o : (party m₀ c.party).owned ≡ t) where
    nz : Nz (party m₀ c.party).owned
    nz = rw o z

    open_end : Bool
    open_end = any_of (is_open_of t) (live m₀)

    opens : open_end ≡ true → (d : ℕ) × (is_attached (look d (live m₀)) ≡ true) × ((look d (live m₀)).tx ≡ t)
    unfolding open_end
    opens y = let s = any_some (is_open_of t) 0 m₀.lastlink (live m₀) fine₀.frame.rising y in
        (s.0, (unfold is_open_of in and_l _ _ s.1), (unfold is_open_of in same_true _ _ (and_r (is_attached (look s.0 (live m₀))) _ s.1)))

    opened : (d : ℕ) → is_attached (look d (live m₀)) ≡ true → (look d (live m₀)).tx ≡ t → open_end ≡ true
    unfolding open_end
    opened d a x = any_one (is_open_of t) (no_open t) d (live m₀) (unfold is_open_of in and_from _ _ a (rw x (same_refl t)))

    code : committed e ≡ (not (is_rollback_only (party m₀ c.party)) && (not (late m₀.clock (party m₀ c.party)) && not open_end)) && not (any_of is_against (party m₀ c.party).reports)
    unfolding open_end can_commit
    code = code₁ k nz ∙ rw o

    against₂ : any_of is_against (party m₀ c.party).reports ≡ stands_against h t
    against₂ = against_shown votes₀ c.party nz (fine₀.choices c.party) ∙ rw o

    late₂ : late m₀.clock (party m₀ c.party) ≡ deadline_passed (up_to_start t h) (e ∷ h)
    late₂ = sym (rw o at (late₁ k nz))

  answers : of_kind 4 e ≡ true → past21 e ≡ true → Nz (tx_at h e) → (party m₀ e.call.party).owned ≡ tx_at h e
      → Answered (λ q. party m₀ q) (λ d. look d (live m₀)) h e
  answers k _ z o = let k' : c.kind ≡ 4 = kind-4 k in let o' : (party m₀ c.party).owned ≡ tx_at h e = own-tx o in
      record {
        late = late m₀.clock (party m₀ c.party);
        open_end = open_end k' (tx_at h e) z o';
        against = any_of is_against (party m₀ c.party).reports;
        against_is = against₂ k' (tx_at h e) z o';
        late_is = late₂ k' (tx_at h e) z o';
        opens = opens k' (tx_at h e) z o';
        opened = opened k' (tx_at h e) z o';
        code = own_code _ _ (code k' (tx_at h e) z o');
      }
    where
      kind-4 : of_kind 4 e ≡ true → c.kind ≡ 4
      kind-4 k = unfold of_kind e event_of in eqb-true _ _ k

      own-tx : (party m₀ e.call.party).owned ≡ tx_at h e → (party m₀ c.party).owned ≡ tx_at h e
      own-tx o = unfold e event_of in o

      own_code : (b s : Bool) → committed e ≡ (not (is_rollback_only (party m₀ c.party)) && b) && s
          → committed e ≡ (not (is_rollback_only (party m₀ e.call.party)) && b) && s
      own_code b s x = unfold e event_of in x

  rules₁ : (commit_rule h e ≡ true) × (alone_rule h e ≡ true)
  rules₁ = commit_holds h e world₀ (latest₀ e.call.party ∙ tx_of_tx_p m₀ fine₀.frame e.call.party) answers

  sender₁ : sender_rule h e ≡ true
  sender₁ = sender_holds c c.party _ _ _ _ _ _ _ _ h e (unfold e event_of in refl) (link_low m₀ fine₀.frame) turns₀ tells moved.move

  bounds₁ : Bounds r.monitor.lastlink (e ∷ h)
  bounds₁ = let up = (move_grows moved.move).0 in
      bounds_next _ h e moved.tell tells (told_grows _ _ moved.tell up (move_told world₀ moved.move)) (bounds_grow _ _ h up bounds₀)

  pub reached_next : Reached (answered_to (rule_of (advanced m c.clock) c.party c.kind c.a c.b c.c) c.party).monitor
      (event_of c (rule_of (advanced m c.clock) c.party c.kind c.a c.b c.c) ∷ h)
  unfolding holds e r m₀ answered_to
  reached_next = record {
    fine = moved_fine m₀ c r fine₀ moved party16;
    world = world₁;
    turns = turns c c.party _ _ _ _ _ _ _ _ h e (unfold e event_of in refl) (link_low m₀ fine₀.frame) turns₀ tells moved.move;
    times = times₁;
    votes = votes₁;
    bounds = bounds₁;
    statement = rw (sender₁, rules₁.0, rules₁.1) i.statement;
  }
