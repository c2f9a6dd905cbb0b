-- Demand 3: the history statement holds of every history from a fresh monitor.
-- Assumes nothing.
use Rattle.std.proofs.Common.{◌≡◌, refl, true, false, not, List, [], ◌∷◌, ◌++◌, ℕ, zero, suc, arith, ℤ, pos, get_or, drop, replicate, leb-true}
use Rattle.std.proofs.Math.Bool.{and-false}
use Rattle.rules.specs.Choice.{pick}
use Rattle.rules.specs.Codes.{unknown_kind, unknown_party}
use Rattle.rules.specs.Record.{no_reports, fresh_party, fresh_monitor, party}
use Rattle.rules.specs.Transaction.{served_tx, tx_of}
use Rattle.rules.specs.Step.{turned_down, call_of, step_of}
use Rattle.rules.specs.Run.{call_at, places_of, ran_of, answers_of, calls_in, Listed, list_of}
use Rattle.rules.specs.History.{Event, some, accepted, unheard, past21, answered_by, replied, latest_tx, greatest_clock, shown_timeout, is_owners_commit}
use Rattle.rules.specs.History.{commit_rule, alone_rule, holds, first_call, first_answer, then_calls, then_list}
use Rattle.rules.specs.After.{record_after}
use Rattle.rules.specs.Lists.{any_of}
use Rattle.rules.specs.Votes.{cant_start}
use Rattle.rules.specs.Standing.{standing, some_stopped}
use Rattle.rules.specs.Demand.{Entry, single, lent, then_lent, then_entries, Demand3}
use Rattle.rules.specs.declared.Answer.{Answer}
use Rattle.rules.specs.declared.Call.{Call}
use Rattle.rules.specs.declared.Monitor.{Monitor}
use Rattle.rules.specs.declared.Stepped.{Stepped}
use Rattle.rules.proofs.Logic.{Nz, by_test, not_both, cond_same, zero_nz}
use Rattle.rules.proofs.Fine.{look}
use Rattle.rules.proofs.AnswerCodes.{codes_apart}
use Rattle.rules.proofs.Sound.{fine_sound, fresh_fine}
use Rattle.rules.proofs.History.Tells.{nothing, tell_of, ending_event, Valueless}
use Rattle.rules.proofs.History.Shows.{shows_of}
use Rattle.rules.proofs.History.Stamped.{plainly_old, plain_nothing}
use Rattle.rules.proofs.History.Bridge.{bounds_next, next}
use Rattle.rules.proofs.History.Start.{start_world}
use Rattle.rules.proofs.History.Turns.{turns_still, silent_rule, no_turns}
use Rattle.rules.proofs.History.Times.{Times, started_before}
use Rattle.rules.proofs.History.Votes.{stopped_shown, votes_refused}
use Rattle.rules.proofs.History.Reached.{Reached, reached_next}
use Rattle.rules.proofs.History.Walk.Moved.{event_of}

-- ---- a call that is refused before it is heard: the clock stays, and nothing is told
unfoldable pub event_by : Call → Answer → Event
event_by c r = record { call = c; answer = r }

module _ (m : Monitor) (h : List Event) (i : Reached m h) (c : Call) (code : ℤ) (early : unheard code ≡ true) where
  e : Event
  e = event_by c (turned_down m code).answer

  past_not : past21 e ≡ false
  unfolding past21 e event_by turned_down
  past_not = rw early

  not_code : (z : ℤ) → unheard z ≡ false → answered_by z e ≡ false
  unfolding e event_by turned_down answered_by
  not_code z h = codes_apart (λ x. not (unheard x)) z code (rw h) (rw early)

  quiet : tell_of e ≡ nothing
  unfolding tell_of accepted ending_event replied
  quiet = rw (not_code (pos 0) refl, not_code (pos 29) refl, not_code (pos 30) refl, not_code (pos 31) refl) (simp cond_same)

  valueless : Valueless e
  valueless _ _ = unfold e event_by turned_down in refl

  no_tx_lem : e.answer.tx ≡ 0
  unfolding e event_by turned_down
  no_tx_lem = refl

  times_refused : Times m (e ∷ h)
  times_refused = record {
    clock = (unfold greatest_clock in rw past_not i.times.clock);
    latest = λ q. (unfold latest_tx in rw (past_not, and-false) (i.times.latest q));
    timeout = λ q. (unfold shown_timeout in rw (accepted-not, and-false) (i.times.timeout q));
    deadline = λ q z. rw (started_before (party m q).owned e h (unfold shows_of in i.world.seen_low (party m q).owned z (i.world.below q))) (i.times.deadline q z);
    opened = i.times.opened;
  }
    where
      accepted-not : accepted e ≡ false
      accepted-not = unfold accepted in not_code (pos 0) refl

  no_commit : is_owners_commit h e ≡ false
  unfolding is_owners_commit
  no_commit = rw (past_not, and-false)

  reached_refused' : Reached m (e ∷ h)
  unfolding holds
  reached_refused' = record {
    fine = i.fine;
    world = plainly_old (next m.lastlink h e nothing i.bounds quiet tt valueless) (rw no_tx_lem (omega arith)) plain_nothing i.world;
    turns = turns_still m.lastlink _ h e i.turns quiet;
    times = times_refused;
    votes = votes_refused e (unfold accepted in not_code (pos 0) refl) i.votes;
    bounds = bounds_next m.lastlink h e nothing quiet tt i.bounds;
    statement = rw (silent_rule h e quiet, commit-quiet, alone-quiet) i.statement;
  }
    where
      commit-quiet : commit_rule h e ≡ true
      commit-quiet = unfold commit_rule in rw no_commit

      alone-quiet : alone_rule h e ≡ true
      alone-quiet = unfold alone_rule in rw no_commit

  reached_refused : Reached (turned_down m code).monitor (event_by c (turned_down m code).answer ∷ h)
  unfolding e
  reached_refused = unfold turned_down in reached_refused'

-- ---- one call, as a list's call and as a single one
pub reached_call : (m : Monitor) (h : List Event) → Reached m h → (c : Call) → Reached (call_of m c).monitor (event_by c (call_of m c).answer ∷ h)
unfolding call_of
reached_call m h i c = by_test (λ (s : Stepped). Reached s.monitor (event_by c s.answer ∷ h))
    (λ k. by_test (λ (s : Stepped). Reached s.monitor (event_by c s.answer ∷ h))
    (λ p. let b = leb-true c.party 15 p in unfold event_of event_by in reached_next m h i c k (omega arith))
    (λ _. reached_refused m h i c unknown_party refl))
    (λ _. reached_refused m h i c unknown_kind refl)

pub reached_step : (m : Monitor) (h : List Event) → Reached m h → (c : Call) → Reached (step_of m c).monitor (event_by c (step_of m c).answer ∷ h)
unfolding step_of
reached_step m h i c = by_test (λ (s : Stepped). Reached s.monitor (event_by c s.answer ∷ h))
    (λ _. reached_call m h i c) (λ n. not_both (fine_sound m i.fine) n)

-- ---- the fresh monitor
fresh_parties : (n q : ℕ) → get_or (replicate n fresh_party) q fresh_party ≡ fresh_party
fresh_parties zero q = refl
fresh_parties (suc n) zero = refl
fresh_parties (suc n) (suc q) = fresh_parties n q

pub reached_fresh : Reached fresh_monitor []
unfolding holds look
reached_fresh = record {
  fine = fresh_fine;
  world = start_world (fresh_parties 16) (λ d. refl);
  turns = no_turns 0 _;
  times = record {
    clock = unfold greatest_clock in refl;
    latest = λ q. (unfold latest_tx tx_of served_tx pick in rw (fresh_parties 16 q));
    timeout = λ q. (unfold shown_timeout in rw (fresh_parties 16 q));
    deadline = λ q z. zero_nz (rw (fresh_parties 16 q)) z;
    opened = λ q z. zero_nz (rw (fresh_parties 16 q)) z;
  };
  votes = record { none = λ q _. rw (fresh_parties 16 q); kept = λ q z a. zero_nz (rw (fresh_parties 16 q)) z; known = unfold some in refl };
  bounds = tt;
  statement = refl;
}

-- ---- n calls of a lent list, and what their places read as
pub reached_calls : (n : ℕ) (m : Monitor) (h : List Event) (cs : List ℕ) (rest : List ℤ) → Reached m h
    → Reached (ran_of n m cs) (then_calls n cs (answers_of n m cs ++ rest) h)
unfolding ran_of answers_of then_calls places_of first_answer first_call call_at event_by
reached_calls zero m h cs rest i = i
reached_calls (suc n) m h cs rest i =
    reached_calls n (call_of m (call_at cs)).monitor (event_by (call_at cs) (call_of m (call_at cs)).answer ∷ h) (drop 6 cs) rest (reached_call m h i (call_at cs))

-- ---- entries
pub reached_lent : (m : Monitor) (h : List Event) (cs : List ℕ) (out : List ℤ) → Reached m h
    → Reached (list_of m cs out).monitor (then_lent cs (list_of m cs out) h)
unfolding list_of
reached_lent m h cs out i = by_test (λ (l : Listed). Reached l.monitor (then_lent cs l h))
    (λ _. by_test (λ (l : Listed). Reached l.monitor (then_lent cs l h))
    (λ _. by_test (λ (l : Listed). Reached l.monitor (then_lent cs l h))
    (λ _. unfold then_lent then_list in reached_calls (calls_in cs) m h cs _ i)
    (λ n. not_both (fine_sound m i.fine) n))
    (λ _. unfold then_lent in i))
    (λ _. unfold then_lent in i)

reached_all : (es : List Entry) (m : Monitor) (h : List Event) → Reached m h → Reached (record_after m es) (then_entries m h es)
unfolding then_entries record_after
reached_all [] m h i = i
reached_all (single c ∷ es) m h i = reached_all es (step_of m c).monitor _ (unfold event_by in reached_step m h i c)
reached_all (lent cs out ∷ es) m h i = reached_all es (list_of m cs out).monitor _ (reached_lent m h cs out i)

-- demand 3
pub demand3 : Demand3
unfolding Demand3
demand3 es = (reached_all es fresh_monitor [] reached_fresh).statement

-- no list leaves a report with a party that owns no transaction
pub never_stray : (es : List Entry) (q : ℕ) → (party (record_after fresh_monitor es) q).owned ≡ 0 → (party (record_after fresh_monitor es) q).reports ≡ no_reports
never_stray es = (reached_all es fresh_monitor [] reached_fresh).votes.none

-- and the report that the record keeps of a manager is the standing one, "can't start" included
pub kept_stands : (es : List Entry) (q : ℕ) → Nz (party (record_after fresh_monitor es) q).owned → (a : ℕ)
    → get_or (party (record_after fresh_monitor es) q).reports a 0 ≡ standing (then_entries fresh_monitor [] es) (party (record_after fresh_monitor es) q).owned a
kept_stands es = (reached_all es fresh_monitor [] reached_fresh).votes.kept

-- and one of the four can't start by the record just if the last report of one of them says so
pub kept_stops : (es : List Entry) (q : ℕ) → Nz (party (record_after fresh_monitor es) q).owned
    → any_of cant_start (party (record_after fresh_monitor es) q).reports ≡ some_stopped (then_entries fresh_monitor [] es) (party (record_after fresh_monitor es) q).owned
kept_stops es q z = let i = reached_all es fresh_monitor [] reached_fresh in stopped_shown i.votes q z (i.fine.choices q)

-- demand 3 of one lent list, of which a contract says it
pub lent_holds : (cs : List ℕ) (out : List ℤ) → holds (then_lent cs (list_of fresh_monitor cs out) []) ≡ true
lent_holds cs out = (reached_lent fresh_monitor [] cs out reached_fresh).statement
