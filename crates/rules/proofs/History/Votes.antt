-- The managers' reports that the record keeps, against the standing ones that the history shows.
-- Assumes nothing.
use Rattle.std.proofs.Common.{◌≡◌, refl, sym, ap, ◌∙◌, Bool, true, false, not, cond, ◌&&◌, ◌||◌, List, [], ◌∷◌, ℕ, suc, ◌≤◌, ◌<◌, arith, eqb}
use Rattle.std.proofs.Common.{leb, ℤ, pos, get_or, set, length, get_or-set_same, get_or-set_other, eqb-true, eq-eqb, ne_eqb, leb-true, le-leb, rules}
use Rattle.std.proofs.lemmas.Bool.{eqb-false}
use Rattle.std.proofs.Math.Bool.{and-false}
use Rattle.rules.specs.Choice.{same}
use Rattle.rules.specs.Codes.{not_allowed_now, bad_report}
use Rattle.rules.specs.Lists.{any_of}
use Rattle.rules.specs.Record.{no_reports, party, reporting, with_party, ruled, valued}
use Rattle.rules.specs.Sound.{choices_good}
use Rattle.rules.specs.Transaction.{tx_of}
use Rattle.rules.specs.Votes.{report_number, cant_start, is_report, report_of}
use Rattle.rules.specs.Standing.{is_against, standing, stopped, some_stopped}
use Rattle.rules.specs.Step.{answered_to}
use Rattle.rules.specs.History.{Event, some, of_kind, accepted, answered_by, same_code, ends_in, reports_on, opposes, opposed, stands_against}
use Rattle.rules.specs.declared.Call.{Call}
use Rattle.rules.specs.declared.Monitor.{Monitor}
use Rattle.rules.specs.declared.Party.{Party}
use Rattle.rules.specs.declared.Ruled.{Ruled}
use Rattle.rules.proofs.Logic.{Nz, by_test, test, pick_false, same_true, same_false, zero_nz, and_l, or_l, or_r}
use Rattle.rules.proofs.Fine.{Fine}
use Rattle.rules.proofs.Parties.{party_same, party_other, is_owner_owns, reports_good_lem}
use Rattle.rules.proofs.Votes.{against_says, start_says, against_none, reports_four, any_four}
use Rattle.rules.proofs.History.Walk.Moved.{event_of, Own, keeps, loses, begins, Moved}
use Rattle.rules.proofs.History.Walk.Votes.{report_b}

-- an accepted report that is none of those there are
unfoldable pub is_strange : Event → Bool
is_strange e = of_kind 22 e && (accepted e && not (leb e.call.b 6))

known_b : (e : Event) (t a : ℕ) → reports_on t a e ≡ true → is_strange e ≡ false → e.call.b ≤ 6
unfolding reports_on is_strange
known_b e t a y n = search rules

-- what the record keeps of the managers' reports is what the history shows
pub record Votes (P : ℕ → Party) (h : List Event) : Type 0 where
  pub none : (q : ℕ) → (P q).owned ≡ 0 → (P q).reports ≡ no_reports
  pub kept : (q : ℕ) → Nz (P q).owned → (a : ℕ) → get_or (P q).reports a 0 ≡ standing h (P q).owned a
  pub known : some is_strange h ≡ false

-- what the kept reports say is what the standing ones do: f tests a kept report, g the call that made it, and s tells by the history
-- what g says of each manager's last report
module _ (f : ℕ → Bool) (g : Event → Bool) (s : List Event → ℕ → ℕ → Bool) (none : f 0 ≡ false)
    (says : (e : Event) → e.call.b ≤ 6 → f (report_number e.call.b e.call.c) ≡ g e)
    (first : (t a : ℕ) → s [] t a ≡ false)
    (later : (e : Event) (h : List Event) (t a : ℕ) → s (e ∷ h) t a ≡ cond (reports_on t a e) (g e) (s h t a)) where
  standing_says : (h : List Event) (t a : ℕ) → some is_strange h ≡ false → f (standing h t a) ≡ s h t a
  unfolding some standing
  standing_says [] t a k = none ∙ sym (first t a)
  standing_says (e ∷ h) t a k = rw (later e h t a) (test (reports_on t a e)
      (λ y. rw y (says e (known_b e t a y (or_l _ _ k))))
      (λ y. rw y (standing_says h t a (or_r (is_strange e) _ k))))

  -- the four together
  four_say : {P : ℕ → Party} {h : List Event} → Votes P h → (q : ℕ) → Nz (P q).owned → choices_good (P q) ≡ true
      → any_of f (P q).reports ≡ s h (P q).owned 0 || (s h (P q).owned 1 || (s h (P q).owned 2 || s h (P q).owned 3))
  four_say {P} {h} v q z c =
      any_four f (P q).reports (reports_four (P q).reports (reports_good_lem (P q) c)) ∙ rw (shown 0, shown 1, shown 2, shown 3)
    where
      shown : (a : ℕ) → f (get_or (P q).reports a 0) ≡ s h (P q).owned a
      shown a = ap f (v.kept q z a) ∙ standing_says h (P q).owned a v.known

pub against_shown : {P : ℕ → Party} {h : List Event} → Votes P h → (q : ℕ) → Nz (P q).owned → choices_good (P q) ≡ true → any_of is_against (P q).reports ≡ stands_against h (P q).owned
unfolding stands_against
against_shown = four_say is_against opposes opposed against_none (λ e b. unfold opposes in against_says e.call.b e.call.c b)
    (λ t a. unfold opposed in refl) (λ e h t a. unfold opposed in refl)

pub stopped_shown : {P : ℕ → Party} {h : List Event} → Votes P h → (q : ℕ) → Nz (P q).owned → choices_good (P q) ≡ true → any_of cant_start (P q).reports ≡ some_stopped h (P q).owned
unfolding some_stopped
stopped_shown = four_say cant_start (λ e. eqb e.call.c 1) stopped refl (λ e b. start_says e.call.b e.call.c b)
    (λ t a. unfold stopped in refl) (λ e h t a. unfold stopped in refl)

none_kept : (a : ℕ) → get_or no_reports a 0 ≡ 0
none_kept (suc (suc (suc (suc a)))) = refl
none_kept _ = refl

-- ---- an event that is no report on t
standing_still : (e : Event) (h : List Event) (t a : ℕ) → reports_on t a e ≡ false → standing (e ∷ h) t a ≡ standing h t a
unfolding standing
standing_still e h t a n = rw n

-- by its kind, by its answer, by its transaction
not_22 : (e : Event) (t a : ℕ) → of_kind 22 e ≡ false → reports_on t a e ≡ false
unfolding reports_on
not_22 e t a n = rw n

not_accepted : (e : Event) (t a : ℕ) → accepted e ≡ false → reports_on t a e ≡ false
unfolding reports_on
not_accepted e t a n = rw (n, and-false (of_kind 22 e))

not_of : (e : Event) (t a : ℕ) → ends_in t e ≡ false → reports_on t a e ≡ false
unfolding reports_on
not_of e t a n = rw (n, and-false (accepted e), and-false (of_kind 22 e))

-- of a transaction that no answer ends in there is none
standing_unseen : (h : List Event) (t a : ℕ) → some (ends_in t) h ≡ false → standing h t a ≡ 0
unfolding some standing
standing_unseen [] t a n = refl
standing_unseen (e ∷ h) t a n = rw (not_of e t a (or_l _ _ n)) (standing_unseen h t a (or_r (ends_in t e) _ n))

-- nothing strange is added by an event that is no accepted 22
known_kind : (e : Event) → of_kind 22 e ≡ false → is_strange e ≡ false
unfolding is_strange
known_kind e n = rw n

known_refused : (e : Event) → accepted e ≡ false → is_strange e ≡ false
unfolding is_strange
known_refused e n = rw (n, and-false (of_kind 22 e))

known_more : (e : Event) (h : List Event) → is_strange e ≡ false → some is_strange h ≡ false → some is_strange (e ∷ h) ≡ false
unfolding some
known_more e h n k = rw n k

-- a refused call
pub votes_refused : {P : ℕ → Party} {h : List Event} (e : Event) → accepted e ≡ false → Votes P h → Votes P (e ∷ h)
votes_refused {P} {h} e n v = record {
  none = v.none;
  kept = λ q z a. v.kept q z a ∙ sym (standing_still e h (P q).owned a (not_accepted e (P q).owned a n));
  known = known_more e h (known_refused e n) v.known;
}

-- ---- every kind but 22
module _ (m : Monitor) (h : List Event) (c : Call) (r : Ruled) (k : Moved m c r) (v : Votes (λ q. party m q) h)
    (other : eqb c.kind 22 ≡ false) (unseen : some (ends_in (suc m.lasttx)) h ≡ false) where
  e : Event
  e = event_of c r

  is_other : of_kind 22 e ≡ false
  is_other = unfold e event_of of_kind in other

  still : (t a : ℕ) → standing (e ∷ h) t a ≡ standing h t a
  still t a = standing_still e h t a (not_22 e t a is_other)

  -- a party whose transaction and reports stay
  same_none : (q : ℕ) (y : Party) → y.owned ≡ (party m q).owned → y.reports ≡ (party m q).reports → y.owned ≡ 0 → y.reports ≡ no_reports
  same_none q y o i z = i ∙ v.none q (sym o ∙ z)

  same_kept : (q : ℕ) (y : Party) → y.owned ≡ (party m q).owned → y.reports ≡ (party m q).reports → Nz y.owned → (a : ℕ) → get_or y.reports a 0 ≡ standing (e ∷ h) y.owned a
  same_kept q y o i z a = rw (still y.owned a, i, o) (v.kept q (rw o at z) a)

  own_none : (y : Party) → Own m c.kind (party m c.party) y → y.owned ≡ 0 → y.reports ≡ no_reports
  own_none y (keeps a b d) z = same_none c.party y a (d other) z
  own_none y (loses a d) z = d (v.none c.party)
  own_none y (begins a b d) z = d (v.none c.party)

  own_kept : (y : Party) → Own m c.kind (party m c.party) y → Nz y.owned → (i : ℕ) → get_or y.reports i 0 ≡ standing (e ∷ h) y.owned i
  own_kept y (keeps a b d) z i = same_kept c.party y a (d other) z i
  own_kept y (loses a d) z i = zero_nz a z
  own_kept y (begins a b d) z i = rw (still y.owned i, d (v.none c.party), a, standing_unseen h (suc m.lasttx) i unseen) (none_kept i)

  pub votes_other : Votes (λ q. party r.monitor q) (event_of c r ∷ h)
  unfolding e
  votes_other = record {
    none = λ q. test (same q c.party)
        (λ y. let i : q ≡ c.party = same_true _ _ y in rw i (own_none (party r.monitor c.party) k.own))
        (λ y. same_none q (party r.monitor q) (k.others q y).owned' (k.others q y).reports');
    kept = λ q. test (same q c.party)
        (λ y. let i : q ≡ c.party = same_true _ _ y in rw i (own_kept (party r.monitor c.party) k.own))
        (λ y. same_kept q (party r.monitor q) (k.others q y).owned' (k.others q y).reports');
    known = known_more e h (known_kind e is_other) v.known;
  }

-- ---- kind 22
module _ (m : Monitor) (h : List Event) (c : Call) (f : Fine m) (b : c.party < 16) (v : Votes (λ q. party m q) h)
    (unique : Nz (party m c.party).owned → (q : ℕ) → (party m q).owned ≡ (party m c.party).owned → q ≡ c.party) where
  -- refused
  votes_no : (code : ℤ) → same_code (pos 0) code ≡ false → Votes (λ q. party m q) (event_of c (ruled m code) ∷ h)
  votes_no code n = votes_refused (event_of c (ruled m code)) (unfold accepted answered_by event_of answered_to in n) v

  -- accepted
  module _ (kind : c.kind ≡ 22) (has : Nz (party m c.party).owned) (is : is_report c.a c.b c.c ≡ true) where
    x : Party
    x = reporting (party m c.party) c.a (report_number c.b c.c)

    m' : Monitor
    m' = with_party m c.party x

    e' : Event
    e' = event_of c (valued m' 0)

    here : party m' c.party ≡ x
    unfolding m'
    here = party_same m f.frame.shape c.party b x

    there : (q : ℕ) → same q c.party ≡ false → party m' q ≡ party m q
    unfolding m'
    there q y = party_other m f.frame.shape c.party b x q y

    -- it ends in the caller's own transaction
    ends : e'.answer.tx ≡ (party m c.party).owned
    ends = answered ∙ own
      where
        answered : e'.answer.tx ≡ tx_of m' c.party
        answered = unfold e' event_of answered_to in refl

        owned-x : x.owned ≡ (party m c.party).owned
        owned-x = unfold x in refl

        has-x : eqb x.owned 0 ≡ false
        has-x = unfold same x in has

        own : tx_of m' c.party ≡ (party m c.party).owned
        own = unfold tx_of in rw here (pick_false _ _ _ has-x ∙ owned-x)

    reports_here : (i : ℕ) → reports_on (party m c.party).owned i e' ≡ eqb c.a i
    unfolding reports_on ends_in
    reports_here i = rw (kind-22, was, ends, eq-eqb (party m c.party).owned _ refl) called
      where
        kind-22 : of_kind 22 e' ≡ true
        kind-22 = unfold of_kind e' event_of in rw kind

        was : accepted e' ≡ true
        was = unfold accepted answered_by e' event_of answered_to in refl

        called : eqb e'.call.a i ≡ eqb c.a i
        called = unfold e' event_of in refl

    four : length (party m c.party).reports ≡ 4
    four = reports_four _ (reports_good_lem (party m c.party) (f.choices c.party))

    -- the manager that reported, and the others
    caller_kept : (i : ℕ) → get_or x.reports i 0 ≡ standing (e' ∷ h) (party m c.party).owned i
    unfolding x standing
    caller_kept i = test (eqb c.a i)
        (λ y. let j : c.a ≡ i = eqb-true _ _ y in rw (reports_here i, y)
        (ap (λ n. get_or (set (party m c.party).reports c.a (report_number c.b c.c)) n 0) (sym j)
        ∙ get_or-set_same (party m c.party).reports c.a _ 0 in-range ∙ said))
        (λ y. rw (reports_here i, y)
        (get_or-set_other (party m c.party).reports c.a i _ 0 (λ j. eqb-false _ _ y (sym j)) ∙ v.kept c.party has i))
      where
        in-range : c.a < length (party m c.party).reports
        in-range = let l = leb-true c.a 3 (and_l _ _ is) in let n = four in omega arith

        said : report_number c.b c.c ≡ report_number e'.call.b e'.call.c
        said = unfold e' event_of in refl

    knows : is_strange e' ≡ false
    unfolding is_strange
    knows = rw (le-leb e'.call.b 6 (unfold e' event_of in report_b c.a c.b c.c is), and-false (accepted e'), and-false (of_kind 22 e'))

    -- another party's transaction is another
    other_kept : (q : ℕ) → same q c.party ≡ false → Nz (party m q).owned → (i : ℕ) → get_or (party m q).reports i 0 ≡ standing (e' ∷ h) (party m q).owned i
    other_kept q y z i = v.kept q z i ∙ sym (standing_still e' h (party m q).owned i (not_of e' (party m q).owned i apart))
      where
        apart : ends_in (party m q).owned e' ≡ false
        apart = unfold ends_in in rw ends (ne_eqb _ _ (λ j. same_false q c.party y (unique has q (sym j))))

    votes_yes : Votes (λ q. party (with_party m c.party (reporting (party m c.party) c.a (report_number c.b c.c))) q) (event_of c (valued (with_party m c.party (reporting (party m c.party) c.a (report_number c.b c.c))) 0) ∷ h)
    unfolding e' m' x
    votes_yes = record {
      none = λ q. test (same q c.party)
          (λ y. let i : q ≡ c.party = same_true _ _ y in rw (i, here) (λ z. zero_nz z has))
          (λ y. rw (there q y) (v.none q));
      kept = λ q. test (same q c.party)
          (λ y. let i : q ≡ c.party = same_true _ _ y in rw (i, here) (λ _. caller_kept))
          (λ y. rw (there q y) (other_kept q y));
      known = known_more e' h knows v.known;
    }

  pub votes_report : c.kind ≡ 22 → Votes (λ q. party (report_of m c.party c.a c.b c.c).monitor q) (event_of c (report_of m c.party c.a c.b c.c) ∷ h)
  unfolding report_of
  votes_report kind = by_test (λ (r : Ruled). Votes (λ q. party r.monitor q) (event_of c r ∷ h))
      (λ o. by_test (λ (r : Ruled). Votes (λ q. party r.monitor q) (event_of c r ∷ h))
      (λ is. votes_yes kind (is_owner_owns m c.party o) is)
      (λ _. votes_no bad_report refl))
      (λ _. votes_no not_allowed_now refl)
