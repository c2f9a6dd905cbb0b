-- Laws of the rights: who advertises, requests or connects had the right, and who lacks it is told so; only party 0 changes one,
-- and nothing else with it; a fall keeps them.
-- Assumes nothing.
use Rattle.std.proofs.Common.{◌≡◌, refl, sym, ◌∙◌, Bool, true, false, ℕ, ◌<◌, arith, eqb, ltb, leb, ℤ}
use Rattle.std.proofs.Common.{length, set, length-set, get_or-set_same, eqb-true, leb-true, le-leb, rules}
use Rattle.rules.specs.Choice.{pick}
use Rattle.rules.specs.Codes.{tp_accepted, bad_argument, not_permitted, unsound, unknown_kind, unknown_party}
use Rattle.rules.specs.Record.{fresh_party, party, with_rights, with_clock, with_party, ask}
use Rattle.rules.specs.Services.{may_request, may_advertise, advertise_of}
use Rattle.rules.specs.Requests.{ask_link, request_of, connect_of}
use Rattle.rules.specs.Return.{after_death, died_out, terminate_of}
use Rattle.rules.specs.Rights.{set_of, party_of, granted, rights_of, needs_right, has_right, SameRights, OnlyRights}
use Rattle.rules.specs.Refusals.{is_refusal}
use Rattle.rules.specs.Sound.{sound}
use Rattle.rules.specs.Step.{rule_of, is_kind, advanced, answered_to, turned_down, call_of, step_of}
use Rattle.rules.specs.declared.Call.{Call}
use Rattle.rules.specs.declared.Monitor.{Monitor}
use Rattle.rules.specs.declared.Party.{Party}
use Rattle.rules.specs.declared.Ruled.{Ruled}
use Rattle.rules.specs.declared.Stepped.{Stepped}
use Rattle.rules.proofs.Logic.{by_test, test, not_both}
use Rattle.rules.proofs.Fine.{Shape}
use Rattle.rules.proofs.History.Walk.Base.{rights_self, own_set, own_all}
use Rattle.rules.proofs.History.Walk.Rights.{party_small}
use Rattle.rules.proofs.Kept.{SoundRecord, rule_kept}

-- ---- an accepted call had every question answered yes
no_refusal : {X : Type 0} (code : ℤ) → is_refusal code ≡ true → code ≡ tp_accepted → X
unfolding is_refusal
no_refusal code r e = not_both (rw e at r) refl

yes : (m : Monitor) (question : Bool) (code : ℤ) (rest : Ruled) → is_refusal code ≡ true → (ask m question code rest).code ≡ tp_accepted → question ≡ true
unfolding pick
yes m true code rest r e = refl
yes m false code rest r e = no_refusal code r e

goes_on : (m : Monitor) (question : Bool) (code : ℤ) (rest : Ruled) → is_refusal code ≡ true → (ask m question code rest).code ≡ tp_accepted → rest.code ≡ tp_accepted
unfolding pick
goes_on m true code rest r e = e
goes_on m false code rest r e = no_refusal code r e

module _ (m : Monitor) (p a : ℕ) where
  advertise_right : (advertise_of m p a).code ≡ tp_accepted → may_advertise a (party m p) ≡ true
  unfolding advertise_of is_refusal
  advertise_right e = yes m _ not_permitted _ refl (goes_on m _ bad_argument _ refl e)

  link_right : (t : ℕ) (rest : Ruled) → (ask_link m p t a rest).code ≡ tp_accepted → may_request a (party m p) ≡ true
  unfolding ask_link is_refusal
  link_right t rest e = yes m _ not_permitted _ refl e

  module _ (b c : ℕ) where
    request_right : (request_of m p a b c).code ≡ tp_accepted → may_request a (party m p) ≡ true
    unfolding request_of is_refusal
    request_right e = link_right _ _ (goes_on m _ bad_argument _ refl e)

    connect_right : (connect_of m p a b c).code ≡ tp_accepted → may_request a (party m p) ≡ true
    unfolding connect_of is_refusal
    connect_right e = link_right _ _ (goes_on m _ bad_argument _ refl e)

    rule_right : (k : ℕ) → needs_right k ≡ true → (rule_of m p k a b c).code ≡ tp_accepted → has_right (party m p) k a ≡ true
    unfolding rule_of pick has_right
    rule_right k h e = test (eqb k 10) (λ y. let i = eqb-true k 10 y in rw i (advertise_right (rw i at e))) λ n10.
        test (eqb k 12) (λ y. let i = eqb-true k 12 y in rw i (request_right (rw i at e))) λ n12.
        test (eqb k 13) (λ y. let i = eqb-true k 13 y in rw i (connect_right (rw i at e))) λ n13.
        not_both h (rw (n10, n12, n13))

-- an accepted advertise, request or connect had the right, by the record before it: of every record
pub accepted_had_right : (m : Monitor) (c : Call) → needs_right c.kind ≡ true → (step_of m c).answer.code ≡ tp_accepted
    → has_right (party m c.party) c.kind c.a ≡ true
unfolding step_of call_of answered_to turned_down is_refusal
accepted_had_right m c k = by_test HadRight
    (λ _. by_test HadRight
    (λ _. by_test HadRight
    (λ _. rule_right (advanced m c.clock) c.party c.a c.b c.c c.kind k)
    (λ _. no_refusal unknown_party refl))
    (λ _. no_refusal unknown_kind refl))
    (λ _. no_refusal unsound refl)
  where
    HadRight : Stepped → Type 0
    HadRight s = s.answer.code ≡ tp_accepted → has_right (party m c.party) c.kind c.a ≡ true

-- ---- without the right
lacks : (m : Monitor) (good right : Bool) (rest : Ruled) → right ≡ false → ((ask m good bad_argument (ask m right not_permitted rest)).code ≡ bad_argument → ⊥)
    → (ask m good bad_argument (ask m right not_permitted rest)).code ≡ not_permitted
unfolding pick
lacks m true true rest e n = not_both refl e
lacks m true false rest e n = refl
lacks m false right rest e n = absurd (n refl)

module _ (m : Monitor) (p a : ℕ) where
  advertise_lacks : may_advertise a (party m p) ≡ false → ((advertise_of m p a).code ≡ bad_argument → ⊥) → (advertise_of m p a).code ≡ not_permitted
  unfolding advertise_of
  advertise_lacks e n = lacks m _ _ _ e n

  module _ (b c : ℕ) where
    request_lacks : may_request a (party m p) ≡ false → ((request_of m p a b c).code ≡ bad_argument → ⊥) → (request_of m p a b c).code ≡ not_permitted
    unfolding request_of ask_link
    request_lacks e n = lacks m _ _ _ e n

    connect_lacks : may_request a (party m p) ≡ false → ((connect_of m p a b c).code ≡ bad_argument → ⊥) → (connect_of m p a b c).code ≡ not_permitted
    unfolding connect_of ask_link
    connect_lacks e n = lacks m _ _ _ e n

    rule_lacks : (k : ℕ) → needs_right k ≡ true → has_right (party m p) k a ≡ false → ((rule_of m p k a b c).code ≡ bad_argument → ⊥)
        → (rule_of m p k a b c).code ≡ not_permitted
    unfolding rule_of pick has_right
    rule_lacks k h e n = test (eqb k 10) (λ y. let i = eqb-true k 10 y in rw i (advertise_lacks (rw i at e) (rw i at n))) λ n10.
        test (eqb k 12) (λ y. let i = eqb-true k 12 y in rw i (request_lacks (rw i at e) (rw i at n))) λ n12.
        test (eqb k 13) (λ y. let i = eqb-true k 13 y in rw i (connect_lacks (rw i at e) (rw i at n))) λ n13.
        not_both h (rw (n10, n12, n13))

needs_known : (k : ℕ) → needs_right k ≡ true → is_kind k ≡ true
needs_known k h = search rules

-- without the right such a call is answered 35, whatever else stands against it, but for 22: of a sound record and a party of 0 to 15
pub lacking_not_permitted : (m : Monitor) (c : Call) → sound m ≡ true → c.party < 16 → needs_right c.kind ≡ true
    → has_right (party m c.party) c.kind c.a ≡ false → ((step_of m c).answer.code ≡ bad_argument → ⊥) → (step_of m c).answer.code ≡ not_permitted
unfolding step_of call_of answered_to
lacking_not_permitted m c s p k lacking = by_test Lacking
    (λ _. by_test Lacking
    (λ _. by_test Lacking
    (λ _. rule_lacks (advanced m c.clock) c.party c.a c.b c.c c.kind k lacking)
    (λ n. not_both (le-leb c.party 15 (omega arith)) n))
    (λ n. not_both (needs_known c.kind k) n))
    (λ n. not_both s n)
  where
    Lacking : Stepped → Type 0
    Lacking t = (t.answer.code ≡ bad_argument → ⊥) → t.answer.code ≡ not_permitted

-- ---- what kind 23 changes
only_clock : (m : Monitor) (t : ℕ) → OnlyRights m (with_clock m t)
only_clock m t = search rules

granted_only : (x : Party) (a s : ℕ) → granted x a s ≡ with_rights x (granted x a s).mayrequest (granted x a s).mayadvertise
unfolding granted
granted_only x a s = by_test (λ (y : Party). y ≡ with_rights x y.mayrequest y.mayadvertise) (λ _. refl) (λ _. refl)

rights_only : (m : Monitor) → Shape m → (t p a b c : ℕ) → OnlyRights m (rights_of (with_clock m t) p a b c).monitor
unfolding rights_of
rights_only m sh t p a b c = by_test Only (λ _. by_test Only replaced (λ _. only_clock m t)) (λ _. only_clock m t)
  where
    Only : Ruled → Type 0
    Only r = OnlyRights m r.monitor

    replaced : ltb a 32 ≡ true → OnlyRights m (with_party (with_clock m t) (party_of a) (granted (party m (party_of a)) a (set_of b c)))
    replaced h =
        let x = granted (party m (party_of a)) a (set_of b c) in
        let own = own_set m (with_party (with_clock m t) (party_of a) x) (party_of a) x sh (party_small a h) refl in
        record {
          lastlink' = refl;
          lasttx' = refl;
          links' = refl;
          count' = refl;
          parties' = own_all (λ q y. y ≡ with_rights (party m q) y.mayrequest y.mayadvertise) own (granted_only (party m (party_of a)) a (set_of b c)) (λ _. refl);
        }

-- ---- what a call keeps, of records with the declared lengths
module _ (m : Monitor) (sh : Shape m) (c : Call) where
  -- what holds of an unchanged record and of the rule's holds of the call's
  by_call : (P : Monitor → Type 0) → P m
      → (sound m ≡ true → is_kind c.kind ≡ true → c.party < 16 → P (rule_of (advanced m c.clock) c.party c.kind c.a c.b c.c).monitor)
      → P (step_of m c).monitor
  unfolding step_of call_of answered_to turned_down
  by_call P same f = by_test (λ (t : Stepped). P t.monitor)
      (λ s. by_test (λ (t : Stepped). P t.monitor)
      (λ k. by_test (λ (t : Stepped). P t.monitor) (λ p. f s k (let l = leb-true c.party 15 p in omega arith)) (λ _. same))
      (λ _. same))
      (λ _. same)

  abbrev Keeps : Monitor → Type 0
  Keeps m' = (q : ℕ) → SameRights (party m q) (party m' q)

  -- every call of another kind than 23 keeps every party's rights
  pub other_kinds_keep_rights : eqb c.kind 23 ≡ false → (q : ℕ) → SameRights (party m q) (party (step_of m c).monitor q)
  other_kinds_keep_rights n = by_call Keeps (λ q. rights_self (party m q)) (λ s k p. (rule_kept m (record { shape = sh; is_sound = s }) c k p).rights n)

  -- whoever is not party 0 changes no right
  pub others_keep_rights : eqb c.party 0 ≡ false → (q : ℕ) → SameRights (party m q) (party (step_of m c).monitor q)
  unfolding rule_of rights_of pick
  others_keep_rights n = test (eqb c.kind 23)
      (λ y. let i = eqb-true c.kind 23 y in by_call Keeps (λ q. rights_self (party m q)) (λ _ _ _ q. rw (i, n) (rights_self (party m q))))
      other_kinds_keep_rights

  -- "A link or offer already made lives on when rights shrink": kind 23 changes nothing but rights
  pub links_and_offers_live_on : c.kind ≡ 23 → OnlyRights m (step_of m c).monitor
  unfolding rule_of pick
  links_and_offers_live_on k = by_call (OnlyRights m) (only_clock m m.clock) (λ _ _ _. rw k (rights_only m sh _ c.party c.a c.b c.c))

-- "Fall does not reset the sets": the party is fresh but for them
pub fall_keeps_rights : (m : Monitor) → SoundRecord m → (c : Call) → c.kind ≡ 21 → c.party < 16
    → party (step_of m c).monitor c.party ≡ with_rights fresh_party (party m c.party).mayrequest (party m c.party).mayadvertise
unfolding step_of call_of answered_to rule_of terminate_of pick
fall_keeps_rights m s c k p =
    let small : leb c.party 15 ≡ true = le-leb c.party 15 (omega arith) in
    let m₀ = advanced m c.clock in
    let sixteen : length (set (died_out m₀ c.party).parties c.party (after_death (party m c.party))) ≡ 16
    = rw k at (rule_kept m s c (rw k) p).frame.shape.parties16 in
    rw (s.is_sound, k, small)
    (get_or-set_same (died_out m₀ c.party).parties c.party _ fresh_party (rw (sym (length-set (died_out m₀ c.party).parties c.party _) ∙ sixteen) p))
