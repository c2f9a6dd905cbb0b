-- The walk over kind 23: a party's set of services is replaced.
-- Assumes nothing.
use Rattle.std.proofs.Common.{◌≡◌, refl, true, ℕ, ◌<◌, arith, ltb, ltb-true, rules}
use Rattle.rules.specs.Codes.{bad_argument, not_permitted}
use Rattle.rules.specs.Record.{party, with_rights}
use Rattle.rules.specs.Sound.{choices_good}
use Rattle.rules.specs.Rights.{set_of, party_of, granted, rights_of}
use Rattle.rules.specs.declared.Call.{Call}
use Rattle.rules.specs.declared.Monitor.{Monitor}
use Rattle.rules.specs.declared.Party.{Party}
use Rattle.rules.proofs.Logic.{by_test, not_both}
use Rattle.rules.proofs.Fine.{Fine}
use Rattle.rules.proofs.History.Walk.Moved.{Stays, Moved}
use Rattle.rules.proofs.History.Walk.Base.{ask_moved, refused, moved_party}

rights_stay : (x : Party) (r a : ℕ) → Stays x (with_rights x r a)
rights_stay x r a = search rules

granted_stays : (x : Party) (a s : ℕ) → Stays x (granted x a s)
unfolding granted
granted_stays x a s = by_test (Stays x) (λ _. rights_stay x _ _) (λ _. rights_stay x _ _)

granted_mark : (x : Party) (a s : ℕ) → (granted x a s).rollbackonly ≡ x.rollbackonly
unfolding granted
granted_mark x a s = by_test (λ (y : Party). y.rollbackonly ≡ x.rollbackonly) (λ _. refl) (λ _. refl)

granted_good : (x : Party) (a s : ℕ) → choices_good x ≡ true → choices_good (granted x a s) ≡ true
unfolding granted
granted_good x a s g = by_test (λ (y : Party). choices_good y ≡ true) (λ _. g) (λ _. g)

pub party_small : (a : ℕ) → ltb a 32 ≡ true → party_of a < 16
party_small a h = let l = ltb-true a 32 h in omega arith

pub rights_moved : (m : Monitor) (c : Call) → Fine m → c.kind ≡ 23 → Moved m c (rights_of m c.party c.a c.b c.c)
unfolding rights_of
rights_moved m c f e = let x = party m (party_of c.a) in let s = set_of c.b c.c in
    ask_moved (λ _. ask_moved
    (λ h. moved_party m c 0 (party_of c.a) (granted x c.a s) 23 f (party_small c.a h) e refl refl
    (granted_stays x c.a s) (λ n. not_both (rw e) n) (granted_mark x c.a s) (granted_good x c.a s))
    (λ _. refused bad_argument refl f))
    (λ _. refused not_permitted refl f)
