-- A call on a sound record leaves a sound one, and its rule leaves room for the links.
-- Assumes nothing.
use Rattle.std.proofs.Common.{ℕ, ◌≤◌, ◌<◌, ◌≡◌, ap, sym, ◌∙◌, List, true, arith, le-leb}
use Rattle.rules.specs.declared.Call.{Call}
use Rattle.rules.specs.declared.Monitor.{Monitor}
use Rattle.rules.specs.declared.Ruled.{Ruled}
use Rattle.rules.specs.declared.Stepped.{Stepped}
use Rattle.rules.specs.Sound.{sound}
use Rattle.rules.specs.Step.{is_kind, advanced, rule_of, answered_to, call_of}
use Rattle.rules.proofs.Logic.{pick_true}
use Rattle.rules.proofs.Kept.{clock_sound_kept, call_sound_kept}
use Rattle.monitor.specs.View.{view}
use Rattle.monitor.proofs.Laws.{view_shape, sound_room}

module _ (xs : List ℕ) (c : Call) where
  -- n is the record with its clock set
  pub clock_sound : {n : Monitor} → n ≡ advanced (view xs) c.clock → sound (view xs) ≡ true → sound n ≡ true
  clock_sound e h = ap (λ (m : Monitor). sound m) e ∙ (clock_sound_kept (view xs) (record { shape = view_shape xs; is_sound = h }) c).is_sound

  pub call_sound : sound (view xs) ≡ true → sound (call_of (view xs) c).monitor ≡ true
  call_sound h = (call_sound_kept (view xs) (record { shape = view_shape xs; is_sound = h }) c).is_sound

  -- the rule's part of a call past question 21: r is what it gives for party p on the record n, whose clock is set
  module _ (known : is_kind c.kind ≡ true) (p : ℕ) (by : p ≡ c.party) (h : p < 16) (n : Monitor) (e : n ≡ advanced (view xs) c.clock)
      (k : ℕ) (g : k ≡ c.kind) (r : Ruled) (f : r ≡ rule_of n p k c.a c.b c.c) where
    pub told_call : answered_to r p ≡ call_of (view xs) c
    unfolding call_of
    told_call =
        ap (λ (x : Ruled). answered_to x p) f
        ∙ (λ z. answered_to (rule_of (e z) (by z) (g z) c.a c.b c.c) (by z))
        ∙ sym (pick_true _ _ _ known ∙ pick_true _ _ _ (le-leb c.party 15 (omega arith)))

    pub rule_room : sound (view xs) ≡ true → r.monitor.count ≤ 32
    unfolding answered_to
    rule_room s = sound_room r.monitor (ap (λ (x : Stepped). sound x.monitor) told_call ∙ call_sound s)
