-- Laws of the three sequences: what stands at which place of one, and that this makes it one.
-- Assumes nothing.
use Rattle.std.proofs.Common.{◌≡◌, ◌≢◌, ◌≤◌, ℕ, ◌⊎◌, inl, inr, List, [], ◌∷◌, length, get_or, refl, arith}
use Rattle.rules.specs.Choice.{pick}
use Rattle.rules.proofs.Logic.{by_test}
use Rattle.wire.specs.Sequences.{with_reply_in_tx, sequence_of, request, IsSequenceOf}
use Rattle.wire.specs.declared.sequence.Request.{Request}

-- all but service and token of a sequence of seven
pub record Seven (v : List ℕ) : Type 0 where
  pub long : length v ≡ 7
  pub first : get_or v 0 0 ≡ 1
  pub second : get_or v 1 0 ≡ 1
  pub third : get_or v 2 0 ≡ 2
  pub fourth : get_or v 3 0 ≡ 3
  pub end : get_or v 6 0 ≡ 4

-- all but service and token of a sequence of six, with its last number
pub record Six (v : List ℕ) (last : ℕ) : Type 0 where
  pub long : length v ≡ 6
  pub first : get_or v 0 0 ≡ 1
  pub second : get_or v 1 0 ≡ 0
  pub third : get_or v 2 0 ≡ 3
  pub end : get_or v 5 0 ≡ last

seven_whole : (v : List ℕ) → Seven v → v ≡ with_reply_in_tx (get_or v 4 0) (get_or v 5 0)
seven_whole [] h = absurd (omega (arith, h.long))
seven_whole (a ∷ []) h = absurd (omega (arith, h.long))
seven_whole (a ∷ b ∷ []) h = absurd (omega (arith, h.long))
seven_whole (a ∷ b ∷ c ∷ []) h = absurd (omega (arith, h.long))
seven_whole (a ∷ b ∷ c ∷ d ∷ []) h = absurd (omega (arith, h.long))
seven_whole (a ∷ b ∷ c ∷ d ∷ e ∷ []) h = absurd (omega (arith, h.long))
seven_whole (a ∷ b ∷ c ∷ d ∷ e ∷ f ∷ []) h = absurd (omega (arith, h.long))
seven_whole (a ∷ b ∷ c ∷ d ∷ e ∷ f ∷ g ∷ []) h = cc
seven_whole (a ∷ b ∷ c ∷ d ∷ e ∷ f ∷ g ∷ i ∷ rest) h = absurd (omega (arith, h.long))

six_whole : (v : List ℕ) (last : ℕ) → Six v last → v ≡ 1 ∷ 0 ∷ 3 ∷ get_or v 3 0 ∷ get_or v 4 0 ∷ last ∷ []
six_whole [] last h = absurd (omega (arith, h.long))
six_whole (a ∷ []) last h = absurd (omega (arith, h.long))
six_whole (a ∷ b ∷ []) last h = absurd (omega (arith, h.long))
six_whole (a ∷ b ∷ c ∷ []) last h = absurd (omega (arith, h.long))
six_whole (a ∷ b ∷ c ∷ d ∷ []) last h = absurd (omega (arith, h.long))
six_whole (a ∷ b ∷ c ∷ d ∷ e ∷ []) last h = absurd (omega (arith, h.long))
six_whole (a ∷ b ∷ c ∷ d ∷ e ∷ f ∷ []) last h = cc
six_whole (a ∷ b ∷ c ∷ d ∷ e ∷ f ∷ g ∷ rest) last h = absurd (omega (arith, h.long))

-- numbers of one of the shapes are a request's
pub seven_own : (v : List ℕ) → Seven v → IsSequenceOf (request (get_or v 4 0) (get_or v 5 0) 1 1) v
unfolding sequence_of pick
seven_own v h = record { same = seven_whole v h; flags = refl }

pub replied_own : (v : List ℕ) → Six v 4 → IsSequenceOf (request (get_or v 3 0) (get_or v 4 0) 1 0) v
unfolding sequence_of pick
replied_own v h = record { same = six_whole v 4 h; flags = refl }

pub unreplied_own : (v : List ℕ) → Six v 5 → IsSequenceOf (request (get_or v 3 0) (get_or v 4 0) 0 0) v
unfolding sequence_of pick
unreplied_own v h = record { same = six_whole v 5 h; flags = refl }

-- a sequence has one of the three shapes
shaped : (r : Request) → Seven (sequence_of r) ⊎ (Six (sequence_of r) 4 ⊎ Six (sequence_of r) 5)
unfolding sequence_of
shaped r =
    by_test (λ (v : List ℕ). Seven v ⊎ (Six v 4 ⊎ Six v 5))
    (λ _. by_test (λ (v : List ℕ). Seven v ⊎ (Six v 4 ⊎ Six v 5))
    (λ _. inl (record { long = refl; first = refl; second = refl; third = refl; fourth = refl; end = refl }))
    (λ _. inr (inl (record { long = refl; first = refl; second = refl; third = refl; end = refl }))))
    (λ _. inr (inr (record { long = refl; first = refl; second = refl; third = refl; end = refl })))

pub shapeless : (v : List ℕ) → (Seven v → ⊥) → (Six v 4 → ⊥) → (Six v 5 → ⊥) → (r : Request) → v ≢ sequence_of r
shapeless v seven replied unreplied r e =
    elim (shaped r) [ inl h ↦ seven (rw e h) | inr k ↦ elim k [ inl h ↦ replied (rw e h) | inr h ↦ unreplied (rw e h) ] ]

pub at_most_seven : (r : Request) → length (sequence_of r) ≤ 7
at_most_seven r = elim (shaped r) [ inl h ↦ omega (arith, h.long) | inr k ↦ elim k [ inl h ↦ omega (arith, h.long) | inr h ↦ omega (arith, h.long) ] ]
