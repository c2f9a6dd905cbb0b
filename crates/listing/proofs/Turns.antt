-- Laws of a turn of the drill program.
-- Assumes nothing.
use Rattle.std.proofs.Common.{◌&&◌, ℕ, zero, suc, ◌-◌, ◌≤◌, ◌<◌, min, ◌≡◌, refl, ap, sym, ◌∙◌, subst, ⊎_elim, Bool, true, false, List, arith, eqb, leb, ℤ, pos, negsuc, length, take, drop, length-take, length-drop, length-take-le}
use Rattle.std.proofs.lemmas.List.{take_min}
use Rattle.rules.specs.Choice.{pick}
use Rattle.rules.specs.declared.Monitor.{Monitor}
use Rattle.rules.proofs.Logic.{by_test, not_both}
use Rattle.rules.specs.Codes.{too_little_room}
use Rattle.monitor.specs.File.{piece_of}
use Rattle.monitor.specs.Pieces.{is_refused, is_over}
use Rattle.monitor.proofs.Pieces.{piece_moves}
use Rattle.listing.specs.Piece.{Shown, shown, listing, text_room, listed_of}
use Rattle.listing.proofs.Pieces.{listed_fits}
use Rattle.listing.specs.Turn.{Turned, turned, at_front, leaving, turned_of}

-- ---- is the file over

pub over_refused : (ended : Bool) (code : ℤ) (left : ℕ) → (code ≡ pos 0 → ⊥) → true ≡ is_over ended code left
unfolding is_over is_refused pick
over_refused ended (pos zero) left h = absurd (h refl)
over_refused ended (pos (suc n)) left h = refl
over_refused ended (negsuc n) left h = refl

pub over_open : (ended : Bool) (code : ℤ) (left : ℕ) → code ≡ pos 0 → ended && eqb left 0 ≡ is_over ended code left
unfolding is_over is_refused pick
over_open true code left e = ap (λ (z : ℤ). is_over true z left) (sym e)
over_open false code left e = ap (λ (z : ℤ). is_over false z left) (sym e)

-- ---- the turn

-- the piece that the bytes in hand make was run and listed, what it leaves was moved, and the end was looked for
module _ (m : Monitor) (input : List ℕ) (count held : ℕ) (ended : Bool) (answers : List ℤ) (out : List ℕ) (h : held ≡ min count (length input)) where
  held_within : held ≤ length input
  held_within = omega arith

  pub turn_is : (s : Shown) → s ≡ listed_of m (take held input) ended answers out
      → (kept : ℕ) → kept ≡ held - s.used → (after : List ℕ) → after ≡ at_front (drop s.used (take held input)) input
      → (over : Bool) → over ≡ is_over ended s.code kept
      → turned s.monitor kept s.written over after s.places s.text ≡ turned_of m input count ended answers out
  unfolding turned_of
  turn_is s e kept k after f over g =
      let bytes : List ℕ = take held input in
      let whole : length bytes ≡ held = length-take-le held input held_within in
      let long : kept ≡ length (drop s.used bytes) = k ∙ sym (length-drop s.used bytes ∙ omega arith) in
      (λ i. turned s.monitor (long i) s.written ((g ∙ ap (is_over ended s.code) long) i) (f i) s.places s.text)
      ∙ ap (λ (x : Shown). leaving ended input x (drop x.used bytes)) e
      ∙ ap (λ (l : List ℕ). leaving ended input (listed_of m l ended answers out) (drop (listed_of m l ended answers out).used l))
      (ap (λ (n : ℕ). take n input) h ∙ take_min count input)

-- the text is within its buffer
pub turn_fits : (m : Monitor) (input : List ℕ) (count : ℕ) (ended : Bool) (answers : List ℤ) (out : List ℕ) (t : Turned)
    → t ≡ turned_of m input count ended answers out
    → t.written ≤ length out
unfolding turned_of
turn_fits m input count ended answers out t e = subst (λ (x : Turned). x.written ≤ length out) (sym e) (listed_fits m (take count input) ended answers out)

-- ---- what is kept

module _ (m : Monitor) (input : List ℕ) (count : ℕ) (ended : Bool) (answers : List ℤ) (out : List ℕ)
    (places : 6 ≤ length answers) (large : 30 < length input) where
  RoomLeft : Shown → Type 0
  RoomLeft s = is_over ended s.code (length (drop s.used (take count input))) ≡ false → length (drop s.used (take count input)) < length input

  listed_leaves_room : RoomLeft (listed_of m (take count input) ended answers out)
  unfolding RoomLeft listed_of is_over is_refused pick
  listed_leaves_room =
      by_test RoomLeft {b = leb (text_room answers) (length out)}
      {x = listing (piece_of m (take count input) ended answers) out} {y = shown m 0 0 too_little_room answers out}
      (λ _ on.
      ⊎_elim (λ k. omega (arith, length-take count input)) (λ k. omega (arith, k.1))
      (piece_moves m (take count input) ended answers places on))
      (λ _ on. not_both refl on)

  -- Where the file is not over there is room in the input's buffer behind what is kept, so that a read which gives nothing has met the input's end.
  pub turn_leaves_room : (t : Turned) → t ≡ turned_of m input count ended answers out → t.over ≡ false → t.kept < length input
  unfolding RoomLeft turned_of
  turn_leaves_room t e on =
      subst (λ (x : Turned). x.kept < length input) (sym e) (listed_leaves_room (ap (λ (x : Turned). x.over) (sym e) ∙ on))
