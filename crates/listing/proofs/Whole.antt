-- The lines of a drill file that is run and listed in pieces are those of the whole file, and its refusal's.
-- Assumes nothing.
use Rattle.std.proofs.Common.{ℕ, zero, suc, ◌*◌, ◌/◌, ◌≤◌, ◌≡◌, refl, ap, sym, ◌∙◌, Bool, true, false, List, [], ◌∷◌, ◌++◌, append_assoc, append-nil, ℤ, pos, negsuc, length, drop, take-append-drop}
use Rattle.rules.specs.Choice.{pick}
use Rattle.rules.specs.declared.Monitor.{Monitor}
use Rattle.rules.proofs.Fine.{Shape}
use Rattle.rules.proofs.Logic.{pick_true, by_test, test, not_both}
use Rattle.monitor.specs.File.{file_calls, Passed, piece_of, file_of}
use Rattle.monitor.specs.Pieces.{said_by, left_by, is_refused, is_over, then_turns, last_turns, turns_of, joined, in_front, together}
use Rattle.monitor.proofs.Pieces.{Roomy, whole_of, pieces_whole, whole_long, whole_file, said_long}
use Rattle.listing.specs.Text.{lines_of, refusal_line}
use Rattle.listing.specs.Piece.{text_of, texts_of}
use Rattle.listing.proofs.Digits.{lines_append, lines_front}

-- ---- turns

-- a turn's lines, and the text of what comes after it
text_in_front : (p q : Passed) → length (said_by p) ≡ p.calls * 6 → text_of (in_front p q) ≡ lines_of p.calls p.places ++ text_of q
text_in_front p q long =
    ap (λ (l : List ℕ). l ++ refusal_line q.code)
    (lines_append p.calls q.calls (said_by p) q.places long
    ∙ ap (λ (l : List ℕ). l ++ lines_of q.calls q.places)
    (sym (lines_front p.calls (said_by p) (drop (p.calls * 6) p.places) long) ∙ ap (lines_of p.calls) (take-append-drop (p.calls * 6) p.places)))
    ∙ append_assoc (lines_of p.calls p.places) (lines_of q.calls q.places) (refusal_line q.code)

no_refusal : (code : ℤ) → is_refused code ≡ false → refusal_line code ≡ []
unfolding is_refused refusal_line
no_refusal (pos zero) h = refl
no_refusal (pos (suc n)) h = not_both refl h
no_refusal (negsuc n) h = not_both refl h

goes_on : (ended : Bool) (code : ℤ) (left : ℕ) → is_over ended code left ≡ false → is_refused code ≡ false
unfolding is_over
goes_on ended code left h = test (is_refused code) (λ r. not_both (pick_true (is_refused code) _ _ r) h) (λ r. r)

module _ (ended : Bool) (bytes : List ℕ) (p : Passed) (long : length (said_by p) ≡ p.calls * 6) (after : Monitor → List ℕ → List Passed)
    (later : is_refused p.code ≡ false
    → texts_of (after p.monitor (left_by p bytes)) ≡ text_of (together p.monitor p.code (after p.monitor (left_by p bytes)))) where
  -- the refusal's line of a turn, and the text of those after it
  Continues : List Passed → Type 0
  Continues ps = refusal_line p.code ++ texts_of ps ≡ text_of (together p.monitor p.code ps)

  rest : List Passed
  rest = pick (is_over ended p.code (length (left_by p bytes))) [] (after p.monitor (left_by p bytes))

  rest_continues : Continues rest
  unfolding Continues rest texts_of together lines_of
  rest_continues =
      by_test Continues {b = is_over ended p.code (length (left_by p bytes))} {x = []} {y = after p.monitor (left_by p bytes)}
      (λ _. append-nil (refusal_line p.code))
      (λ on. let quiet = goes_on ended p.code (length (left_by p bytes)) on in
      ap (λ (l : List ℕ). l ++ texts_of (after p.monitor (left_by p bytes))) (no_refusal p.code quiet) ∙ later quiet)

  -- A turn and those after it make the text of what they give together.
  turn_text : (m₀ : Monitor) (code₀ : ℤ) → texts_of (then_turns ended bytes p after) ≡ text_of (together m₀ code₀ (then_turns ended bytes p after))
  unfolding Continues rest then_turns texts_of together
  turn_text m₀ code₀ =
      append_assoc (lines_of p.calls p.places) (refusal_line p.code) (texts_of rest)
      ∙ ap (λ (l : List ℕ). lines_of p.calls p.places ++ l) rest_continues
      ∙ sym (text_in_front p (together p.monitor p.code rest) long)

last_text : (most : ℕ) (lent : ℕ → List ℤ) (m : Monitor) (bytes : List ℕ) (m₀ : Monitor) (code₀ : ℤ) → is_refused code₀ ≡ false
    → texts_of (last_turns most lent m bytes) ≡ text_of (together m₀ code₀ (last_turns most lent m bytes))
unfolding last_turns texts_of together lines_of
last_text zero lent m bytes m₀ code₀ quiet = sym (no_refusal code₀ quiet)
last_text (suc most) lent m bytes m₀ code₀ quiet =
    let p : Passed = piece_of m bytes true (lent 0) in
    turn_text true bytes p (said_long m bytes true (lent 0)) (last_turns most (λ k. lent (suc k)))
    (last_text most (λ k. lent (suc k)) p.monitor (left_by p bytes) p.monitor p.code) m₀ code₀

turns_text : (chunks : List (List ℕ)) (final : List ℕ) (lent : ℕ → List ℤ) (m : Monitor) (kept : List ℕ) (m₀ : Monitor) (code₀ : ℤ) → is_refused code₀ ≡ false
    → texts_of (turns_of chunks final lent m kept) ≡ text_of (together m₀ code₀ (turns_of chunks final lent m kept))
unfolding turns_of
turns_text [] final lent m kept m₀ code₀ quiet = last_text (suc (length (kept ++ final))) lent m (kept ++ final) m₀ code₀ quiet
turns_text (chunk ∷ chunks) final lent m kept m₀ code₀ quiet =
    let bytes : List ℕ = kept ++ chunk in
    let p : Passed = piece_of m bytes false (lent 0) in
    turn_text false bytes p (said_long m bytes false (lent 0)) (turns_of chunks final (λ k. lent (suc k)))
    (turns_text chunks final (λ k. lent (suc k)) p.monitor (left_by p bytes) p.monitor p.code) m₀ code₀

-- ---- the theorem

-- Whichever way a file is cut, and however many answer places each turn is lent, the text of its turns is that of the whole file.
pub lines_are_the_whole : (m : Monitor) → Shape m → (chunks : List (List ℕ)) (final : List ℕ) (lent : ℕ → List ℤ) → Roomy lent
    → (out : List ℤ) → (file_calls (joined chunks final)).count ≤ length out / 6
    → texts_of (turns_of chunks final lent m []) ≡ text_of (file_of m (joined chunks final) out)
unfolding is_refused
lines_are_the_whole m shape chunks final lent room out h =
    let q : Passed = whole_of m (joined chunks final) in
    turns_text chunks final lent m [] m (pos 0) refl
    ∙ ap text_of (pieces_whole m shape chunks final lent room)
    ∙ ap (λ (l : List ℕ). l ++ refusal_line q.code) (sym (lines_front q.calls q.places (drop (q.calls * 6) out) (whole_long m (joined chunks final))))
    ∙ ap text_of (whole_file m (joined chunks final) out h)
