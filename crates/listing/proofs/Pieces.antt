-- Laws of a piece that is run and listed.
-- Assumes nothing.
use Rattle.std.proofs.Common.{drop, ◌++◌, ℕ, ◌+◌, ◌*◌, ◌/◌, ◌≤◌, ◌<◌, ◌≡◌, ap, sym, ◌∙◌, subst, Bool, List, arith, le-leb, leb-true, ℤ, length, length-append}
use Rattle.std.proofs.lemmas.Bool.{lt-leb}
use Rattle.std.proofs.Math.Seq.{sets-eq}
use Rattle.rules.specs.Codes.{too_little_room}
use Rattle.rules.specs.declared.Monitor.{Monitor}
use Rattle.monitor.specs.File.{Passed, piece_of}
use Rattle.rules.proofs.Logic.{pick_true, pick_false, by_test}
use Rattle.monitor.proofs.Calls.{piece_few}
use Rattle.listing.specs.Text.{Puts, lines_of, refusal_line}
use Rattle.listing.specs.Piece.{text_of, Shown, shown, listing, text_room, listed_of}
use Rattle.listing.proofs.Digits.{lines_short, refusal_short}

pub text_short : (p : Passed) → length (text_of p) ≤ p.calls * 132 + 22
text_short p =
    omega (arith, length-append (lines_of p.calls p.places) (refusal_line p.code), lines_short p.calls p.places, refusal_short p.code)

pub few_calls : (m : Monitor) (input : List ℕ) (last : Bool) (answers : List ℤ) {p : Passed} → p ≡ piece_of m input last answers → p.calls ≤ length answers / 6
few_calls m input last answers e = subst (λ (p : Passed). p.calls ≤ length answers / 6) (sym e) (piece_few m input last answers)

module _ (m : Monitor) (input : List ℕ) (last : Bool) (answers : List ℤ) (out : List ℕ) where
  pub listed_little : length out < text_room answers → shown m 0 0 too_little_room answers out ≡ listed_of m input last answers out
  unfolding listed_of
  listed_little h = sym (pick_false _ _ _ (lt-leb (text_room answers) (length out) h))

  pub listed_enough : text_room answers ≤ length out → (p : Passed) → p ≡ piece_of m input last answers
      → (after : List ℕ) (written : ℕ) → Puts out 0 (text_of p) after written
      → shown p.monitor p.used written p.code p.places after ≡ listed_of m input last answers out
  unfolding listed_of
  listed_enough h p same after written puts =
      let fits : 0 + length (text_of p) ≤ length out = omega (arith, text_short p, few_calls m input last answers same) in
      let none : 0 + length (text_of p) ≡ length (text_of p) = omega arith in
      ap (λ (w : ℕ). shown p.monitor p.used w p.code p.places after) (puts.ends ∙ none)
      ∙ ap (shown p.monitor p.used (length (text_of p)) p.code p.places)
      (puts.makes ∙ sets-eq (text_of p) out 0 fits ∙ ap (λ (n : ℕ). text_of p ++ drop n out) none)
      ∙ ap (λ (q : Passed). listing q out) same
      ∙ sym (pick_true _ _ _ (le-leb (text_room answers) (length out) h))

  -- the text is within its buffer
  pub listed_fits : (listed_of m input last answers out).written ≤ length out
  unfolding listed_of
  listed_fits =
      by_test (λ (s : Shown). s.written ≤ length out)
      (λ e. omega (arith, leb-true (text_room answers) (length out) e, text_short (piece_of m input last answers), piece_few m input last answers))
      (λ _. omega arith)

  pub written_fits : (s : Shown) → s ≡ listed_of m input last answers out → s.written ≤ length out
  written_fits s e = subst (λ (t : Shown). t.written ≤ length out) (sym e) listed_fits
