-- Laws of texts that are put into a buffer one behind the other.
-- Assumes nothing.
use Rattle.std.proofs.Common.{ℕ, ◌+◌, List, [], ◌∷◌, ◌++◌, set, refl, ap, ◌∙◌, length-append, arith}
use Rattle.std.proofs.lemmas.List.Edits.{sets}
use Rattle.number.proofs.Successive.{sets_after}
use Rattle.listing.specs.Text.{Puts}

pub puts_none : (l : List ℕ) (i : ℕ) → Puts l i [] l i
puts_none l i = record { ends = omega arith; makes = refl }

-- a text behind the text
pub puts_then : {l m n t u : List ℕ} {i j k : ℕ} → Puts l i t m j → Puts m j u n k → Puts l i (t ++ u) n k
puts_then {l} {m} {n} {t} {u} {i} {j} {k} p q =
    record {
      ends = omega (arith, p.ends, q.ends, length-append t u);
      makes = q.makes ∙ ap (λ (x : List ℕ). sets x j u) p.makes ∙ sets_after l i t u j p.ends;
    }

-- a byte behind the text
pub puts_byte : {l m t : List ℕ} {i j : ℕ} → Puts l i t m j → (b : ℕ) → Puts l i (t ++ (b ∷ [])) (set m j b) (j + 1)
puts_byte p b = puts_then p (record { ends = refl; makes = refl })
