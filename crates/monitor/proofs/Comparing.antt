-- What a loop reads of a record at a place, and what is left of it there.
-- Assumes nothing.
use Rattle.std.proofs.Common.{ℕ, ◌+◌, ◌≤◌, ◌<◌, ◌≡◌, ap, sym, ◌∙◌, List, ◌∷◌, drop}
use Rattle.rules.specs.declared.Party.{Party}
use Rattle.rules.specs.declared.Link.{Link}
use Rattle.rules.specs.Record.{live, party}
use Rattle.monitor.specs.View.{view, link_in}
use Rattle.monitor.proofs.Laws.{next_live, next_party}

pub link_read : (xs : List ℕ) (i : ℕ) (l : Link) → (view xs).count ≤ 32 → i < (view xs).count → l ≡ link_in (view xs) i
    → drop i (live (view xs)) ≡ l ∷ drop (i + 1) (live (view xs))
link_read xs i l h k e = next_live xs i h k ∙ ap (λ (l : Link). l ∷ drop (i + 1) (live (view xs))) (sym e)

pub party_read : (xs : List ℕ) (p : ℕ) (q : Party) → p < 16 → q ≡ party (view xs) p → drop p (view xs).parties ≡ q ∷ drop (p + 1) (view xs).parties
party_read xs p q h e = next_party xs p h ∙ ap (λ (q : Party). q ∷ drop (p + 1) (view xs).parties) (sym e)
