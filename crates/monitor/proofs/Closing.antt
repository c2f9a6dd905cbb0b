-- A party's own links close: another's marks no transaction.
-- Assumes nothing.
use Rattle.std.proofs.Common.{ℕ, suc, ◌≡◌, refl, ap, sym, ◌∙◌, Bool, false, ◌&&◌, List, [], ◌∷◌, drop}
use Rattle.rules.specs.declared.Link.{Link}
use Rattle.rules.specs.declared.Party.{Party}
use Rattle.rules.specs.Lists.{first_of}
use Rattle.rules.specs.Record.{is_conversation, own_end}
use Rattle.rules.specs.Conversations.{originator_end}
use Rattle.rules.specs.Return.{rollback_only_by}
use Rattle.rules.proofs.Logic.{pick_true, pick_false, test, and_false}

not_own : (p : ℕ) (l : Link) → own_end p l ≡ false → originator_end p l ≡ false
unfolding originator_end
not_own p l other = ap (λ (b : Bool). is_conversation l && b) other ∙ and_false (is_conversation l)

-- the links from the first of its own on mark what all of them would
pub none_marked : (p : ℕ) (l : List Link) (ps : List Party) → rollback_only_by p (drop (first_of (own_end p) l) l) ps ≡ rollback_only_by p l ps
unfolding first_of rollback_only_by
none_marked p [] ps = refl
none_marked p (x ∷ l) ps = test (own_end p x)
    (λ e. ap (λ (k : ℕ). rollback_only_by p (drop k (x ∷ l)) ps) (pick_true (own_end p x) 0 (suc (first_of (own_end p) l)) e))
    (λ e. ap (λ (k : ℕ). rollback_only_by p (drop k (x ∷ l)) ps) (pick_false (own_end p x) 0 (suc (first_of (own_end p) l)) e)
    ∙ none_marked p l ps
    ∙ ap (rollback_only_by p l) (sym (pick_false _ _ _ (not_own p x e))))
