-- A link's room for unread tokens.
-- Assumes nothing.
use Rattle.std.proofs.Common.{ℕ, ◌≡◌, List, [], ◌∷◌, ◌++◌, arith, length, drop, get_or, drop_of_length-le, drop-cons}
use mir.Val.{Val}
use denote.Laws.{Is}
use denote.Struct.Declared.{row}
use Rattle.rules.specs.contracts.Link.{the_type}
use Rattle.rules.specs.declared.Link.{Link}

-- what owning a link tells: its array is as long as it is declared
pub unread_long : (l : Link) (vs : List Val) → Is (row the_type) l vs → length l.unread ≡ 4
unread_long l vs p = p.1.1.1.1.1.1.1.1.1.1.1.1.1.1.1.1.0.1.0.1

-- four places, each with what stood in the next
pub shifted : (u : List ℕ) → length u ≡ 4 → (get_or u 1 0 ∷ get_or u 2 0 ∷ get_or u 3 0 ∷ 0 ∷ []) ≡ drop 1 u ++ (0 ∷ [])
shifted u n =
    let first : drop 1 u ≡ get_or u 1 0 ∷ drop 2 u = drop-cons u 1 0 (omega arith) in
    let second : drop 2 u ≡ get_or u 2 0 ∷ drop 3 u = drop-cons u 2 0 (omega arith) in
    let third : drop 3 u ≡ get_or u 3 0 ∷ drop 4 u = drop-cons u 3 0 (omega arith) in
    let none : drop 4 u ≡ [] = drop_of_length-le u {i = 4} (omega arith) in
    rw (first, second, third, none)
