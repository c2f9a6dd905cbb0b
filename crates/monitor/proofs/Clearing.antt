-- A record is made fresh: all zero, and then the parties one after the other.
-- Assumes nothing.
use Rattle.std.proofs.Common.{ℕ, suc, ◌+◌, ◌<◌, ◌≡◌, refl, ap, sym, ◌∙◌, List, ◌++◌, arith, length, get_or, set, replicate}
use Rattle.std.proofs.lemmas.List.{get_or-replicate}
use Rattle.std.proofs.Math.Seq.{paste, paste-suc}
use Rattle.rules.specs.declared.Party.{Party}
use Rattle.rules.specs.declared.Monitor.{Monitor}
use Rattle.rules.specs.Record.{fresh_party, fresh_monitor, with_parties, with_party}
use Rattle.monitor.specs.Words.{words}
use Rattle.monitor.specs.View.{link_at, links_from, view}
use Rattle.monitor.proofs.Laws.{end_party}

-- the parties before p are fresh
abbrev pub cleared_to : Monitor → ℕ → Monitor
cleared_to m p = with_parties m (paste m.parties 0 (replicate 16 fresh_party) p)

pub cleared_more : (m : Monitor) (p : ℕ) (x : Party) → length m.parties ≡ 16 → p < 16 → x ≡ fresh_party → with_party (cleared_to m p) p x ≡ cleared_to m (p + 1)
cleared_more m p x n h e =
    let fs = replicate 16 fresh_party in
    let ps = paste m.parties 0 fs p in
    let fresh : x ≡ get_or fs p fresh_party = e ∙ sym (get_or-replicate 16 p fresh_party fresh_party h) in
    let at : p ≡ 0 + p = omega arith in
    let next : suc p ≡ p + 1 = omega arith in
    ap (with_parties m)
    (ap (set ps p) fresh
    ∙ ap (λ (j : ℕ). set ps j (get_or fs p fresh_party)) at
    ∙ paste-suc m.parties 0 fs p fresh_party (omega arith) h
    ∙ ap (paste m.parties 0 fs) next)

pub cleared_all : (xs : List ℕ) → cleared_to (view xs) 16 ≡ with_parties (view xs) (replicate 16 fresh_party)
cleared_all xs = ap (λ (ps : List Party). with_parties (view xs) (replicate 16 fresh_party ++ ps)) (end_party xs 16 (omega arith))

-- with the parties fresh, all zero is fresh
pub zeros_fresh : with_parties (view (replicate words 0)) (replicate 16 fresh_party) ≡ fresh_monitor
unfolding link_at links_from
zeros_fresh = refl
