-- What the laws on the managers' reports say: which report is against a commit, when one is committed, and what stands, read off a history.
-- Assumes nothing.
use Rattle.std.specs.Prelude.{ℕ, Bool, false, cond, ◌||◌, List, [], ◌∷◌, eqb, ℤ, pos, negsuc}
use Rattle.rules.specs.History.{Event, same_code, reports_on}
use Rattle.rules.specs.Votes.{report_number, is_veto, is_rolled_back, is_mixed, is_hazard}

-- "veto, rolled back, mixed or hazard"
unfoldable pub is_against : ℕ → Bool
is_against r = is_veto r || (is_rolled_back r || (is_mixed r || is_hazard r))

-- "Committed is code 0 or −100"
abbrev pub is_done : ℤ → Bool
is_done z = same_code (pos 0) z || same_code (negsuc 99) z

-- "standing is each manager's last accepted 22 with an answer ending in T": manager a's on t, as the record keeps it, or 0
unfoldable pub standing : List Event → ℕ → ℕ → ℕ
standing [] t a = 0
standing (e ∷ h) t a = cond (reports_on t a e) (report_number e.call.b e.call.c) (standing h t a)

-- "A manager whose standing report says that it can't start": "c = 1 if it can't start"; is manager a such a one
unfoldable pub stopped : List Event → ℕ → ℕ → Bool
stopped [] t a = false
stopped (e ∷ h) t a = cond (reports_on t a e) (eqb e.call.c 1) (stopped h t a)

-- is one of the four
unfoldable pub some_stopped : List Event → ℕ → Bool
some_stopped h t = stopped h t 0 || (stopped h t 1 || (stopped h t 2 || stopped h t 3))
