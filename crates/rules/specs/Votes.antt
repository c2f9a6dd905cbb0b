-- Kind 22: a resource manager's report on the caller's transaction; and how the reports decide a commit.
-- Assumes nothing.
use Rattle.std.specs.Prelude.{ℕ, ◌+◌, List, Bool, not, ◌&&◌, ◌||◌, eqb, leb, ℤ}
use Rattle.rules.specs.Choice.{pick}
use Rattle.rules.specs.Codes.{tx_ok, tx_rollback, tx_mixed, tx_hazard, tx_committed, not_allowed_now, bad_report}
use Rattle.rules.specs.Lists.{any_of}
use Rattle.rules.specs.Record.{party, reporting, with_party, valued, ask}
use Rattle.rules.specs.Transaction.{is_owner}
use Rattle.rules.specs.declared.Ruled.{Ruled}
use Rattle.rules.specs.declared.Monitor.{Monitor}

-- ---- a report as the record keeps it: 0 none, 1 + b, or 8 + b where the manager can't start a new transaction
unfoldable pub report_number : ℕ → ℕ → ℕ
report_number b c = pick (eqb c 1) (8 + b) (1 + b)

-- is it a report of b
unfoldable pub report_is : ℕ → ℕ → Bool
report_is b r = eqb r (1 + b) || eqb r (8 + b)

-- "prepared, read-only, veto, or heuristic (committed, rolled back, mixed, hazard)", "b 0 to 6 in that order"
abbrev pub is_prepared : ℕ → Bool
is_prepared r = report_is 0 r

abbrev pub is_veto : ℕ → Bool
is_veto r = report_is 2 r

abbrev pub is_committed : ℕ → Bool
is_committed r = report_is 3 r

abbrev pub is_rolled_back : ℕ → Bool
is_rolled_back r = report_is 4 r

abbrev pub is_mixed : ℕ → Bool
is_mixed r = report_is 5 r

abbrev pub is_hazard : ℕ → Bool
is_hazard r = report_is 6 r

-- "whether it can start a new transaction"
abbrev pub cant_start : ℕ → Bool
cant_start r = leb 8 r

-- ---- 22 report
-- "A manager not 0 to 3, or an unknown b or c, is 34, after 23."
abbrev pub is_report : ℕ → ℕ → ℕ → Bool
is_report a b c = leb a 3 && (leb b 6 && leb c 1)

-- 22 report a, b, c: "made by the owner about its T (else 23): a the manager, b 0 to 6 in that order, c = 1 if it can't
-- start, else 0"
unfoldable pub report_of : Monitor → ℕ → ℕ → ℕ → ℕ → Ruled
report_of m p a b c =
    ask m (is_owner m p) not_allowed_now
    (ask m (is_report a b c) bad_report
    (valued (with_party m p (reporting (party m p) a (report_number b c))) 0))

-- ---- commit
-- "The decision is commit when document 01's conditions hold and none vetoed, else rollback."
unfoldable pub decides : Bool → List ℕ → Bool
decides can rs = can && not (any_of is_veto rs)

-- "A heuristic counts as it says, prepared as the decision, a veto as rolled back; read-only and unreported managers don't
-- count.": does one count as committed, and does one as rolled back, by the decision
unfoldable pub some_committed : Bool → List ℕ → Bool
some_committed decision rs = any_of is_committed rs || (decision && any_of is_prepared rs)

unfoldable pub some_rolled_back : Bool → List ℕ → Bool
some_rolled_back decision rs = any_of is_rolled_back rs || (any_of is_veto rs || (not decision && any_of is_prepared rs))

-- "Any mixed, or both committed and rolled back, gives −3. Else any hazard gives −4. Else all committed gives 0 after a commit
-- decision and −9, here for commit too, after a rollback one; all rolled back gives −2. If none counts, the decision gives 0
-- or −2.": by the decision, and whether a manager is mixed, is a hazard, counts as committed, counts as rolled back
unfoldable pub vote_code : Bool → Bool → Bool → Bool → Bool → ℤ
vote_code decision mixed hazard committed back =
    pick (mixed || (committed && back)) tx_mixed
    (pick hazard tx_hazard
    (pick committed (pick decision tx_ok tx_committed)
    (pick back tx_rollback
    (pick decision tx_ok tx_rollback))))

unfoldable pub code_after : Bool → List ℕ → ℤ
code_after decision rs = vote_code decision (any_of is_mixed rs) (any_of is_hazard rs) (some_committed decision rs) (some_rolled_back decision rs)

-- the code of a commit: do document 01's conditions hold, and what the managers reported
unfoldable pub commit_code : Bool → List ℕ → ℤ
commit_code can rs = code_after (decides can rs) rs

-- can all managers start a new transaction
unfoldable pub all_can_start : List ℕ → Bool
all_can_start rs = not (any_of cant_start rs)
