-- The walk over kind 22: a manager's report.
-- Assumes nothing.
use Rattle.std.proofs.Common.{◌≡◌, refl, sym, true, ℕ, ◌≤◌, ◌<◌, leb, leb-true}
use Rattle.rules.specs.Codes.{not_allowed_now, bad_report}
use Rattle.rules.specs.Record.{party, reporting, with_party, valued}
use Rattle.rules.specs.Sound.{choices_good}
use Rattle.rules.specs.Votes.{report_number, is_report, report_of}
use Rattle.rules.specs.declared.Call.{Call}
use Rattle.rules.specs.declared.Monitor.{Monitor}
use Rattle.rules.specs.declared.Party.{Party}
use Rattle.rules.proofs.Logic.{not_both, and_l, and_r}
use Rattle.rules.proofs.Fine.{Fine}
use Rattle.rules.proofs.Parties.{reports_good_lem}
use Rattle.rules.proofs.Votes.{report_small, reports_set}
use Rattle.rules.proofs.History.Walk.Moved.{Moved}
use Rattle.rules.proofs.History.Walk.Says.{time_kept}
use Rattle.rules.proofs.History.Walk.Base.{ask_moved, refused, moved_quiet}

-- b of a report that is one
pub report_b : (a b c : ℕ) → is_report a b c ≡ true → b ≤ 6
report_b a b c h = leb-true b 6 (and_l _ _ (and_r (leb a 3) _ h))

reporting_good : (x : Party) (a b c : ℕ) → b ≤ 6 → choices_good x ≡ true → choices_good (reporting x a (report_number b c)) ≡ true
reporting_good x a b c h g =
    let i = and_r (leb x.opened 1) _ g in
    let j = and_r (leb x.control 1) _ i in
    rw (and_l (leb x.opened 1) _ g, and_l (leb x.control 1) _ i, and_l (leb x.rollbackonly 1) _ j)
    (reports_set x.reports a (report_number b c) (report_small b c h) (reports_good_lem x g))

pub report_moved : (m : Monitor) (c : Call) → Fine m → c.party < 16 → c.kind ≡ 22 → Moved m c (report_of m c.party c.a c.b c.c)
unfolding report_of
report_moved m c f b e = let x = reporting (party m c.party) c.a (report_number c.b c.c) in
    ask_moved (λ _. ask_moved
    (λ h. moved_quiet m c 0 x 22 f b e refl (record {
      good = reporting_good (party m c.party) c.a c.b c.c (report_b c.a c.b c.c h);
      owned' = refl;
      deadline' = refl;
      mark' = refl;
      served' = refl;
      reports' = λ n. not_both (rw e) n;
      rights' = (refl, refl);
      time' = sym (time_kept c (valued (with_party m c.party x) 0) _ 22 e refl);
      opened' = λ o n. o n;
    }))
    (λ _. refused bad_report refl f))
    (λ _. refused not_allowed_now refl f)
