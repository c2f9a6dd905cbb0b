-- What the proofs of this crate name, passed on.
-- Assumes nothing.
pub use Rattle.std.proofs.Common.{ℕ, suc, ◌+◌, ◌-◌, ◌*◌, ◌%◌, ◌≤◌, ◌<◌, ◌≡◌, refl, ap, ap₂, sym, ◌∙◌, List, [], ◌∷◌, ◌++◌, Bool, true, false}
pub use Rattle.std.proofs.Common.{◌&&◌, ◌||◌, arith, rules, ne_eqb, le-leb, eqb, ltb, leb, length, take, drop, get_or, set, ℤ, w64, to_z, of_z}
pub use Rattle.std.proofs.lemmas.Bool.{lt-leb}
pub use Rattle.rules.specs.declared.Party.{Party}
pub use Rattle.rules.specs.declared.Link.{Link}
pub use Rattle.rules.specs.declared.Monitor.{Monitor}
pub use Rattle.rules.specs.declared.Stepped.{Stepped}
unfoldable pub use Rattle.rules.specs.Choice.{pick, same}
pub use Rattle.rules.specs.Record.{fresh_party, fresh_link, is_attached}
pub use Rattle.rules.specs.Record.{party, live, with_contents}
pub use Rattle.rules.specs.Record.{with_last_link, with_parties}
pub use Rattle.rules.specs.Record.{with_party, with_count, replaced}
unfoldable pub use Rattle.rules.specs.Transaction.{rollback_only_in}
unfoldable pub use Rattle.rules.specs.Transaction.{is_open_of}
unfoldable pub use Rattle.rules.specs.States.{next_of}
unfoldable pub use Rattle.rules.specs.Tx.{control_of}
unfoldable pub use Rattle.rules.specs.Votes.{report_is, report_of}
pub use Rattle.rules.specs.Sound.{link_good}
unfoldable pub use Rattle.rules.specs.Sound.{links_good, parties_good, sound}
unfoldable pub use Rattle.rules.specs.Step.{call_of}
unfoldable pub use Rattle.rules.specs.Run.{places_of, ran_of, answers_of, list_of}
unfoldable pub use Rattle.rules.specs.Equal.{same_party, same_link, all_same}
pub use Rattle.monitor.specs.Words.{words}
pub use Rattle.monitor.specs.View.{view, link_in, ruled_by, stepped}
unfoldable pub use Rattle.monitor.specs.View.{link_at, party_at}
pub use Rattle.rules.proofs.Logic.{pick_true, pick_false}
pub use Rattle.monitor.proofs.Laws.{links_long, parties_long, link_law, party_law, end_live}
pub use Rattle.monitor.proofs.Laws.{end_party}
pub use Rattle.monitor.proofs.Search.{found_link, found_party, found_none, link_there}
