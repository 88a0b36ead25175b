-- The names that the proofs of this crate cite most, passed on from one place. Declares nothing.
pub use Rattle.std.proofs.Common.{◌≡◌, ◌∙◌, ap, List, ℕ, ◌+◌, arith, sym, [], ◌∷◌, ◌≤◌, true, ◌-◌, length, ◌++◌, false, cond, refl, ℤ, Bool, ◌<◌, subst, zero, suc, pos, take, w32, FitsSigned, rules, ◌⊎◌, slice_index_or, not}
pub use Rattle.std.{proofs.lemmas.Bool.eqb-true, proofs.lemmas.Bool.eq-eqb, proofs.lemmas.Bool.and_left, proofs.lemmas.Int.to_z-of_z, proofs.lemmas.List.append-nil, proofs.lemmas.List.take_all, proofs.lemmas.List.length-append, proofs.lemmas.List.map-append, proofs.lemmas.Option.slice_get_within, proofs.lemmas.Option.slice_get-get_or, specs.List.cons_option, specs.List.filter, specs.List.list_any, specs.List.enumerate_from, specs.Option.option_map_or, specs.Option.option_and_then, specs.Prelude.Some, specs.Prelude.slice_get, specs.Prelude.None, specs.Prelude.Option, specs.Prelude.◌&&◌, specs.Prelude.◌==◌, specs.Prelude.◌||◌, specs.Prelude.is_some, specs.Prelude.IfSome, specs.Prelude.IfOk, specs.Prelude.IfNone}
pub use Rattle.entries.specs.declared.row.Row.{Row}
pub use Rattle.links_drains.{proofs.Batching.take_more, proofs.Listing.result_of, proofs.Listing.alike, proofs.Listing.listed_at, proofs.Listing.endings_step, proofs.Rising.ends_at, proofs.Rising.rising, specs.Endings.Ending, specs.Endings.result_in, specs.Endings.Direct, specs.Endings.paired, specs.Endings.ecanceled, specs.Endings.given, specs.Endings.endings, specs.Endings.or_else, specs.Endings.endings_from, specs.Endings.is_listed, specs.Links.is_guard, specs.Links.is_soft_linked, specs.Links.Chained, specs.Phases.is_unfinished, specs.Phases.counts}
pub use Rattle.timeouts_cancel.specs.{Cascades.joined, Cascades.counted_in, Cascades.is_severed, Cascades.is_bad, Cascades.is_met, Cascades.with_met, Cascades.fall_of, Cascades.guards_listed, Cascades.severs_by, Cascades.with_severed, Cascades.with_guards, Cascades.GuardsFormed, Cascades.IsWhole, Cascades.is_count_timeout, Cascades.GuardsAreLinked, Guarding.guarding, Guarding.Guarded, Guarding.guards_row, Matches.Passed, Matches.is_match, Matches.FoundPast, Matches.is_waiting_match, Matches.matches_of, Matches.found_by, Matches.found_first, Matches.waiting_by, Matches.IsNextMatch, Matches.NoMatchFrom, Matches.user_of, Matches.IsMatch, Matches.NoMatch, Merges.Splits, Merges.Merged, Merges.Rises, Merges.IsLeast, Timers.met_rows, Walks.upto, Walks.Severs, Walks.Walked, Walks.severed_endings, Walks.result_by, Walks.Sweeping, Walks.own_endings, Walks.SweepsOn, declared.matching.Key.Key}
