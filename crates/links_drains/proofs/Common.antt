-- The names that the proofs of this crate cite most, passed on from one place. Declares nothing.
pub use Rattle.std.proofs.Common.{arith, ◌≡◌, ◌∙◌, ap, sym, length, refl, ℕ, List, ◌+◌, ◌≤◌, true, ◌<◌, false, [], ◌∷◌, take, Bool, ◌++◌, zero, suc, cond, ◌-◌, inl, ℤ, get_or, subst, inr, ◌⊎◌, drop, ◌≢◌, map, not, set, ◌*◌, ◌/◌, length-append, w32, FitsSigned, rules, min, ◌^◌, max, ◌%◌, append_assoc, replicate, pos, slice_index_or, below_more}
pub use Rattle.std.{proofs.lemmas.Bool.cases_lt, proofs.lemmas.Bool.and_left, proofs.lemmas.Bool.eqb-true, proofs.lemmas.Bool.ne_eqb, proofs.lemmas.Bool.eq-eqb, proofs.lemmas.Bool.cases_Bool, proofs.lemmas.Bool.cases_eq, proofs.lemmas.Bool.and_from, proofs.lemmas.Bool.and_parts, proofs.lemmas.Bool.or_from, proofs.lemmas.Bool.or_left, proofs.lemmas.Bool.or_right, proofs.lemmas.Bool.ltb-true, proofs.lemmas.Bool.both_ways, proofs.lemmas.Bool.lt-ltb, proofs.lemmas.Bool.or_cases, proofs.lemmas.Bool.and_right, proofs.lemmas.Bool.Decides.nat_tests, proofs.lemmas.Grind.common_steps, proofs.lemmas.Int.to_z-of_z, proofs.lemmas.List.take_all, proofs.lemmas.List.length-set, proofs.lemmas.List.get_or_read, proofs.lemmas.List.length-take, proofs.lemmas.List.length-take-le, proofs.lemmas.List.append-nil, proofs.lemmas.List.map-append, proofs.lemmas.List.length-map, proofs.lemmas.List.take-append-drop, proofs.lemmas.List.get_or-set_same, proofs.lemmas.List.get_or-set_other, proofs.lemmas.List.get_or-drop, proofs.lemmas.List.length-drop, proofs.lemmas.List.length-replicate, proofs.lemmas.List.Folds.list_any-append, proofs.lemmas.List.FromFn.length-enumerate_from, proofs.lemmas.List.Sums.length-filter, proofs.lemmas.List.Sums.count_by-le-length, proofs.lemmas.List.Sums.prefix_len_is, proofs.lemmas.Option.slice_get_within, proofs.lemmas.Option.slice_get_read, proofs.lemmas.Option.slice_get-map, proofs.lemmas.Option.slice_get_past, proofs.lemmas.Option.gets, proofs.lemmas.Option.slice_get-get_or, proofs.lemmas.Option.get_or_from_slice_get, specs.List.enumerate_from, specs.List.filter, specs.List.list_any, specs.List.cons_option, specs.List.prefix_len, specs.Option.option_map_or, specs.Option.option_and_then, specs.Prelude.Some, specs.Prelude.slice_get, specs.Prelude.None, specs.Prelude.option_map, specs.Prelude.Option, specs.Prelude.◌&&◌, specs.Prelude.slice_set, specs.Prelude.◌==◌, specs.Prelude.◌||◌, specs.Prelude.is_some, specs.Prelude.nat_lt, specs.Prelude.MatchBool, specs.Prelude.is_none, specs.Prelude.if◌then◌else◌, specs.Result.result_err}
pub use Rattle.bit_sets.specs.{Sets.has, Sets.IsNext, Sets.NoneFrom, Thresholds.never, Thresholds.threshold_at, Thresholds.IsNextReached, Thresholds.NoneReachedFrom}
pub use Rattle.entries.specs.declared.{entry.Sqe.Sqe, row.Phase.Phase, row.Phase.TheVariants.Ended, row.Phase.TheVariants.Queued, row.Phase.TheVariants.Issued, row.Row.Row}
pub use Rattle.links_drains.specs.{Batches.rows_of, Batches.direct_result, Batches.chain_of, Batches.error_at, Batches.row_of, Batches.error_of, Batches.errors_of, Batches.direct_of, Batches.previous_in, Batches.target_of, Batches.taken_of, Batches.halts, Batches.shown_on, Batches.error_in, Batches.Submitted, Batches.chain_fails, Counts.has_count, Counts.threshold_in, Counts.threshold_of, Counts.is_met, Counts.IsNextMet, Counts.NoneMetFrom, Eligible.drains, Eligible.waits_for, Eligible.is_eligible, Eligible.GuardsFollow, Endings.endings_from, Endings.result_in, Endings.paired, Endings.Direct, Endings.Ending, Endings.endings, Endings.ended_by, Endings.ecanceled, Endings.given, Endings.or_else, Finders.Findable, Finders.NoHolder, Finders.HasPlace, Finders.IsMarked, Finders.NoUser, Finders.hash_of, Finders.holds_now, Finders.mark_of, Finders.row_hash, Holding.holders_of, Holding.holds, Holding.is_held_by, Holding.Tallied, Holding.is_number, Indexes.Indexed, Indexes.Forgotten, Indexes.HasRoom, Indexes.IndexedBut, Indexes.Cleared, Indexes.Unreached, Links.Chained, Links.has_drain_flag, Links.ChainContinues, Links.is_linked, Links.is_guard, Links.has_flag, Numbered.IsNextWhere, Numbered.NoneWhere, Numbered.map_numbered, Numbered.next_where, Phases.is_unfinished, Phases.is_queued, Phases.is_issued, Phases.is_ended, Phases.counts, Phases.counted_of, Phases.ended_of, Queued.is_queued_row, Queued.IsNextQueued, Queued.NoneQueuedFrom, Rows.table_seen, Rows.table_owns, Rows.fixed_of, Rows.Stay, Rows.new_row, Units.is_open, Units.is_issued_row, Units.passes_at, Units.is_barrier, Units.HasRowOf, Units.HasNoRowOf, Units.is_rest, Units.rest_of, Units.is_under_way, Units.IsNextIssued, Units.NoneIssuedFrom, declared.index.Index.Index}
pub use Rattle.model_files.specs.{Holders.holders, Holders.is_held, Holders.is_descriptor_number, Worlds.WorldState}
pub use Rattle.places.{proofs.Keeping.keeps_noted, proofs.Keeping.keeps_then, proofs.Keeping.keeps_unchanged, proofs.ListLemmas.slice_get-set, proofs.ListLemmas.slice_get-take_below, proofs.ListLemmas.slice_get-take_above, proofs.ListLemmas.updated_set, proofs.ListLemmas.slice_get-set_same, proofs.ListLemmas.slice_get-push, proofs.ListLemmas.same_list, proofs.ListLemmas.slice_get-take, proofs.ListLemmas.field_same, proofs.ListLemmas.map_same, specs.Lists.updated, specs.Notes.Notes, specs.View.Keeps, specs.View.put_at, specs.View.named, specs.declared.place.Place.Place, specs.declared.place.Place.TheVariants.Request, specs.declared.value.Value.TheVariants.Requested}
