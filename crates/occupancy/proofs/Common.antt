-- What this crate's proofs name: definitions and lemmas, of this crate and of those below.
pub use Rattle.std.{proofs.Common.add-one, proofs.Common.ap, proofs.Common.append_assoc, proofs.Common.arith, proofs.Common.eq-eqb, proofs.Common.inl, proofs.Common.inr, proofs.Common.le_refl, proofs.Common.length-append, proofs.Common.rules, proofs.Common.subst, proofs.Common.sym, proofs.Common.◌∙◌, proofs.lemmas.Bool.Decides.nat_tests, proofs.lemmas.Bool.eqb-true, proofs.lemmas.List.Sums.count_by-le-length, proofs.lemmas.List.Sums.length-filter, proofs.lemmas.List.length-map, proofs.lemmas.List.replicate-append-replicate, proofs.lemmas.List.take_all, proofs.lemmas.Option.same_Some, proofs.lemmas.Option.slice_get-get_or, proofs.lemmas.Option.slice_get_within, specs.Option.option_map_or, specs.Prelude.Bool, specs.Prelude.List, specs.Prelude.None, specs.Prelude.Option, specs.Prelude.Some, specs.Prelude.[], specs.Prelude.cond, specs.Prelude.false, specs.Prelude.get_or, specs.Prelude.is_some, specs.Prelude.length, specs.Prelude.map, specs.Prelude.min, specs.Prelude.nat_le, specs.Prelude.option_map, specs.Prelude.refl, specs.Prelude.replicate, specs.Prelude.slice_get, specs.Prelude.slice_set, specs.Prelude.suc, specs.Prelude.take, specs.Prelude.true, specs.Prelude.zero, specs.Prelude.ℕ, specs.Prelude.◌&&◌, specs.Prelude.◌++◌, specs.Prelude.◌+◌, specs.Prelude.◌-◌, specs.Prelude.◌<◌, specs.Prelude.◌==◌, specs.Prelude.◌∷◌, specs.Prelude.◌≡◌, specs.Prelude.◌≤◌, specs.Prelude.◌⊎◌}
pub use Rattle.entries.specs.declared.row.{Phase.Phase, Phase.TheVariants.Ended, Phase.TheVariants.Issued, Phase.TheVariants.Queued, Row.Row}
pub use Rattle.places.{proofs.ListLemmas.length-updated, proofs.ListLemmas.slice_get-push, proofs.ListLemmas.slice_get_none, proofs.ListLemmas.updated_set, proofs.SamePlace.same_place_is, proofs.SamePlace.same_place_self, specs.Lists.updated, specs.Places.same_place, specs.View.Exact, specs.declared.place.Place.Place, specs.declared.place.Place.TheVariants.Request, specs.declared.value.Change.Change, specs.declared.value.Value.TheVariants.Completed, specs.declared.value.Value.TheVariants.Requested, specs.declared.value.Value.Value}
pub use Rattle.links_drains.{proofs.Batching.take_more, specs.Phases.is_ended, specs.Phases.is_issued}
pub use Rattle.scenario.specs.{Setups.has_programs, Setups.setup_refusal, declared.event.Event.Event, declared.setup.Setup.Setup}
pub use Rattle.machine.{proofs.Growing.grows_after, proofs.StartLemmas.accepted, specs.Runs.moment, specs.Runs.start, specs.Threads.ThreadState, specs.Threads.program_of, specs.Threads.thread_start, specs.Whole.Grows, specs.Whole.WellFormed, specs.Whole.view, specs.declared.whole.Machine.Machine}
pub use Rattle.runs.specs.Moments.{IsAfter, IsAt}
pub use Rattle.occupancy.specs.{Fillings.filling_of, Occupancies.AreFilled, Occupancies.AreStamped, Occupancies.AreThreadStages, Occupancies.Follows, Occupancies.HasFollowed, Occupancies.IsFirst, Occupancies.IsStamped, Occupancies.any_phase, Occupancies.has_row, Stamping.first_moment, Stamping.new_stamps, Stamping.stamp_as, Stamping.stamp_changes, Stamping.stamp_place, Stamping.stamp_row, Stamping.stamped, Stamping.stamps_after, declared.filling.Filling.Filling, declared.occupancy.Occupancy.Occupancy, declared.stamps.Stamps.Stamps, declared.thread_stages.ThreadStages.ThreadStages}
unfoldable pub use Rattle.places.specs.View.{named}
