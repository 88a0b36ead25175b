-- What this crate's definitions and contracts name of the crates below, and its own types.
pub use Rattle.std.specs.{Option.option_map_or, Prelude.Option, Prelude.Some, Prelude.length, Prelude.ℕ}
pub use Rattle.entries.specs.declared.row.{Phase.Phase, Phase.TheVariants.Ended, Phase.TheVariants.Issued, Phase.TheVariants.Queued, Row.Row}
pub use Rattle.places.specs.{Lists.updated, declared.place.Place.Place, declared.place.Place.TheVariants.Request, declared.value.Change.Change, declared.value.Value.TheVariants.Number, declared.value.Value.Value}
pub use Rattle.ring_words.specs.Rings.{waiting}
pub use Rattle.overflow.specs.Backlogs.{kept}
pub use Rattle.sqpoll.specs.Pollers.{is_awake}
pub use Rattle.links_drains.specs.Phases.{is_ended, is_issued}
pub use Rattle.scenario.specs.{Setups.setup_refusal, declared.event.Event.Event, declared.setup.Setup.Setup}
pub use Rattle.machine.specs.{Runs.Accepts, Runs.moment, Runs.start, Whole.WellFormed, Whole.view, declared.whole.Machine.Machine}
pub use Rattle.occupancy.specs.declared.{filling.Filling.Filling, following.Followed.Followed, occupancy.Occupancy.Occupancy, stamps.Stamps.Stamps, thread_stages.ThreadStages.ThreadStages}
