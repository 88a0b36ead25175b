-- What this crate's proofs name: definitions and lemmas, of this crate and of those below.
pub use Rattle.std.{proofs.Common.ap, proofs.Common.arith, proofs.Common.rules, proofs.Common.subst, specs.Prelude.List, specs.Prelude.length, specs.Prelude.map, specs.Prelude.min, specs.Prelude.replicate, specs.Prelude.take, specs.Prelude.ℕ, specs.Prelude.◌++◌, specs.Prelude.◌+◌, specs.Prelude.◌≡◌}
pub use Rattle.scenario.specs.{declared.event.Event.Event, declared.setup.Setup.Setup}
pub use Rattle.machine.specs.{Runs.moment, Runs.start, Whole.view, declared.whole.Machine.Machine}
pub use Rattle.runs.specs.Moments.{IsAt}
pub use Rattle.run_log.specs.{Lines.rows, declared.range.EventRange.EventRange}
pub use Rattle.timeline_values.specs.{Openings.HasOpened, Values.AreValues, Values.bytes_below, Values.change_shown, Values.change_texts, Values.value_texts, Values.values_of, declared.values.Values.Values}
