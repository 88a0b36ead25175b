-- What this crate's proofs name: definitions and lemmas, of this crate and of those below.
pub use Rattle.std.{proofs.Common.add-one, proofs.Common.ap, proofs.Common.append-nil, proofs.Common.rules, proofs.Common.subst, proofs.Common.sym, proofs.Common.◌∙◌, proofs.lemmas.Simd.map-map, specs.Prelude.List, specs.Prelude.[], specs.Prelude.false, specs.Prelude.length, specs.Prelude.map, specs.Prelude.refl, specs.Prelude.string_bytes, specs.Prelude.take, specs.Prelude.true, specs.Prelude.ℕ, specs.Prelude.◌++◌, specs.Prelude.◌+◌, specs.Prelude.◌∷◌, specs.Prelude.◌≡◌}
pub use Rattle.places.specs.{View.Exact, View.NamesOnce, declared.value.Change.Change}
pub use Rattle.scenario.specs.{declared.event.Event.Event, declared.setup.Setup.Setup}
pub use Rattle.machine.specs.{Runs.moment, Whole.view, declared.whole.Machine.Machine}
pub use Rattle.script.specs.EventTexts.{event_text}
pub use Rattle.runs.specs.Moments.{IsAfter}
pub use Rattle.run_log.specs.{Lines.change_text, Lines.rows, Listings.IsListing, Ranges.has, declared.changed.Changed.Changed, declared.range.EventRange.EventRange}
pub use Rattle.timeline_values.specs.{Openings.HasOpened, Values.change_shown, Values.change_texts}
pub use Rattle.timeline.specs.{Steps.AreSteps, Steps.IsStep, Steps.StepsIf, Steps.shown_line, declared.parts.StepPart.StepPart}
