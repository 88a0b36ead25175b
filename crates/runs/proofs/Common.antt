-- What this crate's proofs name: definitions and lemmas, of this crate and of those below.
pub use Rattle.std.{proofs.Common.ap, proofs.Common.subst, proofs.Common.sym, proofs.Common.◌∙◌, proofs.lemmas.Option.slice_get-get_or, specs.Prelude.List, specs.Prelude.None, specs.Prelude.Option, specs.Prelude.Some, specs.Prelude.get_or, specs.Prelude.length, specs.Prelude.refl, specs.Prelude.ℕ, specs.Prelude.◌+◌, specs.Prelude.◌<◌, specs.Prelude.◌≡◌}
pub use Rattle.places.specs.{View.Exact, View.LeadsBack, declared.value.Change.Change}
pub use Rattle.scenario.specs.declared.{event.Event.Event, event.Refusal.Refusal, event.Refusal.TheVariants.Memory, setup.Setup.Setup}
pub use Rattle.machine.{specs.Runs.IsRefused, specs.Runs.Link, specs.Runs.start, specs.Steps.Next, specs.Steps.after, specs.Steps.refusal, specs.Whole.WellFormed, specs.Whole.view, specs.declared.whole.Machine.Machine}
pub use Rattle.runs.proofs.Longer.{accepts_more, moment_more}
pub use Rattle.runs.specs.Moments.{IsAfter, IsAt}
