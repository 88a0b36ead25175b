-- What this crate's definitions and contracts name of the crates below, and its own types.
pub use Rattle.places.specs.{View.Exact, declared.value.Change.Change}
pub use Rattle.scenario.specs.{Setups.setup_refusal, declared.event.Event.Event, declared.setup.Setup.Setup}
pub use Rattle.machine.specs.{Runs.Accepts, Runs.IsRefused, Runs.Link, Runs.moment, Runs.start, Whole.view, declared.whole.Machine.Machine}
pub use Rattle.script.specs.Scripts.{Reads as ReadsScript, Scenario}
pub use Rattle.traces.specs.{Reading.IsFault2, Setups.IsTrace2}
pub use Rattle.runs.specs.declared.{driving.Ended.Ended, driving.Ended.TheVariants.Refused, driving.Ended.TheVariants.Stopped, fault.ReportFault.ReportFault, fault.ReportFault.TheVariants.Schedule, pair.Either.Either, pair.Either.TheVariants.First, pair.Either.TheVariants.Second, reading.RunFault.RunFault, reading.RunFault.TheVariants.Memory, reading.RunFault.TheVariants.Script, reading.RunFault.TheVariants.Trace, reading.Source.Source}
