-- What this crate's definitions and contracts name of the crates below, and its own types.
pub use Rattle.std.specs.{Io.KnownBytes.Appends, Io.KnownBytes.Keeps, List.Sorted.IsNonDecreasingBy, Option.option_map_or}
pub use Rattle.places.specs.{Places.index_of, Places.kind_of, Places.same_place, Places.second_of, Text.value_text, View.Exact, View.NamesOnce, View.View, declared.place.Place.Place, declared.place.Place.TheVariants.DurableByte, declared.place.Place.TheVariants.FileByte, declared.place.Place.TheVariants.MemoryByte, declared.place.Place.TheVariants.PipeByte, declared.value.Change.Change, declared.value.Value.Value}
pub use Rattle.scenario.specs.{Names.fitting, PlaceTexts.number_of, PlaceTexts.number_text, PlaceTexts.place_text, Setups.setup_refusal, declared.event.Event.Event, declared.setup.Setup.Setup}
pub use Rattle.machine.specs.{Runs.Accepts, Runs.IsRefused, Runs.moment, Runs.start, Steps.after, Whole.view, declared.whole.Machine.Machine}
pub use Rattle.script.specs.{EventTexts.event_text, Scripts.Scenario}
pub use Rattle.whole_files.specs.Writes.{WritesFront}
pub use Rattle.runs.specs.{Faults.of_reading, Reading.IsUnread, Reading.Reads, declared.fault.ReportFault.ReportFault, declared.fault.ReportFault.TheVariants.Memory, declared.fault.ReportFault.TheVariants.Schedule, declared.fault.ReportFault.TheVariants.Script, declared.fault.ReportFault.TheVariants.Trace, declared.fault.ReportFault.TheVariants.Write, declared.reading.RunFault.RunFault}
pub use Rattle.run_log.specs.declared.{changed.Changed.Changed, range.EventRange.EventRange}
