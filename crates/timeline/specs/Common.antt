-- What this crate's definitions and contracts name of the crates below, and its own types.
pub use Rattle.std.specs.{List.ends_with, Str.Lossy.utf8_lossy}
pub use Rattle.places.specs.{View.Exact, View.NamesOnce, declared.value.Change.Change}
pub use Rattle.scenario.specs.{Setups.setup_refusal, declared.event.Event.Event, declared.setup.Setup.Setup}
pub use Rattle.machine.specs.{Runs.Accepts, Runs.IsRefused, Runs.moment, Runs.start, Whole.view}
pub use Rattle.script.specs.{EventTexts.event_text, Scripts.Scenario}
pub use Rattle.runs.specs.{Moments.IsAfter, Moments.IsAt, Reading.IsUnread, Reading.Reads, declared.driving.Ended.Ended, declared.driving.Ended.TheVariants.Refused, declared.driving.Ended.TheVariants.Stopped, declared.fault.ReportFault.ReportFault, declared.fault.ReportFault.TheVariants.Memory, declared.fault.ReportFault.TheVariants.Schedule, declared.fault.ReportFault.TheVariants.Script, declared.fault.ReportFault.TheVariants.Trace, declared.fault.ReportFault.TheVariants.Write}
pub use Rattle.run_log.specs.{Lines.change_text, Lines.rows, Listings.IsListing, Ranges.has, declared.changed.Changed.Changed, declared.range.EventRange.EventRange}
pub use Rattle.findings.specs.{Findings.IsReportOf, Searching.HasSearched}
pub use Rattle.explanations.specs.ReportLists.{findings_in}
pub use Rattle.occupancy.specs.Occupancies.{HasFollowed, IsFollowed}
pub use Rattle.timeline_values.specs.{Openings.HasOpened, Values.change_shown, Values.change_texts}
pub use Rattle.timeline.specs.declared.{drawing.Drawing.Drawing, drawing.Drawing.TheVariants.Bytes, drawing.Drawing.TheVariants.TooLong, drawing.Picture.Picture, drawing.Picture.TheVariants.Page, drawing.Picture.TheVariants.TraceEvents, drawing.Window.Window, observing.Seen.Seen, parts.StepPart.StepPart}
