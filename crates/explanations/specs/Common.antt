-- What this crate's definitions and contracts name of the crates below, and its own types.
pub use Rattle.std.specs.{List.list_any, Prelude.List, Prelude.map}
pub use Rattle.scenario.specs.{Setups.setup_refusal, declared.event.Event.Event, declared.setup.Setup.Setup}
pub use Rattle.machine.specs.Runs.{Accepts, IsRefused, start}
pub use Rattle.script.specs.Scripts.{Scenario}
pub use Rattle.runs.specs.{Reading.IsUnread, Reading.Reads, declared.fault.ReportFault.ReportFault, declared.fault.ReportFault.TheVariants.Memory, declared.fault.ReportFault.TheVariants.Schedule, declared.fault.ReportFault.TheVariants.Script, declared.fault.ReportFault.TheVariants.Trace, declared.fault.ReportFault.TheVariants.Write}
pub use Rattle.finding_kinds.specs.{Kinds.is_fault, Orders.have_one_name, declared.finding.Finding.Finding, declared.kind.Kind.Kind}
pub use Rattle.findings.specs.Findings.{IsReportOf}
pub use Rattle.explanations.specs.declared.reporting.Report.{Report}
