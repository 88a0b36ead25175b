-- What this crate's proofs name: definitions and lemmas, of this crate and of those below.
pub use Rattle.std.specs.Prelude.{List, take, ℕ, ◌≡◌}
pub use Rattle.script.specs.Scripts.{Scenario}
pub use Rattle.runs.specs.{Faults.of_reading, Reading.IsUnread, Reading.Reads, declared.fault.ReportFault.ReportFault, declared.fault.ReportFault.TheVariants.Memory, declared.fault.ReportFault.TheVariants.Schedule, declared.fault.ReportFault.TheVariants.Script, declared.fault.ReportFault.TheVariants.Trace, declared.reading.RunFault.RunFault}
pub use Rattle.explanations.specs.{Explained.Unexplained, Explained.UnexplainedRun, ReportLists.findings_in}
