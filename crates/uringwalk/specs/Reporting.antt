-- Faults of reports.
use Rattle.debug_server.specs.declared.faults.Fault.{Fault}
use Rattle.debug_server.specs.declared.faults.Fault.TheVariants.{Run}
use Rattle.debug_server.specs.declared.faults.RunFault.TheVariants as run
use Rattle.debug_server.specs.declared.faults.ServeFault.TheVariants as serve
use Rattle.runs.specs.declared.fault.ReportFault.{ReportFault}
use Rattle.runs.specs.declared.fault.ReportFault.TheVariants.{Script, Trace, Schedule, Write, Memory}

-- The program's fault for a report that ended early.
abbrev pub fault_as : ReportFault → Fault
fault_as (Script fault) = Run (run.Script fault)
fault_as (Trace fault) = Run (run.Trace fault)
fault_as (Schedule index refusal) = Run (run.Schedule index refusal)
fault_as Write = Run (run.Serve serve.Write)
fault_as Memory = Run run.Memory
