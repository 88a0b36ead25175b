-- The fault of a report whose run can't be read, or ends early.
use Rattle.runs.specs.Common.{Ended, Refused, Stopped, ReportFault, Schedule, RunFault}
use Rattle.runs.specs.declared.fault.ReportFault.TheVariants.{Memory, Script, Trace}
use Rattle.runs.specs.declared.driving.Ended.TheVariants as ended
use Rattle.runs.specs.declared.reading.RunFault.TheVariants as unread

-- The fault of a report whose run can't be read.
abbrev pub of_reading : RunFault → ReportFault
of_reading (unread.Script f) = Script f
of_reading (unread.Trace f) = Trace f
of_reading unread.Memory = Memory

-- The fault of a report whose run ends early.
abbrev pub of_driving : Ended ReportFault → ReportFault
of_driving (Refused i r) = Schedule i r
of_driving ended.Memory = Memory
of_driving (Stopped f) = f
