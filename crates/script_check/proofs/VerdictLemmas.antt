-- The verdict on a schedule is the verdict on its script.
use Rattle.std.proofs.Common.{ℕ, ◌≤◌, List, length, Ok}
use Rattle.script.specs.Scripts.{Scenario, Reads, limit}
use Rattle.runs.specs.declared.fault.ReportFault.{ReportFault}
use Rattle.runs.specs.declared.fault.ReportFault.TheVariants as report
use Rattle.script_check.specs.declared.verdict.Verdict.{Verdict}
use Rattle.script_check.specs.declared.verdict.Verdict.TheVariants.{Fine, Unscheduled, Faulty, Refused}
use Rattle.script_check.specs.Verdicts.{Ends, IsVerdict, IsOfOutput, IsUnreported}

pub verdict_of_plan : (text : List ℕ) (p : Scenario) (v : Verdict) → Reads text (Ok p) → Ends p.setup p.schedule v → IsVerdict text v
verdict_of_plan text p Fine r e = (p, r, e)
verdict_of_plan text p Unscheduled r e = (p, r, e)
verdict_of_plan text p (Refused i n) r e = (p, r, e)
verdict_of_plan text p (Faulty f) r e = absurd e

pub unreported : (text : List ℕ) (f : ReportFault) → length text ≤ limit → IsOfOutput f → IsUnreported text f
unreported text report.Write l h = (l, h)
unreported text report.Memory l h = (l, h)
unreported text f l h = absurd h
