-- A run that is debugged, and its findings.
use Rattle.std.specs.Prelude.{◌≡◌, ℕ, ◌<◌, List, [], map, filter, length, Option, Some, None, Bool, not, ⊤}
use Rattle.std.specs.List.{All, Contains, list_any}
use Rattle.inverse_log.specs.Walks.{Walk}
use Rattle.finding_kinds.specs.Kinds.{is_fault}
use Rattle.finding_kinds.specs.declared.finding.Finding.{Finding}
use Rattle.findings.specs.Findings.{IsReportOf}
use Rattle.explanations.specs.ReportLists.{HasSubject, findings_in}
use Rattle.explanations.specs.declared.reporting.Report.{Report}
use Rattle.explanations.specs.declared.subjects.Subject.TheVariants.{Instruction}
use Rattle.sentences.specs.declared.run.ThreadStep.{ThreadStep}
use Rattle.debug_server.specs.SessionStates.{SessionValue}
use Rattle.stops.specs.Nearest.{sorted}
use Rattle.dap_messages.specs.declared.request.ExceptionFilter.{ExceptionFilter}
use Rattle.dap_messages.specs.declared.request.ExceptionFilter.TheVariants.{Faults, Notes}

-- The session over a run, and whether the run was searched for findings.
pub record SearchState : Type 0 where
  pub session : SessionValue
  pub is_searched : Bool

-- Reports of the findings of a run: nothing else, nothing left out, each once, in order. What each
-- points at fits its finding.
pub record AreReportsOf (w : Walk) (reports : List Report) : Type 0 where
  pub findings : IsReportOf w.setup w.events (findings_in reports)
  pub subjects : All HasSubject reports

-- The same, if there are reports.
abbrev pub AreReportsIfAny : Walk → Option (List Report) → Type 0
AreReportsIfAny w None = ⊤
AreReportsIfAny w (Some reports) = AreReportsOf w reports

-- One of the reports of a run is about a moment.
pub record IsReportAt (w : Walk) (moment : ℕ) (report : Report) : Type 0 where
  pub reports : List Report
  pub are_reports : AreReportsOf w reports
  pub is_listed : Contains reports report
  pub is_at : report.finding.moment ≡ moment

-- One of the reports of a run is about a moment, and points at this instruction.
pub record IsPointedAt (w : Walk) (moment : ℕ) (step : ThreadStep) : Type 0 where
  pub report : Report
  pub is_report : IsReportAt w moment report
  pub points : report.subject ≡ Instruction step

-- ---- Findings at which a run stops

-- Whether a finding is one of those that a filter lets through.
abbrev pub passes : Finding → ExceptionFilter → Bool
passes f Faults = is_fault f.kind
passes f Notes = not (is_fault f.kind)

abbrev pub stops_at : List ExceptionFilter → Report → Bool
stops_at filters r = list_any (passes r.finding) filters

abbrev pub moment_in : Report → ℕ
moment_in r = r.finding.moment

-- The moments of the findings that pass a filter, in ascending order.
abbrev pub finding_moments : List ExceptionFilter → List Report → List ℕ
finding_moments filters reports = sorted (map moment_in (filter (stops_at filters) reports))

-- A run stops at those of its findings that pass a filter. Without filters it needn't be searched.
pub record StopsAtFindings (w : Walk) (filters : List ExceptionFilter) (moments : List ℕ) : Type 0 where
  pub none : length filters ≡ 0 → moments ≡ []
  pub some : 0 < length filters
      → (reports : List Report) × AreReportsOf w reports × (moments ≡ finding_moments filters reports)
