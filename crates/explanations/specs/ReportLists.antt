-- Findings with their sentences.
use Rattle.explanations.specs.Common.{List, map, Finding, Report}
use Rattle.explanations.specs.Subjects.{IsSubject}

-- The findings, without their sentences.
abbrev pub findings_in : List Report → List Finding
findings_in reports = map (λ t. t.finding) reports

-- What a report points at fits its finding.
abbrev pub HasSubject : Report → Type 0
HasSubject t = IsSubject t.finding t.subject
