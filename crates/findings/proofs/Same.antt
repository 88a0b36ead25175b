-- Findings that compare as equal are the same.
use Rattle.findings.proofs.Common.{◌≡◌, ℕ, true, ◌==◌, ◌&&◌, Finding, EndedKind, LastingKind, LeftKind, ConflictKind, StepKind, QueuedKind, CancelKind, Kind, ap, ◌∙◌, rules, and_parts, eqb-true}
use Rattle.findings.proofs.Groups.{the_finding}
use Rattle.finding_kinds.specs.contracts

ended_same : (a b : EndedKind) → (contracts.kind.EndedKindPartialEq.TheImpl.ghosts).eq a b ≡ true → a ≡ b
ended_same a b e = search rules

lasting_same : (a b : LastingKind) → (contracts.kind.LastingKindPartialEq.TheImpl.ghosts).eq a b ≡ true → a ≡ b
lasting_same a b e = search rules

left_same : (a b : LeftKind) → (contracts.kind.LeftKindPartialEq.TheImpl.ghosts).eq a b ≡ true → a ≡ b
left_same a b e = search rules

conflict_same : (a b : ConflictKind) → (contracts.kind.ConflictKindPartialEq.TheImpl.ghosts).eq a b ≡ true → a ≡ b
conflict_same a b e = search rules

step_same : (a b : StepKind) → (contracts.kind.StepKindPartialEq.TheImpl.ghosts).eq a b ≡ true → a ≡ b
step_same a b e = search rules

queued_same : (a b : QueuedKind) → (contracts.kind.QueuedKindPartialEq.TheImpl.ghosts).eq a b ≡ true → a ≡ b
queued_same a b e = search rules

cancel_same : (a b : CancelKind) → (contracts.kind.CancelKindPartialEq.TheImpl.ghosts).eq a b ≡ true → a ≡ b
cancel_same a b e = search rules

kind_same : (a b : Kind) → (contracts.kind.KindPartialEq.TheImpl.ghosts).eq a b ≡ true → a ≡ b
kind_same a b e = search (rules, ended_same, lasting_same, left_same, conflict_same, step_same, queued_same, cancel_same)

pub finding_same : (a b : Finding) → (contracts.finding.FindingPartialEq.TheImpl.ghosts).eq a b ≡ true → a ≡ b
finding_same a b e =
    let first = and_parts (a.moment == b.moment) ((contracts.kind.KindPartialEq.TheImpl.ghosts).eq a.kind b.kind && (a.subject == b.subject)) e in
    let rest = and_parts ((contracts.kind.KindPartialEq.TheImpl.ghosts).eq a.kind b.kind) (a.subject == b.subject) first.1 in
    ap (λ (n : ℕ). the_finding n a.kind a.subject) (eqb-true a.moment b.moment first.0)
    ∙ ap (λ (k : Kind). the_finding b.moment k a.subject) (kind_same a.kind b.kind rest.0)
    ∙ ap (the_finding b.moment b.kind) (eqb-true a.subject b.subject rest.1)
