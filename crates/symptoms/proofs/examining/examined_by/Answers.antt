use Rattle.std.proofs.Common.{◌∙◌, sym, subst, ap}
use Rattle.std.specs.Prelude.{option_map, find}
use Rattle.symptoms.specs.declared.symptom.Symptom.TheVariants.{Finding as OfFinding}
use Rattle.symptoms.specs.Symptoms.{IsFirst, is_wanted, seen_by}
use Rattle.symptoms.proofs.Sighted.{sighted_finding}
use Rattle.symptoms.proofs.examining.examined_by.Goals as goal

pub returns-clause-sighting : goal.returns-clause-sighting
returns-clause-sighting c =
    let first = ap (option_map seen_by) (c.first_wanted.ensures ∙ ap (find (λ f. is_wanted c.args.wanted.now f.kind)) c.deref.ensures.value) in
    subst (IsFirst c.args.setup.now c.args.events.now (OfFinding c.args.wanted.now)) (sym (c.sighting_by.ensures ∙ first)) (sighted_finding _ _ _ _ c.in_ok-findings.ensures)
