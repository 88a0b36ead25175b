-- The first sighting of a symptom, from the findings of a run or from the values of places.
use Rattle.std.proofs.Common.{◌≡◌, ℕ, ◌≤◌, true, List, length, refl, sym, subst, arith}
use Rattle.std.specs.Prelude.{Option, Some, None, find, option_map}
use Rattle.std.specs.Borrow.{Bor}
use Rattle.std.proofs.lemmas.List.Elements.{All-contains}
use Rattle.scenario.specs.declared.event.Event.{Event}
use Rattle.scenario.specs.declared.setup.Setup.{Setup}
use Rattle.finding_kinds.specs.declared.finding.Finding.{Finding}
use Rattle.symptoms.specs.declared.symptom.Goal.{Goal}
use Rattle.symptoms.specs.declared.symptom.Sighting.{Sighting}
use Rattle.symptoms.specs.declared.symptom.Wanted.{Wanted}
use Rattle.symptoms.specs.declared.symptom.Symptom.TheVariants as sought
use Rattle.symptoms.specs.Symptoms.{is_wanted, IsConclusive, AreConclusive, IsWantedAt, IsFirst, seen_by, seen_at}
use Rattle.symptoms.specs.Reaching.{IsFirstUpTo, HasLooked}
use Rattle.symptoms.proofs.First.{found_among, none_among, least_found}
use Rattle.symptoms.proofs.Taking.{within_run}

first_of : (s : Setup) (es : List Event) (wanted : Wanted) (fs : List Finding) → AreConclusive s es fs → (o : Option Finding) → find (λ f. is_wanted wanted f.kind) fs ≡ o → IsFirst s es (sought.Finding wanted) (option_map seen_by o)
first_of s es wanted fs r None e = λ m shown. All-contains (λ g. is_wanted wanted g.kind ≡ true → ⊥) fs shown.0 (none_among (λ g. is_wanted wanted g.kind) fs e) (r.whole shown.0 shown.1.finding) shown.1.kind
first_of s es wanted fs r (Some f) e =
    let found = found_among (λ g. is_wanted wanted g.kind) (IsConclusive s es) fs f e r.only in
    let here : IsWantedAt s es wanted f.moment f = record { finding = found.0; kind = found.1; moment = refl } in
    record {
      shown = (f, here);
      seen = here;
      least = λ m shown.
          let least = All-contains (λ g. is_wanted wanted g.kind ≡ true → f.moment ≤ g.moment) fs shown.0 (least_found (λ g. is_wanted wanted g.kind) fs f e r.order) (r.whole shown.0 shown.1.finding) shown.1.kind in
          omega (arith, least, shown.1.moment);
    }

-- The first wanted finding of a report is the first sighting.
pub sighted_finding : (s : Setup) (es : List Event) (wanted : Wanted) (fs : List Finding) → AreConclusive s es fs → IsFirst s es (sought.Finding wanted) (option_map seen_by (find (λ f. is_wanted wanted f.kind) fs))
sighted_finding s es wanted fs r = first_of s es wanted fs r (find (λ f. is_wanted wanted f.kind) fs) refl

-- So is the first moment at which the goals are reached, over the whole run.
sighted_goals : (s : Setup) (es : List Event) (gs : Bor (List Goal)) (o : Option ℕ) → IsFirstUpTo s es (length es) gs.now o → IsFirst s es (sought.Reaches gs) (option_map seen_at o)
sighted_goals s es gs None h = within_run s es gs.now h
sighted_goals s es gs (Some k) h = record { shown = h.0; seen = h.0; least = h.1 }

-- The same, of a run that was searched for them.
pub sighted_at : (s : Setup) (es : List Event) (gs : Bor (List Goal)) (hs : List Goal) (o : Option ℕ) (x : Option Sighting) → hs ≡ gs.now → HasLooked s es (length es) hs o → x ≡ option_map seen_at o → IsFirst s es (sought.Reaches gs) x
sighted_at s es gs hs o x goals h same =
    let first : IsFirstUpTo s es (length es) gs.now o = subst (λ (r : List Goal). IsFirstUpTo s es (length es) r o) goals h.first in
    subst (IsFirst s es (sought.Reaches gs)) (sym same) (sighted_goals s es gs o first)
