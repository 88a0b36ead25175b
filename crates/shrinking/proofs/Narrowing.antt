-- A run that shows a finding shows its kind, and the other way round.
use Rattle.std.proofs.Common.{◌≡◌, ℕ, true, List, length, ap, subst, arith}
use Rattle.std.proofs.lemmas.List.{take_all}
use Rattle.std.specs.Prelude.{Option, Some, None, ◌&&◌}
use Rattle.scenario.specs.declared.event.Event.{Event}
use Rattle.scenario.specs.declared.setup.Setup.{Setup}
use Rattle.finding_kinds.specs.declared.finding.Finding.{Finding}
use Rattle.finding_kinds.specs.declared.kind.Kind.{Kind}
use Rattle.finding_kinds.specs.contracts.kind.KindPartialEq.TheImpl as kinds
use Rattle.finding_kinds.specs.contracts.kind.KindEq.TheImpl.Laws as compared
use Rattle.machine.specs.Runs.{start, run}
use Rattle.quiescence.specs.Over.{IsOver}
use Rattle.findings.proofs.Same.{finding_same}
use Rattle.symptoms.specs.declared.symptom.Sighting.{Sighting}
use Rattle.symptoms.specs.declared.symptom.Symptom.{Symptom}
use Rattle.symptoms.specs.declared.symptom.Symptom.TheVariants as sought
use Rattle.symptoms.specs.declared.symptom.Wanted.{Wanted}
use Rattle.symptoms.specs.declared.symptom.Wanted.TheVariants.{Exactly}
use Rattle.symptoms.specs.Symptoms.{is_of_end, is_wanted, IsWantedAt, Shows, IsSeenAt, IsSighting}
use Rattle.shrinking.specs.Shrinking.{is_at_end, narrowed}

first_with : Kind → Finding
first_with k = record { moment = 0; kind = k; subject = 0 }

kind_same : (k l : Kind) → (kinds.ghosts).eq k l ≡ true → k ≡ l
unfolding first_with
kind_same k l e = ap (λ (f : Finding). f.kind) (finding_same (first_with k) (first_with l) (ap (λ b. b && true) e))

-- A finding of the same kind is wanted too.
wider : (s : Setup) (es : List Event) (wanted : Wanted) (kind : Kind) (m : ℕ) (g : Finding) → is_wanted wanted kind ≡ true → IsWantedAt s es (Exactly kind) m g → IsWantedAt s es wanted m g
wider s es wanted kind m g h w = record {
  finding = w.finding;
  kind = subst (λ k. is_wanted wanted k ≡ true) (kind_same kind g.kind w.kind) h;
  moment = w.moment;
}

-- What shows the narrowed symptom shows the symptom, which was seen at some moment.
pub shown_wider : (s t : Setup) (es fs : List Event) (wanted : Symptom) (found : Option Finding) (m n : ℕ) → IsSeenAt s es wanted m found → Shows t fs (narrowed wanted found) n → Shows t fs wanted n
shown_wider s t es fs (sought.Finding wanted) (Some f) m n seen shown = (shown.0, wider t fs wanted f.kind n shown.0 seen.kind shown.1)
shown_wider s t es fs (sought.Finding wanted) None m n seen shown = absurd seen
shown_wider s t es fs (sought.Reaches goals) (Some f) m n seen shown = absurd seen
shown_wider s t es fs (sought.Reaches goals) None m n seen shown = shown

exact_at : (s : Setup) (es : List Event) (wanted : Wanted) (m : ℕ) (f : Finding) → IsWantedAt s es wanted m f → IsWantedAt s es (Exactly f.kind) m f
exact_at s es wanted m f w = record { finding = w.finding; kind = compared.laws-law.refl f.kind; moment = w.moment }

seen_narrowed : (s : Setup) (es : List Event) (wanted : Symptom) (m : ℕ) (found : Option Finding) → IsSeenAt s es wanted m found → IsSeenAt s es (narrowed wanted found) m found
seen_narrowed s es (sought.Finding wanted) m (Some f) seen = exact_at s es wanted m f seen
seen_narrowed s es (sought.Finding wanted) m None seen = absurd seen
seen_narrowed s es (sought.Reaches goals) m (Some f) seen = absurd seen
seen_narrowed s es (sought.Reaches goals) m None seen = seen

shown_by : (s : Setup) (es : List Event) (wanted : Symptom) (m : ℕ) (found : Option Finding) → IsSeenAt s es wanted m found → Shows s es wanted m
shown_by s es (sought.Finding wanted) m (Some f) seen = (f, seen)
shown_by s es (sought.Finding wanted) m None seen = absurd seen
shown_by s es (sought.Reaches goals) m (Some f) seen = absurd seen
shown_by s es (sought.Reaches goals) m None seen = seen

-- The first sighting of a symptom is that of the narrowed one.
pub narrowed_sighting : (s : Setup) (es : List Event) (wanted : Symptom) (x : Sighting) → IsSighting s es wanted x → IsSighting s es (narrowed wanted x.finding) x
narrowed_sighting s es wanted x h =
    let seen = seen_narrowed s es wanted x.moment x.finding h.seen in
    record {
      shown = shown_by s es (narrowed wanted x.finding) x.moment x.finding seen;
      seen = seen;
      least = λ m shown. h.least m (shown_wider s s es es wanted x.finding x.moment m h.seen shown);
    }

-- A run that shows a finding about the end is over at its end.
pub shown_over : (s : Setup) (es : List Event) (wanted : Symptom) (found : Option Finding) (m : ℕ) → Shows s es (narrowed wanted found) m → is_at_end found ≡ true → IsOver (run (start s) es)
shown_over s es wanted None m shown h = cc
shown_over s es wanted (Some f) m shown h =
    let w = shown.1 in
    let at_end : is_of_end shown.0.kind ≡ true = subst (λ (k : Kind). is_of_end k ≡ true) (kind_same f.kind shown.0.kind w.kind) h in
    subst IsOver (ap (run (start s)) (take_all (length es) es (omega arith))) (w.finding.over at_end)
