-- The conclusive findings among those of a report.
use Rattle.std.proofs.Common.{◌≡◌, Bool, true, false, List, [], ◌∷◌, length, refl, sym, subst}
use Rattle.std.specs.Prelude.{not, ◌||◌, filter, cond}
use Rattle.std.specs.List.{All, Contains}
use Rattle.std.proofs.lemmas.List.Elements.{All-nil, All-cons, All-weaker, All-contains, All-filter, filter_passes, Contains-push, Contains-append_left, Contains-append_right}
use Rattle.std.proofs.lemmas.List.Kept.{IsStrictlySortedBy-filter}
use Rattle.scenario.specs.declared.event.Event.{Event}
use Rattle.scenario.specs.declared.setup.Setup.{Setup}
use Rattle.machine.specs.declared.whole.Machine.{Machine}
use Rattle.machine.specs.Runs.{moment as machine_at}
use Rattle.quiescence.specs.Over.{IsOver, SaysOver}
use Rattle.runs.specs.Moments.{IsAt}
use Rattle.finding_kinds.specs.declared.finding.Finding.{Finding}
use Rattle.finding_kinds.specs.Orders.{order_of}
use Rattle.findings.specs.Findings.{IsFinding, IsReportOf}
use Rattle.symptoms.specs.Symptoms.{is_of_end, conclusive, AreConclusive}

-- ---- what a filter keeps

kept_head : {X : Type 0} (x : X) (rest : List X) (b : Bool) → b ≡ true → Contains (cond b (x ∷ rest) rest) x
kept_head x rest true e = Contains-append_left (x ∷ []) rest x (Contains-push [] x)
kept_head x rest false e = cc

kept_tail : {X : Type 0} (x y : X) (rest : List X) (b : Bool) → Contains rest y → Contains (cond b (x ∷ rest) rest) y
kept_tail x y rest true h = Contains-append_right (x ∷ []) rest y h
kept_tail x y rest false h = h

kept_all : {X : Type 0} (p : X → Bool) (xs : List X) → All (λ y. p y ≡ true → Contains (filter p xs) y) xs
kept_all p [] = All-nil (λ y. p y ≡ true → Contains (filter p []) y)
kept_all p (x ∷ xs) =
    All-cons (λ y. p y ≡ true → Contains (filter p (x ∷ xs)) y) x xs (kept_head x (filter p xs) (p x))
    (All-weaker (λ y. p y ≡ true → Contains (filter p xs) y) (λ y. p y ≡ true → Contains (filter p (x ∷ xs)) y) (λ y h e. kept_tail x y (filter p xs) (p x) (h e)) xs (kept_all p xs))

-- A filter keeps each element that passes.
kept : {X : Type 0} (p : X → Bool) (xs : List X) (x : X) → Contains xs x → p x ≡ true → Contains (filter p xs) x
kept p xs x h e = All-contains (λ y. p y ≡ true → Contains (filter p xs) y) xs x (kept_all p xs) h e

-- ---- conclusive findings

passes_over : (over b : Bool) (m : Machine) → SaysOver over m → (over || not b) ≡ true → b ≡ true → IsOver m
passes_over true b m says e h = says
passes_over false true m says e h = cc
passes_over false false m says e h = cc

over_passes : (over b : Bool) (m : Machine) → SaysOver over m → (b ≡ true → IsOver m) → (over || not b) ≡ true
over_passes true b m says h = refl
over_passes false true m says h = absurd (says (h refl))
over_passes false false m says h = refl

-- The findings of a report that are kept are the conclusive ones.
conclusive_of : (s : Setup) (es : List Event) (over : Bool) (fs : List Finding) → SaysOver over (machine_at s es (length es)) → IsReportOf s es fs → AreConclusive s es (conclusive over fs)
conclusive_of s es over fs says r =
    let p : Finding → Bool = λ f. over || not (is_of_end f.kind) in
    let last = machine_at s es (length es) in
    record {
      only = λ k d l. record {
        finding = All-filter p (IsFinding s es) fs r.only k d l;
        over = λ h. passes_over over _ last says (filter_passes p fs k d l) h;
      };
      whole = λ f c. kept p fs f (r.whole f c.finding) (over_passes over (is_of_end f.kind) last says c.over);
      order = IsStrictlySortedBy-filter order_of p fs r.order;
    }

-- The same, at the end of a run.
pub conclusive_at : (s : Setup) (es : List Event) (over : Bool) (m : Machine) (fs gs : List Finding) → IsAt s es (length es) m → SaysOver over m → IsReportOf s es fs → gs ≡ conclusive over fs → AreConclusive s es gs
conclusive_at s es over m fs gs at says r same = subst (AreConclusive s es) (sym same) (conclusive_of s es over fs (subst (SaysOver over) at.here says) r)
