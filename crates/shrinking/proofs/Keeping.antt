-- Schedules that keep a goal.
use Rattle.std.proofs.Common.{◌≡◌, ◌≤◌, Bool, true, false, List, length, refl, sym, ◌∙◌, subst, arith}
use Rattle.std.specs.Prelude.{Option, Some, None, IfSome}
use Rattle.scenario.specs.declared.event.Event.{Event}
use Rattle.scenario.specs.declared.setup.Setup.{Setup}
use Rattle.machine.specs.Runs.{start, Accepts}
use Rattle.prompt_order.specs.Prompt.{IsPrompt, SaysPrompt}
use Rattle.sampling.specs.Locks.{keep_lock}
use Rattle.symptoms.specs.declared.symptom.Sighting.{Sighting}
use Rattle.symptoms.specs.declared.symptom.Symptom.{Symptom}
use Rattle.symptoms.specs.Symptoms.{IsSighting, IsFirst}
use Rattle.shrinking.specs.declared.goal.Goal.{Goal}
use Rattle.shrinking.specs.Shrinking.{narrowed, IsCandidate, IsKept, IsGoal, IsShrunk}
use Rattle.shrinking.proofs.Narrowing.{narrowed_sighting, shown_wider, shown_over}

-- A schedule that was run and examined is a candidate, if it shows the symptom.
pub candidate_if : (goal : Goal) (s : Setup) (es : List Event) (o : Option Sighting) → s ≡ goal.program.now → Accepts (start s) es → IsFirst s es goal.symptom o → length es ≤ goal.most → IfSome o (IsCandidate goal es)
candidate_if goal s es None same runs first short = tt
candidate_if goal s es (Some x) same runs first short = record {
  runs = subst (λ (t : Setup). Accepts (start t) es) same runs;
  sighting = subst (λ (t : Setup). IsSighting t es goal.symptom x) same first;
  short = short;
}

says_so : (b : Bool) (s : Setup) (es : List Event) → SaysPrompt b s es → b ≡ true → IsPrompt s es
says_so true s es says h = says
says_so false s es says h = absurd cc

must_say : (b : Bool) (s : Setup) (es : List Event) → SaysPrompt b s es → IsPrompt s es → b ≡ true
must_say true s es says h = refl
must_say false s es says h = absurd (says h)

-- A run keeps its own goal.
pub kept_first : (s : Setup) (es : List Event) (wanted : Symptom) (x : Sighting) (goal : Goal) → IsGoal s es wanted x.finding goal → Accepts (start s) es → IsSighting s es wanted x → IsKept goal es x
kept_first s es wanted x goal g runs sighting = record {
  candidate = record {
    runs = subst (λ (t : Setup). Accepts (start t) es) (sym g.setup) runs;
    sighting = subst (λ (t : Setup). IsSighting t es goal.symptom x) (sym g.setup) (subst (λ (k : Symptom). IsSighting s es k x) (sym g.symptom) (narrowed_sighting s es wanted x sighting));
    short = let same = g.most in omega (arith, same);
  };
  lock = λ keeps. subst (λ (t : Setup). keep_lock (start t) es ≡ true) (sym g.setup) (sym g.lock ∙ keeps);
  prompt = λ keeps. subst (λ (t : Setup). IsPrompt t es) (sym g.setup) (says_so goal.is_prompt s es g.prompt keeps);
}

-- A schedule that keeps the goal is made from the run.
pub shrunk_of : (s : Setup) (es : List Event) (wanted : Symptom) (x : Sighting) (goal : Goal) (fs : List Event) (y : Sighting) → IsGoal s es wanted x.finding goal → IsSighting s es wanted x → IsKept goal fs y → IsShrunk s es wanted x fs y
shrunk_of s es wanted x goal fs y g sighting kept =
    let k = kept.candidate in
    let same : IsSighting s fs (narrowed wanted x.finding) y = subst (λ (t : Setup). IsSighting t fs (narrowed wanted x.finding) y) g.setup (subst (λ (w : Symptom). IsSighting goal.program.now fs w y) g.symptom k.sighting) in
    record {
      runs = subst (λ (t : Setup). Accepts (start t) fs) g.setup k.runs;
      shown = shown_wider s s es fs wanted x.finding x.moment y.moment sighting.seen same.shown;
      same = same;
      short = let most = g.most in let short = k.short in omega (arith, most, short);
      over = shown_over s fs wanted x.finding y.moment same.shown;
      lock = λ keeps. subst (λ (t : Setup). keep_lock (start t) fs ≡ true) g.setup (kept.lock (g.lock ∙ keeps));
      prompt = λ prompt. subst (λ (t : Setup). IsPrompt t fs) g.setup (kept.prompt (must_say goal.is_prompt s es g.prompt prompt));
    }
