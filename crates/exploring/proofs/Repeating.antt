-- A run of a number is the same each time.
use Rattle.std.proofs.Common.{◌≡◌, ℕ, List, refl, sym, subst, arith, Option, Some, None, Bool, true, zero, suc, [], ◌∷◌, ◌++◌}
use Rattle.std.specs.Prelude.{◌↔◌, IsTrue, is_some}
use Rattle.std.proofs.lemmas.Bool.{false≢true}
use Rattle.scenario.specs.declared.event.Event.{Event}
use Rattle.finding_kinds.specs.declared.finding.Finding.{Finding}
use Rattle.sampling.proofs.Repeating.{repeatable}
use Rattle.symptoms.specs.declared.symptom.Sighting.{Sighting}
use Rattle.symptoms.specs.Symptoms.{Shows}
use Rattle.std.specs.List.{All}
use Rattle.std.proofs.lemmas.List.Elements.{All-append}
use Rattle.search_rounds.specs.declared.lanes.Lane.{Lane}
use Rattle.exploring.specs.declared.random_runs.Worker.{Worker}
use Rattle.exploring.specs.declared.random_runs.RandomRuns.{RandomRuns}
use Rattle.exploring.specs.RandomRuns.{RunShows, IsRun, IsReady}
use Rattle.search_rounds.specs.Trials.{IsLeast}

-- A run shows the symptom if it has a sighting.
pub shown_if_sighted : (r : RandomRuns) (n : ℕ) (es : List Event) (x : Option Sighting) (fs : List Finding) → IsRun r n es x fs → IsTrue (is_some x) ↔ RunShows r n
shown_if_sighted r n es (Some x) fs q = (λ t. (es, q.events, x.moment, q.sighting.shown), λ s. refl)
shown_if_sighted r n es None fs q = (
  λ t. absurd (false≢true t),
  λ s. absurd (q.sighting s.2 (let P : List Event → Type 0 = λ xs. Shows r.setup.now xs r.symptom s.2 in subst P (repeatable r.setup.now r.options r.seed n s.0 es s.1 q.events) s.3)),
)

pub shown_decided : (r : RandomRuns) (n : ℕ) (es : List Event) (x : Option Sighting) (fs : List Finding) (b : Bool) → b ≡ is_some x → IsRun r n es x fs → IsTrue b ↔ RunShows r n
shown_decided r n es x fs b e q =
    let P : Bool → Type 0 = λ y. IsTrue y ↔ RunShows r n in
    subst P (sym e) (shown_if_sighted r n es x fs q)

-- A run that was found has a sighting.
pub found_sighted : (r : RandomRuns) (n a b : ℕ) (es : List Event) (x : Option Sighting) (fs : List Finding) (found : Option ℕ) → IsRun r n es x fs → IsLeast (RunShows r) a b found → found ≡ Some n → is_some x ≡ true
found_sighted r n a b es x fs found q least e =
    let P : Option ℕ → Type 0 = λ f. IsLeast (RunShows r) a b f in
    let at : IsLeast (RunShows r) a b (Some n) = subst P e least in
    (shown_if_sighted r n es x fs q).1 at.2

-- ---- Lanes

one_ready : (r : RandomRuns) (lane : Lane Worker) → IsReady r lane.worker → All (λ (l : Lane Worker). IsReady r l.worker) (lane ∷ [])
one_ready r lane p zero d h = p
one_ready r lane p (suc k) d h = absurd (omega (arith, h))

-- One lane more.
pub ready_push : (r : RandomRuns) (xs ys : List (Lane Worker)) (lane : Lane Worker) → ys ≡ xs ++ lane ∷ [] → All (λ (l : Lane Worker). IsReady r l.worker) xs → IsReady r lane.worker → All (λ (l : Lane Worker). IsReady r l.worker) ys
ready_push r xs ys lane e all p =
    let P : List (Lane Worker) → Type 0 = λ zs. All (λ (l : Lane Worker). IsReady r l.worker) zs in
    subst P (sym e) (All-append (λ (l : Lane Worker). IsReady r l.worker) xs (lane ∷ []) all (one_ready r lane p))
