-- Running events one after another.
use Rattle.std.proofs.Common.{◌≡◌, ℕ, ◌+◌, ◌<◌, List, [], ◌∷◌, ◌++◌, inl, length, take, get_or, Result, Ok, Err, refl, sym, ap, ◌∙◌, subst}
use Rattle.std.specs.Prelude.{Option, Some, None, IfErr}
use Rattle.std.proofs.lemmas.List.{take_more}
use Rattle.std.proofs.lemmas.Option.{slice_get-get_or}
use Rattle.machine.specs.declared.whole.Machine.{Machine}
use Rattle.scenario.specs.declared.setup.Setup.{Setup}
use Rattle.scenario.specs.declared.event.Event.{Event}
use Rattle.scenario.specs.declared.event.Refusal.{Refusal}
use Rattle.scenario.specs.declared.event.Refusal.TheVariants.{Memory}
use Rattle.machine.specs.Steps.{refusal, after, Next}
use Rattle.machine.specs.Runs.{run, start, Accepts, IsRefused}
use Rattle.inverse_log.proofs.Runs.{run-push, accepts-push}
use Rattle.debug_server.specs.Kinds.{IsOf, OfSchedule, OfMemory}
use Rattle.debug_server.specs.declared.faults.RunFault.{RunFault}
use Rattle.debug_server.specs.declared.faults.RunFault.TheVariants.{Schedule}
use Rattle.debug_server.specs.Schedules.{StopsBy, fault_by}
use Rattle.debug_server.proofs.Stopping.{stops_by_number, refused_at, of_schedule}

-- The first i events were run.
pub record Ran (s : Machine) (es : List Event) (i : ℕ) (m : Machine) : Type 0 where
  pub here : m ≡ run s (take i es)
  pub accepts : Accepts s (take i es)

pub ran_more : (s m n : Machine) (es : List Event) (i : ℕ) (e d : Event) → i < length es → Ran s es i m → Next m e n → e ≡ get_or es i d → Ran s es (i + 1) n
ran_more s m n es i e d h r next g =
    let one : take (i + 1) es ≡ take i es ++ e ∷ [] = take_more es i d h ∙ ap (λ x. take i es ++ x ∷ []) (sym g) in
    record {
      here = next.changed ∙ ap (λ x. after x e) r.here ∙ sym (run-push s (take i es) e) ∙ ap (λ xs. run s xs) (sym one);
      accepts = subst (Accepts s) (sym one) (accepts-push s (take i es) e r.accepts (ap (λ x. refusal x e) (sym r.here) ∙ next.accepted));
    }

-- The next event is refused.
pub ran_stops : (s m : Machine) (es : List Event) (i : ℕ) (e d : Event) (n : Refusal) → i < length es → Ran s es i m → e ≡ get_or es i d
    → ((k : Refusal) → refusal m e ≡ Some k → n ≡ k) → (refusal m e ≡ None → n ≡ Memory) → (setup : Setup) → s ≡ start setup → StopsBy setup es (fault_by i n)
ran_stops s m es i e d n h ran g refused memory setup from = by (refusal m e) refl
  where
    by : (x : Option Refusal) → refusal m e ≡ x → StopsBy setup es (fault_by i n)
    by None p = subst (λ x. StopsBy setup es (fault_by i x)) (sym (memory p)) tt
    by (Some k) p =
        let here : m ≡ run (start setup) (take i es) = ran.here ∙ ap (λ x. run x (take i es)) from in
        stops_by_number setup es i n (record {
          event = e;
          there = slice_get-get_or es i d h ∙ ap Some (sym g);
          runs = subst (λ x. Accepts x (take i es)) from ran.accepts;
          refused = inl (ap (λ x. refusal x e) (sym here) ∙ p ∙ ap Some (sym (refused k p)));
        })

-- A call that stops with a fault.
pub stops_at : {A : Type 0} (setup : Setup) (es : List Event) (r : Result A RunFault) → IfErr r (λ e. StopsBy setup es e) → IfErr r (λ e. (i : ℕ) → (n : Refusal) → e ≡ Schedule i n → IsRefused setup es i n)
stops_at setup es (Ok x) h = tt
stops_at setup es (Err e) h = refused_at setup es e h

pub stops_as : {A : Type 0} (setup : Setup) (es : List Event) (r : Result A RunFault) → IfErr r (λ e. StopsBy setup es e) → IfErr r (IsOf (OfSchedule ∷ OfMemory ∷ []))
stops_as setup es (Ok x) h = tt
stops_as setup es (Err e) h = of_schedule setup es e h
