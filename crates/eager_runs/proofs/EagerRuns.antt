-- The eager run of a schedule, event by event.
use Rattle.std.proofs.Common.{◌≡◌, ℕ, ◌+◌, ◌<◌, ◌≤◌, List, [], ◌∷◌, ◌++◌, length, take, get_or, append-nil, append_assoc, refl, sym, ap, ◌∙◌, subst}
use Rattle.std.specs.Prelude.{Some}
use Rattle.std.proofs.lemmas.List.{take_more, take_all}
use Rattle.std.proofs.lemmas.Option.{slice_get-get_or}
use Rattle.scenario.specs.declared.event.Event.{Event}
use Rattle.scenario.specs.declared.event.Refusal.{Refusal}
use Rattle.scenario.specs.declared.setup.Setup.{Setup}
use Rattle.machine.specs.declared.whole.Machine.{Machine}
use Rattle.machine.specs.Steps.{after}
use Rattle.machine.specs.Runs.{run, start, Accepts}
use Rattle.inverse_log.proofs.Runs.{run-append, run-push, accepts-append}
use Rattle.eager_runs.specs.Eager.{Adds, IsNextWork, IsIdleAt, IsWork, FollowsOne, Follows, RefusesOne, Stops, IsEager, IsRefusedEagerly, is_due}

-- ---- Events that are added

adds_none : (m : Machine) (before : List Event) → Adds m before [] m before
adds_none m before = record { accepts = tt; here = refl; there = sym (append-nil before) }

adds_both : (m n o : Machine) (before es events fs more : List Event) → Adds m before es n events → Adds n events fs o more → Adds m before (es ++ fs) o more
adds_both m n o before es events fs more a b = record {
  accepts = accepts-append m es fs a.accepts (subst (λ (x : Machine). Accepts x fs) a.here b.accepts);
  here = b.here ∙ ap (λ (x : Machine). run x fs) a.here ∙ sym (run-append m es fs);
  there = b.there ∙ ap (λ (x : List Event). x ++ fs) a.there ∙ append_assoc before es fs;
}

-- ---- What happens at once

-- What happened so far: with what can happen from here on it is all that can happen.
pub record Working (m : Machine) (from : ℕ) (before : List Event) (n : Machine) (at : ℕ) (events : List Event) : Type 0 where
  pub work : List Event
  pub adds : Adds m before work n events
  pub completes : (rest : List Event) → IsWork n at rest → IsWork m from (work ++ rest)

pub works_yet : (m : Machine) (from : ℕ) (before : List Event) → Working m from before m from before
works_yet m from before = record { work = []; adds = adds_none m before; completes = λ rest h. h }

pub works_on : (m : Machine) (from : ℕ) (n o : Machine) (at next : ℕ) (before events more : List Event) (e : Event) → Working m from before n at events → IsNextWork n at e next → Adds n events (e ∷ []) o more → Working m from before o next more
works_on m from n o at next before events more e w offered a = record {
  work = w.work ++ e ∷ [];
  adds = adds_both m n o before w.work events (e ∷ []) more w.adds a;
  completes = λ rest h. subst (λ (x : List Event). IsWork m from x) (sym (append_assoc w.work (e ∷ []) rest)) (w.completes (e ∷ rest) (next, offered, subst (λ (x : Machine). IsWork x next rest) a.here h));
}

pub worked : (m : Machine) (from : ℕ) (n : Machine) (at : ℕ) (before events : List Event) → Working m from before n at events → IsIdleAt n at → (work : List Event) × IsWork m from work × Adds m before work n events
worked m from n at before events w idle = (w.work, subst (λ (x : List Event). IsWork m from x) (append-nil w.work) (w.completes [] idle), w.adds)

-- ---- A schedule

-- The eager run of the first i events of a schedule.
pub record Following (first begun : Machine) (before es : List Event) (i : ℕ) (plain m : Machine) (events : List Event) : Type 0 where
  pub made : List Event
  pub adds : Adds begun before made m events
  pub plainly : plain ≡ run first (take i es)
  pub follows : Follows first begun (take i es) made

pub follows_yet : (plain m : Machine) (before es : List Event) → Following plain m before es 0 plain m before
follows_yet plain m before es = record { made = []; adds = adds_none m before; plainly = refl; follows = refl }

-- What an event adds at the end of a schedule.
follows_push : (plain m : Machine) (es made added : List Event) (e : Event) → Follows plain m es made → FollowsOne (is_due (run plain (es ++ e ∷ [])) (run m made) e) (run m made) e added → Follows plain m (es ++ e ∷ []) (made ++ added)
follows_push plain m [] made added e h one =
    (added, [], ap (λ (x : List Event). x ++ added) h ∙ sym (append-nil added), subst (λ (x : List Event). FollowsOne (is_due (after plain e) (run m x) e) (run m x) e added) h one, refl)
follows_push plain m (f ∷ es) made added e h one =
    let here : run m made ≡ run (run m h.0) h.1 = ap (λ (x : List Event). run m x) h.2 ∙ run-append m h.0 h.1 in
    let now = subst (λ (x : Machine). FollowsOne (is_due (run (after plain f) (es ++ e ∷ [])) x e) x e added) here one in
    (h.0, h.1 ++ added, ap (λ (x : List Event). x ++ added) h.2 ∙ append_assoc h.0 h.1 added, h.3, follows_push (after plain f) (run m h.0) es h.1 added e h.4 now)

pub follows_on : (first begun : Machine) (before es : List Event) (i : ℕ) (e d : Event) (plain m next n : Machine) (events more : List Event) → i < length es
    → Following first begun before es i plain m events → next ≡ after plain e
    → (added : List Event) × FollowsOne (is_due (after plain e) m e) m e added × Adds m events added n more
    → e ≡ get_or es i d → Following first begun before es (i + 1) next n more
follows_on first begun before es i e d plain m next n events more within f step one there =
    let longer : take (i + 1) es ≡ take i es ++ e ∷ [] = take_more es i d within ∙ ap (λ (x : Event). take i es ++ x ∷ []) (sym there) in
    let later : after plain e ≡ run first (take i es ++ e ∷ []) = ap (λ (x : Machine). after x e) f.plainly ∙ sym (run-push first (take i es) e) in
    let now = subst (λ (x : Machine). FollowsOne (is_due (run first (take i es ++ e ∷ [])) x e) x e one.0) f.adds.here (subst (λ (x : Machine). FollowsOne (is_due x m e) m e one.0) later one.1) in
    record {
      made = f.made ++ one.0;
      adds = adds_both begun m n before f.made events one.0 more f.adds one.2;
      plainly = step ∙ later ∙ ap (λ (x : List Event). run first x) (sym longer);
      follows = subst (λ (x : List Event). Follows first begun x (f.made ++ one.0)) (sym longer) (follows_push first begun (take i es) f.made one.0 e f.follows now);
    }

pub followed : (first begun plain m : Machine) (before es events : List Event) (i : ℕ) → length es ≤ i → Following first begun before es i plain m events
    → (made : List Event) × Follows first begun es made × Adds begun before made m events
followed first begun plain m before es events i end f = (f.made, subst (λ (x : List Event). Follows first begun x f.made) (take_all i es end) f.follows, f.adds)

-- The next event is refused.
pub stops : (first begun : Machine) (before es : List Event) (i : ℕ) (e d : Event) (plain m : Machine) (events : List Event) (k : ℕ) (n : Refusal) → i < length es
    → Following first begun before es i plain m events → (k ≡ i) × RefusesOne plain m e n → e ≡ get_or es i d → Stops first begun es k n
stops first begun before es i e d plain m events k n within f refused there =
    let by_plain : RefusesOne (run first (take i es)) m e n = subst (λ (x : Machine). RefusesOne x m e n) f.plainly refused.1 in
    subst (λ (x : ℕ). Stops first begun es x n) (sym refused.0) (record {
      made = f.made;
      follows = f.follows;
      accepts = f.adds.accepts;
      event = e;
      there = slice_get-get_or es i d within ∙ ap Some (sym there);
      refused = subst (λ (x : Machine). RefusesOne (run first (take i es)) x e n) f.adds.here by_plain;
    })

-- The eager run of a schedule from the start of a setup.
pub from_start : (setup : Setup) (plain m n : Machine) (es before events : List Event) → plain ≡ start setup → m ≡ start setup → before ≡ []
    → (made : List Event) × Follows plain m es made × Adds m before made n events
    → Accepts (start setup) events × IsEager setup es events
from_start setup plain m n es before events p q none f =
    let all : f.0 ≡ events = sym (f.2.there ∙ ap (λ (x : List Event). x ++ f.0) none) in (
      subst (λ (x : Machine). Accepts x events) q (subst (λ (x : List Event). Accepts m x) all f.2.accepts),
      subst (λ (x : Machine). Follows x (start setup) es events) p (subst (λ (x : Machine). Follows plain x es events) q (subst (λ (x : List Event). Follows plain m es x) all f.1)),
    )

pub stops_from_start : (setup : Setup) (plain m : Machine) (es : List Event) (i : ℕ) (n : Refusal) → plain ≡ start setup → m ≡ start setup → Stops plain m es i n → IsRefusedEagerly setup es i n
stops_from_start setup plain m es i n p q s =
    subst (λ (x : Machine). Stops x (start setup) es i n) p (subst (λ (x : Machine). Stops plain x es i n) q s)
