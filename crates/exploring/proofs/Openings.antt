-- Workers at the start of a program, at the end of the opening, and after a run.
use Rattle.std.proofs.Common.{◌≡◌, ℕ, ◌≤◌, List, [], ◌∷◌, length, take, refl, sym, ap, ◌∙◌, subst, arith}
use Rattle.std.specs.Prelude.{Option, Some, None, IfSome}
use Rattle.std.proofs.lemmas.List.{take_all, take-append-le, length-append, length-take}
use Rattle.places.specs.declared.value.Change.{Change}
use Rattle.scenario.specs.declared.event.Event.{Event}
use Rattle.scenario.specs.declared.setup.Setup.{Setup}
use Rattle.machine.specs.declared.whole.Machine.{Machine}
use Rattle.machine.specs.Runs.{start, run, Accepts, Linked}
use Rattle.machine.proofs.LinkedRuns.{linked_runs, linked_accepts}
use Rattle.runs.specs.Moments.{IsAt}
use Rattle.findings.specs.declared.searching.Search.{Search}
use Rattle.findings.specs.Copies.{IsCopy}
use Rattle.sampling.specs.declared.draws.SampleOptions.{SampleOptions}
use Rattle.sampling.specs.Samples.{IsOpening, IsBegin}
use Rattle.exploring.specs.declared.random_runs.RandomRuns.{RandomRuns}
use Rattle.exploring.specs.declared.random_runs.Worker.{Worker}
use Rattle.exploring.specs.RandomRuns.{CanRun, HasSearchedBy, HasSeen, IsReady, IsOpened}

-- ---- runs

-- A worker is after all events of its run.
pub at_end : (s : Setup) (m : Machine) (es : List Event) (rs : List (List Change)) → Linked (start s) es rs m → IsAt s es (length es) m
at_end s m es rs l =
    let all = sym (take_all (length es) es (omega arith)) in
    record {
      runs = subst (λ (xs : List Event). Accepts (start s) xs) all (linked_accepts (start s) m es rs l);
      here = linked_runs (start s) m es rs l ∙ ap (λ (xs : List Event). run (start s) xs) all;
    }

-- The records also lead back from each machine that is after all events.
pub linked_again : (s : Setup) (m n : Machine) (es : List Event) (rs : List (List Change)) → Linked (start s) es rs m → IsAt s es (length es) n → Linked (start s) es rs n
linked_again s m n es rs l at =
    let here : n ≡ m = at.here ∙ ap (λ (xs : List Event). run (start s) xs) (take_all (length es) es (omega arith)) ∙ sym (linked_runs (start s) m es rs l) in
    subst (λ (x : Machine). Linked (start s) es rs x) (sym here) l

linked_none : (m n : Machine) (rs : List (List Change)) → Linked m [] rs n → n ≡ m
linked_none m n [] l = l
linked_none m n (r ∷ rs) l = absurd l

pub linked_nothing : (m n : Machine) (es : List Event) (rs : List (List Change)) → es ≡ [] → Linked m es rs n → n ≡ m
linked_nothing m n es rs e l = linked_none m n rs (subst (λ (xs : List Event). Linked m xs rs n) e l)

-- ---- openings

no_opening : (s : Setup) (o : SampleOptions) → IsOpening s o [] 0
no_opening s o = record { all = λ seed number. refl; within = omega arith }

-- Any program's runs begin with no event.
pub nothing_opens : (s : Setup) (o : SampleOptions) (es : List Event) (row : ℕ) → es ≡ [] → row ≡ 0 → IsOpening s o es row
nothing_opens s o es row e z = rw (e, z) (no_opening s o)

seen_none : (x : Option Search) (P : Search → Type 0) → x ≡ None → IfSome x P
seen_none x P e = subst (λ (y : Option Search). IfSome y P) (sym e) tt

-- A worker at the start.
pub starts_ready : (r : RandomRuns) (w : Worker) → CanRun r → Linked (start r.setup.now) w.sample.events.items w.sample.records.items w.state → w.opening ≡ 0 → w.opening_row ≡ 0 → w.search ≡ None → IsReady r w
starts_ready r w runs l opening row search = record {
  runs = runs;
  linked = l;
  within = omega (arith, opening);
  opening = nothing_opens r.setup.now r.options (take w.opening w.sample.events.items) w.opening_row (ap (λ (k : ℕ). take k w.sample.events.items) opening) row;
  seen = seen_none w.search _ search;
}

pub first_ready : (r : RandomRuns) (w : Worker) → CanRun r → w.state ≡ start r.setup.now → w.sample.events.items ≡ [] → w.sample.records.items ≡ [] → w.opening ≡ 0 → w.opening_row ≡ 0 → w.search ≡ None → IsReady r w
first_ready r w runs state events records opening row search = starts_ready r w runs (rw (events, records) state) opening row search

pub starts_opened : (r : RandomRuns) (w : Worker) → CanRun r → w.sample.events.items ≡ [] → Linked (start r.setup.now) w.sample.events.items w.sample.records.items w.state → w.opening ≡ 0 → w.opening_row ≡ 0 → w.sample.next_row ≡ 0 → w.search ≡ None → IsOpened r w
starts_opened r w runs events l opening row next search = record {
  ready = starts_ready r w runs l opening row search;
  whole = nothing_opens r.setup.now r.options w.sample.events.items w.sample.next_row events next;
}

-- ---- longer and shorter runs

-- A worker whose run begins as another's does, at least for the opening.
ready_as : (r : RandomRuns) (w v : Worker) → IsReady r w → take v.opening v.sample.events.items ≡ take w.opening w.sample.events.items → v.opening ≤ length v.sample.events.items → v.opening ≡ w.opening → v.opening_row ≡ w.opening_row → v.search ≡ w.search
    → Linked (start r.setup.now) v.sample.events.items v.sample.records.items v.state → IsReady r v
ready_as r w v h same within opening row search l = record {
  runs = h.runs;
  linked = l;
  within = within;
  opening = rw (same, row) h.opening;
  seen = rw (search, same, opening) h.seen;
}

-- A worker that made its run once more.
pub ready_at : (r : RandomRuns) (w v : Worker) → IsReady r w → v.sample.events.items ≡ w.sample.events.items → v.sample.records.items ≡ w.sample.records.items → v.opening ≡ w.opening → v.opening_row ≡ w.opening_row → v.search ≡ w.search
    → IsAt r.setup.now w.sample.events.items (length w.sample.events.items) v.state → IsReady r v
ready_at r w v h events records opening row search at =
    let l = linked_again r.setup.now w.state v.state w.sample.events.items w.sample.records.items h.linked at in
    ready_as r w v h (rw (events, opening) refl) (rw (events, opening) h.within) opening row search (rw (events, records) l)

take_twice : (n : ℕ) (es : List Event) → n ≤ length es → take n (take n es) ≡ take n es
take_twice n es h = let count = length-take n es in take_all n (take n es) (omega (arith, count))

count_of : (n : ℕ) (es : List Event) → n ≤ length es → length (take n es) ≡ n
count_of n es h = let count = length-take n es in omega (arith, count, h)

-- The worker went back to the end of the opening.
pub opened_again : (r : RandomRuns) (w v : Worker) → IsReady r w → v.sample.events.items ≡ take w.opening w.sample.events.items → v.opening ≡ w.opening → v.opening_row ≡ w.opening_row → v.sample.next_row ≡ w.opening_row → v.search ≡ w.search → Linked (start r.setup.now) v.sample.events.items v.sample.records.items v.state → IsOpened r v
opened_again r w v h events opening row next search l =
    let same : take v.opening v.sample.events.items ≡ take w.opening w.sample.events.items = rw (events, opening) (take_twice w.opening w.sample.events.items h.within) in
    let count = ap (λ (xs : List Event). length xs) events ∙ count_of w.opening w.sample.events.items h.within in
    record {
      ready = ready_as r w v h same (omega (arith, count, opening)) opening row search l;
      whole = rw (events, next) h.opening;
    }

-- The run was continued.
pub ready_more : (r : RandomRuns) (w v : Worker) → IsReady r w → IsBegin w.sample.events.items v.sample.events.items → v.opening ≡ w.opening → v.opening_row ≡ w.opening_row → v.search ≡ w.search → Linked (start r.setup.now) v.sample.events.items v.sample.records.items v.state → IsReady r v
ready_more r w v h begins opening row search l =
    let same : take v.opening v.sample.events.items ≡ take w.opening w.sample.events.items = rw (begins.1, opening) (take-append-le w.opening w.sample.events.items begins.0 h.within) in
    let grown = ap (λ (xs : List Event). length xs) begins.1 ∙ length-append w.sample.events.items begins.0 in
    let within = h.within in
    ready_as r w v h same (omega (arith, grown, opening, within)) opening row search l

-- ---- searches

pub copy_seen : (s : Setup) (es fs : List Event) (n k : ℕ) (x y : Search) → HasSearchedBy s es n x → fs ≡ es → k ≡ n → y.found.items ≡ x.found.items → y.numbers.items ≡ x.numbers.items → y.watches.items ≡ x.watches.items → IsCopy x.files y.files → HasSearchedBy s fs k y
copy_seen s es fs n k x y h events count found numbers watches files = rw (events, count, found, numbers, watches, files.writes, files.suspects, files.retried) h

-- A copy of the search that has seen the opening.
pub again_seen : (r : RandomRuns) (w v : Worker) (x y : Search) → IsReady r w → w.search ≡ Some x → v.sample.events.items ≡ take w.opening w.sample.events.items → y.found.items ≡ x.found.items → y.numbers.items ≡ x.numbers.items → y.watches.items ≡ x.watches.items → IsCopy x.files y.files → HasSeen r v y
again_seen r w v x y h is events found numbers watches files =
    let seen : IfSome (Some x) (HasSearchedBy r.setup.now (take w.opening w.sample.events.items) w.opening) = subst (λ (o : Option Search). IfSome o (HasSearchedBy r.setup.now (take w.opening w.sample.events.items) w.opening)) is h.seen in
    copy_seen r.setup.now (take w.opening w.sample.events.items) v.sample.events.items w.opening (length v.sample.events.items) x y seen events
    (ap (λ (xs : List Event). length xs) events ∙ count_of w.opening w.sample.events.items h.within) found numbers watches files

-- A new opening, and a copy of the search that has seen it.
pub newly_opened : (r : RandomRuns) (w : Worker) (x y : Search) → CanRun r → IsOpening r.setup.now r.options w.sample.events.items w.sample.next_row → Linked (start r.setup.now) w.sample.events.items w.sample.records.items w.state → w.opening ≡ length w.sample.events.items → w.opening_row ≡ w.sample.next_row → w.search ≡ Some y
    → HasSeen r w x → y.found.items ≡ x.found.items → y.numbers.items ≡ x.numbers.items → y.watches.items ≡ x.watches.items → IsCopy x.files y.files → IsOpened r w
newly_opened r w x y runs whole l opening row search seen found numbers watches files =
    let all : take w.opening w.sample.events.items ≡ w.sample.events.items = take_all w.opening w.sample.events.items (omega (arith, opening)) in
    record {
      ready = record {
        runs = runs;
        linked = l;
        within = omega (arith, opening);
        opening = rw (all, row) whole;
        seen = rw search (copy_seen r.setup.now w.sample.events.items (take w.opening w.sample.events.items) (length w.sample.events.items) w.opening x y seen all opening found numbers watches files);
      };
      whole = whole;
    }
