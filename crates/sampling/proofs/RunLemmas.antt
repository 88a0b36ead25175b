-- Runs of chosen events.
use Rattle.std.proofs.Common.{◌≡◌, ℕ, zero, suc, ◌-◌, ◌<◌, ◌≤◌, List, [], ◌∷◌, ◌++◌, length, take, drop, map, refl, sym, ap, ◌∙◌, subst, inl, inr, arith, length-append, append_assoc, Bool, true, false}
use Rattle.std.specs.Prelude.{Some, None, nat_le, ◌&&◌, slice_get}
use Rattle.std.proofs.lemmas.Bool.Decides.{nat_tests}
use Rattle.std.proofs.Math.Seq.{take-append_seam, get_or-append_seam}
use Rattle.std.proofs.lemmas.List.{take_all, length-drop}
use Rattle.places.specs.declared.value.Change.{Change}
use Rattle.scenario.specs.Setups.{setup_refusal, has_programs}
use Rattle.scenario.specs.declared.event.Event.{Event}
use Rattle.scenario.specs.declared.setup.Setup.{Setup}
use Rattle.scenario.specs.declared.setup.Instruction.{Instruction}
use Rattle.machine.specs.declared.whole.Machine.{Machine}
use Rattle.machine.specs.Threads.{program_of, thread_start}
use Rattle.machine.specs.Whole.{view, WellFormed}
use Rattle.places.specs.View.{Exact, LeadsBack}
use Rattle.machine.specs.Steps.{refusal, after, Next}
use Rattle.machine.specs.Runs.{start, run, Accepts, Link, Linked}
use Rattle.machine.proofs.Growing.{grows_after}
use Rattle.machine.proofs.LinkedRuns.{linked_runs, linked_accepts, linked_more, linked_take}
use Rattle.runs.specs.Moments.{IsAt, IsBefore, IsAfter}
use Rattle.runs.proofs.Continuing.{is_after}
use Rattle.machine.proofs.StartLemmas.{accepted}
use Rattle.sampling.specs.declared.draws.Source.{Source}
use Rattle.sampling.specs.declared.draws.SampleOptions.{SampleOptions}
use Rattle.sampling.specs.Draws.{source_of}
use Rattle.prompt_order.proofs.Dues.{due_active}
use Rattle.sampling.specs.Samples.{IsNext, AllNext, IsEnd, IsRun, IsBegun, IsBegin, IsForced, IsOpening, IsLast}

-- ---- programs

started : (ps : List (List Instruction)) → map program_of (map thread_start ps) ≡ ps
started [] = refl
started (p ∷ ps) = ap (λ qs. p ∷ qs) (started ps)

pub programs_stay : (m n : Machine) (e : Event) → WellFormed m → Next m e n → map program_of n.threads ≡ map program_of m.threads
programs_stay m n e f next = ap (λ (x : Machine). map program_of x.threads) next.changed ∙ sym (grows_after m e f next.accepted).setup.programs

programs_linked : (m n : Machine) (es : List Event) (rs : List (List Change)) → Linked m es rs n → map program_of n.threads ≡ map program_of m.threads
programs_linked m n [] [] l = ap (λ (x : Machine). map program_of x.threads) l
programs_linked m n [] (r ∷ rs) l = absurd l
programs_linked m n (e ∷ es) [] l = absurd l
programs_linked m n (e ∷ es) (r ∷ rs) l = programs_linked l.0 n es rs l.2 ∙ programs_stay m l.0 e l.1.formed l.1.next

-- The threads of a run have the programs of its setup.
pub run_programs : (s : Setup) (m : Machine) (es : List Event) (rs : List (List Change)) → Linked (start s) es rs m → map program_of m.threads ≡ s.threads
run_programs s m es rs l = programs_linked (start s) m es rs l ∙ started s.threads

-- A setup from which a run can start has at most 16 threads.
pub few_threads : (s : Setup) → setup_refusal s ≡ None → length s.threads ≤ 16
few_threads s h = by (nat_le (length s.threads) 16) refl (accepted s h).programs
  where
    by : (b : Bool) → nat_le (length s.threads) 16 ≡ b → has_programs s ≡ true → length s.threads ≤ 16
    by true e k = grind (arith, nat_tests)
    by false e k = let f = ap (λ x. x && true) e in absurd cc

-- ---- the next events

pub next_accepted : (s : Source) (m : Machine) (from : ℕ) (e : Event) (next : ℕ) → IsNext s m from e next → refusal m e ≡ None
next_accepted s m from e next (inl h) = (due_active m from h.request e h.due).accepted
next_accepted s m from e next (inr h) = h.chosen.ready.accepted

next_more : (s : Source) (m : Machine) (from : ℕ) (es : List Event) (mid : ℕ) (e : Event) (next : ℕ) → AllNext s m from es mid → IsNext s (run m es) mid e next → AllNext s m from (es ++ e ∷ []) next
next_more s m from [] mid e next h k = (next, subst (λ (n : ℕ). IsNext s m n e next) (sym h) k, refl)
next_more s m from (f ∷ fs) mid e next h k = (h.0, h.1, next_more s (after m f) h.0 fs mid e next h.2 k)

one_next : (s : Source) (m n : Machine) (es fs : List Event) (rs : List (List Change)) (mid : ℕ) (e : Event) (next : ℕ) → Linked m es rs n → AllNext s m 0 es mid → IsNext s n mid e next → fs ≡ es ++ e ∷ [] → AllNext s m 0 fs next
one_next s m n es fs rs mid e next l h k is = subst (λ xs. AllNext s m 0 xs next) (sym is) (next_more s m 0 es mid e next h (subst (λ (x : Machine). IsNext s x mid e next) (linked_runs m n es rs l) k))

within_more : (es fs : List Event) (e : Event) (most : ℕ) → fs ≡ es ++ e ∷ [] → length es < most → length fs ≤ most
within_more es fs e most is less = let grown = ap (λ xs. length xs) is ∙ length-append es (e ∷ []) in omega (arith, grown, less)

pub begun_more : (s : Source) (most : ℕ) (m n o : Machine) (es fs : List Event) (mid : ℕ) (rs qs : List (List Change)) (e : Event) (next : ℕ) → IsBegun s most m es mid rs n → length es < most → IsNext s n mid e next → fs ≡ es ++ e ∷ [] → Linked m fs qs o → IsBegun s most m fs next qs o
begun_more s most m n o es fs mid rs qs e next h less k is l = record {
  all = one_next s m n es fs rs mid e next h.linked h.all k is;
  within = within_more es fs e most is less;
  linked = l;
}

pub run_ends : (s : Source) (most : ℕ) (m n : Machine) (es : List Event) (next : ℕ) (rs : List (List Change)) → IsBegun s most m es next rs n → IsEnd s n next → IsRun s most m 0 es
run_ends s most m n es next rs h end = record {
  next = next;
  all = h.all;
  within = h.within;
  ends = λ less. subst (λ (x : Machine). IsEnd s x next) (linked_runs m n es rs h.linked) end;
}

pub run_is_full : (s : Source) (most : ℕ) (m n : Machine) (es : List Event) (next : ℕ) (rs : List (List Change)) → IsBegun s most m es next rs n → most ≤ length es → IsRun s most m 0 es
run_is_full s most m n es next rs h full = record {
  next = next;
  all = h.all;
  within = h.within;
  ends = λ (less : length es < most). absurd (omega (arith, less, full));
}

pub link_more : (o m n : Machine) (es fs : List Event) (rs qs : List (List Change)) (e : Event) (r : List Change) → Link m e r n → fs ≡ es ++ e ∷ [] → qs ≡ rs ++ r ∷ [] → Linked o es rs m → Linked o fs qs n
link_more o m n es fs rs qs e r k f q l = rw (f, q) (linked_more o m n es rs e r l k)

pub accepts_from : (s m : Machine) (es : List Event) (rs : List (List Change)) → Linked s es rs m → Accepts s es
accepts_from s m es rs l = linked_accepts s m es rs l

-- ---- the last event

-- The machine after the earlier events is at the moment before the last one.
at_last : (s : Setup) (m : Machine) (es more : List Event) (rs : List (List Change)) → Linked (start s) es rs m → IsAt s (es ++ more) (length es) m
at_last s m es more rs l =
    let seam = take-append_seam es more in
    record {
      runs = subst (λ (xs : List Event). Accepts (start s) xs) (sym seam) (linked_accepts (start s) m es rs l);
      here = linked_runs (start s) m es rs l ∙ ap (λ (xs : List Event). run (start s) xs) (sym seam);
    }

last_there : (es : List Event) (e : Event) → slice_get (es ++ e ∷ []) (length es) ≡ Some e
last_there [] e = refl
last_there (x ∷ es) e = last_there es e

pub before_last : (s : Setup) (m : Machine) (es fs : List Event) (rs : List (List Change)) (n : ℕ) (e : Event) → IsLast s es rs fs n e m → IsBefore s fs n e m
before_last s m es fs rs n e h = rw (h.last, h.count) (record { there = last_there es e; at = at_last s m es (e ∷ []) rs h.linked })

pub after_last : (s : Setup) (m o : Machine) (es fs : List Event) (rs : List (List Change)) (n : ℕ) (e : Event) (past : List Change) → IsLast s es rs fs n e m → WellFormed m → Next m e o
    → Exact (view m) (view o) past → LeadsBack (view m) (view o) past → IsAfter s fs n e past o
after_last s m o es fs rs n e past h formed next exact back =
    let grown = ap (λ (xs : List Event). length xs) h.last ∙ length-append es (e ∷ []) in
    is_after s fs n m o e e past (omega (arith, grown, h.count)) (before_last s m es fs rs n e h).at
    (sym (rw (h.last, h.count) (get_or-append_seam es e [] e))) formed next exact back

-- ---- undoing to a moment

linked_drop : (s m : Machine) (es : List Event) (rs : List (List Change)) (n : ℕ) → Linked s es rs m → Linked (run s (take n es)) (drop n es) (drop n rs) m
linked_drop s m es rs zero l = l
linked_drop s m [] [] (suc n) l = l
linked_drop s m [] (r ∷ rs) (suc n) l = absurd l
linked_drop s m (e ∷ es) [] (suc n) l = absurd l
linked_drop s m (e ∷ es) (r ∷ rs) (suc n) l =
    subst (λ (x : Machine). Linked (run x (take n es)) (drop n es) (drop n rs) m) l.1.next.changed (linked_drop l.0 m es rs n l.2)

-- A part of a list from a number on.
pub part_is : {A : Type 0} (n : ℕ) (xs ys : List A) → xs ≡ ys → take (length xs - n) (drop n xs) ≡ drop n ys
part_is n xs ys e = let count = length-drop n xs in take_all (length xs - n) (drop n xs) (omega (arith, count)) ∙ ap (λ zs. drop n zs) e

-- The later records undo the later events.
pub can_unwind : (s m : Machine) (es : List Event) (rs qs : List (List Change)) (n : ℕ) → qs ≡ drop n rs → Linked s es rs m → Linked (run s (take n es)) (drop n es) qs m
can_unwind s m es rs qs n is l = subst (λ (xs : List (List Change)). Linked (run s (take n es)) (drop n es) xs m) (sym is) (linked_drop s m es rs n l)

-- What is left are the earlier ones.
pub unwound : (s m n : Machine) (es fs : List Event) (rs qs : List (List Change)) (k : ℕ) → Linked s es rs m → fs ≡ take k es → qs ≡ take k rs → n ≡ run s (take k es) → Linked s fs qs n
unwound s m n es fs rs qs k l f q is = rw (f, q, is) (linked_take s m es rs k l)

-- ---- the opening

-- A forced event more.
pub opening_more : (s : Setup) (o : SampleOptions) (m : Machine) (es fs : List Event) (rs : List (List Change)) (mid : ℕ) (e : Event) (next : ℕ) → IsOpening s o es mid → Linked (start s) es rs m → length es < o.most → IsForced o.late m mid e next → fs ≡ es ++ e ∷ [] → IsOpening s o fs next
opening_more s o m es fs rs mid e next h l less forced is = record {
  all = λ seed number. one_next (source_of o seed number) (start s) m es fs rs mid e next l (h.all seed number) (forced (source_of o seed number) refl) is;
  within = within_more es fs e o.most is less;
}

-- An opening is the beginning of each run.
pub opening_begun : (s : Setup) (o : SampleOptions) (source : Source) (m : Machine) (es : List Event) (next : ℕ) (rs : List (List Change)) (seed number : ℕ) → IsOpening s o es next → Linked (start s) es rs m → source ≡ source_of o seed number → IsBegun source o.most (start s) es next rs m
opening_begun s o source m es next rs seed number h l is = record {
  all = subst (λ (x : Source). AllNext x (start s) 0 es next) (sym is) (h.all seed number);
  within = h.within;
  linked = l;
}

pub begins_more : (first es fs : List Event) (e : Event) → IsBegin first es → fs ≡ es ++ e ∷ [] → IsBegin first fs
begins_more first es fs e h is = (h.0 ++ e ∷ [], is ∙ ap (λ (xs : List Event). xs ++ e ∷ []) h.1 ∙ append_assoc first h.0 (e ∷ []))
