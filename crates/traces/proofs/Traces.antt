-- A trace determines its events, and has no fault.
use Rattle.std.proofs.Common.{◌≡◌, ℕ, zero, suc, ◌+◌, ◌*◌, ◌<◌, min, List, [], ◌∷◌, ◌++◌, length, take, drop, get_or, true, Some, Result, Ok, Err, refl, sym, ap, subst, ◌∙◌, inl, inr, ◌⊎◌, arith, length-append}
use Rattle.std.proofs.lemmas.List.{append_assoc, take-append-drop, drop-drop, flat_map_more, take_at, take_all, take_more, get_or_default}
use Rattle.std.proofs.lemmas.List.Recursion.{and_at}
use Rattle.std.specs.Prelude.{IfOk, IfErr, MatchResult}
use Rattle.std.specs.Global.{Vec}
use Rattle.std.specs.List.{flat_map, list_all, AllByRecursion}
use Rattle.byteorder.specs.Endian.{little_bytes, little_number}
use Rattle.byteorder.specs.Numbers.{little_number-reads_back}
use Rattle.scenario.specs.declared.event.Event.{Event}
use Rattle.scenario.specs.declared.event.Event.TheVariants.{Sleep}
use Rattle.traces.specs.declared.fault.TraceFault.{TraceFault}
use Rattle.traces.specs.declared.fault.TraceFault.TheVariants.{Magic, Truncated, Count, Kind, Padding, Trailing, Memory, Setup}
use Rattle.traces.specs.Spelling.{event_bytes, counted_bytes, trace_bytes, magic, Fits, has_transfer, AreEvents, IsTrace}
use Rattle.traces.specs.Faults.{event_fault, AreClean, IsEventsFault, IsCountedFault, BeginsAs, IsFault}
use Rattle.traces.proofs.Events.{same_event, event_clean}

-- One more event that fits.
pub fits_push : (es : List Event) (e : Event) → AllByRecursion Fits es → Fits e → AllByRecursion Fits (es ++ e ∷ [])
fits_push [] e h f = (f, tt)
fits_push (x ∷ es) e h f = (h.0, fits_push es e h.1 f)

-- One more event that was read.
pub read_more : (bytes rest : List ℕ) (es : List Event) (e : Event) → bytes ≡ flat_map event_bytes es ++ rest
    → take 16 rest ≡ event_bytes e → bytes ≡ flat_map event_bytes (es ++ e ∷ []) ++ drop 16 rest
read_more bytes rest es e h s =
    let split : rest ≡ event_bytes e ++ drop 16 rest = sym (take-append-drop 16 rest) ∙ ap (λ (xs : List ℕ). xs ++ drop 16 rest) s in
    let more : flat_map event_bytes es ++ event_bytes e ≡ flat_map event_bytes (es ++ e ∷ []) = flat_map_more event_bytes [] es e in
    h ∙ ap (λ (xs : List ℕ). flat_map event_bytes es ++ xs) split
    ∙ sym (append_assoc (flat_map event_bytes es) (event_bytes e) (drop 16 rest))
    ∙ ap (λ (xs : List ℕ). xs ++ drop 16 rest) more

-- An event at a valid index doesn't depend on the default.
pub read_there : (es : List Event) (i : ℕ) (d : Event) → i < length es → get_or es i d ≡ get_or es i Sleep
read_there es i d lt = get_or_default es i d Sleep lt

-- One more event that was written.
pub written_more : (es : List Event) (i : ℕ) (front count out bytes : List ℕ) → i < length es
    → out ≡ front ++ (count ++ flat_map event_bytes (take i es)) → bytes ≡ event_bytes (get_or es i Sleep)
    → out ++ bytes ≡ front ++ (count ++ flat_map event_bytes (take (i + 1) es))
written_more es i front count out bytes lt e b =
    let more : flat_map event_bytes (take i es) ++ event_bytes (get_or es i Sleep) ≡ flat_map event_bytes (take (i + 1) es) =
    flat_map_more event_bytes [] (take i es) (get_or es i Sleep) ∙ ap (λ (xs : List Event). flat_map event_bytes xs) (sym (take_more es i Sleep lt)) in
    ap (λ (xs : List ℕ). xs ++ bytes) e ∙ append_assoc front (count ++ flat_map event_bytes (take i es)) bytes
    ∙ ap (λ (xs : List ℕ). front ++ xs) (append_assoc count (flat_map event_bytes (take i es)) bytes)
    ∙ ap (λ (xs : List ℕ). front ++ (count ++ (flat_map event_bytes (take i es) ++ xs))) b
    ∙ ap (λ (xs : List ℕ). front ++ (count ++ xs)) more

-- One more event that was written and fits.
pub fits_more : (es : List Event) (i : ℕ) → i < length es → list_all has_transfer es ≡ true → AllByRecursion Fits (take i es)
    → (has_transfer (get_or es i Sleep) ≡ true → Fits (get_or es i Sleep)) → AllByRecursion Fits (take (i + 1) es)
fits_more es i lt all before fits =
    rw (take_more es i Sleep lt) (fits_push (take i es) (get_or es i Sleep) before (fits (and_at (list_all has_transfer) has_transfer refl (λ _ _. refl) es i Sleep lt all)))

same_events : (ds es : List Event) → AllByRecursion Fits ds → AllByRecursion Fits es → flat_map event_bytes ds ≡ flat_map event_bytes es → ds ≡ es
same_events [] [] f g h = refl
same_events [] (e ∷ es) f g h = absurd cc
same_events (d ∷ ds) [] f g h = absurd cc
same_events (d ∷ ds) (e ∷ es) f g h =
    let first : d ≡ e = same_event d e f.0 g.0 (ap (λ (bytes : List ℕ). take 16 bytes) h) in
    let others : ds ≡ es = same_events ds es f.1 g.1 (ap (λ (bytes : List ℕ). drop 16 bytes) h) in
    rw (first, others) refl

-- Lists of events with the same trace are equal.
pub same_trace : (ds es : List Event) (bytes : List ℕ) → IsTrace ds bytes → IsTrace es bytes → ds ≡ es
same_trace ds es bytes f g = same_events ds es f.0.1 g.0.1 (ap (λ (xs : List ℕ). drop 12 xs) (sym f.1 ∙ g.1))

-- Each event has 16 bytes.
pub length_events : (es : List Event) → length (flat_map event_bytes es) ≡ 16 * length es
length_events [] = refl
length_events (e ∷ es) = omega (arith, length-append (event_bytes e) (flat_map event_bytes es), length_events es)

events_clean : (es : List Event) → AllByRecursion Fits es → AreClean (length es) (flat_map event_bytes es)
events_clean [] h k lt = absurd (omega arith)
events_clean (e ∷ es) h zero lt = event_clean e (flat_map event_bytes es) h.0
events_clean (e ∷ es) h (suc k) lt =
    let place : 16 * suc k ≡ 16 + 16 * k = omega arith in
    let later : drop (16 * suc k) (event_bytes e ++ flat_map event_bytes es) ≡ drop (16 * k) (flat_map event_bytes es) =
    ap (λ (n : ℕ). drop n (event_bytes e ++ flat_map event_bytes es)) place ∙ sym (drop-drop (16 * k) 16 (event_bytes e ++ flat_map event_bytes es)) in
    ap event_fault later ∙ events_clean es h.1 k (omega arith)

no_later_fault : (es : List Event) (fault : TraceFault) (k : ℕ) → AllByRecursion Fits es → k < length es → event_fault (drop (16 * k) (flat_map event_bytes es)) ≡ Some fault → ⊥
no_later_fault es fault k h lt e = let clean = events_clean es h k lt in cc

no_events_fault : (es : List Event) (fault : TraceFault) → AllByRecursion Fits es → IsEventsFault (length es) (flat_map event_bytes es) fault → ⊥
no_events_fault es Trailing h g = omega (arith, length_events es, g.1)
no_events_fault es Magic h g = no_later_fault es _ g.0 h g.1 g.3
no_events_fault es Truncated h g = no_later_fault es _ g.0 h g.1 g.3
no_events_fault es Count h g = no_later_fault es _ g.0 h g.1 g.3
no_events_fault es Kind h g = no_later_fault es _ g.0 h g.1 g.3
no_events_fault es Padding h g = no_later_fault es _ g.0 h g.1 g.3
no_events_fault es Memory h g = no_later_fault es _ g.0 h g.1 g.3
no_events_fault es (Setup offset) h g = no_later_fault es _ g.0 h g.1 g.3

-- The count before the encoded events.
count_is : (es : List Event) → AreEvents es → little_number 4 (counted_bytes es) ≡ length es
count_is es h = little_number-reads_back 4 (length es) (flat_map event_bytes es) (omega (arith, h.0))

no_fault_after : (es : List Event) (fault : TraceFault) → AreEvents es → IsEventsFault (little_number 4 (counted_bytes es)) (drop 4 (counted_bytes es)) fault → ⊥
no_fault_after es fault h g =
    no_events_fault es fault h.1 (subst (λ (n : ℕ). IsEventsFault n (flat_map event_bytes es) fault) (count_is es h) g)

-- Encoded events with their count have no fault.
pub no_counted_fault : (es : List Event) (fault : TraceFault) → AreEvents es → IsCountedFault (counted_bytes es) fault → ⊥
no_counted_fault es Truncated h g =
    elim g [
      | inl short ↦ omega (arith, length-append (little_bytes 4 (length es)) (flat_map event_bytes es), short)
      | inr in_events ↦ no_fault_after es Truncated h in_events.1
    ]
no_counted_fault es Count h g = omega (arith, count_is es h, h.0, g.1)
no_counted_fault es Magic h g = no_fault_after es Magic h g.1
no_counted_fault es Kind h g = no_fault_after es Kind h g.1
no_counted_fault es Padding h g = no_fault_after es Padding h g.1
no_counted_fault es Trailing h g = no_fault_after es Trailing h g.1
no_counted_fault es Memory h g = no_fault_after es Memory h g.1
no_counted_fault es (Setup offset) h g = no_fault_after es (Setup offset) h g.1

pub begins : (text rest : List ℕ) → length text ≡ 8 → BeginsAs text (text ++ rest)
begins text rest n =
    let whole : min 8 (length (text ++ rest)) ≡ 8 = omega (arith, length-append text rest) in
    rw whole (take_at text rest 8 n ∙ sym (take_all 8 text (omega arith)))

pub no_trace_fault : (es : List Event) (fault : TraceFault) → AreEvents es → IsFault (trace_bytes es) fault → ⊥
no_trace_fault es Magic h g = g (begins magic (counted_bytes es) refl)
no_trace_fault es Truncated h g = no_counted_fault es Truncated h g.1
no_trace_fault es Count h g = no_counted_fault es Count h g.1
no_trace_fault es Kind h g = no_counted_fault es Kind h g.1
no_trace_fault es Padding h g = no_counted_fault es Padding h g.1
no_trace_fault es Trailing h g = no_counted_fault es Trailing h g.1
no_trace_fault es Memory h g = no_counted_fault es Memory h g.1
no_trace_fault es (Setup offset) h g = no_counted_fault es (Setup offset) h g.1

-- A trace is read, unless an allocation fails.
pub only_answer : (bytes : List ℕ) (r : Result (Vec Event) TraceFault) → IfOk r (λ found. IsTrace found.items bytes)
    → IfErr r (λ fault. (fault ≡ Memory) ⊎ IsFault bytes fault)
    → (es : List Event) → IsTrace es bytes → MatchResult r (λ found. found.items ≡ es) (λ fault. fault ≡ Memory)
only_answer bytes (Ok v) found fault es h = same_trace v.items es bytes found h
only_answer bytes (Err f) found fault es h =
    elim fault [
      | inl e ↦ e
      | inr g ↦ absurd (no_trace_fault es f h.0 (subst (λ (xs : List ℕ). IsFault xs f) h.1 g))
    ]
