-- The first fault of a suffix is also the first fault of the whole, if the prefix has none.
use Rattle.std.proofs.Common.{◌≡◌, ℕ, ◌*◌, ◌<◌, length, length-drop, arith, sym, ap, ◌∙◌, Bool, true, false, cond, List, drop, Some, None, Result, Ok, Err, inl, inr, ◌⊎◌}
use Rattle.std.specs.Prelude.{IfErr, nat_lt, slice_index}
use Rattle.std.specs.Global.{Vec}
use Rattle.byteorder.specs.Endian.{little_number}
use Rattle.scenario.specs.declared.event.Event.{Event}
use Rattle.traces.specs.declared.fault.TraceFault.{TraceFault}
use Rattle.traces.specs.declared.fault.TraceFault.TheVariants.{Magic, Truncated, Count, Kind, Padding, Trailing, Memory, Setup}
use Rattle.traces.specs.Spelling.{magic}
use Rattle.traces.specs.Faults.{is_kind, is_padded, event_fault, AreClean, IsEventsFault, HasCount, IsCountedFault, BeginsAs, IsFault}

-- The check of an event never results in Count.
never_count : (a b c : Bool) → cond a (Some Truncated) (cond b (cond c None (Some Padding)) (Some Kind)) ≡ Some Count → ⊥
never_count true b c e = cc
never_count false true true e = cc
never_count false true false e = cc
never_count false false c e = cc

never_magic : (a b c : Bool) → cond a (Some Truncated) (cond b (cond c None (Some Padding)) (Some Kind)) ≡ Some Magic → ⊥
never_magic true b c e = cc
never_magic false true true e = cc
never_magic false true false e = cc
never_magic false false c e = cc

never_trailing : (a b c : Bool) → cond a (Some Truncated) (cond b (cond c None (Some Padding)) (Some Kind)) ≡ Some Trailing → ⊥
never_trailing true b c e = cc
never_trailing false true true e = cc
never_trailing false true false e = cc
never_trailing false false c e = cc

no_count : (bytes : List ℕ) → event_fault bytes ≡ Some Count → ⊥
no_count bytes e = never_count (nat_lt (length bytes) 16) (is_kind (slice_index bytes 0)) (is_padded bytes) e

no_magic : (bytes : List ℕ) → event_fault bytes ≡ Some Magic → ⊥
no_magic bytes e = never_magic (nat_lt (length bytes) 16) (is_kind (slice_index bytes 0)) (is_padded bytes) e

no_trailing : (bytes : List ℕ) → event_fault bytes ≡ Some Trailing → ⊥
no_trailing bytes e = never_trailing (nat_lt (length bytes) 16) (is_kind (slice_index bytes 0)) (is_padded bytes) e

-- The first event with a fault, after those without one.
pub of_event : (count i : ℕ) (bytes rest : List ℕ) (fault : TraceFault) → i < count → AreClean i bytes → rest ≡ drop (16 * i) bytes
    → event_fault rest ≡ Some fault → IsEventsFault count bytes fault
of_event count i bytes rest Trailing lt clean place e = absurd (no_trailing rest e)
of_event count i bytes rest Magic lt clean place e = (i, lt, clean, ap event_fault (sym place) ∙ e)
of_event count i bytes rest Truncated lt clean place e = (i, lt, clean, ap event_fault (sym place) ∙ e)
of_event count i bytes rest Count lt clean place e = (i, lt, clean, ap event_fault (sym place) ∙ e)
of_event count i bytes rest Kind lt clean place e = (i, lt, clean, ap event_fault (sym place) ∙ e)
of_event count i bytes rest Padding lt clean place e = (i, lt, clean, ap event_fault (sym place) ∙ e)
of_event count i bytes rest Memory lt clean place e = (i, lt, clean, ap event_fault (sym place) ∙ e)
of_event count i bytes rest (Setup offset) lt clean place e = (i, lt, clean, ap event_fault (sym place) ∙ e)

-- If bytes remain after n bytes, there are more than n.
pub place_below : (n : ℕ) (bytes rest : List ℕ) → rest ≡ drop n bytes → 0 < length rest → n < length bytes
place_below n bytes rest place some = omega (arith, length-drop n bytes, ap length place)

of_counted : (bytes : List ℕ) (fault : TraceFault) → HasCount bytes → IsEventsFault (little_number 4 bytes) (drop 4 bytes) fault → IsCountedFault bytes fault
of_counted bytes Magic has h = (has, h)
of_counted bytes Truncated has h = inr (has, h)
of_counted bytes Count has h = absurd (no_count (drop (16 * h.0) (drop 4 bytes)) h.3)
of_counted bytes Kind has h = (has, h)
of_counted bytes Padding has h = (has, h)
of_counted bytes Trailing has h = (has, h)
of_counted bytes Memory has h = (has, h)
of_counted bytes (Setup offset) has h = (has, h)

of_trace : (bytes : List ℕ) (fault : TraceFault) → BeginsAs magic bytes → IsCountedFault (drop 8 bytes) fault → IsFault bytes fault
of_trace bytes Magic begins h = absurd (no_magic (drop (16 * h.1.0) (drop 4 (drop 8 bytes))) h.1.3)
of_trace bytes Truncated begins h = (begins, h)
of_trace bytes Count begins h = (begins, h)
of_trace bytes Kind begins h = (begins, h)
of_trace bytes Padding begins h = (begins, h)
of_trace bytes Trailing begins h = (begins, h)
of_trace bytes Memory begins h = (begins, h)
of_trace bytes (Setup offset) begins h = (begins, h)

pub counted_fault : (bytes : List ℕ) (r : Result (Vec Event) TraceFault) → HasCount bytes
    → IfErr r (λ fault. (fault ≡ Memory) ⊎ IsEventsFault (little_number 4 bytes) (drop 4 bytes) fault)
    → IfErr r (λ fault. (fault ≡ Memory) ⊎ IsCountedFault bytes fault)
counted_fault bytes (Ok v) has h = tt
counted_fault bytes (Err fault) has h = elim h [ inl e ↦ inl e | inr g ↦ inr (of_counted bytes fault has g) ]

pub trace_fault : (bytes : List ℕ) (r : Result (Vec Event) TraceFault) → BeginsAs magic bytes
    → IfErr r (λ fault. (fault ≡ Memory) ⊎ IsCountedFault (drop 8 bytes) fault)
    → IfErr r (λ fault. (fault ≡ Memory) ⊎ IsFault bytes fault)
trace_fault bytes (Ok v) begins h = tt
trace_fault bytes (Err fault) begins h = elim h [ inl e ↦ inl e | inr g ↦ inr (of_trace bytes fault begins g) ]
