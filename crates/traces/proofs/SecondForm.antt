-- Traces of the second form: reading and writing are inverse, and the first fault is unique.
use Rattle.std.proofs.Common.{◌≡◌, ℕ, ◌<◌, ◌≤◌, true, min, List, [], ◌∷◌, ◌++◌, length, take, drop, get_or, None, Result, Ok, Err, refl, sym, ap, subst, ◌∙◌, inl, inr, ◌⊎◌, arith}
use Rattle.std.proofs.lemmas.List.{take-append-drop, drop_all, append_assoc, length-append, take_at, take_all}
use Rattle.std.specs.Prelude.{IfOk, IfErr, MatchResult}
use Rattle.std.specs.Global.{Vec}
use Rattle.std.specs.List.{list_all, AllByRecursion}
use Rattle.std.proofs.lemmas.Bool.Decides.{nat_tests}
use Rattle.std.proofs.lemmas.Bool.{and_from}
use Rattle.entries.specs.declared.choice.Choice.TheVariants.{Full, Short, Eio}
use Rattle.scenario.specs.declared.event.Event.TheVariants.{Step, Take, Sleep, Issue, Finish, Expire, Tick}
use Rattle.scenario.specs.declared.event.Event.{Event}
use Rattle.scenario.specs.declared.setup.Setup.{Setup}
use Rattle.traces.specs.declared.fault.TraceFault.{TraceFault}
use Rattle.traces.specs.declared.fault.TraceFault.TheVariants.{Magic, Truncated, Count, Kind, Padding, Trailing, Memory, Setup as SetupFault}
use Rattle.traces.specs.Cursors.{Cursor}
use Rattle.traces.specs.Spelling.{counted_bytes, trace_bytes, magic, Fits, has_transfer, AreEvents, IsTrace}
use Rattle.traces.specs.Faults.{BeginsAs, IsCountedFault, IsFault}
use Rattle.scenario.specs.Setups.{setup_refusal}
use Rattle.traces.specs.Limits.{Widths}
use Rattle.traces.specs.Setups.{setup_bytes, magic2, trace2_bytes, canonical, IsTrace2}
use Rattle.traces.specs.Reading.{number_in, setup_at, after_magic, IsBodyFault, IsFault2}
use Rattle.traces.proofs.Taking.{IsBytes, IsBytes-drop, ok_is, cursor_at}
use Rattle.traces.proofs.Traces.{same_trace, no_counted_fault, begins}
use Rattle.traces.proofs.SetupLaws.{Spelled, setup_takes, setup_again}
use Rattle.traces.proofs.Startable.{startable, starting}
use Rattle.traces.proofs.Trimming.{canonical_spelled}

-- A fault of the events after a setup is a fault of the whole.
pub body_fault : (r : Result (Setup × Cursor) TraceFault) (setup : Setup) (s : Cursor) (rest : List ℕ) (fault : TraceFault) → r ≡ Ok (setup, s) → rest ≡ s.rest
    → (fault ≡ Memory) ⊎ IsCountedFault rest fault → (fault ≡ Memory) ⊎ IsBodyFault r fault
body_fault r setup s rest fault e f h =
    elim h [
      | inl m ↦ inl m
      | inr g ↦ inr (subst (λ (x : Result (Setup × Cursor) TraceFault). IsBodyFault x fault) (sym e) (subst (λ (xs : List ℕ). IsCountedFault xs fault) f g))
    ]

nothing_read : setup_at (cursor_at 8 []) ≡ Err Truncated
unfolding setup_at number_in
nothing_read = refl

-- Bytes that end before the setup.
pub short_fault : (bytes : List ℕ) → length bytes < 8 → IsBodyFault (setup_at (after_magic bytes)) Truncated
short_fault bytes lt =
    let none : drop 8 bytes ≡ [] = drop_all 8 bytes (omega arith) in
    let e : setup_at (after_magic bytes) ≡ Err Truncated = ap (λ (xs : List ℕ). setup_at (cursor_at 8 xs)) none ∙ nothing_read in
    subst (λ (x : Result (Setup × Cursor) TraceFault). IsBodyFault x Truncated) (sym e) refl

-- The bytes after the magic.
begun : (bytes : List ℕ) → 8 ≤ length bytes → BeginsAs magic2 bytes → bytes ≡ magic2 ++ drop 8 bytes
begun bytes le h =
    let whole : min 8 (length bytes) ≡ 8 = omega arith in
    let front : take 8 bytes ≡ magic2 = subst (λ (n : ℕ). take n bytes ≡ take n magic2) whole h in
    sym (take-append-drop 8 bytes) ∙ ap (λ (xs : List ℕ). xs ++ drop 8 bytes) front

abbrev pub Body : List ℕ → Setup → List Event → Type 0
Body bytes setup events = (s : Cursor) × (setup_at (after_magic bytes) ≡ Ok (setup, s)) × (s.rest ≡ counted_bytes events) × AreEvents events

-- The setup and events that were read have this trace.
body_spelled : (bytes : List ℕ) (setup : Setup) (events : List Event) → IsBytes bytes → 8 ≤ length bytes → BeginsAs magic2 bytes → Body bytes setup events → IsTrace2 setup events bytes
body_spelled bytes setup events fits le h body =
    let t = setup_takes (after_magic bytes) setup body.0 (IsBytes-drop 8 bytes fits) body.1 in
    record {
      canonical = t.1.canonical;
      starts = starting setup t.1.ranges;
      widths = t.1.widths;
      are_events = body.3;
      spelled = begun bytes le h ∙ ap (λ (xs : List ℕ). magic2 ++ xs) (t.0.parts ∙ ap (λ (xs : List ℕ). setup_bytes setup ++ xs) body.2);
    }

pub is_found : (bytes : List ℕ) (r : Result (Setup × Vec Event) TraceFault) → IsBytes bytes → 8 ≤ length bytes → BeginsAs magic2 bytes
    → IfOk r (λ found. Body bytes found.0 found.1.items) → IfOk r (λ found. IsTrace2 found.0 found.1.items bytes)
is_found bytes (Ok v) fits le h body = body_spelled bytes v.0 v.1.items fits le h body
is_found bytes (Err e) fits le h body = tt

pub is_fault : (bytes : List ℕ) (r : Result (Setup × Vec Event) TraceFault) → BeginsAs magic2 bytes
    → IfErr r (λ fault. (fault ≡ Memory) ⊎ IsBodyFault (setup_at (after_magic bytes)) fault) → IfErr r (λ fault. (fault ≡ Memory) ⊎ IsFault2 bytes fault)
is_fault bytes (Ok v) h f = tt
is_fault bytes (Err fault) h f = elim f [ inl e ↦ inl e | inr g ↦ inr (inr (h, g)) ]

-- The trace of a setup and events is read.
again2 : (setup : Setup) (events : List Event) (bytes : List ℕ) → IsTrace2 setup events bytes → (o : ℕ) × (setup_at (after_magic bytes) ≡ Ok (setup, cursor_at o (counted_bytes events)))
again2 setup events bytes h =
    let spelled : Spelled setup = record { canonical = h.canonical; ranges = startable setup h.starts; widths = h.widths } in
    let a = setup_again 8 setup (counted_bytes events) spelled in
    (a.0, ap (λ (xs : List ℕ). setup_at (after_magic xs)) h.spelled ∙ a.1)

same_events : (d e : List Event) → AreEvents d → AreEvents e → counted_bytes d ≡ counted_bytes e → d ≡ e
same_events d e f g h = same_trace d e (trace_bytes d) (f, refl) (g, ap (λ (xs : List ℕ). magic ++ xs) h)

-- A trace determines its setup and its events.
pub same_trace2 : (a b : Setup) (d e : List Event) (bytes : List ℕ) → IsTrace2 a d bytes → IsTrace2 b e bytes → (a ≡ b) × (d ≡ e)
same_trace2 a b d e bytes f g =
    let p = again2 a d bytes f in
    let q = again2 b e bytes g in
    let m : Setup × Cursor = (a, cursor_at p.0 (counted_bytes d)) in
    let n : Setup × Cursor = (b, cursor_at q.0 (counted_bytes e)) in
    let r = ok_is m n (sym p.1 ∙ q.1) in
    (ap (λ (x : Setup × Cursor). x.0) r, same_events d e f.are_events g.are_events (ap (λ (x : Setup × Cursor). x.1.rest) r))

begins2 : (setup : Setup) (events : List Event) (bytes : List ℕ) → IsTrace2 setup events bytes → BeginsAs magic2 bytes
begins2 setup events bytes h = subst (BeginsAs magic2) (sym h.spelled) (begins magic2 (setup_bytes setup ++ counted_bytes events) refl)

pub no_fault2 : (setup : Setup) (events : List Event) (bytes : List ℕ) (fault : TraceFault) → IsTrace2 setup events bytes → IsFault2 bytes fault → ⊥
no_fault2 setup events bytes fault h f =
    elim f [
      | inl other ↦ other.0 (begins2 setup events bytes h)
      | inr body ↦ no_counted_fault events fault h.are_events (subst (λ (x : Result (Setup × Cursor) TraceFault). IsBodyFault x fault) (again2 setup events bytes h).1 body.1)
    ]

pub only_answer2 : (bytes : List ℕ) (r : Result (Setup × Vec Event) TraceFault) → IfOk r (λ found. IsTrace2 found.0 found.1.items bytes)
    → IfErr r (λ fault. (fault ≡ Memory) ⊎ IsFault2 bytes fault)
    → (setup : Setup) (events : List Event) → IsTrace2 setup events bytes → MatchResult r (λ found. (found.0 ≡ setup) × (found.1.items ≡ events)) (λ fault. fault ≡ Memory)
only_answer2 bytes (Ok v) found fault setup events h = same_trace2 v.0 setup v.1.items events bytes found h
only_answer2 bytes (Err f) found fault setup events h =
    elim fault [
      | inl e ↦ e
      | inr g ↦ absurd (no_fault2 setup events bytes f h g)
    ]

-- The written bytes are a trace.
pub is_written : (setup : Setup) (events : List Event) (out : List ℕ) → setup_refusal setup ≡ None → Widths setup → AreEvents events
    → out ≡ trace2_bytes (canonical setup) events → IsTrace2 (canonical setup) events out
is_written setup events out starts widths are spelled =
    let p = canonical_spelled setup (startable setup starts) widths in
    record { canonical = p.canonical; starts = starting (canonical setup) p.ranges; widths = p.widths; are_events = are; spelled = spelled }

pub three_written : (a b c : List ℕ) (one two three : List ℕ) → one ≡ a → two ≡ one ++ b → three ≡ two ++ c → three ≡ a ++ (b ++ c)
three_written a b c one two three e f g = g ∙ ap (λ (t : List ℕ). t ++ c) (f ∙ ap (λ (t : List ℕ). t ++ b) e) ∙ append_assoc a b c

has_transfer_of : (e : Event) → Fits e → has_transfer e ≡ true
has_transfer_of (Step thread) h = refl
has_transfer_of (Take n) h = refl
has_transfer_of Sleep h = refl
has_transfer_of (Issue row) h = refl
has_transfer_of (Finish row Full) h = refl
has_transfer_of (Finish row (Short n)) h = let some : 0 < n = h.1.0 in grind (arith, nat_tests)
has_transfer_of (Finish row Eio) h = refl
has_transfer_of (Expire row) h = refl
has_transfer_of (Tick d) h = refl

-- Events that fit have no short transfer of 0 bytes.
pub transfers : (es : List Event) → AllByRecursion Fits es → list_all has_transfer es ≡ true
transfers [] h = refl
transfers (e ∷ es) h = and_from _ _ (has_transfer_of e h.0) (transfers es h.1)

-- ---- the other form

other_magic : BeginsAs magic magic2 → ⊥
other_magic h = let e : 50 ≡ 49 = ap (λ (xs : List ℕ). get_or xs 7 0) h in omega (arith, e)

starts : (text other rest : List ℕ) → length other ≡ 8 → BeginsAs text (other ++ rest) → BeginsAs text other
starts text other rest n h =
    let whole : min 8 (length (other ++ rest)) ≡ 8 = omega (arith, length-append other rest) in
    let alone : min 8 (length other) ≡ 8 = omega arith in
    let front : take 8 (other ++ rest) ≡ take 8 text = subst (λ (k : ℕ). take k (other ++ rest) ≡ take k text) whole h in
    let same : take 8 (other ++ rest) ≡ take 8 other = take_at other rest 8 n ∙ sym (take_all 8 other (omega arith)) in
    subst (λ (k : ℕ). take k other ≡ take k text) (sym alone) (sym same ∙ front)

-- A trace of the second form doesn't begin like one of the first form.
pub not_first : (setup : Setup) (events : List Event) (bytes : List ℕ) → IsTrace2 setup events bytes → BeginsAs magic bytes → ⊥
not_first setup events bytes h b = other_magic (starts magic magic2 (setup_bytes setup ++ counted_bytes events) refl (subst (BeginsAs magic) h.spelled b))

-- Reading a trace of the second form as one of the first results in Magic.
pub first_of_second : (setup : Setup) (events : List Event) (bytes : List ℕ) (fault : TraceFault) → IsTrace2 setup events bytes → IsFault bytes fault → fault ≡ Magic
first_of_second setup events bytes Magic h f = refl
first_of_second setup events bytes Truncated h f = absurd (not_first setup events bytes h f.0)
first_of_second setup events bytes Count h f = absurd (not_first setup events bytes h f.0)
first_of_second setup events bytes Kind h f = absurd (not_first setup events bytes h f.0)
first_of_second setup events bytes Padding h f = absurd (not_first setup events bytes h f.0)
first_of_second setup events bytes Trailing h f = absurd (not_first setup events bytes h f.0)
first_of_second setup events bytes Memory h f = absurd (not_first setup events bytes h f.0)
first_of_second setup events bytes (SetupFault offset) h f = absurd (not_first setup events bytes h f.0)

second_magic : BeginsAs magic2 magic → ⊥
second_magic h = let e : 49 ≡ 50 = ap (λ (xs : List ℕ). get_or xs 7 0) h in omega (arith, e)

not_second : (events : List Event) (bytes : List ℕ) → IsTrace events bytes → BeginsAs magic2 bytes → ⊥
not_second events bytes h b = second_magic (starts magic2 magic (counted_bytes events) refl (subst (BeginsAs magic2) h.1 b))

-- The same with the forms exchanged.
pub second_of_first : (events : List Event) (bytes : List ℕ) (fault : TraceFault) → IsTrace events bytes → IsFault2 bytes fault → fault ≡ Magic
second_of_first events bytes fault h f =
    elim f [
      | inl other ↦ other.1
      | inr body ↦ absurd (not_second events bytes h body.0)
    ]

pub second_faults : (events : List Event) (bytes : List ℕ) → IsTrace events bytes → IsFault2 bytes Magic
second_faults events bytes h = inl (not_second events bytes h, refl)

-- Reading a written trace returns its setup and its events.
pub again_setup : (r : Result (Setup × Vec Event) TraceFault) (setup : Setup) (events : List Event)
    → MatchResult r (λ found. (found.0 ≡ setup) × (found.1.items ≡ events)) (λ fault. fault ≡ Memory) → IfOk r (λ found. found.0 ≡ setup)
again_setup (Ok v) setup events h = h.0
again_setup (Err f) setup events h = tt

pub again_events : (r : Result (Setup × Vec Event) TraceFault) (setup : Setup) (events : List Event)
    → MatchResult r (λ found. (found.0 ≡ setup) × (found.1.items ≡ events)) (λ fault. fault ≡ Memory) → IfOk r (λ found. found.1.items ≡ events)
again_events (Ok v) setup events h = h.1
again_events (Err f) setup events h = tt

pub again_memory : (r : Result (Setup × Vec Event) TraceFault) (setup : Setup) (events : List Event)
    → MatchResult r (λ found. (found.0 ≡ setup) × (found.1.items ≡ events)) (λ fault. fault ≡ Memory) → IfErr r (λ fault. fault ≡ Memory)
again_memory (Ok v) setup events h = tt
again_memory (Err f) setup events h = h
