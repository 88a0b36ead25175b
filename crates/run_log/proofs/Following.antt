-- A log extended by one event, and a log that stops.
use Rattle.run_log.proofs.Common.{◌≡◌, ◌⊎◌, ℕ, ◌+◌, ◌<◌, suc, List, [], ◌++◌, length, true, false, Option, refl, ⊤, Result, Ok, Err, OnOk, IfOk, IfErr, Appends, Keeps, Change, View, Exact, NamesOnce, Event, Setup, Machine, view, moment, WritesFront, IsAfter, ReportFault, Write, Memory, EventRange, Changed, inl, inr, sym, ap, ◌∙◌, subst, arith, append_assoc, Appends-nil, Appends-trans, Appends-kept, slice_get_within, event_lines, IsListing, has, Shows, Reports, ReportsIf, Written, Stopped, Logs}

-- ---- the lines of an event

-- The lines of an event, from the result of a call.
pub shows_of : {T E : Type 0} (x : Result T E) (items : T → List ℕ) (s : Setup) (i : ℕ) (e : Event) (v : View) (past : List Change) (listed ds : List Changed) → NamesOnce past → IsListing v past listed → ds ≡ listed
    → IfOk x (λ t. items t ≡ event_lines s i e ds) → IfOk x (λ t. Shows s i e v past (items t))
shows_of (Ok t) items s i e v past listed ds once listing same h = record { once = once; listed = listed; listing = listing; lines = h ∙ ap (event_lines s i e) same }
shows_of (Err f) items s i e v past listed ds once listing same h = tt

reports_of : (s : Setup) (es : List Event) (i : ℕ) (e : Event) (past : List Change) (m : Machine) (text : List ℕ) → IsAfter s es i e past m → Shows s i e (view m) past text → Reports s i (moment s es i) e text
reports_of s es i e past m text a shows = record {
  past = past;
  exact = subst (λ x. Exact (view (moment s es i)) (view x) past) a.link.next.changed a.exact;
  shows = subst (λ x. Shows s i e (view x) past text) a.link.next.changed shows;
}

-- The log of i + 1 events, from the log of i events.
logs_more : (s : Setup) (es : List Event) (r : EventRange) (i : ℕ) (e : Event) (past : List Change) (m : Machine) (before last : List ℕ) → IsAfter s es i e past m → ReportsIf (has r i) s i (moment s es i) e last
    → Logs s es r i before → Logs s es r (i + 1) (before ++ last)
logs_more s es r i e past m before last a report log =
    let up : suc i ≡ i + 1 = omega arith in
    let all : Logs s es r (suc i) (before ++ last) = (before, last, e, refl, a.there, report, log) in
    subst (λ k. Logs s es r k (before ++ last)) up all

-- ---- one more event

written_with : (s : Setup) (es : List Event) (r : EventRange) (i : ℕ) (e : Event) (past : List Change) (m : Machine) (last : List ℕ) (a b c : Option (List ℕ)) → IsAfter s es i e past m
    → ReportsIf (has r i) s i (moment s es i) e last → Written s es r i a b → Appends b c last → Written s es r (i + 1) a c
written_with s es r i e past m last a b c at report w more =
    let inside : i < length es = slice_get_within es i e at.there in
    record {
      within = omega (arith, inside);
      runs = at.at.runs;
      text = w.text ++ last;
      log = logs_more s es r i e past m w.text last at report w.log;
      appended = Appends-trans a b c _ _ w.appended more;
    }

-- An event outside of the range adds nothing to the log.
pub written_silent : (s : Setup) (es : List Event) (r : EventRange) (i : ℕ) (e : Event) (past : List Change) (m : Machine) (a b : Option (List ℕ)) → IsAfter s es i e past m → has r i ≡ false
    → Written s es r i a b → Written s es r (i + 1) a b
written_silent s es r i e past m a b at off w =
    let report : ReportsIf (has r i) s i (moment s es i) e [] = subst (λ x. ReportsIf x s i (moment s es i) e []) (sym off) refl in
    written_with s es r i e past m [] a b b at report w (Appends-nil b)

-- An event in the range adds its lines, once they are written.
pub written_more : (s : Setup) (es : List Event) (r : EventRange) (i : ℕ) (e : Event) (past : List Change) (m : Machine) (a b c : Option (List ℕ)) → IsAfter s es i e past m → has r i ≡ true
    → Written s es r i a b → (text : List ℕ) × Shows s i e (view m) past text × Appends b c text → Written s es r (i + 1) a c
written_more s es r i e past m a b c at on w h =
    let report : ReportsIf (has r i) s i (moment s es i) e h.0 = subst (λ x. ReportsIf x s i (moment s es i) e h.0) (sym on) (reports_of s es i e past m h.0 at h.1) in
    written_with s es r i e past m h.0 a b c at report w h.2

-- ---- where a log stops

-- A log stays as it is if nothing more is written.
pub written_kept : (s : Setup) (es : List Event) (r : EventRange) (i : ℕ) (a b c : Option (List ℕ)) → Written s es r i a b → Keeps b c → Written s es r i a c
written_kept s es r i a b c w k = record { within = w.within; runs = w.runs; text = w.text; log = w.log; appended = Appends-kept a b c _ w.appended k }

-- A log stops if an allocation fails, or if the lines of an event can't be written.
pub stopped_at : (s : Setup) (es : List Event) (r : EventRange) (i : ℕ) (e : Event) (past : List Change) (m : Machine) (f : ReportFault) (a b c : Option (List ℕ)) → IsAfter s es i e past m → has r i ≡ true → Written s es r i a b
    → ((f ≡ Memory) × Keeps b c) ⊎ ((f ≡ Write) × (text : List ℕ) × Shows s i e (view m) past text × WritesFront b c text) → Stopped s es r f a c
stopped_at s es r i e past m f a b c at on w (inl h) = subst (λ x. Stopped s es r x a c) (sym h.0) (i, written_kept s es r i a b c w h.1)
stopped_at s es r i e past m f a b c at on w (inr h) =
    let inside : i < length es = slice_get_within es i e at.there in
    let front = h.3.front in
    let rest = h.3.rest in
    let report : ReportsIf (has r i) s i (moment s es i) e h.1 = subst (λ x. ReportsIf x s i (moment s es i) e h.1) (sym on) (reports_of s es i e past m h.1 at h.2) in
    let whole : w.text ++ h.1 ≡ (w.text ++ front) ++ rest = ap (λ x. w.text ++ x) h.3.whole ∙ sym (append_assoc w.text front rest) in
    let log : Logs s es r (i + 1) (w.text ++ h.1) = logs_more s es r i e past m w.text h.1 at report w.log in
    let stopped : Stopped s es r Write a c = (
      i + 1,
      record {
        within = omega (arith, inside);
        runs = at.at.runs;
        front = w.text ++ front;
        rest = rest;
        log = subst (Logs s es r (i + 1)) whole log;
        appended = Appends-trans a b c _ _ w.appended h.3.appended;
      },
    ) in
    subst (λ x. Stopped s es r x a c) (sym h.0) stopped

-- ---- from the result of a write

pub seen_ok : {X Y : Type 0} (x : Result ⊤ ReportFault) (s : Setup) (es : List Event) (r : EventRange) (i : ℕ) (e : Event) (past : List Change) (m : Machine) (a b c : Option (List ℕ)) → IsAfter s es i e past m → has r i ≡ true → Written s es r i a b
    → X → Y → OnOk x ((text : List ℕ) × Shows s i e (view m) past text × Appends b c text) → OnOk x (Written s es r (i + 1) a c × X × Y)
seen_ok (Ok u) s es r i e past m a b c at on w p q h = (written_more s es r i e past m a b c at on w h, p, q)
seen_ok (Err f) s es r i e past m a b c at on w p q h = tt

pub stopped_err : {Y : Type 0} (x : Result ⊤ ReportFault) (s : Setup) (es : List Event) (r : EventRange) (i : ℕ) (e : Event) (past : List Change) (m : Machine) (a b c : Option (List ℕ)) → IsAfter s es i e past m → has r i ≡ true → Written s es r i a b
    → Y → IfErr x (λ f. ((f ≡ Memory) × Keeps b c) ⊎ ((f ≡ Write) × (text : List ℕ) × Shows s i e (view m) past text × WritesFront b c text)) → IfErr x (λ f. Stopped s es r f a c × Y)
stopped_err (Ok u) s es r i e past m a b c at on w q h = tt
stopped_err (Err f) s es r i e past m a b c at on w q h = (stopped_at s es r i e past m f a b c at on w h, q)
