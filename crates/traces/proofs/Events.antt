-- An event and its 16 bytes.
use Rattle.std.proofs.Common.{◌≡◌, ℕ, ◌^◌, ◌<◌, ◌≤◌, Bool, true, false, eqb, ltb, List, ◌++◌, length, take, drop, get_or, Option, Some, None, refl, sym, ap, ◌∙◌, arith, length-append}
use Rattle.std.specs.Prelude.{nat_le, ◌==◌, if◌then◌else◌}
use Rattle.std.proofs.lemmas.Bool.Decides.{nat_tests}
use Rattle.byteorder.specs.Endian.{little_bytes}
use Rattle.byteorder.specs.Numbers.{little_number-reads_back}
use Rattle.entries.specs.declared.choice.Choice.{Choice}
use Rattle.entries.specs.declared.choice.Choice.TheVariants.{Full, Short, Eio}
use Rattle.scenario.specs.declared.event.Event.{Event}
use Rattle.scenario.specs.declared.event.Event.TheVariants.{Step, Take, Sleep, Issue, Finish, Expire, Tick}
use Rattle.traces.specs.declared.fault.TraceFault.{TraceFault}
use Rattle.traces.specs.declared.fault.TraceFault.TheVariants.{Truncated, Kind, Padding}
use Rattle.traces.specs.Spelling.{kind_of, word_of, wide_of, choice_number, event_bytes, ChoiceFits, Fits}
use Rattle.traces.specs.Faults.{is_kind, has_numbers, event_fault}
use Rattle.traces.proofs.Numbers.{same_number}

word_fits : (e : Event) → Fits e → word_of e < 256 ^ 4
word_fits (Step thread) h = omega arith
word_fits (Take n) h = omega arith
word_fits Sleep h = omega arith
word_fits (Issue row) h = omega arith
word_fits (Finish row choice) h = omega (arith, h.0)
word_fits (Expire row) h = omega arith
word_fits (Tick d) h = omega arith

choice_fits : (c : Choice) → ChoiceFits c → choice_number c < 256 ^ 8
choice_fits Full h = omega arith
choice_fits (Short n) h = omega (arith, h.1)
choice_fits Eio h = omega arith

wide_fits : (e : Event) → Fits e → wide_of e < 256 ^ 8
wide_fits (Step thread) h = omega arith
wide_fits (Take n) h = omega arith
wide_fits Sleep h = omega arith
wide_fits (Issue row) h = omega arith
wide_fits (Finish row choice) h = choice_fits choice h.1
wide_fits (Expire row) h = omega arith
wide_fits (Tick d) h = omega arith

-- The choice with a number, and the event with a kind and numbers.
abbrev choice_of : ℕ → Choice
choice_of n = if n == 0 then Full else if n == 2 ^ 32 then Eio else Short n

abbrev event_of : ℕ → ℕ → ℕ → Event
event_of kind word wide =
    if kind == 1 then Step word
    else if kind == 2 then Take word
    else if kind == 3 then Sleep
    else if kind == 4 then Issue word
    else if kind == 5 then Finish word (choice_of wide)
    else if kind == 6 then Expire word
    else Tick wide

choice_again : (c : Choice) → ChoiceFits c → choice_of (choice_number c) ≡ c
choice_again Full h = refl
choice_again (Short n) h =
    let low : eqb n 0 ≡ false = grind (arith, nat_tests, h.0) in
    let high : eqb n (2 ^ 32) ≡ false = grind (arith, nat_tests, h.1) in
    rw (low, high) refl
choice_again Eio h = refl

event_again : (e : Event) → Fits e → event_of (kind_of e) (word_of e) (wide_of e) ≡ e
event_again (Step thread) h = refl
event_again (Take n) h = refl
event_again Sleep h = refl
event_again (Issue row) h = refl
event_again (Finish row choice) h = ap (Finish row) (choice_again choice h.1)
event_again (Expire row) h = refl
event_again (Tick d) h = refl

event_of-same : (a b p q x y : ℕ) → a ≡ b → p ≡ q → x ≡ y → event_of a p x ≡ event_of b q y
event_of-same a b p q x y e f g = ap (λ (k : ℕ). event_of k p x) e ∙ ap (λ (w : ℕ). event_of b w x) f ∙ ap (λ (v : ℕ). event_of b q v) g

-- Events with equal bytes are equal.
pub same_event : (d e : Event) → Fits d → Fits e → event_bytes d ≡ event_bytes e → d ≡ e
same_event d e f g h =
    let kind : kind_of d ≡ kind_of e = ap (λ (bytes : List ℕ). get_or bytes 0 0) h in
    let word : word_of d ≡ word_of e = same_number 4 _ _ (word_fits d f) (word_fits e g) (ap (λ (bytes : List ℕ). take 4 (drop 4 bytes)) h) in
    let wide : wide_of d ≡ wide_of e = same_number 8 _ _ (wide_fits d f) (wide_fits e g) (ap (λ (bytes : List ℕ). take 8 (drop 8 bytes)) h) in
    sym (event_again d f) ∙ event_of-same _ _ _ _ _ _ kind word wide ∙ event_again e g

kind_is : (e : Event) → is_kind (kind_of e) ≡ true
kind_is (Step thread) = refl
kind_is (Take n) = refl
kind_is Sleep = refl
kind_is (Issue row) = refl
kind_is (Finish row choice) = refl
kind_is (Expire row) = refl
kind_is (Tick d) = refl

choice_small : (c : Choice) → ChoiceFits c → nat_le (choice_number c) (2 ^ 32) ≡ true
choice_small Full h = refl
choice_small (Short n) h = grind (arith, nat_tests, h.1)
choice_small Eio h = refl

numbers_are : (e : Event) → Fits e → has_numbers (kind_of e) (word_of e) (wide_of e) ≡ true
numbers_are (Step thread) h = refl
numbers_are (Take n) h = refl
numbers_are Sleep h = refl
numbers_are (Issue row) h = refl
numbers_are (Finish row choice) h = choice_small choice h.1
numbers_are (Expire row) h = refl
numbers_are (Tick d) h = refl

-- The checks of an event, by their results.
abbrev fault_by : Bool → Bool → Bool → Option TraceFault
fault_by short kind padded = if short then Some Truncated else if kind then (if padded then None else Some Padding) else Some Kind

fault_by-none : (short kind padded : Bool) → short ≡ false → kind ≡ true → padded ≡ true → fault_by short kind padded ≡ None
fault_by-none short kind padded e f g = rw (e, f, g) refl

has_numbers-same : (k p q x y : ℕ) → p ≡ q → x ≡ y → has_numbers k q y ≡ true → has_numbers k p x ≡ true
has_numbers-same k p q x y e f h = ap (λ (w : ℕ). has_numbers k w x) e ∙ ap (λ (v : ℕ). has_numbers k q v) f ∙ h

-- An encoded event has no fault, whatever follows it.
pub event_clean : (e : Event) (rest : List ℕ) → Fits e → event_fault (event_bytes e ++ rest) ≡ None
event_clean e rest h =
    let long : 16 ≤ length (event_bytes e ++ rest) = omega (arith, length-append (event_bytes e) rest) in
    let word = little_number-reads_back 4 (word_of e) (little_bytes 8 (wide_of e) ++ rest) (word_fits e h) in
    let wide = little_number-reads_back 8 (wide_of e) rest (wide_fits e h) in
    let not_short : ltb (length (event_bytes e ++ rest)) 16 ≡ false = grind (arith, nat_tests, long) in
    fault_by-none _ _ _ not_short (kind_is e) (has_numbers-same (kind_of e) _ _ _ _ word wide (numbers_are e h))
