-- Threads and schedules that were read are within their limits.
use Rattle.std.proofs.Common.{◌≡◌, ℕ, zero, suc, ◌+◌, ◌≤◌, Bool, true, false, cond, ◌&&◌, ◌||◌, nat_le, nat_lt, List, [], ◌∷◌, length, Option, Some, None, Result, Ok, Err, refl, sym, ap, ◌∙◌, arith}
use Rattle.std.specs.Prelude.{option_map}
use Rattle.std.specs.List.{list_all, list_any}
use Rattle.std.proofs.lemmas.Bool.Decides.{nat_tests}
use Rattle.serde_json.specs.Data.{Data}
use Rattle.entries.specs.declared.choice.Choice.{Choice}
use Rattle.scenario.specs.declared.event.Event.{Event}
use Rattle.scenario.specs.declared.setup.Instruction.{Instruction}
use Rattle.scenario.specs.declared.setup.Instruction.TheVariants.{Put, Push, Store, Enter, Reap, Close}
use Rattle.ring_words.specs.Rings.{rounded}
use Rattle.scenario.specs.Setups.{is_between, is_completion_size, is_instruction, is_program}
use Rattle.script.specs.declared.fault.Path.{Path}
use Rattle.script.specs.declared.fault.ScriptFault.{ScriptFault}
use Rattle.script.specs.declared.fault.Key.TheVariants as key
use Rattle.script.specs.declared.number.Whole.{Whole}
use Rattle.script.specs.declared.number.Whole.TheVariants.{Natural, Negative}
use Rattle.script.specs.declared.event.ChoiceForm.{ChoiceForm}
use Rattle.script.specs.declared.event.ChoiceForm.TheVariants as chosen
use Rattle.script.specs.declared.event.EventForm.{EventForm}
use Rattle.script.specs.declared.event.EventForm.TheVariants as form
use Rattle.script.specs.declared.instruction.InstructionForm.{InstructionForm}
use Rattle.script.specs.declared.instruction.InstructionForm.TheVariants as instruction
use Rattle.script.specs.Faults.{◌>>=◌, ranged, shaped, limits_then_ranges, form_limits_ranges, form_then_ranges, at_key, at_item, at_inner}
use Rattle.script.specs.Entries as entries
use Rattle.script.specs.Lists.{listed, each, at_most, required}
use Rattle.script.specs.Memory.{placed}
use Rattle.script.specs.Numbers.{whole_of, between, below, signed_word, number_between}
use Rattle.script.specs.Instructions.{instruction_form, keeps_limits, instruction_in_range, instruction_at, thread_at}
use Rattle.script.specs.Events.{event_form, choice_in_range, event_in_range, event_at}
use Rattle.script.specs.Scripts.{entries_of, large_enough, cq_of, threads_of, schedule_of, is_short_of_nothing}

-- ---- the result of two readings in a row

abbrev pub Both : {A B : Type 0} → Result A ScriptFault → (A → Result B ScriptFault) → B → Type 0
Both {A} {B} r f y = (x : A) × (r ≡ Ok x) × (f x ≡ Ok y)

pub bind_ok : {A B : Type 0} → (r : Result A ScriptFault) (f : A → Result B ScriptFault) (y : B) → (r >>= f) ≡ Ok y → Both r f y
bind_ok (Ok x) f y h = (x, refl, h)
bind_ok (Err e) f y h = absurd (cc)

abbrev pub SomeBoth : {A B : Type 0} → Option A → (A → Option B) → B → Type 0
SomeBoth {A} {B} o f y = (x : A) × (o ≡ Some x) × (f x ≡ Some y)

pub some_both : {A B : Type 0} → (o : Option A) (f : A → Option B) (y : B) → entries.◌>>=◌ o f ≡ Some y → SomeBoth o f y
some_both (Some x) f y h = (x, refl, h)
some_both None f y h = absurd (cc)

pub some_mapped : {A B : Type 0} → (f : A → B) (o : Option A) (y : B) → option_map f o ≡ Some y → (x : A) × (o ≡ Some x) × (y ≡ f x)
some_mapped f (Some x) y h = let e : f x ≡ y = cc in (x, refl, sym e)
some_mapped f None y h = absurd (cc)

ranged_ok : {A : Type 0} → (p : Path) (o : Option A) (x : A) → ranged p o ≡ Ok x → o ≡ Some x
ranged_ok p (Some y) x h = let e : y ≡ x = cc in ap Some e
ranged_ok p None x h = absurd (cc)

pub formed_ok : {F A : Type 0} → (p : Path) (o : Option F) (f : F → Option A) (x : A) → form_then_ranges p o f ≡ Ok x → (w : F) × (f w ≡ Some x)
formed_ok p (Some w) f x h = (w, ranged_ok p (f w) x h)
formed_ok p None f x h = absurd (cc)

shaped_ok : {F : Type 0} → (p : Path) (o : Option F) (w : F) → shaped p o ≡ Ok w → o ≡ Some w
shaped_ok p (Some v) w h = let e : v ≡ w = cc in ap Some e
shaped_ok p None w h = absurd (cc)

limits_ok : {F A : Type 0} → (p : Path) (keeps : F → Bool) (f : F → Option A) (w : F) (x : A) → limits_then_ranges p keeps f w ≡ Ok x → (keeps w ≡ true) × (f w ≡ Some x)
limits_ok p keeps f w x h = by (keeps w) refl h
  where
    by : (b : Bool) → keeps w ≡ b → cond b (ranged p (f w)) (Err (ScriptFault.Limit p)) ≡ Ok x → (keeps w ≡ true) × (f w ≡ Some x)
    by true t k = (t, ranged_ok p (f w) x k)
    by false t k = absurd (cc)

pub limited_ok : {F A : Type 0} → (p : Path) (o : Option F) (keeps : F → Bool) (f : F → Option A) (x : A) → form_limits_ranges p o keeps f ≡ Ok x → (w : F) × (o ≡ Some w) × (keeps w ≡ true) × (f w ≡ Some x)
limited_ok p o keeps f x h =
    let b = bind_ok (shaped p o) (limits_then_ranges p keeps f) x h in
    let l = limits_ok p keeps f b.0 x b.2 in
    (b.0, shaped_ok p o b.0 b.1, l.0, l.1)

-- ---- numbers

pub tested : {A : Type 0} → (b : Bool) (x y : A) → cond b (Some x) None ≡ Some y → (b ≡ true) × (x ≡ y)
tested true x y h = let e : x ≡ y = cc in (refl, e)
tested false x y h = absurd (cc)

pub between_ok : (low high : ℕ) (w : Whole) (n : ℕ) → between low high w ≡ Some n → is_between low high n ≡ true
between_ok low high (Natural m) n h =
    let t = tested (is_between low high m) m n h in
    ap (is_between low high) (sym t.1) ∙ t.0
between_ok low high (Negative z) n h = absurd (cc)

below_ok : (limit : ℕ) (w : Whole) (n : ℕ) → below limit w ≡ Some n → nat_lt n limit ≡ true
below_ok limit (Natural m) n h =
    let t = tested (nat_lt m limit) m n h in
    ap (λ k. nat_lt k limit) (sym t.1) ∙ t.0
below_ok limit (Negative z) n h = absurd (cc)

pub placed_ok : (bytes : List ℕ) (w : Whole) (n : ℕ) → placed bytes w ≡ Some n → nat_le (n + length bytes) 65536 ≡ true
placed_ok bytes (Natural m) n h =
    let t = tested (nat_le (m + length bytes) 65536) m n h in
    ap (λ k. nat_le (k + length bytes) 65536) (sym t.1) ∙ t.0
placed_ok bytes (Negative z) n h = absurd (cc)

number_ok : (p : Path) (low high : ℕ) (d : Data) (n : ℕ) → number_between p low high d ≡ Ok n → is_between low high n ≡ true
number_ok p low high d n h =
    let f = formed_ok p (whole_of d) (between low high) n h in
    between_ok low high f.0 n f.1

pub entries_ok : (d : Option Data) (n : ℕ) → entries_of d ≡ Ok n → is_between 1 4096 n ≡ true
entries_ok None n h = absurd (cc)
entries_ok (Some d) n h = number_ok (at_key key.Entries) 1 4096 d n h

large_ok : (entries n : ℕ) (cq : Option ℕ) (b : Bool) → is_between 1 8192 n ≡ true → nat_le (rounded entries) (rounded n) ≡ b → cond b (Ok (Some n)) (Err (ScriptFault.Range (at_key key.Cq))) ≡ Ok cq → is_completion_size entries cq ≡ true
large_ok entries n cq true k b h =
    let e : Some n ≡ cq = cc in
    ap (is_completion_size entries) (sym e) ∙ ap (λ a. a && nat_le (rounded entries) (rounded n)) k ∙ b
large_ok entries n cq false k b h = absurd (cc)

pub cq_ok : (entries : ℕ) (d : Option Data) (cq : Option ℕ) → cq_of entries d ≡ Ok cq → is_completion_size entries cq ≡ true
cq_ok entries None cq h = let e : None ≡ cq = cc in ap (is_completion_size entries) (sym e)
cq_ok entries (Some d) cq h =
    let b = bind_ok (number_between (at_key key.Cq) 1 8192 d) (large_enough entries) cq h in
    large_ok entries b.0 cq (nat_le (rounded entries) (rounded b.0)) (number_ok (at_key key.Cq) 1 8192 d b.0 b.1) refl b.2

-- ---- lists

each_one : {A : Type 0} → (f : ℕ → Data → Result A ScriptFault) (i : ℕ) (d : Data) (ds : List Data) (xs : List A) → each f i (d ∷ ds) ≡ Ok xs → (x : A) × (ys : List A) × (f i d ≡ Ok x) × (each f (i + 1) ds ≡ Ok ys) × (xs ≡ x ∷ ys)
each_one f i d ds xs h =
    let b = bind_ok (f i d) (λ x. each f (i + 1) ds >>= λ ys. Ok (x ∷ ys)) xs h in
    let c = bind_ok (each f (i + 1) ds) (λ ys. Ok (b.0 ∷ ys)) xs b.2 in
    let e : b.0 ∷ c.0 ≡ xs = cc in
    (b.0, c.0, b.1, c.1, sym e)

each_length : {A : Type 0} → (f : ℕ → Data → Result A ScriptFault) (i : ℕ) (ds : List Data) (xs : List A) → each f i ds ≡ Ok xs → length xs ≡ length ds
each_length f i [] xs h = let e : [] ≡ xs = cc in ap length (sym e)
each_length f i (d ∷ ds) xs h = let o = each_one f i d ds xs h in ap length o.4 ∙ ap suc (each_length f (i + 1) ds o.1 o.3)

pub each_all : {A : Type 0} → (test : A → Bool) (f : ℕ → Data → Result A ScriptFault) (i : ℕ) (ds : List Data) (xs : List A) → ((j : ℕ) (d : Data) (x : A) → f j d ≡ Ok x → test x ≡ true) → each f i ds ≡ Ok xs → list_all test xs ≡ true
each_all test f i [] xs k h = let e : [] ≡ xs = cc in ap (list_all test) (sym e)
each_all test f i (d ∷ ds) xs k h =
    let o = each_one f i d ds xs h in
    ap (list_all test) o.4 ∙ ap (λ b. b && list_all test o.1) (k i d o.0 o.2) ∙ each_all test f (i + 1) ds o.1 k o.3

each_none : {A : Type 0} → (test : A → Bool) (f : ℕ → Data → Result A ScriptFault) (i : ℕ) (ds : List Data) (xs : List A) → ((j : ℕ) (d : Data) (x : A) → f j d ≡ Ok x → test x ≡ false) → each f i ds ≡ Ok xs → list_any test xs ≡ false
each_none test f i [] xs k h = let e : [] ≡ xs = cc in ap (list_any test) (sym e)
each_none test f i (d ∷ ds) xs k h =
    let o = each_one f i d ds xs h in
    ap (list_any test) o.4 ∙ ap (λ b. b || list_any test o.1) (k i d o.0 o.2) ∙ each_none test f (i + 1) ds o.1 k o.3

-- The items of a list that is within its limit.
pub at_most_ok : {A : Type 0} → (most : ℕ) (p : Path) (f : ℕ → Data → Result A ScriptFault) (ds : List Data) (xs : List A) → at_most most p f ds ≡ Ok xs → (length xs ≤ most) × (each f 0 ds ≡ Ok xs)
at_most_ok most p f ds xs h = by (nat_lt most (length ds)) refl h
  where
    by : (b : Bool) → nat_lt most (length ds) ≡ b → cond b (Err (ScriptFault.Limit p)) (each f 0 ds) ≡ Ok xs → (length xs ≤ most) × (each f 0 ds ≡ Ok xs)
    by true t k = absurd (cc)
    by false t k =
        let n = each_length f 0 ds xs k in
        let short : length ds ≤ most = grind (arith, nat_tests) in
        (omega arith, k)

-- ---- instructions

form_kept : (size : ℕ) (w : InstructionForm) (x : Instruction) → keeps_limits w ≡ true → instruction_in_range size w ≡ Some x → is_instruction size x ≡ true
form_kept size (instruction.Put slot e) x k h =
    let s = some_both (below size slot) (λ n. option_map (Put n) (entries.entry_in_range e)) x h in
    let m = some_mapped (Put s.0) (entries.entry_in_range e) x s.2 in
    ap (is_instruction size) m.2 ∙ below_ok size slot s.0 s.1
form_kept size (instruction.Push n) x k h =
    let m = some_mapped Push (between 0 4294967295 n) x h in
    ap (is_instruction size) m.2
form_kept size (instruction.Store a bytes) x k h =
    let m = some_mapped (λ address. Store address bytes) (placed bytes a) x h in
    ap (is_instruction size) m.2 ∙ ap (λ b. b && nat_le (m.0 + length bytes) 65536) k ∙ placed_ok bytes a m.0 m.1
form_kept size (instruction.Enter a b c) x k h =
    let s = some_both (between 0 4294967295 a) (λ to_submit. entries.◌>>=◌ (between 0 4294967295 b) (λ min_complete. option_map (Enter to_submit min_complete) (between 0 4294967295 c))) x h in
    let t = some_both (between 0 4294967295 b) (λ min_complete. option_map (Enter s.0 min_complete) (between 0 4294967295 c)) x s.2 in
    let m = some_mapped (Enter s.0 t.0) (between 0 4294967295 c) x t.2 in
    ap (is_instruction size) m.2
form_kept size instruction.Reap x k h = let e : Reap ≡ x = cc in ap (is_instruction size) (sym e)
form_kept size (instruction.Close fd) x k h =
    let m = some_mapped Close (signed_word fd) x h in
    ap (is_instruction size) m.2

instruction_kept : (size t i : ℕ) (d : Data) (x : Instruction) → instruction_at size t i d ≡ Ok x → is_instruction size x ≡ true
instruction_kept size t i d x h =
    let f = limited_ok (at_inner key.Threads t i) (instruction_form d) keeps_limits (instruction_in_range size) x h in
    form_kept size f.0 x f.2 f.3

pub le_true : (m n : ℕ) → m ≤ n → nat_le m n ≡ true
le_true m n h = grind (arith, nat_tests)

thread_kept : (size t : ℕ) (d : Data) (xs : List Instruction) → thread_at size t d ≡ Ok xs → is_program size xs ≡ true
thread_kept size t d xs h =
    let b = bind_ok (listed (at_item key.Threads t) d) (at_most 4096 (at_item key.Threads t) (instruction_at size t)) xs h in
    let m = at_most_ok 4096 (at_item key.Threads t) (instruction_at size t) b.0 xs b.2 in
    ap (λ c. c && list_all (is_instruction size) xs) (le_true (length xs) 4096 m.0) ∙ each_all (is_instruction size) (instruction_at size t) 0 b.0 xs (λ i e x k. instruction_kept size t i e x k) m.1

pub record KeepPrograms (size : ℕ) (ts : List (List Instruction)) : Type 0 where
  pub few : length ts ≤ 16
  pub programs : list_all (is_program size) ts ≡ true

pub threads_kept : (size : ℕ) (d : Option Data) (ts : List (List Instruction)) → threads_of size d ≡ Ok ts → KeepPrograms size ts
threads_kept size d ts h =
    let r = required key.Threads d in
    let b = bind_ok (r >>= listed (at_key key.Threads)) (at_most 16 (at_key key.Threads) (thread_at size)) ts h in
    let m = at_most_ok 16 (at_key key.Threads) (thread_at size) b.0 ts b.2 in
    record {
      few = m.0;
      programs = each_all (is_program size) (thread_at size) 0 b.0 ts (λ i e xs k. thread_kept size i e xs k) m.1;
    }

-- ---- events

some_short : (row n : ℕ) → is_between 1 4294967295 n ≡ true → is_short_of_nothing (Event.Finish row (Choice.Short n)) ≡ false
some_short row zero h = absurd (cc)
some_short row (suc n) h = refl

choice_short : (row : ℕ) (w : ChoiceForm) (c : Choice) → choice_in_range w ≡ Some c → is_short_of_nothing (Event.Finish row c) ≡ false
choice_short row chosen.Full c h = let e : Choice.Full ≡ c = cc in ap (λ d. is_short_of_nothing (Event.Finish row d)) (sym e)
choice_short row (chosen.Short n) c h =
    let m = some_mapped Choice.Short (between 1 4294967295 n) c h in
    ap (λ d. is_short_of_nothing (Event.Finish row d)) m.2 ∙ some_short row m.0 (between_ok 1 4294967295 n m.0 m.1)
choice_short row chosen.Eio c h = let e : Choice.Eio ≡ c = cc in ap (λ d. is_short_of_nothing (Event.Finish row d)) (sym e)

event_short : (w : EventForm) (e : Event) → event_in_range w ≡ Some e → is_short_of_nothing e ≡ false
event_short (form.Step n) e h = ap is_short_of_nothing (some_mapped Event.Step (between 0 4294967295 n) e h).2
event_short (form.Take n) e h = ap is_short_of_nothing (some_mapped Event.Take (between 0 4294967295 n) e h).2
event_short form.Sleep e h = let k : Event.Sleep ≡ e = cc in ap is_short_of_nothing (sym k)
event_short (form.Issue n) e h = ap is_short_of_nothing (some_mapped Event.Issue (between 0 4294967295 n) e h).2
event_short (form.Finish n c) e h =
    let s = some_both (between 0 4294967295 n) (λ row. option_map (Event.Finish row) (choice_in_range c)) e h in
    let m = some_mapped (Event.Finish s.0) (choice_in_range c) e s.2 in
    ap is_short_of_nothing m.2 ∙ choice_short s.0 c m.0 m.1
event_short (form.Expire n) e h = ap is_short_of_nothing (some_mapped Event.Expire (between 0 4294967295 n) e h).2
event_short (form.Tick n) e h = ap is_short_of_nothing (some_mapped Event.Tick (between 0 18446744073709551615 n) e h).2

at_short : (i : ℕ) (d : Data) (e : Event) → event_at i d ≡ Ok e → is_short_of_nothing e ≡ false
at_short i d e h = let f = formed_ok (at_item key.Schedule i) (event_form d) event_in_range e h in event_short f.0 e f.1

pub schedule_ok : (d : Option Data) (es : List Event) → schedule_of d ≡ Ok es → (length es ≤ 65536) × (list_any is_short_of_nothing es ≡ false)
schedule_ok d es h =
    let r = required key.Schedule d in
    let b = bind_ok (r >>= listed (at_key key.Schedule)) (at_most 65536 (at_key key.Schedule) event_at) es h in
    let m = at_most_ok 65536 (at_key key.Schedule) event_at b.0 es b.2 in
    (m.0, each_none is_short_of_nothing event_at 0 b.0 es at_short m.1)
