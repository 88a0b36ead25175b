-- Facts about the notes of a write to a pipe, and of a changed counter.
use Rattle.std.proofs.Common.{◌≡◌, ℕ, Bool, true, false, cond, refl, sym, ◌∙◌, ap, List, length, take, drop, min, ◌+◌, ◌-◌, ◌%◌, ◌<◌, ◌≤◌, ◌⊎◌, inl, inr, arith}
use Rattle.std.specs.Prelude.{Option, Some, None, option_map, slice_get, ◌==◌}
use Rattle.std.proofs.lemmas.Bool.{eqb-true, eq-eqb}
use Rattle.std.proofs.lemmas.Grind.{common_steps}
use Rattle.std.proofs.lemmas.Nat.{mod_below}
use Rattle.std.proofs.lemmas.Option.{slice_get_past}
use Rattle.places.specs.declared.place.Place.{Place}
use Rattle.places.specs.declared.place.Place.TheVariants.{PipeByte, PutCount, EventCount}
use Rattle.places.specs.declared.value.Change.{Change}
use Rattle.places.specs.declared.value.Value.{Value}
use Rattle.places.specs.declared.value.Value.TheVariants.{Number, Byte}
use Rattle.places.specs.declared.notes.runs.Region.TheVariants.{Pipe}
use Rattle.places.specs.Runs.{byte_from, byte_in}
use Rattle.places.specs.View.{named, Keeps, Noted}
use Rattle.places.proofs.Keeping.{keeps_then, keeps_unchanged, noted_keeps}
use Rattle.model_files.specs.Differing.{NotedAmong, NamesDiffering}
use Rattle.model_files.specs.Files.{overwritten, part}
use Rattle.model_files.specs.Objects.{object_owns, NamesChanges}
use Rattle.model_files.specs.Pipes.{PipeState, pipe_seen, counter_seen, put_in, slots_with}
use Rattle.model_files.proofs.Among.{among_named, among_fresh_before, keeps_among}
use Rattle.model_files.proofs.Comparing.{same_overwritten, slice_get-part, slice_get-part_past}
use Rattle.model_files.proofs.Noting.{below_or_not, bytes_there, get_part, get-overwritten_other, keeps_changed, noted_named}
use Rattle.model_files.proofs.Wrapping.{put_in_parts}

-- ---- The slots of a pipe

pipe_bytes_there : (p : PipeState) (o at k : ℕ) (q : Place) (x : Option Value) → byte_in (Pipe o) at (part p.slots at k) q ≡ Some x → (x ≡ pipe_seen p q) × (object_owns o q ≡ true)
pipe_bytes_there p o at k (PipeByte y j) x e = by (o == y) refl e
  where
    by : (t : Bool) → (o == y) ≡ t → cond t (byte_from at (part p.slots at k) j) None ≡ Some x → (x ≡ option_map Byte (slice_get p.slots j)) × ((o == y) ≡ true)
    by true g h = (bytes_there p.slots (part p.slots at k) at j x (get_part p.slots at k) h, g)
    by false g h = absurd cc
pipe_bytes_there p o at k _ x e = absurd cc

-- Recording slots before they change doesn't change what undoing gives.
pub keeps_slots : (p : PipeState) (o at k : ℕ) (cs ds : List Change) → NotedAmong cs ds (Pipe o) at (part p.slots at k) → Keeps (object_owns o) (pipe_seen p) (pipe_seen p) cs ds
keeps_slots p o at k cs ds n = keeps_among (object_owns o) (pipe_seen p) cs ds (Pipe o) at (part p.slots at k) n (pipe_bytes_there p o at k)

-- Where bytes are stored: the first n from slot i up to the last slot, the others from slot 0 on.
pub record Lies (p : PipeState) (bs first second : List ℕ) (i n : ℕ) : Type 0 where
  pub some : 0 < length p.slots
  pub most : length bs ≤ length p.slots
  pub at : i ≡ p.put % length p.slots
  pub count : n ≡ min (length bs) (length p.slots - i)
  pub first_is : first ≡ take n bs
  pub second_is : second ≡ drop n bs

pub record LiesWithin (p : PipeState) (first second : List ℕ) (i : ℕ) : Type 0 where
  pub start : i < length p.slots
  pub near : i + length first ≤ length p.slots
  pub far : length second ≤ i

pub lies_within : (p : PipeState) (bs first second : List ℕ) (i n : ℕ) → Lies p bs first second i n → LiesWithin p first second i
lies_within p bs first second i n h =
    let some = h.some in
    let most = h.most in
    let count = h.count in
    let at = h.at in
    let small : i < length p.slots = let b = mod_below p.put (length p.slots) some in omega (arith, at) in
    let one : length first ≡ n = ap length h.first_is ∙ grind (arith, common_steps) in
    let two : length second ≡ length bs - n = ap length h.second_is ∙ grind (arith, common_steps) in
    record { start = small; near = omega (arith, small, one, count, most); far = omega (arith, small, two, count, most) }

-- Recording the slots of the first part adds no note of the second part.
pub second_fresh : (p : PipeState) (bs first second : List ℕ) (i n o : ℕ) (cs ds : List Change) → Lies p bs first second i n → NotedAmong cs ds (Pipe o) i (part p.slots i (length first)) → (d : ℕ) → d < length second → named cs (PipeByte o d) ≡ None → named ds (PipeByte o (0 + d)) ≡ None
second_fresh p bs first second i n o cs ds h a d l e =
    let w = (lies_within p bs first second i n h).far in
    ap (λ z. named ds (PipeByte o z)) (let z : 0 + d ≡ d = omega arith in z) ∙ among_fresh_before cs ds (Pipe o) i (part p.slots i (length first)) a d (omega (arith, w)) e

-- A slot without a note is unchanged.
pub slots_stay : (p : PipeState) (bs first second : List ℕ) (i n o : ℕ) (ds es : List Change) → Lies p bs first second i n → NotedAmong ds es (Pipe o) 0 (part p.slots 0 (length second))
    → NamesDiffering ds (Pipe o) i (part p.slots i (length first)) first → NamesDiffering es (Pipe o) 0 (part p.slots 0 (length second)) second
    → (j : ℕ) → named es (PipeByte o j) ≡ None → slice_get (slots_with p.slots p.put bs) j ≡ slice_get p.slots j
slots_stay p bs first second i n o ds es h a one two j e =
    sym (ap (λ xs. slice_get xs j) (ap (λ xs. overwritten (overwritten p.slots i xs) 0 second) h.first_is ∙ ap (λ xs. overwritten (overwritten p.slots i (take n bs)) 0 xs) h.second_is ∙ put_in_parts p.slots bs p.put i n h.some h.most h.at h.count))
    ∙ same_overwritten over second 0 (length second) j (omega (arith, whole, within, start)) refl below
    ∙ same_overwritten p.slots first i (length first) j (omega (arith, fits)) refl (λ d q. one d (ap (λ z. named ds (PipeByte o z)) (sym q) ∙ among_named ds es (Pipe o) 0 (part p.slots 0 (length second)) a (PipeByte o j) e))
  where
    lies : LiesWithin p first second i
    lies = lies_within p bs first second i n h

    within : length second ≤ i
    within = lies.far

    start : i < length p.slots
    start = lies.start

    fits : i + length first ≤ length p.slots
    fits = lies.near

    over : List ℕ
    over = overwritten p.slots i first

    whole : length (overwritten p.slots i first) ≡ length p.slots
    whole = let f = fits in grind (arith, common_steps, f)

    below : (d : ℕ) → j ≡ 0 + d → slice_get (part over 0 (length second)) d ≡ slice_get second d
    below d q = by (below_or_not d (length second))
      where
        by : (d < length second) ⊎ (length second ≤ d) → slice_get (part over 0 (length second)) d ≡ slice_get second d
        by (inr l) = slice_get-part_past over 0 (length second) d l ∙ sym (slice_get_past second d l)
        by (inl l) =
            slice_get-part over 0 (length second) d l ∙ get-overwritten_other p.slots i first (0 + d) (omega (arith, fits)) (inl (omega (arith, within)))
            ∙ sym (slice_get-part p.slots 0 (length second) d l) ∙ two d (ap (λ z. named es (PipeByte o z)) (sym q) ∙ e)

-- ---- The notes of a write

pub keeps_put : (p : PipeState) (o : ℕ) (cs ds es : List Change) → Keeps (object_owns o) (pipe_seen p) (pipe_seen p) cs ds → Noted ds es (PutCount o) (Some (Number p.put)) → Keeps (object_owns o) (pipe_seen p) (pipe_seen p) cs es
keeps_put p o cs ds es k n = keeps_then (object_owns o) (pipe_seen p) (pipe_seen p) (pipe_seen p) cs ds es k (keeps_unchanged (object_owns o) (pipe_seen p) ds es (PutCount o) (eq-eqb o o refl) n)

pub names_put : (p : PipeState) (bs : List ℕ) (o : ℕ) (ds es : List Change) → ((j : ℕ) → named ds (PipeByte o j) ≡ None → slice_get (slots_with p.slots p.put bs) j ≡ slice_get p.slots j) → Noted ds es (PutCount o) (Some (Number p.put))
    → NamesChanges (object_owns o) (pipe_seen p) (pipe_seen (put_in bs p)) es
names_put p bs o ds es slots n (PipeByte y j) own h = ap (option_map Byte) (slots j (noted_keeps ds es (PutCount o) (Some (Number p.put)) n (PipeByte o j) (ap (λ z. named es (PipeByte z j)) (eqb-true o y own) ∙ h)))
names_put p bs o ds es slots n (PutCount y) own h = absurd (noted_named ds es (PutCount o) (Some (Number p.put)) n (ap (λ z. named es (PutCount z)) (eqb-true o y own) ∙ h))
names_put p bs o ds es slots n _ own h = refl

-- ---- Counters

-- Recording a counter and then changing it doesn't change what undoing gives.
pub keeps_counter : (o m n : ℕ) (cs ds : List Change) → Noted cs ds (EventCount o) (Some (Number m)) → Keeps (object_owns o) (counter_seen m) (counter_seen n) cs ds
keeps_counter o m n cs ds k = keeps_changed (object_owns o) (counter_seen m) (counter_seen m) (counter_seen n) cs ds (keeps_unchanged (object_owns o) (counter_seen m) cs ds (EventCount o) (eq-eqb o o refl) k) names
  where
    names : NamesChanges (object_owns o) (counter_seen m) (counter_seen n) ds
    names (EventCount y) own h = absurd (noted_named cs ds (EventCount o) (Some (Number m)) k (ap (λ z. named ds (EventCount z)) (eqb-true o y own) ∙ h))
    names _ own h = refl
