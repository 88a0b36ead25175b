-- Facts about recording some of the bytes of a region, in spans.
use Rattle.std.proofs.Common.{◌≡◌, ℕ, Bool, true, false, cond, refl, sym, ◌∙◌, ap, List, length, ◌+◌, ◌-◌, ◌<◌, ◌≤◌, arith}
use Rattle.std.specs.Prelude.{Option, Some, None, option_map, slice_get, ◌⊎◌, unwrap_or}
use Rattle.std.proofs.Common.{inl, inr}
use Rattle.std.proofs.lemmas.Bool.{eq-eqb}
use Rattle.std.proofs.lemmas.Option.{slice_get_past}
use Rattle.places.specs.declared.place.Place.{Place}
use Rattle.places.specs.declared.notes.runs.Region.{Region}
use Rattle.places.specs.declared.notes.runs.Region.TheVariants.{Memory, File, Durable, Pipe}
use Rattle.places.specs.declared.value.Change.{Change}
use Rattle.places.specs.declared.value.Value.{Value}
use Rattle.places.specs.declared.value.Value.TheVariants.{Byte}
use Rattle.places.specs.Notes.{Notes, HasSameRoom}
use Rattle.places.specs.Runs.{place_in, is_in, offset_in, byte_from, byte_in, NotedBytes}
use Rattle.places.specs.View.{View, named, undo, first_note, Keeps}
use Rattle.model_files.specs.Differing.{Alike, IsFirst, IsSpanEnd, NotedAmong, NamesDiffering, Spares}
use Rattle.model_files.specs.Files.{part}
use Rattle.model_files.proofs.Noting.{below_or_not, byte_from_at, byte_from_before, bytes_elsewhere, get_part, length-part, unnamed_byte}

first_none : (m : Option (Option Value)) → first_note m None ≡ m
first_none None = refl
first_none (Some x) = refl

first_twice : (m b : Option (Option Value)) → first_note (first_note m b) b ≡ first_note m b
first_twice None None = refl
first_twice None (Some x) = refl
first_twice (Some x) b = refl

-- ---- A part of the bytes

-- For each index, a part of the bytes has the same note as all of them, or none.
part_says : (bs : List ℕ) (s a k i : ℕ) → (byte_from (s + a) (part bs a k) i ≡ None) ⊎ (byte_from (s + a) (part bs a k) i ≡ byte_from s bs i)
part_says bs s a k i = by (below_or_not i (s + a))
  where
    at : (d : ℕ) → i ≡ (s + a) + d → (b : Option ℕ) → slice_get (part bs a k) d ≡ b → (byte_from (s + a) (part bs a k) i ≡ None) ⊎ (byte_from (s + a) (part bs a k) i ≡ byte_from s bs i)
    at d e None g = inl (byte_from_at (s + a) (part bs a k) d i e ∙ ap (option_map (λ b. Some (Byte b))) g)
    at d e (Some b) g =
        inr
        (byte_from_at (s + a) (part bs a k) d i e ∙ ap (option_map (λ b. Some (Byte b))) (g ∙ sym (get_part bs a k d b g)) ∙ sym (byte_from_at s bs (a + d) i (omega arith)))

    by : (i < s + a) ⊎ (s + a ≤ i) → (byte_from (s + a) (part bs a k) i ≡ None) ⊎ (byte_from (s + a) (part bs a k) i ≡ byte_from s bs i)
    by (inl l) = inl (byte_from_before (s + a) (part bs a k) i l)
    by (inr l) = at (i - (s + a)) (omega arith) (slice_get (part bs a k) (i - (s + a))) refl

part_in : (g : Region) (bs : List ℕ) (s a k : ℕ) (q : Place) → (byte_in g (s + a) (part bs a k) q ≡ None) ⊎ (byte_in g (s + a) (part bs a k) q ≡ byte_in g s bs q)
part_in g bs s a k q = by (is_in g q)
  where
    by : (t : Bool) → (cond t (byte_from (s + a) (part bs a k) (offset_in g q)) None ≡ None) ⊎ (cond t (byte_from (s + a) (part bs a k) (offset_in g q)) None ≡ cond t (byte_from s bs (offset_in g q)) None)
    by true = part_says bs s a k (offset_in g q)
    by false = inl refl

-- Recording a part of the bytes is recording among all of them.
among_part : (cs ds : List Change) (g : Region) (s a k : ℕ) (bs : List ℕ) → NotedBytes cs ds g (s + a) (part bs a k) → NotedAmong cs ds g s bs
among_part cs ds g s a k bs n q = by (part_in g bs s a k q)
  where
    by : (byte_in g (s + a) (part bs a k) q ≡ None) ⊎ (byte_in g (s + a) (part bs a k) q ≡ byte_in g s bs q) → (named ds q ≡ named cs q) ⊎ (named ds q ≡ first_note (named cs q) (byte_in g s bs q))
    by (inl e) = inl (n q ∙ ap (first_note (named cs q)) e ∙ first_none (named cs q))
    by (inr e) = inr (n q ∙ ap (first_note (named cs q)) e)

among_then : (cs ds es : List Change) (g : Region) (s : ℕ) (bs : List ℕ) → NotedAmong cs ds g s bs → NotedAmong ds es g s bs → NotedAmong cs es g s bs
among_then cs ds es g s bs n m q = by (n q) (m q)
  where
    by : (named ds q ≡ named cs q) ⊎ (named ds q ≡ first_note (named cs q) (byte_in g s bs q)) → (named es q ≡ named ds q) ⊎ (named es q ≡ first_note (named ds q) (byte_in g s bs q))
        → (named es q ≡ named cs q) ⊎ (named es q ≡ first_note (named cs q) (byte_in g s bs q))
    by (inl e) (inl f) = inl (f ∙ e)
    by (inr e) (inl f) = inr (f ∙ e)
    by (inl e) (inr f) = inr (f ∙ ap (λ m. first_note m (byte_in g s bs q)) e)
    by (inr e) (inr f) = inr (f ∙ ap (λ m. first_note m (byte_in g s bs q)) e ∙ first_twice (named cs q) (byte_in g s bs q))

-- The note of a place of the region is the one of its index.
says_there : (g : Region) (t : ℕ) (bs : List ℕ) (i : ℕ) → byte_in g t bs (place_in g i) ≡ byte_from t bs i
says_there Memory t bs i = refl
says_there (File o) t bs i = ap (λ b. cond b (byte_from t bs i) None) (eq-eqb o o refl)
says_there (Durable o) t bs i = ap (λ b. cond b (byte_from t bs i) None) (eq-eqb o o refl)
says_there (Pipe o) t bs i = ap (λ b. cond b (byte_from t bs i) None) (eq-eqb o o refl)

past_says : (bs : List ℕ) (t i : ℕ) → t + length bs ≤ i → byte_from t bs i ≡ None
past_says bs t i h = byte_from_at t bs (i - t) i (omega arith) ∙ ap (option_map (λ b. Some (Byte b))) (slice_get_past bs (i - t) (omega arith))

-- Recording bytes adds no note of a place after them.
pub among_fresh : (cs ds : List Change) (g : Region) (s : ℕ) (bs : List ℕ) → NotedAmong cs ds g s bs → (i : ℕ) → s + length bs ≤ i → named cs (place_in g i) ≡ None → named ds (place_in g i) ≡ None
among_fresh cs ds g s bs n i h e = by (n (place_in g i))
  where
    by : (named ds (place_in g i) ≡ named cs (place_in g i)) ⊎ (named ds (place_in g i) ≡ first_note (named cs (place_in g i)) (byte_in g s bs (place_in g i))) → named ds (place_in g i) ≡ None
    by (inl f) = f ∙ e
    by (inr f) = f ∙ ap (λ m. first_note m (byte_in g s bs (place_in g i))) e ∙ says_there g s bs i ∙ past_says bs s i h

-- Nor of a place before them.
pub among_fresh_before : (cs ds : List Change) (g : Region) (s : ℕ) (bs : List ℕ) → NotedAmong cs ds g s bs → (i : ℕ) → i < s → named cs (place_in g i) ≡ None → named ds (place_in g i) ≡ None
among_fresh_before cs ds g s bs n i h e = by (n (place_in g i))
  where
    by : (named ds (place_in g i) ≡ named cs (place_in g i)) ⊎ (named ds (place_in g i) ≡ first_note (named cs (place_in g i)) (byte_in g s bs (place_in g i))) → named ds (place_in g i) ≡ None
    by (inl f) = f ∙ e
    by (inr f) = f ∙ ap (λ m. first_note m (byte_in g s bs (place_in g i))) e ∙ says_there g s bs i ∙ byte_from_before s bs i h

-- Recording removes no note.
pub among_named : (cs ds : List Change) (g : Region) (s : ℕ) (bs : List ℕ) → NotedAmong cs ds g s bs → (q : Place) → named ds q ≡ None → named cs q ≡ None
among_named cs ds g s bs n q h = by (n q)
  where
    first : (m b : Option (Option Value)) → first_note m b ≡ None → m ≡ None
    first None b k = refl
    first (Some x) b k = absurd cc

    by : (named ds q ≡ named cs q) ⊎ (named ds q ≡ first_note (named cs q) (byte_in g s bs q)) → named cs q ≡ None
    by (inl e) = sym e ∙ h
    by (inr e) = first (named cs q) (byte_in g s bs q) (sym e ∙ h)

-- If the recorded bytes are the current values, undoing gives the same view as before.
pub keeps_among : (owns : Place → Bool) (v : View) (cs ds : List Change) (g : Region) (s : ℕ) (bs : List ℕ) → NotedAmong cs ds g s bs → ((q : Place) (x : Option Value) → byte_in g s bs q ≡ Some x → (x ≡ v q) × (owns q ≡ true)) → Keeps owns v v cs ds
keeps_among owns v cs ds g s bs n there = record { back = λ q _. back q (n q); others = λ q o. others q o (n q) }
  where
    undone : (q : Place) (m b : Option (Option Value)) → byte_in g s bs q ≡ b → unwrap_or (first_note m b) (v q) ≡ unwrap_or m (v q)
    undone q (Some x) b e = refl
    undone q None (Some x) e = (there q x e).0
    undone q None None e = refl

    other : (q : Place) (m b : Option (Option Value)) → byte_in g s bs q ≡ b → owns q ≡ false → first_note m b ≡ m
    other q (Some x) b e o = refl
    other q None (Some x) e o = let t = (there q x e).1 in absurd (let f : true ≡ false = sym t ∙ o in cc)
    other q None None e o = refl

    back : (q : Place) → (named ds q ≡ named cs q) ⊎ (named ds q ≡ first_note (named cs q) (byte_in g s bs q)) → undo v ds q ≡ undo v cs q
    back q (inl e) = ap (λ m. unwrap_or m (v q)) e
    back q (inr e) = ap (λ m. unwrap_or m (v q)) e ∙ undone q (named cs q) (byte_in g s bs q) refl

    others : (q : Place) → owns q ≡ false → (named ds q ≡ named cs q) ⊎ (named ds q ≡ first_note (named cs q) (byte_in g s bs q)) → named ds q ≡ named cs q
    others q o (inl e) = e
    others q o (inr e) = e ∙ other q (named cs q) (byte_in g s bs q) refl o

-- ---- Span by span

pub as_much : (a b c : Notes) → HasSameRoom a b → HasSameRoom b c → HasSameRoom a c
as_much a b c h k = record {
  numbers = let x = h.numbers in let y = k.numbers in omega arith;
  completions = let x = h.completions in let y = k.completions in omega arith;
  others = let x = h.others in let y = k.others in omega arith;
}

-- The invariant of the loop. The bytes before index `done` that differ have notes, no 16 unchanged
-- bytes in a row have any, and no byte from `done` on has one.
pub record NotingSpans (g : Region) (s : ℕ) (old others : List ℕ) (before notes : Notes) (done : ℕ) : Type 0 where
  pub within : done ≤ length old
  pub among : NotedAmong before.made notes.made g s old
  pub noted : (i : ℕ) → i < done → named notes.made (place_in g (s + i)) ≡ None → slice_get old i ≡ slice_get others i
  pub fresh : (i : ℕ) → done ≤ i → i < length old → named notes.made (place_in g (s + i)) ≡ None
  pub spared : (i k : ℕ) → Alike old others i (i + 16) → i ≤ k → k < i + 16 → k < done → named notes.made (place_in g (s + k)) ≡ None
  pub room : HasSameRoom before notes

-- No byte of the next span has a note yet.
pub span_fresh : (g : Region) (s : ℕ) (old others : List ℕ) (before notes : Notes) (done from end : ℕ) (bs : List ℕ) → NotingSpans g s old others before notes done → IsFirst old others done from → IsSpanEnd old others from end → length bs ≤ end - from → (i : ℕ) → i < length bs → named notes.made (place_in g ((s + from) + i)) ≡ None
span_fresh g s old others before notes done from end bs m first last size i h =
    ap (λ n. named notes.made (place_in g n)) (let e : (s + from) + i ≡ s + (from + i) = omega arith in e) ∙ m.fresh (from + i) (let a = first.from in omega arith) (let b = last.within in omega arith)

pub spans_on : (g : Region) (s : ℕ) (old others : List ℕ) (before notes next : Notes) (done from end : ℕ) → NotingSpans g s old others before notes done → IsFirst old others done from → IsSpanEnd old others from end → NotedBytes notes.made next.made g (s + from) (part old from (end - from)) → HasSameRoom notes next
    → NotingSpans g s old others before next end
spans_on g s old others before notes next done from end m first last n room = record {
  within = last.within;
  among = among_then before.made notes.made next.made g s old m.among among;
  noted = noted;
  fresh = fresh;
  spared = spared;
  room = as_much before notes next m.room room;
}
  where
    among : NotedAmong notes.made next.made g s old
    among = among_part notes.made next.made g s from (end - from) old n

    size : length (part old from (end - from)) ≡ end - from
    size = length-part old from (end - from) (let a = last.within in let b = last.some in omega arith)

    fresh : (i : ℕ) → end ≤ i → i < length old → named next.made (place_in g (s + i)) ≡ None
    fresh i h l =
        n (place_in g (s + i))
        ∙ ap (λ m. first_note m (byte_in g (s + from) (part old from (end - from)) (place_in g (s + i)))) (m.fresh i (let a = first.from in let b = last.some in omega arith) l)
        ∙ says_there g (s + from) (part old from (end - from)) (s + i)
        ∙ past_says (part old from (end - from)) (s + from) (s + i) (let a = size in let b = last.some in omega arith)

    -- The notes of places before the span are unchanged.
    before_it : (i : ℕ) → i < from → named next.made (place_in g (s + i)) ≡ named notes.made (place_in g (s + i))
    before_it i h =
        n (place_in g (s + i))
        ∙ ap (first_note (named notes.made (place_in g (s + i)))) (says_there g (s + from) (part old from (end - from)) (s + i) ∙ byte_from_before (s + from) (part old from (end - from)) (s + i) (omega arith))
        ∙ first_none (named notes.made (place_in g (s + i)))

    spared : (i k : ℕ) → Alike old others i (i + 16) → i ≤ k → k < i + 16 → k < end → named next.made (place_in g (s + k)) ≡ None
    spared i k a lo hi h = by (below_or_not k done) (below_or_not k from)
      where
        -- If 16 unchanged bytes include one of the span, they continue after its end.
        here : from ≤ k → (from < i) ⊎ (i ≤ from) → ⊥
        here l (inr f) = first.differs (a from f (omega arith))
        here l (inl f) = beyond (below_or_not (end - 1) (i + 16))
          where
            beyond : (end - 1 < i + 16) ⊎ (i + 16 ≤ end - 1) → ⊥
            beyond (inl e) = last.last (a (end - 1) (omega arith) e)
            beyond (inr e) = last.inner i (omega arith) (omega arith) a

        by : (k < done) ⊎ (done ≤ k) → (k < from) ⊎ (from ≤ k) → named next.made (place_in g (s + k)) ≡ None
        by (inl l) (inl f) = before_it k f ∙ m.spared i k a lo hi l
        by (inl l) (inr f) = absurd (let b = first.from in omega arith)
        by (inr l) (inl f) = before_it k f ∙ m.fresh k l (let b = last.within in omega arith)
        by (inr l) (inr f) = absurd (here f (below_or_not from i))

    inside : (i : ℕ) → (s + i < s + from) ⊎ ((s + from) + length (part old from (end - from)) ≤ s + i) → from ≤ i → i < end → ⊥
    inside i (inl l) lo hi = omega arith
    inside i (inr l) lo hi = let a = size in omega arith

    here : (i : ℕ) → from ≤ i → i < end → named next.made (place_in g (s + i)) ≡ None → ⊥
    here i lo hi e = inside i (bytes_elsewhere (part old from (end - from)) (s + from) (s + i) (sym (says_there g (s + from) (part old from (end - from)) (s + i)) ∙ unnamed_byte notes.made next.made g (s + from) (part old from (end - from)) n (place_in g (s + i)) e)) lo hi

    noted : (i : ℕ) → i < end → named next.made (place_in g (s + i)) ≡ None → slice_get old i ≡ slice_get others i
    noted i h e = by (below_or_not i done) (below_or_not i from)
      where
        by : (i < done) ⊎ (done ≤ i) → (i < from) ⊎ (from ≤ i) → slice_get old i ≡ slice_get others i
        by (inl l) k = m.noted i l (among_named notes.made next.made g s old among (place_in g (s + i)) e)
        by (inr l) (inl k) = first.before i l k
        by (inr l) (inr k) = absurd (here i k h e)

-- 16 unchanged bytes in a row are all recorded earlier, or all later, than index `done`.
pub spans_spare : (g : Region) (s : ℕ) (old others : List ℕ) (before notes : Notes) (done : ℕ) → NotingSpans g s old others before notes done → Spares notes.made g s old others
spans_spare g s old others before notes done m i k a lo hi h = by (below_or_not k done)
  where
    by : (k < done) ⊎ (done ≤ k) → named notes.made (place_in g (s + k)) ≡ None
    by (inl l) = m.spared i k a lo hi l
    by (inr l) = m.fresh k l h

-- When no byte from `done` on differs, all that differ have notes.
pub spans_end : (g : Region) (s : ℕ) (old others : List ℕ) (before notes : Notes) (done : ℕ) → NotingSpans g s old others before notes done → length others ≡ length old → Alike old others done (length old) → NamesDiffering notes.made g s old others
spans_end g s old others before notes done m len alike i e = by (below_or_not i done) (below_or_not i (length old))
  where
    by : (i < done) ⊎ (done ≤ i) → (i < length old) ⊎ (length old ≤ i) → slice_get old i ≡ slice_get others i
    by (inl l) k = m.noted i l e
    by (inr l) (inl k) = alike i l k
    by (inr l) (inr k) = slice_get_past old i k ∙ sym (slice_get_past others i (omega arith))
