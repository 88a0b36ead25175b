-- A record has the changes of the notes that it was made of.
use Rattle.std.proofs.Common.{◌≡◌, ℕ, ◌+◌, ◌/◌, ◌<◌, ◌≤◌, true, false, refl, sym, ◌∙◌, ap, subst, List, [], ◌∷◌, ◌++◌, length, append_assoc, length-append, arith, inl, inr}
use Rattle.std.proofs.lemmas.List.{length-map}
use Rattle.std.specs.Prelude.{map}
use Rattle.places.specs.declared.value.Change.{Change}
use Rattle.places.specs.declared.notes.numbers.NumberNote.{NumberNote}
use Rattle.places.specs.declared.notes.completions.CompletionNote.{CompletionNote}
use Rattle.places.specs.declared.notes.rows.RowNote.{RowNote}
use Rattle.places.specs.declared.notes.room.Room.{Room}
use Rattle.places.specs.View.{View}
use Rattle.places.specs.Closed.{KeptOf}
use Rattle.places.specs.Slots.{number_change, completion_change, row_change}
use Rattle.places.specs.Runs.{run_changes}
use Rattle.places.specs.RestList.{RestList}
use Rattle.places.specs.WideList.{WideList}
use Rattle.compact_size.specs.Reading.{Puts}
use Rattle.compact_size.specs.CompactSizes.{number_of, after}
use Rattle.places.specs.Packed.{change_of, after_change, packed}
use Rattle.compact_size.proofs.ReadingLemmas.{puts_more}
use Rattle.places.proofs.ChangeLemmas.{packed_put}
use Rattle.places.specs.All.{all_changes, record_changes, NothingNoted, IsReady}

-- Nothing remains of no notes.
pub kept_nothing : {X : Type 0} (change : X → Change) (v : View) (xs ys : List X) → xs ≡ [] → KeptOf v (map change xs) (map change ys) → ys ≡ []
kept_nothing change v xs [] e k = refl
kept_nothing change v xs (y ∷ ys) e k = absurd (let h : map change (y ∷ ys) ≡ [] = subst (λ zs. KeptOf v (map change zs) (map change (y ∷ ys))) e k in cc)

pub nothing_there : (ns : List NumberNote) (cs : List CompletionNote) (rs : List RowNote) (r : Room) (w : WideList) → IsReady ns cs rs r w → w.is_ready ≡ false → NothingNoted ns cs rs r
nothing_there ns cs rs r w (inl e) f = absurd (let t : true ≡ false = sym e ∙ f in cc)
nothing_there ns cs rs r w (inr n) f = n

module _ (ns : List NumberNote) (cs : List CompletionNote) (rs : List RowNote) (x : RestList) (ps : List Change) (w : WideList) where
  -- The changes of a record whose notes are packed.
  pub packed_changes : ps ≡ map number_change ns ++ (map completion_change cs ++ map row_change rs) → w.numbers ≡ [] → w.completions ≡ [] → w.rows ≡ [] → record_changes ps w x ≡ all_changes ns cs rs x
  packed_changes e f g h =
      let a = map number_change ns in
      let b = map completion_change cs in
      let c = map row_change rs in
      let d = run_changes x.runs x.olds in
      rw (e, f, g, h)
      (sym (append_assoc (a ++ (b ++ c)) d x.odd) ∙ ap (λ zs. zs ++ x.odd) (append_assoc a (b ++ c) d ∙ ap (λ zs. a ++ zs) (append_assoc b c d)))

  -- The changes of a record whose notes are not packed.
  pub wide_changes : ps ≡ [] → w.numbers ≡ ns → w.completions ≡ cs → w.rows ≡ rs → record_changes ps w x ≡ all_changes ns cs rs x
  wide_changes e f g h = rw (e, f, g, h) refl

-- Twice the number of notes, or 1 more, followed by the notes of each kind, is read as their changes.
pub notes_packed : (ns : List NumberNote) (cs : List CompletionNote) (rs : List RowNote) (n : ℕ) (a b c d e : List ℕ) → a ≡ [] → n / 2 ≡ length ns + (length cs + length rs) → Puts number_of after a (n ∷ []) b → Puts change_of after_change b (map number_change ns) c → Puts change_of after_change c (map completion_change cs) d → Puts change_of after_change d (map row_change rs) e → (packed e ≡ map number_change ns ++ (map completion_change cs ++ map row_change rs)) × (number_of e ≡ n)
notes_packed ns cs rs n a b c d e z l f g h k =
    let A = map number_change ns in
    let B = map completion_change cs in
    let C = map row_change rs in
    packed_put a b e n (A ++ (B ++ C)) z
    (omega (arith, l, length-append A (B ++ C), length-append B C, length-map ns number_change, length-map cs completion_change, length-map rs row_change))
    f
    (puts_more change_of after_change b c e A (B ++ C) g (puts_more change_of after_change c d e B C h k))

-- If memory for notes is reserved, the box for unpacked notes is allocated.
pub ready_held : (ns : List NumberNote) (cs : List CompletionNote) (rs : List RowNote) (r : Room) (w : WideList) → IsReady ns cs rs r w → 0 < r.held → w.is_ready ≡ true
ready_held ns cs rs r w (inl e) h = e
ready_held ns cs rs r w (inr n) h = absurd (let k = n.held in omega arith)

-- This stays so if less is reserved.
pub ready_less : (ns : List NumberNote) (cs : List CompletionNote) (rs : List RowNote) (r q : Room) (w : WideList) → IsReady ns cs rs r w → q.held ≤ r.held → IsReady ns cs rs q w
ready_less ns cs rs r q w (inl e) h = inl e
ready_less ns cs rs r q w (inr n) h = inr (record { numbers = n.numbers; completions = n.completions; rows = n.rows; held = let k = n.held in omega arith })
