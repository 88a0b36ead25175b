-- Facts about marking the pages of a file, recording them, and making them durable.
use Rattle.std.proofs.Common.{◌≡◌, ℕ, Bool, true, false, cond, refl, sym, ◌∙◌, ap, List, length, ◌+◌, ◌-◌, ◌*◌, ◌<◌, ◌≤◌, arith}
use Rattle.std.specs.Prelude.{Option, Some, None, option_map, slice_get, ◌==◌, ◌⊎◌}
use Rattle.std.proofs.Common.{inl, inr}
use Rattle.std.proofs.lemmas.Bool.{eqb-true, eq-eqb}
use Rattle.std.proofs.lemmas.Option.{slice_get_past}
use Rattle.places.specs.declared.place.Place.{Place}
use Rattle.places.specs.declared.place.Place.TheVariants.{DurableByte, DurableLength}
use Rattle.places.specs.declared.value.Change.{Change}
use Rattle.places.specs.declared.value.Value.{Value}
use Rattle.places.specs.declared.value.Value.TheVariants.{Number, Byte}
use Rattle.places.specs.declared.notes.runs.Region.TheVariants.{Durable}
use Rattle.places.specs.Notes.{Notes, HasSameRoom}
use Rattle.places.specs.Runs.{byte_from, byte_in}
use Rattle.places.specs.View.{named, Keeps, Noted}
use Rattle.places.proofs.Keeping.{keeps_then, keeps_unchanged, noted_keeps}
use Rattle.model_files.specs.Differing.{NotedAmong, NamesDiffering}
use Rattle.model_files.specs.Objects.{object_owns, NamesChanges}
use Rattle.model_files.specs.Files.{FileState, FileSized, file_seen, part, synced}
use Rattle.model_files.specs.Pages.{NamesUpTo}
use Rattle.model_files.proofs.Among.{among_fresh, among_named, keeps_among}
use Rattle.model_files.proofs.Comparing.{slice_get-part}
use Rattle.model_files.proofs.Noting.{below_or_not, bytes_there, get_part, length-part, noted_named}

-- ---- Marks

-- The invariant of the loop: the pages from `first` up to `next` are marked, and no mark is
-- removed.
pub record Marking (before marks : List Bool) (first next : ℕ) : Type 0 where
  pub kept : (p : ℕ) → slice_get marks p ≡ Some false → slice_get before p ≡ Some false
  pub apart : (p : ℕ) → slice_get marks p ≡ Some false → (p < first) ⊎ (next ≤ p)

-- If a page does not overlap a range of bytes, each of its bytes is before or after the range.
pub outside : (p i at count : ℕ) → (p * 4096 + 4096 ≤ at) ⊎ (at + count ≤ p * 4096) → p * 4096 ≤ i → i < p * 4096 + 4096 → (i < at) ⊎ (at + count ≤ i)
outside p i at count (inl l) lo hi = inl (omega arith)
outside p i at count (inr l) lo hi = inr (omega arith)

-- ---- Making pages durable

-- The invariant of the loop: bytes before the page are durable, and those from it on are unchanged.
pub record SyncedUpTo (bytes before durable : List ℕ) (page : ℕ) : Type 0 where
  pub len : length durable ≡ 65536
  pub there : (i : ℕ) → i < page * 4096 → slice_get durable i ≡ slice_get bytes i
  pub after : (i : ℕ) → page * 4096 ≤ i → slice_get durable i ≡ slice_get before i

-- ---- Recording pages

durable_there : (f : FileState) (o at k : ℕ) (q : Place) (x : Option Value) → byte_in (Durable o) at (part f.durable at k) q ≡ Some x → (x ≡ file_seen f q) × (object_owns o q ≡ true)
durable_there f o at k (DurableByte y j) x e = by (o == y) refl e
  where
    by : (t : Bool) → (o == y) ≡ t → cond t (byte_from at (part f.durable at k) j) None ≡ Some x → (x ≡ option_map Byte (slice_get f.durable j)) × ((o == y) ≡ true)
    by true g h = (bytes_there f.durable (part f.durable at k) at j x (get_part f.durable at k) h, g)
    by false g h = absurd cc
durable_there f o at k _ x e = absurd cc

-- Recording durable bytes before they change doesn't change what undoing gives.
pub keeps_durable_bytes : (f : FileState) (o at k : ℕ) (cs ds : List Change) → NotedAmong cs ds (Durable o) at (part f.durable at k) → Keeps (object_owns o) (file_seen f) (file_seen f) cs ds
keeps_durable_bytes f o at k cs ds n = keeps_among (object_owns o) (file_seen f) cs ds (Durable o) at (part f.durable at k) n (durable_there f o at k)

-- If the earlier pages and this one are recorded where they differ, so are all bytes up to its end.
pub page_noted : (f : FileState) (o at k : ℕ) (cs ds : List Change) → k ≡ 4096 → NotedAmong cs ds (Durable o) at (part f.durable at k) → NamesDiffering ds (Durable o) at (part f.durable at k) (part f.bytes at k) → NamesUpTo o f cs at → NamesUpTo o f ds (at + 4096)
page_noted f o at k cs ds e n d before i h unnamed = by (below_or_not i at)
  where
    here : (j : ℕ) → i ≡ at + j → j < k → slice_get f.bytes i ≡ slice_get f.durable i
    here j g l =
        ap (slice_get f.bytes) g ∙ sym (slice_get-part f.bytes at k j l) ∙ sym (d j (ap (λ z. named ds (DurableByte o z)) (sym g) ∙ unnamed)) ∙ slice_get-part f.durable at k j l ∙ ap (slice_get f.durable) (sym g)

    by : (i < at) ⊎ (at ≤ i) → slice_get f.bytes i ≡ slice_get f.durable i
    by (inl l) = before i l (among_named cs ds (Durable o) at (part f.durable at k) n (DurableByte o i) unnamed)
    by (inr l) = here (i - at) (omega arith) (omega arith)

-- Recording a page adds no note of a later byte.
pub page_fresh : (f : FileState) (o at k : ℕ) (cs ds : List Change) → FileSized f → at + k ≤ 65536 → NotedAmong cs ds (Durable o) at (part f.durable at k) → (i : ℕ) → at + k ≤ i → named cs (DurableByte o i) ≡ None → named ds (DurableByte o i) ≡ None
page_fresh f o at k cs ds sized within n i h unnamed =
    among_fresh cs ds (Durable o) at (part f.durable at k) n i (let s = length-part f.durable at k (let d = sized.durable in omega arith) in omega arith) unnamed

-- The invariant of the loop: the differing durable bytes before the page have notes.
pub record NotingPages (o : ℕ) (f : FileState) (before notes : Notes) (page : ℕ) : Type 0 where
  pub fresh : (i : ℕ) → page * 4096 ≤ i → i < 65536 → named notes.made (DurableByte o i) ≡ None
  pub keeps : Keeps (object_owns o) (file_seen f) (file_seen f) before.made notes.made
  pub noted : NamesUpTo o f notes.made (page * 4096)
  pub named : (p : Place) → named notes.made p ≡ None → named before.made p ≡ None
  pub room : HasSameRoom before notes

-- ---- The notes of an fsync

pub keeps_synced : (f : FileState) (o : ℕ) (cs ds es : List Change) → Keeps (object_owns o) (file_seen f) (file_seen f) cs ds → Noted ds es (DurableLength o) (Some (Number f.durable_len)) → Keeps (object_owns o) (file_seen f) (file_seen f) cs es
keeps_synced f o cs ds es k m = keeps_then (object_owns o) (file_seen f) (file_seen f) (file_seen f) cs ds es k (keeps_unchanged (object_owns o) (file_seen f) ds es (DurableLength o) (eq-eqb o o refl) m)

names_synced : (f : FileState) (o : ℕ) (cs : List Change) → FileSized f → NamesUpTo o f cs 65536 → (named cs (DurableLength o) ≡ None → ⊥) → NamesChanges (object_owns o) (file_seen f) (file_seen (synced f)) cs
names_synced f o cs sized bytes len (DurableByte y j) own h = ap (option_map Byte) (by (below_or_not j 65536))
  where
    by : (j < 65536) ⊎ (65536 ≤ j) → slice_get f.bytes j ≡ slice_get f.durable j
    by (inl l) = bytes j l (ap (λ z. named cs (DurableByte z j)) (eqb-true o y own) ∙ h)
    by (inr l) = let a = sized.bytes in let b = sized.durable in slice_get_past f.bytes j (omega arith) ∙ sym (slice_get_past f.durable j (omega arith))
names_synced f o cs sized bytes len (DurableLength y) own h = absurd (len (ap (λ z. named cs (DurableLength z)) (eqb-true o y own) ∙ h))
names_synced f o cs sized bytes len _ own h = refl

pub names_durable : (f : FileState) (o : ℕ) (x : Option Value) (cs ds : List Change) → FileSized f → NamesUpTo o f cs 65536 → Noted cs ds (DurableLength o) x → NamesChanges (object_owns o) (file_seen f) (file_seen (synced f)) ds
names_durable f o x cs ds sized n m = names_synced f o ds sized (λ i l h. n i l (noted_keeps cs ds (DurableLength o) x m (DurableByte o i) h)) (λ h. noted_named cs ds (DurableLength o) x m h)
