-- Facts about the notes of a write to a file and of an fsync.
use Rattle.std.proofs.Common.{◌≡◌, ℕ, Bool, true, false, cond, refl, sym, ◌∙◌, ap, List, length, ◌+◌, ◌<◌, ◌≤◌, max, arith}
use Rattle.std.specs.Prelude.{Option, Some, None, option_map, slice_get, ◌==◌}
use Rattle.std.proofs.lemmas.Bool.{eqb-true, eq-eqb}
use Rattle.places.specs.declared.place.Place.{Place}
use Rattle.places.specs.declared.place.Place.TheVariants.{FileByte, FileLength}
use Rattle.places.specs.declared.value.Change.{Change}
use Rattle.places.specs.declared.value.Value.{Value}
use Rattle.places.specs.declared.value.Value.TheVariants.{Number, Byte}
use Rattle.places.specs.declared.notes.runs.Region.TheVariants.{File}
use Rattle.places.specs.Runs.{byte_from, byte_in}
use Rattle.places.specs.View.{named, Keeps, Noted}
use Rattle.places.proofs.Keeping.{keeps_then, keeps_unchanged, noted_keeps}
use Rattle.model_files.specs.Differing.{NotedAmong, NamesDiffering}
use Rattle.model_files.specs.Objects.{object_owns, NamesChanges}
use Rattle.model_files.specs.Files.{FileState, FileFormed, file_seen, part, written}
use Rattle.model_files.proofs.Overwriting.{written_is}
use Rattle.model_files.proofs.Among.{keeps_among}
use Rattle.model_files.proofs.Comparing.{same_overwritten}
use Rattle.model_files.proofs.Noting.{bytes_there, get_part, noted_named}

file_bytes_there : (f : FileState) (o at k : ℕ) (q : Place) (x : Option Value) → byte_in (File o) at (part f.bytes at k) q ≡ Some x → (x ≡ file_seen f q) × (object_owns o q ≡ true)
file_bytes_there f o at k (FileByte y j) x e = by (o == y) refl e
  where
    by : (t : Bool) → (o == y) ≡ t → cond t (byte_from at (part f.bytes at k) j) None ≡ Some x → (x ≡ option_map Byte (slice_get f.bytes j)) × ((o == y) ≡ true)
    by true g h = (bytes_there f.bytes (part f.bytes at k) at j x (get_part f.bytes at k) h, g)
    by false g h = absurd cc
file_bytes_there f o at k _ x e = absurd cc

-- Recording bytes of a file before they change doesn't change what undoing gives.
pub keeps_file_bytes : (f : FileState) (o at k : ℕ) (cs ds : List Change) → NotedAmong cs ds (File o) at (part f.bytes at k) → Keeps (object_owns o) (file_seen f) (file_seen f) cs ds
keeps_file_bytes f o at k cs ds n = keeps_among (object_owns o) (file_seen f) cs ds (File o) at (part f.bytes at k) n (file_bytes_there f o at k)

-- A write changes only places that have notes.
names_written : (f : FileState) (o at k : ℕ) (others : List ℕ) (cs : List Change) → FileFormed f → 0 < length others → at + length others ≤ 65536 → k ≡ length others → NamesDiffering cs (File o) at (part f.bytes at k) others → (named cs (FileLength o) ≡ None → at + length others ≤ f.len)
    → NamesChanges (object_owns o) (file_seen f) (file_seen (written others at f)) cs
names_written f o at k others cs formed some within l bytes grows (FileByte y j) own h =
    let w = written_is f at others (max f.len (at + length others)) formed some within refl in
    let size = formed.sized.bytes in
    sym (ap (λ (g : FileState). option_map Byte (slice_get g.bytes j)) w)
    ∙ ap (option_map Byte) (same_overwritten f.bytes others at k j (omega arith) (sym l) (λ i e. bytes i (ap (named cs) (ap (λ z. FileByte z (at + i)) (eqb-true o y own) ∙ ap (FileByte y) (sym e)) ∙ h)))
names_written f o at k others cs formed some within l bytes grows (FileLength y) own h =
    let w = written_is f at others (max f.len (at + length others)) formed some within refl in
    let less = grows (ap (λ z. named cs (FileLength z)) (eqb-true o y own) ∙ h) in
    let same : max f.len (at + length others) ≡ f.len = omega arith in
    sym (ap (λ (g : FileState). Some (Number g.len)) w) ∙ ap (λ n. Some (Number n)) same
names_written f o at k others cs formed some within l bytes grows _ own h = refl

-- ---- The notes of a write

pub keeps_written : (f : FileState) (o at k : ℕ) (cs ds es : List Change) → NotedAmong cs ds (File o) at (part f.bytes at k) → Noted ds es (FileLength o) (Some (Number f.len)) → Keeps (object_owns o) (file_seen f) (file_seen f) cs es
keeps_written f o at k cs ds es n m =
    keeps_then (object_owns o) (file_seen f) (file_seen f) (file_seen f) cs ds es (keeps_file_bytes f o at k cs ds n) (keeps_unchanged (object_owns o) (file_seen f) ds es (FileLength o) (eq-eqb o o refl) m)

pub names_within : (f : FileState) (o at k : ℕ) (others : List ℕ) (ds : List Change) → FileFormed f → 0 < length others → at + length others ≤ 65536 → k ≡ length others → NamesDiffering ds (File o) at (part f.bytes at k) others → at + length others ≤ f.len
    → NamesChanges (object_owns o) (file_seen f) (file_seen (written others at f)) ds
names_within f o at k others ds formed some within e d less = names_written f o at k others ds formed some within e d (λ _. less)

pub names_past : (f : FileState) (o at k : ℕ) (others : List ℕ) (x : Option Value) (ds es : List Change) → FileFormed f → 0 < length others → at + length others ≤ 65536 → k ≡ length others → NamesDiffering ds (File o) at (part f.bytes at k) others → Noted ds es (FileLength o) x
    → NamesChanges (object_owns o) (file_seen f) (file_seen (written others at f)) es
names_past f o at k others x ds es formed some within e d m =
    names_written f o at k others es formed some within e (λ i h. d i (noted_keeps ds es (FileLength o) x m (FileByte o (at + i)) h)) (λ h. absurd (noted_named ds es (FileLength o) x m h))
