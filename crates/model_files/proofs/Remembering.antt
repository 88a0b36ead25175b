-- The view of a world in which memory changed.
use Rattle.std.proofs.Common.{◌≡◌, ℕ, Bool, true, false, cond, refl, sym, ◌∙◌, ap, List, length, ◌+◌, ◌<◌, ◌≤◌}
use Rattle.std.specs.Prelude.{Option, Some, option_map, slice_get, slice_set, ◌==◌, ◌&&◌}
use Rattle.places.specs.declared.place.Place.{Place}
use Rattle.places.specs.declared.place.Place.TheVariants.{MemoryByte}
use Rattle.places.specs.declared.value.Change.{Change}
use Rattle.places.specs.declared.value.Value.{Value}
use Rattle.places.specs.declared.value.Value.TheVariants.{Byte}
use Rattle.places.specs.declared.notes.runs.Region.TheVariants.{Memory}
use Rattle.places.specs.Places.{same_place}
use Rattle.places.specs.Runs.{byte_in}
use Rattle.places.specs.View.{named, put_at, Keeps}
use Rattle.places.proofs.ListLemmas.{slice_get-set}
use Rattle.model_files.specs.Differing.{NotedAmong, NamesDiffering}
use Rattle.model_files.specs.Files.{part, overwritten}
use Rattle.model_files.specs.Objects.{NamesChanges}
use Rattle.model_files.specs.Worlds.{WorldState, world_owns, world_seen}
use Rattle.model_files.proofs.Among.{keeps_among}
use Rattle.model_files.proofs.Comparing.{same_overwritten}
use Rattle.model_files.proofs.Noting.{bytes_there, get_part, keeps_changed}

memory_there : (w : WorldState) (at k : ℕ) (q : Place) (x : Option Value) → byte_in Memory at (part w.memory at k) q ≡ Some x → (x ≡ world_seen w q) × (world_owns q ≡ true)
memory_there w at k (MemoryByte a) x e = (bytes_there w.memory (part w.memory at k) at a x (get_part w.memory at k) e, refl)
memory_there w at k _ x e = absurd cc

-- Recording bytes of memory before they change doesn't change what undoing gives.
pub keeps_memory_bytes : (w : WorldState) (at k : ℕ) (cs ds : List Change) → NotedAmong cs ds Memory at (part w.memory at k) → Keeps world_owns (world_seen w) (world_seen w) cs ds
keeps_memory_bytes w at k cs ds n = keeps_among world_owns (world_seen w) cs ds Memory at (part w.memory at k) n (memory_there w at k)

-- Overwriting memory changes only bytes that have notes.
pub names_memory : (w : WorldState) (at k : ℕ) (others : List ℕ) (ds : List Change) → at + k ≤ length w.memory → length others ≡ k → NamesDiffering ds Memory at (part w.memory at k) others
    → NamesChanges world_owns (world_seen w) (world_seen (record w { memory = overwritten w.memory at others })) ds
names_memory w at k others ds h l d (MemoryByte a) own e = ap (option_map Byte) (same_overwritten w.memory others at k a h l (λ i g. d i (ap (λ z. named ds (MemoryByte z)) (sym g) ∙ e)))
names_memory w at k others ds h l d _ own e = refl

-- Recording the bytes that differ and then overwriting memory doesn't change what undoing gives.
pub keeps_memory : (w : WorldState) (at k : ℕ) (others : List ℕ) (cs ds : List Change) → at + k ≤ length w.memory → length others ≡ k → NotedAmong cs ds Memory at (part w.memory at k) → NamesDiffering ds Memory at (part w.memory at k) others
    → Keeps world_owns (world_seen w) (world_seen (record w { memory = overwritten w.memory at others })) cs ds
keeps_memory w at k others cs ds h l n d =
    keeps_changed world_owns (world_seen w) (world_seen w) (world_seen (record w { memory = overwritten w.memory at others })) cs ds (keeps_memory_bytes w at k cs ds n) (names_memory w at k others ds h l d)

-- The view after one byte of memory is set.
pub put_memory : (w : WorldState) (a b : ℕ) → a < length w.memory → (q : Place) → world_seen (record w { memory = slice_set w.memory a b }) q ≡ put_at (world_seen w) (MemoryByte a) (Some (Byte b)) q
unfolding same_place
put_memory w a b h (MemoryByte j) = ap (option_map Byte) (slice_get-set w.memory a j b h) ∙ chosen (a == j)
  where
    chosen : (t : Bool) → option_map Byte (cond t (Some b) (slice_get w.memory j)) ≡ cond (t && true) (Some (Byte b)) (option_map Byte (slice_get w.memory j))
    chosen true = refl
    chosen false = refl
put_memory w a b h _ = refl
