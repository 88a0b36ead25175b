-- The places of an object, and which values can be assigned to them.
use Rattle.std.specs.Prelude.{◌≡◌, ℕ, ◌==◌, nat_le, Bool, true, false, Option, Some, None, IsSome, IsTrue, List}
use Rattle.places.specs.View.{View, named, put_at, undo}
use Rattle.places.specs.Runs.{place_in, old_bytes}
use Rattle.places.specs.declared.place.Place.{Place}
use Rattle.places.specs.declared.place.Place.TheVariants.{MemoryByte, FileByte, DurableByte, FileLength, DurableLength, Position, OpenMark, PipeByte, PutCount, TakenCount, EventCount}
use Rattle.places.specs.declared.notes.runs.Region.{Region}
use Rattle.places.specs.declared.value.Change.{Change}
use Rattle.places.specs.declared.value.Value.{Value}
use Rattle.places.specs.declared.value.Value.TheVariants.{Number, Byte}

-- Whether a place belongs to object number o.
abbrev pub object_owns : ℕ → Place → Bool
object_owns o (FileByte x i) = o == x
object_owns o (DurableByte x i) = o == x
object_owns o (FileLength x) = o == x
object_owns o (DurableLength x) = o == x
object_owns o (PipeByte x i) = o == x
object_owns o (PutCount x) = o == x
object_owns o (TakenCount x) = o == x
object_owns o (EventCount x) = o == x
object_owns o _ = false

-- The number of the object that a place belongs to, if any.
abbrev pub object_in : Place → Option ℕ
object_in (FileByte x i) = Some x
object_in (DurableByte x i) = Some x
object_in (FileLength x) = Some x
object_in (DurableLength x) = Some x
object_in (PipeByte x i) = Some x
object_in (PutCount x) = Some x
object_in (TakenCount x) = Some x
object_in (EventCount x) = Some x
object_in _ = None

-- Whether the value has the type and the range of the place: memory, object or descriptor.
abbrev pub in_range : Place → Value → Bool
in_range (MemoryByte a) (Byte b) = true
in_range (FileByte o i) (Byte b) = true
in_range (DurableByte o i) (Byte b) = true
in_range (PipeByte o i) (Byte b) = true
in_range (FileLength o) (Number n) = nat_le n 65536
in_range (DurableLength o) (Number n) = nat_le n 65536
in_range (Position fd) (Number n) = true
in_range (OpenMark fd) (Number n) = nat_le n 1
in_range (PutCount o) (Number n) = true
in_range (TakenCount o) (Number n) = true
in_range (EventCount o) (Number n) = true
in_range p v = false

-- The place is present, and the value fits it.
pub record CanPut (seen : View) (p : Place) (v : Value) : Type 0 where
  pub there : IsSome (seen p)
  pub fits : IsTrue (in_range p v)

-- Among the places of an object, only p changed, and it has the value v.
abbrev pub PutsIn : View → View → Place → Value → Type 0
PutsIn old new p v =
    (o : ℕ) (q : Place) → object_owns o p ≡ true → object_owns o q ≡ true
    → new q ≡ put_at old p (Some v) q

-- The recorded bytes of a region from index s on were restored, and no other place of that object
-- changed.
abbrev pub PutsBack : View → View → Region → ℕ → List (Option ℕ) → Type 0
PutsBack old new g s os =
    (o : ℕ) (q : Place) → object_owns o (place_in g s) ≡ true → object_owns o q ≡ true
    → new q ≡ undo old (old_bytes g s os) q

-- Each place whose value differs in the two views has a note.
abbrev pub NamesChanges : (Place → Bool) → View → View → List Change → Type 0
NamesChanges owns old new notes = (q : Place) → owns q ≡ true → named notes q ≡ None → new q ≡ old q
