-- The world: memory, objects and descriptors, the values of their places, and the effect of each
-- transfer.
use Rattle.std.specs.Prelude.{◌≡◌, ℕ, ℤ, pos, negsuc, ◌+◌, ◌-◌, ◌^◌, ◌<◌, ◌≤◌, nat_lt, Bool, true, false, Option, Some, None, option_map, slice_get, List, [], map, length, if◌then◌else◌}
use Rattle.std.specs.Int.{w64, from_le_bytes, to_le_bytes}
use Rattle.std.specs.Option.{option_and_then}
use Rattle.places.specs.Lists.{updated}
use Rattle.places.specs.View.{View}
use Rattle.places.specs.declared.object.Contents.{Contents}
use Rattle.places.specs.declared.object.Contents.TheVariants.{File as FileOf, Pipe as PipeOf, EventFd as EventFdOf}
use Rattle.places.specs.declared.object.Descriptor.{Descriptor}
use Rattle.places.specs.declared.object.End.{End}
use Rattle.places.specs.declared.object.Object.{Object}
use Rattle.places.specs.declared.place.Place.{Place}
use Rattle.places.specs.declared.place.Place.TheVariants.{MemoryByte, FileByte, DurableByte, FileLength, DurableLength, Position, OpenMark, PipeByte, PutCount, TakenCount, EventCount}
use Rattle.places.specs.declared.value.Value.{Value}
use Rattle.places.specs.declared.value.Value.TheVariants.{Number, Byte}
use Rattle.model_files.specs.declared.body.Body.{Body}
use Rattle.model_files.specs.declared.body.Body.TheVariants.{File, Pipe, EventFd}
use Rattle.model_files.specs.declared.descriptor.DescriptorState.{DescriptorState}
use Rattle.model_files.specs.Objects.{CanPut}
use Rattle.model_files.specs.declared.stock.Stock.{Stock}
use Rattle.model_files.specs.declared.stock.Stock.TheVariants.{File as FileStock, Pipe as PipeStock, EventFd as EventStock}
use Rattle.model_files.specs.Pipes.{PipeState, PipeFormed, pipe_seen, counter_seen, pipe_start, bytes_from, filled, put_in, taken_out}
use Rattle.model_files.specs.Files.{FileState, FileFormed, file_seen, file_start, padded, written, synced, overwritten, part}

-- The memory, the objects in the setup's order, and the descriptors, numbered from 3 (stdin(3)).
pub record WorldState : Type 0 where
  pub memory : List ℕ
  pub objects : List Body
  pub descriptors : List DescriptorState

-- ---- Objects and descriptors by number

abbrev pub file_in : Body → Option FileState
file_in (File f) = Some f
file_in (Pipe p) = None
file_in (EventFd n) = None

abbrev pub pipe_in : Body → Option PipeState
pipe_in (File f) = None
pipe_in (Pipe p) = Some p
pipe_in (EventFd n) = None

abbrev pub counter_in : Body → Option ℕ
counter_in (File f) = None
counter_in (Pipe p) = None
counter_in (EventFd n) = Some n

abbrev pub file_of : WorldState → ℕ → Option FileState
file_of w o = option_and_then file_in (slice_get w.objects o)

abbrev pub pipe_of : WorldState → ℕ → Option PipeState
pipe_of w o = option_and_then pipe_in (slice_get w.objects o)

abbrev pub counter_of : WorldState → ℕ → Option ℕ
counter_of w o = option_and_then counter_in (slice_get w.objects o)

-- What the result of a transfer depends on: a file's length, how many bytes a pipe holds and its
-- capacity, or an eventfd's counter.
abbrev pub stock_in : Body → Stock
stock_in (File f) = FileStock f.len
stock_in (Pipe p) = PipeStock (filled p) (length p.slots)
stock_in (EventFd n) = EventStock n

-- A file has at most 65,536 bytes.
abbrev pub StockFits : Stock → Type 0
StockFits (FileStock len) = len ≤ 65536
StockFits (PipeStock n capacity) = Unit {0}
StockFits (EventStock n) = Unit {0}

abbrev pub stock_of : WorldState → ℕ → Option Stock
stock_of w o = option_map stock_in (slice_get w.objects o)

abbrev pub descriptor_of : WorldState → ℕ → Option DescriptorState
descriptor_of w fd = if nat_lt fd 3 then None else slice_get w.descriptors (fd - 3)

-- The descriptor in an entry's field `fd`. A negative number is no descriptor.
abbrev pub descriptor_at : WorldState → ℤ → Option DescriptorState
descriptor_at w (pos fd) = descriptor_of w fd
descriptor_at w (negsuc n) = None

-- ---- Places

-- The places of the world: memory, objects and descriptors.
abbrev pub world_owns : Place → Bool
world_owns (MemoryByte a) = true
world_owns (FileByte o i) = true
world_owns (DurableByte o i) = true
world_owns (FileLength o) = true
world_owns (DurableLength o) = true
world_owns (Position fd) = true
world_owns (OpenMark fd) = true
world_owns (PipeByte o i) = true
world_owns (PutCount o) = true
world_owns (TakenCount o) = true
world_owns (EventCount o) = true
world_owns _ = false

-- The value of the place `OpenMark`.
abbrev pub mark_of : Bool → ℕ
mark_of is_open = if is_open then 1 else 0

-- The values of an object's places.
abbrev pub body_seen : Body → View
body_seen (File f) = file_seen f
body_seen (Pipe p) = pipe_seen p
body_seen (EventFd n) = counter_seen n

abbrev pub object_seen : WorldState → ℕ → View
object_seen w o p = option_and_then (λ (b : Body). body_seen b p) (slice_get w.objects o)

-- The value of each place.
abbrev pub world_seen : WorldState → View
world_seen w (MemoryByte a) = option_map Byte (slice_get w.memory a)
world_seen w (FileByte o i) = object_seen w o (FileByte o i)
world_seen w (DurableByte o i) = object_seen w o (DurableByte o i)
world_seen w (FileLength o) = object_seen w o (FileLength o)
world_seen w (DurableLength o) = object_seen w o (DurableLength o)
world_seen w (PipeByte o i) = object_seen w o (PipeByte o i)
world_seen w (PutCount o) = object_seen w o (PutCount o)
world_seen w (TakenCount o) = object_seen w o (TakenCount o)
world_seen w (EventCount o) = object_seen w o (EventCount o)
world_seen w (Position fd) =
    option_and_then (λ (d : DescriptorState). option_map Number d.position) (descriptor_of w fd)
world_seen w (OpenMark fd) =
    option_map (λ (d : DescriptorState). Number (mark_of d.is_open)) (descriptor_of w fd)
world_seen w _ = None

-- A present place can be assigned a value in its range. No place can become absent.
abbrev pub world_can_put : WorldState → Place → Option Value → Type 0
world_can_put w p None = ⊥
world_can_put w p (Some v) = CanPut (world_seen w) p v

-- ---- The start of a run

-- The limits of a setup: at most 65,536 bytes in a file, a pipe capacity of 1 to 65,536, and a
-- counter of at most 2 ^ 64 - 2.
abbrev pub ContentsFit : Contents → Type 0
ContentsFit (FileOf bytes) = length bytes ≤ 65536
ContentsFit (PipeOf capacity) = (0 < capacity) × (capacity ≤ 65536)
ContentsFit (EventFdOf counter) = counter < 2 ^ 64 - 1

-- An object at the start of a run.
abbrev pub body_start : Contents → Body
body_start (FileOf bytes) = File (file_start bytes)
body_start (PipeOf capacity) = Pipe (pipe_start capacity)
body_start (EventFdOf counter) = EventFd counter

-- The initial file position: 0 for a file, none for other objects.
abbrev pub position_start : Contents → Option ℕ
position_start (FileOf bytes) = Some 0
position_start (PipeOf capacity) = None
position_start (EventFdOf counter) = None

-- A descriptor at the start of a run: open, and at the start of its file.
abbrev pub descriptor_start : List Object → Descriptor → DescriptorState
descriptor_start objects d = record {
  object = d.object;
  end = d.end;
  is_open = true;
  position =
      option_and_then (λ (o : Object). position_start o.contents) (slice_get objects d.object);
}

-- The world at the start of a run.
abbrev pub world_start : List ℕ → List Object → List Descriptor → WorldState
world_start memory objects descriptors = record {
  memory = padded memory;
  objects = map (λ (o : Object). body_start o.contents) objects;
  descriptors = map (descriptor_start objects) descriptors;
}

-- ---- Changes

abbrev pub on_file : (FileState → FileState) → Body → Body
on_file g (File f) = File (g f)
on_file g (Pipe p) = Pipe p
on_file g (EventFd n) = EventFd n

-- The world with the file of object o changed.
abbrev pub with_file : (FileState → FileState) → WorldState → ℕ → WorldState
with_file g w o = record w { objects = updated (on_file g) w.objects o }

abbrev pub on_pipe : (PipeState → PipeState) → Body → Body
on_pipe g (File f) = File f
on_pipe g (Pipe p) = Pipe (g p)
on_pipe g (EventFd n) = EventFd n

abbrev pub on_counter : (ℕ → ℕ) → Body → Body
on_counter g (File f) = File f
on_counter g (Pipe p) = Pipe p
on_counter g (EventFd n) = EventFd (g n)

-- The world with a pipe changed, or the counter of an eventfd.
abbrev pub with_pipe : (PipeState → PipeState) → WorldState → ℕ → WorldState
with_pipe g w o = record w { objects = updated (on_pipe g) w.objects o }

abbrev pub with_counter : (ℕ → ℕ) → WorldState → ℕ → WorldState
with_counter g w o = record w { objects = updated (on_counter g) w.objects o }

-- The world with a descriptor changed.
abbrev pub with_descriptor : (DescriptorState → DescriptorState) → WorldState → ℕ → WorldState
with_descriptor g w fd = record w { descriptors = updated g w.descriptors (fd - 3) }

-- The stored bytes of a file; none if the object is not a file.
abbrev pub bytes_of : Option FileState → List ℕ
bytes_of None = []
bytes_of (Some f) = f.bytes

-- The world after k bytes of a file are read from an offset into memory (read(2)).
abbrev pub world_read : ℕ → ℕ → ℕ → ℕ → WorldState → WorldState
world_read o offset k addr w =
    record w { memory = overwritten w.memory addr (part (bytes_of (file_of w o)) offset k) }

-- The world after k bytes of memory are written to a file at an offset (write(2)).
abbrev pub world_written : ℕ → ℕ → ℕ → ℕ → WorldState → WorldState
world_written o offset k addr w = with_file (written (part w.memory addr k) offset) w o

-- The world after a file became durable (fsync(2)).
abbrev pub world_synced : ℕ → WorldState → WorldState
world_synced o w = with_file synced w o

-- The world after the position of a file descriptor is set (lseek(2)).
abbrev pub world_at : ℕ → ℕ → WorldState → WorldState
world_at fd n w = with_descriptor (λ d. record d { position = Some n }) w fd

-- The world after a descriptor is closed (close(2)).
abbrev pub world_closed : ℕ → WorldState → WorldState
world_closed fd w = with_descriptor (λ d. record d { is_open = false }) w fd

-- The world after bytes are stored in memory at an address.
abbrev pub world_stored : ℕ → List ℕ → WorldState → WorldState
world_stored addr bytes w = record w { memory = overwritten w.memory addr bytes }

-- The k oldest bytes of a pipe; none if the object is not a pipe.
abbrev pub oldest : ℕ → Option PipeState → List ℕ
oldest k None = []
oldest k (Some p) = bytes_from p.slots p.taken k

-- The world after the k oldest bytes of a pipe are read into memory (pipe(7)).
abbrev pub world_taken : ℕ → ℕ → ℕ → WorldState → WorldState
world_taken o k addr w = with_pipe (taken_out k) (world_stored addr (oldest k (pipe_of w o)) w) o

-- The world after k bytes of memory are written to a pipe (pipe(7)).
abbrev pub world_put : ℕ → ℕ → ℕ → WorldState → WorldState
world_put o k addr w = with_pipe (put_in (part w.memory addr k)) w o

-- The 64-bit number at an address, in little-endian order.
abbrev pub number_at : WorldState → ℕ → ℕ
number_at w addr = from_le_bytes w64 (part w.memory addr 8)

-- The world after a number is added to the counter of an eventfd (eventfd(2)).
abbrev pub world_added : ℕ → ℕ → WorldState → WorldState
world_added o n w = with_counter (λ m. m + n) w o

-- The eight bytes of a counter, in little-endian order; none if the object is not an eventfd.
abbrev pub counter_bytes : Option ℕ → List ℕ
counter_bytes None = []
counter_bytes (Some n) = to_le_bytes w64 n

-- The world after the counter of an eventfd is read into memory and reset to 0 (eventfd(2)).
abbrev pub world_cleared : ℕ → ℕ → WorldState → WorldState
world_cleared o addr w =
    with_counter (λ n. 0) (world_stored addr (counter_bytes (counter_of w o)) w) o

-- ---- Invariants

-- A file or a pipe satisfies its invariant; a counter is at most 2 ^ 64 - 2.
abbrev pub BodyFormed : Body → Type 0
BodyFormed (File f) = FileFormed f
BodyFormed (Pipe p) = PipeFormed p
BodyFormed (EventFd n) = n < 2 ^ 64 - 1

-- The invariant of the world: the memory has 65,536 bytes, each object satisfies its invariant,
-- there are at most 64 descriptors, and no file position is greater than 65,536.
pub record WorldFormed (w : WorldState) : Type 0 where
  pub memory : length w.memory ≡ 65536
  pub objects : (o : ℕ) (b : Body) → slice_get w.objects o ≡ Some b → BodyFormed b
  pub few : length w.descriptors ≤ 64
  pub positions : (i : ℕ) (d : DescriptorState) (n : ℕ) → slice_get w.descriptors i ≡ Some d
      → d.position ≡ Some n → n ≤ 65536

-- At most n bytes have been written to each pipe over the whole run.
abbrev pub PutsWithin : ℕ → WorldState → Type 0
PutsWithin n w = (o : ℕ) (p : PipeState) → pipe_of w o ≡ Some p → p.put ≤ n

-- What stays fixed of an object after setup: its kind, and the size of its storage.
pub record Kind : Type 0 where
  pub file : Option ℕ
  pub device : Option ℕ
  pub pipe : Option ℕ
  pub counts : Option ℕ

abbrev pub kind_of_body : Body → Kind
kind_of_body b = record {
  file = option_map (λ (f : FileState). length f.bytes) (file_in b);
  device = option_map (λ (f : FileState). length f.durable) (file_in b);
  pipe = option_map (λ (p : PipeState). length p.slots) (pipe_in b);
  counts = option_map (λ (n : ℕ). 0) (counter_in b);
}

-- What stays fixed of a descriptor after setup: its object, its end, and whether it has a position.
pub record Fixed : Type 0 where
  pub object : ℕ
  pub end : End
  pub positioned : Option ℕ

abbrev pub fixed_of : DescriptorState → Fixed
fixed_of d =
    record { object = d.object; end = d.end; positioned = option_map (λ (n : ℕ). 0) d.position }

-- Two worlds have the same fixed properties, for as many objects and descriptors.
pub record OneSetup (s m : WorldState) : Type 0 where
  pub memory : length s.memory ≡ length m.memory
  pub objects : map kind_of_body s.objects ≡ map kind_of_body m.objects
  pub descriptors : map fixed_of s.descriptors ≡ map fixed_of m.descriptors
