-- Reads the fields of a setup from left to right, up to the first fault. An incomplete field is
-- Truncated. A field out of its range is Setup at the offset of its first byte.
use Rattle.std.specs.Prelude.{◌≡◌, ◌⊎◌, ℕ, zero, suc, ◌+◌, ◌-◌, ◌^◌, Bool, ◌||◌, ◌==◌, if◌then◌else◌, nat_lt, nat_le, slice_get, List, [], ◌∷◌, ◌++◌, length, take, drop, Option, Some, Result, Ok, Err}
use Rattle.std.specs.Int.{w32, cast_signed}
use Rattle.byteorder.specs.Endian.{little_number}
use Rattle.entries.specs.Layout.{entry_of_bytes}
use Rattle.places.specs.declared.object.Object.{Object}
use Rattle.places.specs.declared.object.Contents.{Contents}
use Rattle.places.specs.declared.object.Contents.TheVariants.{File, Pipe, EventFd}
use Rattle.places.specs.declared.object.End.{End}
use Rattle.places.specs.declared.object.End.TheVariants.{Whole, Read, Write}
use Rattle.places.specs.declared.object.Descriptor.{Descriptor}
use Rattle.scenario.specs.declared.setup.Instruction.{Instruction}
use Rattle.scenario.specs.declared.setup.Instruction.TheVariants.{Put, Push, Store, Enter, Reap, Close}
use Rattle.scenario.specs.declared.setup.Setup.{Setup}
use Rattle.traces.specs.declared.fault.TraceFault.{TraceFault}
use Rattle.traces.specs.declared.fault.TraceFault.TheVariants.{Magic, Truncated, Memory, Setup as SetupFault}
use Rattle.traces.specs.Cursors.{Cursor}
use Rattle.traces.specs.Limits.{is_within, is_size, is_completion_size, is_new_name, is_end}
use Rattle.traces.specs.Setups.{is_trimmed, magic2}
use Rattle.traces.specs.Faults.{BeginsAs, IsCountedFault}

-- The cursor n bytes further.
abbrev pub past : ℕ → Cursor → Cursor
past n s = record { offset = s.offset + n; rest = drop n s.rest }

-- The second reading, if the first one succeeded, or else the first one's fault.
infixl 10 ◌>>=◌
abbrev pub ◌>>=◌ : {A B : Type 0} → Result A TraceFault → (A → Result B TraceFault) → Result B TraceFault
(Ok x) >>= f = f x
(Err e) >>= f = Err e

-- Whether a returned fault is the specified one. An allocation failure is always possible.
abbrev pub Fails : {Y : Type 0} → TraceFault → Result Y TraceFault → Type 0
Fails Memory read = Unit {0}
Fails fault read = read ≡ Err fault

-- Whether the result of a call, mapped by `view`, is the specified one. An allocation failure is
-- always possible.
abbrev pub Gives : {X Y : Type 0} → (X → Y) → Result X TraceFault → Result Y TraceFault → Type 0
Gives view (Ok x) read = read ≡ Ok (view x)
Gives view (Err e) read = Fails e read

-- A field that begins at this offset, if it is in its range.
abbrev pub kept : {A : Type 0} → Bool → ℕ → A → Result A TraceFault
kept keeps at x = if keeps then Ok x else Err (SetupFault at)

-- A little-endian number of `width` bytes.
abbrev pub number_at : ℕ → Cursor → Result (ℕ × Cursor) TraceFault
number_at width s = if nat_lt (length s.rest) width then Err Truncated else Ok (little_number width s.rest, past width s)

-- n bytes.
abbrev pub bytes_at : ℕ → Cursor → Result (List ℕ × Cursor) TraceFault
bytes_at n s = if nat_lt (length s.rest) n then Err Truncated else Ok (take n s.rest, past n s)

-- A number that passes a test.
unfoldable pub number_in : ℕ → (ℕ → Bool) → Cursor → Result (ℕ × Cursor) TraceFault
number_in width test s = do
  n ← number_at width s
  kept (test n.0) s.offset n

-- A length of 32 bits, up to a limit.
abbrev pub count_at : ℕ → Cursor → Result (ℕ × Cursor) TraceFault
count_at most s = number_in 4 (λ n. nat_le n most) s

-- A length, and that many bytes.
unfoldable pub long_at : ℕ → Cursor → Result (List ℕ × Cursor) TraceFault
long_at most s = do
  n ← count_at most s
  bytes_at n.0 n.1

-- n items, each of which may depend on the earlier ones.
unfoldable pub items_at : {A : Type 0} → (List A → Cursor → Result (A × Cursor) TraceFault) → ℕ → List A → Cursor → Result (List A × Cursor) TraceFault
items_at item zero before s = Ok (before, s)
items_at item (suc n) before s = do
  x ← item before s
  items_at item n (before ++ x.0 ∷ []) x.1

-- A length, and that many items.
unfoldable pub list_at : {A : Type 0} → ℕ → (List A → Cursor → Result (A × Cursor) TraceFault) → Cursor → Result (List A × Cursor) TraceFault
list_at most item s = do
  n ← count_at most s
  items_at item n.0 [] n.1

-- The name of an object: its length (1 to 16) and its bytes.
unfoldable pub name_at : List Object → Cursor → Result (List ℕ × Cursor) TraceFault
name_at before s = do
  n ← number_in 1 (is_within 1 16) s
  name ← bytes_at n.0 n.1
  kept (is_new_name before name.0) n.1.offset name

-- The contents of an object after their kind.
unfoldable pub contents_of : ℕ → Cursor → Result (Contents × Cursor) TraceFault
contents_of kind s =
    if kind == 1 then (do
      bytes ← long_at 65536 s
      Ok (File bytes.0, bytes.1))
    else if kind == 2 then (do
      capacity ← number_in 4 (is_within 1 65536) s
      Ok (Pipe capacity.0, capacity.1))
    else (do
      counter ← number_in 8 (λ n. nat_lt n (2 ^ 64 - 1)) s
      Ok (EventFd counter.0, counter.1))

-- The kind and the contents of an object.
unfoldable pub contents_at : Cursor → Result (Contents × Cursor) TraceFault
contents_at s = do
  kind ← number_in 1 (is_within 1 3) s
  contents_of kind.0 kind.1

-- An object: its name and its contents.
unfoldable pub object_at : List Object → Cursor → Result (Object × Cursor) TraceFault
object_at before s = do
  name ← name_at before s
  contents ← contents_at name.1
  Ok (record { name = name.0; contents = contents.0 }, contents.1)

-- The end with a number.
abbrev pub end_of : ℕ → End
end_of n = if n == 0 then Whole else if n == 1 then Read else Write

-- One of the object's ends.
unfoldable pub end_at : Option Object → Cursor → Result (End × Cursor) TraceFault
end_at object s = do
  n ← number_in 1 (is_end object) s
  Ok (end_of n.0, n.1)

-- A descriptor: the number of an object, and one of its ends.
unfoldable pub descriptor_at : List Object → Cursor → Result (Descriptor × Cursor) TraceFault
descriptor_at objects s = do
  object ← number_in 1 (λ n. nat_lt n (length objects)) s
  end ← end_at (slice_get objects object.0) object.1
  Ok (record { object = object.0; end = end.0 }, end.1)

-- A slot of the submission ring, and an entry of 64 bytes.
unfoldable pub put_at : ℕ → Cursor → Result (Instruction × Cursor) TraceFault
put_at slots s = do
  slot ← number_in 4 (λ n. nat_lt n slots) s
  entry ← bytes_at 64 slot.1
  Ok (Put slot.0 (entry_of_bytes entry.0), entry.1)

-- An address, a length and bytes. The address is checked with the length, after the length's own
-- limit.
unfoldable pub store_at : Cursor → Result (Instruction × Cursor) TraceFault
store_at s = do
  address ← number_at 4 s
  n ← count_at 4096 address.1
  inside ← kept (nat_le (address.0 + n.0) 65536) s.offset n
  bytes ← bytes_at inside.0 inside.1
  Ok (Store address.0 bytes.0, bytes.1)

-- The arguments of io_uring_enter(2).
unfoldable pub enter_at : Cursor → Result (Instruction × Cursor) TraceFault
enter_at s = do
  to_submit ← number_at 4 s
  min_complete ← number_at 4 to_submit.1
  flags ← number_at 4 min_complete.1
  Ok (Enter to_submit.0 min_complete.0 flags.0, flags.1)

-- An index for the submission array.
unfoldable pub push_at : Cursor → Result (Instruction × Cursor) TraceFault
push_at s = do
  index ← number_at 4 s
  Ok (Push index.0, index.1)

-- A descriptor for close(2).
unfoldable pub close_at : Cursor → Result (Instruction × Cursor) TraceFault
close_at s = do
  fd ← number_at 4 s
  Ok (Close (cast_signed w32 fd.0), fd.1)

-- An instruction after its kind.
unfoldable pub instruction_of : ℕ → ℕ → Cursor → Result (Instruction × Cursor) TraceFault
instruction_of slots kind s =
    if kind == 1 then put_at slots s
    else if kind == 2 then push_at s
    else if kind == 3 then store_at s
    else if kind == 4 then enter_at s
    else if kind == 5 then Ok (Reap, s)
    else close_at s

-- The kind and the arguments of an instruction.
unfoldable pub instruction_at : ℕ → Cursor → Result (Instruction × Cursor) TraceFault
instruction_at slots s = do
  kind ← number_in 1 (is_within 1 6) s
  instruction_of slots kind.0 kind.1

-- A program of at most 4,096 instructions.
unfoldable pub program_at : ℕ → Cursor → Result (List Instruction × Cursor) TraceFault
program_at slots s = list_at 4096 (λ before. instruction_at slots) s

-- Memory. If its last byte is 0, the fault is at its length.
unfoldable pub memory_at : Cursor → Result (List ℕ × Cursor) TraceFault
memory_at s = do
  bytes ← long_at 65536 s
  kept (is_trimmed bytes.0) s.offset bytes

-- A setup.
unfoldable pub setup_at : Cursor → Result (Setup × Cursor) TraceFault
setup_at s = do
  entries ← number_in 2 (is_size 4096) s
  completions ← number_in 2 (is_completion_size entries.0) entries.1
  options ← number_in 1 (λ n. nat_lt n 4) completions.1
  base ← number_at 4 options.1
  memory ← memory_at base.1
  objects ← list_at 32 object_at memory.1
  fds ← list_at 64 (λ before. descriptor_at objects.0) objects.1
  threads ← list_at 16 (λ before. program_at entries.0) fds.1
  Ok (
    record {
      entries = entries.0;
      cq = Some completions.0;
      sqpoll = (options.0 == 1) || (options.0 == 3);
      submit_all = (options.0 == 2) || (options.0 == 3);
      base = base.0;
      memory = memory.0;
      objects = objects.0;
      fds = fds.0;
      threads = threads.0;
    },
    threads.1,
  )

-- The cursor after the magic.
abbrev pub after_magic : List ℕ → Cursor
after_magic bytes = record { offset = 8; rest = drop 8 bytes }

-- The first fault of a setup and its events.
abbrev pub IsBodyFault : Result (Setup × Cursor) TraceFault → TraceFault → Type 0
IsBodyFault (Ok setup) fault = IsCountedFault setup.1.rest fault
IsBodyFault (Err first) fault = fault ≡ first

-- The first fault of a trace of the second form.
abbrev pub IsFault2 : List ℕ → TraceFault → Type 0
IsFault2 bytes fault =
    ((BeginsAs magic2 bytes → ⊥) × (fault ≡ Magic)) ⊎ (BeginsAs magic2 bytes × IsBodyFault (setup_at (after_magic bytes)) fault)
