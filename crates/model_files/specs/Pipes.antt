-- Pipes and eventfds (pipe(7), eventfd(2)).
use Rattle.std.specs.Prelude.{ℕ, zero, suc, ◌+◌, ◌-◌, ◌%◌, ◌^◌, ◌<◌, ◌≤◌, Some, None, option_map, get_or, slice_get, slice_set, List, [], ◌∷◌, length, replicate}
use Rattle.places.specs.View.{View}
use Rattle.places.specs.declared.place.Place.TheVariants.{PipeByte, PutCount, TakenCount, EventCount}
use Rattle.places.specs.declared.value.Value.TheVariants.{Number, Byte}

-- A pipe: a ring buffer of its capacity, and how many bytes have been written to it and read from
-- it. Bytes are numbered from 0 over the whole run, and byte n is in slot n modulo the capacity.
pub record PipeState : Type 0 where
  pub slots : List ℕ
  pub put : ℕ
  pub taken : ℕ

-- The values of a pipe's places.
abbrev pub pipe_seen : PipeState → View
pipe_seen p (PipeByte o i) = option_map Byte (slice_get p.slots i)
pipe_seen p (PutCount o) = Some (Number p.put)
pipe_seen p (TakenCount o) = Some (Number p.taken)
pipe_seen p _ = None

-- The value of the place of an eventfd with counter n.
abbrev pub counter_seen : ℕ → View
counter_seen n (EventCount o) = Some (Number n)
counter_seen n _ = None

-- An empty pipe.
abbrev pub pipe_start : ℕ → PipeState
pipe_start capacity = record { slots = replicate capacity 0; put = 0; taken = 0 }

-- How many bytes are in a pipe, and how many more fit into it.
abbrev pub filled : PipeState → ℕ
filled p = p.put - p.taken

abbrev pub room_in : PipeState → ℕ
room_in p = length p.slots - filled p

-- The n bytes from number `at` on. They are read from the slots, whatever the counts say.
abbrev pub bytes_from : List ℕ → ℕ → ℕ → List ℕ
bytes_from slots at zero = []
bytes_from slots at (suc n) = get_or slots (at % length slots) 0 ∷ bytes_from slots (at + 1) n

-- The contents of a pipe, the oldest byte first.
abbrev pub pipe_content : PipeState → List ℕ
pipe_content p = bytes_from p.slots p.taken (filled p)

-- The slots after bytes are stored as those from number `at` on.
abbrev pub slots_with : List ℕ → ℕ → List ℕ → List ℕ
slots_with slots at [] = slots
slots_with slots at (b ∷ bs) = slots_with (slice_set slots (at % length slots) b) (at + 1) bs

-- The pipe after bytes are written to it.
abbrev pub put_in : List ℕ → PipeState → PipeState
put_in bytes p = record p { slots = slots_with p.slots p.put bytes; put = p.put + length bytes }

-- The pipe after its k oldest bytes are read. The slots keep their values.
abbrev pub taken_out : ℕ → PipeState → PipeState
taken_out k p = record p { taken = p.taken + k }

-- The invariant of a pipe: its capacity is 1 to 65,536 bytes, and it does not hold more.
pub record PipeFormed (p : PipeState) : Type 0 where
  pub some : 0 < length p.slots
  pub most : length p.slots ≤ 65536
  pub order : p.taken ≤ p.put
  pub within : p.put ≤ p.taken + length p.slots

-- k more bytes fit into the pipe, and the count of written bytes does not overflow 64 bits.
pub record TakesIn (k : ℕ) (p : PipeState) : Type 0 where
  pub formed : PipeFormed p
  pub room : k ≤ room_in p
  pub count : p.put + k < 2 ^ 64

-- The pipe holds at least k bytes.
pub record GivesOut (k : ℕ) (p : PipeState) : Type 0 where
  pub formed : PipeFormed p
  pub there : k ≤ filled p
