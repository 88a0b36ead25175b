-- Which ends of a pipe are open, and for which operations an object is ready (pipe(7), eventfd(2),
-- poll(2)).
use Rattle.std.specs.Prelude.{ℕ, ◌+◌, ◌-◌, ◌^◌, ◌==◌, ◌&&◌, ◌||◌, not, nat_lt, Bool, true, false, Option, Some, None, slice_get, List, [], ◌∷◌, if◌then◌else◌}
use Rattle.places.specs.declared.object.End.{End}
use Rattle.places.specs.declared.object.End.TheVariants.{Whole, Read, Write}
use Rattle.model_files.specs.declared.body.Body.{Body}
use Rattle.model_files.specs.declared.body.Body.TheVariants.{File, Pipe, EventFd}
use Rattle.model_files.specs.declared.descriptor.DescriptorState.{DescriptorState}
use Rattle.model_files.specs.Pipes.{PipeState, filled, room_in}
use Rattle.model_files.specs.Worlds.{WorldState, descriptor_of}

abbrev pub is_end : End → End → Bool
is_end Whole Whole = true
is_end Read Read = true
is_end Write Write = true
is_end _ _ = false

-- Whether a descriptor keeps an end of object o open: it refers to that end, and it is open or held
-- by a request in flight.
abbrev pub keeps_end : ℕ → End → Bool → DescriptorState → Bool
keeps_end o end is_held d = (d.object == o) && (is_end end d.end && (d.is_open || is_held))

-- Whether any of the descriptors does. They are numbered from fd on.
abbrev pub some_keeps : (ℕ → Bool) → ℕ → End → ℕ → List DescriptorState → Bool
some_keeps held o end fd [] = false
some_keeps held o end fd (d ∷ ds) = keeps_end o end (held fd) d || some_keeps held o end (fd + 1) ds

abbrev pub has_end : (ℕ → Bool) → WorldState → ℕ → End → Bool
has_end held w o end = some_keeps held o end 3 w.descriptors

-- Whether a pipe has a writer, or a reader. `held` says which descriptors are held by requests in
-- flight.
abbrev pub has_writer : (ℕ → Bool) → WorldState → ℕ → Bool
has_writer held w o = has_end held w o Write

abbrev pub has_reader : (ℕ → Bool) → WorldState → ℕ → Bool
has_reader held w o = has_end held w o Read

-- ---- Readiness masks: POLLIN is 1, POLLOUT 4, POLLERR 8, POLLHUP 16

abbrev pub bit_if : ℕ → Bool → ℕ
bit_if bit b = if b then bit else 0

-- The mask of one end of a pipe. `writer` and `reader` say whether the pipe has any.
abbrev pub pipe_mask : PipeState → End → Bool → Bool → ℕ
pipe_mask p Whole writer reader = 0
pipe_mask p Read writer reader = bit_if 1 (nat_lt 0 (filled p)) + bit_if 16 (not writer)
pipe_mask p Write writer reader = bit_if 4 (nat_lt 0 (room_in p)) + bit_if 8 (not reader)

-- The mask of an eventfd with counter n.
abbrev pub counter_mask : ℕ → ℕ
counter_mask n = bit_if 1 (nat_lt 0 n) + bit_if 4 (nat_lt n (2 ^ 64 - 2))

-- The mask of an object; 0 if there is none.
abbrev pub body_mask : End → Bool → Bool → Option Body → ℕ
body_mask end writer reader None = 0
body_mask end writer reader (Some (File f)) = 5
body_mask end writer reader (Some (Pipe p)) = pipe_mask p end writer reader
body_mask end writer reader (Some (EventFd n)) = counter_mask n

-- The mask of a descriptor.
abbrev pub mask_of_descriptor : (ℕ → Bool) → WorldState → Option DescriptorState → ℕ
mask_of_descriptor held w None = 0
mask_of_descriptor held w (Some d) =
    body_mask d.end (has_writer held w d.object) (has_reader held w d.object)
    (slice_get w.objects d.object)

-- The mask of a descriptor, open or closed; 0 if there is none with this number.
abbrev pub ready_mask_of : (ℕ → Bool) → WorldState → ℕ → ℕ
ready_mask_of held w fd = mask_of_descriptor held w (descriptor_of w fd)
