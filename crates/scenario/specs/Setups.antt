-- The limits of a setup (io_uring_setup(2)).
use Rattle.std.specs.Prelude.{ℕ, ◌+◌, ◌*◌, ◌-◌, ◌^◌, List, [], ◌∷◌, length, slice_get, Bool, true, false, not, ◌&&◌, ◌||◌, ◌==◌, nat_lt, nat_le, if◌then◌else◌, Option, Some, None}
use Rattle.std.specs.List.{list_all, list_any}
use Rattle.std.specs.Option.{option_map_or}
use Rattle.std.specs.Str.{bytes_eq}
use Rattle.places.specs.declared.object.Contents.{Contents}
use Rattle.places.specs.declared.object.Contents.TheVariants.{File, Pipe, EventFd}
use Rattle.places.specs.declared.object.Descriptor.{Descriptor}
use Rattle.places.specs.declared.object.End.{End}
use Rattle.places.specs.declared.object.End.TheVariants.{Whole}
use Rattle.places.specs.declared.object.Object.{Object}
use Rattle.ring_words.specs.Rings.{rounded}
use Rattle.scenario.specs.declared.setup.Instruction.{Instruction}
use Rattle.scenario.specs.declared.setup.Instruction.TheVariants.{Put, Store}
use Rattle.scenario.specs.declared.setup.Setup.{Setup}
use Rattle.scenario.specs.declared.setup.SetupRefusal.{SetupRefusal}
use Rattle.scenario.specs.declared.setup.SetupRefusal.TheVariants.{RingSize, Limit}

abbrev pub is_between : ℕ → ℕ → ℕ → Bool
is_between low high n = nat_le low n && nat_le n high

-- ---- Rings

-- The requested number of completion entries. The default is twice the size of the submission ring.
abbrev pub completion_entries : ℕ → Option ℕ → ℕ
completion_entries entries None = 2 * rounded entries
completion_entries entries (Some n) = n

-- Whether the completion ring has a valid size, at least that of the submission ring. The default
-- is valid.
abbrev pub is_completion_size : ℕ → Option ℕ → Bool
is_completion_size entries None = true
is_completion_size entries (Some cq) = is_between 1 8192 cq && nat_le (rounded entries) (rounded cq)

-- Whether both rings have valid sizes: at most 4,096 submission entries and 8,192 completion
-- entries.
abbrev pub has_ring_sizes : Setup → Bool
has_ring_sizes s = is_between 1 4096 s.entries && is_completion_size s.entries s.cq

-- ---- Threads

-- Whether an instruction is within its limits: its slot is in the ring, and it stores at most 4,096
-- bytes, all of them within the memory.
abbrev pub is_instruction : ℕ → Instruction → Bool
is_instruction size (Put slot entry) = nat_lt slot size
is_instruction size (Store address bytes) =
    nat_le (length bytes) 4096 && nat_le (address + length bytes) 65536
is_instruction size _ = true

-- Whether a program has at most 4,096 instructions, each within its limits.
abbrev pub is_program : ℕ → List Instruction → Bool
is_program size p = nat_le (length p) 4096 && list_all (is_instruction size) p

abbrev pub has_programs : Setup → Bool
has_programs s = nat_le (length s.threads) 16 && list_all (is_program (rounded s.entries)) s.threads

-- ---- Memory, objects and descriptors

abbrev pub has_memory : Setup → Bool
has_memory s = nat_le (length s.memory) 65536

-- Whether a byte is one of a to z, 0 to 9 and the underscore.
abbrev pub is_name_byte : ℕ → Bool
is_name_byte b = is_between 97 122 b || is_between 48 57 b || b == 95

-- Whether bytes are a valid object name, at most 16 bytes long.
abbrev pub is_name : List ℕ → Bool
is_name n = is_between 1 16 (length n) && list_all is_name_byte n

-- Whether an object's initial contents are within their limits: a file's size, a pipe's capacity
-- (pipe(7)), and an eventfd's counter (eventfd(2)).
abbrev pub is_contents : Contents → Bool
is_contents (File bytes) = nat_le (length bytes) 65536
is_contents (Pipe capacity) = is_between 1 65536 capacity
is_contents (EventFd counter) = nat_le counter (2 ^ 64 - 2)

abbrev pub is_object : Object → Bool
is_object o = is_name o.name && is_contents o.contents

abbrev pub is_named : List ℕ → Object → Bool
is_named name o = bytes_eq name o.name

-- Whether all objects have different names.
abbrev pub names_once : List Object → Bool
names_once [] = true
names_once (o ∷ os) = not (list_any (is_named o.name) os) && names_once os

abbrev pub has_objects : Setup → Bool
has_objects s = nat_le (length s.objects) 32 && list_all is_object s.objects && names_once s.objects

-- Whether an object has such an end. A pipe has a read end and a write end, other objects only the
-- whole.
abbrev pub is_end : Contents → End → Bool
is_end (Pipe capacity) Whole = false
is_end (Pipe capacity) e = true
is_end (File bytes) Whole = true
is_end (File bytes) e = false
is_end (EventFd counter) Whole = true
is_end (EventFd counter) e = false

-- Whether a descriptor's object exists and has its end.
abbrev pub is_descriptor : List Object → Descriptor → Bool
is_descriptor objects d =
    option_map_or (λ (o : Object). is_end o.contents d.end) (slice_get objects d.object) false

abbrev pub has_descriptors : Setup → Bool
has_descriptors s = nat_le (length s.fds) 64 && list_all (is_descriptor s.objects) s.fds

-- ---- The whole setup

-- Whether everything but the ring sizes is within its limits.
abbrev pub keeps_limits : Setup → Bool
keeps_limits s = has_memory s && (has_objects s && (has_descriptors s && has_programs s))

-- Why a run can't start from a setup, allocation failures aside.
abbrev pub setup_refusal : Setup → Option SetupRefusal
setup_refusal s =
    if not (has_ring_sizes s) then Some RingSize
    else if keeps_limits s then None
    else Some Limit
