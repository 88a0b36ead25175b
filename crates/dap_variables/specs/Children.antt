-- The children of containers.
use Rattle.std.specs.Prelude.{ℕ, ◌+◌, min, List, [], ◌∷◌, ◌++◌, length, map, slice_get, Bool, true, false, is_some, if◌then◌else◌, Option, Some}
use Rattle.std.specs.List.{range_with_len}
use Rattle.std.specs.Option.{option_map_or}
use Rattle.places.specs.View.{View}
use Rattle.places.specs.declared.listed.Listed.{Listed}
use Rattle.places.specs.declared.listed.Listed.TheVariants as listed
use Rattle.places.specs.declared.object.Contents.{Contents}
use Rattle.places.specs.declared.object.Contents.TheVariants as contents
use Rattle.places.specs.declared.object.Object.{Object}
use Rattle.places.specs.declared.place.Place.{Place}
use Rattle.places.specs.declared.place.Place.TheVariants as place
use Rattle.places.specs.declared.value.Value.{Value}
use Rattle.places.specs.declared.value.Value.TheVariants.{Number}
use Rattle.ring_words.specs.Rings.{rounded}
use Rattle.scenario.specs.Setups.{completion_entries}
use Rattle.scenario.specs.declared.setup.Setup.{Setup}
use Rattle.machine.specs.Whole.{view}
use Rattle.machine.specs.declared.whole.Machine.{Machine}
use Rattle.stops.specs.declared.steps.EditorThread.{EditorThread}
use Rattle.stops.specs.declared.steps.EditorThread.TheVariants as thread
use Rattle.dap_variables.specs.Requests.{fields}
use Rattle.dap_variables.specs.declared.children.Child.{Child}
use Rattle.dap_variables.specs.declared.children.Child.TheVariants as child
use Rattle.dap_variables.specs.declared.container.Container.{Container}
use Rattle.dap_variables.specs.declared.container.Container.TheVariants.{Thread, Rings, Requests, Objects, Memory, Array, Entries, Completions, Backlog, Request, Object as ObjectOf, Descriptor, File, Durable, Pipe}

-- ---- Numbered children

-- Whether the children of a container are places that are numbered from 0.
abbrev pub is_indexed : Container → Bool
is_indexed Requests = true
is_indexed Memory = true
is_indexed Array = true
is_indexed Entries = true
is_indexed Completions = true
is_indexed Backlog = true
is_indexed (File o) = true
is_indexed (Durable o) = true
is_indexed (Pipe o) = true
is_indexed _ = false

-- The place with a number.
abbrev pub place_in : Container → ℕ → Place
place_in Requests i = place.Request i
place_in Array i = place.Array i
place_in Entries i = place.Slot i
place_in Completions i = place.Completion i
place_in Backlog i = place.Backlog i
place_in (File o) i = place.FileByte o i
place_in (Durable o) i = place.DurableByte o i
place_in (Pipe o) i = place.PipeByte o i
place_in _ i = place.MemoryByte i

-- The number that a value is, up to 65,536, the most bytes of a file.
abbrev pub length_in : Option Value → ℕ
length_in (Some (Number n)) = min n 65536
length_in _ = 0

abbrev pub capacity_in : Contents → ℕ
capacity_in (contents.Pipe capacity) = capacity
capacity_in _ = 0

-- The size of a pipe's ring buffer.
abbrev pub capacity_of : Setup → ℕ → ℕ
capacity_of s o = option_map_or (λ (x : Object). capacity_in x.contents) (slice_get s.objects o) 0

-- How many requests there are, and how many completions have overflowed.
abbrev pub listed_count : Machine → Listed → ℕ
listed_count m listed.Requests = length m.table
listed_count m listed.Overflowed = length m.backlog.items

-- How many there are.
abbrev pub count_of : Setup → Machine → Container → ℕ
count_of s m Requests = length m.table
count_of s m Backlog = length m.backlog.items
count_of s m Memory = 65536
count_of s m Array = rounded s.entries
count_of s m Entries = rounded s.entries
count_of s m Completions = rounded (completion_entries s.entries s.cq)
count_of s m (File o) = length_in (view m (place.FileLength o))
count_of s m (Durable o) = length_in (view m (place.DurableLength o))
count_of s m (Pipe o) = capacity_of s o
count_of s m _ = 0

abbrev pub numbered_children : Container → ℕ → ℕ → List Child
numbered_children c from count = map (λ i. child.Place (place_in c i)) (range_with_len from count)

-- ---- Children with names

abbrev pub of_places : List Place → List Child
of_places ps = map child.Place ps

abbrev pub of_containers : List Container → List Child
of_containers cs = map child.Nested cs

abbrev pub thread_places : EditorThread → List Place
thread_places (thread.Thread t) =
    place.ProgramCounter t ∷ place.ThreadStage t ∷ place.Last t ∷ place.Got t ∷ []
thread_places thread.Poller = place.PollerStage ∷ []
thread_places thread.Run = place.Clock ∷ place.Counted ∷ []
thread_places thread.Kernel = place.Clock ∷ place.Counted ∷ []

abbrev pub ring_children : List Child
ring_children =
    of_places (place.SubmissionHead ∷ place.SubmissionTail ∷ place.SubmissionFlags
    ∷ place.SubmissionDropped ∷ place.CompletionHead ∷ place.CompletionTail
    ∷ place.BacklogFront ∷ [])
    ++ of_containers (Array ∷ Entries ∷ Completions ∷ Backlog ∷ [])

-- The objects, at most 32.
abbrev pub object_list : Setup → List Child
object_list s = map (λ o. child.Nested (ObjectOf o)) (range_with_len 0 (min (length s.objects) 32))

-- The descriptors, at most 64, which are numbered from 3.
abbrev pub descriptor_list : Setup → List Child
descriptor_list s =
    map (λ i. child.Nested (Descriptor (3 + i))) (range_with_len 0 (min (length s.fds) 64))

abbrev pub contents_children : ℕ → Contents → List Child
contents_children o (contents.File bytes) =
    of_places (place.FileLength o ∷ place.DurableLength o ∷ [])
    ++ of_containers (File o ∷ Durable o ∷ [])
contents_children o (contents.Pipe capacity) =
    of_places (place.PutCount o ∷ place.TakenCount o ∷ []) ++ of_containers (Pipe o ∷ [])
contents_children o (contents.EventFd counter) = of_places (place.EventCount o ∷ [])

abbrev pub object_children : Setup → ℕ → List Child
object_children s o =
    option_map_or (λ (x : Object). contents_children o x.contents) (slice_get s.objects o) []

abbrev pub if_present : View → Place → List Child
if_present v p = if is_some (v p) then child.Place p ∷ [] else []

-- A descriptor is open or closed, and one of a file has a position.
abbrev pub descriptor_children : View → ℕ → List Child
descriptor_children v f = if_present v (place.OpenMark f) ++ if_present v (place.Position f)

abbrev pub named_children : Setup → Machine → Container → List Child
named_children s m (Thread t) = of_places (thread_places t)
named_children s m Rings = ring_children
named_children s m Objects = object_list s ++ descriptor_list s
named_children s m (Request r) = map (child.Field r) fields
named_children s m (ObjectOf o) = object_children s o
named_children s m (Descriptor f) = descriptor_children (view m) f
named_children s m _ = []

-- ---- All

-- The children of a container other than changes and findings.
unfoldable pub children : Setup → Machine → Container → List Child
children s m c =
    if is_indexed c then numbered_children c 0 (count_of s m c) else named_children s m c
