-- The names of places in commands and scripts: one to three words, interpreted with a setup.
use Rattle.std.specs.Prelude.{ℕ, ◌-◌, ◌^◌, ◌&&◌, ◌||◌, ◌==◌, List, [], ◌∷◌, length, nat_lt, not, slice_get, slice_index, Bool, true, false, if◌then◌else◌, Option, Some, None, option_map, ok_or, Result, Ok, Err, is_some}
use Rattle.std.specs.Char.{is_ascii_digit}
use Rattle.std.specs.List.{list_all, position, find}
use Rattle.std.specs.Option.{option_and_then, option_map_or}
use Rattle.std.specs.Str.Parse.{digits_value}
use Rattle.places.specs.declared.object.Contents.{Contents}
use Rattle.places.specs.declared.object.Contents.TheVariants as contents
use Rattle.places.specs.declared.object.Descriptor.{Descriptor}
use Rattle.places.specs.declared.object.Object.{Object}
use Rattle.places.specs.declared.place.Place.{Place}
use Rattle.places.specs.declared.place.Place.TheVariants.{SubmissionHead, SubmissionTail, SubmissionFlags, SubmissionDropped, CompletionHead, CompletionTail, Array, Slot, Completion, MemoryByte, FileByte, DurableByte, FileLength, DurableLength, Position, OpenMark, PipeByte, PutCount, TakenCount, EventCount, Request, Backlog, BacklogFront, Clock, Counted, PollerStage, ProgramCounter, ThreadStage, Last, Got}
use Rattle.ring_words.specs.Rings.{rounded}
use Rattle.scenario.specs.PlaceTexts.{is_word_of}
use Rattle.scenario.specs.Setups.{completion_entries, is_named}
use Rattle.scenario.specs.declared.setup.Setup.{Setup}
use Rattle.scenario.specs.declared.names.PlaceFault.{PlaceFault}
use Rattle.scenario.specs.declared.names.PlaceFault.TheVariants as fault
use Rattle.scenario.specs.declared.numbered.PlaceKind.{PlaceKind}
use Rattle.scenario.specs.declared.numbered.PlaceKind.TheVariants as kind
use Rattle.scenario.specs.declared.owned.ObjectKind.{ObjectKind}
use Rattle.scenario.specs.declared.owned.ObjectKind.TheVariants as object_kind
use Rattle.scenario.specs.declared.owned.ObjectPlace.{ObjectPlace}
use Rattle.scenario.specs.declared.owned.ObjectPlace.TheVariants as of_object
use Rattle.scenario.specs.declared.owned.BytePlace.{BytePlace}
use Rattle.scenario.specs.declared.owned.BytePlace.TheVariants as of_byte

-- Whether a word is a decimal number without leading zeros.
abbrev pub is_numeral : List ℕ → Bool
is_numeral word =
    list_all is_ascii_digit word && nat_lt 0 (length word)
    && (nat_lt (length word) 2 || not (slice_index word 0 == 48))

-- The number, if it fits into 32 bits.
abbrev pub fitting : ℕ → Option ℕ
fitting n = if nat_lt n (2 ^ 32) then Some n else None

-- The number that a word denotes; `None` if it is no number or is at least 2 ^ 32.
abbrev pub number_of : List ℕ → Option ℕ
number_of word = if is_numeral word then fitting (digits_value 10 word) else None

-- ---- One word

-- The places with names of one word.
abbrev pub singles : List Place
singles =
    SubmissionHead ∷ SubmissionTail ∷ SubmissionFlags ∷ SubmissionDropped ∷ CompletionHead
    ∷ CompletionTail ∷ Clock ∷ Counted ∷ BacklogFront ∷ PollerStage ∷ []

-- Whether a place with a name of one word exists. Only a setup with a poller has its stage.
abbrev pub has_single : Setup → Place → Bool
has_single s PollerStage = s.sqpoll
has_single s _ = true

abbrev pub if_there : Setup → Place → Option Place
if_there s p = if has_single s p then Some p else None

-- The place with a name of one word.
abbrev pub single_named : Setup → List ℕ → Option Place
single_named s w = option_and_then (if_there s) (find (is_word_of w) singles)

-- ---- A word and a number

abbrev pub is_of : ObjectKind → Contents → Bool
is_of object_kind.File (contents.File bytes) = true
is_of object_kind.Pipe (contents.Pipe capacity) = true
is_of object_kind.EventFd (contents.EventFd counter) = true
is_of _ _ = false

-- The descriptor with a number. Descriptors are numbered from 3.
abbrev pub descriptor_at : Setup → ℕ → Option Descriptor
descriptor_at s f = if nat_lt f 3 then None else slice_get s.fds (f - 3)

-- Whether a descriptor refers to a file, so that it has a position.
abbrev pub is_open_file : Setup → Option Descriptor → Bool
is_open_file s None = false
is_open_file s (Some d) =
    option_map_or (λ (o : Object). is_of object_kind.File o.contents) (slice_get s.objects d.object)
    false

abbrev pub submission_size : Setup → ℕ
submission_size s = rounded s.entries

abbrev pub completion_size : Setup → ℕ
completion_size s = rounded (completion_entries s.entries s.cq)

-- Whether the place of this kind and number exists.
abbrev pub is_member : Setup → PlaceKind → ℕ → Bool
is_member s kind.Array i = nat_lt i (submission_size s)
is_member s kind.Slots i = nat_lt i (submission_size s)
is_member s kind.Completions i = nat_lt i (completion_size s)
is_member s kind.MemoryBytes i = nat_lt i 65536
is_member s kind.Positions f = is_open_file s (descriptor_at s f)
is_member s kind.OpenMarks f = is_some (descriptor_at s f)
is_member s kind.Requests i = nat_lt i 65536
is_member s kind.Backlogs i = nat_lt i 65536
is_member s kind.ProgramCounters t = nat_lt t (length s.threads)
is_member s kind.Stages t = nat_lt t (length s.threads)
is_member s kind.Lasts t = nat_lt t (length s.threads)
is_member s kind.Gots t = nat_lt t (length s.threads)

abbrev pub place_in : PlaceKind → ℕ → Place
place_in kind.Array i = Array i
place_in kind.Slots i = Slot i
place_in kind.Completions i = Completion i
place_in kind.MemoryBytes i = MemoryByte i
place_in kind.Positions f = Position f
place_in kind.OpenMarks f = OpenMark f
place_in kind.Requests i = Request i
place_in kind.Backlogs i = Backlog i
place_in kind.ProgramCounters i = ProgramCounter i
place_in kind.Stages i = ThreadStage i
place_in kind.Lasts i = Last i
place_in kind.Gots i = Got i

abbrev pub kinds : List PlaceKind
kinds =
    kind.Array ∷ kind.Slots ∷ kind.Completions ∷ kind.MemoryBytes ∷ kind.Positions ∷ kind.OpenMarks
    ∷ kind.Requests ∷ kind.Backlogs ∷ kind.ProgramCounters ∷ kind.Stages ∷ kind.Lasts ∷ kind.Gots
    ∷ []

-- The kind of place that a word followed by a number names.
abbrev pub kind_named : List ℕ → Option PlaceKind
kind_named w = find (λ k. is_word_of w (place_in k 0)) kinds

-- The place of this kind and number.
abbrev pub member_of : Setup → PlaceKind → Option ℕ → Result Place PlaceFault
member_of s k None = Err fault.Number
member_of s k (Some i) = if is_member s k i then Ok (place_in k i) else Err fault.Place

-- ---- A word, an object's name and, for a byte, its index

-- The kind of object that has such a place.
abbrev pub owner_of : ObjectPlace → ObjectKind
owner_of of_object.FileLength = object_kind.File
owner_of of_object.DurableLength = object_kind.File
owner_of of_object.PutCount = object_kind.Pipe
owner_of of_object.TakenCount = object_kind.Pipe
owner_of of_object.EventCount = object_kind.EventFd

abbrev pub owner_of_byte : BytePlace → ObjectKind
owner_of_byte of_byte.FileByte = object_kind.File
owner_of_byte of_byte.DurableByte = object_kind.File
owner_of_byte of_byte.PipeByte = object_kind.Pipe

abbrev pub is_object_of : ObjectKind → List ℕ → Object → Bool
is_object_of k name o = is_named name o && is_of k o.contents

-- The number of the object with this name and kind.
abbrev pub object_named : Setup → ObjectKind → List ℕ → Option ℕ
object_named s k name = option_and_then fitting (position (is_object_of k name) s.objects)

-- How many bytes an object can hold.
abbrev pub most_bytes : Contents → ℕ
most_bytes (contents.File bytes) = 65536
most_bytes (contents.Pipe capacity) = capacity
most_bytes (contents.EventFd counter) = 0

abbrev pub bytes_of : Setup → ℕ → ℕ
bytes_of s o = option_map_or (λ (x : Object). most_bytes x.contents) (slice_get s.objects o) 0

abbrev pub place_of_object : ObjectPlace → ℕ → Place
place_of_object of_object.FileLength o = FileLength o
place_of_object of_object.DurableLength o = DurableLength o
place_of_object of_object.PutCount o = PutCount o
place_of_object of_object.TakenCount o = TakenCount o
place_of_object of_object.EventCount o = EventCount o

abbrev pub place_of_byte : BytePlace → ℕ → ℕ → Place
place_of_byte of_byte.FileByte o i = FileByte o i
place_of_byte of_byte.DurableByte o i = DurableByte o i
place_of_byte of_byte.PipeByte o i = PipeByte o i

abbrev pub object_places : List ObjectPlace
object_places =
    of_object.FileLength ∷ of_object.DurableLength ∷ of_object.PutCount ∷ of_object.TakenCount
    ∷ of_object.EventCount ∷ []

-- The kind of place that a word followed by an object's name names.
abbrev pub object_place_named : List ℕ → Option ObjectPlace
object_place_named w = find (λ q. is_word_of w (place_of_object q 0)) object_places

abbrev pub byte_places : List BytePlace
byte_places = of_byte.FileByte ∷ of_byte.DurableByte ∷ of_byte.PipeByte ∷ []

-- The kind of byte that a word, an object's name and a number name.
abbrev pub byte_place_named : List ℕ → Option BytePlace
byte_place_named w = find (λ b. is_word_of w (place_of_byte b 0 0)) byte_places

abbrev pub object_place : Setup → Option ObjectPlace → List ℕ → Option Place
object_place s None name = None
object_place s (Some p) name = option_map (place_of_object p) (object_named s (owner_of p) name)

-- The byte of object o at an index.
abbrev pub byte_of : Setup → BytePlace → ℕ → Option ℕ → Result Place PlaceFault
byte_of s p o None = Err fault.Number
byte_of s p o (Some i) =
    if nat_lt i (bytes_of s o) then Ok (place_of_byte p o i) else Err fault.Place

abbrev pub byte_in : Setup → BytePlace → Option ℕ → List ℕ → Result Place PlaceFault
byte_in s p None word = Err fault.Place
byte_in s p (Some o) word = byte_of s p o (number_of word)

-- The byte of the object with this name. If there is no such object, the number is not read.
abbrev pub byte_named : Setup → Option BytePlace → List ℕ → List ℕ → Result Place PlaceFault
byte_named s None name word = Err fault.Place
byte_named s (Some p) name word = byte_in s p (object_named s (owner_of_byte p) name) word

-- ---- All names

-- The place with a name of two words.
abbrev pub pair_named : Setup → Option PlaceKind → List ℕ → List ℕ → Result Place PlaceFault
pair_named s (Some k) w word = member_of s k (number_of word)
pair_named s None w name = ok_or (object_place s (object_place_named w) name) fault.Place

-- The place that the words name.
abbrev pub place_named : Setup → List (List ℕ) → Result Place PlaceFault
place_named s [] = Err fault.Place
place_named s (w ∷ []) = ok_or (single_named s w) fault.Place
place_named s (w ∷ x ∷ []) = pair_named s (kind_named w) w x
place_named s (w ∷ o ∷ i ∷ []) = byte_named s (byte_place_named w) o i
place_named s (w ∷ o ∷ i ∷ x ∷ more) = Err fault.Place
