-- Regular files: the contents that a program reads and writes, and the durable contents (read(2),
-- write(2), fsync(2)).
use Rattle.std.specs.Prelude.{◌≡◌, ℕ, ◌+◌, ◌-◌, ◌≤◌, Some, None, option_map, slice_get, List, [], ◌∷◌, ◌++◌, length, take, drop, replicate}
use Rattle.places.specs.View.{View}
use Rattle.places.specs.declared.place.Place.TheVariants.{FileByte, DurableByte, FileLength, DurableLength}
use Rattle.places.specs.declared.value.Value.TheVariants.{Number, Byte}

-- A file: its current and its durable contents. Each is stored as 65,536 bytes, the maximum, with
-- zeros after the length.
pub record FileState : Type 0 where
  pub bytes : List ℕ
  pub len : ℕ
  pub durable : List ℕ
  pub durable_len : ℕ

-- The values of a file's places.
abbrev pub file_seen : FileState → View
file_seen f (FileByte o i) = option_map Byte (slice_get f.bytes i)
file_seen f (DurableByte o i) = option_map Byte (slice_get f.durable i)
file_seen f (FileLength o) = Some (Number f.len)
file_seen f (DurableLength o) = Some (Number f.durable_len)
file_seen f _ = None

abbrev pub zeros : ℕ → List ℕ
zeros n = replicate n 0

-- The bytes, padded with zeros to 65,536, the maximum for a file and for the memory.
abbrev pub padded : List ℕ → List ℕ
padded bytes = bytes ++ zeros (65536 - length bytes)

-- The current contents of a file.
abbrev pub content : FileState → List ℕ
content f = take f.len f.bytes

-- The durable contents of a file.
abbrev pub durable_content : FileState → List ℕ
durable_content f = take f.durable_len f.durable

-- k bytes of a list, from index `at` on.
abbrev pub part : List ℕ → ℕ → ℕ → List ℕ
part bytes at k = take k (drop at bytes)

-- The bytes with `others` written over them from index `at` on.
abbrev pub overwritten : List ℕ → ℕ → List ℕ → List ℕ
overwritten bytes at others = take at bytes ++ (others ++ drop (at + length others) bytes)

-- The contents of a file after a write at an offset. Writing no bytes changes nothing. A gap before
-- the offset is filled with zeros (write(2), lseek(2)).
abbrev pub content_written : List ℕ → ℕ → List ℕ → List ℕ
content_written old at [] = old
content_written old at (b ∷ bs) = overwritten (old ++ zeros (at - length old)) at (b ∷ bs)

-- The file with other current contents and the same durable ones.
abbrev pub with_content : FileState → List ℕ → FileState
with_content f bytes = record f { bytes = padded bytes; len = length bytes }

-- The file after bytes are written at an offset.
abbrev pub written : List ℕ → ℕ → FileState → FileState
written others at f = with_content f (content_written (content f) at others)

-- The file after its current contents became durable (fsync(2)).
abbrev pub synced : FileState → FileState
synced f = record f { durable = f.bytes; durable_len = f.len }

-- The file at the start of a run: all of it is durable.
abbrev pub file_start : List ℕ → FileState
file_start bytes =
    record
    { bytes = padded bytes; len = length bytes; durable = padded bytes; durable_len = length bytes }

-- Both contents are stored in 65,536 bytes, and no length is greater.
pub record FileSized (f : FileState) : Type 0 where
  pub bytes : length f.bytes ≡ 65536
  pub len : f.len ≤ 65536
  pub durable : length f.durable ≡ 65536
  pub durable_len : f.durable_len ≤ 65536

-- The invariant between steps: all bytes after the two lengths are 0.
pub record FileFormed (f : FileState) : Type 0 where
  pub sized : FileSized f
  pub bytes : f.bytes ≡ padded (content f)
  pub durable : f.durable ≡ padded (durable_content f)
