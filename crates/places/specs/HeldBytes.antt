-- A list of bytes that is in the value itself if it is short.
use Rattle.std.specs.Prelude.{ℕ, List, take}
use Rattle.places.specs.declared.packing.short_bytes.Held.{Held}
use Rattle.places.specs.declared.packing.short_bytes.Held.TheVariants.{Short, Long}

abbrev pub bytes_of : Held → List ℕ
bytes_of (Short n bytes) = take n bytes
bytes_of (Long bytes) = bytes.items
