-- Which descriptors are held by requests in flight, and by how many.
use Rattle.std.specs.Prelude.{ℕ, ◌-◌, ◌==◌, ◌&&◌, nat_le, nat_lt, get_or, Bool, List, if◌then◌else◌}
use Rattle.model_files.specs.declared.held.Held.{Held}

-- Whether fd is one of the 64 possible descriptors, numbered from 3 (stdin(3)).
abbrev pub is_descriptor_number : ℕ → Bool
is_descriptor_number fd = nat_le 3 fd && nat_lt fd 67

-- The count of a descriptor, or 0 for a number outside of 3 to 66.
abbrev pub count_in : List ℕ → ℕ → ℕ
count_in counts fd = if is_descriptor_number fd then get_or counts (fd - 3) 0 else 0

-- How many requests hold a descriptor.
abbrev pub holders : Held → ℕ → ℕ
holders held fd = count_in held.counts fd

-- Whether any request holds it.
abbrev pub is_held : Held → ℕ → Bool
is_held held fd = nat_lt 0 (holders held fd)

-- How much holding descriptor fd adds to the count of descriptor `other`.
abbrev pub counted : ℕ → ℕ → ℕ
counted fd other = if is_descriptor_number fd && fd == other then 1 else 0
