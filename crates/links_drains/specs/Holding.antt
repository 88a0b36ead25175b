-- Which descriptors are held by requests (io_uring_enter(2)).
use Rattle.std.specs.Prelude.{◌≡◌, ℕ, ◌≤◌, ◌==◌, ◌&&◌, Bool, false, Option, Some, None, List, length}
use Rattle.links_drains.specs.Common.{Row, filter, list_any, Held}
use Rattle.model_files.specs.Holders.{holders, is_descriptor_number}
use Rattle.links_drains.specs.Phases.{is_issued}

-- Whether the descriptor, if there is one, is fd.
abbrev pub is_number : Option ℕ → ℕ → Bool
is_number None fd = false
is_number (Some number) fd = number == fd

-- Whether the request holds the descriptor: only an issued request does.
abbrev pub holds : ℕ → Row → Bool
holds fd row = is_descriptor_number fd && is_issued row.phase && is_number row.held fd

-- Whether some request holds the descriptor.
abbrev pub is_held_by : List Row → ℕ → Bool
is_held_by rows fd = list_any (holds fd) rows

-- How many requests hold it.
abbrev pub holders_of : List Row → ℕ → ℕ
holders_of rows fd = length (filter (holds fd) rows)

-- The counts of held descriptors are those of the table, which has at most 65,536 requests.
pub record Tallied (rows : List Row) (held : Held) : Type 0 where
  pub most : length rows ≤ 65536
  pub counts : (fd : ℕ) → holders held fd ≡ holders_of rows fd
