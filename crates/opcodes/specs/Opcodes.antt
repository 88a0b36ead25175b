-- Groups of opcodes, by number (io_uring_enter(2)).
use Rattle.std.specs.Prelude.{ℕ, ◌==◌, ◌||◌, not, Bool, true}
use Rattle.places.specs.declared.object.End.{End}
use Rattle.places.specs.declared.object.End.TheVariants.{Whole, Read, Write}

-- TIMEOUT or LINK_TIMEOUT.
abbrev pub is_timer : ℕ → Bool
is_timer opcode = (opcode == 11) || (opcode == 15)

-- POLL_REMOVE, TIMEOUT_REMOVE or ASYNC_CANCEL.
abbrev pub is_cancel : ℕ → Bool
is_cancel opcode = (opcode == 7) || (opcode == 12) || (opcode == 14)

-- Whether a request holds its descriptor from its issue to its completion: FSYNC, POLL_ADD, READ or
-- WRITE.
abbrev pub uses_descriptor : ℕ → Bool
uses_descriptor opcode = (opcode == 3) || (opcode == 6) || (opcode == 22) || (opcode == 23)

-- Whether an issued request always runs, so that it can't be cancelled: NOP, FSYNC, POLL_REMOVE,
-- TIMEOUT_REMOVE or ASYNC_CANCEL.
abbrev pub always_runs : ℕ → Bool
always_runs opcode =
    (opcode == 0) || (opcode == 3) || (opcode == 7) || (opcode == 12) || (opcode == 14)

-- Whether an issued request runs on a regular file, and waits on any other object: READ or WRITE.
abbrev pub runs_on_file : ℕ → Bool
runs_on_file opcode = (opcode == 22) || (opcode == 23)

-- Whether a request can use this end of its object: a pipe's write end can't be read, nor its read
-- end written (pipe(7)).
abbrev pub fits_end : ℕ → End → Bool
fits_end opcode Whole = true
fits_end opcode Read = not (opcode == 23)
fits_end opcode Write = not (opcode == 22)
