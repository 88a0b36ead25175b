-- The effect of a completed request on memory, objects and descriptors (read(2), write(2),
-- fsync(2), pipe(7), eventfd(2)).
use Rattle.std.specs.Prelude.{◌≡◌, ℕ, ℤ, pos, negsuc, ◌+◌, ◌<◌, ◌≤◌, ◌^◌, Option, Some, IsSome, IsSomeAnd, if◌then◌else◌}
use Rattle.std.specs.Option.{option_map_or}
use Rattle.entries.specs.declared.entry.Sqe.{Sqe}
use Rattle.entries.specs.declared.row.Row.{Row}
use Rattle.model_files.specs.declared.descriptor.DescriptorState.{DescriptorState}
use Rattle.model_files.specs.declared.stock.Stock.{Stock}
use Rattle.model_files.specs.declared.stock.Stock.TheVariants.{File, Pipe, EventFd}
use Rattle.model_files.specs.Pipes.{GivesOut, TakesIn}
use Rattle.model_files.specs.Worlds.{PutsWithin, WorldFormed, WorldState, counter_of, descriptor_of, file_of, number_at, pipe_of, stock_of, world_added, world_at, world_cleared, world_put, world_read, world_synced, world_taken, world_written}
use Rattle.opcodes.specs.declared.effect.Effect.{Effect}
use Rattle.opcodes.specs.declared.effect.Effect.TheVariants.{Nothing, SyncFile, ReadFile, WriteFile, TakePipe, PutPipe, ClearEvent, AddEvent}
use Rattle.opcodes.specs.declared.effect.Transfer.{Transfer}
use Rattle.opcodes.specs.declared.ending.Outcome.{Outcome}
use Rattle.opcodes.specs.declared.ending.Outcome.TheVariants.{Res}
use Rattle.opcodes.specs.declared.op.Op.{Op}
use Rattle.opcodes.specs.declared.op.Op.TheVariants.{Fsync, Read, Write}
use Rattle.opcodes.specs.Check.{op_of}
use Rattle.opcodes.specs.Outcomes.{is_at_position, offset_of, position_of}

-- The world after the file position advances by k bytes, if the transfer used it.
abbrev pub moved_on : Sqe → ℕ → Option ℕ → ℕ → WorldState → WorldState
moved_on entry fd position k w =
    option_map_or (λ n. if is_at_position entry then world_at fd (n + k) w else w) position w

-- The world after k bytes are read from a file, or written to it.
abbrev pub bytes_read : Sqe → ℕ → DescriptorState → ℕ → WorldState → WorldState
bytes_read entry fd d k w =
    moved_on entry fd d.position k
    (world_read d.object (offset_of entry (position_of (Some d))) k entry.addr w)

abbrev pub bytes_written : Sqe → ℕ → DescriptorState → ℕ → WorldState → WorldState
bytes_written entry fd d k w =
    moved_on entry fd d.position k
    (world_written d.object (offset_of entry (position_of (Some d))) k entry.addr w)

-- The effect of a request that succeeded with result k. It depends on the opcode and on the object
-- that its descriptor refers to.
abbrev pub done_by : Sqe → Option Op → Option Stock → ℕ → DescriptorState → ℕ → WorldState
    → WorldState
done_by entry (Some Fsync) (Some (File len)) fd d k w = world_synced d.object w
done_by entry (Some Read) (Some (File len)) fd d k w = bytes_read entry fd d k w
done_by entry (Some Read) (Some (Pipe filled capacity)) fd d k w =
    world_taken d.object k entry.addr w
done_by entry (Some Read) (Some (EventFd counter)) fd d k w = world_cleared d.object entry.addr w
done_by entry (Some Write) (Some (File len)) fd d k w = bytes_written entry fd d k w
done_by entry (Some Write) (Some (Pipe filled capacity)) fd d k w =
    world_put d.object k entry.addr w
done_by entry (Some Write) (Some (EventFd counter)) fd d k w =
    world_added d.object (number_at w entry.addr) w
done_by entry op stock fd d k w = w

-- The world after a request has completed. A request that failed, or that holds no descriptor,
-- changes nothing.
abbrev pub world_after : Row → ℤ → WorldState → WorldState
world_after row (negsuc n) w = w
world_after row (pos k) w = option_map_or (λ fd. option_map_or (λ d. done_by row.entry (op_of row.entry.opcode) (stock_of w d.object) fd d k w) (descriptor_of w fd) w) row.held w

-- ---- Effects, once they are decided

-- The world after a descriptor got a file position, if one is given.
abbrev pub positioned : Option (ℕ × ℕ) → WorldState → WorldState
positioned moves w = option_map_or (λ (m : ℕ × ℕ). world_at m.0 m.1 w) moves w

-- The world after an effect.
abbrev pub effected : Effect → WorldState → WorldState
effected Nothing w = w
effected (SyncFile o) w = world_synced o w
effected (ReadFile t) w = positioned t.moves (world_read t.object t.offset t.count t.address w)
effected (WriteFile t) w =
    positioned t.moves (world_written t.object t.offset t.count t.address w)
effected (TakePipe o k addr) w = world_taken o k addr w
effected (PutPipe o k addr) w = world_put o k addr w
effected (ClearEvent o addr) w = world_cleared o addr w
effected (AddEvent o n) w = world_added o n w

-- The descriptor of a file has a position, which can be set.
pub record HasPosition (w : WorldState) (fd : ℕ) : Type 0 where
  pub few : fd < 67
  pub descriptor : DescriptorState
  pub there : descriptor_of w fd ≡ Some descriptor
  pub position : IsSome descriptor.position

-- The transfer is within the file and within the memory.
pub record CanMove (w : WorldState) (t : Transfer) : Type 0 where
  pub file : IsSome (file_of w t.object)
  pub in_file : t.offset + t.count ≤ 65536
  pub in_memory : t.address + t.count ≤ 65536
  pub moves : (m : ℕ × ℕ) → t.moves ≡ Some m → HasPosition w m.0

-- What an effect requires of the world.
abbrev pub CanCarry : WorldState → Effect → Type 0
CanCarry w Nothing = Unit {0}
CanCarry w (SyncFile o) = IsSome (file_of w o)
CanCarry w (ReadFile t) = CanMove w t
CanCarry w (WriteFile t) = CanMove w t
CanCarry w (TakePipe o k addr) = IsSomeAnd (pipe_of w o) (GivesOut k) × (addr + k ≤ 65536)
CanCarry w (PutPipe o k addr) = IsSomeAnd (pipe_of w o) (TakesIn k) × (addr + k ≤ 65536)
CanCarry w (ClearEvent o addr) = IsSome (counter_of w o) × (addr + 8 ≤ 65536)
CanCarry w (AddEvent o n) = IsSomeAnd (counter_of w o) (λ m. m + n < 2 ^ 64)

-- The effect is what the request does if it completes with this result.
pub record Does (w : WorldState) (row : Row) (res : ℤ) (e : Effect) : Type 0 where
  pub same : effected e w ≡ world_after row res w
  pub can : CanCarry w e

-- What completing with an outcome does, if it is a result.
abbrev pub Decides : WorldState → Row → Outcome → Effect → Type 0
Decides w row o e =
    (res : ℤ) → o ≡ Res res → WorldFormed w → PutsWithin (2 ^ 63) w → Does w row res e
