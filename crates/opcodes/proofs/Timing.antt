-- The opcodes that have a time.
use Rattle.std.specs.Prelude.{◌≡◌, ℕ, Some}
use Rattle.opcodes.proofs.Common.{arith, has_time, op_of, Op}
use Rattle.opcodes.specs.Opcodes.{is_timer}

pub has_time_is : (opcode : ℕ) (op : Op) → op_of opcode ≡ Some op → has_time op ≡ is_timer opcode
has_time_is = grind arith
