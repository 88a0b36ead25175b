-- What a request does if it completes with an outcome.
use Rattle.opcodes.proofs.Common.{◌≡◌, ℕ, ℤ, pos, sym, ◌∙◌, ap, subst, ◌≤◌, arith, Some, option_and_then, option_map_or, Row, DescriptorState, Stock, File, WorldState, descriptor_of, stock_of, Choice, Op, Res, op_of, held_descriptor, done_by, world_after, count_in, pipe_read, pipe_written, file_of, effected, CanCarry, Does}
use Rattle.std.specs.Prelude.{IsSome, Bool, ◌-◌}
use Rattle.opcodes.specs.declared.{effect.Effect.Effect, ending.Outcome.Outcome}

-- The descriptor that a request holds.
pub descriptor_is : (w : WorldState) (row : Row) (fd : ℕ) (d : DescriptorState) → row.held ≡ Some fd → held_descriptor w row ≡ Some d → descriptor_of w fd ≡ Some d
descriptor_is w row fd d held there = sym (ap (option_and_then (descriptor_of w)) held) ∙ there

-- The effect of a request that succeeds.
pub after_is : (w : WorldState) (row : Row) (fd : ℕ) (d : DescriptorState) (op : Op) (stock : Stock) (k : ℕ) → row.held ≡ Some fd → held_descriptor w row ≡ Some d → op_of row.entry.opcode ≡ Some op → stock_of w d.object ≡ Some stock → world_after row (pos k) w ≡ done_by row.entry (Some op) (Some stock) fd d k w
after_is w row fd d op stock k held there opcode holds =
    let here = descriptor_is w row fd d held there in
    ap (λ x. option_map_or (λ f. option_map_or (λ (e : DescriptorState). done_by row.entry (op_of row.entry.opcode) (stock_of w e.object) f e k w) (descriptor_of w f) w) x w) held
    ∙ ap (λ x. option_map_or (λ (e : DescriptorState). done_by row.entry (op_of row.entry.opcode) (stock_of w e.object) fd e k w) x w) here
    ∙ ap (λ o. done_by row.entry o (stock_of w d.object) fd d k w) opcode
    ∙ ap (λ s. done_by row.entry (Some op) s fd d k w) holds

counts : (o : Outcome) (k : ℕ) (res : ℤ) → Some k ≡ count_in o → o ≡ Res res → pos k ≡ res
counts = grind arith

-- A request that succeeds with result k has this effect.
pub does : (w : WorldState) (row : Row) (fd : ℕ) (d : DescriptorState) (op : Op) (stock : Stock) (k : ℕ) (o : Outcome) (res : ℤ) (effect : Effect) → row.held ≡ Some fd → held_descriptor w row ≡ Some d → op_of row.entry.opcode ≡ Some op → stock_of w d.object ≡ Some stock → Some k ≡ count_in o → o ≡ Res res → effected effect w ≡ done_by row.entry (Some op) (Some stock) fd d k w → CanCarry w effect → Does w row res effect
does w row fd d op stock k o res effect held there opcode holds counted is same can =
    subst (λ z. Does w row z effect) (counts o k res counted is)
    (record { same = same ∙ sym (after_is w row fd d op stock k held there opcode holds); can = can })

-- A pipe gives out, or takes in, at most what the request asks for.
pub pipe_read_within : (len filled k : ℕ) (writer : Bool) (c : Choice) → Some k ≡ count_in (pipe_read len writer filled c) → (k ≤ filled) × (k ≤ len)
pipe_read_within = grind arith

pub pipe_written_within : (len filled capacity k : ℕ) (reader : Bool) (c : Choice) → Some k ≡ count_in (pipe_written len reader filled capacity c) → (k ≤ capacity - filled) × (k ≤ len)
pipe_written_within = grind arith

pub file_is : (w : WorldState) (o len : ℕ) → stock_of w o ≡ Some (File len) → IsSome (file_of w o)
file_is = grind arith
