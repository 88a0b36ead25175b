-- The names that the proofs of this crate cite most, passed on from one place. Declares nothing.
pub use Rattle.std.proofs.Common.{◌≡◌, sym, ℕ, ◌∙◌, ap, arith, refl, ℤ, pos, negsuc, zero, suc, Bool, ◌+◌, ◌≤◌, List, [], ◌∷◌, drop, cond, subst, ◌-◌, ◌<◌, length, length-take, rules, ◌^◌, true, false}
pub use Rattle.std.specs.{Option.option_and_then, Option.option_map_or, Prelude.Some, Prelude.Option, Prelude.None, Prelude.slice_get, Prelude.Result, Prelude.OnErr, Prelude.IsOk, Prelude.IsSome}
pub use Rattle.entries.specs.declared.{choice.Choice.Choice, entry.Sqe.Sqe, row.Row.Row}
pub use Rattle.model_files.{proofs.Fixing.setup_taken, proofs.Fixing.setup_put, proofs.Fixing.setup_then, proofs.Fixing.setup_written, proofs.Fixing.setup_synced, proofs.Fixing.setup_added, proofs.Fixing.setup_cleared, proofs.Fixing.setup_at, proofs.Fixing.setup_self, proofs.Fixing.setup_read, proofs.Forming.file_formed, proofs.Forming.world_at_formed, proofs.Forming.world_read_formed, proofs.Forming.world_written_formed, proofs.Forming.world_synced_formed, proofs.Forming.world_taken_formed, proofs.Forming.world_put_formed, proofs.Forming.world_added_formed, proofs.Forming.world_cleared_formed, specs.Files.written, specs.Files.part, specs.Files.synced, specs.Files.FileFormed, specs.Pipes.GivesOut, specs.Pipes.TakesIn, specs.Pipes.PipeState, specs.Pipes.put_in, specs.Pipes.taken_out, specs.Pipes.PipeFormed, specs.Pipes.filled, specs.Worlds.WorldState, specs.Worlds.descriptor_of, specs.Worlds.stock_of, specs.Worlds.world_put, specs.Worlds.world_taken, specs.Worlds.WorldFormed, specs.Worlds.PutsWithin, specs.Worlds.number_at, specs.Worlds.on_file, specs.Worlds.pipe_in, specs.Worlds.OneSetup, specs.Worlds.pipe_of, specs.Worlds.world_at, specs.Worlds.world_read, specs.Worlds.world_written, specs.Worlds.on_counter, specs.Worlds.on_pipe, specs.Worlds.world_added, specs.Worlds.world_cleared, specs.Worlds.world_synced, specs.Worlds.BodyFormed, specs.Worlds.StockFits, specs.Worlds.file_of, specs.Worlds.counter_of, specs.Worlds.stock_in, specs.Worlds.world_seen, specs.declared.body.Body.Body, specs.declared.descriptor.DescriptorState.DescriptorState, specs.declared.stock.Stock.Stock, specs.declared.stock.Stock.TheVariants.Pipe, specs.declared.stock.Stock.TheVariants.File, specs.declared.stock.Stock.TheVariants.EventFd}
pub use Rattle.opcodes.specs.{Check.op_of, Check.has_time, Effects.moved_on, Effects.bytes_read, Effects.bytes_written, Effects.done_by, Effects.world_after, Effects.effected, Effects.CanCarry, Effects.Does, Effects.HasPosition, Outcomes.offset_of, Outcomes.position_of, Outcomes.outcome_of, Outcomes.held_descriptor, Outcomes.fixed, Outcomes.passes_memory, Outcomes.read_outcome, Outcomes.write_outcome, Outcomes.outcome_on, Outcomes.is_at_position, Outcomes.count_in, Outcomes.pipe_read, Outcomes.pipe_written, declared.ending.Outcome.TheVariants.Res, declared.op.Op.Op, declared.op.Op.TheVariants.Read, declared.op.Op.TheVariants.Write, declared.op.Op.TheVariants.Fsync}
pub use Rattle.places.specs.Lists.{updated}
