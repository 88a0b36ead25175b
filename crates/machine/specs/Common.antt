-- The names of other crates that the definitions of this crate use most, passed on from one place.
-- Declares nothing.
pub use Rattle.std.specs.{Int.w64, List.filter_map, List.filter, Option.option_map_or, Option.option_and_then}
pub use Rattle.entries.specs.declared.{choice.Choice.Choice, choice.Choice.TheVariants.Full, choice.Choice.TheVariants.Short, choice.Choice.TheVariants.Eio, completion.Cqe.Cqe, entry.Sqe.Sqe, row.Row.Row}
pub use Rattle.links_drains.specs.{Batches.halts, Batches.taken_of, Batches.rows_of, Batches.direct_of, Eligible.is_eligible, Endings.Ending, Endings.ecanceled, Endings.ended_by, Holding.is_held_by, Links.is_guard, Links.Chained, Links.has_flag, Phases.is_issued, Phases.is_ended, Phases.is_queued, Phases.is_unfinished, Phases.counted_of, Phases.ended_of, Rows.table_owns, Rows.fixed_of, Rows.Stay, Rows.table_seen, Rows.table_can_put}
pub use Rattle.model_files.specs.{Worlds.world_start, Worlds.WorldState, Worlds.world_owns, Worlds.descriptor_at, Worlds.descriptor_of, Worlds.world_closed, Worlds.world_stored, declared.descriptor.DescriptorState.DescriptorState}
pub use Rattle.opcodes.specs.{Effects.Does, Effects.world_after, Opcodes.is_timer, Opcodes.uses_descriptor, Opcodes.fits_end, Opcodes.is_cancel, Outcomes.count_in, Outcomes.outcome_of, Outcomes.is_running, declared.ending.Outcome.Outcome, declared.ending.Outcome.TheVariants.Res, declared.ending.Outcome.TheVariants.Waits, declared.ending.Outcome.TheVariants.BadChoice}
pub use Rattle.overflow.specs.Backlogs.{backlog_start, backlog_owns, BacklogState, is_clear, backlog_seen, backlog_can_put}
pub use Rattle.places.specs.{View.View, View.LeadsBack, View.named, View.undo, declared.place.Place.Place, declared.place.Place.TheVariants.ProgramCounter, declared.place.Place.TheVariants.ThreadStage, declared.place.Place.TheVariants.Last, declared.place.Place.TheVariants.Got, declared.place.Place.TheVariants.SubmissionHead, declared.place.Place.TheVariants.SubmissionTail, declared.place.Place.TheVariants.SubmissionFlags, declared.place.Place.TheVariants.SubmissionDropped, declared.place.Place.TheVariants.CompletionHead, declared.place.Place.TheVariants.CompletionTail, declared.place.Place.TheVariants.Array, declared.place.Place.TheVariants.Slot, declared.place.Place.TheVariants.Completion, declared.place.Place.TheVariants.MemoryByte, declared.place.Place.TheVariants.FileByte, declared.place.Place.TheVariants.DurableByte, declared.place.Place.TheVariants.FileLength, declared.place.Place.TheVariants.DurableLength, declared.place.Place.TheVariants.Position, declared.place.Place.TheVariants.OpenMark, declared.place.Place.TheVariants.PipeByte, declared.place.Place.TheVariants.PutCount, declared.place.Place.TheVariants.TakenCount, declared.place.Place.TheVariants.EventCount, declared.place.Place.TheVariants.Request, declared.place.Place.TheVariants.Backlog, declared.place.Place.TheVariants.BacklogFront, declared.place.Place.TheVariants.Clock, declared.place.Place.TheVariants.Counted, declared.place.Place.TheVariants.PollerStage, declared.value.Change.Change, declared.value.Stage.Stage, declared.value.Stage.TheVariants.Ready, declared.value.Stage.TheVariants.Waiting, declared.value.Value.Value}
pub use Rattle.ring_words.specs.Rings.{sub_start, com_start, sub_owns, com_owns, SubWords, ComWords, waiting, sub_seen, sub_can_put, SubFormed, com_seen, com_can_put, ComFormed, sub_list, with_flag}
pub use Rattle.scenario.specs.declared.{event.Event.Event, event.Event.TheVariants.Step, event.Event.TheVariants.Issue, event.Event.TheVariants.Expire, event.Event.TheVariants.Tick, event.Event.TheVariants.Take, event.Event.TheVariants.Sleep, event.Event.TheVariants.Finish, event.Refusal.Refusal, setup.Instruction.Instruction, setup.Instruction.TheVariants.Enter, setup.Instruction.TheVariants.Push, setup.Instruction.TheVariants.Reap, setup.Instruction.TheVariants.Put, setup.Instruction.TheVariants.Store, setup.Instruction.TheVariants.Close}
pub use Rattle.sqpoll.specs.{Pollers.is_awake, Pollers.poller_seen, declared.poller.Poller.Poller, declared.poller.Poller.TheVariants.Awake, declared.poller.Poller.TheVariants.Asleep}
pub use Rattle.timeouts_cancel.specs.{Cascades.is_transfer, Cascades.counted_in, Cascades.fall_of, Timers.is_due}
