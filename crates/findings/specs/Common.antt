-- What this crate's definitions and contracts name of the crates below, and its own types.
pub use Rattle.std.specs.{List.Sorted.IsStrictlySortedBy, List.enumerate_from, List.list_any, Option.option_map_or, Ordering.int_eq}
pub use Rattle.entries.specs.declared.{choice.Choice.TheVariants.Full, entry.Sqe.Sqe, row.Phase.Phase, row.Phase.TheVariants.Ended, row.Phase.TheVariants.Issued, row.Row.Row}
pub use Rattle.bit_sets.specs.Sets.{has}
pub use Rattle.places.specs.{Sameness.is_same, View.Exact, View.NamesOnce, View.View, declared.object.Contents.Contents, declared.object.Contents.TheVariants.File, declared.object.Descriptor.Descriptor, declared.object.Object.Object, declared.place.Place.Place, declared.place.Place.TheVariants.DurableByte, declared.place.Place.TheVariants.FileByte, declared.place.Place.TheVariants.FileLength, declared.place.Place.TheVariants.OpenMark, declared.place.Place.TheVariants.Position, declared.place.Place.TheVariants.Request, declared.place.Place.TheVariants.Slot, declared.value.Change.Change, declared.value.Stage.Stage, declared.value.Stage.TheVariants.Ready, declared.value.Stage.TheVariants.Waiting, declared.value.Value.TheVariants.Entry, declared.value.Value.TheVariants.Number, declared.value.Value.TheVariants.Requested, declared.value.Value.Value}
pub use Rattle.ring_words.specs.Rings.{SubWords, sub_list, waiting}
pub use Rattle.model_files.specs.{Files.FileState, Files.content, Files.durable_content, Worlds.WorldState, Worlds.file_of as file_in_world}
pub use Rattle.opcodes.specs.{Opcodes.is_cancel, Opcodes.is_timer, Opcodes.uses_descriptor, Outcomes.is_at_position}
pub use Rattle.links_drains.specs.{Eligible.drains, Eligible.is_before_in_drain, Eligible.is_before_in_unit, Holding.is_number, Links.has_drain_flag, Links.has_flag, Links.is_guard, Links.is_linked, Links.is_soft_linked, Numbered.any_numbered, Phases.is_ended, Phases.is_issued, Phases.is_queued, Units.is_open}
pub use Rattle.timeouts_cancel.specs.{Cascades.is_bad, Cascades.is_negative, Cascades.is_transfer, Matches.matches_of}
pub use Rattle.scenario.specs.declared.{event.Event.Event, event.Event.TheVariants.Expire, event.Event.TheVariants.Finish, event.Event.TheVariants.Step, event.Refusal.Refusal, event.Refusal.TheVariants.NothingToReap, event.Refusal.TheVariants.SqFull, setup.Instruction.Instruction, setup.Instruction.TheVariants.Close, setup.Instruction.TheVariants.Enter, setup.Instruction.TheVariants.Push, setup.Instruction.TheVariants.Put, setup.Instruction.TheVariants.Reap, setup.Instruction.TheVariants.Store, setup.Setup.Setup}
pub use Rattle.machine.specs.{Cancels.key_of, Cancels.takes_all, Runs.Accepts, Runs.IsRefused, Runs.moment as machine_at, Runs.start, Steps.after, Steps.number_in, Steps.ready_count, Steps.refusal, Threads.ThreadState, Threads.program_of, Whole.WellFormed, Whole.view, declared.whole.Machine.Machine}
pub use Rattle.quiescence.specs.Over.{SaysOver}
pub use Rattle.runs.specs.{Moments.IsAt, declared.driving.Ended.TheVariants.Memory, declared.driving.Ended.TheVariants.Refused, declared.driving.Ended.TheVariants.Stopped}
pub use Rattle.finding_kinds.specs.{Chains.distance_to_next, Orders.order_of, Programs.instruction_at, Values.byte_in, Values.differ, declared.finding.Finding.Finding, declared.kind.CancelKind.CancelKind, declared.kind.CancelKind.TheVariants.LeftRunning, declared.kind.CancelKind.TheVariants.NoneFound, declared.kind.CancelKind.TheVariants.Several, declared.kind.ConflictKind.ConflictKind, declared.kind.ConflictKind.TheVariants.BufferInUse, declared.kind.ConflictKind.TheVariants.FsyncEarly, declared.kind.ConflictKind.TheVariants.SharedPosition, declared.kind.ConflictKind.TheVariants.Unordered, declared.kind.EndedKind.EndedKind, declared.kind.EndedKind.TheVariants.Canceled, declared.kind.EndedKind.TheVariants.Expired, declared.kind.EndedKind.TheVariants.Failed, declared.kind.EndedKind.TheVariants.NotFound, declared.kind.EndedKind.TheVariants.Severed, declared.kind.EndedKind.TheVariants.Short, declared.kind.EndedKind.TheVariants.TimedOut, declared.kind.EndedKind.TheVariants.TooLate, declared.kind.EndedKind.TheVariants.WentOn, declared.kind.Kind.Kind, declared.kind.Kind.TheVariants.Conflict, declared.kind.Kind.TheVariants.FsyncRetried, declared.kind.Kind.TheVariants.Lasting, declared.kind.Kind.TheVariants.Left, declared.kind.Kind.TheVariants.Overflow, declared.kind.Kind.TheVariants.Queued, declared.kind.Kind.TheVariants.TimespecInUse, declared.kind.LastingKind.LastingKind, declared.kind.LeftKind.LeftKind, declared.kind.LeftKind.TheVariants.NotDurable, declared.kind.LeftKind.TheVariants.Unfinished, declared.kind.QueuedKind.QueuedKind, declared.kind.QueuedKind.TheVariants.CutOff, declared.kind.QueuedKind.TheVariants.NoEffect, declared.kind.QueuedKind.TheVariants.SameUserData, declared.kind.StepKind.StepKind, declared.kind.StepKind.TheVariants.Busy, declared.kind.StepKind.TheVariants.ClosedEarly, declared.kind.StepKind.TheVariants.ClosedTwice, declared.kind.StepKind.TheVariants.ClosedWhileHeld, declared.kind.StepKind.TheVariants.NoSuchSlot, declared.kind.StepKind.TheVariants.RefusedFlags, declared.kind.StepKind.TheVariants.SlotInUse, declared.kind.StepKind.TheVariants.TakenShort, declared.kind.TheConstants.CancelKind.ALL as cancel_kinds, declared.kind.TheConstants.ConflictKind.ALL as conflict_kinds, declared.kind.TheConstants.EndedKind.ALL as ended_kinds, declared.kind.TheConstants.QueuedKind.ALL as queued_kinds, declared.kind.TheConstants.StepKind.ALL as step_kinds, declared.kind.Verdict.TheVariants.Fault, declared.kind.Verdict.TheVariants.Note, declared.kind.Verdict.Verdict}
pub use Rattle.finding_rules.specs.declared.{canceling.Cancel.Cancel, completed.Completed.Completed, completed.Member.Member, conditions.Before.Before, conditions.Condition.Condition, conditions.Condition.TheVariants.LostWakeUp, conditions.Condition.TheVariants.NotReaped, conditions.Condition.TheVariants.NotTaken, conditions.Condition.TheVariants.Stuck, conditions.Condition.TheVariants.Waits, conditions.Next.Next, effect.Effect.Effect, effect.Effect.TheVariants.Finished, effect.Effect.TheVariants.Nothing, effect.Effect.TheVariants.Stored, uses.Sought.Sought, uses.Sought.TheVariants.Named, uses.Sought.TheVariants.Naming, uses.Usage.TheVariants.Holds, uses.Usage.TheVariants.Names, uses.Usage.Usage, writes.Fsync.Fsync, writes.Written.Written}
pub use Rattle.findings.specs.declared.{suspects.Durability.Durability, watching.Watch.Watch}
