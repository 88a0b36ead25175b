-- What this crate's definitions and contracts name of the crates below, and its own types.
pub use Rattle.std.specs.{Option.option_and_then, Option.option_copied, Option.option_map_or, Ordering.nat_cmp, Ordering.ordering_then, Prelude.Bool, Prelude.None, Prelude.Option, Prelude.Some, Prelude.false, Prelude.slice_get, Prelude.true, Prelude.ℕ, declared.cmp.Ordering.Ordering}
pub use Rattle.entries.specs.declared.row.Row.{Row}
pub use Rattle.places.specs.declared.{place.Place.TheVariants.DurableByte, place.Place.TheVariants.FileByte, value.Value.TheVariants.Byte, value.Value.TheVariants.Number, value.Value.Value}
pub use Rattle.links_drains.specs.Links.{is_guard}
pub use Rattle.scenario.specs.declared.{event.Event.Event, event.Event.TheVariants.Step, setup.Instruction.Instruction, setup.Setup.Setup}
pub use Rattle.machine.specs.Whole.{WellFormed, view}
pub use Rattle.finding_kinds.specs.declared.{finding.Finding.Finding, kind.CancelKind.TheVariants.NoneFound, kind.ConflictKind.TheVariants.BufferInUse, kind.ConflictKind.TheVariants.FsyncEarly, kind.EndedKind.TheVariants.Canceled, kind.EndedKind.TheVariants.Expired, kind.EndedKind.TheVariants.NotFound, kind.EndedKind.TheVariants.Short, kind.EndedKind.TheVariants.TimedOut, kind.EndedKind.TheVariants.TooLate, kind.EndedKind.TheVariants.WentOn, kind.Kind.Kind, kind.Kind.TheVariants.Cancel, kind.Kind.TheVariants.Conflict, kind.Kind.TheVariants.Ended, kind.Kind.TheVariants.FsyncRetried, kind.Kind.TheVariants.Lasting, kind.Kind.TheVariants.Left, kind.Kind.TheVariants.Queued, kind.Kind.TheVariants.TimespecInUse, kind.LastingKind.TheVariants.LostWakeUp, kind.LastingKind.TheVariants.NotReaped, kind.LastingKind.TheVariants.NotTaken, kind.LastingKind.TheVariants.Stuck, kind.LastingKind.TheVariants.Waits, kind.LeftKind.TheVariants.NotDurable, kind.LeftKind.TheVariants.Unfinished, kind.QueuedKind.TheVariants.CutOff, kind.QueuedKind.TheVariants.NoEffect, kind.QueuedKind.TheVariants.SameUserData, kind.StepKind.TheVariants.ClosedWhileHeld, kind.Verdict.TheVariants.Fault, kind.Verdict.TheVariants.Note, kind.Verdict.Verdict}
