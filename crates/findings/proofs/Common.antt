-- What this crate's proofs name: definitions and lemmas, of this crate and of those below.
pub use borrow.Author.Tests.{clash, not-true}
pub use Rattle.std.{proofs.Common.ap, proofs.Common.append-nil, proofs.Common.arith, proofs.Common.inl, proofs.Common.inr, proofs.Common.length-append, proofs.Common.rules, proofs.Common.subst, proofs.Common.sym, proofs.Common.◌∙◌, proofs.Math.Seq.take-append_seam, proofs.lemmas.Bool.Decides.nat_tests, proofs.lemmas.Bool.MatchBool-at_false, proofs.lemmas.Bool.MatchBool-at_true, proofs.lemmas.Bool.and_from, proofs.lemmas.Bool.and_left, proofs.lemmas.Bool.and_parts, proofs.lemmas.Bool.and_right, proofs.lemmas.Bool.cases_eq, proofs.lemmas.Bool.cases_lt, proofs.lemmas.Bool.cases_order, proofs.lemmas.Bool.eq-eqb, proofs.lemmas.Bool.eqb-true, proofs.lemmas.Bool.false_from_ne_true, proofs.lemmas.Bool.le-leb, proofs.lemmas.Bool.leb-true, proofs.lemmas.Bool.lt-ltb, proofs.lemmas.Bool.ltb-true, proofs.lemmas.Bool.ne_eqb, proofs.lemmas.Bool.or_cases, proofs.lemmas.Bool.or_parts, proofs.lemmas.Bool.true_from_ne_false, proofs.lemmas.Fn.filter_same, proofs.lemmas.Grind.flat_map-append, proofs.lemmas.Grind.take_at_read, proofs.lemmas.List.Elements.All-append, proofs.lemmas.List.Elements.All-cons, proofs.lemmas.List.Elements.All-contains, proofs.lemmas.List.Elements.All-head, proofs.lemmas.List.Elements.All-map, proofs.lemmas.List.Elements.All-nil, proofs.lemmas.List.Elements.All-tail, proofs.lemmas.List.Elements.All-weaker, proofs.lemmas.List.Elements.Contains-append_left, proofs.lemmas.List.Elements.Contains-append_right, proofs.lemmas.List.Elements.Contains-get_or, proofs.lemmas.List.Filters.dedup_is, proofs.lemmas.List.Folds.list_any-append, proofs.lemmas.List.Kept.Contains-dedup, proofs.lemmas.List.Kept.Contains-from_dedup, proofs.lemmas.List.Kept.IsStrictlySortedBy-dedup, proofs.lemmas.List.Sorted.Contains-permutation, proofs.lemmas.List.Sorted.IsPermutation-sym, proofs.lemmas.List.append_assoc, proofs.lemmas.List.drop_all, proofs.lemmas.List.flat_map_more, proofs.lemmas.List.length-drop, proofs.lemmas.List.length-map, proofs.lemmas.List.take-append-le, proofs.lemmas.List.take_all, proofs.lemmas.Option.get_or_from_slice_get, proofs.lemmas.Option.none-some, proofs.lemmas.Option.same_Some, proofs.lemmas.Option.slice_get_past, proofs.lemmas.Option.slice_get_read, proofs.lemmas.Option.slice_get_within, proofs.lemmas.Result.on_ok_weaker, specs.List.enumerate_from, specs.List.list_any, specs.Option.option_map_or, specs.Prelude.All, specs.Prelude.Bool, specs.Prelude.Contains, specs.Prelude.Err, specs.Prelude.List, specs.Prelude.MatchBool, specs.Prelude.None, specs.Prelude.Ok, specs.Prelude.OnOk, specs.Prelude.Option, specs.Prelude.Result, specs.Prelude.Some, specs.Prelude.[], specs.Prelude.cond, specs.Prelude.drop, specs.Prelude.false, specs.Prelude.filter, specs.Prelude.flat_map, specs.Prelude.get_or, specs.Prelude.if◌then◌else◌, specs.Prelude.length, specs.Prelude.map, specs.Prelude.nat_le, specs.Prelude.nat_lt, specs.Prelude.negsuc, specs.Prelude.not, specs.Prelude.option_and_then, specs.Prelude.option_map, specs.Prelude.option_to_list, specs.Prelude.pos, specs.Prelude.refl, specs.Prelude.set, specs.Prelude.slice_get, specs.Prelude.suc, specs.Prelude.take, specs.Prelude.true, specs.Prelude.zero, specs.Prelude.ℕ, specs.Prelude.ℤ, specs.Prelude.◌&&◌, specs.Prelude.◌*◌, specs.Prelude.◌++◌, specs.Prelude.◌+◌, specs.Prelude.◌-◌, specs.Prelude.◌<◌, specs.Prelude.◌==◌, specs.Prelude.◌||◌, specs.Prelude.◌∷◌, specs.Prelude.◌≡◌, specs.Prelude.◌≤◌, specs.Prelude.◌⊎◌}
pub use Rattle.entries.specs.declared.{choice.Choice.Choice, entry.Sqe.Sqe, row.Phase.Phase, row.Row.Row}
pub use Rattle.bit_sets.{proofs.Bits.has_past, proofs.Differences.has_below, specs.Sets.IsNext, specs.Sets.NoneFrom, specs.Sets.has}
pub use Rattle.places.{proofs.ListLemmas.slice_get_none, proofs.SamePlace.same_place_is, proofs.SamePlace.same_place_self, specs.Lists.updated, specs.Places.same_place, specs.Runs.old_bytes, specs.Runs.place_in, specs.Stretched.kept_of, specs.View.Exact, specs.View.NamesOnce, specs.View.View, specs.declared.notes.runs.Region.Region, specs.declared.notes.runs.Region.TheVariants.Memory, specs.declared.object.Contents.Contents, specs.declared.object.Contents.TheVariants.File, specs.declared.object.Descriptor.Descriptor, specs.declared.object.Object.Object, specs.declared.place.Place.Place, specs.declared.place.Place.TheVariants.DurableByte, specs.declared.place.Place.TheVariants.FileByte, specs.declared.place.Place.TheVariants.Request, specs.declared.value.Change.Change, specs.declared.value.Stage.Stage, specs.declared.value.Stage.TheVariants.Ready, specs.declared.value.Stage.TheVariants.Waiting, specs.declared.value.Value.TheVariants.Requested, specs.declared.value.Value.Value}
pub use Rattle.ring_words.specs.Rings.{sub_list}
pub use Rattle.sqpoll.specs.declared.poller.Poller.{Poller}
pub use Rattle.model_files.specs.Worlds.{descriptor_of, world_closed}
pub use Rattle.opcodes.specs.{Effects.world_after, Opcodes.is_cancel, Outcomes.outcome_of, declared.ending.Outcome.Outcome, declared.ending.Outcome.TheVariants.BadChoice, declared.ending.Outcome.TheVariants.Res, declared.ending.Outcome.TheVariants.Waits}
pub use Rattle.links_drains.{proofs.Chains.enumerated, proofs.RestOfUnit.numbered, proofs.Units.any_false, proofs.Units.any_true, specs.Holding.is_held_by, specs.Links.Chained, specs.Links.has_flag, specs.Links.is_guard, specs.Links.is_soft_linked, specs.Phases.is_ended, specs.Units.is_open}
pub use Rattle.timeouts_cancel.specs.Cascades.{is_bad, is_negative, is_transfer}
pub use Rattle.scenario.specs.declared.{event.Event.Event, event.Event.TheVariants.Expire, event.Event.TheVariants.Finish, event.Event.TheVariants.Issue, event.Event.TheVariants.Sleep, event.Event.TheVariants.Step, event.Event.TheVariants.Take, event.Event.TheVariants.Tick, setup.Instruction.Instruction, setup.Instruction.TheVariants.Close, setup.Instruction.TheVariants.Enter, setup.Setup.Setup}
pub use Rattle.machine.{proofs.CascadedRows.threads_cascaded, proofs.Formed.before_threads, proofs.Formed.shown_threads, proofs.Formed.submitted_threads, proofs.Formed.woken_threads, proofs.Growing.grows_after, specs.Cancels.ending_with, specs.Cancels.verdict_of, specs.Runs.moment as machine_at, specs.Runs.run, specs.Runs.start, specs.Steps.after, specs.Steps.all_started, specs.Steps.answered, specs.Steps.awaited, specs.Steps.before_submission, specs.Steps.cancelled, specs.Steps.cascaded, specs.Steps.closed, specs.Steps.entered, specs.Steps.entered_without_poller, specs.Steps.entries_for, specs.Steps.executed, specs.Steps.expired, specs.Steps.expiring, specs.Steps.finished, specs.Steps.finished_as, specs.Steps.gets_events, specs.Steps.held_back, specs.Steps.is_busy, specs.Steps.is_unknown, specs.Steps.issued, specs.Steps.lacks_descriptor, specs.Steps.needed, specs.Steps.number_in, specs.Steps.ready_count, specs.Steps.resumed, specs.Steps.shown, specs.Steps.stepped, specs.Steps.submitted, specs.Steps.waiting_target, specs.Steps.woken, specs.Submission.ebadf, specs.Submission.ebusy, specs.Submission.einval, specs.Threads.ThreadState, specs.Threads.program_of, specs.Threads.thread_start, specs.Whole.Grows, specs.Whole.WellFormed, specs.Whole.view, specs.declared.whole.Machine.Machine}
pub use Rattle.quiescence.specs.Over.{SaysOver}
pub use Rattle.runs.specs.Moments.{IsAfter, IsAt}
pub use Rattle.finding_kinds.specs.{Programs.instruction_at, Values.byte_in, Values.differ, declared.finding.Finding.Finding, declared.kind.CancelKind.CancelKind, declared.kind.CancelKind.TheVariants.LeftRunning, declared.kind.CancelKind.TheVariants.NoneFound, declared.kind.CancelKind.TheVariants.Several, declared.kind.ConflictKind.ConflictKind, declared.kind.ConflictKind.TheVariants.BufferInUse, declared.kind.ConflictKind.TheVariants.FsyncEarly, declared.kind.ConflictKind.TheVariants.SharedPosition, declared.kind.ConflictKind.TheVariants.Unordered, declared.kind.EndedKind.EndedKind, declared.kind.EndedKind.TheVariants.Canceled, declared.kind.EndedKind.TheVariants.Expired, declared.kind.EndedKind.TheVariants.Failed, declared.kind.EndedKind.TheVariants.NotFound, declared.kind.EndedKind.TheVariants.Severed, declared.kind.EndedKind.TheVariants.Short, declared.kind.EndedKind.TheVariants.TimedOut, declared.kind.EndedKind.TheVariants.TooLate, declared.kind.EndedKind.TheVariants.WentOn, declared.kind.Kind.Kind, declared.kind.Kind.TheVariants.Cancel, declared.kind.Kind.TheVariants.Conflict, declared.kind.Kind.TheVariants.Ended, declared.kind.Kind.TheVariants.FsyncRetried, declared.kind.Kind.TheVariants.Lasting, declared.kind.Kind.TheVariants.Left, declared.kind.Kind.TheVariants.Overflow, declared.kind.Kind.TheVariants.Queued, declared.kind.Kind.TheVariants.TimespecInUse, declared.kind.LastingKind.LastingKind, declared.kind.LeftKind.LeftKind, declared.kind.LeftKind.TheVariants.NotDurable, declared.kind.LeftKind.TheVariants.Unfinished, declared.kind.QueuedKind.QueuedKind, declared.kind.QueuedKind.TheVariants.CutOff, declared.kind.QueuedKind.TheVariants.NoEffect, declared.kind.QueuedKind.TheVariants.SameUserData, declared.kind.StepKind.StepKind, declared.kind.StepKind.TheVariants.Busy, declared.kind.StepKind.TheVariants.ClosedEarly, declared.kind.StepKind.TheVariants.ClosedTwice, declared.kind.StepKind.TheVariants.ClosedWhileHeld, declared.kind.StepKind.TheVariants.NoSuchSlot, declared.kind.StepKind.TheVariants.RefusedFlags, declared.kind.StepKind.TheVariants.SlotInUse, declared.kind.StepKind.TheVariants.TakenShort, declared.kind.TheConstants.CancelKind.ALL as cancel_kinds, declared.kind.TheConstants.ConflictKind.ALL as conflict_kinds, declared.kind.TheConstants.EndedKind.ALL as ended_kinds, declared.kind.TheConstants.QueuedKind.ALL as queued_kinds, declared.kind.TheConstants.StepKind.ALL as step_kinds, declared.kind.Verdict.TheVariants.Fault, declared.kind.Verdict.TheVariants.Note, declared.kind.Verdict.Verdict}
pub use Rattle.finding_rules.specs.{AtEnd.fault_if, AtEnd.has_fsync, AtEnd.is_left, AtEnd.reported_as, Canceling.cancel_before, Canceling.cancel_shows, Canceling.is_of_cancel, Completions.any_passes, Completions.cancels, Completions.circumstances, Completions.expires_over, Completions.expires_over_ready, Completions.has_canceled_target, Completions.is_expiry_of, Completions.is_later, Completions.is_severed, Completions.is_severing, Completions.is_short_of_end, Completions.member_of, Completions.severs_others, Conditions.Began, Conditions.condition_holds, Conditions.done_by, Conditions.has_unsynced, Conditions.is_of_step, Conditions.is_step_of, Conditions.overflows, Conflicts.begins, Conflicts.conflicts, Conflicts.done_as, Conflicts.done_at, Conflicts.file_number, Conflicts.file_numbered, Conflicts.file_of, Conflicts.file_of_descriptor, Conflicts.is_candidate, Conflicts.is_conflict, Conflicts.moved, Durability.IsRetried, Durability.IsSuspect, Durability.completed_at, Durability.completed_by, Durability.failed, Durability.fsync_at, Durability.fsync_of, Durability.good, Durability.has_byte, Durability.has_byte_of, Durability.has_ended_with, Durability.is_volatile_at, Durability.is_within, Durability.moves, Durability.written_at, Durability.written_before, Durability.written_of, Endings.Circumstances, Endings.ended_test, Endings.ending_of, Endings.is_error, Endings.is_less, Endings.is_of, Endings.is_verdict, Endings.leaves_chain, Endings.next_in, Endings.queued_test, Endings.result_in, Endings.severs, Facts.facts_before, NextSteps.next_of, NextSteps.thread_next, Noted.continues, Noted.depends_on_others, Noted.is_notable, Noted.is_severed_in, Noted.noted, Numbers.numbers_below, Timespecs.is_over_slot, Timespecs.overwrites, Timespecs.written_by, Uses.changes_at, Uses.changes_slot, Uses.is_pushed_last, Uses.is_sought, Uses.pushed_last, Verdicts.is_marked, Verdicts.judged_kind, declared.completed.Completed.Completed, declared.completed.Member.Member, declared.conditions.Before.Before, declared.conditions.Condition.Condition, declared.conditions.Condition.TheVariants.LostWakeUp, declared.conditions.Condition.TheVariants.NotReaped, declared.conditions.Condition.TheVariants.NotTaken, declared.conditions.Condition.TheVariants.Stuck, declared.conditions.Next.Next, declared.effect.Effect.Effect, declared.effect.Effect.TheVariants.Finished, declared.effect.Effect.TheVariants.Nothing, declared.uses.Sought.TheVariants.Named, declared.writes.Fsync.Fsync, declared.writes.Written.Written}
pub use Rattle.findings.specs.{Findings.EndsOver, Findings.IsFinding, Findings.IsLeft, Findings.IsLeftAt, Findings.IsReportOf, Findings.IsRetriedAt, Findings.Lasts, Findings.LastsSince, Findings.Retries, Findings.Rises, Findings.comes, Findings.condition_holds_at, Findings.ends, Findings.is_lost, Findings.occurs, Findings.occurs_at, Findings.spills, Findings.step_shows, Given.given, Records.Adds, Records.AreLeft, Records.Covers, Records.FoundBefore, Records.IsAll, Records.IsLasting, Records.IsListed, Records.OfNoRow, Records.RetriedBefore, Records.SameFindings, Records.after_note, Records.after_notes, Records.all_at_end, Records.all_left, Records.all_unsynced, Records.canceled_in, Records.cancels_at, Records.followed, Records.is_candidate_in, Records.is_row, Records.judged, Records.member_if, Records.members_at, Records.members_of, Records.noted_by, Records.of_cancel, Records.of_candidate, Records.of_change, Records.of_conflicts, Records.of_effect, Records.of_ended, Records.of_event, Records.of_group, Records.of_instruction, Records.of_left, Records.of_number, Records.of_object, Records.of_overflow, Records.of_place, Records.of_queued, Records.of_row, Records.of_step, Records.row_in, Records.severing_in, Records.severs_chain, Searching.HasSearched, Searching.NotesFacts, Searching.watch_at, Suspects.AddsRetried, Suspects.Follows, Suspects.FollowsFiles, Suspects.Judges, Suspects.SaysMarked, Suspects.has_early, Suspects.is_early, Suspects.is_fsync_of, Timespecs.of_index, Timespecs.of_timespecs, Watched.AreNext, Watched.advanced, Watched.continued, Watched.fresh, Watched.moved_by, Watched.next_after, Watched.of_kind, Watched.of_lasting, Watched.of_threads, Watched.of_watch, Watched.watched, declared.watching.Watch.Watch}
unfoldable pub use Rattle.places.specs.View.{named}
unfoldable pub use Rattle.findings.specs.Searching.{since_of}
