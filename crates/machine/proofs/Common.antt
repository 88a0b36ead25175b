-- The names that the proofs of this crate cite most, passed on from one place. Declares nothing.
pub use Rattle.std.proofs.Common.{sym, ◌≡◌, ◌∙◌, ap, ℕ, arith, subst, List, refl, length, ◌+◌, [], ◌∷◌, Bool, true, false, ◌<◌, ◌++◌, ℤ, ◌≤◌, rules, take, cond, suc, ◌^◌, zero, ◌⊎◌, inl, inr, FitsSigned, map, w32, ◌-◌, pos, ◌*◌, ◌%◌, OnOk, length-append, w64, negsuc, length-set, le_refl, slice_index_or, drop, length-take, get_or, to_z}
pub use Rattle.std.{proofs.lemmas.Bool.eqb-true, proofs.lemmas.Bool.eq-eqb, proofs.lemmas.Bool.cases_eq, proofs.lemmas.Bool.ne_eqb, proofs.lemmas.Bool.cases_order, proofs.lemmas.Bool.le-leb, proofs.lemmas.Bool.lt-leb, proofs.lemmas.Grind.common_steps, proofs.lemmas.Int.to_z-of_z, proofs.lemmas.Int.to_z_pos, proofs.lemmas.List.take_more, proofs.lemmas.List.length-take-le, proofs.lemmas.List.length-map, proofs.lemmas.List.length-replicate, proofs.lemmas.List.map-append, proofs.lemmas.List.append-nil, proofs.lemmas.List.length-drop, proofs.lemmas.List.Elements.filter_map-append, proofs.lemmas.Option.slice_get_read, proofs.lemmas.Option.slice_get_within, proofs.lemmas.Option.get_or_from_slice_get, proofs.lemmas.Option.slice_get-map, proofs.lemmas.Option.gets, proofs.lemmas.Option.slice_get_cases, proofs.lemmas.Option.slice_get-get_or, specs.List.enumerate_from, specs.List.filter, specs.List.list_all, specs.List.find, specs.Option.option_map_or, specs.Option.option_and_then, specs.Prelude.Some, specs.Prelude.slice_get, specs.Prelude.Option, specs.Prelude.None, specs.Prelude.if◌then◌else◌, specs.Prelude.◌&&◌, specs.Prelude.option_map, specs.Prelude.is_some, specs.Prelude.◌==◌, specs.Prelude.not, specs.Prelude.slice_set, specs.Prelude.min, specs.Prelude.unwrap_or, specs.Prelude.nat_lt, specs.Prelude.IsSome, specs.Prelude.is_none, specs.Prelude.◌||◌, specs.Prelude.nat_le, specs.Prelude.Result, specs.Prelude.Ok, specs.Prelude.Err, specs.Prelude.IfOk, specs.Result.result_err}
pub use Rattle.entries.specs.declared.{choice.Choice.Choice, completion.Cqe.Cqe, entry.Sqe.Sqe, row.Phase.Phase, row.Phase.TheVariants.Issued, row.Phase.TheVariants.Queued, row.Phase.TheVariants.Ended, row.Row.Row}
pub use Rattle.links_drains.{proofs.Chains.became, proofs.Chains.chained-updated, proofs.Chains.get-appended, proofs.Chains.chained-none, proofs.Chains.Became, proofs.Chains.get-batch, proofs.Chains.chained-batch, proofs.Chains.enumerated, proofs.Counting.ended-le-length, proofs.Counting.counted-le-length, proofs.Counting.matching-more, proofs.Counting.counted-unfinished, proofs.Counting.ended-unfinished, proofs.Counting.counted-append, proofs.Counting.ended-append, proofs.Counting.counted-ended, proofs.Counting.ended-ended, proofs.EndingRows.mapped_at, proofs.EndingRows.none_ended, proofs.EndingRows.first_ended, proofs.Remaining.stay_append, proofs.Remaining.was_fixed, proofs.Remaining.as_many, proofs.Remaining.stay_cut, proofs.RowsKept.get-updated, specs.Batches.rows_of, specs.Batches.direct_of, specs.Batches.previous_in, specs.Batches.error_at, specs.Batches.error_of, specs.Batches.taken_of, specs.Batches.chain_of, specs.Batches.row_of, specs.Batches.shown_on, specs.Batches.halts, specs.Eligible.GuardsFollow, specs.Eligible.is_eligible, specs.Endings.Direct, specs.Endings.result_in, specs.Endings.Ending, specs.Endings.ecanceled, specs.Endings.ended_by, specs.Endings.endings, specs.Endings.given, specs.Endings.or_else, specs.Holding.is_held_by, specs.Links.is_guard, specs.Links.is_linked, specs.Links.Chained, specs.Numbered.map_numbered, specs.Phases.is_ended, specs.Phases.is_unfinished, specs.Phases.ended_of, specs.Phases.is_issued, specs.Phases.counts, specs.Phases.counted_of, specs.Phases.is_queued, specs.Rows.fixed_of, specs.Rows.Stay, specs.Rows.table_owns, specs.Rows.table_seen}
pub use Rattle.machine.specs.{Cancels.verdict_of, Cancels.ending_with, Cancels.Verdict, Cancels.on_found, Cancels.canceled, Cancels.key_of, Cancels.takes_all, Cancels.on_all, Plans.CanDo, Plans.IsOpen, Plans.planned, Plans.Plans, Runs.run, Runs.Accepts, Runs.Link, Runs.Linked, Runs.first_poller, Runs.start, Runs.completion_entries, Steps.taken, Steps.after, Steps.entries_for, Steps.is_guard_of, Steps.started, Steps.all_ended, Steps.refusal, Steps.answered, Steps.submitted, Steps.flushed, Steps.cancelled, Steps.lacks_descriptor, Steps.all_started, Steps.completions_of, Steps.submission_refusal, Steps.waiting_target, Steps.entered, Steps.entered_without_poller, Steps.before_submission, Steps.is_busy, Steps.posted, Steps.finished, Steps.finished_as, Steps.completion_of, Steps.choice_refusal, Steps.delivery, Steps.issued, Steps.started_with, Steps.deadline_of, Steps.full_refusal, Steps.instruction_refusal, Steps.next_refusal, Steps.outcome_refusal, Steps.ready_count, Steps.thread_refusal, Steps.alone_refusal, Steps.words_for, Steps.is_usable, Steps.issue_refusal, Steps.held_by, Steps.base_of, Steps.expire_refusal, Steps.next_of, Steps.executed, Steps.with_delivery, Steps.resumed, Steps.stepped, Steps.entered_with_poller, Steps.submitting, Steps.is_unknown, Steps.gets_events, Steps.woken, Steps.shown, Steps.awaited, Steps.with_poller, Steps.closed, Steps.is_open, Steps.expired, Steps.expiring, Steps.wakes, Steps.held_back, Steps.enter_refusal, Steps.phase_refusal, Steps.finish_refusal, Steps.advanced, Submission.offered, Submission.entries_at, Submission.einval, Submission.ebusy, Submission.up_to_entry, Submission.taken_entries, Submission.ebadf, Submission.etime, Submission.taken_words, Submission.offered_entries, Threads.ThreadState, Threads.thread_start, Threads.program_of, Threads.threads_seen, Threads.threads_owns, Whole.WellFormed, Whole.view, Whole.AllGuardsLinked, Whole.everywhere, Whole.RowFormed, Whole.Mostly, Whole.GuardIsLinked, Whole.is_asleep, Whole.flag_word, Whole.ThreadWellFormed, Whole.NoneMet, Whole.Grows, Whole.IsTime, Whole.GoesBack, declared.planning.Plan.TheVariants.Complete, declared.planning.Plan.TheVariants.Return, declared.whole.Machine.Machine}
pub use Rattle.model_files.{proofs.Forming.world_start_formed, proofs.Forming.world_stored_formed, proofs.Forming.world_closed_formed, proofs.Restoring.descriptor_alike, proofs.Restoring.world_seen_can_put, proofs.Restoring.world_absent_same, proofs.Restoring.same_world, specs.Worlds.WorldState, specs.Worlds.PutsWithin, specs.Worlds.OneSetup, specs.Worlds.world_seen, specs.Worlds.world_owns, specs.Worlds.descriptor_of, specs.Worlds.world_closed, specs.Worlds.ContentsFit, specs.Worlds.body_start, specs.Worlds.pipe_in, specs.Worlds.world_start, specs.Worlds.WorldFormed, specs.Worlds.descriptor_at, specs.Worlds.world_stored}
pub use Rattle.opcodes.{proofs.Counting.puts_more, proofs.Counting.puts_after, proofs.Staying.stays_after, specs.Check.check_of, specs.Check.op_of, specs.Check.time_of, specs.Check.can_guard, specs.Effects.Decides, specs.Effects.Does, specs.Effects.world_after, specs.Opcodes.is_cancel, specs.Opcodes.is_timer, specs.Opcodes.uses_descriptor, specs.Outcomes.outcome_of, specs.Outcomes.is_running, specs.declared.effect.Effect.Effect, specs.declared.ending.Outcome.Outcome, specs.declared.ending.Outcome.TheVariants.Res, specs.declared.ending.Outcome.TheVariants.Waits, specs.declared.ending.Outcome.TheVariants.BadChoice}
pub use Rattle.overflow.specs.Backlogs.{is_clear, Delivery, all_posted, BacklogState, backlog_seen, backlog_owns, BacklogFormed}
pub use Rattle.places.{proofs.Closing.exact_led, proofs.Keeping.keeps_noted, proofs.Keeping.keeps_then, proofs.ListLemmas.map_same, proofs.ListLemmas.updated_set, proofs.ListLemmas.length-updated, proofs.ListLemmas.same_list, proofs.ListLemmas.field_set, proofs.ListLemmas.field_same, proofs.ListLemmas.slice_get-take_below, proofs.SamePlace.same_place_is, proofs.SamePlace.same_place_self, proofs.Undoing.once_back, proofs.Undoing.named_front, proofs.Undoing.named_back, proofs.Undoing.undo-append, proofs.Undoing.once_front, specs.Lists.updated, specs.View.undo, specs.View.put_at, specs.View.Keeps, specs.View.LeadsBack, specs.View.Noted, specs.View.NamesOnce, specs.View.View, specs.View.undo_all, specs.View.Exact, specs.declared.place.Place.Place, specs.declared.place.Place.TheVariants.ThreadStage, specs.declared.place.Place.TheVariants.Last, specs.declared.place.Place.TheVariants.Got, specs.declared.place.Place.TheVariants.Request, specs.declared.place.Place.TheVariants.ProgramCounter, specs.declared.place.Place.TheVariants.Backlog, specs.declared.place.Place.TheVariants.Clock, specs.declared.place.Place.TheVariants.Counted, specs.declared.place.Place.TheVariants.SubmissionHead, specs.declared.place.Place.TheVariants.SubmissionTail, specs.declared.place.Place.TheVariants.SubmissionFlags, specs.declared.place.Place.TheVariants.SubmissionDropped, specs.declared.place.Place.TheVariants.Array, specs.declared.place.Place.TheVariants.Slot, specs.declared.place.Place.TheVariants.MemoryByte, specs.declared.place.Place.TheVariants.FileByte, specs.declared.place.Place.TheVariants.DurableByte, specs.declared.place.Place.TheVariants.FileLength, specs.declared.place.Place.TheVariants.DurableLength, specs.declared.place.Place.TheVariants.Position, specs.declared.place.Place.TheVariants.OpenMark, specs.declared.place.Place.TheVariants.PipeByte, specs.declared.place.Place.TheVariants.PutCount, specs.declared.place.Place.TheVariants.TakenCount, specs.declared.place.Place.TheVariants.EventCount, specs.declared.place.Place.TheVariants.BacklogFront, specs.declared.place.Place.TheVariants.PollerStage, specs.declared.value.Change.Change, specs.declared.value.Stage.Stage, specs.declared.value.Stage.TheVariants.Ready, specs.declared.value.Stage.TheVariants.Waiting, specs.declared.value.Value.Value, specs.declared.value.Value.TheVariants.Number, specs.declared.value.Value.TheVariants.Signed, specs.declared.value.Value.TheVariants.Staged, specs.declared.value.Value.TheVariants.Reaped, specs.declared.value.Value.TheVariants.Requested, specs.declared.value.Value.TheVariants.Byte, specs.declared.value.Value.TheVariants.Entry, specs.declared.value.Value.TheVariants.Awake, specs.declared.value.Value.TheVariants.Completed}
pub use Rattle.ring_words.{proofs.Laws.formed_sub_start, proofs.Laws.formed_com_start, proofs.Laws.formed_pushed, proofs.Laws.formed_entry, proofs.Laws.formed_flag, proofs.Laws.formed_taken, proofs.Laws.sub_length, proofs.Order.waiting_none, proofs.Order.waiting_more, proofs.Order.waiting_after, specs.Rings.SubWords, specs.Rings.waiting, specs.Rings.sub_seen, specs.Rings.rounded, specs.Rings.zero_entry, specs.Rings.sub_owns, specs.Rings.with_flag, specs.Rings.com_seen, specs.Rings.SubFormed}
pub use Rattle.scenario.specs.{Programs.HasWidths, Programs.IsDone, Programs.HaveWidths, Programs.IsProgram, Setups.setup_refusal, Setups.has_ring_sizes, Setups.is_between, Setups.is_completion_size, Setups.has_programs, Setups.is_program, Setups.is_instruction, Setups.has_memory, Setups.has_objects, Setups.has_descriptors, declared.event.Event.Event, declared.event.Event.TheVariants.Finish, declared.event.Event.TheVariants.Take, declared.event.Event.TheVariants.Step, declared.event.Event.TheVariants.Sleep, declared.event.Event.TheVariants.Issue, declared.event.Event.TheVariants.Expire, declared.event.Event.TheVariants.Tick, declared.event.Refusal.Refusal, declared.setup.Instruction.Instruction, declared.setup.Instruction.TheVariants.Enter, declared.setup.Instruction.TheVariants.Put, declared.setup.Instruction.TheVariants.Push, declared.setup.Instruction.TheVariants.Store, declared.setup.Instruction.TheVariants.Reap, declared.setup.Instruction.TheVariants.Close}
pub use Rattle.sqpoll.specs.declared.poller.Poller.{Poller}
pub use Rattle.timeouts_cancel.{proofs.Whole.whole, proofs.Whole.counted_cascade, proofs.Whole.unlisted, proofs.Whole.cascade_unfinished, proofs.Whole.cascade_rising, proofs.Whole.target_stays, specs.Cascades.fall_of, specs.Cascades.counted_in, specs.Cascades.GuardsAreLinked, specs.Cascades.guards_listed, specs.Cascades.is_met, specs.Cascades.with_guards, specs.Cascades.with_met, specs.Cascades.with_severed, specs.Cascades.GuardsFormed, specs.Matches.fits_key, specs.Matches.is_match, specs.Matches.matches_of, specs.Matches.found_by, specs.Matches.found_first, specs.Matches.is_waiting_match, specs.Matches.waiting_by}
unfoldable pub use Rattle.machine.specs.Steps.{cascaded}
unfoldable pub use Rattle.places.{specs.Places.same_place, specs.View.named}
unfoldable pub use Rattle.ring_words.specs.Rings.{sub_list}
