-- The definitions of the rules, which this crate's contracts and callers name here.
pub use Rattle.finding_rules.specs.{AtEnd.fault_if, AtEnd.has_fsync, AtEnd.is_left, AtEnd.reported_as, AtEnd.syncs, Canceling.cancel_before, Canceling.cancel_in, Canceling.cancel_shows, Canceling.is_of_cancel, Canceling.matches_some, Completions.any_passes, Completions.cancels, Completions.circumstances, Completions.could_finish, Completions.ends_before, Completions.expires_over, Completions.expires_over_ready, Completions.has_canceled_target, Completions.has_ready_target, Completions.is_expiry_of, Completions.is_later, Completions.is_severed, Completions.is_severing, Completions.is_short_of_end, Completions.limits, Completions.member_of, Completions.severs_others, Completions.was_canceled, Conditions.Began, Conditions.answer_of, Conditions.condition_holds, Conditions.counter_of, Conditions.done_by, Conditions.has_closed, Conditions.has_completions, Conditions.has_descriptor, Conditions.has_entries, Conditions.has_unsynced, Conditions.is_blocked, Conditions.is_held_up, Conditions.is_idle, Conditions.is_of_ring, Conditions.is_of_step, Conditions.is_ready, Conditions.is_step_of, Conditions.is_stuck, Conditions.is_unsynced, Conditions.needs_wake_up, Conditions.overflows, Conditions.waits, Conflicts.are_one, Conflicts.begins, Conflicts.clashes, Conflicts.conflicts, Conflicts.done_as, Conflicts.done_at, Conflicts.effect_of, Conflicts.file_number, Conflicts.file_numbered, Conflicts.file_of, Conflicts.file_of_descriptor, Conflicts.finish_of, Conflicts.finished_in, Conflicts.is_after_barrier, Conflicts.is_between, Conflicts.is_by_position, Conflicts.is_candidate, Conflicts.is_conflict, Conflicts.is_good, Conflicts.is_in_buffer, Conflicts.is_one_write, Conflicts.is_ordered_after, Conflicts.is_over, Conflicts.is_placed, Conflicts.is_same_file, Conflicts.is_stored_over, Conflicts.is_synced_early, Conflicts.meet, Conflicts.moved, Conflicts.number_or_zero, Conflicts.position_at, Conflicts.would_conflict, Durability.IsRetried, Durability.IsSuspect, Durability.completed_at, Durability.completed_by, Durability.failed, Durability.fsync_at, Durability.fsync_in, Durability.fsync_of, Durability.good, Durability.has_byte, Durability.has_byte_of, Durability.has_ended_with, Durability.is_volatile, Durability.is_volatile_at, Durability.is_within, Durability.moves, Durability.written_at, Durability.written_before, Durability.written_in, Durability.written_of, Endings.Circumstances, Endings.comes_as, Endings.ended_test, Endings.ending_of, Endings.had_ended, Endings.has_idle_field, Endings.has_next, Endings.has_twin, Endings.is_error, Endings.is_less, Endings.is_of, Endings.is_reported_apart, Endings.is_twin, Endings.is_verdict, Endings.leaves_chain, Endings.next_in, Endings.queued_test, Endings.result_in, Endings.severs, Endings.was_issued, Uses.changes_at, Uses.changes_slot, Uses.is_held, Uses.is_named, Uses.is_pushed, Uses.is_pushed_last, Uses.is_sought, Uses.is_user, Uses.names_descriptor, Uses.pushed_last}
