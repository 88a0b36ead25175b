-- What this crate's proofs name: definitions and lemmas, of this crate and of those below.
pub use borrow.Author.Tests.{clash}
pub use Rattle.std.{proofs.Common.ap, proofs.Common.arith, proofs.Common.inl, proofs.Common.inr, proofs.Common.subst, proofs.Common.sym, proofs.Common.◌∙◌, proofs.Math.Bool.and-false, proofs.Math.Bool.and-true, proofs.lemmas.Bool.Decides.nat_tests, proofs.lemmas.Bool.Decides.same_from_decides, proofs.lemmas.Bool.and_from, proofs.lemmas.Bool.and_left, proofs.lemmas.Bool.and_parts, proofs.lemmas.Bool.and_right, proofs.lemmas.Bool.cases_lt, proofs.lemmas.Bool.eq-eqb, proofs.lemmas.Bool.eqb-true, proofs.lemmas.Bool.false_from_ne_true, proofs.lemmas.Bool.le-ltb, proofs.lemmas.Bool.lt-ltb, proofs.lemmas.Bool.ltb-true, proofs.lemmas.Bool.ne_eqb, proofs.lemmas.Bool.or_from, proofs.lemmas.Bool.or_left, proofs.lemmas.Bool.or_right, proofs.lemmas.Grind.common_steps, proofs.lemmas.List.Folds.list_any-append, proofs.lemmas.List.length-drop, proofs.lemmas.List.length-map, proofs.lemmas.List.length-take-le, proofs.lemmas.Option.gets, proofs.lemmas.Option.none-some, proofs.lemmas.Option.same_Some, proofs.lemmas.Option.slice_get-map, proofs.lemmas.Option.slice_get_past, proofs.lemmas.Option.slice_get_within, proofs.lemmas.Slice.Eq.bytes_eq-Decides, specs.List.enumerate_from, specs.List.list_any, specs.Option.option_map_or, specs.Prelude.Bool, specs.Prelude.Contains, specs.Prelude.List, specs.Prelude.MatchBool, specs.Prelude.None, specs.Prelude.Option, specs.Prelude.Some, specs.Prelude.[], specs.Prelude.bytes_eq, specs.Prelude.drop, specs.Prelude.false, specs.Prelude.flat_map, specs.Prelude.get_or, specs.Prelude.if◌then◌else◌, specs.Prelude.length, specs.Prelude.map, specs.Prelude.nat_le, specs.Prelude.nat_lt, specs.Prelude.not, specs.Prelude.option_and_then, specs.Prelude.option_map, specs.Prelude.refl, specs.Prelude.slice_get, specs.Prelude.suc, specs.Prelude.take, specs.Prelude.true, specs.Prelude.zero, specs.Prelude.ℕ, specs.Prelude.◌&&◌, specs.Prelude.◌++◌, specs.Prelude.◌+◌, specs.Prelude.◌-◌, specs.Prelude.◌<◌, specs.Prelude.◌==◌, specs.Prelude.◌||◌, specs.Prelude.◌∷◌, specs.Prelude.◌≡◌, specs.Prelude.◌≤◌, specs.Prelude.◌⊎◌}
pub use Rattle.entries.specs.declared.row.{Phase.Phase, Phase.TheVariants.Issued, Row.Row}
pub use Rattle.bit_sets.specs.Sets.{IsNext, NoneFrom, has}
pub use Rattle.places.{proofs.ListLemmas.slice_get-take_below, proofs.ListLemmas.slice_get_none, proofs.SameValue.same_decides, specs.Sameness.is_same, specs.declared.place.Place.TheVariants.DurableByte, specs.declared.place.Place.TheVariants.DurableLength, specs.declared.place.Place.TheVariants.FileByte, specs.declared.place.Place.TheVariants.FileLength, specs.declared.value.Stage.Stage, specs.declared.value.Stage.TheVariants.Ready, specs.declared.value.Stage.TheVariants.Waiting, specs.declared.value.Value.TheVariants.Byte, specs.declared.value.Value.TheVariants.Entry}
pub use Rattle.ring_words.specs.Rings.{sub_list}
pub use Rattle.sqpoll.specs.declared.poller.Poller.{Poller}
pub use Rattle.model_files.specs.{Files.FileSized, Files.FileState, Files.content, Files.durable_content, Worlds.body_seen, Worlds.file_in, declared.body.Body.Body}
pub use Rattle.links_drains.{proofs.Chains.enumerated, proofs.RestOfUnit.numbered, proofs.Units.any_false, proofs.Units.any_true, specs.Eligible.drains, specs.Links.Chained, specs.Links.has_drain_flag, specs.Numbered.IsNextWhere, specs.Numbered.NoneWhere, specs.Numbered.any_numbered, specs.Phases.is_issued, specs.Phases.is_queued, specs.Phases.is_unfinished, specs.Units.is_open}
pub use Rattle.scenario.specs.declared.{event.Event.TheVariants.Step, event.Refusal.Refusal, event.Refusal.TheVariants.NothingToReap, event.Refusal.TheVariants.RequestsFull, event.Refusal.TheVariants.SqFull, event.Refusal.TheVariants.StillWaiting, setup.Instruction.Instruction, setup.Instruction.TheVariants.Enter, setup.Instruction.TheVariants.Push, setup.Instruction.TheVariants.Reap, setup.Setup.Setup}
pub use Rattle.machine.specs.{Steps.alone_refusal, Steps.before_submission, Steps.enter_refusal, Steps.instruction_refusal, Steps.is_busy, Steps.is_unknown, Steps.next_refusal, Steps.refusal, Steps.submission_refusal, Steps.thread_refusal, Threads.ThreadState, Threads.program_of, Whole.WellFormed, Whole.view, declared.whole.Machine.Machine}
pub use Rattle.finding_kinds.specs.{Programs.instruction_at, Values.byte_in, Values.differ}
pub use Rattle.finding_rules.specs.{AtEnd.syncs, Conditions.has_unsynced, Conditions.is_blocked, Conditions.is_held_up, Conditions.is_of_ring, Conditions.is_stuck, Conditions.is_unsynced, Conditions.waits, Conflicts.is_after_barrier, Conflicts.is_between, Durability.has_byte, Durability.is_volatile, Durability.is_volatile_at, Endings.has_twin, Endings.is_twin, NextSteps.blocks, NextSteps.is_waiting, NextSteps.next_at, NextSteps.next_of, NextSteps.thread_next, Numbers.numbers_below, Uses.is_sought, Uses.is_user, Verdicts.is_marked, declared.conditions.Next.Next, declared.uses.Usage.TheVariants.Holds, declared.uses.Usage.TheVariants.Names, declared.uses.Usage.Usage, declared.writes.Written.Written}
