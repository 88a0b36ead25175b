-- The names that the proofs of this crate cite most, passed on from one place. Declares nothing.
pub use Rattle.std.proofs.Common.{◌≡◌, length, arith, ◌++◌, ◌+◌, ◌≤◌, sym, ℕ, [], take, refl, ◌∷◌, ◌<◌, List, append_assoc, min, ◌∙◌, ap, true, length-append, subst, drop, length-drop, drop-drop, ◌⊎◌, inl, inr, get_or, length-set, ◌%◌, rules}
pub use Rattle.std.{proofs.lemmas.Grind.common_steps, proofs.lemmas.List.length-take-le, proofs.lemmas.List.append-nil, proofs.lemmas.List.take-append-drop, proofs.lemmas.List.drop-append-le, proofs.lemmas.Option.gets, proofs.lemmas.Option.slice_get_past, proofs.lemmas.Option.slice_get_cases, specs.Prelude.Some, specs.Prelude.None, specs.Prelude.not, specs.Prelude.slice_get, specs.Prelude.slice_set, specs.Prelude.◌==◌, specs.Prelude.option_map}
pub use Rattle.entries.specs.declared.completion.Cqe.{Cqe}
pub use Rattle.overflow.specs.Backlogs.{BacklogState, backlog_seen, kept, is_clear, Delivery, DeliveryFormed, backlog_with, all_posted, flushed, delivery_of, BacklogFormed, backlog_can_put, free_slots, fits, backlog_flushed, backlog_owns, posted_one, posted_in_order}
pub use Rattle.places.{proofs.Keeping.keeps_then, proofs.Keeping.keeps_noted, proofs.Keeping.noted_keeps, proofs.ListLemmas.slice_get-set, proofs.ListLemmas.slice_get-push, proofs.ListLemmas.slice_get-take, proofs.ListLemmas.same_list, specs.Notes.Notes, specs.View.named, specs.View.Keeps, specs.View.put_at, specs.View.Noted, specs.declared.place.Place.Place, specs.declared.place.Place.TheVariants.Backlog, specs.declared.place.Place.TheVariants.BacklogFront, specs.declared.value.Value.TheVariants.Completed, specs.declared.value.Value.TheVariants.Number}
pub use Rattle.ring_words.{proofs.Laws.com_length, proofs.Laws.com_posted, proofs.Laws.formed_posted, specs.Rings.waiting, specs.Rings.com_list, specs.Rings.has_flag, specs.Rings.ComWords, specs.Rings.ComFormed, specs.Rings.com_owns, specs.Rings.com_seen, specs.declared.flag.RingFlag.TheVariants.CqOverflow}
