-- The names that the proofs of this crate cite most, passed on from one place. Declares nothing.
pub use Rattle.std.proofs.Common.{arith, ◌≡◌, length, ◌<◌, refl, ◌∙◌, ◌%◌, ℕ, sym, ◌^◌, List, zero, suc, Bool, ap, ◌+◌, ◌≤◌, true, false, [], ◌∷◌, ◌⊎◌, inl, inr, ◌*◌, cond, subst, ◌-◌, ◌++◌, length-set, slice_index_or, ◌/◌, nat_lt, pow_mono, ◌≢◌, drop, get_or, rules, replicate}
pub use Rattle.std.{proofs.Math.Nat.mod-mod_of_dvd, proofs.Math.Nat.pow-succ', proofs.Math.Nat.add-mod, proofs.Math.Nat.mod-eq_of_lt, proofs.Math.Nat.mod-eq-sub-mod, proofs.lemmas.Bool.ltb-true, proofs.lemmas.Bool.ltb-false, proofs.lemmas.Bool.eqb-true, proofs.lemmas.Bool.Decides.leb_tells, proofs.lemmas.List.length-replicate, proofs.lemmas.Nat.mod_below, proofs.lemmas.Nat.pow_pos, proofs.lemmas.Nat.or_lt, proofs.lemmas.Nat.and_le_l, proofs.lemmas.Nat.and_or_apart, proofs.lemmas.Nat.and_assoc, proofs.lemmas.Nat.and_comm, proofs.lemmas.Nat.and_mask, proofs.lemmas.Option.slice_get_read, proofs.lemmas.Option.slice_get_within, proofs.lemmas.Option.slice_get_past, proofs.lemmas.Option.slice_get_cases, proofs.lemmas.Option.slice_get-get_or, specs.Int.◌∣◌, specs.Int.IsNextPowerOfTwo, specs.Int.bit_at, specs.Prelude.Some, specs.Prelude.slice_get, specs.Prelude.slice_set, specs.Prelude.None, specs.Prelude.◌==◌, specs.Prelude.Option, specs.Prelude.option_map, specs.Prelude.not, specs.Prelude.option_to_list}
pub use Rattle.entries.specs.declared.{completion.Cqe.Cqe, entry.Sqe.Sqe}
pub use Rattle.places.{proofs.Keeping.keeps_noted, proofs.Keeping.keeps_then, proofs.ListLemmas.slice_get-set, proofs.ListLemmas.field_set, proofs.ListLemmas.same_list, proofs.ListLemmas.slice_get_none, proofs.ListLemmas.slice_get-set_same, specs.declared.place.Place.Place, specs.declared.place.Place.TheVariants.SubmissionHead, specs.declared.place.Place.TheVariants.SubmissionTail, specs.declared.place.Place.TheVariants.SubmissionFlags, specs.declared.place.Place.TheVariants.SubmissionDropped, specs.declared.place.Place.TheVariants.CompletionHead, specs.declared.place.Place.TheVariants.CompletionTail, specs.declared.place.Place.TheVariants.Array, specs.declared.place.Place.TheVariants.Slot, specs.declared.place.Place.TheVariants.Completion, specs.declared.value.Value.TheVariants.Number, specs.declared.value.Value.TheVariants.Entry, specs.declared.value.Value.TheVariants.Completed}
pub use Rattle.ring_words.specs.{Rings.waiting, Rings.SubWords, Rings.ComWords, Rings.sub_seen, Rings.com_seen, Rings.SubFormed, Rings.ComFormed, Rings.IsSize, Rings.with_flag, Rings.sub_can_put, Rings.com_can_put, Rings.bit_of, Rings.has_flag, Rings.items_from, Rings.sizes, Rings.first_not_below, Rings.sub_start, Rings.com_start, Rings.zero_entry, Rings.zero_completion, declared.flag.RingFlag.RingFlag}
unfoldable pub use Rattle.ring_words.specs.Rings.{rounded, sub_list, com_list}
