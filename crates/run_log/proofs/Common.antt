-- What this crate's proofs name: definitions and lemmas, of this crate and of those below.
pub use Rattle.std.{proofs.Common.ap, proofs.Common.append_assoc, proofs.Common.arith, proofs.Common.inl, proofs.Common.inr, proofs.Common.rules, proofs.Common.subst, proofs.Common.sym, proofs.Common.◌∙◌, proofs.KnownBytes.Appends-kept, proofs.KnownBytes.Appends-nil, proofs.KnownBytes.Appends-trans, proofs.Math.Seq.drop-cons, proofs.lemmas.List.Elements.All-cons, proofs.lemmas.List.Elements.All-head, proofs.lemmas.List.Elements.All-nil, proofs.lemmas.List.Elements.All-tail, proofs.lemmas.List.Sorted.IsNonDecreasingBy-from_sort_by_key, proofs.lemmas.List.drop_all, proofs.lemmas.Option.slice_get_within, specs.Io.KnownBytes.Appends, specs.Io.KnownBytes.Keeps, specs.Prelude.All, specs.Prelude.Bool, specs.Prelude.Err, specs.Prelude.IfErr, specs.Prelude.IfOk, specs.Prelude.List, specs.Prelude.Ok, specs.Prelude.OnOk, specs.Prelude.Option, specs.Prelude.Result, specs.Prelude.[], specs.Prelude.cond, specs.Prelude.drop, specs.Prelude.false, specs.Prelude.flat_map, specs.Prelude.get_or, specs.Prelude.length, specs.Prelude.map, specs.Prelude.refl, specs.Prelude.suc, specs.Prelude.take, specs.Prelude.true, specs.Prelude.zero, specs.Prelude.ℕ, specs.Prelude.⊤, specs.Prelude.◌++◌, specs.Prelude.◌+◌, specs.Prelude.◌<◌, specs.Prelude.◌∷◌, specs.Prelude.◌≡◌, specs.Prelude.◌≤◌, specs.Prelude.◌⊎◌}
pub use Rattle.places.specs.{View.Exact, View.NamesOnce, View.View, declared.place.Place.Place, declared.value.Change.Change}
pub use Rattle.scenario.specs.declared.{event.Event.Event, setup.Setup.Setup}
pub use Rattle.machine.specs.{Runs.moment, Whole.view, declared.whole.Machine.Machine}
pub use Rattle.whole_files.specs.Writes.{WritesFront}
pub use Rattle.runs.specs.{Moments.IsAfter, declared.fault.ReportFault.ReportFault, declared.fault.ReportFault.TheVariants.Memory, declared.fault.ReportFault.TheVariants.Write}
pub use Rattle.run_log.specs.{Lines.change_text, Lines.event_lines, Lines.is_next, Lines.line_text, Lines.news_text, Lines.olds_text, Lines.onto, Lines.rows, Listings.IsListing, Listings.changed_to, Listings.rank, Logs.Logs, Logs.Reports, Logs.ReportsIf, Logs.Shows, Logs.Stopped, Logs.Written, Ranges.has, RowShapes.IsRow, declared.changed.Changed.Changed, declared.range.EventRange.EventRange}
