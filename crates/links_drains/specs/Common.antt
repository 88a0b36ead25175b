-- The names of other crates that the definitions of this crate use most, passed on from one place.
-- Declares nothing.
pub use Rattle.std.specs.{List.list_any, List.prefix_len, List.filter_map, List.enumerate_from, List.filter, Option.option_map_or, Option.option_and_then}
pub use Rattle.bit_sets.specs.{Sets.has, Thresholds.never, Thresholds.threshold_at}
pub use Rattle.entries.specs.declared.{entry.Sqe.Sqe, row.Phase.TheVariants.Ended, row.Phase.TheVariants.Queued, row.Phase.TheVariants.Issued, row.Row.Row}
pub use Rattle.model_files.specs.declared.held.Held.{Held}
