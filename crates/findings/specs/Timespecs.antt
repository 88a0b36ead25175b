-- The findings about overwritten timespecs, as the search computes them.
use Rattle.std.specs.Prelude.{ℕ, List, [], flat_map}
use Rattle.findings.specs.Common.{Sqe, Machine, Finding, TimespecInUse, Effect, Nothing}
use Rattle.findings.specs.Given.{given}
use Rattle.finding_rules.specs.Uses.{pushed_last}
pub use Rattle.finding_rules.specs.Timespecs.{has_timespec_in, is_over_slot, overwrites, read_into, written_by}

-- The finding about one pushed index.
abbrev pub of_index : ℕ → List Sqe → ℕ × ℕ → ℕ → List Finding
of_index i slots range slot = given (is_over_slot slots range slot) (record { moment = i; kind = TimespecInUse; subject = slot })

-- The findings about all pushed entries.
abbrev pub of_timespecs : ℕ → Machine → Effect → List Finding
of_timespecs i m Nothing = []
of_timespecs i m effect = flat_map (of_index i m.submissions.slots (written_by effect)) (pushed_last m.submissions)
