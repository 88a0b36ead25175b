-- Where a run stops, and why.
use Rattle.std.specs.Prelude.{ℕ, ◌==◌, ◌++◌, List, min, max, Bool, false, if◌then◌else◌, Option, Some, None}
use Rattle.std.specs.Option.{option_map_or, option_to_list}
use Rattle.stops.specs.declared.landing.Cause.{Cause}
use Rattle.stops.specs.declared.landing.Cause.TheVariants.{Breakpoint, DataBreakpoint, Finding, End}
use Rattle.stops.specs.declared.landing.Landing.{Landing}
use Rattle.stops.specs.declared.landing.Marks.{Marks}
use Rattle.stops.specs.Nearest.{least_above, greatest_below}

-- All moments at which a run stops.
abbrev pub stops_of : Marks → Option ℕ → List ℕ
stops_of marks watched = marks.breakpoints ++ (marks.findings ++ option_to_list watched)

abbrev pub sooner : Option ℕ → Option ℕ → Option ℕ
sooner (Some a) (Some b) = Some (min a b)
sooner None b = b
sooner a None = a

abbrev pub later : Option ℕ → Option ℕ → Option ℕ
later (Some a) (Some b) = Some (max a b)
later None b = b
later a None = a

abbrev pub is_at : Option ℕ → ℕ → Bool
is_at o m = option_map_or (λ k. k == m) o false

-- Why a run stops at a moment. Of several causes the first counts.
abbrev pub cause_of : Option ℕ → Option ℕ → ℕ → Cause
cause_of breakpoint watched m =
    if is_at breakpoint m then Breakpoint else if is_at watched m then DataBreakpoint else Finding

-- The landing at the nearest moment, or else at an end of the run.
abbrev pub landing_at : Option ℕ → Option ℕ → Option ℕ → ℕ → Landing
landing_at breakpoint watched None end = record { moment = end; cause = End }
landing_at breakpoint watched (Some m) end =
    record { moment = m; cause = cause_of breakpoint watched m }

-- Where a run forward over `len` events stops.
unfoldable pub forward_landing : Marks → Option ℕ → ℕ → ℕ → Landing
forward_landing marks watched at len =
    landing_at (least_above marks.breakpoints at) watched (least_above (stops_of marks watched) at) len

-- Where a run back stops.
unfoldable pub backward_landing : Marks → Option ℕ → ℕ → Landing
backward_landing marks watched at =
    landing_at (greatest_below marks.breakpoints at) watched (greatest_below (stops_of marks watched) at) 0
