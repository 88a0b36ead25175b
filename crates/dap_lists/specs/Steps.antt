-- Where a step of a thread leads: "Next Request" and "StepBack Request" of the Debug Adapter Protocol's
-- specification.
use Rattle.std.specs.Prelude.{ℕ}
use Rattle.inverse_log.specs.Walks.{Walk}
use Rattle.stops.specs.StopPoints.{next_stop, previous_stop}
use Rattle.stops.specs.declared.steps.EditorThread.{EditorThread}
use Rattle.stops.specs.declared.steps.EditorThread.TheVariants.{Run}
use Rattle.dap_messages.specs.declared.request.Granularity.{Granularity}
use Rattle.dap_messages.specs.declared.request.Granularity.TheVariants as granularity

-- The thread whose stop points a step uses. A step by instructions is one of the whole run.
abbrev pub stepping : EditorThread → Granularity → EditorThread
stepping t granularity.Instruction = Run
stepping t _ = t

-- The moment to which a step goes, forward and back.
abbrev pub moment_ahead : Walk → EditorThread → Granularity → ℕ
moment_ahead w t g = next_stop w.events (stepping t g) w.at

abbrev pub moment_back : Walk → EditorThread → Granularity → ℕ
moment_back w t g = previous_stop w.events (stepping t g) w.at
