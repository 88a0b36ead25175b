-- The definitions for a walker: its position in a run, and how it jumps.
use Rattle.std.specs.Prelude.{ℕ, ◌+◌, ◌-◌, ◌^◌, ◌&&◌, min, nat_le, if◌then◌else◌, List, [], ◌++◌}
use Rattle.machine.specs.declared.whole.Machine.{Machine}
use Rattle.scenario.specs.declared.setup.Setup.{Setup}
use Rattle.scenario.specs.declared.event.Event.{Event}
use Rattle.machine.specs.Runs.{start, run, moment}
use Rattle.checkpoints.specs.Checkpoints.{nearest}
use Rattle.inverse_log.specs.declared.trail.Tally.{Tally}
use Rattle.inverse_log.specs.Tracks.{tallied}

-- A walker as contracts see it. `at` is the position and `walked` counts the steps of
-- jumps. Checkpoints are at the multiples of `every`, and a jump undoes at most
-- `window` events one by one.
pub record Walk : Type 0 where
  pub setup : Setup
  pub events : List Event
  pub at : ℕ
  pub walked : ℕ
  pub every : ℕ
  pub window : ℕ

-- The machine at the position.
abbrev pub here : Walk → Machine
here w = moment w.setup w.events w.at

-- The machine after the last event.
abbrev pub ending : Walk → Machine
ending w = run (start w.setup) w.events

-- A walk at the start of a run without events.
abbrev pub fresh_with : Setup → ℕ → ℕ → Walk
fresh_with setup every window =
    record { setup = setup; events = []; at = 0; walked = 0; every = every; window = window }

-- The same with the default distances: a checkpoint each 1,024 events, and a window of 256.
abbrev pub fresh : Setup → Walk
fresh setup = fresh_with setup 1024 256

-- How many single steps a jump to moment m makes. It goes back by undoing if m is at most the
-- window back. It goes forward from the position if no checkpoint is between, else from the nearest
-- checkpoint at or before m.
abbrev pub steps_to : Walk → ℕ → ℕ
steps_to w m =
    if nat_le m w.at && nat_le w.at (m + w.window) then w.at - m
    else if nat_le (nearest w.every m) w.at && nat_le w.at m then m - w.at
    else m - nearest w.every m

-- The walk at moment m, without counting steps.
abbrev pub moved : Walk → ℕ → Walk
moved w m = record w { at = m }

-- The walk at moment m after a jump, with its steps counted.
abbrev pub jumped : Walk → ℕ → Walk
jumped w m = record w { at = m; walked = min (w.walked + steps_to w m) (2 ^ 64 - 1) }

-- The walk at moment m after a jump: `jumped` if its steps are counted, else `moved`.
abbrev pub gone : Tally → Walk → ℕ → Walk
gone c w m = record w { at = m; walked = tallied c w.walked (steps_to w m) }

-- The walk with the events `es` appended, at the same position.
abbrev pub extended : Walk → List Event → Walk
extended w es = record w { events = w.events ++ es }
