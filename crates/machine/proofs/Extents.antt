-- Above the lengths of a machine's lists its places are absent.
use Rattle.machine.proofs.Common.{ℕ, ◌≤◌, length, ap, arith, option_map, Number, Entry, Requested, Completed, WellFormed, Machine, view}
use Rattle.std.proofs.lemmas.Option.{slice_get_past}
use Rattle.machine.proofs.EnterLemmas.{backlog_most}
use Rattle.machine.specs.Extents.{IsNumberedBelow}

-- The backlog needs no bound of its own: no more completions overflowed than there are requests.
pub numbered_below : (m : Machine) (n : ℕ) → WellFormed m → length m.table ≤ n → length m.submissions.array ≤ n → length m.completions.slots ≤ n → IsNumberedBelow (view m) n
numbered_below m n formed rows words completions =
    let few = backlog_most m formed in
    let alike = formed.mostly.rings.submissions.slots in
    record {
      requests = λ i h. ap (option_map Requested) (slice_get_past m.table i (omega arith));
      backlog = λ i h. ap (option_map Completed) (slice_get_past m.backlog.items i (omega arith));
      words = λ i h. ap (option_map Number) (slice_get_past m.submissions.array i (omega arith));
      entries = λ i h. ap (option_map Entry) (slice_get_past m.submissions.slots i (omega arith));
      completions = λ i h. ap (option_map Completed) (slice_get_past m.completions.slots i (omega arith));
    }
