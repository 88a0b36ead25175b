-- The changes of the event before the position.
use Rattle.std.proofs.Common.{◌≡◌, ℕ, ◌+◌, ◌-◌, ◌<◌, List, subst, arith}
use Rattle.places.specs.View.{Exact}
use Rattle.places.specs.declared.value.Change.{Change}
use Rattle.machine.specs.Runs.{moment}
use Rattle.machine.specs.Whole.{view}
use Rattle.inverse_log.specs.Walks.{Walk, here}
use Rattle.run_log.specs.Listings.{IsListing}
use Rattle.run_log.specs.declared.changed.Changed.{Changed}
use Rattle.dap_lists.specs.Listed.{ListsChanges}

pub lists_changes : (w : Walk) (at : ℕ) (past : List Change) (ds : List Changed) → 0 < at → at ≡ w.at → Exact (view (moment w.setup w.events (at - 1))) (view (moment w.setup w.events (at - 1 + 1))) past → IsListing (view (here w)) past ds → ListsChanges w ds
lists_changes w at past ds some e exact list =
    let now : at - 1 + 1 ≡ w.at = omega arith in
    let before : at - 1 ≡ w.at - 1 = omega arith in
    let after = subst (λ k. Exact (view (moment w.setup w.events (at - 1))) (view (moment w.setup w.events k)) past) now exact in
    record {
      none = λ h. absurd (omega arith);
      all = λ h. (past, subst (λ k. Exact (view (moment w.setup w.events k)) (view (here w)) past) before after, list);
    }
