-- Where a run lands, of all moments at which it stops.
use Rattle.std.proofs.Common.{◌≡◌, ℕ, ◌<◌, ◌≤◌, List, sym, ap, ◌∙◌, subst, arith}
use Rattle.std.specs.Prelude.{Option, Some, None, All, IfSome}
use Rattle.std.proofs.lemmas.List.Elements.{All-weaker}
use Rattle.stops.specs.declared.landing.Landing.{Landing}
use Rattle.stops.specs.declared.landing.Marks.{Marks}
use Rattle.stops.specs.Nearest.{least_above, greatest_below, IsLeastAbove, IsGreatestBelow}
use Rattle.stops.specs.Landings.{sooner, later, landing_at, stops_of, forward_landing, backward_landing}
use Rattle.stops.proofs.Extremes.{means_above, means_below, least_of_all, greatest_of_all}

pub none_before : (b w o : Option ℕ) (ms : List ℕ) (at end : ℕ) → IsLeastAbove ms at o → All (λ k. at < k → (landing_at b w o end).moment ≤ k) ms
none_before b w None ms at end h = All-weaker (λ k. k ≤ at) (λ k. at < k → end ≤ k) (λ k f g. absurd (omega arith)) ms h
none_before b w (Some m) ms at end h = h.2

pub none_after : (b w o : Option ℕ) (ms : List ℕ) (at end : ℕ) → IsGreatestBelow ms at o → All (λ k. k < at → k ≤ (landing_at b w o end).moment) ms
none_after b w None ms at end h = All-weaker (λ k. at ≤ k) (λ k. k < at → k ≤ end) (λ k f g. absurd (omega arith)) ms h
none_after b w (Some m) ms at end h = h.2

-- A landing forward, from what the code computes.
pub forward_lands : (marks : Marks) (w b f n : Option ℕ) (at len : ℕ) (r : Landing) → IfSome w (λ m. at < m) → b ≡ least_above marks.breakpoints at → f ≡ least_above marks.findings at → n ≡ sooner b (sooner f w) → r ≡ landing_at b w n len → (r ≡ forward_landing marks w at len) × All (λ k. at < k → r.moment ≤ k) (stops_of marks w)
unfolding forward_landing
forward_lands marks w b f n at len r h eb ef en er =
    let near : n ≡ least_above (stops_of marks w) at = en ∙ ap (λ o. sooner o (sooner f w)) eb ∙ ap (λ o. sooner (least_above marks.breakpoints at) (sooner o w)) ef ∙ least_of_all marks.breakpoints marks.findings w at h in (
      er ∙ ap (λ o. landing_at o w n len) eb ∙ ap (λ o. landing_at (least_above marks.breakpoints at) w o len) near,
      subst (λ (x : Landing). All (λ k. at < k → x.moment ≤ k) (stops_of marks w)) (sym er) (none_before b w n (stops_of marks w) at len (means_above (stops_of marks w) at n near)),
    )

-- A landing back.
pub backward_lands : (marks : Marks) (w b f n : Option ℕ) (at : ℕ) (r : Landing) → IfSome w (λ m. m < at) → b ≡ greatest_below marks.breakpoints at → f ≡ greatest_below marks.findings at → n ≡ later b (later f w) → r ≡ landing_at b w n 0 → (r ≡ backward_landing marks w at) × All (λ k. k < at → k ≤ r.moment) (stops_of marks w)
unfolding backward_landing
backward_lands marks w b f n at r h eb ef en er =
    let near : n ≡ greatest_below (stops_of marks w) at = en ∙ ap (λ o. later o (later f w)) eb ∙ ap (λ o. later (greatest_below marks.breakpoints at) (later o w)) ef ∙ greatest_of_all marks.breakpoints marks.findings w at h in (
      er ∙ ap (λ o. landing_at o w n 0) eb ∙ ap (λ o. landing_at (greatest_below marks.breakpoints at) w o 0) near,
      subst (λ (x : Landing). All (λ k. k < at → k ≤ x.moment) (stops_of marks w)) (sym er) (none_after b w n (stops_of marks w) at 0 (means_below (stops_of marks w) at n near)),
    )
