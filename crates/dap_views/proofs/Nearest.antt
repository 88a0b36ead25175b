-- The next event of a thread.
use Rattle.std.proofs.Common.{◌≡◌, ℕ, ◌+◌, ◌-◌, ◌≤◌, min, List, length, take, drop, ap, ◌∙◌, arith}
use Rattle.std.specs.Prelude.{Option, option_map}
use Rattle.std.specs.List.{position}
use Rattle.std.proofs.lemmas.List.{length-drop, take_all, take_min}
use Rattle.scenario.specs.declared.event.Event.{Event}
use Rattle.stops.specs.StopPoints.{is_event_of}
use Rattle.stops.specs.declared.steps.EditorThread.{EditorThread}
use Rattle.dap_views.specs.Frames.{next_event}

pub next_is : (es : List Event) (t : EditorThread) (at n : ℕ) (after : List Event) (o : Option ℕ) → after ≡ take (length es - at) (drop at es) → n ≡ min 16384 (length after) → o ≡ position (is_event_of t) (take n after) → option_map (λ i. at + i) o ≡ next_event es t at
unfolding next_event
next_is es t at n after o is long e =
    let most : length (drop at es) ≤ length es - at = omega (arith, length-drop at es) in
    let whole : after ≡ drop at es = is ∙ take_all (length es - at) (drop at es) most in
    let near : take n after ≡ take 16384 (drop at es) =
    ap (λ k. take k after) long ∙ (ap (λ l. take (min 16384 (length l)) l) whole ∙ take_min 16384 (drop at es))
    in
    ap (option_map (λ i. at + i)) (e ∙ ap (position (is_event_of t)) near)
