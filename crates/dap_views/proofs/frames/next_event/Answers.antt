use Rattle.std.proofs.Common.{◌≡◌, ◌∙◌, ◌+◌, ◌-◌, ap, sym, refl, min, length, take, drop, rules}
use Rattle.std.specs.Prelude.{option_map}
use Rattle.dap_views.proofs.Nearest.{next_is}
use Rattle.dap_views.proofs.frames.next_event.Goals as goal

pub returns-in-Some-clause-value : goal.returns-in-Some-clause-value
returns-in-Some-clause-value c =
    let es = c.args.events.now in
    let at = c.args.at in
    let after = take (length es - at) (drop at es) in
    let long : c.min.result ≡ min 16384 (length after) = search rules in
    ap (option_map (λ i. at + i)) (sym c.in-Some.is) ∙ next_is es c.args.thread at c.min.result after c.first_event.result refl long c.first_event.ensures.value

pub returns-in-None-clause-value : goal.returns-in-None-clause-value
returns-in-None-clause-value c =
    let es = c.args.events.now in
    let at = c.args.at in
    let after = take (length es - at) (drop at es) in
    let long : c.min.result ≡ min 16384 (length after) = search rules in
    ap (option_map (λ i. at + i)) (sym c.in-None.is) ∙ next_is es c.args.thread at c.min.result after c.first_event.result refl long c.first_event.ensures.value
