use Rattle.std.proofs.Common.{◌∙◌}
use Rattle.std.proofs.lemmas.Result.{on_ok_weaker}
use Rattle.machine.specs.Whole.{view}
use Rattle.timeline_values.proofs.Valued.{bytes_at, region_shown}
use Rattle.timeline_values.proofs.values.add_region.Goals as goal

pub returns-in-Some : goal.returns-in-Some
returns-in-Some c =
    let v = view c.args.state.now in
    let g = c.args.region in
    let n = c.args.count in
    let same = c.first_bytes.ensures ∙ bytes_at v g c.in-Some.bytes.now n c.in-Some.ensures in
    on_ok_weaker c.add_bytes.result (λ w. (w.0, w.3, region_shown c.args.setup.now v n g _ w.1 w.2 w.0 same w.4 w.5)) c.add_bytes.ensures

pub returns : goal.returns
returns c =
    let v = view c.args.state.now in
    let same = c.as_slice.ensures.value ∙ c.in_ok-bytes.ensures in
    on_ok_weaker c.add_bytes-2.result (λ w. (w.0, w.3, region_shown c.args.setup.now v c.args.count c.args.region _ w.1 w.2 w.0 same w.4 w.5)) c.add_bytes-2.ensures
