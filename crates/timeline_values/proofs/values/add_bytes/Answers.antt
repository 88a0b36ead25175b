use Rattle.std.proofs.Common.{◌∙◌, sym, ap, [], ◌∷◌, append-nil}
use Rattle.std.specs.Str.Lossy.{utf8_lossy}
use Rattle.scenario.specs.PlaceTexts.{place_text}
use Rattle.timeline_values.specs.declared.parts.ValuePart.{ValuePart}
use Rattle.timeline_values.proofs.Valued.{region_none, region_some}
use Rattle.timeline_values.proofs.values.add_bytes.Goals as goal

pub returns-then-is_empty : goal.returns-then-is_empty
returns-then-is_empty c =
    let bytes = c.without_zeros-bytes.result.now in
    let none = sym c.is_empty.ensures ∙ c.if-is_empty.true in
    ([], bytes, c.without_zeros-bytes.ensures.0, sym (append-nil c.args.out.now.items), c.without_zeros-bytes.ensures.1, region_none c.args.setup.now c.args.region bytes none)

pub returns : goal.returns
returns c =
    let s = c.args.setup.now in
    let bytes = c.without_zeros-bytes.result.now in
    let some = sym c.is_empty.ensures ∙ c.if-is_empty.false in
    let name = c.in_ok-name.ensures ∙ ap (λ p. utf8_lossy (place_text s p)) c.place.ensures in
    let part : ValuePart = record { 0 = c.in_ok-name.name; 1 = c.in_ok-text.text } in
    (part ∷ [], bytes, c.without_zeros-bytes.ensures.0, c.in_ok-push.ensures.items, c.without_zeros-bytes.ensures.1, region_some s c.args.region bytes part some name c.in_ok-text.ensures.text)
