use Rattle.timeline.proofs.Common.{rules, ◌≡◌, ◌∙◌, sym, ap, map, string_bytes, map-map, event_text, change_text, rows, shown_line, change_shown}
use Rattle.timeline.proofs.Stepping.{is_step}
use Rattle.timeline.proofs.steps.step_of.Goals as goal

pub returns : goal.returns
returns c =
    let listed = c.in_ok-changes.ensures in
    let lines = c.in_ok-lines.lines.items in
    let words : string_bytes c.in_ok-format.field-0 ≡ event_text c.args.at.event = search rules in
    is_step c.args.at.setup.now c.args.at.events.now c.args.at.index c.args.at.event c.args.past.now c.args.at.state.now c.in_ok-changes.changes.items (map (λ line. line.items) lines) _ c.requires listed.once listed.listing
    (c.in_ok-lines.ensures ∙ ap (λ ds. map (change_text c.args.at.setup.now) (rows ds)) c.deref.ensures.value)
    words
    (c.in_ok-shown_lines.ensures ∙ ap (map (λ line. shown_line line.items)) c.deref-4.ensures.value ∙ sym (map-map shown_line (λ line. line.items) lines))
    (c.in_ok-change_parts.ensures ∙ ap (λ ds. map (change_shown c.args.at.setup.now) (rows ds)) c.deref-3.ensures.value)
