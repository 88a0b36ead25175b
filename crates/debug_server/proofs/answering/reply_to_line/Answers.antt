use Rattle.std.proofs.Common.{ap, sym, ◌∙◌, option_map}
use Rattle.debug_server.specs.SessionStates.{SessionState}
use Rattle.debug_server.specs.Replies.{Reply}
use Rattle.debug_server.proofs.Replying.{replied_to, quits_alone}
use Rattle.debug_server.proofs.answering.reply_to_line.Goals as goal

pub returns-clause-text : goal.returns-clause-text
returns-clause-text c =
    c.in_ok-text.ensures.text
    ∙ ap (λ (r : Reply). r.text) (replied_to c.args.visitor.now c.visitor.inside.walker c.setup.result.now c.args.line.now c.in_ok-command.command (option_map (λ es. es.now) c.args.answer) (ap (λ (v : SessionState). v.walk) c.visitor.view_is) c.setup.ensures c.in_ok-command.ensures)

pub returns-clause-next : goal.returns-clause-next
returns-clause-next c =
    c.in_ok-text.ensures.next
    ∙ ap (λ (r : Reply). r.next) (replied_to c.args.visitor.now c.visitor.inside.walker c.setup.result.now c.args.line.now c.in_ok-command.command (option_map (λ es. es.now) c.args.answer) (ap (λ (v : SessionState). v.walk) c.visitor.view_is) c.setup.ensures c.in_ok-command.ensures)

pub returns-clause-quits : goal.returns-clause-quits
returns-clause-quits c =
    c.is_quit.ensures
    ∙ sym (quits_alone c.args.visitor.now c.in_ok-command.command (option_map (λ es. es.now) c.args.answer))
    ∙ ap (λ (r : Reply). r.quits) (replied_to c.args.visitor.now c.visitor.inside.walker c.setup.result.now c.args.line.now c.in_ok-command.command (option_map (λ es. es.now) c.args.answer) (ap (λ (v : SessionState). v.walk) c.visitor.view_is) c.setup.ensures c.in_ok-command.ensures)
