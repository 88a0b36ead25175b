use Rattle.std.proofs.Common.{length, arith, sym, ap, ◌∙◌, Err}
use Rattle.std.proofs.lemmas.Result.{IfOk-weaker}
use Rattle.debug_server.specs.SessionStates.{SessionState}
use Rattle.debug_server.specs.Replies.{takes_over}
use Rattle.debug_server.proofs.Torn.{torn_length, taken, taken_next, left, left_text, left_next}
use Rattle.debug_server.proofs.syncing.take_over.Goals as goal

pub rest_of-requires : goal.rest_of-requires
rest_of-requires c =
    let n = torn_length 0 c.args.visitor.now.walk.events c.args.source.now c.requires.begins in
    let v = ap (λ (x : SessionState). length x.walk.events) c.visitor.view_is in
    omega (arith, c.len-known.ensures.value, v, n)

pub returns-in-Err-clause-text : goal.returns-in-Err-clause-text
returns-in-Err-clause-text c =
    IfOk-weaker c.refused_line.result _ _ (λ text t. left_text c.args.visitor.now c.args.source.now text.items
    (left c.args.visitor.now c.visitor.inside.walker c.len-known.result c.args.source.now c.rest_of.result.now c.in-Err.refusal text.items
    (ap (λ (x : SessionState). x.walk) c.visitor.view_is) c.len-known.ensures.value c.rest_of.ensures (λ i n q. c.in-Err.ensures.refused i n (ap (λ x. Err x) q)) t)) c.refused_line.ensures

pub returns-in-Err-clause-next : goal.returns-in-Err-clause-next
returns-in-Err-clause-next c =
    IfOk-weaker c.refused_line.result _ _ (λ text t. left_next c.args.visitor.now c.visitor.inside.walker c.extend.new.self c.visitor.inside.watches c.args.source.now text.items
    (ap (λ (x : SessionState). x.walk) c.visitor.view_is) c.in-Err.ensures.err (ap (λ (x : SessionState). x.stops) c.visitor.view_is)
    (left c.args.visitor.now c.visitor.inside.walker c.len-known.result c.args.source.now c.rest_of.result.now c.in-Err.refusal text.items
    (ap (λ (x : SessionState). x.walk) c.visitor.view_is) c.len-known.ensures.value c.rest_of.ensures (λ i n q. c.in-Err.ensures.refused i n (ap (λ x. Err x) q)) t)) c.refused_line.ensures

pub returns-clause-text : goal.returns-clause-text
returns-clause-text c =
    c.in_ok-text.ensures
    ∙ sym (ap (λ o. (takes_over c.args.visitor.now c.args.source.now o).text) (taken c.args.visitor.now c.visitor.inside.walker c.len-known.result c.args.source.now c.rest_of.result.now
    (ap (λ (x : SessionState). x.walk) c.visitor.view_is) c.len-known.ensures.value c.rest_of.ensures c.in_default.ensures.accepts))

pub returns-clause-next : goal.returns-clause-next
returns-clause-next c =
    taken_next c.args.visitor.now c.visitor.inside.walker c.extend.new.self c.visitor.inside.watches c.len-known.result c.args.source.now c.rest_of.result.now
    (ap (λ (x : SessionState). x.walk) c.visitor.view_is) c.len-known.ensures.value c.rest_of.ensures c.in_default.ensures.ok (ap (λ (x : SessionState). x.stops) c.visitor.view_is)
    ∙ sym (ap (λ o. (takes_over c.args.visitor.now c.args.source.now o).next) (taken c.args.visitor.now c.visitor.inside.walker c.len-known.result c.args.source.now c.rest_of.result.now
    (ap (λ (x : SessionState). x.walk) c.visitor.view_is) c.len-known.ensures.value c.rest_of.ensures c.in_default.ensures.accepts))
