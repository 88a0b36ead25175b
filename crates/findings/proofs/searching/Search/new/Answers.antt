use Rattle.findings.proofs.Common.{map, ◌∙◌, ap, arith, advanced}
use Rattle.findings.proofs.{Followed.seen_none, Lasting.mapped_back, Suspecting.follows_none}
use Rattle.findings.proofs.searching.Search.new.Goals as goal

pub returns : goal.returns
returns c = λ es most.
    let len = c.deref_mut.ensures.len in
    let first = advanced c.args.setup.now c.args.state.now 0 in
    let files = c.in_ok-new.ensures in
    seen_none _ es c.args.state.now _ _ _ _ _ _ c.requires.starts c.new.ensures.items
    (mapped_back first _ _ _ _ _ c.deref_mut.ensures.value c.begin.ensures (omega (arith, len)) ∙ ap (map first) c.in_ok-watches.ensures) most
    (follows_none c.args.setup.now es _ _ _ files.writes files.count files.none files.retried)
