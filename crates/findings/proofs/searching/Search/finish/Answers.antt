use Rattle.findings.proofs.Followed.{few_threads, report_of, seen_all}
use Rattle.findings.proofs.searching.Search.finish.Goals as goal

pub ends_over-requires : goal.ends_over-requires
ends_over-requires c = few_threads _ _ c.args.state.now _ _ _ _ _ _ c.requires.seen c.requires.at

pub returns : goal.returns
returns c =
    let all = seen_all _ _ c.args.state.now c.in_ok-over.over _ _ _ _ _ _ _ _ _ _ _ _ c.requires.seen c.requires.at c.in_ok-over.ensures c.deref.ensures.value c.in_ok-judge.ensures c.deref-2.ensures.value c.in_ok-add_end.ensures c.deref-3.ensures.value c.in_ok-extend_from_slice.ensures.items in
    report_of _ _ _ _ all c.in_order.ensures.same c.in_order.ensures.rises
