use Rattle.std.proofs.Common.{◌∙◌, sym, ap, ◌∷◌, [], length, map, arith}
use Rattle.std.proofs.lemmas.List.{length-append}
use Rattle.shared_pages.proofs.Joining.{extends_none, extends_page, there_in}
use Rattle.shared_pages.proofs.shared.add_pages.Goals as goal

pub loop-k-init : goal.loop-k-init
loop-k-init g c = record {
  extends = extends_none (map (λ s. s.value.items) c.args.copy.now) c.args.pages.now.items;
  count = sym (c.len-k.ensures ∙ c.args.pages.now.ok.0);
}

pub returns-in_err-push-clause-extends : goal.returns-in_err-push-clause-extends
returns-in_err-push-clause-extends g c = rw c.in_err-push.ensures.items c.loop-k.invariant.extends

pub loop-k-preserved : goal.loop-k-preserved
loop-k-preserved g c =
    let same = c.new.ensures ∙ c.in_ok-page.ensures ∙ c.as_slice.ensures.value ∙ ap (λ v. v.items) c.deref.ensures in
    let there = there_in (λ s. s.value.items) c.args.copy.now c.loop-k.k c.index-copy-k.result c.new.result c.loop-k-test.true c.index-copy-k.is same in
    let more = ap length c.in_ok-push.ensures.items ∙ length-append c.loop-k.pages.items (c.new.result ∷ []) in
    let count = c.loop-k.invariant.count in
    record {
      extends = rw c.in_ok-push.ensures.items (extends_page (map (λ s. s.value.items) c.args.copy.now) c.args.pages.now.items c.loop-k.pages.items c.loop-k.k c.new.result c.loop-k.invariant.extends there);
      count = omega (arith, more, count);
    }
