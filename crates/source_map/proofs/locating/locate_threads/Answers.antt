use Rattle.std.proofs.Common.{◌≡◌, ◌+◌, ◌<◌, ◌∷◌, ◌++◌, [], length, take, ap, sym, ◌∙◌, subst, arith, rules}
use Rattle.std.proofs.lemmas.List.{length-take-le, take_more}
use Rattle.script.specs.Instructions.{instruction_at}
use Rattle.source_map.specs.Maps.{AreItems, AreThreads}
use Rattle.source_map.proofs.Lists.{threads_more}
use Rattle.source_map.proofs.locating.locate_threads.Goals as goal

pub loop-i-preserved : goal.loop-i-preserved
loop-i-preserved c =
    let size = c.args.size in
    let text = c.args.text.now in
    let threads = c.args.threads.now in
    let i = c.loop-i.i in
    let lt : i < length threads = omega arith in
    let taken : take (i + 1) threads ≡ take i threads ++ c.index-threads-i.result ∷ [] = take_more threads i c.index-threads-i.result lt ∙ ap (λ p. take i threads ++ p ∷ []) (sym c.index-threads-i.is) in
    let count : length (take i threads) ≡ i = length-take-le i threads (omega arith) in
    let here : AreItems (instruction_at size i) text 0 0 c.in-Some.items c.index-threads-i.result = search rules in
    let more : c.push.new.self.items ≡ c.loop-i.located.items ++ c.in-Some.items ∷ [] = search rules in
    record {
      items =
          subst (λ ls. AreThreads size text 0 ls (take (i + 1) threads)) (sym more)
          (subst (AreThreads size text 0 (c.loop-i.located.items ++ c.in-Some.items ∷ [])) (sym taken)
          (threads_more size text 0 i c.loop-i.located.items (take i threads) c.in-Some.items c.index-threads-i.result c.loop-i.invariant.items (omega arith) here));
      cursor = search rules;
    }
