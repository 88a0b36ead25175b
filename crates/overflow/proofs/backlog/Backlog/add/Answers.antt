use Rattle.std.proofs.Common.{◌≡◌, ◌∙◌, ap, length, ◌≤◌, arith}
use Rattle.overflow.proofs.Adding.{adding_on}
use Rattle.overflow.proofs.backlog.Backlog.add.Goals as goal

pub loop-i-preserved : goal.loop-i-preserved
loop-i-preserved c =
    let start : c.len-start.result ≡ length c.args.self.now.items = c.len-start.ensures ∙ c.self.inside.items.ok.0 ∙ ap (λ b. length b.items) c.self.view_is in
    let numbers : c.loop-i.notes.numbers ≤ c.note.new.self.numbers = let s = c.in_ok-note.ensures.spends.numbers in omega arith in
    let completions : c.loop-i.notes.completions ≤ c.note.new.self.completions = let s = c.in_ok-note.ensures.spends.completions in omega arith in
    adding_on _ _ _ _ _ _ c.loop-i.invariant c.loop-i-test.true (rw start at c.in_ok-note.ensures.ok) numbers completions
