use Rattle.std.proofs.Common.{ℕ, ◌≡◌, ◌∙◌, sym, ap, subst, List, ◌++◌}
use Rattle.places.specs.declared.listed.Listed.{Listed}
use Rattle.places.specs.declared.listed.Listed.TheVariants.{Requests, Overflowed}
use Rattle.places.specs.declared.value.Change.{Change}
use Rattle.places.specs.View.{NamesOnce}
use Rattle.places.specs.Notes.{IsLeft, left}
use Rattle.places.specs.All.{all_changes}
use Rattle.places.proofs.Left.{left-append}
use Rattle.places.proofs.Restored.{left_least}
use Rattle.places.proofs.record.Record.lengths_left.Goals as goal

left_of_parts : (l : Listed) (cs ds : List Change) (n m k : ℕ) → NamesOnce (cs ++ ds) → m ≡ left l cs n → k ≡ left l ds m → IsLeft l (cs ++ ds) n k
left_of_parts l cs ds n m k o e f =
    subst (IsLeft l (cs ++ ds) n) (sym (f ∙ ap (left l ds) e ∙ sym (left-append l cs ds n))) (left_least l (cs ++ ds) n o)

pub returns-clause-rows : goal.returns-clause-rows
returns-clause-rows c =
    let w = c.self.inside.more.wide in
    rw (← c.self.view_is)
    (left_of_parts Requests c.self.inside.packed (all_changes w.numbers w.completions w.rows c.self.inside.more.rest) c.args.rows c.lengths_left-rows_left.result.0 _ c.self.invariant.0
    c.lengths_left-rows_left.ensures.rows c.left_unpacked.ensures)

pub returns-clause-backlog : goal.returns-clause-backlog
returns-clause-backlog c =
    let w = c.self.inside.more.wide in
    rw (← c.self.view_is)
    (left_of_parts Overflowed c.self.inside.packed (all_changes w.numbers w.completions w.rows c.self.inside.more.rest) c.args.backlog c.lengths_left-rows_left.result.1 _ c.self.invariant.0
    c.lengths_left-rows_left.ensures.backlog c.left_unpacked-2.ensures)
