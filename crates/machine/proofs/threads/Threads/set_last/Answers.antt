use Rattle.machine.proofs.Common.{sym, refl, rules, w64, to_z-of_z, slice_get_read, Last, map_same, updated_set, keeps_noted}
use Rattle.std.specs.Prelude.{FitsSigned}
use Rattle.machine.proofs.ThreadLemmas.{seen_last}
use Rattle.machine.proofs.threads.Threads.set_last.Goals as goal

pub returns-clause-ok : goal.returns-clause-ok
returns-clause-ok c =
    let r = rw (← c.self.view_is) at c.requires.there in
    let at = rw (← c.thread.view_is) at (slice_get_read c.self.inside.threads.items _ c.args.t _ refl r c.index_mut-thread.ensures.value) in
    let fits : FitsSigned w64 c.args.n = search rules in
    let fitted : FitsSigned w64 c.thread.inside.last = search rules in
    rw (← c.self.view_is) (rw (to_z-of_z w64 c.args.n fits) (sym (updated_set _ _ _ _ at)))

pub returns-clause-programs : goal.returns-clause-programs
returns-clause-programs c =
    let r = rw (← c.self.view_is) at c.requires.there in
    let at = rw (← c.thread.view_is) at (slice_get_read c.self.inside.threads.items _ c.args.t _ refl r c.index_mut-thread.ensures.value) in
    rw (← c.self.view_is) (map_same _ _ _ _ _ at refl)

pub returns-clause-keeps : goal.returns-clause-keeps
returns-clause-keeps c =
    let r = rw (← c.self.view_is) at c.requires.there in
    let at = rw (← c.thread.view_is) at (slice_get_read c.self.inside.threads.items _ c.args.t _ refl r c.index_mut-thread.ensures.value) in
    let fits : FitsSigned w64 c.args.n = search rules in
    let fitted : FitsSigned w64 c.thread.inside.last = search rules in
    rw (to_z-of_z w64 c.args.n fits) (rw (← c.self.view_is) (keeps_noted _ _ _ _ _ (Last c.args.t) _ refl (rw (at, ← to_z-of_z w64 c.thread.inside.last fitted) c.in_ok-note.ensures.ok) (seen_last _ _ _ _ at)))
