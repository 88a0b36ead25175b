use Rattle.machine.proofs.Common.{sym, refl, slice_get_read, Got, map_same, updated_set, keeps_noted}
use Rattle.machine.proofs.ThreadLemmas.{seen_got}
use Rattle.machine.proofs.threads.Threads.set_got.Goals as goal

pub returns-clause-ok : goal.returns-clause-ok
returns-clause-ok c =
    let r = rw (← c.self.view_is) at c.requires.there in
    let at = rw (← c.thread.view_is) at (slice_get_read c.self.inside.threads.items _ c.args.t _ refl r c.index_mut-thread.ensures.value) in
    rw (← c.self.view_is) ((sym (updated_set _ _ _ _ at)))

pub returns-clause-programs : goal.returns-clause-programs
returns-clause-programs c =
    let r = rw (← c.self.view_is) at c.requires.there in
    let at = rw (← c.thread.view_is) at (slice_get_read c.self.inside.threads.items _ c.args.t _ refl r c.index_mut-thread.ensures.value) in
    rw (← c.self.view_is) (map_same _ _ _ _ _ at refl)

pub returns-clause-keeps : goal.returns-clause-keeps
returns-clause-keeps c =
    let r = rw (← c.self.view_is) at c.requires.there in
    let at = rw (← c.thread.view_is) at (slice_get_read c.self.inside.threads.items _ c.args.t _ refl r c.index_mut-thread.ensures.value) in
    (rw (← c.self.view_is) (keeps_noted _ _ _ _ _ (Got c.args.t) _ refl (rw at c.in_ok-note.ensures.ok) (seen_got _ _ _ _ at)))
