use Rattle.machine.proofs.Common.{refl, slice_get_read, map_same}
use Rattle.machine.proofs.ThreadLemmas.{seen_counter}
use Rattle.machine.proofs.threads.Threads.put_counter.Goals as goal

pub returns-clause-put : goal.returns-clause-put
returns-clause-put c =
    let r = rw (← c.self.view_is) at c.requires in
    let at = rw (← c.thread.view_is) at (slice_get_read c.self.inside.threads.items _ c.args.t _ refl r.0 c.index_mut-thread.ensures.value) in
    rw (← c.self.view_is) (λ q. seen_counter _ _ _ _ at q)

pub returns-clause-programs : goal.returns-clause-programs
returns-clause-programs c =
    let r = rw (← c.self.view_is) at c.requires in
    let at = rw (← c.thread.view_is) at (slice_get_read c.self.inside.threads.items _ c.args.t _ refl r.0 c.index_mut-thread.ensures.value) in
    rw (← c.self.view_is) (map_same _ _ _ _ _ at refl)
