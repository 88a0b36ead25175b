use Rattle.machine.proofs.Common.{◌≡◌, refl, Some, slice_get_read, to_z-of_z, w64, Number, Signed, Staged, Reaped, map_same}
use Rattle.machine.proofs.ThreadLemmas.{seen_counter, seen_stage, seen_last, seen_got}
use Rattle.machine.proofs.threads.ThreadsPart.put.Goals as goal

pub returns-in-ProgramCounter-Some-Number-clause-put : goal.returns-in-ProgramCounter-Some-Number-clause-put
returns-in-ProgramCounter-Some-Number-clause-put c =
    let e : c.args.value ≡ Some (Number c.in-ProgramCounter-Some-Number.n) = cc in
    let r = rw (← c.self.view_is, c.in-ProgramCounter-Some-Number.is-0, e) at c.requires in
    let at = rw (← c.thread.view_is) at (slice_get_read c.self.inside.threads.items _ c.in-ProgramCounter-Some-Number.t _ refl r.0 c.index_mut-thread.ensures.value) in
    rw (← c.self.view_is, c.in-ProgramCounter-Some-Number.is-0, e) (λ q. seen_counter _ _ _ _ at q)

pub returns-in-ProgramCounter-Some-Number-clause-programs : goal.returns-in-ProgramCounter-Some-Number-clause-programs
returns-in-ProgramCounter-Some-Number-clause-programs c =
    let e : c.args.value ≡ Some (Number c.in-ProgramCounter-Some-Number.n) = cc in
    let r = rw (← c.self.view_is, c.in-ProgramCounter-Some-Number.is-0, e) at c.requires in
    let at = rw (← c.thread.view_is) at (slice_get_read c.self.inside.threads.items _ c.in-ProgramCounter-Some-Number.t _ refl r.0 c.index_mut-thread.ensures.value) in
    rw (← c.self.view_is) (map_same _ _ _ _ _ at refl)

pub returns-in-ThreadStage-Some-Staged-clause-put : goal.returns-in-ThreadStage-Some-Staged-clause-put
returns-in-ThreadStage-Some-Staged-clause-put c =
    let e : c.args.value ≡ Some (Staged c.in-ThreadStage-Some-Staged.stage) = cc in
    let r = rw (← c.self.view_is, c.in-ThreadStage-Some-Staged.is-0, e) at c.requires in
    let at = rw (← c.thread-in-ThreadStage-Some-Staged.view_is) at (slice_get_read c.self.inside.threads.items _ c.in-ThreadStage-Some-Staged.t _ refl r c.index_mut-thread-in-ThreadStage-Some-Staged.ensures.value) in
    rw (← c.self.view_is, c.in-ThreadStage-Some-Staged.is-0, e) (λ q. seen_stage _ _ _ _ at q)

pub returns-in-ThreadStage-Some-Staged-clause-programs : goal.returns-in-ThreadStage-Some-Staged-clause-programs
returns-in-ThreadStage-Some-Staged-clause-programs c =
    let e : c.args.value ≡ Some (Staged c.in-ThreadStage-Some-Staged.stage) = cc in
    let r = rw (← c.self.view_is, c.in-ThreadStage-Some-Staged.is-0, e) at c.requires in
    let at = rw (← c.thread-in-ThreadStage-Some-Staged.view_is) at (slice_get_read c.self.inside.threads.items _ c.in-ThreadStage-Some-Staged.t _ refl r c.index_mut-thread-in-ThreadStage-Some-Staged.ensures.value) in
    rw (← c.self.view_is) (map_same _ _ _ _ _ at refl)

pub returns-in-Last-Some-Signed-clause-put : goal.returns-in-Last-Some-Signed-clause-put
returns-in-Last-Some-Signed-clause-put c =
    let e : c.args.value ≡ Some (Signed c.in-Last-Some-Signed.n) = cc in
    let r = rw (← c.self.view_is, c.in-Last-Some-Signed.is-0, e) at c.requires in
    let at = rw (← c.thread-in-Last-Some-Signed.view_is) at (slice_get_read c.self.inside.threads.items _ c.in-Last-Some-Signed.t _ refl r.0 c.index_mut-thread-in-Last-Some-Signed.ensures.value) in
    rw (← c.self.view_is, c.in-Last-Some-Signed.is-0, e) (rw (to_z-of_z w64 c.in-Last-Some-Signed.n r.1) (λ q. seen_last _ _ _ _ at q))

pub returns-in-Last-Some-Signed-clause-programs : goal.returns-in-Last-Some-Signed-clause-programs
returns-in-Last-Some-Signed-clause-programs c =
    let e : c.args.value ≡ Some (Signed c.in-Last-Some-Signed.n) = cc in
    let r = rw (← c.self.view_is, c.in-Last-Some-Signed.is-0, e) at c.requires in
    let at = rw (← c.thread-in-Last-Some-Signed.view_is) at (slice_get_read c.self.inside.threads.items _ c.in-Last-Some-Signed.t _ refl r.0 c.index_mut-thread-in-Last-Some-Signed.ensures.value) in
    rw (← c.self.view_is) (map_same _ _ _ _ _ at refl)

pub returns-in-Got-Some-Reaped-clause-put : goal.returns-in-Got-Some-Reaped-clause-put
returns-in-Got-Some-Reaped-clause-put c =
    let e : c.args.value ≡ Some (Reaped c.in-Got-Some-Reaped.got) = cc in
    let r = rw (← c.self.view_is, c.in-Got-Some-Reaped.is-0, e) at c.requires in
    let at = rw (← c.thread-in-Got-Some-Reaped.view_is) at (slice_get_read c.self.inside.threads.items _ c.in-Got-Some-Reaped.t _ refl r c.index_mut-thread-in-Got-Some-Reaped.ensures.value) in
    rw (← c.self.view_is, c.in-Got-Some-Reaped.is-0, e) (λ q. seen_got _ _ _ _ at q)

pub returns-in-Got-Some-Reaped-clause-programs : goal.returns-in-Got-Some-Reaped-clause-programs
returns-in-Got-Some-Reaped-clause-programs c =
    let e : c.args.value ≡ Some (Reaped c.in-Got-Some-Reaped.got) = cc in
    let r = rw (← c.self.view_is, c.in-Got-Some-Reaped.is-0, e) at c.requires in
    let at = rw (← c.thread-in-Got-Some-Reaped.view_is) at (slice_get_read c.self.inside.threads.items _ c.in-Got-Some-Reaped.t _ refl r c.index_mut-thread-in-Got-Some-Reaped.ensures.value) in
    rw (← c.self.view_is) (map_same _ _ _ _ _ at refl)
