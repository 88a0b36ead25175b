use Rattle.machine.proofs.Common.{sym, ap, refl, slice_get_read, Ready, ThreadState}
use Rattle.std.specs.Arc.{arc_value}
use Rattle.machine.proofs.ThreadLemmas.{updated_same}
use Rattle.machine.proofs.threads.Threads.be_ready.Goals as goal

pub returns-in-Ready-clause-ok : goal.returns-in-Ready-clause-ok
returns-in-Ready-clause-ok c =
    let r = rw (← c.self.view_is) at c.requires.there in
    let at = rw (← c.behind-self.view_is) at (slice_get_read c.self.inside.threads.items _ c.args.t _ refl r c.index.ensures) in
    let x : ThreadState = record { program = arc_value c.behind-self.inside.program; counter = c.behind-self.inside.counter; stage = c.behind-self.inside.stage; last = c.behind-self.inside.last; got = c.behind-self.inside.got } in
    rw (← c.self.view_is) (updated_same (λ y. record y { stage = Ready }) c.self.inside.threads.items c.args.t x at (ap (λ s. record x { stage = s }) (sym c.in-Ready.is)))
