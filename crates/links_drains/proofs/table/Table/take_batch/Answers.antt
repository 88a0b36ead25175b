use Rattle.links_drains.proofs.Common.{◌∙◌, ◌+◌, sym, ap, length, length-append, rows_of, taken_of}
use Rattle.links_drains.proofs.Batching.{length-rows_of}
use Rattle.links_drains.proofs.table.Table.take_batch.Goals as goal

pub returns-in-Ok-clause-len : goal.returns-in-Ok-clause-len
returns-in-Ok-clause-len c =
    let taken = taken_of c.args.submit_all c.args.world.now c.args.entries.now in
    ap length c.in-Ok.ensures.ok ∙ length-append c.args.self.now (rows_of c.args.world.now (length c.args.self.now) taken)
    ∙ ap (λ n. length c.args.self.now + n) (length-rows_of c.args.world.now (length c.args.self.now) taken ∙ sym c.in-Ok.ensures.taken)
