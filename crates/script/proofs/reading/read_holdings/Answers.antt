use Rattle.std.proofs.Common.{◌∙◌, ap, sym}
use Rattle.script.specs.Memory.{memory_of}
use Rattle.script.specs.Objects.{objects_of, fds_of}
use Rattle.script.proofs.reading.read_holdings.Goals as goal

pub returns-clause-holdings : goal.returns-clause-holdings
returns-clause-holdings c = rw c.into_items-objects.ensures (record {
  memory = ap memory_of (sym c.get.ensures) ∙ c.in_ok-memory.ensures;
  objects = ap objects_of (sym c.get-2.ensures) ∙ c.in_ok-objects.ensures;
  fds = ap (fds_of c.in_ok-objects.objects) (sym c.get-3.ensures) ∙ c.in_ok-fds.ensures;
})
