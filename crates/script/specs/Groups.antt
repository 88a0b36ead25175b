-- The values of a script's keys, in the groups in which they are read.
use Rattle.std.specs.Prelude.{◌≡◌, codes, Ok}
use Rattle.serde_json.specs.Data.{Data}
use Rattle.serde_json.specs.Find.{get}
use Rattle.script.specs.declared.fault.Key.TheVariants as key
use Rattle.script.specs.declared.reading.Numbers.{Numbers}
use Rattle.script.specs.declared.reading.Holdings.{Holdings}
use Rattle.script.specs.Memory.{memory_of}
use Rattle.script.specs.Objects.{objects_of, fds_of}
use Rattle.script.specs.Scripts.{entries_of, cq_of, flag_of, base_of}

-- The numbers and flags of a setup.
pub record AreNumbers (d : Data) (n : Numbers) : Type 0 where
  pub entries : entries_of (get (codes "entries") d) ≡ Ok n.entries
  pub cq : cq_of n.entries (get (codes "cq") d) ≡ Ok n.cq
  pub sqpoll : flag_of key.Sqpoll (get (codes "sqpoll") d) ≡ Ok n.sqpoll
  pub submit_all : flag_of key.SubmitAll (get (codes "submit_all") d) ≡ Ok n.submit_all
  pub base : base_of (get (codes "base") d) ≡ Ok n.base

-- The memory, objects and descriptors of a setup.
pub record AreHoldings (d : Data) (h : Holdings) : Type 0 where
  pub memory : memory_of (get (codes "memory") d) ≡ Ok h.memory
  pub objects : objects_of (get (codes "objects") d) ≡ Ok h.objects
  pub fds : fds_of h.objects (get (codes "fds") d) ≡ Ok h.fds
