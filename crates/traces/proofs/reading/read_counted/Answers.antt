use Rattle.std.proofs.Common.{◌≡◌, ℕ, drop, subst, ◌⊎◌, arith}
use Rattle.std.proofs.lemmas.List.{take_rest}
use Rattle.std.specs.Prelude.{IfErr}
use Rattle.byteorder.specs.Endian.{little_number}
use Rattle.traces.specs.declared.fault.TraceFault.TheVariants.{Memory}
use Rattle.traces.specs.Faults.{HasCount, IsEventsFault}
use Rattle.traces.proofs.Faults.{counted_fault}
use Rattle.traces.proofs.reading.read_counted.Goals as goal

pub returns-clause-fault : goal.returns-clause-fault
returns-clause-fault c =
    let bytes = c.args.bytes.now in
    let count : c.u32_at-count.result ≡ little_number 4 bytes = c.u32_at-count.ensures.number in
    let has : HasCount bytes = (omega arith, omega (arith, count)) in
    let found = rw take_rest at c.read_events.ensures.fault in
    counted_fault bytes c.read_events.result has
    (subst (λ (n : ℕ). IfErr c.read_events.result (λ fault. (fault ≡ Memory) ⊎ IsEventsFault n (drop 4 bytes) fault)) count found)
