use Rattle.std.proofs.Common.{◌≡◌, drop, rules, ap, ◌∙◌, subst, List, ℕ, ◌⊎◌}
use Rattle.std.proofs.lemmas.List.{drop_min, take_rest}
use Rattle.std.specs.Prelude.{IfErr}
use Rattle.traces.specs.declared.fault.TraceFault.TheVariants.{Memory}
use Rattle.traces.specs.Spelling.{magic}
use Rattle.traces.specs.Faults.{BeginsAs, IsCountedFault}
use Rattle.traces.proofs.Faults.{trace_fault}
use Rattle.traces.proofs.reading.read_first.Goals as goal

pub returns-clause-fault : goal.returns-clause-fault
returns-clause-fault c =
    let bytes = c.args.bytes.now in
    let begins : BeginsAs magic bytes = search rules in
    let found = rw take_rest at c.read_counted.ensures.fault in
    let place : drop c.min-there.result bytes ≡ drop 8 bytes = ap (λ (n : ℕ). drop n bytes) c.min-there.ensures ∙ drop_min 8 bytes in
    trace_fault bytes c.read_counted.result begins
    (subst (λ (xs : List ℕ). IfErr c.read_counted.result (λ fault. (fault ≡ Memory) ⊎ IsCountedFault xs fault)) place found)
