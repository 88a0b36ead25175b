use Rattle.std.proofs.Common.{rules, inr, arith}
use Rattle.traces.specs.Setups.{magic2}
use Rattle.traces.specs.Faults.{BeginsAs}
use Rattle.traces.proofs.SecondForm.{short_fault, is_found, is_fault}
use Rattle.traces.proofs.second.read_second.Goals as goal

pub returns-then-bytes-lt8-clause-fault : goal.returns-then-bytes-lt8-clause-fault
returns-then-bytes-lt8-clause-fault c =
    let begins : BeginsAs magic2 c.args.bytes.now = search rules in
    inr (inr (begins, short_fault c.args.bytes.now (omega arith)))

pub returns-clause-found : goal.returns-clause-found
returns-clause-found c =
    let bytes = c.args.bytes.now in
    let begins : BeginsAs magic2 bytes = search rules in
    is_found bytes c.read_body.result (λ i. omega (arith, c.type_inv.bytes i)) (omega arith) begins c.read_body.ensures.found

pub returns-clause-fault : goal.returns-clause-fault
returns-clause-fault c =
    let begins : BeginsAs magic2 c.args.bytes.now = search rules in
    is_fault c.args.bytes.now c.read_body.result begins c.read_body.ensures.fault
