use Rattle.std.proofs.Common.{rules, ◌≡◌, true, arith}
use Rattle.sampling.specs.Locks.{is_end}
use Rattle.sampling.proofs.Locking.{ends_here, ends_nowhere}
use Rattle.sampling.proofs.locks.end_of.Goals as goal

pub returns-then-is_end : goal.returns-then-is_end
returns-then-is_end c k =
    let x = c.index-program-end.result in
    let some = c.loop-end-test.true in
    let yes_end : is_end x ≡ true = search rules in
    ends_here is_end c.args.program.now c.loop-end.end k x (omega (arith, some)) c.loop-end.invariant.within c.index-program-end.is yes_end c.loop-end.invariant.none

pub returns : goal.returns
returns c k =
    let none = c.loop-end-test.false in
    let zero_end : c.loop-end.end ≡ 0 = omega (arith, none) in
    ends_nowhere is_end c.args.program.now c.loop-end.end k zero_end c.loop-end.invariant.none
