use Rattle.findings.proofs.Common.{◌*◌, ◌<◌, ℕ, length, sym, subst, has_below}
use Rattle.findings.proofs.Marks.{members, members_less, range_less, range_none}
use Rattle.findings.proofs.suspects.forget.Goals as goal

pub write-requires : goal.write-requires
write-requires c = has_below c.loop-byte.bytes c.in-Some.byte c.in-Some.ensures.some.member

pub loop-byte-preserved : goal.loop-byte-preserved
loop-byte-preserved c =
    range_less c.args.first c.args.count c.in-Some.byte c.args.bytes.now c.loop-byte.bytes c.write.new.self c.loop-byte.invariant c.in-Some.ensures.some.after c.if-byte-first.false c.write.ensures.has

pub loop-byte-smaller : goal.loop-byte-smaller
loop-byte-smaller c =
    let below : c.in-Some.byte < 64 * length c.loop-byte.bytes = has_below c.loop-byte.bytes c.in-Some.byte c.in-Some.ensures.some.member in
    subst (λ (n : ℕ). members c.write.new.self (64 * n) < members c.loop-byte.bytes (64 * length c.loop-byte.bytes)) (sym c.write.ensures.len)
    (members_less c.loop-byte.bytes c.write.new.self c.in-Some.byte (64 * length c.loop-byte.bytes) below c.in-Some.ensures.some.member c.write.ensures.has)

pub returns : goal.returns
returns c = range_none c.args.first c.args.count c.args.bytes.now c.loop-byte.bytes c.loop-byte.invariant c.in_default.ensures.none
