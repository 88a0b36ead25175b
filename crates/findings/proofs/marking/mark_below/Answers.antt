use Rattle.findings.proofs.Common.{◌≡◌, ℕ, nat_lt, ◌&&◌, ◌||◌, has, subst, arith}
use Rattle.findings.proofs.Marks.{added_more, added_none, is_volatile_byte}
use Rattle.findings.proofs.marking.mark_below.Goals as goal

pub loop-at-init : goal.loop-at-init
loop-at-init c = (λ k. added_none c.args.bytes.now (is_volatile_byte c.args.state.now c.args.object c.args.durable) k, omega arith)

pub loop-at-preserved : goal.loop-at-preserved
loop-at-preserved c = (
  added_more c.args.bytes.now c.loop-at.bytes c.make_room.new.self c.write.new.self (is_volatile_byte c.args.state.now c.args.object c.args.durable) c.loop-at.at c.is_in_or_volatile-member.result c.loop-at.invariant.0 c.make_room.ensures.has c.is_in_or_volatile-member.ensures c.write.ensures.has,
  omega (arith, c.in_ok-make_room.ensures.ok, c.write.ensures.len),
)

pub returns : goal.returns
returns c =
    let end : c.loop-at.at ≡ c.args.len = omega arith in
    subst (λ (n : ℕ). (k : ℕ) → has c.loop-at.bytes k ≡ (has c.args.bytes.now k || (nat_lt k n && is_volatile_byte c.args.state.now c.args.object c.args.durable k))) end c.loop-at.invariant.0
