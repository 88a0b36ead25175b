use Rattle.std.proofs.Common.{arith}
use Rattle.compact_size.proofs.CompactSizeLemmas.{put_two_bytes, put_four_bytes, put_eight_bytes}
use Rattle.compact_size.proofs.put_wide.Goals as goal

pub returns-in_ok-put_two : goal.returns-in_ok-put_two
returns-in_ok-put_two c = rw (c.in_ok-put_two.ensures) (put_two_bytes c.args.out.now.items c.args.number (let h = c.if-number-lt65536.true in omega arith))

pub returns-in_ok-put_four : goal.returns-in_ok-put_four
returns-in_ok-put_four c = rw (c.in_ok-put_four.ensures) (put_four_bytes c.args.out.now.items c.args.number (let h = c.if-number-lt4294967296.true in omega arith))

pub returns-in_ok-put_eight : goal.returns-in_ok-put_eight
returns-in_ok-put_eight c = rw (c.in_ok-put_eight.ensures) (put_eight_bytes c.args.out.now.items c.args.number (let h = c.ranges.number.fits in omega arith))
