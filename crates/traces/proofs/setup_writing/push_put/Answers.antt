use Rattle.traces.proofs.Written.{put_written}
use Rattle.traces.proofs.setup_writing.push_put.Goals as goal

pub returns-clause-spelled : goal.returns-clause-spelled
returns-clause-spelled c =
    put_written c.args.slot c.args.entry c.args.out.now.items _ _ _ _ c.entry_bytes.ensures.spelled c.in_ok-push_u8.ensures c.in_ok-push_u32.ensures c.in_ok-extend_from_slice.ensures.items
