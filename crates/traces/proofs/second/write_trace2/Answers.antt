use Rattle.traces.proofs.Startable.{startable}
use Rattle.traces.specs.Spelling.{counted_bytes}
use Rattle.traces.specs.Setups.{magic2, setup_bytes, canonical}
use Rattle.traces.proofs.SecondForm.{is_written, three_written}
use Rattle.traces.proofs.second.write_trace2.Goals as goal

pub returns : goal.returns
returns c =
    let setup = c.args.setup.now in
    let events = c.args.events.now in
    let start = rw c.new-out.ensures.items at c.in_ok-extend_from_slice.ensures.items in
    is_written setup events c.put_counted.new.out.items c.requires.starts c.in_ok-push_setup.ensures.widths (c.requires.few, c.in_ok-put_counted.ensures.fits)
    (three_written magic2 (setup_bytes (canonical setup)) (counted_bytes events) _ _ _ start c.in_ok-push_setup.ensures.spelled c.in_ok-put_counted.ensures.spelled)

pub push_setup-requires : goal.push_setup-requires
push_setup-requires c = startable c.args.setup.now c.requires.starts
