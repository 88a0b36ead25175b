use Rattle.traces.specs.Setups.{canonical, IsTrace2}
use Rattle.traces.proofs.SecondForm.{again_setup, again_events, again_memory}
use Rattle.traces.proofs.laws.setup_and_events_again.Goals as goal

pub returns-clause-setup : goal.returns-clause-setup
returns-clause-setup c =
    let setup = canonical c.args.setup.now in
    let events = c.args.events.now in
    let same = c.deref.ensures.value in
    let spelled : IsTrace2 setup events c.deref.result.now = rw same c.in_ok-bytes.ensures in
    again_setup c.read_trace2.result setup events (c.read_trace2.ensures.only setup events spelled)

pub returns-clause-events : goal.returns-clause-events
returns-clause-events c =
    let setup = canonical c.args.setup.now in
    let events = c.args.events.now in
    let same = c.deref.ensures.value in
    let spelled : IsTrace2 setup events c.deref.result.now = rw same c.in_ok-bytes.ensures in
    again_events c.read_trace2.result setup events (c.read_trace2.ensures.only setup events spelled)

pub returns-clause-memory : goal.returns-clause-memory
returns-clause-memory c =
    let setup = canonical c.args.setup.now in
    let events = c.args.events.now in
    let same = c.deref.ensures.value in
    let spelled : IsTrace2 setup events c.deref.result.now = rw same c.in_ok-bytes.ensures in
    again_memory c.read_trace2.result setup events (c.read_trace2.ensures.only setup events spelled)
