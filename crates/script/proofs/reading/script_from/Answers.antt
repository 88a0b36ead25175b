use Rattle.std.proofs.Common.{Ok, ◌∙◌, ap, sym}
use Rattle.std.specs.Prelude.{codes}
use Rattle.serde_json.specs.Find.{get}
use Rattle.serde_json.specs.View.{view}
use Rattle.script.specs.Lists.{keyed}
use Rattle.script.specs.Scripts.{is_script_key, threads_of, schedule_of}
use Rattle.script.proofs.Chain.{scripted}
use Rattle.script.proofs.Starts.{startable}
use Rattle.script.proofs.reading.script_from.Goals as goal

pub new-requires : goal.new-requires
new-requires c =
    let d = view c.args.value.now in
    let n = c.in_ok-numbers.numbers in
    let h = c.in_ok-holdings.holdings in
    let given = c.in_ok-numbers.ensures.numbers in
    let held = c.in_ok-holdings.ensures.holdings in
    startable (get (codes "entries") d) (get (codes "cq") d) (get (codes "memory") d) (get (codes "objects") d) (get (codes "fds") d) (get (codes "threads") d) (get (codes "schedule") d)
    n.entries c.ring_size-size.result n.cq n.sqpoll n.submit_all n.base h.memory h.objects h.fds c.in_ok-threads.threads c.in_ok-schedule.schedule
    (sym given.entries) (sym given.cq) held.memory held.objects held.fds c.ring_size-size.ensures
    (ap (threads_of c.ring_size-size.result) (sym c.get.ensures) ∙ c.in_ok-threads.ensures)
    (ap schedule_of (sym c.get-2.ensures) ∙ c.in_ok-schedule.ensures)

pub returns : goal.returns
returns c =
    let d = view c.args.value.now in
    let n = c.in_ok-numbers.numbers in
    let h = c.in_ok-holdings.holdings in
    let given = c.in_ok-numbers.ensures.numbers in
    let held = c.in_ok-holdings.ensures.holdings in
    scripted d c.in_ok-script_object.field-0 n.entries n.cq n.sqpoll n.submit_all n.base h.memory h.objects h.fds c.in_ok-threads.threads c.in_ok-schedule.schedule
    (sym (c.in_ok-script_object.ensures ∙ ap (λ p. keyed is_script_key p d) c.key_path.ensures))
    given.entries given.cq given.sqpoll given.submit_all given.base held.memory held.objects held.fds
    (ap (λ n. threads_of n (get (codes "threads") d)) (sym c.ring_size-size.ensures) ∙ ap (threads_of c.ring_size-size.result) (sym c.get.ensures) ∙ c.in_ok-threads.ensures)
    (ap schedule_of (sym c.get-2.ensures) ∙ c.in_ok-schedule.ensures)
    ∙ ap Ok (sym c.new.ensures)
