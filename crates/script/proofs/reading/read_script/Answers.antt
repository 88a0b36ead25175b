use Rattle.std.proofs.Common.{◌≤◌, length, arith}
use Rattle.serde_json.specs.View.{view}
use Rattle.script.specs.Scripts.{long, unread, limit}
use Rattle.script.proofs.Clean.{answered, no_json_read}
use Rattle.script.proofs.Texts.{reads_ok, reads_fault}
use Rattle.script.proofs.reading.read_script.Goals as goal

pub returns-then-text-gt-LIMIT-clause-fault : goal.returns-then-text-gt-LIMIT-clause-fault
returns-then-text-gt-LIMIT-clause-fault c = λ n. rw c.key_path.ensures (long (omega arith))

pub returns-clause-ok : goal.returns-clause-ok
returns-clause-ok c =
    let short : length c.args.text.now ≤ limit = omega arith in
    reads_ok c.args.text.now c.script_from.result (view c.in-Ok.value) short c.in-Ok.ensures.ok.0 c.in-Ok.ensures.ok.1 c.script_from.ensures

pub returns-clause-fault : goal.returns-clause-fault
returns-clause-fault c =
    let short : length c.args.text.now ≤ limit = omega arith in
    reads_fault c.args.text.now c.script_from.result (view c.in-Ok.value) short c.in-Ok.ensures.ok.0 c.in-Ok.ensures.ok.1 c.script_from.ensures

pub returns-clause-not_json : goal.returns-clause-not_json
returns-clause-not_json c = answered c.args.text.now c.script_from.result (view c.in-Ok.value) c.script_from.ensures

pub returns-clause-no_json : goal.returns-clause-no_json
returns-clause-no_json c = no_json_read c.args.text.now (view c.in-Ok.value) c.in-Ok.ensures.ok.0 c.in-Ok.ensures.ok.1

pub returns-in-Err-clause-fault : goal.returns-in-Err-clause-fault
returns-in-Err-clause-fault c = λ n.
    let short : length c.args.text.now ≤ limit = omega arith in
    unread (short, c.in-Err.ensures.err (λ m. let h = c.if-is_memory.ensures.1 m in absurd (cc)))

pub returns-in-Err-clause-not_json : goal.returns-in-Err-clause-not_json
returns-in-Err-clause-not_json c = λ n.
    let short : length c.args.text.now ≤ limit = omega arith in
    (short, c.in-Err.ensures.err (λ m. let h = c.if-is_memory.ensures.1 m in absurd (cc)))
