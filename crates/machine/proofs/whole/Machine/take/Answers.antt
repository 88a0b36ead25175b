use Rattle.std.proofs.Common.{◌∙◌, ◌≡◌, sym, ap, subst, ◌++◌, length, arith, List, ℕ, Bool, if◌then◌else◌}
use Rattle.machine.proofs.Common.{Sqe, Row, halts, taken_of, rows_of, offered, offered_entries, entries_at, up_to_entry, taken, words_for, Grows, Machine}
use Rattle.machine.proofs.{FormedRows.length-entries_at, Growing.grows_taken, Growing.grows_more, SubmissionLemmas.take_is_taken, SubmissionLemmas.words_least}
use Rattle.machine.proofs.whole.Machine.take.Goals as goal

pub take_batch-requires : goal.take_batch-requires
take_batch-requires c =
    let w = c.args.self.now.submissions in
    let same = words_least w c.args.to_submit c.offered-offered.result c.offered-offered.ensures.least in
    let e = ap length (c.as_slice.ensures ∙ c.in_ok-entries.ensures ∙ ap (entries_at w.slots) same) in
    let l = length-entries_at w.slots (offered w c.args.to_submit) in
    omega (arith, e, l, c.requires)

pub returns-in_err-room_for_numbers-clause-grows : goal.returns-in_err-room_for_numbers-clause-grows
returns-in_err-room_for_numbers-clause-grows c =
    let m : Machine = c.args.self.now in
    subst (λ (rows : List Row). Grows m (record m { table = rows })) (sym c.in_ok-batch.ensures.ok) (grows_more m (rows_of m.world (length m.table) (taken_of m.submit_all m.world c.as_slice.result.now)))

pub returns-clause-grows : goal.returns-clause-grows
returns-clause-grows c =
    let m : Machine = c.args.self.now in
    let w = m.submissions in
    let same = words_least w c.args.to_submit c.offered-offered.result c.offered-offered.ensures.least in
    let listed : c.as_slice.result.now ≡ offered_entries w c.args.to_submit = c.as_slice.ensures ∙ c.in_ok-entries.ensures ∙ ap (entries_at w.slots) same in
    let words : offered w c.word_count-count.result ≡ words_for m c.args.to_submit =
    c.word_count-count.ensures.words ∙ ap (λ (ws : List ℕ). if c.in_ok-batch.batch.halted then up_to_entry w.slots c.in_ok-batch.batch.taken ws else ws) same
    ∙ ap (λ (b : Bool). if b then up_to_entry w.slots c.in_ok-batch.batch.taken (offered w c.args.to_submit) else offered w c.args.to_submit) (c.in_ok-batch.ensures.halted ∙ ap (halts m.submit_all m.world) listed)
    ∙ ap (λ (n : ℕ). if halts m.submit_all m.world (offered_entries w c.args.to_submit) then up_to_entry w.slots n (offered w c.args.to_submit) else offered w c.args.to_submit) (c.in_ok-batch.ensures.taken ∙ ap (λ (es : List Sqe). length (taken_of m.submit_all m.world es)) listed) in
    let least = c.offered-offered.ensures.least in
    let within = c.word_count-count.ensures.within in
    let same_machine : record m { submissions = c.take_first.new.self; table = c.take_batch.new.self } ≡ taken m c.args.to_submit =
    take_is_taken m c.args.to_submit c.word_count-count.result c.in_ok-batch.batch.taken c.take_first.new.self c.take_batch.new.self words (omega (arith, least, within))
    (c.in_ok-batch.ensures.ok ∙ ap (λ (es : List Sqe). m.table ++ rows_of m.world (length m.table) (taken_of m.submit_all m.world es)) listed)
    (c.in_ok-batch.ensures.taken ∙ ap (λ (es : List Sqe). length (taken_of m.submit_all m.world es)) listed) c.take_first.ensures.next in
    subst (Grows m) (sym same_machine) (grows_taken m c.args.to_submit)
