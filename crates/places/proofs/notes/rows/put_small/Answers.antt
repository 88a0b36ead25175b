use Rattle.std.proofs.Common.{rules, w64}
use Rattle.std.proofs.lemmas.Int.{to_z-of_z}
use Rattle.places.specs.declared.value.Value.TheVariants.{Signed, Entry, Completed, Staged, Reaped, Awake}
use Rattle.places.proofs.notes.rows.put_small.Goals as goal

pub returns-in-Amount : goal.returns-in-Amount
returns-in-Amount c = rw (c.in-Amount.is) c.put_number_change.ensures

pub returns-in_ok-put_framed-in-Answer : goal.returns-in_ok-put_framed-in-Answer
returns-in_ok-put_framed-in-Answer c = rw (c.in-Answer.is) (c.in_ok-put_framed-in-Answer.ensures (Signed c.in-Answer.number) (rw (to_z-of_z w64 c.in-Answer.number (search rules)) at c.signed_numbers.ensures))

pub returns-in_ok-put_framed-in-Submitted : goal.returns-in_ok-put_framed-in-Submitted
returns-in_ok-put_framed-in-Submitted c = rw (c.in-Submitted.is) (c.in_ok-put_framed-in-Submitted.ensures (Entry c.in-Submitted.entry) c.entry_numbers.ensures)

pub returns-in_ok-put_framed-in-Posted : goal.returns-in_ok-put_framed-in-Posted
returns-in_ok-put_framed-in-Posted c = rw (c.in-Posted.is) (c.in_ok-put_framed-in-Posted.ensures (Completed c.in-Posted.completion) c.completion_numbers.ensures)

pub returns-in_ok-put_framed-in-Next : goal.returns-in_ok-put_framed-in-Next
returns-in_ok-put_framed-in-Next c = rw (c.in-Next.is) (c.in_ok-put_framed-in-Next.ensures (Staged c.in-Next.stage) c.stage_numbers.ensures)

pub returns-in_ok-put_framed-in-Taken : goal.returns-in_ok-put_framed-in-Taken
returns-in_ok-put_framed-in-Taken c = rw (c.in-Taken.is) (c.in_ok-put_framed-in-Taken.ensures (Reaped c.in-Taken.reaped) c.reaped_numbers.ensures)

pub returns-in_ok-put_framed-in-Up : goal.returns-in_ok-put_framed-in-Up
returns-in_ok-put_framed-in-Up c = rw (c.in-Up.is) (c.in_ok-put_framed-in-Up.ensures (Awake c.in-Up.awake) c.awake_numbers.ensures)
