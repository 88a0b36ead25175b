-- Lemmas about what a submission consumes.
use Rattle.machine.proofs.Common.{◌≡◌, ℕ, ◌∙◌, ap, List, ◌++◌, length, take, ◌+◌, ◌-◌, ◌%◌, ◌≤◌, ◌^◌, arith, None, min, length-take-le, Row, rows_of, offered, entries_for, submission_refusal, taken, words_for, Machine, SubWords, sub_list}
use Rattle.machine.proofs.TakingWords.{take_least}

-- ---- Refusals

pub accepted_fits : (m : Machine) (k : ℕ) → submission_refusal m k ≡ None → length m.table + length (offered m.submissions k) ≤ 65536
accepted_fits = grind arith

-- ---- Words

-- To offer more words than there are offers all of them.
pub words_least : (w : SubWords) (k count : ℕ) → count ≡ min k (length (sub_list w)) → offered w count ≡ offered w k
words_least w k count h = ap (λ n. take n (sub_list w)) h ∙ take_least k (sub_list w)

-- ---- The machine after it

pub take_is_taken : (m : Machine) (k count taken_rows : ℕ) (ring : SubWords) (rows : List Row) → offered m.submissions count ≡ words_for m k → count ≤ length (sub_list m.submissions)
    → rows ≡ m.table ++ rows_of m.world (length m.table) (entries_for m k) → taken_rows ≡ length (entries_for m k)
    → ring ≡ record m.submissions { head = (m.submissions.head + count) % 2 ^ 32; dropped = (m.submissions.dropped + (count - taken_rows)) % 2 ^ 32 }
    → record m { submissions = ring; table = rows } ≡ taken m k
take_is_taken = grind (arith, length-take-le)
