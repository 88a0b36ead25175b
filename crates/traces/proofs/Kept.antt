-- What the setup in a trace has in common with the setup that was written.
use Rattle.std.proofs.Common.{◌≡◌, ℕ, ◌+◌, ◌-◌, ◌≤◌, true, List, ◌++◌, length, Option, Some, None, refl, sym, ap, ◌∙◌, length-append, arith}
use Rattle.std.specs.Prelude.{nat_le}
use Rattle.std.proofs.Math.ListN.{replicate}
use Rattle.std.proofs.lemmas.Bool.{and_parts}
use Rattle.std.proofs.lemmas.List.{append_assoc, length-replicate, replicate-append-replicate}
use Rattle.ring_words.specs.Rings.{rounded}
use Rattle.scenario.specs.Setups.{completion_entries, setup_refusal}
use Rattle.scenario.specs.declared.setup.Setup.{Setup}
use Rattle.traces.specs.Limits.{is_within, keeps_completions}
use Rattle.traces.specs.Setups.{trimmed, completion_size, canonical}
use Rattle.traces.proofs.ObjectLaws.{within_most}
use Rattle.traces.proofs.Startable.{startable, starting}
use Rattle.traces.proofs.Trimming.{required, canonical_kept, completion_again, entries_again, only_zeros, rings_kept}

-- ---- a run can start from it

pub canonical_starts : (s : Setup) → setup_refusal s ≡ None → setup_refusal (canonical s) ≡ None
canonical_starts s h = starting (canonical s) (canonical_kept s (startable s h)).1

-- ---- its rings have the same sizes

pub submission_size_kept : (s : Setup) → setup_refusal s ≡ None → rounded (canonical s).entries ≡ rounded s.entries
submission_size_kept s h = entries_again s.entries (rings_kept s (required s (startable s h)).rings).0

pub completion_size_kept : (s : Setup) → setup_refusal s ≡ None → rounded (completion_entries (canonical s).entries (canonical s).cq) ≡ rounded (completion_entries s.entries s.cq)
completion_size_kept s h = by s.cq (rings_kept s (required s (startable s h)).rings).1
  where
    by : (cq : Option ℕ) → keeps_completions s.entries cq ≡ true → rounded (completion_size s.entries cq) ≡ rounded (completion_entries s.entries cq)
    by None k = refl
    by (Some n) k = completion_again n (within_most 1 8192 n (and_parts (is_within 1 8192 n) (nat_le (rounded s.entries) (rounded n)) k).0)

-- ---- its memory is the same, up to zeros at the end

pub trimmed_filled : (size : ℕ) (bytes : List ℕ) → length bytes ≤ size
    → trimmed bytes ++ replicate (size - length (trimmed bytes)) 0 ≡ bytes ++ replicate (size - length bytes) 0
trimmed_filled size bytes le =
    let z = only_zeros bytes in
    let long : length bytes ≡ length (trimmed bytes) + z.count =
    ap length z.are ∙ length-append (trimmed bytes) (replicate z.count 0) ∙ ap (λ (n : ℕ). length (trimmed bytes) + n) (length-replicate z.count 0) in
    let left : z.count + (size - length bytes) ≡ size - length (trimmed bytes) = omega (arith, long, le) in
    sym (ap (λ (xs : List ℕ). xs ++ replicate (size - length bytes) 0) z.are
    ∙ append_assoc (trimmed bytes) (replicate z.count 0) (replicate (size - length bytes) 0)
    ∙ ap (λ (xs : List ℕ). trimmed bytes ++ xs) (replicate-append-replicate z.count (size - length bytes) 0)
    ∙ ap (λ (n : ℕ). trimmed bytes ++ replicate n 0) left)

pub memory_few : (s : Setup) → setup_refusal s ≡ None → length s.memory ≤ 65536
memory_few s h = (required s (startable s h)).memory
