-- A run has the threads of its setup.
use Rattle.findings.proofs.Common.{◌≡◌, ℕ, ◌+◌, List, length, Change, Event, Setup, Machine, program_of, thread_start, Grows, start, machine_at, IsAfter, sym, ap, ◌∙◌, length-map, grows_after}

pub threads_first : (s : Setup) → length (start s).threads ≡ length s.threads
threads_first s = length-map s.threads thread_start

same_threads : (m n : Machine) → Grows m n → length n.threads ≡ length m.threads
same_threads m n g = sym (length-map n.threads program_of) ∙ (ap length (sym g.setup.programs) ∙ length-map m.threads program_of)

-- After one more event.
pub threads_more : (s : Setup) (es : List Event) (i : ℕ) (e : Event) (past : List Change) (n : Machine) → IsAfter s es i e past n → length (machine_at s es i).threads ≡ length s.threads → length (machine_at s es (i + 1)).threads ≡ length s.threads
threads_more s es i e past n a h =
    let grown = grows_after (machine_at s es i) e a.link.formed a.link.next.accepted in
    ap (λ (x : Machine). length x.threads) (sym a.at.here ∙ a.link.next.changed) ∙ same_threads (machine_at s es i) _ grown ∙ h
