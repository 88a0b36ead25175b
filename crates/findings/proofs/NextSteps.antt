-- What threads do next, as the search follows it.
use Rattle.findings.proofs.Common.{◌≡◌, ℕ, Bool, true, false, List, [], ◌∷◌, map, refl, ◌==◌, if◌then◌else◌, slice_get, Change, Event, Step, Setup, Machine, after, machine_at, IsAfter, Watch, sym, ap, ◌∙◌, subst, eqb-true, All-nil, All-cons, is_step_of, watch_at, next_of, moved_by, next_after, AreNext, watched, thread_next}
use Rattle.findings.proofs.OtherThreads.{others_kept}
pub use Rattle.finding_rules.proofs.NextSteps.{stuck_next, waits_next}

kept : (s : Setup) (m n : Machine) (e : Event) (t : ℕ) → n ≡ after m e → is_step_of t e ≡ false → next_of s m t ≡ next_of s n t
kept s m n e t changed other = ap (thread_next s t) (sym (ap (λ (x : Machine). slice_get x.threads t) changed ∙ others_kept m e t other))

right : (s : Setup) (m n : Machine) (e : Event) (w : Watch) → n ≡ after m e → w.next ≡ next_of s m w.subject → next_after (moved_by s e n) w ≡ next_of s n w.subject
right s m n (Step t) w changed h = by (t == w.subject) refl
  where
    by : (b : Bool) → (t == w.subject) ≡ b → (if b then next_of s n t else w.next) ≡ next_of s n w.subject
    by true e = ap (next_of s n) (eqb-true t w.subject e)
    by false e = h ∙ kept s m n (Step t) w.subject changed e
right s m n e w changed h = h ∙ kept s m n e w.subject changed refl

all_right : (s : Setup) (es : List Event) (i : ℕ) (e : Event) (n : Machine) → n ≡ after (machine_at s es i) e → (ws : List Watch) → AreNext s e n (map (watch_at s es i) ws)
all_right s es i e n changed [] = All-nil (λ (w : Watch). next_after (moved_by s e n) w ≡ next_of s n w.subject)
all_right s es i e n changed (w ∷ ws) =
    All-cons (λ (x : Watch). next_after (moved_by s e n) x ≡ next_of s n x.subject) (watch_at s es i w) (map (watch_at s es i) ws) (right s (machine_at s es i) n e (watch_at s es i w) changed refl) (all_right s es i e n changed ws)

-- After an event the watched conditions have what their threads do next, but for the one that moved.
pub are_next : (s : Setup) (es : List Event) (i : ℕ) (e : Event) (past : List Change) (n : Machine) (ws : List Watch) → IsAfter s es i e past n → ws ≡ map (watch_at s es i) (watched s) → AreNext s e n ws
are_next s es i e past n ws at h = subst (AreNext s e n) (sym h) (all_right s es i e n at.link.next.changed (watched s))
