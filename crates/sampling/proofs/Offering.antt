-- What actors offer, by their numbers, and which have no event.
use Rattle.std.proofs.Common.{◌≡◌, ℕ, ◌+◌, ◌-◌, ◌<◌, ◌≤◌, Bool, true, false, refl, sym, ap, ◌∙◌, subst, arith, length, if◌then◌else◌}
use Rattle.std.specs.Prelude.{Option, Some, None, nat_lt, ◌==◌, ◌||◌, not, slice_get}
use Rattle.std.specs.Option.{option_map, option_map_or, option_and_then}
use Rattle.std.proofs.lemmas.Option.{slice_get_past}
use Rattle.std.proofs.lemmas.Bool.Decides.{nat_tests}
use Rattle.entries.specs.declared.row.Row.{Row}
use Rattle.entries.specs.declared.row.Phase.{Phase}
use Rattle.entries.specs.declared.row.Phase.TheVariants.{Queued, Issued, Ended}
use Rattle.links_drains.specs.Phases.{is_unfinished}
use Rattle.links_drains.specs.Numbered.{IsNextWhere, NoneWhere}
use Rattle.links_drains.specs.Units.{is_open}
use Rattle.scenario.specs.declared.event.Event.{Event}
use Rattle.scenario.specs.declared.event.Event.TheVariants.{Step}
use Rattle.machine.specs.declared.whole.Machine.{Machine}
use Rattle.machine.specs.Steps.{refusal, thread_refusal}
use Rattle.sampling.specs.declared.draws.Source.{Source}
use Rattle.sampling.specs.declared.choosing.Best.{Best}
use Rattle.sampling.specs.Locks.{holds, is_locked}
use Rattle.sampling.specs.Spots.{spot_of}
use Rattle.sampling.specs.Offers.{offer_of, rank_of, rank_at, thread_position, row_position, step_offer, row_offer, phase_offer}
use Rattle.sampling.specs.Choosing.{SaysBest, IsChosen, NoneChosen}
use Rattle.sampling.proofs.Ranking.{Idle, skipped}
use Rattle.sampling.proofs.Repeating.{offered_below}

-- ---- by number

pub offer_thread : (s : Source) (m : Machine) (t : ℕ) → t < 16 → offer_of s m t ≡ step_offer s m t
offer_thread s m t h = let a : nat_lt t 16 ≡ true = grind (arith, nat_tests) in rw a refl

pub rank_thread : (s : Source) (m : Machine) (t : ℕ) → t < 16 → rank_of s m t ≡ rank_at s.key t (thread_position (option_map spot_of (slice_get m.threads t)))
rank_thread s m t h = let a : nat_lt t 16 ≡ true = grind (arith, nat_tests) in rw a refl

pub offer_row : (s : Source) (m : Machine) (r : ℕ) → r < 65536 → offer_of s m (17 + r) ≡ row_offer s m r
offer_row s m r h =
    let a : nat_lt (17 + r) 16 ≡ false = grind (arith, nat_tests) in
    let b : (17 + r == 16) ≡ false = grind (arith, nat_tests) in
    let c : nat_lt (17 + r) 65553 ≡ true = grind (arith, nat_tests) in
    let d : 17 + r - 17 ≡ r = omega arith in
    rw (a, b, c, d) refl

pub rank_row : (s : Source) (m : Machine) (r : ℕ) → r < 65536 → rank_of s m (17 + r) ≡ rank_at s.key (17 + r) (row_position m r)
rank_row s m r h =
    let a : nat_lt (17 + r) 16 ≡ false = grind (arith, nat_tests) in
    let b : (17 + r == 16) ≡ false = grind (arith, nat_tests) in
    let c : nat_lt (17 + r) 65553 ≡ true = grind (arith, nat_tests) in
    let d : 17 + r - 17 ≡ r = omega arith in
    rw (a, b, c, d) refl

-- ---- threads

step_by : (t : ℕ) (f : Event) (b : Bool) → (if b then Some (Step t) else None) ≡ Some f → f ≡ Step t
step_by t f true h = cc
step_by t f false h = absurd (cc)

pub step_is : (s : Source) (m : Machine) (t : ℕ) (f : Event) → step_offer s m t ≡ Some f → f ≡ Step t
unfolding step_offer
step_is s m t f h = step_by t f ((s.unlocked || not (is_locked m)) || option_map_or holds (slice_get m.threads t) false) h

pub no_thread : (m : Machine) (t : ℕ) → slice_get m.threads t ≡ None → refusal m (Step t) ≡ None → ⊥
no_thread m t e h = let k : thread_refusal m None ≡ None = subst (λ o. thread_refusal m o ≡ None) e h in cc

pub threads_idle : (s : Source) (m : Machine) (n : ℕ) → length m.threads ≤ n → Idle s m n 16
threads_idle s m n le k low high f r =
    let is : f ≡ Step k = step_is s m k f (sym (offer_thread s m k high) ∙ r.offered) in
    no_thread m k (slice_get_past m.threads k (omega (arith, le, low))) (subst (λ e. refusal m e ≡ None) is r.accepted)

pub offer_free : (s : Source) (m : Machine) (t : ℕ) (free : Bool) → free ≡ (s.unlocked || not (is_locked m)) → t < 16 → (if free || option_map_or holds (slice_get m.threads t) false then Some (Step t) else None) ≡ offer_of s m t
unfolding step_offer
offer_free s m t free e h = ap (λ (b : Bool). if b || option_map_or holds (slice_get m.threads t) false then Some (Step t) else None) e ∙ sym (offer_thread s m t h)

-- ---- requests

closed_phase : (s : Source) (m : Machine) (r : ℕ) (row : Row) (p : Phase) → is_unfinished p ≡ false → phase_offer s m r row p ≡ None
closed_phase s m r row Queued h = absurd (cc)
closed_phase s m r row Issued h = absurd (cc)
closed_phase s m r row (Ended res) h = refl

closed_by : (s : Source) (m : Machine) (r : ℕ) (o : Option Row) → ((row : Row) → o ≡ Some row → is_open row ≡ false) → option_and_then (λ (row : Row). phase_offer s m r row row.phase) o ≡ None
closed_by s m r None closed = refl
closed_by s m r (Some row) closed = closed_phase s m r row row.phase (closed row refl)

pub row_closed : (s : Source) (m : Machine) (r : ℕ) → ((row : Row) → slice_get m.table r ≡ Some row → is_open row ≡ false) → row_offer s m r ≡ None
unfolding row_offer
row_closed s m r closed = closed_by s m r (slice_get m.table r) closed

pub rows_idle : (s : Source) (m : Machine) (from to : ℕ) → to ≤ 65536 → ((r : ℕ) → from ≤ r → r < to → row_offer s m r ≡ None) → Idle s m (17 + from) (17 + to)
rows_idle s m from to few none k low high f r =
    let same : k ≡ 17 + (k - 17) = omega (arith, low) in
    let small : k - 17 < 65536 = omega (arith, high, few, low) in
    let after : from ≤ k - 17 = omega (arith, low) in
    let before : k - 17 < to = omega (arith, high, low) in
    let e : offer_of s m (17 + (k - 17)) ≡ Some f = subst (λ (a : ℕ). offer_of s m a ≡ Some f) same r.offered in
    let no : None ≡ Some f = sym (none (k - 17) after before) ∙ sym (offer_row s m (k - 17) small) ∙ e in
    absurd (cc)

pub rows_before : (s : Source) (m : Machine) (from r : ℕ) (best : Option Best) → r < 65536 → IsNextWhere is_open m.table from r → SaysBest s m (17 + from) best → SaysBest s m (17 + r) best
rows_before s m from r best few next h =
    let after = next.after in
    skipped s m (17 + from) (17 + r) best (omega (arith, after)) (rows_idle s m from r (omega (arith, few)) (λ k low high. row_closed s m k (λ row e. next.least k row low high e))) h

pub rows_after : (s : Source) (m : Machine) (from : ℕ) (best : Option Best) → from ≤ 65536 → NoneWhere is_open m.table from → SaysBest s m (17 + from) best → SaysBest s m 65553 best
rows_after s m from best few none h =
    skipped s m (17 + from) 65553 best (omega (arith, few)) (rows_idle s m from 65536 (omega arith) (λ k low high. row_closed s m k (λ row e. none k row low e))) h

-- ---- all actors

pub best_is_chosen : (s : Source) (m : Machine) (b : Best) → SaysBest s m 65554 (Some b) → IsChosen s m b.event
best_is_chosen s m b h = record {
  actor = h.holds.actor;
  ready = h.holds.ready;
  greatest = λ k f r. subst (λ (a : ℕ). rank_of s m k ≤ a) h.holds.ranked (h.holds.greatest k (offered_below s m k f r.offered) f r);
}

pub none_is_chosen : (s : Source) (m : Machine) → SaysBest s m 65554 None → NoneChosen s m
none_is_chosen s m h = record { none = λ k f r. h.holds k (offered_below s m k f r.offered) f r }
