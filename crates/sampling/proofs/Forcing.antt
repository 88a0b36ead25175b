-- Events that each run does next, whatever it draws.
use Rattle.std.proofs.Common.{◌≡◌, ℕ, suc, ◌<◌, ◌≤◌, Bool, true, false, refl, sym, ap, ◌∙◌, subst, inl, inr, arith, if◌then◌else◌}
use Rattle.std.specs.Prelude.{Option, Some, None, is_none, not, ◌||◌, ◌==◌, slice_get}
use Rattle.std.specs.Option.{option_map_or}
use Rattle.std.proofs.lemmas.Bool.{and_parts, cases_lt, or_left, or_right}
use Rattle.entries.specs.declared.row.Phase.{Phase}
use Rattle.entries.specs.declared.row.Phase.TheVariants.{Queued, Issued, Ended}
use Rattle.links_drains.specs.Phases.{is_issued, is_unfinished}
use Rattle.links_drains.specs.Numbered.{NoneWhere}
use Rattle.links_drains.specs.Units.{is_open}
use Rattle.ring_words.specs.Rings.{waiting}
use Rattle.sqpoll.specs.declared.poller.Poller.{Poller}
use Rattle.sqpoll.specs.declared.poller.Poller.TheVariants.{Awake, Asleep}
use Rattle.scenario.specs.declared.event.Event.{Event}
use Rattle.scenario.specs.declared.event.Event.TheVariants.{Step, Sleep}
use Rattle.scenario.specs.declared.event.Refusal.{Refusal}
use Rattle.scenario.specs.declared.event.Refusal.TheVariants.{NotIdle}
use Rattle.machine.specs.declared.whole.Machine.{Machine}
use Rattle.machine.specs.Steps.{refusal, sleep_refusal}
use Rattle.prompt_order.proofs.Dues.{none_of}
use Rattle.sampling.specs.declared.draws.Source.{Source}
use Rattle.sampling.specs.Locks.{holds, is_locked}
use Rattle.sampling.specs.Offers.{offer_of, rank_of, poller_offer, poller_offer_by, clock_offer, tick_to}
use Rattle.sampling.specs.Choosing.{IsReady, IsChosen}
use Rattle.sampling.specs.Samples.{SaysOnly}
use Rattle.sampling.proofs.Deadlines.{least_end}
use Rattle.sampling.proofs.Ending.{step_free, not_free, holder}
use Rattle.sampling.proofs.Offering.{offer_thread, step_is, row_closed, rows_idle}
use Rattle.sampling.proofs.Repeating.{offered_below}

-- ---- the poller

quiet_by : (s : Source) (m : Machine) (o : Option Poller) → (sleep_refusal m o ≡ None → ⊥) → (sleep_refusal m o ≡ Some NotIdle → ⊥) → poller_offer_by s m o ≡ None
quiet_by s m None a b = refl
quiet_by s m (Some Asleep) a b = refl
quiet_by s m (Some Awake) a b = absurd (by (waiting m.submissions.head m.submissions.tail == 0) refl a b)
  where
    by : (c : Bool) → (waiting m.submissions.head m.submissions.tail == 0) ≡ c → ((if c then None else Some NotIdle) ≡ None → ⊥) → ((if c then None else Some NotIdle) ≡ Some NotIdle → ⊥) → ⊥
    by true e a b = a refl
    by false e a b = b refl

-- A poller that can neither sleep nor take entries offers nothing.
pub poller_quiet : (s : Source) (m : Machine) (r : Refusal) → refusal m Sleep ≡ Some r → (r ≡ NotIdle → ⊥) → poller_offer s m ≡ None
unfolding poller_offer
poller_quiet s m r h other = quiet_by s m m.poller (λ none. let no : None ≡ Some r = sym none ∙ h in absurd cc) (λ idle. other (let same : Some NotIdle ≡ Some r = sym idle ∙ h in cc))

-- ---- the clock

not_issued : (p : Phase) → is_unfinished p ≡ false → is_issued p ≡ false
not_issued Queued h = absurd cc
not_issued Issued h = absurd cc
not_issued (Ended res) h = refl

clock_quiet : (m : Machine) → NoneWhere is_open m.table 0 → clock_offer m ≡ None
unfolding clock_offer
clock_quiet m none =
    ap (λ o. tick_to m.clock o) (sym (least_end m 0 None (omega arith) (λ i row low there. not_issued row.phase (none i row low there)) refl))

-- ---- the one thread

module _ (s : Source) (m : Machine) (t : ℕ) (low : t < 16) (only : (n : ℕ) → SaysOnly m n (Some t)) where
  accepted : refusal m (Step t) ≡ None
  accepted = (only 0).0

  alone : (k : ℕ) → refusal m (Step k) ≡ None → k ≡ t
  alone k h = (only (suc k)).1 k (omega arith) h

  may_step : (b : Bool) → (s.unlocked || not (is_locked m)) ≡ b → ((s.unlocked || not (is_locked m)) || option_map_or holds (slice_get m.threads t) false) ≡ true
  may_step true e = or_left _ _ e
  may_step false e =
      let k = holder m (not_free s.unlocked (is_locked m) e) in
      let both = and_parts (option_map_or holds (slice_get m.threads k.0) false) (is_none (refusal m (Step k.0))) k.2 in
      let same = alone k.0 (none_of (refusal m (Step k.0)) both.1) in
      or_right _ _ (subst (λ (a : ℕ). option_map_or holds (slice_get m.threads a) false ≡ true) same both.0)

  offered : offer_of s m t ≡ Some (Step t)
  offered = step_free s m t low (may_step (s.unlocked || not (is_locked m)) refl)

-- Of the actors at most the thread has an accepted event.
is_thread : (s : Source) (m : Machine) (t : ℕ) → ((k : ℕ) → refusal m (Step k) ≡ None → k ≡ t) → NoneWhere is_open m.table 0 → poller_offer s m ≡ None → (k : ℕ) (f : Event) → IsReady s m k f → k ≡ t
is_thread s m t alone none poller k f r = elim (cases_lt k 16) [
  | inl thread ↦
      let is : f ≡ Step k = step_is s m k f (sym (offer_thread s m k thread) ∙ r.offered) in
      alone k (subst (λ (e : Event). refusal m e ≡ None) is r.accepted)
  | inr high ↦ elim (cases_lt k 17) [
    | inl below ↦
        let same : k ≡ 16 = omega (arith, high, below) in
        let no : None ≡ Some f = sym poller ∙ subst (λ (a : ℕ). offer_of s m a ≡ Some f) same r.offered in
        absurd cc
    | inr rows ↦ elim (cases_lt k 65553) [
      | inl row ↦ absurd (rows_idle s m 0 65536 (omega arith) (λ i a b. row_closed s m i (λ x e. none i x a e)) k rows row f r)
      | inr last ↦
          let below = offered_below s m k f r.offered in
          let same : k ≡ 65553 = omega (arith, last, below) in
          let no : None ≡ Some f = sym (clock_quiet m none) ∙ subst (λ (a : ℕ). offer_of s m a ≡ Some f) same r.offered in
          absurd cc
    ]
  ]
]

-- Where one thread can do a step and nothing else can happen, each run does that step.
pub step_forced : (m : Machine) (t : ℕ) → t < 16 → NoneWhere is_open m.table 0 → ((s : Source) → poller_offer s m ≡ None) → ((n : ℕ) → SaysOnly m n (Some t)) → (s : Source) → IsChosen s m (Step t)
step_forced m t low none poller only s = record {
  actor = t;
  ready = record { offered = offered s m t low only; accepted = (only 0).0 };
  greatest = λ k f r.
      let same = is_thread s m t (alone s m t low only) none (poller s) k f r in
      subst (λ (a : ℕ). rank_of s m k ≤ rank_of s m a) same (omega arith);
}
