-- A key, a seed and a number determine a sample.
use Rattle.std.proofs.Common.{◌≡◌, ℕ, ◌+◌, ◌-◌, ◌*◌, ◌/◌, ◌^◌, ◌<◌, List, [], ◌∷◌, length, refl, sym, ap, ◌∙◌, subst, arith, inl, inr, true, false}
use Rattle.std.specs.Prelude.{Some, None, nat_lt, ◌==◌}
use Rattle.std.proofs.lemmas.Bool.{cases_lt}
use Rattle.std.proofs.lemmas.Bool.Decides.{nat_tests}
use Rattle.scenario.specs.declared.event.Event.{Event}
use Rattle.scenario.specs.declared.setup.Setup.{Setup}
use Rattle.machine.specs.declared.whole.Machine.{Machine}
use Rattle.machine.specs.Steps.{after}
use Rattle.machine.specs.Runs.{start}
use Rattle.sampling.specs.declared.draws.Source.{Source}
use Rattle.sampling.specs.declared.draws.SampleOptions.{SampleOptions}
use Rattle.sampling.specs.Draws.{mixed, source_of}
use Rattle.sampling.specs.Offers.{offer_of, rank_at, rank_of, position_of}
use Rattle.sampling.specs.Choosing.{IsChosen}
use Rattle.sampling.specs.Samples.{IsFree, IsPromptChoice, IsNext, IsEnd, IsRun, IsSample}
use Rattle.prompt_order.specs.Prompt.{begun_by}
use Rattle.prompt_order.proofs.Dues.{same_event, due_or_not}

-- ---- ranks differ

-- An actor that offers an event has a number below 65,554.
pub offered_below : (s : Source) (m : Machine) (actor : ℕ) (e : Event) → offer_of s m actor ≡ Some e → actor < 65554
offered_below s m actor e h = elim (cases_lt actor 65554) [
  | inl low ↦ low
  | inr high ↦
      let a : nat_lt actor 16 ≡ false = grind (arith, nat_tests) in
      let b : (actor == 16) ≡ false = grind (arith, nat_tests) in
      let c : nat_lt actor 65553 ≡ false = grind (arith, nat_tests) in
      let d : (actor == 65553) ≡ false = grind (arith, nat_tests) in
      let no : None ≡ Some e = rw (a, b, c, d) at h in absurd (cc)
]

same_rank : (key a b p q : ℕ) → a < 65554 → b < 65554 → rank_at key a p ≡ rank_at key b q → a ≡ b
unfolding rank_at
same_rank key a b p q l k h = parts (mixed key a p / 2 ^ 17) (mixed key b q / 2 ^ 17) a b l k h
  where
    parts : (x y a b : ℕ) → a < 65554 → b < 65554 → x * 2 ^ 17 + a ≡ y * 2 ^ 17 + b → a ≡ b
    parts x y a b l k h = omega arith

same_actor : (s : Source) (m : Machine) (e f : Event) (a : IsChosen s m e) (b : IsChosen s m f) → a.actor ≡ b.actor
same_actor s m e f a b =
    let x = a.greatest b.actor f b.ready in
    let y = b.greatest a.actor e a.ready in
    let same : rank_of s m a.actor ≡ rank_of s m b.actor = omega (arith, x, y) in
    same_rank s.key a.actor b.actor (position_of m a.actor) (position_of m b.actor) (offered_below s m a.actor e a.ready.offered) (offered_below s m b.actor f b.ready.offered) same

chosen_once : (s : Source) (m : Machine) (e f : Event) → IsChosen s m e → IsChosen s m f → e ≡ f
chosen_once s m e f a b =
    let k = same_actor s m e f a b in
    let p : offer_of s m b.actor ≡ Some e = subst (λ (n : ℕ). offer_of s m n ≡ Some e) k a.ready.offered in
    let q : offer_of s m b.actor ≡ Some f = b.ready.offered in
    let r : Some e ≡ Some f = sym p ∙ q in cc

-- ---- the next event

not_both : (s : Source) (m : Machine) (from : ℕ) (e : Event) (next : ℕ) → IsPromptChoice s m from e next → IsFree s m from → ⊥
not_both s m from e next h (inl late) = let no : true ≡ false = sym late ∙ h.prompt in absurd cc
not_both s m from e next h (inr none) = due_or_not m from h.request e h.due none

next_once : (s : Source) (m : Machine) (from : ℕ) (e f : Event) (a b : ℕ) → IsNext s m from e a → IsNext s m from f b → e ≡ f
next_once s m from e f a b (inl h) (inl k) = same_event m from h.request k.request e f h.due k.due
next_once s m from e f a b (inl h) (inr k) = absurd (not_both s m from e a h k.free)
next_once s m from e f a b (inr h) (inl k) = absurd (not_both s m from f b k h.free)
next_once s m from e f a b (inr h) (inr k) = chosen_once s m e f h.chosen k.chosen

row_once : (s : Source) (m : Machine) (from : ℕ) (e f : Event) (a b : ℕ) → IsNext s m from e a → IsNext s m from f b → a ≡ b
row_once s m from e f a b (inl h) (inl k) = h.stays ∙ sym k.stays
row_once s m from e f a b (inl h) (inr k) = absurd (not_both s m from e a h k.free)
row_once s m from e f a b (inr h) (inl k) = absurd (not_both s m from f b k h.free)
row_once s m from e f a b (inr h) (inr k) = h.begun ∙ ap (begun_by m) (chosen_once s m e f h.chosen k.chosen) ∙ sym k.begun

not_ended : (s : Source) (m : Machine) (from : ℕ) (e : Event) (a : ℕ) → IsEnd s m from → IsNext s m from e a → ⊥
not_ended s m from e a end (inl h) = not_both s m from e a h end.free
not_ended s m from e a end (inr h) = end.none.none h.chosen.actor e h.chosen.ready

-- ---- runs

rest : (s : Source) (most : ℕ) (m : Machine) (from : ℕ) (e : Event) (es : List Event) (h : IsRun s most m from (e ∷ es)) → IsRun s (most - 1) (after m e) h.all.0 es
rest s most m from e es h =
    let fits = h.within in
    record {
      next = h.next;
      all = h.all.2;
      within = omega (arith, fits);
      ends = λ (less : length es < most - 1). h.ends (omega (arith, less));
    }

ended_at_once : (s : Source) (most : ℕ) (m : Machine) (from : ℕ) (f : Event) (fs : List Event) → IsRun s most m from [] → IsRun s most m from (f ∷ fs) → ⊥
ended_at_once s most m from f fs h k =
    let fits = k.within in
    not_ended s m from f k.all.0 (subst (λ (n : ℕ). IsEnd s m n) (sym h.all) (h.ends (omega (arith, fits)))) k.all.1

runs_agree : (s : Source) (most : ℕ) (m : Machine) (from : ℕ) (a b : List Event) → IsRun s most m from a → IsRun s most m from b → a ≡ b
runs_agree s most m from [] [] h k = refl
runs_agree s most m from [] (f ∷ fs) h k = absurd (ended_at_once s most m from f fs h k)
runs_agree s most m from (e ∷ es) [] h k = absurd (ended_at_once s most m from e es k h)
runs_agree s most m from (e ∷ es) (f ∷ fs) h k =
    let first = next_once s m from e f h.all.0 k.all.0 h.all.1 k.all.1 in
    let row = row_once s m from e f h.all.0 k.all.0 h.all.1 k.all.1 in
    let there : IsRun s (most - 1) (after m f) h.all.0 fs = subst (λ (n : ℕ). IsRun s (most - 1) (after m f) n fs) (sym row) (rest s most m from f fs k) in
    let other : IsRun s (most - 1) (after m e) h.all.0 fs = subst (λ (x : Event). IsRun s (most - 1) (after m x) h.all.0 fs) (sym first) there in
    let later = runs_agree s (most - 1) (after m e) h.all.0 es fs (rest s most m from e es h) other in
    ap (λ x. x ∷ es) first ∙ ap (λ xs. f ∷ xs) later

pub repeatable : (setup : Setup) (options : SampleOptions) (seed number : ℕ) (a b : List Event) → IsSample setup options seed number a → IsSample setup options seed number b → a ≡ b
repeatable setup options seed number a b h k = runs_agree (source_of options seed number) options.most (start setup) 0 a b h k
