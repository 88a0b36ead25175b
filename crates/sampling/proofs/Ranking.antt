-- The best event of the actors below a number, and of one actor more.
use Rattle.std.proofs.Common.{◌≡◌, ℕ, ◌+◌, ◌<◌, ◌≤◌, Bool, true, false, refl, sym, ◌∙◌, subst, inl, inr, arith, below_more, if◌then◌else◌}
use Rattle.std.specs.Prelude.{Option, Some, None, is_none}
use Rattle.std.proofs.lemmas.Bool.{cases_lt}
use Rattle.std.proofs.lemmas.Bool.Decides.{nat_tests}
use Rattle.scenario.specs.declared.event.Event.{Event}
use Rattle.scenario.specs.declared.event.Refusal.{Refusal}
use Rattle.machine.specs.declared.whole.Machine.{Machine}
use Rattle.machine.specs.Steps.{refusal}
use Rattle.prompt_order.proofs.Dues.{none_of}
use Rattle.sampling.specs.declared.draws.Source.{Source}
use Rattle.sampling.specs.declared.choosing.Best.{Best}
use Rattle.sampling.specs.Offers.{offer_of, rank_of}
use Rattle.sampling.specs.Choosing.{IsReady, SaysBest, beats, challenged}

-- No event of the actors from n to p is accepted.
abbrev pub Idle : Source → Machine → ℕ → ℕ → Type 0
Idle s m n p = (k : ℕ) → n ≤ k → k < p → (f : Event) → IsReady s m k f → ⊥

-- Actors without an accepted event change nothing.
pub skipped : (s : Source) (m : Machine) (n p : ℕ) (best : Option Best) → n ≤ p → Idle s m n p → SaysBest s m n best → SaysBest s m p best
skipped s m n p None le idle h = record {
  holds = λ k low f r. elim (cases_lt k n) [ inl before ↦ h.holds k before f r | inr after ↦ idle k after low f r ];
}
skipped s m n p (Some b) le idle h =
    let was = h.holds.within in
    record {
      holds = record {
        actor = h.holds.actor;
        within = omega (arith, was, le);
        ready = h.holds.ready;
        ranked = h.holds.ranked;
        greatest = λ k low f r. elim (cases_lt k n) [ inl before ↦ h.holds.greatest k before f r | inr after ↦ absurd (idle k after low f r) ];
      };
    }

-- The same for one actor.
idle_one : (s : Source) (m : Machine) (n : ℕ) → ((f : Event) → IsReady s m n f → ⊥) → Idle s m n (n + 1)
idle_one s m n none k low high f r = let same : k ≡ n = omega (arith, low, high) in none f (subst (λ (a : ℕ). IsReady s m a f) same r)

pub skipped_one : (s : Source) (m : Machine) (n : ℕ) (best : Option Best) → ((f : Event) → IsReady s m n f → ⊥) → SaysBest s m n best → SaysBest s m (n + 1) best
skipped_one s m n best none h = skipped s m n (n + 1) best (omega arith) (idle_one s m n none) h

-- An actor whose rank isn't greater changes nothing.
pub kept : (s : Source) (m : Machine) (n rank : ℕ) (best : Option Best) → rank ≡ rank_of s m n → beats rank best ≡ false → SaysBest s m n best → SaysBest s m (n + 1) best
kept s m n rank None ranked under h = absurd (cc)
kept s m n rank (Some b) ranked under h =
    let was = h.holds.within in
    let low : rank ≤ b.rank = grind (arith, nat_tests) in
    record {
      holds = record {
        actor = h.holds.actor;
        within = omega (arith, was);
        ready = h.holds.ready;
        ranked = h.holds.ranked;
        greatest = below_more _ n h.holds.greatest (λ f r. subst (λ (a : ℕ). a ≤ b.rank) ranked low);
      };
    }

-- An actor of a greater rank whose event is accepted is the best.
higher : (s : Source) (m : Machine) (n rank : ℕ) (best : Option Best) → beats rank best ≡ true → SaysBest s m n best → (other : ℕ) → other < n → (f : Event) → IsReady s m other f → rank_of s m other ≤ rank
higher s m n rank None above h k low f r = absurd (h.holds k low f r)
higher s m n rank (Some b) above h k low f r =
    let old = h.holds.greatest k low f r in
    let more : b.rank < rank = grind (arith, nat_tests) in
    omega (arith, old, more)

is_best : (s : Source) (m : Machine) (n rank : ℕ) (best : Option Best) (e : Event) → rank ≡ rank_of s m n → beats rank best ≡ true → IsReady s m n e → SaysBest s m n best → SaysBest s m (n + 1) (Some (record { rank = rank; event = e }))
is_best s m n rank best e ranked above ready h = record {
  holds = record {
    actor = n;
    within = omega arith;
    ready = ready;
    ranked = ranked;
    greatest = below_more _ n (higher s m n rank best above h) (λ f r. subst (λ (a : ℕ). a ≤ rank) ranked (omega arith));
  };
}

refused : (o : Option Refusal) → is_none o ≡ false → o ≡ None → ⊥
refused None n e = cc
refused (Some x) n e = cc

by_test : (s : Source) (m : Machine) (n rank : ℕ) (best : Option Best) (e : Event) (b : Bool) → is_none (refusal m e) ≡ b → rank ≡ rank_of s m n → beats rank best ≡ true → offer_of s m n ≡ Some e → SaysBest s m n best → SaysBest s m (n + 1) (if b then Some (record { rank = rank; event = e }) else best)
by_test s m n rank best e true t ranked above offered h = is_best s m n rank best e ranked above (record { offered = offered; accepted = none_of (refusal m e) t }) h
by_test s m n rank best e false t ranked above offered h = skipped_one s m n best (λ f r. refused (refusal m f) (let same : e ≡ f = cc (offered, r.offered) in subst (λ (x : Event). is_none (refusal m x) ≡ false) same t) r.accepted) h

pub outranked : (s : Source) (m : Machine) (n rank : ℕ) (offer : Option Event) (best : Option Best) → rank ≡ rank_of s m n → offer_of s m n ≡ offer → beats rank best ≡ true → SaysBest s m n best → SaysBest s m (n + 1) (challenged m rank offer best)
outranked s m n rank None best ranked offered above h = skipped_one s m n best (λ f r. let wrong : None ≡ Some f = sym offered ∙ r.offered in absurd (cc)) h
outranked s m n rank (Some e) best ranked offered above h = by_test s m n rank best e (is_none (refusal m e)) refl ranked above offered h
