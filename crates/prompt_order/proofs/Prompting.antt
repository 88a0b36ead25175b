-- Prompt runs, one event after the other.
use Rattle.std.proofs.Common.{◌≡◌, ℕ, zero, suc, ◌+◌, ◌<◌, ◌≤◌, refl, sym, ap, ◌∙◌, subst, inl, inr, List, [], ◌∷◌, ◌++◌, length, take, get_or}
use Rattle.std.specs.Prelude.{Some, slice_get}
use Rattle.std.proofs.lemmas.List.{take_more, take_all}
use Rattle.scenario.specs.declared.event.Event.{Event}
use Rattle.scenario.specs.declared.setup.Setup.{Setup}
use Rattle.machine.specs.declared.whole.Machine.{Machine}
use Rattle.machine.specs.Steps.{after, Next}
use Rattle.machine.specs.Runs.{start, run, moment}
use Rattle.machine.proofs.Longer.{run-push}
use Rattle.prompt_order.specs.Prompt.{IsDue, IsPromptNext, IsPromptFrom, IsPrompt, IsFirstLate}
use Rattle.prompt_order.proofs.Dues.{due_or_not, same_event, one_way}

-- Prompt events, and then prompt events from there on.
pub prompt_append : (m : Machine) (from : ℕ) (es fs : List Event) (mid next : ℕ) → IsPromptFrom m from es mid → IsPromptFrom (run m es) mid fs next → IsPromptFrom m from (es ++ fs) next
prompt_append m from [] fs mid next h k = subst (λ (n : ℕ). IsPromptFrom m n fs next) (sym h) k
prompt_append m from (e ∷ es) fs mid next h k = (h.0, h.1, prompt_append (after m e) h.0 es fs mid next h.2 k)

-- The first i events of a run are prompt. The submission has reached request `from` after them.
pub record IsPromptUpTo (s : Setup) (es : List Event) (i from : ℕ) (m : Machine) : Type 0 where
  pub here : m ≡ moment s es i
  pub prompt : IsPromptFrom (start s) 0 (take i es) from

-- One event more.
pub prompt_more : (s : Setup) (es : List Event) (i from next : ℕ) (m n : Machine) (d : Event) → i < length es → IsPromptUpTo s es i from m → Next m (get_or es i d) n → IsPromptNext m from (get_or es i d) next → IsPromptUpTo s es (i + 1) next n
prompt_more s es i from next m n d less h is k =
    let e = get_or es i d in
    let longer = take_more es i d less in
    let last : IsPromptFrom (run (start s) (take i es)) from (e ∷ []) next = (next, subst (λ (x : Machine). IsPromptNext x from e next) h.here k, refl) in
    record {
      here = is.changed ∙ ap (λ (x : Machine). after x e) h.here ∙ sym (run-push (start s) (take i es) e) ∙ ap (λ xs. run (start s) xs) (sym longer);
      prompt = subst (λ xs. IsPromptFrom (start s) 0 xs next) (sym longer) (prompt_append (start s) 0 (take i es) (e ∷ []) from next h.prompt last);
    }

-- At the end the whole run is prompt.
pub all_prompt : (s : Setup) (es : List Event) (i from : ℕ) (m : Machine) → length es ≤ i → IsPromptUpTo s es i from m → IsPrompt s es
all_prompt s es i from m end h = (from, subst (λ xs. IsPromptFrom (start s) 0 xs from) (take_all i es end) h.prompt)

-- ---- a late event

prompt_at : (m : Machine) (from : ℕ) (es : List Event) (next i : ℕ) (e : Event) → slice_get es i ≡ Some e → IsPromptFrom m from es next → (mid : ℕ) × (on : ℕ) × IsPromptFrom m from (take i es) mid × IsPromptNext (run m (take i es)) mid e on
prompt_at m from [] next i e there h = absurd cc
prompt_at m from (x ∷ xs) next zero e there h =
    let same : x ≡ e = cc in
    (from, h.0, refl, subst (λ (f : Event). IsPromptNext m from f h.0) same h.1)
prompt_at m from (x ∷ xs) next (suc i) e there h =
    let k = prompt_at (after m x) h.0 xs next i e there h.2 in
    (k.0, k.1, (h.0, h.1, k.2), k.3)

prompt_once : (m : Machine) (from : ℕ) (es : List Event) (a b : ℕ) → IsPromptFrom m from es a → IsPromptFrom m from es b → a ≡ b
prompt_once m from [] a b h k = sym h ∙ k
prompt_once m from (e ∷ es) a b h k = prompt_once (after m e) h.0 es a b h.2 (subst (λ (n : ℕ). IsPromptFrom (after m e) n es b) (one_way m from k.0 h.0 e k.1 h.1) k.2)

not_next : (m : Machine) (from r : ℕ) (e f : Event) (next : ℕ) → IsDue m from r e → (f ≡ e → ⊥) → IsPromptNext m from f next → ⊥
not_next m from r e f next due other (inl h) = other (same_event m from h.0 r f e h.1 due)
not_next m from r e f next due other (inr h) = due_or_not m from r e due h.0

-- A run with a late event isn't prompt.
pub late_not_prompt : (s : Setup) (es : List Event) (index r : ℕ) (e : Event) → IsFirstLate s es index r e → IsPrompt s es → ⊥
late_not_prompt s es index r e l p =
    let k = prompt_at (start s) 0 es p.0 index l.late l.there p.1 in
    let same = prompt_once (start s) 0 (take index es) k.0 l.from k.2 l.prompt in
    not_next (moment s es index) l.from r e l.late k.1 l.due l.other (subst (λ (n : ℕ). IsPromptNext (moment s es index) n l.late k.1) same k.3)
