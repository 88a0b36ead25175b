-- The collected events of a range, extended by one event.
use Rattle.timeline.proofs.Common.{◌≡◌, ℕ, ◌+◌, true, false, refl, sym, ap, ◌∙◌, subst, List, [], ◌∷◌, ◌++◌, map, add-one, append-nil, string_bytes, map-map, Change, Exact, NamesOnce, Event, Setup, Machine, view, moment, event_text, IsAfter, Changed, EventRange, change_text, rows, IsListing, has, StepPart, shown_line, IsStep, StepsIf, AreSteps, change_texts, change_shown}

-- A collected event is right if its lines show the listing of its exact undo record.
pub is_step : (s : Setup) (es : List Event) (i : ℕ) (e : Event) (past : List Change) (m : Machine) (listed : List Changed) (texts : List (List ℕ)) (x : StepPart)
    → IsAfter s es i e past m → NamesOnce past → IsListing (view m) past listed → texts ≡ map (change_text s) (rows listed)
    → string_bytes x.event ≡ event_text e → map (λ text. string_bytes text) x.lines.items ≡ map shown_line texts → map change_texts x.changes.items ≡ map (change_shown s) (rows listed) → IsStep s es i x
is_step s es i e past m listed texts x a once listing lines words shown changes = record {
  event = e;
  there = a.there;
  words = words;
  past = past;
  exact = subst (λ n. Exact (view (moment s es i)) (view n) past) a.at.here a.exact;
  once = once;
  listed = listed;
  listing = subst (λ n. IsListing (view n) past listed) a.at.here listing;
  changes = changes;
  lines = shown ∙ ap (map shown_line) lines ∙ map-map shown_line (change_text s) (rows listed);
}

-- An event in the range is collected.
pub steps_more : (s : Setup) (es : List Event) (r : EventRange) (i : ℕ) (xs ys : List StepPart) (x : StepPart) → has r i ≡ true → ys ≡ xs ++ x ∷ [] → IsStep s es i x → AreSteps s es r i xs → AreSteps s es r (i + 1) ys
steps_more s es r i xs ys x h e step before =
    subst (λ n. AreSteps s es r n ys) (sym (add-one i)) (xs, x ∷ [], e, subst (λ b. StepsIf b s es i (x ∷ [])) (sym h) (x, refl, step), before)

-- An event outside of the range is not collected.
pub steps_same : (s : Setup) (es : List Event) (r : EventRange) (i : ℕ) (xs : List StepPart) → has r i ≡ false → AreSteps s es r i xs → AreSteps s es r (i + 1) xs
steps_same s es r i xs h before =
    subst (λ n. AreSteps s es r n xs) (sym (add-one i)) (xs, [], sym (append-nil xs), subst (λ b. StepsIf b s es i []) (sym h) refl, before)
