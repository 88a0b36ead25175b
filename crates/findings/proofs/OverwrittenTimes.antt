-- The timespecs that an event overwrites are found among the pushed indexes.
use Rattle.findings.proofs.Common.{◌≡◌, ℕ, ◌+◌, ◌≤◌, Bool, true, false, List, [], ◌∷◌, ◌++◌, length, take, drop, get_or, refl, Some, slice_get, ◌==◌, ◌||◌, ◌&&◌, All, flat_map, list_any, Sqe, Machine, Finding, TimespecInUse, Effect, Nothing, Named, inl, inr, sym, ap, ◌∙◌, and_parts, and_from, eqb-true, eq-eqb, take_at_read, flat_map_more, All-nil, All-append, slice_get_within, get_or_from_slice_get, given, written_by, is_over_slot, overwrites, of_index, of_timespecs, is_sought, is_pushed_last, pushed_last}
use Rattle.findings.proofs.Groups.{each_whole, given_only, given_there, the_finding}
use Rattle.finding_rules.proofs.{Members.Has, Members.has_flat_map, Waiting.drop_get}

-- ---- one pushed index after the other

-- The findings about one more index.
pub indexes_more : (i : ℕ) (slots : List Sqe) (range : ℕ × ℕ) (words : List ℕ) (passed k slot : ℕ) (b : Bool) (start found now : List Finding) → slice_get words (passed + k) ≡ Some slot → b ≡ is_over_slot slots range slot
    → found ≡ start ++ flat_map (of_index i slots range) (take k (drop passed words)) → now ≡ found ++ given b (the_finding i TimespecInUse slot)
    → now ≡ start ++ flat_map (of_index i slots range) (take (k + 1) (drop passed words))
indexes_more i slots range words passed k slot b start found now there t h g =
    let rest : List ℕ = drop passed words in
    let here : slice_get rest k ≡ Some slot = drop_get words passed k ∙ there in
    let read : get_or rest k slot ≡ slot = get_or_from_slice_get rest k slot slot here in
    let more : take (k + 1) rest ≡ take k rest ++ slot ∷ [] =
    (take_at_read rest k slot (slice_get_within rest k slot here)).1 ∙ ap (λ (x : ℕ). take k rest ++ x ∷ []) read
    in
    g
    ∙ ap (λ (xs : List Finding). xs ++ given b (the_finding i TimespecInUse slot)) h
    ∙ ap (λ (c : Bool). (start ++ flat_map (of_index i slots range) (take k rest)) ++ given c (the_finding i TimespecInUse slot)) t
    ∙ flat_map_more (of_index i slots range) start (take k rest) slot
    ∙ ap (λ (xs : List ℕ). start ++ flat_map (of_index i slots range) xs) (sym more)

-- After the last index.
pub indexes_all : (i : ℕ) (slots : List Sqe) (range : ℕ × ℕ) (rest : List ℕ) (k : ℕ) (start found : List Finding) → length rest ≤ k → found ≡ start ++ flat_map (of_index i slots range) (take k rest) → found ≡ start ++ flat_map (of_index i slots range) rest
indexes_all i slots range rest k start found l h = each_whole (of_index i slots range) rest k start found l h

-- ---- nothing else

any_has : (slots : List Sqe) (slot : ℕ) (words : List ℕ) → Has words slot → list_any (is_sought slots (Named slot)) words ≡ true
any_has slots slot [] h = absurd h
any_has slots slot (w ∷ ws) (inl e) = ap (λ (b : Bool). b || list_any (is_sought slots (Named slot)) ws) (eq-eqb w slot e)
any_has slots slot (w ∷ ws) (inr h) = by (w == slot) (any_has slots slot ws h)
  where
    by : (b : Bool) → list_any (is_sought slots (Named slot)) ws ≡ true → (b || list_any (is_sought slots (Named slot)) ws) ≡ true
    by true e = refl
    by false e = e

has_any : (slots : List Sqe) (slot : ℕ) (words : List ℕ) → list_any (is_sought slots (Named slot)) words ≡ true → Has words slot
has_any slots slot [] h = cc
has_any slots slot (w ∷ ws) h = by (w == slot) refl h (has_any slots slot ws)
  where
    by : (b : Bool) → (w == slot) ≡ b → (b || list_any (is_sought slots (Named slot)) ws) ≡ true → (list_any (is_sought slots (Named slot)) ws ≡ true → Has ws slot) → Has (w ∷ ws) slot
    by true e t ih = inl (eqb-true w slot e)
    by false e t ih = inr (ih t)

indexes_only : (P : Finding → Type 0) (i : ℕ) (slots : List Sqe) (range : ℕ × ℕ) (words : List ℕ) → ((slot : ℕ) → Has words slot → is_over_slot slots range slot ≡ true → P (the_finding i TimespecInUse slot))
    → All P (flat_map (of_index i slots range) words)
indexes_only P i slots range [] h = All-nil P
indexes_only P i slots range (w ∷ ws) h =
    All-append P (of_index i slots range w) (flat_map (of_index i slots range) ws) (given_only P (is_over_slot slots range w) (the_finding i TimespecInUse w) (h w (inl refl)))
    (indexes_only P i slots range ws (λ slot there. h slot (inr there)))

-- What is pushed and overwritten is what the search looks at.
over_pushed : (m : Machine) (range : ℕ × ℕ) (slot : ℕ) → Has (pushed_last m.submissions) slot → is_over_slot m.submissions.slots range slot ≡ true
    → (is_pushed_last m.submissions slot && is_over_slot m.submissions.slots range slot) ≡ true
over_pushed m range slot h t = and_from (is_pushed_last m.submissions slot) (is_over_slot m.submissions.slots range slot) (any_has m.submissions.slots slot (pushed_last m.submissions) h) t

pub timespecs_only : (P : Finding → Type 0) (i : ℕ) (m : Machine) (d : Effect) → ((slot : ℕ) → overwrites m d slot ≡ true → P (the_finding i TimespecInUse slot)) → All P (of_timespecs i m d)
timespecs_only P i m Nothing h = All-nil P
timespecs_only P i m d h = indexes_only P i m.submissions.slots (written_by d) (pushed_last m.submissions) (λ slot there t. h slot (over_pushed m (written_by d) slot there t))

-- ---- nothing left out

slot_there : (i : ℕ) (m : Machine) (range : ℕ × ℕ) (slot : ℕ) → (is_pushed_last m.submissions slot && is_over_slot m.submissions.slots range slot) ≡ true
    → Has (flat_map (of_index i m.submissions.slots range) (pushed_last m.submissions)) (the_finding i TimespecInUse slot)
slot_there i m range slot h =
    let parts = and_parts (is_pushed_last m.submissions slot) (is_over_slot m.submissions.slots range slot) h in
    has_flat_map (of_index i m.submissions.slots range) (pushed_last m.submissions) slot (the_finding i TimespecInUse slot) (has_any m.submissions.slots slot (pushed_last m.submissions) parts.0)
    (given_there (is_over_slot m.submissions.slots range slot) (the_finding i TimespecInUse slot) parts.1)

pub timespecs_there : (i : ℕ) (m : Machine) (d : Effect) (slot : ℕ) → overwrites m d slot ≡ true → Has (of_timespecs i m d) (the_finding i TimespecInUse slot)
timespecs_there i m Nothing slot h = cc
timespecs_there i m d slot h = slot_there i m (written_by d) slot h
