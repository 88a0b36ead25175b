-- The conflicts found for some numbers are those of the event.
use Rattle.findings.proofs.Common.{◌≡◌, ℕ, Bool, true, false, List, [], ◌∷◌, refl, Option, Some, None, slice_get, option_map_or, All, flat_map, Row, Setup, Machine, Effect, Nothing, Finding, Conflict, TimespecInUse, ConflictKind, conflict_kinds, sym, ap, ◌∙◌, subst, All-nil, All-append, and_parts, clash, is_candidate, is_conflict, conflicts, overwrites, of_timespecs, of_candidate, of_number, of_conflicts, of_effect, Covers}
use Rattle.findings.proofs.{Groups.group_only, Groups.group_there, Groups.is_conflict_kind, Groups.the_finding, OverwrittenTimes.timespecs_only, OverwrittenTimes.timespecs_there}
use Rattle.finding_rules.proofs.Members.{Has, contains_has, has_flat_map, has_left, has_right}

-- Whether the effect of an event is a finding about request q.
abbrev pub is_done : Setup → Machine → Effect → ConflictKind → ℕ → Bool
is_done s m d kind q = option_map_or (conflicts kind s m d q) (slice_get m.table q) false

-- ---- nothing else

-- What holds of each conflict holds of all findings that are computed.
module _ (P : Finding → Type 0) (i : ℕ) (s : Setup) (m : Machine) (d : Effect) (h : (kind : ConflictKind) (q : ℕ) → is_done s m d kind q ≡ true → P (the_finding i (Conflict kind) q)) where
  number_done : (q : ℕ) → All P (of_number i s m d q)
  number_done q = by (slice_get m.table q) refl
    where
      by : (o : Option Row) → slice_get m.table q ≡ o → All P (option_map_or (of_candidate i s m d q) o [])
      by None e = All-nil P
      by (Some row) e =
          group_only P Conflict (λ (kind : ConflictKind). conflicts kind s m d q row) i q conflict_kinds
          (λ kind t. h kind q (ap (λ (o : Option Row). option_map_or (conflicts kind s m d q) o false) e ∙ t))

  numbers_done : (numbers : List ℕ) → All P (flat_map (of_number i s m d) numbers)
  numbers_done [] = All-nil P
  numbers_done (q ∷ numbers) = All-append P (of_number i s m d q) (flat_map (of_number i s m d) numbers) (number_done q) (numbers_done numbers)

conflicts_done : (P : Finding → Type 0) (i : ℕ) (s : Setup) (m : Machine) (d : Effect) (numbers : List ℕ) → ((kind : ConflictKind) (q : ℕ) → is_done s m d kind q ≡ true → P (the_finding i (Conflict kind) q)) → All P (of_conflicts i s m d numbers)
conflicts_done P i s m Nothing numbers h = All-nil P
conflicts_done P i s m d numbers h = numbers_done P i s m d h numbers

-- What holds of each conflict and of each overwritten timespec holds of all findings.
pub effect_done : (P : Finding → Type 0) (i : ℕ) (s : Setup) (m : Machine) (d : Effect) (numbers : List ℕ) → ((kind : ConflictKind) (q : ℕ) → is_done s m d kind q ≡ true → P (the_finding i (Conflict kind) q))
    → ((slot : ℕ) → overwrites m d slot ≡ true → P (the_finding i TimespecInUse slot)) → All P (of_effect i s m d numbers)
effect_done P i s m d numbers h g = All-append P (of_conflicts i s m d numbers) (of_timespecs i m d) (conflicts_done P i s m d numbers h) (timespecs_only P i m d g)

-- ---- nothing left out

number_there : (i : ℕ) (s : Setup) (m : Machine) (d : Effect) (numbers : List ℕ) (kind : ConflictKind) (q : ℕ) → Covers m.table numbers → is_done s m d kind q ≡ true → Has (flat_map (of_number i s m d) numbers) (the_finding i (Conflict kind) q)
number_there i s m d numbers kind q covers h = by (slice_get m.table q) refl h
  where
    by : (o : Option Row) → slice_get m.table q ≡ o → option_map_or (conflicts kind s m d q) o false ≡ true → Has (flat_map (of_number i s m d) numbers) (the_finding i (Conflict kind) q)
    by None e t = absurd (clash t)
    by (Some row) e t =
        let parts = and_parts (is_candidate row) (is_conflict kind s m d q row) t in
        let candidate : option_map_or is_candidate (slice_get m.table q) false ≡ true = ap (λ (o : Option Row). option_map_or is_candidate o false) e ∙ parts.0 in
        let reported : Has (of_candidate i s m d q row) (the_finding i (Conflict kind) q) =
        group_there Conflict (λ (k : ConflictKind). conflicts k s m d q row) i q conflict_kinds kind (is_conflict_kind kind) t
        in
        let there : Has (of_number i s m d q) (the_finding i (Conflict kind) q) =
        subst (λ (o : Option Row). Has (option_map_or (of_candidate i s m d q) o []) (the_finding i (Conflict kind) q)) (sym e) reported
        in
        has_flat_map (of_number i s m d) numbers q (the_finding i (Conflict kind) q) (contains_has numbers q (covers q candidate)) there

nothing_done : (s : Setup) (m : Machine) (kind : ConflictKind) (q : ℕ) → is_done s m Nothing kind q ≡ true → ⊥
nothing_done s m kind q h = by (slice_get m.table q) h
  where
    by : (o : Option Row) → option_map_or (conflicts kind s m Nothing q) o false ≡ true → ⊥
    by None t = clash t
    by (Some row) t = clash (and_parts (is_candidate row) false t).1

conflict_there : (i : ℕ) (s : Setup) (m : Machine) (d : Effect) (numbers : List ℕ) (kind : ConflictKind) (q : ℕ) → Covers m.table numbers → is_done s m d kind q ≡ true → Has (of_conflicts i s m d numbers) (the_finding i (Conflict kind) q)
conflict_there i s m Nothing numbers kind q covers h = absurd (nothing_done s m kind q h)
conflict_there i s m d numbers kind q covers h = number_there i s m d numbers kind q covers h

pub effect_there : (i : ℕ) (s : Setup) (m : Machine) (d : Effect) (numbers : List ℕ) (kind : ConflictKind) (q : ℕ) → Covers m.table numbers → is_done s m d kind q ≡ true → Has (of_effect i s m d numbers) (the_finding i (Conflict kind) q)
effect_there i s m d numbers kind q covers h = has_left (of_conflicts i s m d numbers) (of_timespecs i m d) _ (conflict_there i s m d numbers kind q covers h)

pub timespec_there : (i : ℕ) (s : Setup) (m : Machine) (d : Effect) (numbers : List ℕ) (slot : ℕ) → overwrites m d slot ≡ true → Has (of_effect i s m d numbers) (the_finding i TimespecInUse slot)
timespec_there i s m d numbers slot h = has_right (of_conflicts i s m d numbers) (of_timespecs i m d) _ (timespecs_there i m d slot h)
