-- Completions that are findings of no kind.
use Rattle.findings.proofs.Common.{◌≡◌, ℕ, Bool, false, List, [], ◌∷◌, ◌++◌, refl, ℤ, Option, Some, None, ◌==◌, ◌&&◌, option_map_or, Row, is_cancel, has_flag, is_guard, is_soft_linked, is_bad, is_negative, is_transfer, Finding, Kind, EndedKind, Failed, Short, Severed, Canceled, TimedOut, Expired, NotFound, TooLate, WentOn, ended_kinds, sym, ap, ◌∙◌, and_left, and_right, or_parts, Circumstances, ending_of, ended_test, is_error, is_less, is_of, leaves_chain, next_in, severs, given, of_group, of_ended, is_notable}
use Rattle.std.proofs.lemmas.List.{append-nil}
use Rattle.findings.proofs.Groups.{the_finding}
use Rattle.finding_kinds.specs.declared.kind.Kind.TheVariants as group

-- If no kind of a group passes, there are no findings.
group_none : {K : Type 0} (whole : K → Kind) (test : K → Bool) (i n : ℕ) → ((kind : K) → test kind ≡ false) → (kinds : List K) → of_group whole test i n kinds ≡ []
group_none whole test i n h [] = refl
group_none whole test i n h (kind ∷ kinds) = ap (λ (b : Bool). given b (the_finding i (whole kind) n) ++ of_group whole test i n kinds) (h kind) ∙ group_none whole test i n h kinds

-- ---- completions

no_error : (errno : ℕ) (res : ℤ) → is_negative res ≡ false → is_error errno res ≡ false
no_error errno res h = and_left (is_negative res) _ h

module _ (c : Circumstances) (before : Option Row) (rows : List Row) (r : ℕ) (row : Row) where
  test_none : (o : Option ℤ) → option_map_or (is_notable row) o false ≡ false → (kind : EndedKind) → option_map_or (is_of kind c before row (next_in rows r)) o false ≡ false
  test_none None h kind = refl
  test_none (Some res) h kind = by kind
    where
      good : is_negative res ≡ false
      good = (or_parts (is_negative res) _ h).0

      whole : is_bad row res ≡ false
      whole = (or_parts (is_bad row res) _ (or_parts (is_negative res) _ h).1).0

      full : (is_transfer row.entry.opcode && is_less res row.entry.len) ≡ false
      full = (or_parts (is_bad row res) _ (or_parts (is_negative res) _ h).1).1

      by : (k : EndedKind) → is_of k c before row (next_in rows r) res ≡ false
      by Failed = and_left (is_negative res) _ good
      by (Short verdict) = and_left (is_transfer row.entry.opcode && is_less res row.entry.len) _ full
      by Severed = and_left (severs before row res) _ (and_right (is_soft_linked row) _ (and_left (is_bad row res) _ whole))
      by Canceled = and_left (is_error 125 res) _ (no_error 125 res good)
      by (TimedOut verdict) = and_left (is_guard row && is_error 62 res) _ (and_right (is_guard row) _ (no_error 62 res good))
      by Expired = and_right (row.entry.opcode == 11) _ (no_error 62 res good)
      by NotFound = and_right (is_cancel row.entry.opcode) _ (no_error 2 res good)
      by TooLate = and_right (is_cancel row.entry.opcode) _ (no_error 114 res good)
      by WentOn = and_left (leaves_chain before row res) _ (and_right (has_flag row.entry.flags 8) _ (and_left (is_bad row res) _ whole))

  -- A completion without an error and in full adds no finding.
  pub ended_none : (i : ℕ) (fs : List Finding) → option_map_or (is_notable row) (ending_of before row) false ≡ false → fs ≡ fs ++ of_ended i c before rows r row
  ended_none i fs h =
      sym (ap (λ (gs : List Finding). fs ++ gs) (group_none group.Ended (λ (kind : EndedKind). ended_test kind c before rows r row) i r (test_none (ending_of before row) h) ended_kinds) ∙ append-nil fs)
