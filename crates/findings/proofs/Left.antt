-- Requests that are incomplete at the end, and files that aren't durable.
use Rattle.findings.proofs.Common.{◌≡◌, ℕ, zero, suc, ◌+◌, ◌<◌, ◌≤◌, Bool, true, false, List, [], ◌∷◌, ◌++◌, length, drop, refl, Option, Some, None, slice_get, nat_lt, ◌&&◌, option_map_or, All, flat_map, enumerate_from, Row, is_open, Event, Setup, Machine, machine_at, Finding, Kind, Left, LeftKind, Unfinished, NotDurable, Verdict, Fault, Note, inl, inr, sym, ap, ◌∙◌, subst, arith, append-nil, drop_all, All-nil, All-append, and_parts, and_from, lt-ltb, ltb-true, flat_map-append, fault_if, has_fsync, is_left, is_verdict, has_unsynced, EndsOver, IsLeftAt, IsLeft, of_left, all_left, of_object, all_unsynced, all_at_end, AreLeft, numbers_below}
use Rattle.std.proofs.Common.{append_assoc}
use Rattle.findings.proofs.{Groups.given_only, Groups.given_there, Groups.the_finding, Lasting.one_end}
use Rattle.finding_rules.proofs.{Between.below_there, Members.Has, Members.has_contains, Members.has_flat_map, Members.has_left, Members.has_right}

-- The first of the remaining requests.
row_first : (rows rest : List Row) (k : ℕ) (row : Row) → drop k rows ≡ row ∷ rest → (slice_get rows k ≡ Some row) × (drop (suc k) rows ≡ rest)
row_first [] rest zero row e = cc
row_first [] rest (suc k) row e = cc
row_first (x ∷ rows) rest zero row e = (let h : x ≡ row = cc in ap Some h, let t : rows ≡ rest = cc in t)
row_first (x ∷ rows) rest (suc k) row e = row_first rows rest k row e

-- ---- verdicts

verdict_is : (b : Bool) → is_verdict (fault_if b) b ≡ true
verdict_is true = refl
verdict_is false = refl

one_verdict : (v : Verdict) (b : Bool) → is_verdict v b ≡ true → fault_if b ≡ v
one_verdict Fault true h = refl
one_verdict Fault false h = cc
one_verdict Note true h = cc
one_verdict Note false h = refl

-- ---- requests

-- What holds of each incomplete request holds of all findings about the rest of a table.
rest_open : (P : Finding → Type 0) (n k : ℕ) (over : Bool) (rows rest : List Row) → ((r : ℕ) → option_map_or is_open (slice_get rows r) false ≡ true → P (the_finding n (Left (Unfinished (fault_if over))) r)) → drop k rows ≡ rest
    → All P (flat_map (of_left n over) (enumerate_from k rest))
rest_open P n k over rows [] h e = All-nil P
rest_open P n k over rows (row ∷ rest) h e =
    let first = row_first rows rest k row e in
    let up : suc k ≡ k + 1 = omega arith in
    All-append P (of_left n over (k, row)) (flat_map (of_left n over) (enumerate_from (k + 1) rest))
    (given_only P (is_open row) (the_finding n (Left (Unfinished (fault_if over))) k) (λ t. h k (ap (λ (o : Option Row). option_map_or is_open o false) first.0 ∙ t)))
    (rest_open P n (k + 1) over rows rest h (ap (λ (j : ℕ). drop j rows) (sym up) ∙ first.1))

number_there : (k r : ℕ) (rest : List Row) (row : Row) → slice_get rest r ≡ Some row → Has (enumerate_from k rest) (k + r, row)
number_there k r [] row e = cc
number_there k zero (x ∷ rest) row e =
    let h : x ≡ row = cc in
    let same : k ≡ k + zero = omega arith in
    inl (ap (λ (y : Row). (k, y)) h ∙ ap (λ (j : ℕ). (j, row)) same)
number_there k (suc r) (x ∷ rest) row e =
    let same : k + 1 + r ≡ k + suc r = omega arith in
    inr (subst (λ (j : ℕ). Has (enumerate_from (k + 1) rest) (j, row)) same (number_there (k + 1) r rest row e))

open_there : (n r : ℕ) (over : Bool) (rows : List Row) → option_map_or is_open (slice_get rows r) false ≡ true → Has (all_left n over rows) (the_finding n (Left (Unfinished (fault_if over))) r)
open_there n r over rows h = by (slice_get rows r) refl h
  where
    by : (o : Option Row) → slice_get rows r ≡ o → option_map_or is_open o false ≡ true → Has (all_left n over rows) (the_finding n (Left (Unfinished (fault_if over))) r)
    by None e t = cc
    by (Some row) e t =
        let same : zero + r ≡ r = omega arith in
        let there : Has (enumerate_from zero rows) (r, row) = subst (λ (j : ℕ). Has (enumerate_from zero rows) (j, row)) same (number_there zero r rows row e) in
        has_flat_map (of_left n over) (enumerate_from zero rows) (r, row) (the_finding n (Left (Unfinished (fault_if over))) r) there (given_there (is_open row) (the_finding n (Left (Unfinished (fault_if over))) r) t)

-- ---- files

abbrev durable_finding : Setup → ℕ → Machine → ℕ → Finding
durable_finding s n m o = the_finding n (Left (NotDurable (fault_if (has_fsync s m.table o)))) o

object_there : (s : Setup) (n o : ℕ) (m : Machine) → (nat_lt o (length s.objects) && has_unsynced m.world o) ≡ true → Has (all_unsynced s n m) (durable_finding s n m o)
object_there s n o m h =
    let parts = and_parts (nat_lt o (length s.objects)) (has_unsynced m.world o) h in
    has_flat_map (of_object s n m) (numbers_below (length s.objects)) o (durable_finding s n m o) (below_there o (length s.objects) (ltb-true o (length s.objects) parts.0)) (given_there (has_unsynced m.world o) (durable_finding s n m o) parts.1)

-- ---- requests and files

module _ (s : Setup) (es : List Event) (over : Bool) (ends : EndsOver s es over) where
  abbrev last_machine : Machine
  last_machine = machine_at s es (length es)

  row_left : (r : ℕ) → option_map_or is_open (slice_get last_machine.table r) false ≡ true → IsLeft s es (the_finding (length es) (Left (Unfinished (fault_if over))) r)
  row_left r t = record { over = over; ends = ends; last = refl; left = and_from (is_verdict (fault_if over) over) _ (verdict_is over) t }

  object_left : (o : ℕ) → o < length s.objects → All (IsLeft s es) (of_object s (length es) last_machine o)
  object_left o l =
      given_only (IsLeft s es) (has_unsynced last_machine.world o) (durable_finding s (length es) last_machine o) (λ t. record {
        over = over;
        ends = ends;
        last = refl;
        left = and_from (is_verdict (fault_if (has_fsync s last_machine.table o)) (has_fsync s last_machine.table o)) _ (verdict_is (has_fsync s last_machine.table o)) (and_from (nat_lt o (length s.objects)) _ (lt-ltb o (length s.objects) l) t);
      })

  objects_left : (k : ℕ) → k ≤ length s.objects → All (IsLeft s es) (flat_map (of_object s (length es) last_machine) (numbers_below k))
  objects_left zero l = All-nil (IsLeft s es)
  objects_left (suc k) l =
      subst (All (IsLeft s es)) (sym (flat_map-append (of_object s (length es) last_machine) (numbers_below k) (k ∷ [])))
      (All-append (IsLeft s es) (flat_map (of_object s (length es) last_machine) (numbers_below k)) (of_object s (length es) last_machine k ++ []) (objects_left k (omega arith))
      (All-append (IsLeft s es) (of_object s (length es) last_machine k) [] (object_left k (omega arith)) (All-nil (IsLeft s es))))

  kind_there : (kind : LeftKind) (n : ℕ) → is_left s over kind last_machine n ≡ true → Has (all_at_end s (length es) over last_machine) (the_finding (length es) (Left kind) n)
  kind_there (Unfinished v) n t =
      let parts = and_parts (is_verdict v over) (option_map_or is_open (slice_get last_machine.table n) false) t in
      subst (λ (w : Verdict). Has (all_at_end s (length es) over last_machine) (the_finding (length es) (Left (Unfinished w)) n)) (one_verdict v over parts.0)
      (has_left (all_left (length es) over last_machine.table) _ _ (open_there (length es) n over last_machine.table parts.1))
  kind_there (NotDurable v) n t =
      let parts = and_parts (is_verdict v (has_fsync s last_machine.table n)) (nat_lt n (length s.objects) && has_unsynced last_machine.world n) t in
      subst (λ (w : Verdict). Has (all_at_end s (length es) over last_machine) (the_finding (length es) (Left (NotDurable w)) n)) (one_verdict v (has_fsync s last_machine.table n) parts.0)
      (has_right (all_left (length es) over last_machine.table) _ _ (object_there s (length es) n last_machine parts.1))

  left_there : (i : ℕ) (kind : Kind) (n : ℕ) → IsLeftAt s es i kind n → Has (all_at_end s (length es) over last_machine) (the_finding i kind n)
  left_there i (Left kind) n h =
      let now : is_left s over kind last_machine n ≡ true = ap (λ (b : Bool). is_left s b kind last_machine n) (one_end s es over h.over ends h.ends) ∙ h.left in
      subst (λ (k : ℕ). Has (all_at_end s (length es) over last_machine) (the_finding k (Left kind) n)) (sym h.last) (kind_there kind n now)
  left_there i _ n h = absurd h

pub left_reported : (s : Setup) (es : List Event) (over : Bool) (m : Machine) → EndsOver s es over → m ≡ machine_at s es (length es) → AreLeft s es (all_at_end s (length es) over m)
left_reported s es over m ends e = subst (λ (x : Machine). AreLeft s es (all_at_end s (length es) over x)) (sym e) (record {
  only =
      All-append (IsLeft s es) (all_left (length es) over (machine_at s es (length es)).table) (all_unsynced s (length es) (machine_at s es (length es)))
      (rest_open (IsLeft s es) (length es) zero over (machine_at s es (length es)).table (machine_at s es (length es)).table (row_left s es over ends) refl)
      (objects_left s es over ends (length s.objects) (omega arith));
  whole = λ f h. has_contains _ f (left_there s es over ends f.moment f.kind f.subject h);
})

-- ---- one step of the loop

cut_at : (rows : List Row) (k : ℕ) (row : Row) → slice_get rows k ≡ Some row → drop k rows ≡ row ∷ drop (suc k) rows
cut_at [] k row e = cc
cut_at (x ∷ rows) zero row e = let h : x ≡ row = cc in ap (λ (y : Row). y ∷ rows) h
cut_at (x ∷ rows) (suc k) row e = cut_at rows k row e

pub left_more : (n k : ℕ) (over : Bool) (rows : List Row) (row : Row) (start found now : List Finding) → slice_get rows k ≡ Some row → now ≡ found ++ of_left n over (k, row)
    → found ++ flat_map (of_left n over) (enumerate_from k (drop k rows)) ≡ start ++ all_left n over rows → now ++ flat_map (of_left n over) (enumerate_from (k + 1) (drop (k + 1) rows)) ≡ start ++ all_left n over rows
left_more n k over rows row start found now e w before =
    let up : suc k ≡ k + 1 = omega arith in
    let cut : drop k rows ≡ row ∷ drop (k + 1) rows = cut_at rows k row e ∙ ap (λ (j : ℕ). row ∷ drop j rows) up in
    ap (λ (fs : List Finding). fs ++ flat_map (of_left n over) (enumerate_from (k + 1) (drop (k + 1) rows))) w
    ∙ append_assoc found (of_left n over (k, row)) (flat_map (of_left n over) (enumerate_from (k + 1) (drop (k + 1) rows)))
    ∙ ap (λ (ys : List Row). found ++ flat_map (of_left n over) (enumerate_from k ys)) (sym cut)
    ∙ before

pub left_whole : (n k : ℕ) (over : Bool) (rows : List Row) (start found : List Finding) → length rows ≤ k → found ++ flat_map (of_left n over) (enumerate_from k (drop k rows)) ≡ start ++ all_left n over rows → found ≡ start ++ all_left n over rows
left_whole n k over rows start found l h = sym (append-nil found) ∙ ap (λ (rest : List Row). found ++ flat_map (of_left n over) (enumerate_from k rest)) (sym (drop_all k rows l)) ∙ h
