-- Lemmas about the first entries of a batch, as requests are added one by one.
use Rattle.links_drains.proofs.Common.{◌≡◌, ◌≢◌, ℕ, ℤ, zero, suc, Bool, true, false, not, cond, refl, sym, ◌∙◌, ap, List, [], ◌∷◌, ◌++◌, take, length, ◌<◌, ◌≤◌, ◌+◌, ◌⊎◌, inl, inr, append_assoc, length-append, map, subst, arith, Option, Some, None, option_map, is_none, is_some, slice_get, option_map_or, prefix_len, enumerate_from, common_steps, length-take-le, take_all, gets, slice_get-map, slice_get_past, slice_get_within, get_or, get_or_from_slice_get, slice_get-take_below, slice_get-take_above, same_list, cases_lt, cases_eq, eq-eqb, ne_eqb, ◌==◌, option_and_then, ◌&&◌, ◌-◌, Sqe, Row, Keeps, named, keeps_then, WorldState, previous_in, chain_of, error_at, error_of, errors_of, row_of, rows_of, target_of, taken_of, halts, shown_on, error_in, is_linked, ChainContinues, table_owns, table_seen, new_row, Notes, Place, length-enumerate_from, prefix_len_is, result_err}
use Rattle.std.proofs.lemmas.List.{take_at}
use Rattle.opcodes.specs.Check.{check_of, time_of}
use Rattle.links_drains.proofs.{Chains.enumerated, Chains.get-batch, RowsKept.length-push, RowsKept.get-pushed, Units.any_false, Units.any_true}

pub length_mapped : {X Y : Type 0} (f : X → Y) (xs : List X) → length (map f xs) ≡ length xs
length_mapped = grind (arith, common_steps)

-- There is an entry at each index within the batch.
pub element_there : (es : List Sqe) (i : ℕ) → i < length es → (e : Sqe) × (slice_get es i ≡ Some e)
element_there [] i h = absurd (omega (arith, h))
element_there (e ∷ es) zero h = (e, refl)
element_there (e ∷ es) (suc i) h = element_there es i (omega (arith, h))

-- ---- The errors of entries

pub length-errors : (w : WorldState) (es : List Sqe) → length (errors_of w es) ≡ length es
length-errors w es = length_mapped (λ (p : ℕ × Sqe). error_of w es p.0 p.1) (enumerate_from 0 es) ∙ length-enumerate_from 0 es

pub get-errors : (w : WorldState) (es : List Sqe) (i : ℕ) (e : Sqe) → slice_get es i ≡ Some e → slice_get (errors_of w es) i ≡ Some (error_at w es i)
get-errors = grind (arith, slice_get-map, enumerated)

errors_at : (w : WorldState) (es : List Sqe) (i : ℕ) → i < length es → get_or (errors_of w es) i None ≡ error_at w es i
errors_at w es i l = let e = element_there es i l in get_or_from_slice_get (errors_of w es) i (error_at w es i) None (get-errors w es i e.0 e.1)

-- None of the first i entries fails.
abbrev pub PassTo : WorldState → List Sqe → ℕ → Type 0
PassTo w es i = (k : ℕ) → k < i → is_some (error_at w es k) ≡ false

is_none_is : (o : Option ℤ) → is_none o ≡ not (is_some o)
is_none_is = grind arith

pub take_more : {X : Type 0} (xs : List X) (i : ℕ) (x : X) → slice_get xs i ≡ Some x → take (i + 1) xs ≡ take i xs ++ x ∷ []
take_more xs i x g = grind (arith, common_steps, gets)

-- ---- A batch of the first entries

previous_taken : (es : List Sqe) (n i : ℕ) → i < n → previous_in (take n es) i ≡ previous_in es i
previous_taken es n zero h = refl
previous_taken es n (suc i) h = ap (option_and_then shown_on) (slice_get-take_below es n i (omega (arith, h)))

chain_taken : (es : List Sqe) (n i : ℕ) → i < n → chain_of (take n es) i ≡ chain_of es i
chain_taken es n zero h = refl
chain_taken es n (suc i) h = rw (slice_get-take_below es n i (omega (arith, h)), chain_taken es n i (omega (arith, h))) refl

row_taken : (w : WorldState) (first : ℕ) (es : List Sqe) (n i : ℕ) (e : Sqe) → i < n → row_of w first (take n es) i e ≡ row_of w first es i e
row_taken = grind (arith, previous_taken, chain_taken)

error_taken : (w : WorldState) (es : List Sqe) (n i : ℕ) → i < n → error_at w (take n es) i ≡ error_at w es i
error_taken = grind (arith, previous_taken, slice_get-take_below)

rows_taken : (w : WorldState) (first : ℕ) (es : List Sqe) (n : ℕ) → take n (rows_of w first es) ≡ rows_of w first (take n es)
rows_taken w first es n = same_list _ _ (λ i. by i (cases_lt i n))
  where
    by : (i : ℕ) → (i < n) ⊎ (n ≤ i) → slice_get (take n (rows_of w first es)) i ≡ slice_get (rows_of w first (take n es)) i
    by i (inl less) = grind (arith, get-batch, slice_get-take_below, row_taken)
    by i (inr past) = grind (arith, get-batch, slice_get-take_above)

-- The list has the errors of the first i entries.
pub record Listed (w : WorldState) (es : List Sqe) (i : ℕ) (errors : List (Option ℤ)) : Type 0 where
  pub few : length errors ≤ i
  pub each : (k : ℕ) → k < i → error_in errors k ≡ error_at w es k

pub listed_on : (w : WorldState) (es : List Sqe) (i : ℕ) (error : Option ℤ) (old new : List (Option ℤ)) → Listed w es i old → error ≡ error_at w es i → length new ≤ i + 1
    → ((k : ℕ) → error_in new k ≡ cond (k == i) error (error_in old k)) → Listed w es (i + 1) new
listed_on w es i error old new t is few each = record { few = few; each = λ k l. each k ∙ by k (cases_eq k i) l }
  where
    by : (k : ℕ) → (k ≡ i) ⊎ (k ≢ i) → k < i + 1 → cond (k == i) error (error_in old k) ≡ error_at w es k
    by k (inl at) l = ap (λ b. cond b error (error_in old k)) (eq-eqb k i at) ∙ is ∙ ap (error_at w es) (sym at)
    by k (inr other) l = ap (λ b. cond b error (error_in old k)) (ne_eqb k i other) ∙ t.each k (omega (arith, l, other))

pub errors_taken : (w : WorldState) (es taken : List Sqe) (n : ℕ) (errors : List (Option ℤ)) → Listed w es n errors → take n es ≡ taken → (k : ℕ) → error_in errors k ≡ error_at w taken k
errors_taken w es taken n errors t is k = by (cases_lt k n) ∙ ap (λ xs. error_at w xs k) is
  where
    by : (k < n) ⊎ (n ≤ k) → error_in errors k ≡ error_at w (take n es) k
    by (inl less) = t.each k less ∙ sym (error_taken w es n k less)
    by (inr past) = let few = t.few in ap (option_and_then (λ (o : Option ℤ). o)) (slice_get_past errors k (omega (arith, few, past))) ∙ sym (ap (option_and_then (error_of w (take n es) k)) (slice_get-take_above es n k past))

-- The entries that are taken: all, or those up to the first that fails.
pub record Taken (w : WorldState) (es : List Sqe) (submit_all : Bool) (n : ℕ) (halted : Bool) : Type 0 where
  pub within : n ≤ length es
  pub taken : take n es ≡ taken_of submit_all w es
  pub halts : halted ≡ halts submit_all w es

pub all_taken : (w : WorldState) (es : List Sqe) (submit_all : Bool) (n : ℕ) → n ≡ length es → (submit_all ≡ false → PassTo w es n) → Taken w es submit_all n false
all_taken w es true n len h = record { within = omega (arith, len); taken = take_all n es (omega (arith, len)); halts = refl }
all_taken w es false n len h = record {
  within = omega (arith, len);
  taken = take_all n es (omega (arith, len)) ∙ sym (take_all _ es (omega (arith, count, none)));
  halts = sym (any_false is_some (errors_of w es) (λ k x g. let l = slice_get_within (errors_of w es) k x g in
      let m : k < n = omega (arith, l, count, len) in
      ap is_some (sym (get_or_from_slice_get (errors_of w es) k x None g) ∙ errors_at w es k (omega (arith, m, len))) ∙ h refl k m));
}
  where
    count : length (errors_of w es) ≡ length es
    count = length-errors w es

    none : prefix_len is_none (errors_of w es) ≡ n
    none = prefix_len_is is_none (errors_of w es) n None (omega (arith, count, len)) (λ k l. ap is_none (errors_at w es k (omega (arith, l, len))) ∙ is_none_is _ ∙ ap not (h refl k l)) (λ l. absurd (omega (arith, l, count, len)))

pub failure_taken : (w : WorldState) (es : List Sqe) (submit_all : Bool) (i : ℕ) (error : Option ℤ) → submit_all ≡ false → (submit_all ≡ false → PassTo w es i) → i < length es → error ≡ error_at w es i → is_some error ≡ true → Taken w es submit_all (i + 1) true
failure_taken w es true i error s h l is f = absurd cc
failure_taken w es false i error s h l is f = record {
  within = omega (arith, l);
  taken = sym (ap (λ n. take (n + 1) es) (prefix_len_is is_none (errors_of w es) i None (let n = length-errors w es in omega (arith, n, l))
      (λ k m. ap is_none (errors_at w es k (omega (arith, m, l))) ∙ is_none_is _ ∙ ap not (h refl k m)) (λ _. ap is_none (errors_at w es i l ∙ sym is) ∙ is_none_is _ ∙ ap not f)));
  halts = let e = element_there es i l in sym (any_true is_some (errors_of w es) i (error_at w es i) (get-errors w es i e.0 e.1) (ap is_some (sym is) ∙ f));
}

pub count_taken : (w : WorldState) (es : List Sqe) (submit_all : Bool) (n : ℕ) (halted : Bool) → Taken w es submit_all n halted → n ≡ length (taken_of submit_all w es)
count_taken w es submit_all n halted t = sym (length-take-le n es t.within) ∙ ap length t.taken

-- ---- The rows of the first entries

pub length-rows_of : (w : WorldState) (first : ℕ) (es : List Sqe) → length (rows_of w first es) ≡ length es
length-rows_of w first es = length_mapped (λ (p : ℕ × Sqe). row_of w first es p.0 p.1) (enumerate_from 0 es) ∙ length-enumerate_from 0 es

-- The last row belongs to the chain.
abbrev LastOf : List Row → ℕ → Type 0
LastOf rows unit = (last : Row) × (k : ℕ) × (k + 1 ≡ length rows) × (slice_get rows k ≡ Some last) × (unit ≡ last.unit)

-- The first i entries have become rows. The next row belongs to the chain `unit`.
pub record Adding (w : WorldState) (before now : List Row) (old new : Notes) (entries : List Sqe) (i unit : ℕ) : Type 0 where
  pub rows : now ≡ before ++ take i (rows_of w (length before) entries)
  pub next_unit : unit ≡ length before + chain_of entries i
  pub last : (unit ≡ length now) ⊎ LastOf now unit
  pub keeps : Keeps table_owns (table_seen before) (table_seen now) old.made new.made
  pub names : (p : Place) → named new.made p ≡ None → named old.made p ≡ None
  pub numbers : old.numbers ≤ new.numbers
  pub completions : old.completions ≤ new.completions

pub count_added : (w : WorldState) (before now : List Row) (old new : Notes) (es : List Sqe) (i unit : ℕ) → Adding w before now old new es i unit → i ≤ length es → length now ≡ length before + i
count_added = grind (arith, length-append, length-take-le, length-rows_of)

-- The entries that are taken have become rows.
pub all_added : (w : WorldState) (before now : List Row) (es taken : List Sqe) (n : ℕ) → now ≡ before ++ take n (rows_of w (length before) es) → take n es ≡ taken → now ≡ before ++ rows_of w (length before) taken
all_added w before now es taken n h is = h ∙ ap (λ rs. before ++ rs) (rows_taken w (length before) es n ∙ ap (rows_of w (length before)) is)

-- The next row begins a chain, or belongs to the last row's.
pub next_continues : (now : List Row) (unit : ℕ) (row : Row) → (unit ≡ length now) ⊎ LastOf now unit → row.unit ≡ unit → ChainContinues now row
next_continues now unit row (inl m) e = inl (e ∙ m)
next_continues now unit row (inr m) e = inr (m.0, m.1, m.2, m.3, e ∙ m.4)

-- The rows before the batch stay, also with one more row at the end.
pub before_stays : (before now more : List Row) → now ≡ before ++ more → take (length before) now ≡ before
before_stays before now more h = ap (take (length before)) h ∙ take_at before more (length before) refl

pub before_stays_on : (before now later more : List Row) (row : Row) → now ≡ before ++ more → later ≡ now ++ row ∷ [] → take (length before) later ≡ before
before_stays_on before now later more row h on = before_stays before later (more ++ row ∷ []) (on ∙ ap (λ rs. rs ++ row ∷ []) h ∙ append_assoc before more (row ∷ []))

-- One more row was added.
pub rows_on : (w : WorldState) (before now later : List Row) (old new : Notes) (es : List Sqe) (i unit : ℕ) (e : Sqe) (row : Row) → Adding w before now old new es i unit → slice_get es i ≡ Some e
    → row ≡ new_row e unit (time_of w (previous_in es i) e) (target_of w (length before) es i e) → later ≡ now ++ row ∷ [] → later ≡ before ++ take (i + 1) (rows_of w (length before) es)
rows_on w before now later old new es i unit e row t g r h =
    h ∙ ap (λ rs. rs ++ row ∷ []) t.rows ∙ append_assoc before (take i (rows_of w (length before) es)) (row ∷ []) ∙ ap (λ rs. before ++ rs) (sym (take_more (rows_of w (length before) es) i row there))
  where
    there : slice_get (rows_of w (length before) es) i ≡ Some row
    there = get-batch w (length before) es i ∙ ap (option_map (row_of w (length before) es i)) g
        ∙ ap Some (ap (λ n. new_row e n (time_of w (previous_in es i) e) (target_of w (length before) es i e)) (sym t.next_unit) ∙ sym r)

pub adding_on : (w : WorldState) (before now later : List Row) (old new newer : Notes) (es : List Sqe) (i unit next : ℕ) (e : Sqe) (row : Row) → Adding w before now old new es i unit → slice_get es i ≡ Some e → i < length es
    → row ≡ new_row e unit (time_of w (previous_in es i) e) (target_of w (length before) es i e) → later ≡ now ++ row ∷ [] → next ≡ cond (is_linked e) unit (length before + i + 1)
    → Keeps table_owns (table_seen now) (table_seen later) new.made newer.made → ((p : Place) → named newer.made p ≡ None → named new.made p ≡ None)
    → new.numbers ≤ newer.numbers → new.completions ≤ newer.completions → Adding w before later old newer es (i + 1) next
adding_on w before now later old new newer es i unit next e row t g l r h n k names numbers completions = record {
  rows = rows_on w before now later old new es i unit e row t g r h;
  next_unit = n ∙ chain (is_linked e) refl;
  last = place (is_linked e) n;
  keeps = keeps_then table_owns (table_seen before) (table_seen now) (table_seen later) old.made new.made newer.made t.keeps k;
  names = λ p x. t.names p (names p x);
  numbers = let x = t.numbers in omega (arith, x, numbers);
  completions = let x = t.completions in omega (arith, x, completions);
}
  where
    chain : (b : Bool) → is_linked e ≡ b → cond b unit (length before + i + 1) ≡ length before + chain_of es (i + 1)
    chain b k = by b ∙ sym (ap (λ m. length before + chain_of es m) one ∙ ap (λ o. length before + cond (option_map_or is_linked o false) (chain_of es i) (suc i)) g ∙ ap (λ c. length before + cond c (chain_of es i) (suc i)) k)
      where
        one : i + 1 ≡ suc i
        one = omega arith

        by : (c : Bool) → cond c unit (length before + i + 1) ≡ length before + cond c (chain_of es i) (suc i)
        by true = t.next_unit
        by false = omega arith

    place : (b : Bool) → next ≡ cond b unit (length before + i + 1) → (next ≡ length later) ⊎ LastOf later next
    place true k = inr (subst (λ rs. LastOf rs next) (sym h) (row, length now, sym (length-push now row), get-pushed now row, k ∙ sym (ap (λ (x : Row). x.unit) r)))
    place false k = inl (let c = count_added w before now old new es i unit t (omega (arith, l)) in let m = ap length h ∙ length-push now row in omega (arith, k, c, m))

-- The row of an entry, by its fields.
pub row_is_row_of : (w : WorldState) (first : ℕ) (es : List Sqe) (i unit : ℕ) (x e : Sqe) (previous time target : Option ℕ) (error : Option ℤ) (row : Row) → row ≡ new_row x unit time target → time ≡ time_of w previous x → previous ≡ previous_in es i
    → error ≡ result_err (check_of w previous x) → target ≡ cond ((x.opcode == 15) && is_none error) (Some (first + i - 1)) None → x ≡ e → row ≡ new_row e unit (time_of w (previous_in es i) e) (target_of w first es i e)
row_is_row_of = grind arith
