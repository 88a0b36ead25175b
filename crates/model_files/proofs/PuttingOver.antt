-- Facts about writing recorded bytes over the current ones.
use Rattle.std.proofs.Common.{◌≡◌, ◌≢◌, ℕ, ◌<◌, ◌≤◌, ◌+◌, ◌-◌, ◌*◌, min, Bool, true, false, cond, refl, sym, ◌∙◌, ap, subst, List, length, take, arith, inl, inr}
use Rattle.std.specs.Prelude.{Option, Some, None, map, option_map, slice_get, slice_set, slice_index_or, unwrap_or, ◌==◌, ◌⊎◌}
use Rattle.std.proofs.lemmas.Bool.{eqb-true, eqb-false, ne_eqb}
use Rattle.std.proofs.lemmas.List.{length-set, length-map, length-take-le, get_or-take}
use Rattle.std.proofs.lemmas.Option.{slice_get_past, slice_get-map, slice_get-get_or}
use Rattle.places.proofs.ListLemmas.{slice_get-set}
use Rattle.places.specs.Masked.{kept_at, PutOver}
use Rattle.places.proofs.KeptAt.{kept_before, kept_here, kept_past}
use Rattle.model_files.specs.Files.{FileState, overwritten}
use Rattle.model_files.specs.Pages.{FileTracked}
use Rattle.model_files.proofs.Comparing.{get-overwritten}
use Rattle.model_files.proofs.Noting.{below_or_not, get-overwritten_other}

over_none : (x : Option ℕ) → option_map (unwrap_or None) x ≡ x
over_none None = refl
over_none (Some y) = refl

-- A byte for which none is recorded is unchanged.
pub stays : (s : ℕ) (os : List (Option ℕ)) (i : ℕ) (x : Option ℕ) → kept_at s os i ≡ None → option_map (unwrap_or (kept_at s os i)) x ≡ x
stays s os i x e = ap (λ k. option_map (unwrap_or k) x) e ∙ over_none x

-- ---- The loop

-- The invariant of the loop: bytes before `next` are restored, and those from it on are unchanged.
pub record PuttingOver (before now : List ℕ) (s : ℕ) (os : List (Option ℕ)) (next : ℕ) : Type 0 where
  pub len : length now ≡ length before
  pub done : (j : ℕ) → j < next → slice_get now j ≡ option_map (unwrap_or (kept_at s os j)) (slice_get before j)
  pub rest : (j : ℕ) → next ≤ j → slice_get now j ≡ slice_get before j

pub putting_from : (before : List ℕ) (s : ℕ) (os : List (Option ℕ)) (next : ℕ) → next ≤ s → PuttingOver before before s os next
putting_from before s os next h = record {
  len = refl;
  done = λ j l. sym (stays s os j (slice_get before j) (kept_before s os j (omega arith)));
  rest = λ j l. refl;
}

putting_one : (before now : List ℕ) (s : ℕ) (os : List (Option ℕ)) (next : ℕ) (o : Option ℕ) (y : ℕ) → PuttingOver before now s os next → next < length now → kept_at s os next ≡ o → slice_get now next ≡ Some y → PuttingOver before (slice_set now next (unwrap_or o y)) s os (next + 1)
putting_one before now s os next o y p w k h = record {
  len = length-set now next (unwrap_or o y) ∙ p.len;
  done = λ j l. slice_get-set now next j (unwrap_or o y) w ∙ at j l (next == j) refl;
  rest = λ j l. slice_get-set now next j (unwrap_or o y) w ∙ ap (λ t. cond t (Some (unwrap_or o y)) (slice_get now j)) (ne_eqb next j (λ e. absurd (omega arith))) ∙ p.rest j (omega arith);
}
  where
    there : slice_get before next ≡ Some y
    there = sym (p.rest next (omega arith)) ∙ h

    here : Some (unwrap_or o y) ≡ option_map (unwrap_or (kept_at s os next)) (slice_get before next)
    here = sym (ap (λ (x : Option ℕ). option_map (unwrap_or (kept_at s os next)) x) there ∙ ap (λ (q : Option ℕ). Some (unwrap_or q y)) k)

    at : (j : ℕ) → j < next + 1 → (t : Bool) → (next == j) ≡ t → cond t (Some (unwrap_or o y)) (slice_get now j) ≡ option_map (unwrap_or (kept_at s os j)) (slice_get before j)
    at j l true e = subst (λ i. Some (unwrap_or o y) ≡ option_map (unwrap_or (kept_at s os i)) (slice_get before i)) (eqb-true next j e) here
    at j l false e = p.done j (let n : next ≢ j = eqb-false next j e in omega arith)

-- One iteration.
pub putting_on : (before now : List ℕ) (os : List (Option ℕ)) (s from i y : ℕ) (o : Option ℕ) → PuttingOver before now s os (from + i) → from ≡ s → from + i < length now
    → slice_get os i ≡ Some o → slice_get now (from + i) ≡ Some y → PuttingOver before (slice_set now (from + i) (unwrap_or o y)) s os (from + (i + 1))
putting_on before now os s from i y o p e w f h =
    let a : kept_at s os (from + i) ≡ o = ap (λ z. kept_at s os (z + i)) e ∙ kept_here s os i o f in
    let n : (from + i) + 1 ≡ from + (i + 1) = omega arith in
    subst (PuttingOver before (slice_set now (from + i) (unwrap_or o y)) s os) n (putting_one before now s os (from + i) o y p w a h)

-- The loop is complete at the end of the list, or at that of the recorded bytes.
pub putting_all : (before now : List ℕ) (s : ℕ) (os : List (Option ℕ)) (next : ℕ) → PuttingOver before now s os next → (length before ≤ next) ⊎ (s + length os ≤ next) → PutOver before s os now
putting_all before now s os next p end i = by (below_or_not i next) end
  where
    by : (i < next) ⊎ (next ≤ i) → (length before ≤ next) ⊎ (s + length os ≤ next) → slice_get now i ≡ option_map (unwrap_or (kept_at s os i)) (slice_get before i)
    by (inl l) e = p.done i l
    by (inr l) (inl m) =
        let none : slice_get before i ≡ None = slice_get_past before i (omega arith) in
        p.rest i l ∙ none ∙ sym (ap (λ (x : Option ℕ). option_map (unwrap_or (kept_at s os i)) x) none)
    by (inr l) (inr m) = p.rest i l ∙ sym (stays s os i (slice_get before i) (kept_past s os i (omega arith)))

-- The last iteration reaches one of these ends.
pub far_enough : (len start many from n i : ℕ) → from ≡ min start len → n ≡ min many (len - from) → n ≤ i → (len ≤ from + i) ⊎ (start + many ≤ from + i)
far_enough len start many from n i e f l = by (below_or_not (from + i) len)
  where
    by : (from + i < len) ⊎ (len ≤ from + i) → (len ≤ from + i) ⊎ (start + many ≤ from + i)
    by (inl a) = inr (omega arith)
    by (inr a) = inl a

-- ---- Stretches without dropped bytes

put_here : (xs others : List ℕ) (s from n i d : ℕ) → from + n ≤ length xs → n ≤ length others → from ≡ s → i ≡ from + d → d < n → slice_get (overwritten xs from (take n others)) i ≡ option_map (unwrap_or (kept_at s (map (λ b. Some b) others) i)) (slice_get xs i)
put_here xs others s from n i d within few start at below =
    let len : length (take n others) ≡ n = length-take-le n others few in
    let b : ℕ = slice_index_or others d 0 in
    let first : slice_get (overwritten xs from (take n others)) i ≡ slice_get (take n others) d = ap (slice_get (overwritten xs from (take n others))) at ∙ get-overwritten xs (take n others) from d (omega arith) (omega arith) in
    let old : slice_get (take n others) d ≡ Some b = slice_get-get_or (take n others) d 0 (omega arith) ∙ ap (λ x. Some x) (get_or-take n others d 0 below) in
    let kept : kept_at s (map (λ b. Some b) others) i ≡ Some b = ap (kept_at s (map (λ b. Some b) others)) (at ∙ ap (λ z. z + d) start) ∙ kept_here s (map (λ b. Some b) others) d (Some b) (slice_get-map (λ b. Some b) others d ∙ ap (option_map (λ b. Some b)) (slice_get-get_or others d 0 (omega arith))) in
    let there : slice_get xs i ≡ Some (slice_index_or xs i 0) = slice_get-get_or xs i 0 (omega arith) in
    first ∙ old ∙ sym (ap (λ k. option_map (unwrap_or k) (slice_get xs i)) kept ∙ ap (option_map (unwrap_or (Some b))) there)

pub put_all : (xs others : List ℕ) (s from n : ℕ) → from ≡ min s (length xs) → n ≡ min (length others) (length xs - from) → PutOver xs s (map (λ b. Some b) others) (overwritten xs from (take n others))
put_all xs others s from n e f i = by (below_or_not i from) (below_or_not i (from + n)) (below_or_not i (length xs))
  where
    few : n ≤ length others
    few = omega arith

    within : from + n ≤ length xs
    within = omega arith

    len : from + length (take n others) ≤ length xs
    len = let l = length-take-le n others few in omega arith

    by : (i < from) ⊎ (from ≤ i) → (i < from + n) ⊎ (from + n ≤ i) → (i < length xs) ⊎ (length xs ≤ i) → slice_get (overwritten xs from (take n others)) i ≡ option_map (unwrap_or (kept_at s (map (λ b. Some b) others) i)) (slice_get xs i)
    by (inl a) b c = get-overwritten_other xs from (take n others) i len (inl a) ∙ sym (stays s (map (λ b. Some b) others) i (slice_get xs i) (kept_before s (map (λ b. Some b) others) i (omega arith)))
    by (inr a) (inl b) c = put_here xs others s from n i (i - from) within few (omega arith) (omega arith) (omega arith)
    by (inr a) (inr b) (inl c) =
        get-overwritten_other xs from (take n others) i len (inr (let l = length-take-le n others few in omega arith))
        ∙ sym (stays s (map (λ b. Some b) others) i (slice_get xs i) (kept_past s (map (λ b. Some b) others) i (let l = length-map others (λ (b : ℕ). Some b) in omega arith)))
    by (inr a) (inr b) (inr c) =
        let none : slice_get xs i ≡ None = slice_get_past xs i c in
        get-overwritten_other xs from (take n others) i len (inr (let l = length-take-le n others few in omega arith))
        ∙ none ∙ sym (ap (λ (x : Option ℕ). option_map (unwrap_or (kept_at s (map (λ b. Some b) others) i)) x) none)

-- ---- The pages of a file

-- A page that is not marked includes none of the bytes, even before these are limited to the
-- maximum size of a file.
pub cut_apart : (page i at count from within : ℕ) → from ≡ min at 65536 → within ≡ min count (65536 - from) → (page * 4096 + 4096 ≤ from) ⊎ (from + within ≤ page * 4096) → page * 4096 ≤ i → i < page * 4096 + 4096 → i < 65536 → (i < at) ⊎ (at + count ≤ i)
cut_apart page i at count from within e f (inl l) lo hi m = inl (omega arith)
cut_apart page i at count from within e f (inr l) lo hi m = inr (omega arith)

pub cut_nothing : (i at count from within : ℕ) → from ≡ min at 65536 → within ≡ min count (65536 - from) → within ≤ 0 → i < 65536 → (i < at) ⊎ (at + count ≤ i)
cut_nothing i at count from within e f n m = by (below_or_not i at)
  where
    by : (i < at) ⊎ (at ≤ i) → (i < at) ⊎ (at + count ≤ i)
    by (inl l) = inl l
    by (inr l) = inr (omega arith)

-- A byte of a page that is not marked is unchanged.
unmarked : (before after : List ℕ) (s : ℕ) (os : List (Option ℕ)) (n i : ℕ) → length before ≡ 65536 → PutOver before s os after → length os ≤ n → (i < 65536 → (i < s) ⊎ (s + n ≤ i)) → slice_get after i ≡ slice_get before i
unmarked before after s os n i len over few apart = over i ∙ by (below_or_not i 65536)
  where
    at : (i < s) ⊎ (s + n ≤ i) → option_map (unwrap_or (kept_at s os i)) (slice_get before i) ≡ slice_get before i
    at (inl l) = stays s os i (slice_get before i) (kept_before s os i l)
    at (inr l) = stays s os i (slice_get before i) (kept_past s os i (omega arith))

    by : (i < 65536) ⊎ (65536 ≤ i) → option_map (unwrap_or (kept_at s os i)) (slice_get before i) ≡ slice_get before i
    by (inl l) = at (apart l)
    by (inr l) =
        let none : slice_get before i ≡ None = slice_get_past before i (omega arith) in
        ap (λ (x : Option ℕ). option_map (unwrap_or (kept_at s os i)) x) none ∙ sym none

-- The page invariant holds after bytes of a file are restored and their pages marked.
pub tracked_bytes : (f : FileState) (before marks : List Bool) (s : ℕ) (os : List (Option ℕ)) (n : ℕ) (after : List ℕ) → FileTracked f before → PutOver f.bytes s os after → length after ≡ length f.bytes → length os ≤ n
    → ((page : ℕ) → slice_get marks page ≡ Some false → slice_get before page ≡ Some false) → ((page i : ℕ) → slice_get marks page ≡ Some false → page * 4096 ≤ i → i < page * 4096 + 4096 → i < 65536 → (i < s) ⊎ (s + n ≤ i)) → FileTracked (record f { bytes = after }) marks
tracked_bytes f before marks s os n after t over len few kept apart = record {
  sized = record { bytes = len ∙ t.sized.bytes; len = t.sized.len; durable = t.sized.durable; durable_len = t.sized.durable_len };
  clean = λ page i e lo hi. unmarked f.bytes after s os n i t.sized.bytes over few (apart page i e lo hi) ∙ t.clean page i (kept page e) lo hi;
}

-- The same for durable bytes.
pub tracked_durable : (f : FileState) (before marks : List Bool) (s : ℕ) (os : List (Option ℕ)) (n : ℕ) (after : List ℕ) → FileTracked f before → PutOver f.durable s os after → length after ≡ length f.durable → length os ≤ n
    → ((page : ℕ) → slice_get marks page ≡ Some false → slice_get before page ≡ Some false) → ((page i : ℕ) → slice_get marks page ≡ Some false → page * 4096 ≤ i → i < page * 4096 + 4096 → i < 65536 → (i < s) ⊎ (s + n ≤ i)) → FileTracked (record f { durable = after }) marks
tracked_durable f before marks s os n after t over len few kept apart = record {
  sized = record { bytes = t.sized.bytes; len = t.sized.len; durable = len ∙ t.sized.durable; durable_len = t.sized.durable_len };
  clean = λ page i e lo hi. t.clean page i (kept page e) lo hi ∙ sym (unmarked f.durable after s os n i t.sized.durable over few (apart page i e lo hi));
}
