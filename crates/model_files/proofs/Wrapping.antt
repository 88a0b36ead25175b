-- Facts about the bytes of a pipe in its ring buffer.
use Rattle.std.proofs.Common.{◌≡◌, ℕ, zero, suc, Bool, true, false, cond, refl, sym, ◌∙◌, ap, List, [], ◌∷◌, ◌++◌, length, take, drop, get_or, min, ◌+◌, ◌-◌, ◌%◌, ◌<◌, ◌≤◌, ◌⊎◌, inl, inr, arith, length-set}
use Rattle.std.specs.Prelude.{Some, slice_get, slice_set, ◌==◌}
use Rattle.std.proofs.Math.Nat.{add-mod_right, mod-add-mod, mod-eq_of_lt, mod-eq-sub-mod}
use Rattle.std.proofs.lemmas.Bool.{eqb-true}
use Rattle.std.proofs.lemmas.Grind.{common_steps}
use Rattle.std.proofs.lemmas.Nat.{mod_below}
use Rattle.std.proofs.lemmas.Option.{gets, slice_get_past}
use Rattle.places.proofs.ListLemmas.{same_list, slice_get-set}
use Rattle.model_files.specs.Files.{overwritten, part}
use Rattle.model_files.specs.Pipes.{PipeState, PipeFormed, bytes_from, slots_with, filled, room_in, pipe_content, put_in, taken_out}
use Rattle.model_files.proofs.Noting.{below_or_not, get-overwritten_other}
use Rattle.model_files.proofs.Comparing.{get-overwritten}

-- ---- The slot of a byte

slot_near : (at d c : ℕ) → at % c + d < c → (at + d) % c ≡ at % c + d
slot_near at d c h = sym (mod-add-mod at c d) ∙ mod-eq_of_lt h

slot_far : (at d c r : ℕ) → d ≤ c → r < c → r ≡ at % c → c ≤ r + d → (at + d) % c ≡ (r + d) - c
slot_far at d c r h l e k = sym (mod-add-mod at c d) ∙ ap (λ n. (n + d) % c) (sym e) ∙ mod-eq-sub-mod k ∙ mod-eq_of_lt (omega arith)

-- Bytes whose numbers differ by less than the capacity are in different slots.
slot_apart : (at d c : ℕ) → 0 < d → d < c → (at + d) % c ≡ at % c → ⊥
slot_apart at d c s h e = by (below_or_not (at % c + d) c)
  where
    small : at % c < c
    small = mod_below at c (omega arith)

    by : (at % c + d < c) ⊎ (c ≤ at % c + d) → ⊥
    by (inl l) = let k = slot_near at d c l in omega arith
    by (inr l) = let k = slot_far at d c (at % c) (omega arith) small refl l in omega arith

slot_around : (at c : ℕ) → (at + c) % c ≡ at % c
slot_around at c = add-mod_right at c

-- ---- Reading from the slots

pub length-bytes_from : (slots : List ℕ) (at n : ℕ) → length (bytes_from slots at n) ≡ n
length-bytes_from slots at zero = refl
length-bytes_from slots at (suc n) = ap suc (length-bytes_from slots (at + 1) n)

pub get_bytes : (slots : List ℕ) (at n d : ℕ) → d < n → slice_get (bytes_from slots at n) d ≡ Some (get_or slots ((at + d) % length slots) 0)
get_bytes slots at zero d h = absurd (omega arith)
get_bytes slots at (suc n) zero h = ap (λ k. Some (get_or slots (k % length slots) 0)) (omega arith)
get_bytes slots at (suc n) (suc d) h = get_bytes slots (at + 1) n d (omega arith) ∙ ap (λ k. Some (get_or slots (k % length slots) 0)) (omega arith)

there : (slots : List ℕ) (i : ℕ) → i < length slots → slice_get slots i ≡ Some (get_or slots i 0)
there slots i h = grind (arith, common_steps, gets)

get_first : (slots others : List ℕ) (i n d : ℕ) → d < n → i + n ≤ length slots → slice_get (part slots i n ++ others) d ≡ slice_get slots (i + d)
get_first slots others i n d h l = grind (arith, common_steps, gets)

get_second : (slots : List ℕ) (i n m d : ℕ) → i + n ≤ length slots → n ≤ d → d < n + m → m ≤ length slots → slice_get (part slots i n ++ take m slots) d ≡ slice_get slots (d - n)
get_second slots i n m d l h k w = grind (arith, common_steps, gets)

length-parts : (slots : List ℕ) (i n m : ℕ) → i + n ≤ length slots → m ≤ length slots → length (part slots i n ++ take m slots) ≡ n + m
length-parts slots i n m l w = grind (arith, common_steps)

-- The oldest bytes are in two parts: those up to the last slot, and those from the first slot on.
pub in_parts : (slots : List ℕ) (at k i n m : ℕ) → 0 < length slots → k ≤ length slots → i ≡ at % length slots → n ≡ min k (length slots - i) → n + m ≡ k → part slots i n ++ take m slots ≡ bytes_from slots at k
in_parts slots at k i n m some most e h s = same_list _ _ (λ d. by d (below_or_not d n) (below_or_not d k))
  where
    small : i < length slots
    small = let b = mod_below at (length slots) some in omega (arith, e)

    fits : i + n ≤ length slots
    fits = omega arith

    by : (d : ℕ) → (d < n) ⊎ (n ≤ d) → (d < k) ⊎ (k ≤ d) → slice_get (part slots i n ++ take m slots) d ≡ slice_get (bytes_from slots at k) d
    by d (inl l) b =
        let place = slot_near at d (length slots) (omega arith) in
        get_first slots (take m slots) i n d l fits ∙ there slots (i + d) (omega arith) ∙ ap (λ j. Some (get_or slots j 0)) (sym (place ∙ omega arith)) ∙ sym (get_bytes slots at k d (omega arith))
    by d (inr l) (inl b) =
        let place = slot_far at d (length slots) i (omega arith) small e (omega arith) in
        get_second slots i n m d fits l (omega arith) (omega arith) ∙ there slots (d - n) (omega arith) ∙ ap (λ j. Some (get_or slots j 0)) (sym (place ∙ omega arith)) ∙ sym (get_bytes slots at k d b)
    by d (inr l) (inr b) =
        slice_get_past _ d (let z = length-parts slots i n m fits (omega arith) in omega arith) ∙ sym (slice_get_past _ d (let z = length-bytes_from slots at k in omega arith))

-- ---- Writing to the slots

pub length-slots_with : (slots : List ℕ) (at : ℕ) (bs : List ℕ) → length (slots_with slots at bs) ≡ length slots
length-slots_with slots at [] = refl
length-slots_with slots at (b ∷ bs) = length-slots_with (slice_set slots (at % length slots) b) (at + 1) bs ∙ length-set slots (at % length slots) b

set_here : (slots : List ℕ) (i j b : ℕ) → i < length slots → i ≡ j → slice_get (slice_set slots i b) j ≡ Some b
set_here slots i j b h e = grind (arith, common_steps, gets)

set_other : (slots : List ℕ) (i j b : ℕ) → i < length slots → (i ≡ j → ⊥) → slice_get (slice_set slots i b) j ≡ slice_get slots j
set_other slots i j b h n = slice_get-set slots i j b h ∙ by (i == j) refl
  where
    by : (t : Bool) → (i == j) ≡ t → cond t (Some b) (slice_get slots j) ≡ slice_get slots j
    by true e = absurd (n (eqb-true i j e))
    by false e = refl

-- A slot that none of the bytes is stored in.
pub get_out : (slots : List ℕ) (at : ℕ) (bs : List ℕ) (d j c : ℕ) → length slots ≡ c → length bs ≤ d → d < c → j ≡ (at + d) % c → slice_get (slots_with slots at bs) j ≡ slice_get slots j
get_out slots at [] d j c e l h k = refl
get_out slots at (b ∷ bs) zero j c e l h k = absurd (omega arith)
get_out slots at (b ∷ bs) (suc d) j c e l h k =
    get_out (slice_set slots (at % length slots) b) (at + 1) bs d j c (length-set slots (at % length slots) b ∙ e) (omega arith) (omega arith) (k ∙ ap (λ n. n % c) (omega arith))
    ∙ set_other slots (at % length slots) j b (mod_below at (length slots) (omega arith)) apart
  where
    apart : at % length slots ≡ j → ⊥
    apart q = slot_apart at (suc d) c (omega arith) h (sym k ∙ sym q ∙ ap (λ n. at % n) e)

-- A slot that one of the bytes is stored in.
pub get_in : (slots : List ℕ) (at : ℕ) (bs : List ℕ) (d j c : ℕ) → length slots ≡ c → length bs ≤ c → d < length bs → j ≡ (at + d) % c → slice_get (slots_with slots at bs) j ≡ slice_get bs d
get_in slots at [] d j c e l h k = absurd (omega arith)
get_in slots at (b ∷ bs) zero j c e l h k =
    get_out (slice_set slots (at % length slots) b) (at + 1) bs (c - 1) j c (length-set slots (at % length slots) b ∙ e) (omega arith) (omega arith)
    (k ∙ ap (λ n. n % c) (omega arith) ∙ sym (slot_around at c) ∙ ap (λ n. n % c) (omega arith))
    ∙ set_here slots (at % length slots) j b (mod_below at (length slots) (omega arith)) (ap (λ n. at % n) e ∙ sym (k ∙ ap (λ n. n % c) (omega arith)))
get_in slots at (b ∷ bs) (suc d) j c e l h k =
    get_in (slice_set slots (at % length slots) b) (at + 1) bs d j c (length-set slots (at % length slots) b ∙ e) (omega arith) (omega arith) (k ∙ ap (λ n. n % c) (omega arith))

-- The bytes are stored in two parts: those up to the last slot, and those from the first slot on.
pub put_in_parts : (slots bs : List ℕ) (at i n : ℕ) → 0 < length slots → length bs ≤ length slots → i ≡ at % length slots → n ≡ min (length bs) (length slots - i) → overwritten (overwritten slots i (take n bs)) 0 (drop n bs) ≡ slots_with slots at bs
put_in_parts slots bs at i n some most e h = same_list _ _ (λ j. by j (below_or_not j i) (below_or_not j (length slots)))
  where
    small : i < length slots
    small = let b = mod_below at (length slots) some in omega (arith, e)

    first : length (take n bs) ≡ n
    first = grind (arith, common_steps)

    second : length (drop n bs) ≡ length bs - n
    second = grind (arith, common_steps)

    whole : length (overwritten slots i (take n bs)) ≡ length slots
    whole = grind (arith, common_steps)

    inside : (d : ℕ) → d < n → slice_get (take n bs) d ≡ slice_get bs d
    inside d l = grind (arith, common_steps, gets)

    drop_at : (d : ℕ) → slice_get (drop n bs) d ≡ slice_get bs (n + d)
    drop_at d = grind (arith, common_steps, gets)

    over : List ℕ
    over = overwritten slots i (take n bs)

    up : (j d : ℕ) → j ≡ i + d → j < length slots → (d < n) ⊎ (n ≤ d) → slice_get (overwritten over 0 (drop n bs)) j ≡ slice_get (slots_with slots at bs) j
    up j d q l (inl b) =
        get-overwritten_other over 0 (drop n bs) j (omega (arith, first, second, whole, small, e, h, most)) (inr (omega (arith, first, second, whole, small, e, h, most)))
        ∙ ap (slice_get over) q ∙ get-overwritten slots (take n bs) i d (omega (arith, first, second, whole, small, e, h, most)) (omega (arith, first, second, whole, small, e, h, most)) ∙ inside d b
        ∙ sym (get_in slots at bs d j (length slots) refl most (omega (arith, first, second, whole, small, e, h, most)) (q ∙ sym (slot_near at d (length slots) (omega (arith, first, second, whole, small, e, h, most)) ∙ omega arith)))
    up j d q l (inr b) =
        get-overwritten_other over 0 (drop n bs) j (omega (arith, first, second, whole, small, e, h, most)) (inr (omega (arith, first, second, whole, small, e, h, most)))
        ∙ get-overwritten_other slots i (take n bs) j (omega (arith, first, second, whole, small, e, h, most)) (inr (omega (arith, first, second, whole, small, e, h, most)))
        ∙ sym (get_out slots at bs d j (length slots) refl (omega (arith, first, second, whole, small, e, h, most)) (omega (arith, first, second, whole, small, e, h, most)) (q ∙ sym (slot_near at d (length slots) (omega (arith, first, second, whole, small, e, h, most)) ∙ omega arith)))

    down : (j d : ℕ) → d ≡ (j + length slots) - i → j < i → (j < length bs - n) ⊎ (length bs - n ≤ j) → slice_get (overwritten over 0 (drop n bs)) j ≡ slice_get (slots_with slots at bs) j
    down j d q l (inl b) =
        ap (slice_get (overwritten over 0 (drop n bs))) (let z : j ≡ 0 + j = omega arith in z) ∙ get-overwritten over (drop n bs) 0 j (omega (arith, first, second, whole, small, e, h, most)) (omega (arith, first, second, whole, small, e, h, most)) ∙ drop_at j ∙ ap (slice_get bs) (omega (arith, first, second, whole, small, e, h, most))
        ∙ sym (get_in slots at bs d j (length slots) refl most (omega (arith, first, second, whole, small, e, h, most)) (sym (slot_far at d (length slots) i (omega (arith, first, second, whole, small, e, h, most)) small e (omega (arith, first, second, whole, small, e, h, most)) ∙ omega arith)))
    down j d q l (inr b) =
        get-overwritten_other over 0 (drop n bs) j (omega (arith, first, second, whole, small, e, h, most)) (inr (omega (arith, first, second, whole, small, e, h, most)))
        ∙ get-overwritten_other slots i (take n bs) j (omega (arith, first, second, whole, small, e, h, most)) (inl l)
        ∙ sym (get_out slots at bs d j (length slots) refl (omega (arith, first, second, whole, small, e, h, most)) (omega (arith, first, second, whole, small, e, h, most)) (sym (slot_far at d (length slots) i (omega (arith, first, second, whole, small, e, h, most)) small e (omega (arith, first, second, whole, small, e, h, most)) ∙ omega arith)))

    past : length (overwritten over 0 (drop n bs)) ≡ length slots
    past = grind (arith, common_steps)

    by : (j : ℕ) → (j < i) ⊎ (i ≤ j) → (j < length slots) ⊎ (length slots ≤ j) → slice_get (overwritten over 0 (drop n bs)) j ≡ slice_get (slots_with slots at bs) j
    by j (inl l) b = down j ((j + length slots) - i) refl l (below_or_not j (length bs - n))
    by j (inr l) (inl b) = up j (j - i) (omega (arith, first, second, whole, small, e, h, most)) b (below_or_not (j - i) n)
    by j (inr l) (inr b) = slice_get_past _ j (omega (arith, past, first, second, whole, small, e, h, most)) ∙ sym (slice_get_past _ j (let z = length-slots_with slots at bs in omega arith))

-- ---- The contents of a pipe

-- The contents after a write: the earlier contents, followed by the new bytes.
pub content_put : (p : PipeState) (bs : List ℕ) → PipeFormed p → length bs ≤ room_in p → pipe_content (put_in bs p) ≡ pipe_content p ++ bs
content_put p bs f room = same_list _ _ (λ d. by d (below_or_not d (filled p)) (below_or_not d (filled p + length bs)))
  where
    c : ℕ
    c = length p.slots

    order : p.taken ≤ p.put
    order = f.order

    within : p.put ≤ p.taken + c
    within = f.within

    some : 0 < c
    some = f.some

    size : length (slots_with p.slots p.put bs) ≡ c
    size = length-slots_with p.slots p.put bs

    had : filled p ≡ p.put - p.taken
    had = refl

    now : ℕ
    now = (p.put + length bs) - p.taken

    read : (d : ℕ) → d < now → slice_get (pipe_content (put_in bs p)) d ≡ Some (get_or (slots_with p.slots p.put bs) ((p.taken + d) % c) 0)
    read d l = get_bytes (slots_with p.slots p.put bs) p.taken now d l ∙ ap (λ n. Some (get_or (slots_with p.slots p.put bs) ((p.taken + d) % n) 0)) size

    slot_there : (d : ℕ) → slice_get (slots_with p.slots p.put bs) ((p.taken + d) % c) ≡ Some (get_or (slots_with p.slots p.put bs) ((p.taken + d) % c) 0)
    slot_there d = there (slots_with p.slots p.put bs) ((p.taken + d) % c) (let b = mod_below (p.taken + d) c some in omega (arith, size))

    front : (d : ℕ) → d < filled p → slice_get (pipe_content p ++ bs) d ≡ slice_get (pipe_content p) d
    front d l = let z = length-bytes_from p.slots p.taken (filled p) in grind (arith, common_steps, gets)

    back : (d : ℕ) → filled p ≤ d → slice_get (pipe_content p ++ bs) d ≡ slice_get bs (d - filled p)
    back d l = let z = length-bytes_from p.slots p.taken (filled p) in grind (arith, common_steps, gets)

    by : (d : ℕ) → (d < filled p) ⊎ (filled p ≤ d) → (d < filled p + length bs) ⊎ (filled p + length bs ≤ d) → slice_get (pipe_content (put_in bs p)) d ≡ slice_get (pipe_content p ++ bs) d
    by d (inl l) b =
        read d (omega (arith, order, within, some, size, had, room)) ∙ sym (slot_there d)
        ∙ get_out p.slots p.put bs ((p.taken + d + c) - p.put) ((p.taken + d) % c) c refl (omega (arith, order, within, some, size, had, room)) (omega (arith, order, within, some, size, had, room)) (sym (slot_around (p.taken + d) c) ∙ ap (λ n. n % c) (omega (arith, order, within, some, size, had, room)))
        ∙ there p.slots ((p.taken + d) % c) (mod_below (p.taken + d) c some) ∙ sym (get_bytes p.slots p.taken (filled p) d l) ∙ sym (front d l)
    by d (inr l) (inl b) =
        read d (omega (arith, order, within, some, size, had, room)) ∙ sym (slot_there d)
        ∙ get_in p.slots p.put bs (d - filled p) ((p.taken + d) % c) c refl (omega (arith, order, within, some, size, had, room)) (omega (arith, order, within, some, size, had, room)) (ap (λ n. n % c) (omega (arith, order, within, some, size, had, room))) ∙ sym (back d l)
    by d (inr l) (inr b) =
        slice_get_past _ d (let z = length-bytes_from (slots_with p.slots p.put bs) p.taken now in omega (arith, order, within, some, size, had, room, z)) ∙ sym (back d l ∙ slice_get_past bs (d - filled p) (omega (arith, order, within, some, size, had, room)))

-- The contents before a read: the bytes read, followed by the contents after it.
pub content_taken : (p : PipeState) (k : ℕ) → k ≤ filled p → pipe_content p ≡ bytes_from p.slots p.taken k ++ pipe_content (taken_out k p)
content_taken p k h = ap (bytes_from p.slots p.taken) (omega arith) ∙ split p.taken k (p.put - (p.taken + k))
  where
    split : (at m n : ℕ) → bytes_from p.slots at (m + n) ≡ bytes_from p.slots at m ++ bytes_from p.slots (at + m) n
    split at zero n = let e : at ≡ at + 0 = omega arith in let z : 0 + n ≡ n = omega arith in ap (bytes_from p.slots at) z ∙ ap (λ a. bytes_from p.slots a n) e
    split at (suc m) n = let z : suc m + n ≡ suc (m + n) = omega arith in ap (bytes_from p.slots at) z ∙ ap (λ xs. get_or p.slots (at % length p.slots) 0 ∷ xs) (split (at + 1) m n ∙ (let e : (at + 1) + m ≡ at + suc m = omega arith in ap (λ a. bytes_from p.slots (at + 1) m ++ bytes_from p.slots a n) e))

-- ---- The same facts in terms of the executable code

pub oldest_is : (slots xs ys : List ℕ) (taken count l m n : ℕ) → xs ≡ slots → ys ≡ slots → l ≡ length slots → m ≡ length slots → n ≡ min count (m - taken % l) → 0 < length slots → count ≤ length slots
    → take ((taken % l + n) - taken % l) (drop (taken % l) xs) ++ take (count - n) ys ≡ bytes_from slots taken count
oldest_is slots xs ys taken count l m n a b c d e some most =
    let i : ℕ = taken % l in
    let size : (i + n) - i ≡ n = omega arith in
    ap (λ k. take k (drop i xs) ++ take (count - n) ys) size
    ∙ ap (λ zs. take n (drop i zs) ++ take (count - n) ys) a
    ∙ ap (λ zs. take n (drop i slots) ++ take (count - n) zs) b
    ∙ in_parts slots taken count i n (count - n) some most (ap (λ k. taken % k) c) (omega (arith, d, e)) (omega (arith, e))

pub pushed_is : (p : PipeState) (xs ys others first second : List ℕ) (l m n : ℕ) → l ≡ length p.slots → m ≡ length p.slots → n ≡ min (length others) (m - p.put % l) → first ≡ take n others → second ≡ drop n others → 0 < length p.slots → length others ≤ length p.slots
    → xs ≡ overwritten p.slots (p.put % l) first → ys ≡ overwritten xs 0 second → record p { slots = ys; put = p.put + length others } ≡ put_in others p
pushed_is p xs ys others first second l m n c d e f s some most x y =
    let i : ℕ = p.put % l in
    ap (λ (zs : List ℕ). record p { slots = zs; put = p.put + length others })
    (y ∙ ap (λ zs. overwritten zs 0 second) x ∙ ap (λ zs. overwritten (overwritten p.slots i zs) 0 second) f ∙ ap (λ zs. overwritten (overwritten p.slots i (take n others)) 0 zs) s
    ∙ put_in_parts p.slots others p.put i n some most (ap (λ k. p.put % k) c) (omega (arith, d, e)))
