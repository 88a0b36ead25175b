-- Lemmas about checkpoints: while a run grows, the copies made on the way maintain `Covers`.
use Rattle.std.proofs.Common.{◌≡◌, ◌≢◌, ℕ, zero, suc, ◌+◌, ◌*◌, ◌/◌, ◌%◌, ◌<◌, ◌≤◌, List, [], ◌∷◌, ◌++◌, ◌⊎◌, inl, inr, length, take, drop, get_or, sym, ap, ◌∙◌, subst, arith, append_assoc, length-append}
use Rattle.std.specs.Prelude.{Some, slice_get}
use Rattle.std.proofs.lemmas.List.{take-append-le}
use Rattle.std.proofs.lemmas.Bool.{cases_lt, cases_order}
use Rattle.std.proofs.lemmas.Option.{slice_get-get_or, get_or_from_slice_get}
use Rattle.std.proofs.Math.ListN.{get_or-append}
use Rattle.std.proofs.Math.Seq.{get_or-append_seam}
use Rattle.std.proofs.lemmas.Nat.{div_below}
use Rattle.std.proofs.Math.Nat.{mul-mod_left, mod-add-div', mul-le-mul_right}
use Rattle.machine.specs.declared.whole.Machine.{Machine}
use Rattle.scenario.specs.declared.setup.Setup.{Setup}
use Rattle.scenario.specs.declared.event.Event.{Event}
use Rattle.machine.specs.Runs.{run, start, moment}
use Rattle.checkpoints.specs.Checkpoints.{nearest}
use Rattle.inverse_log.specs.Tracks.{Track, grown, Covers}
use Rattle.inverse_log.proofs.Runs.{run_rest}

-- ---- Multiples

-- If a < b, the next multiple of c after a * c is at most b * c.
one_further : (a b c : ℕ) → a < b → a * c + c ≤ b * c
one_further a b c h =
    let k = mul-le-mul_right {m = a + 1} {n = b} c (omega arith) in
    omega (arith, k)

-- If n + 1 is a multiple of c, it is the next one, l * c.
next_multiple : (n l c : ℕ) → 0 < c → n < l * c → l * c ≤ n + c → (n + 1) % c ≡ 0 → l * c ≡ n + 1
next_multiple n l c some above most h =
    let e = mod-add-div' (n + 1) c in
    by ((n + 1) / c) (omega (arith, e, h)) (cases_order ((n + 1) / c) l)
  where
    by : (q : ℕ) → q * c ≡ n + 1 → (q ≡ l) ⊎ ((q < l) ⊎ (l < q)) → l * c ≡ n + 1
    by q whole (inl e) = ap (λ k. k * c) (sym e) ∙ whole
    by q whole (inr (inl k)) = let f = one_further q l c k in absurd (omega (arith, f, whole))
    by q whole (inr (inr k)) = let f = one_further l q c k in absurd (omega (arith, f, whole))

-- If n + 1 is not a multiple of c, it is still below the next one.
before_next : (n l c : ℕ) → n < l * c → (n + 1) % c ≢ 0 → n + 1 < l * c
before_next n l c above h = by (cases_order (n + 1) (l * c))
  where
    by : (n + 1 ≡ l * c) ⊎ ((n + 1 < l * c) ⊎ (l * c < n + 1)) → n + 1 < l * c
    by (inl e) = absurd (h (ap (λ k. k % c) e ∙ mul-mod_left l c))
    by (inr (inl k)) = k
    by (inr (inr k)) = absurd (omega arith)

-- ---- Longer runs

-- Appending events does not change an earlier moment.
moment_front : (setup : Setup) (es fs : List Event) (n : ℕ) → n ≤ length es → moment setup (es ++ fs) n ≡ moment setup es n
moment_front setup es fs n h = ap (run (start setup)) (take-append-le n es fs h)

-- The moment of each copy is within the run.
copy_within : (setup : Setup) (es : List Event) (c : ℕ) (xs : List Machine) (k : ℕ) → Covers setup es c xs → k < length xs → k * c ≤ length es
copy_within setup es c xs k h b =
    let f = one_further k (length xs) c b in
    let m = h.moments in
    omega (arith, f, m)

-- One more event, whose moment is not a multiple: the copies still cover the run.
pub covers_on : (setup : Setup) (es : List Event) (e : Event) (c : ℕ) (xs : List Machine) → Covers setup es c xs → length (es ++ e ∷ []) % c ≢ 0 → Covers setup (es ++ e ∷ []) c xs
covers_on setup es e c xs h due =
    let long : length (es ++ e ∷ []) ≡ length es + 1 = length-append es (e ∷ []) in
    let next = before_next (length es) (length xs) c h.all (λ z. due (ap (λ n. n % c) long ∙ z)) in
    let m = h.moments in
    record {
      each = λ k b. h.each k b ∙ ap Some (sym (moment_front setup es (e ∷ []) (k * c) (copy_within setup es c xs k h b)));
      moments = omega (arith, m, long);
      all = omega (arith, next, long);
    }

-- One more event, whose moment is a multiple: with a copy of its state they cover the run.
pub covers_copy : (setup : Setup) (es : List Event) (e : Event) (c : ℕ) (xs : List Machine) (s : Machine) → 0 < c → Covers setup es c xs → length (es ++ e ∷ []) % c ≡ 0 → s ≡ moment setup (es ++ e ∷ []) (length (es ++ e ∷ [])) → Covers setup (es ++ e ∷ []) c (xs ++ s ∷ [])
covers_copy setup es e c xs s some h due here =
    let long : length (es ++ e ∷ []) ≡ length es + 1 = length-append es (e ∷ []) in
    let next = next_multiple (length es) (length xs) c some h.all h.moments (ap (λ n. n % c) (sym long) ∙ due) in
    let more : length (xs ++ s ∷ []) ≡ length xs + 1 = length-append xs (s ∷ []) in
    let product : length (xs ++ s ∷ []) * c ≡ length xs * c + c = ap (λ n. n * c) more ∙ omega arith in
    record {
      each = λ k b. each_copy k (cases_lt k (length xs)) b next long;
      moments = omega (arith, product, next, long);
      all = omega (arith, product, next, long, some);
    }
  where
    each_copy : (k : ℕ) → (k < length xs) ⊎ (length xs ≤ k) → k < length (xs ++ s ∷ []) → length xs * c ≡ length es + 1 → length (es ++ e ∷ []) ≡ length es + 1 → slice_get (xs ++ s ∷ []) k ≡ Some (moment setup (es ++ e ∷ []) (k * c))
    each_copy k (inl a) b next long =
        slice_get-get_or (xs ++ s ∷ []) k s b
        ∙ ap Some (get_or-append xs (s ∷ []) s k a ∙ get_or_from_slice_get xs k (moment setup es (k * c)) s (h.each k a) ∙ sym (moment_front setup es (e ∷ []) (k * c) (copy_within setup es c xs k h a)))
    each_copy k (inr a) b next long =
        let more : length (xs ++ s ∷ []) ≡ length xs + 1 = length-append xs (s ∷ []) in
        let last : k ≡ length xs = omega arith in
        let at : length (es ++ e ∷ []) ≡ k * c = long ∙ sym next ∙ ap (λ n. n * c) (sym last) in
        slice_get-get_or (xs ++ s ∷ []) k s b
        ∙ ap Some (ap (λ n. get_or (xs ++ s ∷ []) n s) last ∙ get_or-append_seam xs s [] s ∙ here ∙ ap (moment setup (es ++ e ∷ [])) at)

-- For each moment of the run there is a copy at or before it.
pub copy_there : (setup : Setup) (es : List Event) (c : ℕ) (xs : List Machine) (m : ℕ) → Covers setup es c xs → m ≤ length es → m / c < length xs
copy_there setup es c xs m h w = let a = h.all in div_below m c (length xs) (some c a) (omega arith)
  where
    some : (d : ℕ) → length es < length xs * d → 0 < d
    some zero b = absurd (omega arith)
    some (suc d) b = omega arith

-- Copy k is the state of moment k * c.
pub copy_of : (setup : Setup) (es : List Event) (c : ℕ) (xs : List Machine) (k : ℕ) (s : Machine) → Covers setup es c xs → k < length xs → slice_get xs k ≡ Some s → s ≡ moment setup es (k * c)
copy_of setup es c xs k s h b e = let f = h.each k b in cc

-- The rest of the run, from the copy nearest to its end, leads to its end.
pub from_copy : (setup : Setup) (es fs : List Event) (c : ℕ) (xs : List Machine) (len n : ℕ) (s t : Machine) → Covers setup es c xs → len ≡ length es → slice_get xs (len / c) ≡ Some s → n ≡ nearest c len → t ≡ s → fs ≡ es → run t (drop n fs) ≡ run (start setup) es
from_copy setup es fs c xs len n s t h whole there near same events =
    let below = copy_there setup es c xs len h (omega arith) in
    let at : s ≡ moment setup es (len / c * c) = copy_of setup es c xs (len / c) s h below there in
    let here : t ≡ run (start setup) (take n es) = same ∙ at ∙ ap (λ k. run (start setup) (take k es)) (sym near) in
    ap (λ l. run t (drop n l)) events ∙ ap (λ m. run m (drop n es)) here ∙ run_rest (start setup) es n

-- ---- Copies made during a run

-- After an event whose moment is not a multiple, the copies so far suffice.
pub none_due : (v : Track) (at c : ℕ) (ys : List Machine) → at ≡ length v.events → at % c ≢ 0 → (es : List Event) (e : Event) (xs : List Machine) → v.events ≡ es ++ e ∷ [] → Covers v.setup es c (xs ++ ys) → Covers v.setup v.events c (xs ++ ys)
none_due v at c ys last due es e xs g h =
    let here : length (es ++ e ∷ []) ≡ at = ap length (sym g) ∙ sym last in
    subst (λ (fs : List Event). Covers v.setup fs c (xs ++ ys)) (sym g) (covers_on v.setup es e c (xs ++ ys) h (λ z. due (ap (λ n. n % c) (sym here) ∙ z)))

-- After an event whose moment is a multiple, they suffice with one more copy.
pub one_due : (v : Track) (at c : ℕ) (ys zs : List Machine) (s : Machine) → 0 < c → at ≡ length v.events → at % c ≡ 0 → s ≡ moment v.setup v.events at → zs ≡ ys ++ s ∷ [] → (es : List Event) (e : Event) (xs : List Machine) → v.events ≡ es ++ e ∷ [] → Covers v.setup es c (xs ++ ys) → Covers v.setup v.events c (xs ++ zs)
one_due v at c ys zs s some last due here new es e xs g h =
    let end : length (es ++ e ∷ []) ≡ at = ap length (sym g) ∙ sym last in
    let state : s ≡ moment v.setup (es ++ e ∷ []) (length (es ++ e ∷ [])) = here ∙ ap (moment v.setup v.events) (sym end) ∙ ap (λ (fs : List Event). moment v.setup fs (length (es ++ e ∷ []))) g in
    let k = covers_copy v.setup es e c (xs ++ ys) s some h (ap (λ n. n % c) end ∙ due) state in
    let whole : (xs ++ ys) ++ s ∷ [] ≡ xs ++ zs = append_assoc xs ys (s ∷ []) ∙ ap (λ l. xs ++ l) (sym new) in
    subst (λ (fs : List Event). Covers v.setup fs c (xs ++ zs)) (sym g) (subst (Covers v.setup (es ++ e ∷ []) c) whole k)

-- If some copies cover the run up to `t`, then those and `copies` cover it up to `v`.
pub record Copied (t : Track) (c : ℕ) (copies : List Machine) (v : Track) : Type 0 where
  pub covers : (xs : List Machine) → Covers t.setup t.events c xs → Covers v.setup v.events c (xs ++ copies)

pub copied_more : (t v v' : Track) (e : Event) (n c : ℕ) (ys zs : List Machine) → Copied t c ys v → v' ≡ grown v (e ∷ []) n → ((es : List Event) (d : Event) (xs : List Machine) → v'.events ≡ es ++ d ∷ [] → Covers v'.setup es c (xs ++ ys) → Covers v'.setup v'.events c (xs ++ zs)) → Copied t c zs v'
copied_more t v v' e n c ys zs p g f = record {
  covers = λ xs h. f v.events e xs (ap (λ (x : Track). x.events) g) (subst (λ (s : Setup). Covers s v.events c (xs ++ ys)) (sym (ap (λ (x : Track). x.setup) g)) (p.covers xs h));
}
