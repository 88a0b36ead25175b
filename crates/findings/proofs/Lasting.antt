-- Conditions that last, and the moment since when each holds.
use Rattle.findings.proofs.Common.{◌≡◌, ℕ, zero, suc, ◌+◌, ◌-◌, ◌<◌, ◌≤◌, Bool, true, false, List, [], ◌∷◌, ◌++◌, length, take, drop, get_or, set, map, refl, Option, Some, None, All, flat_map, Event, Setup, Machine, start, machine_at, Kind, Lasting, LastingKind, Condition, LostWakeUp, NotTaken, NotReaped, Stuck, Next, Watch, inl, inr, sym, ap, ◌∙◌, subst, arith, take-append_seam, length-map, cases_lt, cases_order, and_parts, ltb-true, eqb-true, All-nil, All-cons, All-append, All-contains, Contains-get_or, clash, reported_as, condition_holds, Began, EndsOver, condition_holds_at, LastsSince, Lasts, IsLasting, since_of, watch_at, next_of, moved_by, next_after, AreNext, continued, advanced, fresh, numbers_below, of_threads, watched, of_kind, of_watch, of_lasting}
use Rattle.std.proofs.lemmas.List.{append_assoc, map-append}
use Rattle.finding_rules.specs.declared.conditions.Condition.TheVariants.{Waits}
use Rattle.findings.proofs.Groups.{the_finding}
use Rattle.finding_rules.proofs.Members.{Has, has_contains, has_flat_map, has_left, has_right}
pub use Rattle.finding_rules.proofs.Between.{below_there}

-- ---- since when a condition holds

-- The condition doesn't hold at moment n, or has held since a moment.
abbrev IsSince : (ℕ → Bool) → ℕ → Option ℕ → Type 0
IsSince holds n None = holds n ≡ false
IsSince holds n (Some i) = Began holds n i

begins_first : (holds : ℕ → Bool) → holds zero ≡ true → Began holds zero zero
begins_first holds h = record {
  within = omega arith;
  lasts = λ k l m. let same : zero ≡ k = omega arith in subst (λ (x : ℕ). holds x ≡ true) same h;
  first = λ k e. absurd (omega arith);
}

begins_here : (holds : ℕ → Bool) (n : ℕ) → holds n ≡ false → holds (suc n) ≡ true → Began holds (suc n) (suc n)
begins_here holds n before h = record {
  within = omega arith;
  lasts = λ k l m. let same : suc n ≡ k = omega arith in subst (λ (x : ℕ). holds x ≡ true) same h;
  first = λ k e. let same : n ≡ k = omega arith in subst (λ (x : ℕ). holds x ≡ false) same before;
}

holds_on : (holds : ℕ → Bool) (n i : ℕ) → Began holds n i → holds (suc n) ≡ true → Began holds (suc n) i
holds_on holds n i b h = record {
  within = let l : i ≤ n = b.within in omega arith;
  lasts = λ k l m.
      elim (cases_lt n k) [
        | inl past ↦ let same : suc n ≡ k = omega arith in subst (λ (x : ℕ). holds x ≡ true) same h
        | inr up ↦ b.lasts k l up
      ];
  first = b.first;
}

since_more : (holds : ℕ → Bool) (n : ℕ) (o : Option ℕ) → IsSince holds n o → (b : Bool) → holds (suc n) ≡ b → IsSince holds (suc n) (continued b o (suc n))
since_more holds n o h false e = e
since_more holds n None h true e = begins_here holds n h e
since_more holds n (Some i) h true e = holds_on holds n i h e

since_first : (holds : ℕ → Bool) (b : Bool) → holds zero ≡ b → IsSince holds zero (continued b None zero)
since_first holds false e = e
since_first holds true e = begins_first holds e

since_is : (holds : ℕ → Bool) (n : ℕ) → IsSince holds n (since_of holds n)
unfolding since_of
since_is holds zero = since_first holds (holds zero) refl
since_is holds (suc n) = since_more holds n (since_of holds n) (since_is holds n) (holds (suc n)) refl

-- A condition began at the recorded moment.
since_begins : (holds : ℕ → Bool) (n i : ℕ) → since_of holds n ≡ Some i → Began holds n i
since_begins holds n i e = subst (IsSince holds n) e (since_is holds n)

-- A condition has begun at only one moment.
one_beginning : (holds : ℕ → Bool) (n i j : ℕ) → Began holds n i → Began holds n j → i < j → ⊥
one_beginning holds n i j b d l =
    let up : j ≤ n = d.within in
    clash (sym (d.first (j - 1) (omega arith)) ∙ b.lasts (j - 1) (omega arith) (omega arith))

begins_since : (holds : ℕ → Bool) (n i : ℕ) → Began holds n i → since_of holds n ≡ Some i
begins_since holds n i b = by (since_of holds n) (since_is holds n)
  where
    by : (o : Option ℕ) → IsSince holds n o → o ≡ Some i
    by None h = absurd (clash (sym h ∙ b.lasts n b.within (omega arith)))
    by (Some j) h =
        elim (cases_order i j) [
          | inl e ↦ ap Some (sym e)
          | inr (inl l) ↦ absurd (one_beginning holds n i j b h l)
          | inr (inr l) ↦ absurd (one_beginning holds n j i h b l)
        ]

-- ---- watched conditions

one_first : (s : Setup) (es : List Event) (c : Condition) (ns : List ℕ) → map (advanced s (start s) zero) (map (fresh c) ns) ≡ map (watch_at s es zero) (map (fresh c) ns)
unfolding since_of
one_first s es c [] = refl
one_first s es c (n ∷ ns) = ap (λ (ws : List Watch). watch_at s es zero (fresh c n) ∷ ws) (one_first s es c ns)

both_first : (s : Setup) (es : List Event) (c d : Condition) (ms ns : List ℕ)
    → map (advanced s (start s) zero) (map (fresh c) ns ++ map (fresh d) ms) ≡ map (watch_at s es zero) (map (fresh c) ns ++ map (fresh d) ms)
unfolding since_of
both_first s es c d ms [] = one_first s es d ms
both_first s es c d ms (n ∷ ns) = ap (λ (ws : List Watch). watch_at s es zero (fresh c n) ∷ ws) (both_first s es c d ms ns)

-- At the start.
pub watched_first : (s : Setup) (es : List Event) → map (advanced s (start s) zero) (watched s) ≡ map (watch_at s es zero) (watched s)
unfolding since_of
watched_first s es =
    ap (λ (ws : List Watch). watch_at s es zero (fresh LostWakeUp zero) ∷ watch_at s es zero (fresh NotTaken zero) ∷ watch_at s es zero (fresh NotReaped zero) ∷ ws)
    (both_first s es Waits Stuck (numbers_below (length s.threads)) (numbers_below (length s.threads)))

advanced_next : (s : Setup) (es : List Event) (i : ℕ) (ws : List Watch) → map (advanced s (machine_at s es (suc i)) (suc i)) (map (watch_at s es i) ws) ≡ map (watch_at s es (suc i)) ws
unfolding since_of
advanced_next s es i [] = refl
advanced_next s es i (w ∷ ws) = ap (λ (xs : List Watch). watch_at s es (suc i) w ∷ xs) (advanced_next s es i ws)

-- After one more event.
pub advanced_more : (s : Setup) (es : List Event) (i k : ℕ) (m : Machine) (ws : List Watch) → k ≡ suc i → m ≡ machine_at s es k → map (advanced s m k) (map (watch_at s es i) ws) ≡ map (watch_at s es k) ws
advanced_more s es i k m ws e h =
    ap (λ (x : Machine). map (advanced s x k) (map (watch_at s es i) ws)) h
    ∙ subst (λ (j : ℕ). map (advanced s (machine_at s es j) j) (map (watch_at s es i) ws) ≡ map (watch_at s es j) ws) (sym e) (advanced_next s es i ws)

-- ---- one step of the loop

-- Mapping one more element of a list, in place.
pub mapped_more : {X : Type 0} (f : X → X) (xs : List X) (i : ℕ) (d : X) → i < length xs → set (map f (take i xs) ++ drop i xs) i (f (get_or xs i d)) ≡ map f (take (suc i) xs) ++ drop (suc i) xs
mapped_more f [] i d h = absurd (omega arith)
mapped_more f (x ∷ xs) zero d h = refl
mapped_more f (x ∷ xs) (suc i) d h = ap (λ ys. f x ∷ ys) (mapped_more f xs i d (omega arith))

-- The first element that is not mapped is unchanged.
pub mapped_read : {X : Type 0} (f : X → X) (xs : List X) (i : ℕ) (d : X) → i < length xs → get_or (map f (take i xs) ++ drop i xs) i d ≡ get_or xs i d
mapped_read f [] i d h = absurd (omega arith)
mapped_read f (x ∷ xs) zero d h = refl
mapped_read f (x ∷ xs) (suc i) d h = mapped_read f xs i d (omega arith)

pub mapped_step : {X : Type 0} (f : X → X) (xs ys : List X) (i : ℕ) (d r : X) → i < length xs → ys ≡ map f (take i xs) ++ drop i xs → r ≡ f (get_or ys i d) → set ys i r ≡ map f (take (i + 1) xs) ++ drop (i + 1) xs
mapped_step f xs ys i d r l h e =
    let up : suc i ≡ i + 1 = omega arith in
    let read : r ≡ f (get_or xs i d) = e ∙ ap (λ zs. f (get_or zs i d)) h ∙ ap f (mapped_read f xs i d l) in
    ap (λ zs. set zs i r) h ∙ ap (λ z. set (map f (take i xs) ++ drop i xs) i z) read ∙ mapped_more f xs i d l ∙ ap (λ (k : ℕ). map f (take k xs) ++ drop k xs) up

-- A condition of one more thread.
pub fresh_more : (c : Condition) (k : ℕ) (start list now : List Watch) → list ≡ start ++ map (fresh c) (numbers_below k) → now ≡ list ++ fresh c k ∷ [] → now ≡ start ++ map (fresh c) (numbers_below (k + 1))
fresh_more c k start list now h g =
    let up : suc k ≡ k + 1 = omega arith in
    g
    ∙ ap (λ (ws : List Watch). ws ++ fresh c k ∷ []) h
    ∙ append_assoc start (map (fresh c) (numbers_below k)) (fresh c k ∷ [])
    ∙ ap (λ (ws : List Watch). start ++ ws) (sym (map-append (fresh c) (numbers_below k) (k ∷ [])))
    ∙ ap (λ (n : ℕ). start ++ map (fresh c) (numbers_below n)) up

-- What the thread of an element that isn't updated does next.
pub mapped_right : (s : Setup) (e : Event) (m : Machine) (moment : ℕ) (xs ys : List Watch) (i : ℕ) (d : Watch) (moved : Option (ℕ × Next)) → i < length xs → ys ≡ map (advanced s m moment) (take i xs) ++ drop i xs → moved ≡ moved_by s e m → AreNext s e m xs
    → next_after moved (get_or ys i d) ≡ next_of s m (get_or ys i d).subject
mapped_right s e m moment xs ys i d moved l h same all =
    let there : next_after (moved_by s e m) (get_or xs i d) ≡ next_of s m (get_or xs i d).subject = All-contains (λ (w : Watch). next_after (moved_by s e m) w ≡ next_of s m w.subject) xs (get_or xs i d) all (Contains-get_or xs i d l) in
    subst (λ (w : Watch). next_after moved w ≡ next_of s m w.subject) (sym (ap (λ zs. get_or zs i d) h ∙ mapped_read (advanced s m moment) xs i d l))
    (subst (λ (o : Option (ℕ × Next)). next_after o (get_or xs i d) ≡ next_of s m (get_or xs i d).subject) (sym same) there)

-- A slice that was mapped in place, written back to its vector.
pub mapped_back : {X : Type 0} (f : X → X) (xs old new rest : List X) (n : ℕ) → old ≡ xs → new ≡ map f old → n ≡ length old → take n (new ++ rest) ≡ map f xs
mapped_back f xs old new rest n v e l =
    ap (λ (k : ℕ). take k (new ++ rest)) (l ∙ sym (length-map old f) ∙ ap length (sym e)) ∙ take-append_seam new rest ∙ e ∙ ap (map f) v

-- ---- their findings

-- A run is over at its end or not, never both.
pub one_end : (s : Setup) (es : List Event) (a b : Bool) → EndsOver s es a → EndsOver s es b → a ≡ b
one_end s es true true h k = refl
one_end s es true false h k = absurd (k h)
one_end s es false true h k = absurd (h k)
one_end s es false false h k = refl

-- Only conditions that last are reported.
module _ (s : Setup) (es : List Event) (over : Bool) (ends : EndsOver s es over) where
  abbrev last_machine : Machine
  last_machine = machine_at s es (length es)

  kind_lasts : (c : Condition) (n i : ℕ) → Began (condition_holds_at s es c n) (length es) i → All (Lasts s es) (of_kind n i (reported_as c over last_machine))
  kind_lasts c n i b = by (reported_as c over last_machine) refl
    where
      by : (o : Option LastingKind) → reported_as c over last_machine ≡ o → All (Lasts s es) (of_kind n i o)
      by None e = All-nil (Lasts s es)
      by (Some kind) e =
          All-cons (Lasts s es) (the_finding i (Lasting kind) n) [] (record { over = over; ends = ends; condition = c; reported = e; began = b }) (All-nil (Lasts s es))

  watch_lasts : (w : Watch) → All (Lasts s es) (of_lasting over last_machine (watch_at s es (length es) w))
  watch_lasts w = by (since_of (condition_holds_at s es w.condition w.subject) (length es)) refl
    where
      by : (o : Option ℕ) → since_of (condition_holds_at s es w.condition w.subject) (length es) ≡ o → All (Lasts s es) (of_watch over last_machine w.condition w.subject o)
      by None e = All-nil (Lasts s es)
      by (Some i) e = kind_lasts w.condition w.subject i (since_begins (condition_holds_at s es w.condition w.subject) (length es) i e)

  watches_last : (ws : List Watch) → All (Lasts s es) (flat_map (of_lasting over last_machine) (map (watch_at s es (length es)) ws))
  watches_last [] = All-nil (Lasts s es)
  watches_last (w ∷ ws) =
      All-append (Lasts s es) (of_lasting over last_machine (watch_at s es (length es) w)) (flat_map (of_lasting over last_machine) (map (watch_at s es (length es)) ws)) (watch_lasts w) (watches_last ws)

pub has_map : {X Y : Type 0} (f : X → Y) (xs : List X) (x : X) → Has xs x → Has (map f xs) (f x)
has_map f [] x h = absurd h
has_map f (y ∷ ys) x (inl e) = inl (ap f e)
has_map f (y ∷ ys) x (inr h) = inr (has_map f ys x h)

-- Each condition that can hold is watched.
watched_has : (s : Setup) (c : Condition) (m : Machine) (n : ℕ) → condition_holds s c m n ≡ true → Has (watched s) (fresh c n)
watched_has s LostWakeUp m n h = let e : n ≡ zero = eqb-true n zero (and_parts _ _ h).0 in inl (ap (fresh LostWakeUp) (sym e))
watched_has s NotTaken m n h = let e : n ≡ zero = eqb-true n zero (and_parts _ _ h).0 in inr (inl (ap (fresh NotTaken) (sym e)))
watched_has s NotReaped m n h = let e : n ≡ zero = eqb-true n zero (and_parts _ _ h).0 in inr (inr (inl (ap (fresh NotReaped) (sym e))))
watched_has s Waits m n h =
    let l : n < length s.threads = ltb-true n (length s.threads) (and_parts _ _ h).0 in
    inr (inr (inr (has_left (of_threads s Waits) (of_threads s Stuck) (fresh Waits n) (has_map (fresh Waits) (numbers_below (length s.threads)) n (below_there n (length s.threads) l)))))
watched_has s Stuck m n h =
    let l : n < length s.threads = ltb-true n (length s.threads) (and_parts _ _ h).0 in
    inr (inr (inr (has_right (of_threads s Waits) (of_threads s Stuck) (fresh Stuck n) (has_map (fresh Stuck) (numbers_below (length s.threads)) n (below_there n (length s.threads) l)))))

-- Each condition that lasts and has a kind is reported.
module _ (s : Setup) (es : List Event) (over : Bool) where
  abbrev end_machine : Machine
  end_machine = machine_at s es (length es)

  watch_reported : (i : ℕ) (c : Condition) (kind : LastingKind) (n : ℕ) → reported_as c over end_machine ≡ Some kind → Began (condition_holds_at s es c n) (length es) i
      → Has (flat_map (of_lasting over end_machine) (map (watch_at s es (length es)) (watched s))) (the_finding i (Lasting kind) n)
  watch_reported i c kind n r h =
      let holds_now : condition_holds s c (machine_at s es (length es)) n ≡ true = h.lasts (length es) h.within (omega arith) in
      let there = has_map (watch_at s es (length es)) (watched s) (fresh c n) (watched_has s c (machine_at s es (length es)) n holds_now) in
      let since : since_of (condition_holds_at s es c n) (length es) ≡ Some i = begins_since (condition_holds_at s es c n) (length es) i h in
      let one : Has (of_kind n i (reported_as c over end_machine)) (the_finding i (Lasting kind) n) =
      subst (λ (o : Option LastingKind). Has (of_kind n i o) (the_finding i (Lasting kind) n)) (sym r) (inl refl)
      in
      let reported : Has (of_lasting over end_machine (watch_at s es (length es) (fresh c n))) (the_finding i (Lasting kind) n) =
      subst (λ (o : Option ℕ). Has (of_watch over end_machine c n o) (the_finding i (Lasting kind) n)) (sym since) one
      in
      has_flat_map (of_lasting over end_machine) (map (watch_at s es (length es)) (watched s)) (watch_at s es (length es) (fresh c n)) (the_finding i (Lasting kind) n) there reported

  lasts_reported : EndsOver s es over → (i : ℕ) (kind : Kind) (n : ℕ) → LastsSince s es i kind n → Has (flat_map (of_lasting over end_machine) (map (watch_at s es (length es)) (watched s))) (the_finding i kind n)
  lasts_reported ends i (Lasting kind) n h = watch_reported i h.condition kind n (ap (λ (b : Bool). reported_as h.condition b end_machine) (one_end s es over h.over ends h.ends) ∙ h.reported) h.began
  lasts_reported ends i _ n h = absurd h

-- The findings of the watched conditions are those that last to the end.
pub lasting_reported : (s : Setup) (es : List Event) (over : Bool) (m : Machine) (ws : List Watch) → EndsOver s es over → m ≡ machine_at s es (length es) → ws ≡ map (watch_at s es (length es)) (watched s) → IsLasting s es (flat_map (of_lasting over m) ws)
lasting_reported s es over m ws ends h e = subst (λ (x : Machine). IsLasting s es (flat_map (of_lasting over x) ws)) (sym h) (subst (λ (xs : List Watch). IsLasting s es (flat_map (of_lasting over (machine_at s es (length es))) xs)) (sym e) (record {
  only = watches_last s es over ends (watched s);
  whole = λ f h. has_contains _ f (lasts_reported s es over ends f.moment f.kind f.subject h);
}))
