-- The invariant of a follower: at the start, after each event, and at the end.
use Rattle.occupancy.proofs.Common.{◌≡◌, ℕ, zero, suc, ◌+◌, ◌≤◌, Bool, true, false, refl, List, [], ◌∷◌, ◌++◌, length, map, min, Some, None, slice_get, ◌==◌, ◌&&◌, nat_le, Change, Exact, setup_refusal, has_programs, Event, Setup, Machine, program_of, thread_start, view, Grows, start, moment, Occupancy, ThreadStages, IsAt, IsAfter, sym, ap, ◌∙◌, subst, arith, eq-eqb, le_refl, eqb-true, nat_tests, length-map, grows_after, accepted, filling_of, stamps_after, AreStamped, AreFilled, Follows, AreThreadStages, HasFollowed}
use Rattle.occupancy.proofs.Moments.{Growing, are_filled_more, are_stamped_more}

-- ---- the start

-- A setup has at most 16 threads.
few_threads : (s : Setup) → setup_refusal s ≡ None → length s.threads ≤ 16
few_threads s h = by (nat_le (length s.threads) 16) refl (accepted s h).programs
  where
    by : (b : Bool) → nat_le (length s.threads) 16 ≡ b → has_programs s ≡ true → length s.threads ≤ 16
    by true e k = grind (arith, nat_tests)
    by false e k = let f = ap (λ x. x && true) e in absurd cc

-- A run starts with at most 16 threads.
pub few_started : (s : Setup) (m : Machine) → setup_refusal s ≡ None → m ≡ start s → length m.threads ≤ 16
few_started s m a h = subst (λ (n : Machine). length n.threads ≤ 16) (sym h) few
  where
    few : length (map thread_start s.threads) ≤ 16
    few = let e = length-map s.threads thread_start in let l = few_threads s a in omega (arith, e, l)

follows_starts : (s : Setup) (es : List Event) (m : Machine) (c : Occupancy)
    → setup_refusal s ≡ None → length es ≤ 1048576 → m ≡ start s → c.fillings.items ≡ filling_of m ∷ [] → c.stamps.items ≡ [] → c.overflowed ≡ 0 → Follows s es 0 c
follows_starts s es m c a most h f x o =
    let filled : AreFilled s es 0 (filling_of (start s) ∷ []) = record { count = refl; each = only } in
    let none : AreStamped s es 0 [] = record { rows = refl; each = λ r y q. absurd cc } in
    record {
      most = most;
      occupancy = record {
        runs = tt;
        fillings = subst (AreFilled s es 0) (sym (f ∙ ap (λ n. filling_of n ∷ []) h)) filled;
        stamps = subst (AreStamped s es 0) (sym x) none;
        overflowed = o;
      };
      growing = first;
      threads = few_started s (start s) a refl;
    }
  where
    only : (i : ℕ) → i ≤ 0 → slice_get (filling_of (start s) ∷ []) i ≡ Some (filling_of (moment s es i))
    only zero l = refl
    only (suc i) l = absurd (omega (arith, l))

    first : Growing s es 0
    first zero l = omega arith
    first (suc i) l = absurd (omega (arith, l))

pub has_started : (s : Setup) (es : List Event) (m : Machine) (at : ℕ) (c : Occupancy) (x : ThreadStages)
    → setup_refusal s ≡ None → length es ≤ 1048576 → m ≡ start s → c.fillings.items ≡ filling_of m ∷ [] → c.stamps.items ≡ [] → c.overflowed ≡ 0 → AreThreadStages m x → HasFollowed s es 0 at c x
has_started s es m at c x a most h f t o stages = record {
  follows = follows_starts s es m c a most h f t o;
  thread_stages = λ l.
      let none : 0 ≡ min at (length es) = omega (arith, l) in
      subst (λ n. AreThreadStages (moment s es n) x) none (subst (λ n. AreThreadStages n x) h stages);
}

-- ---- one event

-- An accepted event removes no request and no overflowed completion.
grown : (s : Setup) (es : List Event) (i : ℕ) (e : Event) (past : List Change) (n : Machine) → IsAfter s es i e past n → Grows (moment s es i) n
grown s es i e past n a = subst (Grows (moment s es i)) (sym a.link.next.changed) (grows_after (moment s es i) e a.link.formed a.link.next.accepted)

-- An accepted event doesn't change the number of threads.
same_threads : (m n : Machine) → Grows m n → length n.threads ≡ length m.threads
same_threads m n g =
    sym (length-map n.threads program_of) ∙ (ap length (sym g.setup.programs) ∙ length-map m.threads program_of)

-- After an event there are at least as many requests and overflowed completions as were recorded.
pub rows_recorded : (s : Setup) (es : List Event) (i : ℕ) (e : Event) (past : List Change) (n : Machine) (c : Occupancy) → Follows s es i c → IsAfter s es i e past n → length c.stamps.items ≤ length n.table
rows_recorded s es i e past n c l a = let k = l.occupancy.stamps.rows in let g = (grown s es i e past n a).rows in omega (arith, k, g)

pub overflows_recorded : (s : Setup) (es : List Event) (i : ℕ) (e : Event) (past : List Change) (n : Machine) (c : Occupancy) → Follows s es i c → IsAfter s es i e past n → c.overflowed ≤ length n.backlog.items
overflows_recorded s es i e past n c l a = let k = l.occupancy.overflowed in let g = (grown s es i e past n a).backlog in omega (arith, k, g)

pub few_after : (s : Setup) (es : List Event) (i : ℕ) (e : Event) (past : List Change) (n : Machine) (c : Occupancy) → Follows s es i c → IsAfter s es i e past n → length n.threads ≤ 16
few_after s es i e past n c l a = let k = same_threads (moment s es i) n (grown s es i e past n a) in let b = l.threads in omega (arith, k, b)

pub follows_more : (s : Setup) (es : List Event) (i : ℕ) (e : Event) (past : List Change) (n : Machine) (c c' : Occupancy) → Follows s es i c → IsAfter s es i e past n
    → c'.fillings.items ≡ c.fillings.items ++ filling_of n ∷ [] → c'.stamps.items ≡ stamps_after n.table (i + 1) past c.stamps.items → c'.overflowed ≡ length n.backlog.items
    → Follows s es (i + 1) c'
follows_more s es i e past n c c' l a f t o =
    let now : n ≡ moment s es (i + 1) = a.at.here in
    let longer : length (moment s es i).table ≤ length (moment s es (i + 1)).table = subst (λ x. length (moment s es i).table ≤ length x.table) now (grown s es i e past n a).rows in
    let exact : Exact (view (moment s es i)) (view (moment s es (i + 1))) past = subst (λ x. Exact (view (moment s es i)) (view x) past) now a.exact in
    let marks : c'.stamps.items ≡ stamps_after (moment s es (i + 1)).table (i + 1) past c.stamps.items = t ∙ ap (λ x. stamps_after x.table (i + 1) past c.stamps.items) now in
    record {
      most = l.most;
      occupancy = record {
        runs = a.at.runs;
        fillings = subst (AreFilled s es (i + 1)) (sym (f ∙ ap (λ x. c.fillings.items ++ filling_of x ∷ []) now)) (are_filled_more s es i c.fillings.items l.occupancy.fillings);
        stamps = subst (AreStamped s es (i + 1)) (sym marks) (are_stamped_more s es i past c.stamps.items l.growing longer exact l.occupancy.stamps);
        overflowed = o ∙ ap (λ x. length x.backlog.items) now;
      };
      growing = further longer;
      threads = subst (λ (x : Machine). length x.threads ≤ 16) now (few_after s es i e past n c l a);
    }
  where
    further : length (moment s es i).table ≤ length (moment s es (i + 1)).table → Growing s es (i + 1)
    further longer j b = by (j == i + 1) refl
      where
        by : (t : Bool) → (j == i + 1) ≡ t → length (moment s es j).table ≤ length (moment s es (i + 1)).table
        by true q = let k : j ≡ i + 1 = eqb-true j (i + 1) q in subst (λ x. length (moment s es x).table ≤ length (moment s es (i + 1)).table) (sym k) (le_refl _)
        by false q =
            let apart : j ≡ i + 1 → ⊥ = λ (v : j ≡ i + 1). let t = eq-eqb j (i + 1) v in absurd cc in
            let before = l.growing j (omega (arith, b, apart)) in
            omega (arith, before, longer)

-- The threads and the poller are read at the requested moment. Later events leave them unchanged.
pub stages_read : (s : Setup) (es : List Event) (i at : ℕ) (n : Machine) (x : ThreadStages) → IsAt s es (i + 1) n → i + 1 ≡ min at (length es) → AreThreadStages n x
    → min at (length es) ≤ i + 1 → AreThreadStages (moment s es (min at (length es))) x
stages_read s es i at n x a e stages l = subst (λ j. AreThreadStages (moment s es j) x) e (subst (λ m. AreThreadStages m x) a.here stages)

pub stages_kept : (s : Setup) (es : List Event) (i at : ℕ) (c : Occupancy) (x : ThreadStages) → HasFollowed s es i at c x → (i + 1 ≡ min at (length es) → ⊥)
    → min at (length es) ≤ i + 1 → AreThreadStages (moment s es (min at (length es))) x
stages_kept s es i at c x h apart l = h.thread_stages (omega (arith, l, apart))
