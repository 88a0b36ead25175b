-- Runs side by side are runs in turn.
use Rattle.std.proofs.Common.{append_assoc, ◌≡◌, inl, inr, ℕ, ◌+◌, ◌<◌, ◌≤◌, ◌++◌, zero, suc, true, false, List, [], ◌∷◌, length, slice_index, refl, sym, ap, subst, ◌∙◌, arith, Option, Some, None, replicate}
use Rattle.std.proofs.Math.Nat.{eq-or-lt_of_le}
use Rattle.std.proofs.lemmas.Bool.{false≢true}
use Rattle.std.proofs.lemmas.Option.{none-some}
use Rattle.std.specs.Int.{bit_at}
use Rattle.std.proofs.lemmas.List.{length-append}
use Rattle.std.proofs.lemmas.List.Sums.{sum_by-append}
use Rattle.search_rounds.specs.declared.outcome.Outcome.{Outcome}
use Rattle.search_rounds.specs.declared.outcome.Totals.{Totals}
use Rattle.search_rounds.specs.Counting.{Adds, IsSum, Counts}
use Rattle.search_rounds.specs.Trials.{IsOutcome, Trials, IsQuiet, IsFirst, Reports, NoneShows, IsLeast}
use Rattle.search_rounds.specs.Rounds.{part_start, HasRun}
use Rattle.search_rounds.specs.declared.lanes.Lane.{Lane}
use Rattle.std.specs.declared.alloc.AllocError.{AllocError}
use Rattle.std.specs.Prelude.{Result, Ok, OnOk, IfOk, slice_index_or}
use Rattle.std.proofs.lemmas.List.{get_or_read}

-- An element of a list of zeros, or past its end, is zero.
pub zeros : (n k : ℕ) → slice_index (replicate n 0) k ≡ 0
zeros zero k = refl
zeros (suc n) zero = refl
zeros (suc n) (suc k) = zeros n k

-- ---- Totals

pub counts-more : (t t' : Totals) (os : List Outcome) (o : Outcome) → Counts t os → Adds t o t' → Counts t' (os ++ o ∷ [])
counts-more t t' os o c a = record {
  runs = omega (arith, c.runs, a.runs, length-append os (o ∷ []));
  events = omega (arith, c.events, a.events, sum_by-append (λ (p : Outcome). p.events) os (o ∷ []));
  kinds = λ k h. omega (arith, c.kinds k h, a.kinds k h, sum_by-append (λ (p : Outcome). bit_at p.kinds k) os (o ∷ []));
}

pub counts-join : (t u v : Totals) (xs ys : List Outcome) → Counts t xs → Counts u ys → IsSum t u v → Counts v (xs ++ ys)
counts-join t u v xs ys c d s = record {
  runs = omega (arith, c.runs, d.runs, s.runs, length-append xs ys);
  events = omega (arith, c.events, d.events, s.events, sum_by-append (λ (p : Outcome). p.events) xs ys);
  kinds = λ k h. omega (arith, c.kinds k h, d.kinds k h, s.kinds k h, sum_by-append (λ (p : Outcome). bit_at p.kinds k) xs ys);
}

-- ---- Runs in turn

pub trials-append : (g : ℕ → Outcome → Type 0) (n m : ℕ) (xs ys : List Outcome) → n + length xs ≡ m → Trials g n xs → Trials g m ys → Trials g n (xs ++ ys)
trials-append g n m [] ys at t u = let P : ℕ → Type 0 = λ k. Trials g k ys in let e : m ≡ n = omega (arith, at) in subst P e u
trials-append g n m (x ∷ xs) ys at t u = (t.0, t.1, trials-append g (n + 1) m xs ys (omega arith) t.2 u)

-- No run, no totals.
pub quiet_none : (g : ℕ → Outcome → Type 0) (a b : ℕ) (t : Totals) → a ≡ b → Counts t [] → IsQuiet g a b t
quiet_none g a b t e c = record { outcomes = []; until = omega arith; trials = tt; totals = c }

-- One run more, which does not show what is searched for.
pub quiet_more : (g : ℕ → Outcome → Type 0) (a n : ℕ) (t t' : Totals) (o : Outcome) → IsQuiet g a n t → Adds t o t' → g n o → o.shows ≡ false → IsQuiet g a (n + 1) t'
quiet_more g a n t t' o q s given off = record {
  outcomes = q.outcomes ++ o ∷ [];
  until = omega (arith, q.until, length-append q.outcomes (o ∷ []));
  trials = trials-append g a n q.outcomes (o ∷ []) q.until q.trials (given, off, tt);
  totals = counts-more t t' q.outcomes o q.totals s;
}

-- One run more, which shows it.
pub first_found : (g : ℕ → Outcome → Type 0) (a n : ℕ) (t t' : Totals) (o : Outcome) → IsQuiet g a n t → Adds t o t' → g n o → o.shows ≡ true → IsFirst g a n t'
first_found g a n t t' o q s given on = record {
  before = q.outcomes;
  last = o;
  until = q.until;
  trials = q.trials;
  gives_last = given;
  shows = on;
  totals = counts-more t t' q.outcomes o q.totals s;
}

-- ---- How many runs are counted

pub runs_of_quiet : (g : ℕ → Outcome → Type 0) (a b : ℕ) (t : Totals) → IsQuiet g a b t → a + t.runs ≡ b
runs_of_quiet g a b t q = omega (arith, q.until, q.totals.runs)

pub runs_of_first : (g : ℕ → Outcome → Type 0) (a n : ℕ) (t : Totals) → IsFirst g a n t → a + t.runs ≡ n + 1
runs_of_first g a n t f = omega (arith, f.until, f.totals.runs, length-append f.before (f.last ∷ []))

pub runs_within : (g : ℕ → Outcome → Type 0) (a b : ℕ) (r : Option ℕ) (t : Totals) → Reports g a b r t → a + t.runs ≤ b
runs_within g a b None t q = omega (arith, runs_of_quiet g a b t q)
runs_within g a b (Some n) t f = omega (arith, f.0, runs_of_first g a n t f.1)

-- ---- Searches in turn

-- What two searches report, one after the other.
pub reports-join : (g : ℕ → Outcome → Type 0) (a b c : ℕ) (r : Option ℕ) (t u v : Totals) → IsQuiet g a b t → IsSum t u v → Reports g b c r u → Reports g a c r v
reports-join g a b c None t u v q s p = record {
  outcomes = q.outcomes ++ p.outcomes;
  until = omega (arith, q.until, p.until, length-append q.outcomes p.outcomes);
  trials = trials-append g a b q.outcomes p.outcomes q.until q.trials p.trials;
  totals = counts-join t u v q.outcomes p.outcomes q.totals p.totals s;
}
reports-join g a b c (Some n) t u v q s p = (
  p.0,
  record {
    before = q.outcomes ++ p.1.before;
    last = p.1.last;
    until = omega (arith, q.until, p.1.until, length-append q.outcomes p.1.before);
    trials = trials-append g a b q.outcomes p.1.before q.until q.trials p.1.trials;
    gives_last = p.1.gives_last;
    shows = p.1.shows;
    totals =
        (let P : List Outcome → Type 0 = λ os. Counts v os in
        subst P (sym (append_assoc q.outcomes p.1.before (p.1.last ∷ []))) (counts-join t u v q.outcomes (p.1.before ++ p.1.last ∷ []) q.totals p.1.totals s));
  },
)

-- A search that found nothing, with its result as a variable.
pub quiet_of : (g : ℕ → Outcome → Type 0) (a b : ℕ) (r : Option ℕ) (t : Totals) → Reports g a b r t → r ≡ None → IsQuiet g a b t
quiet_of g a b None t p e = p
quiet_of g a b (Some n) t p e = absurd (none-some n (sym e))

-- A search that found something stops there.
pub found_at : (g : ℕ → Outcome → Type 0) (a b c n : ℕ) (r : Option ℕ) (t : Totals) → r ≡ Some n → b ≤ c → Reports g a b r t → (n < c) × IsFirst g a n t
found_at g a b c n r t e h p =
    let P : Option ℕ → Type 0 = λ o. Reports g a b o t in
    let q : Reports g a b (Some n) t = subst P e p in
    (omega (arith, q.0), q.1)

-- ---- The least number that shows

trials_show : (shows : ℕ → Type 0) (gives : ℕ → Outcome → Type 0) (a : ℕ) (os : List Outcome) → Trials (IsOutcome shows gives) a os → (n : ℕ) → a ≤ n → n < a + length os → shows n → ⊥
trials_show shows gives a [] t n low high s = absurd (omega arith)
trials_show shows gives a (o ∷ os) t n low high s =
    elim (eq-or-lt_of_le low) [
      | inl same ↦ false≢true (sym t.1 ∙ t.0.decides.1 (subst shows (sym same) s))
      | inr over ↦ trials_show shows gives (a + 1) os t.2 n (omega arith) (omega arith) s
    ]

quiet_shows : (shows : ℕ → Type 0) (gives : ℕ → Outcome → Type 0) (a b : ℕ) (os : List Outcome) → a + length os ≡ b → Trials (IsOutcome shows gives) a os → NoneShows shows a b
quiet_shows shows gives a b os until t n low high = trials_show shows gives a os t n low (omega arith)

pub least_of : (shows : ℕ → Type 0) (gives : ℕ → Outcome → Type 0) (a b : ℕ) (r : Option ℕ) (t : Totals) → Reports (IsOutcome shows gives) a b r t → IsLeast shows a b r
least_of shows gives a b None t p = quiet_shows shows gives a b p.outcomes p.until p.trials
least_of shows gives a b (Some n) t p =
    (omega (arith, p.1.until), p.0, p.1.gives_last.decides.0 p.1.shows, quiet_shows shows gives a n p.1.before p.1.until p.1.trials)

pub quiet_least : (shows : ℕ → Type 0) (gives : ℕ → Outcome → Type 0) (a b c : ℕ) (t : Totals) → IsQuiet (IsOutcome shows gives) a b t → c ≤ b → NoneShows shows a c
quiet_least shows gives a b c t q h n low high = quiet_shows shows gives a b q.outcomes q.until q.trials n low (omega arith)

-- ---- Lanes

-- What lane `i` found.
pub lane_reports : {W : Type 0} (ready : W → Type 0) (g : ℕ → Outcome → Type 0) (from until n i : ℕ) (lanes : List (Lane W)) (lane : Lane W) (found : Option ℕ)
    → ((k : ℕ) (d : Lane W) → k < n → HasRun ready g (part_start from until k) (part_start from until (k + 1)) (slice_index_or lanes k d))
    → i < n → lane ≡ slice_index_or lanes i lane → Ok found ≡ lane.found
    → ready lane.worker × Reports g (part_start from until i) (part_start from until (i + 1)) found lane.totals
lane_reports {W} ready g from until n i lanes lane found each l is e =
    let H : Lane W → Type 0 = λ x. HasRun ready g (part_start from until i) (part_start from until (i + 1)) x in
    let h : H lane = subst H (sym is) (each i lane l) in
    let R : Result (Option ℕ) AllocError → Type 0 = λ r. OnOk r (ready lane.worker) × IfOk r (λ f. Reports g (part_start from until i) (part_start from until (i + 1)) f lane.totals) in
    subst R (sym e) (h.worker, h.reports)

-- One lane more is ready.
pub each_more : {W : Type 0} (ready : W → Type 0) (lanes : List (Lane W)) (i : ℕ) (lane : Lane W) → ((k : ℕ) (d : Lane W) → k < i → ready (slice_index_or lanes k d).worker)
    → i < length lanes → lane ≡ slice_index_or lanes i lane → ready lane.worker → (k : ℕ) (d : Lane W) → k < i + 1 → ready (slice_index_or lanes k d).worker
each_more {W} ready lanes i lane before l is r k d h =
    let low : k ≤ i = omega arith in
    let P : Lane W → Type 0 = λ x. ready x.worker in
    elim (eq-or-lt_of_le low) [
      | inl same ↦ subst P (get_or_read lanes i lane l is d ∙ ap (λ j. slice_index_or lanes j d) (sym same)) r
      | inr under ↦ before k d under
    ]

-- The runs of one lane more.
pub lanes_join : {W : Type 0} (ready : W → Type 0) (g : ℕ → Outcome → Type 0) (from until n i : ℕ) (lanes : List (Lane W)) (lane : Lane W) (found : Option ℕ) (t v : Totals)
    → ((k : ℕ) (d : Lane W) → k < n → HasRun ready g (part_start from until k) (part_start from until (k + 1)) (slice_index_or lanes k d))
    → i < n → lane ≡ slice_index_or lanes i lane → Ok found ≡ lane.found
    → IsQuiet g from (part_start from until i) t → IsSum t lane.totals v
    → Reports g from (part_start from until (i + 1)) found v
lanes_join ready g from until n i lanes lane found t v each l is e q s =
    let p = lane_reports ready g from until n i lanes lane found each l is e in
    reports-join g from (part_start from until i) (part_start from until (i + 1)) found t lane.totals v q s p.1
