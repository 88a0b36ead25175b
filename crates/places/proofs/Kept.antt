-- What remains of notes when a recorder is closed.
use Rattle.std.proofs.Common.{◌≡◌, ◌≢◌, ℕ, suc, ◌+◌, Bool, true, false, refl, sym, ◌∙◌, ap, subst, List, [], ◌∷◌, ◌++◌, inl, inr, length, take, drop, arith}
use Rattle.std.specs.Prelude.{Option, Some, None, slice_get, map, MatchBool}
use Rattle.std.specs.List.Retain.{ReturnsInTurn, IsFiltered}
use Rattle.std.specs.List.{items_where_true}
use Rattle.places.specs.declared.value.Change.{Change}
use Rattle.places.specs.declared.notes.runs.Region.{Region}
use Rattle.places.specs.declared.notes.runs.Run.{Run}
use Rattle.places.specs.View.{View, named, NamesOnce, LeadsBack, Exact}
use Rattle.places.specs.Runs.{place_in, old_bytes, run_changes, RunsOnce}
use Rattle.places.specs.Closed.{KeptOf, LeftOf}
use Rattle.places.proofs.Closing.{Leaves, stays, goes, exact_rest}
use Rattle.std.proofs.Math.Seq.{take-append_seam, drop-append_seam}

pub kept_append : (v : View) (cs ds cs' ds' : List Change) → KeptOf v cs cs' → KeptOf v ds ds' → KeptOf v (cs ++ ds) (cs' ++ ds')
kept_append v [] ds cs' ds' h k = subst (λ es. KeptOf v ds (es ++ ds')) (sym h) k
kept_append v (c ∷ cs) ds cs' ds' (inl h) k = inl (h.0, h.1 ++ ds', ap (λ es. es ++ ds') h.2, kept_append v cs ds h.1 ds' h.3 k)
kept_append v (c ∷ cs) ds cs' ds' (inr h) k = inr (h.0, kept_append v cs ds cs' ds' h.1 k)

-- Place by place, what remains of notes that have at most one for each place.
pub kept_leaves : (v : View) (cs ds : List Change) → NamesOnce cs → KeptOf v cs ds → Leaves v cs ds × NamesOnce ds
unfolding named
kept_leaves v [] ds o h = subst (λ es. Leaves v [] es × NamesOnce es) (sym h) (λ p. refl, tt)
kept_leaves v (c ∷ cs) ds o (inl h) =
    let k = kept_leaves v cs h.1 o.1 h.3 in
    subst (λ es. Leaves v (c ∷ cs) es × NamesOnce es) (sym h.2) (stays v c cs h.1 h.0 k.0 k.1 o.0)
kept_leaves v (c ∷ cs) ds o (inr h) = let k = kept_leaves v cs ds o.1 h.1 in (goes v c cs ds h.0 k.0 o.0, k.1)

pub kept_exact : (old v : View) (cs ds : List Change) → NamesOnce cs → KeptOf v cs ds → LeadsBack old v cs → Exact old v ds
kept_exact old v cs ds o h b = exact_rest old v cs ds b (kept_leaves v cs ds o h).0

-- What remains of recorded bytes, if each is dropped or not by the current value of its place.
pub kept_bytes : (v : View) (g : Region) (s : ℕ) (os ps : List (Option ℕ)) → length ps ≡ length os → ((k : ℕ) (o p : Option ℕ) → slice_get os k ≡ Some o → slice_get ps k ≡ Some p → LeftOf (v (place_in g (s + k))) o p) → KeptOf v (old_bytes g s os) (old_bytes g s ps)
kept_bytes v g s [] [] l h = refl
kept_bytes v g s [] (p ∷ ps) l h = absurd (omega arith)
kept_bytes v g s (o ∷ os) [] l h = absurd (omega arith)
kept_bytes v g s (o ∷ os) (p ∷ ps) l h = one o p (subst (λ i. LeftOf (v (place_in g i)) o p) (let e : s + 0 ≡ s = omega arith in e) (h 0 o p refl refl))
    (kept_bytes v g (s + 1) os ps (omega arith) (λ k o' p' e f. subst (λ i. LeftOf (v (place_in g i)) o' p') (let j : s + suc k ≡ (s + 1) + k = omega arith in j) (h (suc k) o' p' e f)))
  where
    one : (o p : Option ℕ) → LeftOf (v (place_in g s)) o p → KeptOf v (old_bytes g (s + 1) os) (old_bytes g (s + 1) ps) → KeptOf v (old_bytes g s (o ∷ os)) (old_bytes g s (p ∷ ps))
    one None p e k = subst (λ q. KeptOf v (old_bytes g s (None ∷ os)) (old_bytes g s (q ∷ ps))) (sym e) k
    one (Some b) p (inl e) k = subst (λ q. KeptOf v (old_bytes g s (Some b ∷ os)) (old_bytes g s (q ∷ ps))) (sym e.0) (inl (e.1, old_bytes g (s + 1) ps, refl, k))
    one (Some b) p (inr e) k = subst (λ q. KeptOf v (old_bytes g s (Some b ∷ os)) (old_bytes g s (q ∷ ps))) (sym e.0) (inr (e.1, k))

-- What remains of a run and of the runs after it.
pub kept_runs : (v : View) (r : Run) (rs : List Run) (os fs bs : List (Option ℕ)) → length fs ≡ r.len → KeptOf v (old_bytes r.region r.start (take r.len os)) (old_bytes r.region r.start fs) → KeptOf v (run_changes rs (drop r.len os)) (run_changes rs bs) → KeptOf v (run_changes (r ∷ rs) os) (run_changes (r ∷ rs) (fs ++ bs))
kept_runs v r rs os fs bs e h k =
    let a : take r.len (fs ++ bs) ≡ fs = ap (λ n. take n (fs ++ bs)) (sym e) ∙ take-append_seam fs bs in
    let b : drop r.len (fs ++ bs) ≡ bs = ap (λ n. drop n (fs ++ bs)) (sym e) ∙ drop-append_seam fs bs in
    rw (a, b) (kept_append v (old_bytes r.region r.start (take r.len os)) (run_changes rs (drop r.len os)) (old_bytes r.region r.start fs) (run_changes rs bs) h k)

-- Dropping bytes maintains the invariant of runs.
pub runs_closed : (v : View) (rs : List Run) (os ps : List (Option ℕ)) → RunsOnce rs os → length ps ≡ length os → KeptOf v (run_changes rs os) (run_changes rs ps) → RunsOnce rs ps
runs_closed v rs os ps o l k = record { fits = o.fits ∙ sym l; within = o.within; once = (kept_leaves v (run_changes rs os) (run_changes rs ps) o.once k).1 }

-- What `Vec::retain` leaves of notes of one kind, if its test compares the old
-- value with the current one.
module _ {X F : Type 0} (change : X → Change) (R : F → X → Bool → F → Type 0) (v : View) (f : F) (h : (x : X) (b : Bool) (f' : F) → R f x b f' → MatchBool b ((change x).old ≢ v (change x).place) ((change x).old ≡ v (change x).place) × (f' ≡ f)) where
  kept_is_kept_of : (bs : List Bool) (xs : List X) (g q : F) → g ≡ f → length bs ≡ length xs → ReturnsInTurn R g bs xs q → KeptOf v (map change xs) (map change (items_where_true bs xs))
  kept_is_kept_of [] [] g q e l t = refl
  kept_is_kept_of [] (x ∷ xs) g q e l t = absurd cc
  kept_is_kept_of (b ∷ bs) [] g q e l t = absurd t
  kept_is_kept_of (true ∷ bs) (x ∷ xs) g q e l t =
      let one = h x true t.0 (subst (λ (y : F). R y x true t.0) e t.1) in
      inl (one.0, map change (items_where_true bs xs), refl, kept_is_kept_of bs xs t.0 q one.1 (let k : length bs ≡ length xs = omega arith in k) t.2)
  kept_is_kept_of (false ∷ bs) (x ∷ xs) g q e l t =
      let one = h x false t.0 (subst (λ (y : F). R y x false t.0) e t.1) in
      inr (one.0, kept_is_kept_of bs xs t.0 q one.1 (let k : length bs ≡ length xs = omega arith in k) t.2)

  pub kept_filtered : (xs ys : List X) → IsFiltered R f xs ys → KeptOf v (map change xs) (map change ys)
  kept_filtered xs ys k = subst (λ zs. KeptOf v (map change xs) (map change zs)) (sym k.4) (kept_is_kept_of k.0 xs f k.1 refl k.2 k.3)

map_self : (cs : List Change) → map (λ c. c) cs ≡ cs
map_self [] = refl
map_self (c ∷ cs) = ap (λ ds. c ∷ ds) (map_self cs)

-- The same for a list of changes.
pub kept_rest : {F : Type 0} (R : F → Change → Bool → F → Type 0) (v : View) (f : F) → ((c : Change) (b : Bool) (f' : F) → R f c b f' → MatchBool b (c.old ≢ v c.place) (c.old ≡ v c.place) × (f' ≡ f)) → (cs ds : List Change) → IsFiltered R f cs ds → KeptOf v cs ds
kept_rest R v f h cs ds k = rw (map_self cs, map_self ds) at (kept_filtered (λ c. c) R v f h cs ds k)
