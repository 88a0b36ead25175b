-- Lemmas about pushing events one after the other at the end of a trail.
use Rattle.std.proofs.Common.{◌≡◌, ℕ, zero, suc, ◌+◌, ◌<◌, ◌≤◌, List, [], ◌∷◌, ◌++◌, ◌⊎◌, inl, inr, length, take, get_or, refl, sym, ap, ◌∙◌, subst, arith, append_assoc, length-append}
use Rattle.std.specs.Prelude.{Some, None, slice_get}
use Rattle.std.proofs.lemmas.List.{length-take, take_all, take_more}
use Rattle.std.proofs.lemmas.Option.{slice_get-get_or}
use Rattle.machine.specs.declared.whole.Machine.{Machine}
use Rattle.scenario.specs.declared.event.Event.{Event}
use Rattle.scenario.specs.declared.event.Refusal.{Refusal}
use Rattle.scenario.specs.declared.event.Refusal.TheVariants.{Memory}
use Rattle.machine.specs.Steps.{refusal, after}
use Rattle.machine.specs.Runs.{run, start, Accepts}
use Rattle.inverse_log.specs.Tracks.{Track, current, ends, grown, RefusedAt}
use Rattle.inverse_log.proofs.Runs.{run-append, run_all, accepts-push}

-- `v` is the track `w` after the first i events were pushed.
pub record Pushed (w : Track) (es : List Event) (i : ℕ) (v : Track) : Type 0 where
  pub walk : v ≡ grown w (take i es) (w.at + i)
  pub accepts : Accepts (ends w) (take i es)

pub pushed_last : (w v : Track) (es : List Event) (i : ℕ) → w.at ≡ length w.events → i ≤ length es → Pushed w es i v → v.at ≡ length v.events
pushed_last w v es i last h p =
    let at : v.at ≡ w.at + i = ap (λ (x : Track). x.at) p.walk in
    let events : length v.events ≡ length (w.events ++ take i es) = ap (λ (x : Track). length x.events) p.walk in
    let long = length-append w.events (take i es) in
    let short = length-take i es in
    omega arith

-- There is room for one more event.
pub pushed_room : (w v : Track) (es : List Event) (i most : ℕ) → w.at ≡ length w.events → i < length es → length w.events + length es ≤ most → Pushed w es i v → length v.events < most
pushed_room w v es i most last h room p =
    let end = pushed_last w v es i last (omega (arith, h)) p in
    let at : v.at ≡ w.at + i = ap (λ (x : Track). x.at) p.walk in
    omega (arith, last, h, room, end, at)

-- After one more event the position is still the end.
pub grown_last : (v v' : Track) (e : Event) → v.at ≡ length v.events → v' ≡ grown v (e ∷ []) (v.at + 1) → v'.at ≡ length v'.events
grown_last v v' e last g = ap (λ (x : Track). x.at) g ∙ ap (λ n. n + 1) last ∙ sym (length-append v.events (e ∷ [])) ∙ ap (λ (x : Track). length x.events) (sym g)

-- All events were pushed.
pub pushed_all : (w v : Track) (es : List Event) (i : ℕ) → i ≡ length es → Pushed w es i v → (v ≡ grown w es (w.at + length es)) × Accepts (ends w) es
pushed_all w v es i all p =
    let whole = take_all i es (omega (arith, all)) in
    (p.walk ∙ ap (λ fs. grown w fs (w.at + i)) whole ∙ ap (λ n. grown w es (w.at + n)) all, subst (Accepts (ends w)) whole p.accepts)

pub pushed_current : (w v : Track) (es : List Event) (i : ℕ) → w.at ≡ length w.events → i ≤ length es → Pushed w es i v → current v ≡ run (ends w) (take i es)
pushed_current w v es i last h p =
    run_all (start v.setup) v.events v.at (pushed_last w v es i last h p) ∙ ap (λ (x : Track). run (start x.setup) x.events) p.walk ∙ run-append (start w.setup) w.events (take i es)

one_more : (es : List Event) (i : ℕ) (e d : Event) → i < length es → e ≡ get_or es i d → take (i + 1) es ≡ take i es ++ e ∷ []
one_more es i e d h g = take_more es i d h ∙ ap (λ x. take i es ++ x ∷ []) (sym g)

pub pushed_more : (w v v' : Track) (es : List Event) (i : ℕ) (e d : Event) → w.at ≡ length w.events → i < length es → Pushed w es i v → refusal (current v) e ≡ None → v' ≡ grown v (e ∷ []) (v.at + 1) → e ≡ get_or es i d → Pushed w es (i + 1) v'
pushed_more w v v' es i e d last h p a k g =
    let more : (w.events ++ take i es) ++ e ∷ [] ≡ w.events ++ take (i + 1) es = append_assoc w.events (take i es) (e ∷ []) ∙ ap (λ fs. w.events ++ fs) (sym (one_more es i e d h g)) in
    let below : i ≤ length es = omega arith in
    let run_on : Accepts (ends w) (take i es ++ e ∷ []) = accepts-push (ends w) (take i es) e p.accepts (ap (λ m. refusal m e) (sym (pushed_current w v es i last below p)) ∙ a) in
    record {
      walk = k ∙ ap (λ (x : Track). grown x (e ∷ []) (x.at + 1)) p.walk
          ∙ ap (λ fs. record { setup = w.setup; events = fs; at = w.at + i + 1; walked = w.walked }) more
          ∙ ap (λ n. record { setup = w.setup; events = w.events ++ take (i + 1) es; at = n; walked = w.walked }) (let e : w.at + i + 1 ≡ w.at + (i + 1) = omega arith in e);
      accepts = subst (Accepts (ends w)) (sym (one_more es i e d h g)) run_on;
    }

pub pushed_stops : (w v : Track) (es : List Event) (i : ℕ) (e d : Event) (n : Refusal) → w.at ≡ length w.events → i < length es → Pushed w es i v → (refusal (current v) e ≡ Some n) ⊎ ((n ≡ Memory) × (refusal (current v) e ≡ None)) → e ≡ get_or es i d → RefusedAt (ends w) es i n
pushed_stops w v es i e d n last h p r g =
    let below : i ≤ length es = omega arith in
    let P : Machine → Type 0 = λ m. (refusal m e ≡ Some n) ⊎ ((n ≡ Memory) × ((i ≡ 0) ⊎ (refusal m e ≡ None))) in
    record {
      event = e;
      there = slice_get-get_or es i d h ∙ ap Some (sym g);
      runs = p.accepts;
      refused = subst P (pushed_current w v es i last below p) (elim r [ inl k ↦ inl k | inr k ↦ inr (k.0, inr k.1) ]);
    }

-- An allocation failure before the first event is reported at index 0.
pub no_memory : (m : Machine) (es : List Event) → 0 < length es → RefusedAt m es 0 Memory
no_memory m [] h = absurd (omega arith)
no_memory m (e ∷ es) h = record { event = e; there = slice_get-get_or (e ∷ es) 0 e h; runs = tt; refused = inr (refl, inl refl) }

-- An allocation failure may be reported at any event of a run that is accepted whole.
pub no_copy : (m : Machine) (es : List Event) (i : ℕ) → i < length es → Accepts m es → RefusedAt m es i Memory
no_copy m [] i h a = absurd (omega arith)
no_copy m (e ∷ es) zero h a = record { event = e; there = slice_get-get_or (e ∷ es) 0 e h; runs = tt; refused = inr (refl, inl refl) }
no_copy m (e ∷ es) (suc i) h a =
    let s = no_copy (after m e) es i (omega arith) a.1 in
    let below : i < length es = omega arith in
    record {
      event = s.event;
      there = s.there;
      runs = (a.0, s.runs);
      refused = inr (refl, inr (accepts_at (after m e) es i s.event below a.1 s.there));
    }
  where
    accepts_at : (n : Machine) (fs : List Event) (j : ℕ) (d : Event) → j < length fs → Accepts n fs → slice_get fs j ≡ Some d → refusal (run n (take j fs)) d ≡ None
    accepts_at n [] j d h b g = absurd (omega arith)
    accepts_at n (f ∷ fs) zero d h b g = let same : f ≡ d = cc in ap (refusal n) (sym same) ∙ b.0
    accepts_at n (f ∷ fs) (suc j) d h b g = accepts_at (after n f) fs j d (omega arith) b.1 g
