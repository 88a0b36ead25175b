-- Receipts that follow from a trace.
use Rattle.std.proofs.Common.{◌≡◌, ℕ, zero, suc, ◌+◌, ◌≤◌, ◌<◌, ◌==◌, Bool, true, false, cond, List, [], ◌∷◌, ◌++◌, length, get_or, take, drop, refl, sym, ap, ◌∙◌, arith, Some, slice_get, Contains, length-append}
use Rattle.std.specs.Prelude.{option_map}
use Rattle.std.proofs.lemmas.Option.{slice_get-get_or, slice_get_within, get_or_from_slice_get}
use Rattle.std.proofs.lemmas.List.{drop_more, take_more, append_assoc, length-take-le}
use Rattle.std.proofs.Math.Seq.{get_or-append_seam}
use Rattle.std.proofs.lemmas.Bool.Decides.{nat_tests}
use Rattle.scenario.specs.declared.event.Event.{Event}
use Rattle.live_states.specs.declared.receipt.Receipt.{Receipt}
use Rattle.live_states.specs.Received.{receipt, receipts_of, receipts_from, IsOf}

-- The index at which a list of events, the first at moment m, has the event of a receipt.
record Found (a m : ℕ) (os : List ℕ) (es : List Event) (r : Receipt) : Type 0 where
  pub at : ℕ
  pub moment : r.moment ≡ m + at
  pub actor : r.actor ≡ a
  pub owner : slice_get os at ≡ Some a
  pub event : slice_get es at ≡ Some r.event

later : (a m o : ℕ) (os : List ℕ) (e : Event) (es : List Event) (r : Receipt) → Found a (m + 1) os es r → Found a m (o ∷ os) (e ∷ es) r
later a m o os e es r f = record { at = suc f.at; moment = omega (arith, f.moment); actor = f.actor; owner = f.owner; event = f.event }

-- The receipts, given whether the first event is the actor's.
abbrev pub receipts_by : Bool → ℕ → ℕ → List ℕ → Event → List Event → List Receipt
receipts_by b a m os e es = cond b (receipt a m e ∷ receipts_from a (m + 1) os es) (receipts_from a (m + 1) os es)

found_by : (a m o : ℕ) (os : List ℕ) (e : Event) (es : List Event) (r : Receipt)
    → ((k : ℕ) → k < length (receipts_from a (m + 1) os es) → get_or (receipts_from a (m + 1) os es) k r ≡ r → Found a (m + 1) os es r)
    → (k : ℕ) (b : Bool) → (o == a) ≡ b → k < length (receipts_by b a m os e es) → get_or (receipts_by b a m os e es) k r ≡ r → Found a m (o ∷ os) (e ∷ es) r
found_by a m o os e es r rest zero true is h g =
    let same : o ≡ a = grind (arith, nat_tests) in
    record { at = 0; moment = ap (λ (x : Receipt). x.moment) (sym g) ∙ omega arith; actor = ap (λ (x : Receipt). x.actor) (sym g); owner = ap (λ x. Some x) same; event = ap (λ (x : Receipt). Some x.event) g }
found_by a m o os e es r rest (suc k) true is h g = later a m o os e es r (rest k (omega arith) g)
found_by a m o os e es r rest k false is h g = later a m o os e es r (rest k h g)

found : (a m : ℕ) (os : List ℕ) (es : List Event) (r : Receipt) (k : ℕ) → k < length (receipts_from a m os es) → get_or (receipts_from a m os es) k r ≡ r → Found a m os es r
found a m [] es r k h g = absurd (omega arith)
found a m (o ∷ os) [] r k h g = absurd (omega arith)
found a m (o ∷ os) (e ∷ es) r k h g = found_by a m o os e es r (found a (m + 1) os es r) k (o == a) refl h g

pub receipts_are_of : (a : ℕ) (os : List ℕ) (es : List Event) (r : Receipt) → Contains (receipts_of a os es) r → IsOf os es r
receipts_are_of a os es r h =
    let f = found a 0 os es r h.0 h.1 h.2 in
    let at : f.at ≡ r.moment = omega (arith, f.moment) in
    (ap (λ i. slice_get os i) (sym at) ∙ f.owner ∙ ap (λ x. Some x) (sym f.actor), ap (λ i. slice_get es i) (sym at) ∙ f.event)

pub receipts_owner : (a : ℕ) (os : List ℕ) (es : List Event) (r : Receipt) → Contains (receipts_of a os es) r → r.actor ≡ a
receipts_owner a os es r h = (found a 0 os es r h.0 h.1 h.2).actor

-- The receipts after one event, if it is the actor's and if it isn't.
receipts_own : (a m o : ℕ) (os : List ℕ) (e : Event) (es : List Event) (b : Bool) → (o == a) ≡ b → b ≡ true → receipts_by b a m os e es ≡ receipt a m e ∷ receipts_from a (m + 1) os es
receipts_own a m o os e es true is h = refl
receipts_own a m o os e es false is h = absurd (cc)

receipts_of_others : (a m o : ℕ) (os : List ℕ) (e : Event) (es : List Event) (b : Bool) → (o == a) ≡ b → b ≡ false → receipts_by b a m os e es ≡ receipts_from a (m + 1) os es
receipts_of_others a m o os e es true is h = absurd (cc)
receipts_of_others a m o os e es false is h = refl

receipts_drop : (a i : ℕ) (os : List ℕ) (es : List Event) (o : ℕ) (e : Event) → i < length os → i < length es
    → receipts_from a i (drop i os) (drop i es) ≡ receipts_from a i (get_or os i o ∷ drop (i + 1) os) (get_or es i e ∷ drop (i + 1) es)
receipts_drop a i os es o e h k = ap (λ l. receipts_from a i l (drop i es)) (drop_more os i o h) ∙ ap (λ l. receipts_from a i (get_or os i o ∷ drop (i + 1) os) l) (drop_more es i e k)

-- Progress of the check: the first `next` receipts are right, and the trace from event i on
-- determines the others.
pub record Agrees (a : ℕ) (os : List ℕ) (es : List Event) (rs : List Receipt) (next i : ℕ) : Type 0 where
  pub within : next ≤ length rs
  pub so_far : receipts_of a os es ≡ take next rs ++ receipts_from a i (drop i os) (drop i es)

pub agrees_skip : (a : ℕ) (os : List ℕ) (es : List Event) (rs : List Receipt) (next i o : ℕ) (e : Event) → Agrees a os es rs next i → i < length os → i < length es
    → (get_or os i o == a) ≡ false → Agrees a os es rs next (i + 1)
agrees_skip a os es rs next i o e was h k other = record {
  within = was.within;
  so_far = was.so_far ∙ ap (λ l. take next rs ++ l) (receipts_drop a i os es o e h k ∙ receipts_of_others a i (get_or os i o) (drop (i + 1) os) (get_or es i e) (drop (i + 1) es) (get_or os i o == a) refl other);
}

pub agrees_own : (a : ℕ) (os : List ℕ) (es : List Event) (rs : List Receipt) (next i o : ℕ) (e : Event) → Agrees a os es rs next i → i < length os → i < length es
    → (get_or os i o == a) ≡ true → receipts_of a os es ≡ take next rs ++ receipt a i (get_or es i e) ∷ receipts_from a (i + 1) (drop (i + 1) os) (drop (i + 1) es)
agrees_own a os es rs next i o e was h k same = was.so_far ∙ ap (λ l. take next rs ++ l) (receipts_drop a i os es o e h k ∙ receipts_own a i (get_or os i o) (drop (i + 1) os) (get_or es i e) (drop (i + 1) es) (get_or os i o == a) refl same)

-- The receipt at the index where that of event i is expected.
receipt_there : (a i next : ℕ) (es : List Event) (rs : List Receipt) (e : Event) → i < length es → slice_get rs next ≡ option_map (receipt a i) (slice_get es i) → slice_get rs next ≡ Some (receipt a i (get_or es i e))
receipt_there a i next es rs e k h = h ∙ ap (λ o. option_map (receipt a i) o) (slice_get-get_or es i e k)

-- The trace has one more of the actor's events.
pub agrees_more : (a : ℕ) (os : List ℕ) (es : List Event) (rs : List Receipt) (next i o : ℕ) (e : Event) → Agrees a os es rs next i → i < length os → i < length es
    → (get_or os i o == a) ≡ true → slice_get rs next ≡ option_map (receipt a i) (slice_get es i) → Agrees a os es rs (next + 1) (i + 1)
agrees_more a os es rs next i o e was h k same right =
    let x = receipt a i (get_or es i e) in
    let there = receipt_there a i next es rs e k right in
    let room : next < length rs = slice_get_within rs next x there in
    record {
      within = omega (arith, room);
      so_far =
          let rest = receipts_from a (i + 1) (drop (i + 1) os) (drop (i + 1) es) in
          let more : take (next + 1) rs ≡ take next rs ++ x ∷ [] = take_more rs next x room ∙ ap (λ y. take next rs ++ y ∷ []) (get_or_from_slice_get rs next x x there) in
          agrees_own a os es rs next i o e was h k same ∙ sym (append_assoc (take next rs) (x ∷ []) rest) ∙ ap (λ l. l ++ rest) (sym more);
    }

-- If the receipts are right, the next one is that of the actor's next event.
pub receipts_next : (a : ℕ) (os : List ℕ) (es : List Event) (rs : List Receipt) (next i o : ℕ) (e : Event) → Agrees a os es rs next i → i < length os → i < length es
    → (get_or os i o == a) ≡ true → rs ≡ receipts_of a os es → slice_get rs next ≡ option_map (receipt a i) (slice_get es i)
receipts_next a os es rs next i o e was h k same all =
    let rest = receipts_from a (i + 1) (drop (i + 1) os) (drop (i + 1) es) in
    let x = receipt a i (get_or es i e) in
    let is : rs ≡ take next rs ++ x ∷ rest = all ∙ agrees_own a os es rs next i o e was h k same in
    let front : length (take next rs) ≡ next = length-take-le next rs was.within in
    let count : length rs ≡ length (take next rs) + suc (length rest) = ap (λ l. length l) is ∙ length-append (take next rs) (x ∷ rest) in
    let room : next < length rs = omega (arith, front, count) in
    let here : get_or rs next x ≡ x = ap (λ l. get_or l next x) is ∙ ap (λ n. get_or (take next rs ++ x ∷ rest) n x) (sym front) ∙ get_or-append_seam (take next rs) x rest x in
    slice_get-get_or rs next x room ∙ ap (λ y. Some y) here ∙ sym (ap (λ o. option_map (receipt a i) o) (slice_get-get_or es i e k))
