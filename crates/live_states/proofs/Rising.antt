-- The order of the moments of receipts.
use Rattle.std.proofs.Common.{◌≡◌, ℕ, zero, suc, ◌+◌, ◌<◌, ◌≤◌, ◌==◌, Bool, true, false, List, [], ◌∷◌, length, get_or, sym, ap, ◌∙◌, subst, arith, add-one, Some, slice_get, Contains}
use Rattle.std.specs.Prelude.{map}
use Rattle.std.specs.List.Sorted.{IsStrictlyIncreasing}
use Rattle.std.proofs.lemmas.Option.{slice_get_within}
use Rattle.scenario.specs.declared.event.Event.{Event}
use Rattle.live_states.specs.declared.receipt.Receipt.{Receipt}
use Rattle.live_states.specs.History.{Past, Whole}
use Rattle.live_states.specs.Receipts.{IsReceiptOf}
use Rattle.live_states.specs.Received.{receipt, receipts_of, receipts_from, IsOf}
use Rattle.live_states.proofs.ReceiptLemmas.{receipts_by, receipts_are_of, receipts_owner}

abbrev pub moments : List Receipt → List ℕ
moments receipts = map (λ (r : Receipt). r.moment) receipts

-- ---- The moments of an actor's events in a trace

later_by : (a m : ℕ) (os : List ℕ) (e : Event) (es : List Event) → ((k : ℕ) → k < length (moments (receipts_from a (m + 1) os es)) → m + 1 ≤ get_or (moments (receipts_from a (m + 1) os es)) k 0)
    → (k : ℕ) (b : Bool) → k < length (moments (receipts_by b a m os e es)) → m ≤ get_or (moments (receipts_by b a m os e es)) k 0
later_by a m os e es rest zero true h = omega arith
later_by a m os e es rest (suc k) true h = let r = rest k (omega arith) in omega (arith, r)
later_by a m os e es rest k false h = let r = rest k h in omega (arith, r)

later : (a m : ℕ) (os : List ℕ) (es : List Event) (k : ℕ) → k < length (moments (receipts_from a m os es)) → m ≤ get_or (moments (receipts_from a m os es)) k 0
later a m [] es k h = absurd (omega arith)
later a m (o ∷ os) [] k h = absurd (omega arith)
later a m (o ∷ os) (e ∷ es) k h = later_by a m os e es (later a (m + 1) os es) k (o == a) h

rise_by : (a m : ℕ) (os : List ℕ) (e : Event) (es : List Event) → ((k : ℕ) → k < length (moments (receipts_from a (m + 1) os es)) → m + 1 ≤ get_or (moments (receipts_from a (m + 1) os es)) k 0)
    → ((k : ℕ) → suc k < length (moments (receipts_from a (m + 1) os es)) → get_or (moments (receipts_from a (m + 1) os es)) k 0 < get_or (moments (receipts_from a (m + 1) os es)) (suc k) 0)
    → (k : ℕ) (b : Bool) → suc k < length (moments (receipts_by b a m os e es)) → get_or (moments (receipts_by b a m os e es)) k 0 < get_or (moments (receipts_by b a m os e es)) (suc k) 0
rise_by a m os e es low rest zero true h = let r = low 0 (omega arith) in omega (arith, r)
rise_by a m os e es low rest (suc k) true h = rest k (omega arith)
rise_by a m os e es low rest k false h = rest k h

rise : (a m : ℕ) (os : List ℕ) (es : List Event) (k : ℕ) → suc k < length (moments (receipts_from a m os es)) → get_or (moments (receipts_from a m os es)) k 0 < get_or (moments (receipts_from a m os es)) (suc k) 0
rise a m [] es k h = absurd (omega arith)
rise a m (o ∷ os) [] k h = absurd (omega arith)
rise a m (o ∷ os) (e ∷ es) k h = rise_by a m os e es (later a (m + 1) os es) (rise a (m + 1) os es) k (o == a) h

receipts_rise : (a : ℕ) (os : List ℕ) (es : List Event) → IsStrictlyIncreasing (moments (receipts_of a os es))
receipts_rise a os es = λ k h. rw add-one (rise a 0 os es k (omega arith))

-- ---- The moments in a closed run

-- An actor's receipts are its events in the trace.
receipts_are : (c : Past) (a : ℕ) (receipts : List Receipt) → Whole c → slice_get c.receipts a ≡ Some receipts → receipts ≡ receipts_of a c.owners c.events
receipts_are c a receipts w e = let t = w.received a (slice_get_within c.receipts a receipts e) in cc

pub all_rise : (c : Past) (a : ℕ) (receipts : List Receipt) → Whole c → slice_get c.receipts a ≡ Some receipts → IsStrictlyIncreasing (moments receipts)
all_rise c a receipts w e = subst (λ (rs : List Receipt). IsStrictlyIncreasing (moments rs)) (sym (receipts_are c a receipts w e)) (receipts_rise a c.owners c.events)

receipt_received : (c : Past) (a : ℕ) (r : Receipt) → Whole c → IsReceiptOf c a r → Contains (receipts_of a c.owners c.events) r
receipt_received c a r w h = subst (λ (rs : List Receipt). Contains rs r) (receipts_are c a h.receipts w h.there) h.member

pub all_redeem : (c : Past) (a : ℕ) (r : Receipt) → Whole c → IsReceiptOf c a r → IsOf c.owners c.events r
all_redeem c a r w h = receipts_are_of a c.owners c.events r (receipt_received c a r w h)

owner_is : (c : Past) (a : ℕ) (r : Receipt) → Whole c → IsReceiptOf c a r → r.actor ≡ a
owner_is c a r w h = receipts_owner a c.owners c.events r (receipt_received c a r w h)

same_receipt : (r s : Receipt) → r.actor ≡ s.actor → r.moment ≡ s.moment → r.event ≡ s.event → r ≡ s
same_receipt r s actor moment event =
    ap (λ (x : ℕ). receipt x r.moment r.event) actor ∙ ap (λ (x : ℕ). receipt s.actor x r.event) moment ∙ ap (λ (x : Event). receipt s.actor s.moment x) event

pub all_differ : (c : Past) (a b : ℕ) (r s : Receipt) → Whole c → IsReceiptOf c a r → IsReceiptOf c b s → r.moment ≡ s.moment → (a ≡ b) × (r ≡ s)
all_differ c a b r s w h k same =
    let x = all_redeem c a r w h in
    let y = all_redeem c b s w k in
    let there : slice_get c.owners r.moment ≡ slice_get c.owners s.moment = ap (λ i. slice_get c.owners i) same in
    let event_there : slice_get c.events r.moment ≡ slice_get c.events s.moment = ap (λ i. slice_get c.events i) same in
    let owner = x.0 in let owner' = y.0 in let event = x.1 in let event' = y.1 in
    let actors : r.actor ≡ s.actor = cc in
    let events : r.event ≡ s.event = cc in
    (sym (owner_is c a r w h) ∙ actors ∙ owner_is c b s w k, same_receipt r s actors same events)
