-- A run extended by one event, and a run that is closed.
use Rattle.std.proofs.Common.{◌≡◌, ℕ, suc, ◌+◌, ◌<◌, List, [], ◌∷◌, ◌++◌, length, true, refl, sym, ap, ◌∙◌, subst, arith, length-append}
use Rattle.std.proofs.lemmas.List.Elements.{All-push}
use Rattle.places.specs.declared.value.Change.{Change}
use Rattle.scenario.specs.declared.setup.Setup.{Setup}
use Rattle.scenario.specs.declared.event.Event.{Event}
use Rattle.machine.specs.declared.whole.Machine.{Machine}
use Rattle.machine.specs.Runs.{start, Link, Accepts}
use Rattle.inverse_log.proofs.Runs.{linked_more, linked_runs, linked_accepts}
use Rattle.live_rules.specs.Actors.{is_own}
use Rattle.live_states.specs.History.{History, Counted, Replays, AllOwn, Whole, closed_of}
use Rattle.live_states.specs.declared.receipt.Receipt.{Receipt}
use Rattle.live_states.specs.Received.{AllReceived}

own_push : (setup : Setup) (n : ℕ) (os : List ℕ) (es : List Event) (o : ℕ) (e : Event) → AllOwn setup n os es → is_own setup n o e ≡ true → AllOwn setup n (os ++ o ∷ []) (es ++ e ∷ [])
own_push setup n [] [] o e own h = (h, tt)
own_push setup n [] (y ∷ es) o e own h = absurd own
own_push setup n (x ∷ os) [] o e own h = absurd own
own_push setup n (x ∷ os) (y ∷ es) o e own h = (own.0, own_push setup n os es o e own.1 h)

abbrev history : Setup → ℕ → List Event → List ℕ → Machine → ℕ → History
history setup actors events owners m n = record { setup = setup; actors = actors; events = events; owners = owners; state = m; total = n }

pub appends : (setup : Setup) (actors : ℕ) (es es' : List Event) (os os' : List ℕ) (m m' : Machine) (n n' : ℕ) (records records' : List (List Change)) (actor : ℕ) (e : Event) (past : List Change)
    → Replays (history setup actors es os m n) records → Link m e past m' → is_own setup actors actor e ≡ true → length es < 1048576
    → es' ≡ es ++ e ∷ [] → os' ≡ os ++ actor ∷ [] → records' ≡ records ++ past ∷ [] → n' ≡ n + 1
    → Replays (history setup actors es' os' m' n') records'
appends setup actors es es' os os' m m' n n' records records' actor e past was link own room events owners recorded total =
    let more : Replays (history setup actors (es ++ e ∷ []) (os ++ actor ∷ []) m' n') (records ++ past ∷ []) = record {
      starts = was.starts;
      linked = linked_more (start setup) m m' es records e past was.linked link;
      own = own_push setup actors os es actor e was.own own;
      counted = omega (arith, was.counted, total, length-append es (e ∷ []));
      most = omega (arith, room, length-append es (e ∷ []));
    } in
    let P : List Event → Type 0 = λ l. Replays (history setup actors l (os ++ actor ∷ []) m' n') (records ++ past ∷ []) in
    let O : List ℕ → Type 0 = λ l. Replays (history setup actors es' l m' n') (records ++ past ∷ []) in
    let Q : List (List Change) → Type 0 = λ l. Replays (history setup actors es' os' m' n') l in
    subst Q (sym recorded) (subst O (sym owners) (subst P (sym events) more))

-- The events are accepted from the start.
pub runs_on : (h : History) (records : List (List Change)) (es : List Event) → Replays h records → es ≡ h.events → Accepts (start h.setup) es
runs_on h records es was e = subst (λ (l : List Event). Accepts (start h.setup) l) (sym e) (linked_accepts (start h.setup) h.state h.events records was.linked)

-- ---- A seat that receives one more receipt

pub counted_more : (actor : ℕ) (rs rs' : List Receipt) (parts parts' amount amount' : ℕ) (r : Receipt) → Counted (record { actor = actor; receipts = rs; parts = parts; amount = amount })
    → r.actor ≡ actor → rs' ≡ rs ++ r ∷ [] → parts' ≡ parts → amount' ≡ amount + 1 → Counted (record { actor = actor; receipts = rs'; parts = parts'; amount = amount' })
counted_more actor rs rs' parts parts' amount amount' r was own e same more =
    let P : List Receipt → Type 0 = λ l. Counted (record { actor = actor; receipts = l; parts = parts'; amount = amount' }) in
    subst P (sym e) (record {
      own = All-push (λ (x : Receipt). x.actor ≡ actor) rs r was.own own;
      one = same ∙ was.one;
      received = omega (arith, was.received, more, length-append rs (r ∷ []));
    })

-- ---- A run that is closed

pub own_pairs : (setup : Setup) (n : ℕ) (os : List ℕ) (es : List Event) → AllOwn setup n os es → length os ≡ length es
own_pairs setup n [] [] own = refl
own_pairs setup n [] (e ∷ es) own = absurd own
own_pairs setup n (o ∷ os) [] own = absurd own
own_pairs setup n (o ∷ os) (e ∷ es) own = ap suc (own_pairs setup n os es own.1)

-- A run whose actors received exactly their events is whole.
pub wholes : (h : History) (records : List (List Change)) (lists : List (List Receipt)) → Replays h records → length lists ≡ h.actors → AllReceived h.owners h.events lists → Whole (closed_of h lists)
wholes h records lists r each received = record {
  starts = r.starts;
  most = r.most;
  accepted = linked_accepts (start h.setup) h.state h.events records r.linked;
  ends = linked_runs (start h.setup) h.state h.events records r.linked;
  own = r.own;
  each = each;
  received = received;
}
