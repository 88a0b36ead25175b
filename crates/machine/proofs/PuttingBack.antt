-- Undoing a list of changes.
use Rattle.machine.proofs.Common.{◌≡◌, ℕ, Bool, true, sym, ◌∙◌, ap, subst, List, ◌∷◌, length, map, arith, Option, Some, None, is_some, option_map, slice_get, slice_get-map, length-map, Place, Request, Clock, Counted, PollerStage, ProgramCounter, ThreadStage, Last, Got, Value, Number, Signed, Requested, Staged, Reaped, Awake as AwakeValue, Change, same_place_is, same_list, fixed_of, counted-le-length, ended-le-length, was_fixed, as_many, sub_seen, com_seen, world_seen, BacklogFormed, backlog_seen, Poller, ThreadState, program_of, Machine, View, named, undo, put_at, LeadsBack, Exact, world_seen_can_put, world_absent_same, same_world}
use Rattle.ring_words.proofs.Restoring.{none_here, some_here, same_through, sub_seen_can_put, com_seen_can_put, sub_absent_same, com_absent_same, same_sub, same_com}
use Rattle.overflow.proofs.Restoring.{backlog_seen_can_put, backlog_absent_same, same_backlog}
use Rattle.machine.specs.Whole.{view, can_put, stage_of, OneSetup, WellFormed}

-- An exact record leads back.
pub back_from_exact : (u v : View) (cs : List Change) → Exact u v cs → LeadsBack u v cs
back_from_exact = grind arith

-- Undoing a list begins with its first change.
pub undo-cons : (v w : View) (c : Change) (cs : List Change) → named cs c.place ≡ None → ((q : Place) → w q ≡ put_at v c.place c.old q) → (p : Place) → undo w cs p ≡ undo v (c ∷ cs) p
unfolding named
undo-cons = grind (arith, same_place_is)

same_count : (s m : Machine) → OneSetup s m → length s.threads ≡ length m.threads
same_count s m h = simp length-map at (ap length h.programs)

-- ---- The poller, if there is one

poller_put : (o o' : Option Poller) (v : Value) → is_some o ≡ is_some o' → stage_of o ≡ Some v → (is_some o' ≡ true) × ((b : Bool) × (v ≡ AwakeValue b))
poller_put = grind arith

poller_absent : (o o' : Option Poller) → is_some o ≡ is_some o' → stage_of o ≡ None → stage_of o' ≡ None
poller_absent = grind arith

one_poller : (o o' : Option Poller) → stage_of o ≡ stage_of o' → o ≡ o'
one_poller = grind arith

-- ---- The parts

kept_front : (s : Machine) → WellFormed s → BacklogFormed s.backlog
kept_front s f = record { front = let k = ended-le-length s.table in omega (arith, f.mostly.kept.front, f.mostly.kept.overflowed, f.mostly.table.few, k) }

-- The values of one machine may be written into any machine with the same setup.
pub seen_can_put : (s m : Machine) → WellFormed s → OneSetup s m → map fixed_of s.table ≡ map fixed_of m.table → length s.backlog.items ≡ length m.backlog.items → (p : Place) (v : Value) → view s p ≡ Some v → can_put m p (Some v)
seen_can_put s m f h r b (Request i) v e = let k = some_here Requested s.table m.table i v (as_many s.table m.table r) e in subst (λ (w : Value). can_put m (Request i) (Some w)) (sym k.1.2) (was_fixed s.table m.table i k.1.0 r k.1.1)
seen_can_put s m f h r b PollerStage v e = let k = poller_put s.poller m.poller v h.poller e in subst (λ (w : Value). can_put m PollerStage (Some w)) (sym k.1.1) k.0
seen_can_put s m f h r b Clock v e = subst (can_put m Clock) e tt
seen_can_put s m f h r b Counted v e = subst (can_put m Counted) e (let k = counted-le-length s.table in omega (arith, f.mostly.table.counted, f.mostly.table.few, k))
seen_can_put s m f h r b (ProgramCounter t) v e = let k = some_here (λ (x : ThreadState). Number x.counter) s.threads m.threads t v (same_count s m h) e in let st = f.mostly.threads t k.1.0 k.1.1 in subst (λ (w : Value). can_put m (ProgramCounter t) (Some w)) (sym k.1.2) (k.0, omega (arith, st.within, st.program.short))
seen_can_put s m f h r b (ThreadStage t) v e = let k = some_here (λ (x : ThreadState). Staged x.stage) s.threads m.threads t v (same_count s m h) e in subst (λ (w : Value). can_put m (ThreadStage t) (Some w)) (sym k.1.2) k.0
seen_can_put s m f h r b (Last t) v e = let k = some_here (λ (x : ThreadState). Signed x.last) s.threads m.threads t v (same_count s m h) e in subst (λ (w : Value). can_put m (Last t) (Some w)) (sym k.1.2) (k.0, (f.mostly.threads t k.1.0 k.1.1).last)
seen_can_put s m f h r b (Got t) v e = let k = some_here (λ (x : ThreadState). Reaped x.got) s.threads m.threads t v (same_count s m h) e in subst (λ (w : Value). can_put m (Got t) (Some w)) (sym k.1.2) k.0
seen_can_put s m f h r b p v e =
    let subs = sub_seen_can_put s.submissions m.submissions f.mostly.rings.submissions h.array h.slots p v in
    let coms = com_seen_can_put s.completions m.completions f.mostly.rings.completions h.completions p v in
    let world = world_seen_can_put s.world m.world f.mostly.world h.world p v in
    let kept = backlog_seen_can_put s.backlog m.backlog (kept_front s f) b p v in
    grind arith

-- A place that is absent in one machine is absent in any with the same setup and as many requests.
pub absent_same : (s m : Machine) → OneSetup s m → map fixed_of s.table ≡ map fixed_of m.table → length s.backlog.items ≡ length m.backlog.items → (p : Place) → view s p ≡ None → view m p ≡ None
absent_same s m h r b p e =
    let subs = sub_absent_same s.submissions m.submissions h.array h.slots p in
    let coms = com_absent_same s.completions m.completions h.completions p in
    let world = world_absent_same s.world m.world h.world p in
    let kept = backlog_absent_same s.backlog m.backlog b p in
    let rows = as_many s.table m.table r in
    let threads = same_count s m h in
    grind (arith, none_here, poller_absent)

-- ---- Machines with the same setup and the same values are equal

slice_get-map_program : (ts : List ThreadState) (t : ℕ) → slice_get (map program_of ts) t ≡ option_map program_of (slice_get ts t)
slice_get-map_program ts t = slice_get-map program_of ts t

same_thread : (a b : Option ThreadState) → option_map program_of a ≡ option_map program_of b → option_map (λ x. Number x.counter) a ≡ option_map (λ x. Number x.counter) b → option_map (λ x. Staged x.stage) a ≡ option_map (λ x. Staged x.stage) b
    → option_map (λ x. Signed x.last) a ≡ option_map (λ x. Signed x.last) b → option_map (λ x. Reaped x.got) a ≡ option_map (λ x. Reaped x.got) b → a ≡ b
same_thread = grind arith

pub same_machine : (m n : Machine) → OneSetup m n → ((p : Place) → view m p ≡ view n p) → m ≡ n
same_machine m n h e = λ i. record { submissions = subs i; completions = coms i; backlog = kept i; world = world i; table = rows i; poller = polled i; submit_all = h.submit_all i; threads = threads i; clock = clock i; counted = counted i }
  where
    at_sub : (p : Place) → sub_seen m.submissions p ≡ sub_seen n.submissions p
    at_sub p = let k = e p in grind arith

    subs : m.submissions ≡ n.submissions
    subs = same_sub m.submissions n.submissions at_sub

    at_com : (p : Place) → com_seen m.completions p ≡ com_seen n.completions p
    at_com p = let k = e p in grind arith

    coms : m.completions ≡ n.completions
    coms = same_com m.completions n.completions at_com

    at_world : (p : Place) → world_seen m.world p ≡ world_seen n.world p
    at_world p = let k = e p in grind arith

    world : m.world ≡ n.world
    world = same_world m.world n.world h.world at_world

    rows : m.table ≡ n.table
    rows = same_list _ _ (λ i. same_through Requested (λ x y k. cc) _ _ (e (Request i)))

    at_backlog : (p : Place) → backlog_seen m.backlog p ≡ backlog_seen n.backlog p
    at_backlog p = let k = e p in grind arith

    kept : m.backlog ≡ n.backlog
    kept = same_backlog m.backlog n.backlog at_backlog

    polled : m.poller ≡ n.poller
    polled = one_poller m.poller n.poller (e PollerStage)

    clock : m.clock ≡ n.clock
    clock = let k = e Clock in cc

    counted : m.counted ≡ n.counted
    counted = let k = e Counted in cc

    threads : m.threads ≡ n.threads
    threads = same_list _ _ (λ t. same_thread _ _ (sym (slice_get-map_program m.threads t) ∙ ap (λ ps. slice_get ps t) h.programs ∙ slice_get-map_program n.threads t) (e (ProgramCounter t)) (e (ThreadStage t)) (e (Last t)) (e (Got t)))
