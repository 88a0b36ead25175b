-- Invariants that each change of the machine preserves.
use Rattle.machine.proofs.Common.{◌≡◌, ℕ, Bool, true, false, refl, sym, ◌∙◌, ap, subst, [], ◌∷◌, ◌++◌, length, ◌+◌, ◌*◌, ◌%◌, ◌<◌, ◌≤◌, ◌^◌, length-append, length-set, arith, length-drop, option_map_or, eqb-true, WorldState, WorldFormed, descriptor_at, OneSetup as OneWorldSetup, uses_descriptor, Cqe, Sqe, Row, Phase, Queued, updated, length-updated, waiting, with_flag, formed_pushed, formed_entry, formed_flag, waiting_more, Direct, Ending, is_guard, is_ended, is_queued, counted-le-length, counted-unfinished, ended-unfinished, ended_of, PutsWithin, counted_in, all_ended, all_started, completion_of, completions_of, delivery, flushed, is_guard_of, is_usable, lacks_descriptor, started, AllGuardsLinked, Mostly, NoneMet, is_asleep, flag_word, RowFormed, WellFormed, ThreadWellFormed, Machine, chained-updated, mapped_at, filter_map-append}
use Rattle.std.specs.Prelude.{List, Option, Some, None, slice_get, slice_set, not, ◌&&◌, if◌then◌else◌}
use Rattle.ring_words.specs.declared.flag.RingFlag.TheVariants.{CqOverflow}
use Rattle.overflow.{specs.Backlogs.BacklogState, specs.Backlogs.is_clear, specs.Backlogs.Delivery, specs.Backlogs.DeliveryFormed, specs.Backlogs.all_posted, specs.Backlogs.flushed as flushed_delivery, proofs.KeptInOrder.posted_formed, proofs.KeptInOrder.flushed_formed}
use Rattle.timeouts_cancel.proofs.Tallying.{few_counted}
use Rattle.machine.proofs.{EndedRows.CanEnd, EndedRows.can_end, EndedRows.can_end_most, EndedRows.ended_together, FormedRows.FormedRows, FormedRows.formed_rows-updated, FormedRows.formed_rows-moved, GuardLemmas.apart, GuardLemmas.guard_is_guard_of, GuardLemmas.started_guards, GuardLemmas.started_in_turn, IssuingRows.started_at_once}

pub mostly : (m : Machine) → WellFormed m → Mostly m
mostly m h = h.mostly

pub formed_of : (m : Machine) → Mostly m → PutsWithin (65536 * ended_of m.table) m.world → FormedRows m.world m.table → AllGuardsLinked m.table → NoneMet m.counted m.table → WellFormed m
formed_of m h puts k guards unmet = record { mostly = h; rows = k.each; guards = guards; unmet = unmet; puts = puts }

-- ---- Completions

-- The flags word, after one flag was set or cleared.
pub overflow_flag : (a b c : Bool) → with_flag (flag_word a b) CqOverflow c ≡ flag_word a c
overflow_flag true true true = refl
overflow_flag true true false = refl
overflow_flag true false true = refl
overflow_flag true false false = refl
overflow_flag false true true = refl
overflow_flag false true false = refl
overflow_flag false false true = refl
overflow_flag false false false = refl

-- The parts that receive completions are well formed.
pub delivers : (m : Machine) → Mostly m → DeliveryFormed (delivery m)
delivers m h = record { completions = h.rings.completions; waits = h.rings.completions_wait; front = h.kept.front }

-- After completions were posted or flushed, the flags word says whether some overflow.
pub flags_kept : (m : Machine) (b : BacklogState) → Mostly m → with_flag m.submissions.flags CqOverflow (not (is_clear b)) ≡ flag_word (is_asleep m.poller) (not (is_clear b))
flags_kept m b h = ap (λ f. with_flag f CqOverflow (not (is_clear b))) h.rings.flags ∙ overflow_flag (is_asleep m.poller) (not (is_clear m.backlog)) (not (is_clear b))

pub mostly_flushed : (m : Machine) → Mostly m → Mostly (flushed m)
mostly_flushed m h =
    let d : DeliveryFormed (flushed_delivery (delivery m)) = flushed_formed (delivery m) (delivers m h) in
    let f = flags_kept m (flushed m).backlog h in
    record {
      rings = record {
        submissions = formed_flag m.submissions CqOverflow _ h.rings.submissions;
        completions = d.completions;
        entries_wait = h.rings.entries_wait;
        completions_wait = d.waits;
        flags = f;
      };
      kept = record { front = d.front; overflowed = h.kept.overflowed };
      table = h.table;
      world = h.world;
      clock = h.clock;
      threads = h.threads;
    }

pub formed_flushed : (m : Machine) → WellFormed m → WellFormed (flushed m)
formed_flushed m h = formed_of (flushed m) (mostly_flushed m (mostly m h)) h.puts (record { each = h.rows }) h.guards h.unmet

-- ---- Requests complete

-- A completion for each request of the list at most.
pub completions_most : (rows : List Row) (es : List Ending) → length (completions_of rows es) ≤ length es
completions_most rows [] = omega arith
completions_most rows (e ∷ es) = grind (arith, completions_most rows es)

-- The list has one more request.
pub completions_more : (rows : List Row) (es : List Ending) (p : Ending) (row : Row) (c : Cqe) → slice_get rows p.0 ≡ Some row → c ≡ completion_of p.1 row → completions_of rows es ++ c ∷ [] ≡ completions_of rows (es ++ p ∷ [])
completions_more = grind (arith, filter_map-append)

pub only_ending : (es : List Ending) (p : Ending) → length es ≡ 1 → slice_get es 0 ≡ Some p → es ≡ p ∷ []
only_ending [] p l h = absurd cc
only_ending (e ∷ []) p l h = let same : e ≡ p = cc in ap (λ x. x ∷ []) same
only_ending (e ∷ d ∷ es) p l h = absurd (omega (arith, l))

-- The backlog has room for the completions of unfinished requests, and the count doesn't wrap.
pub room_for_endings : (m : Machine) (es : List Ending) → Mostly m → Direct m.table es → length m.backlog.items + length es ≤ 65536
room_for_endings m es h d = let k = can_end_most m.table es (can_end m.table es d) in let a = h.kept.overflowed in let b = h.table.few in omega (arith, k, a, b)

pub counts_of_endings : (m : Machine) (es : List Ending) → Mostly m → Direct m.table es → m.counted + counted_in m.table es < 2 ^ 32
counts_of_endings = grind (arith, room_for_endings, counted-le-length, few_counted)

-- Each completion adds at most one item to the backlog.
items_most : (d : Delivery) (cs : List Cqe) → length (all_posted d cs).backlog.items ≤ length d.backlog.items + length cs
items_most = grind (arith, length-append, length-drop)

pub mostly_ended : (m : Machine) (es : List Ending) → Mostly m → CanEnd m.table es → Mostly (all_ended m es)
mostly_ended m es h k =
    let cs : List Cqe = completions_of m.table es in
    let d : DeliveryFormed (all_posted (delivery m) cs) = posted_formed (delivery m) cs (delivers m h) in
    let f = flags_kept m (all_posted (delivery m) cs).backlog h in
    let t = ended_together m.table es k in
    record {
      rings = record {
        submissions = formed_flag m.submissions CqOverflow _ h.rings.submissions;
        completions = d.completions;
        entries_wait = h.rings.entries_wait;
        completions_wait = d.waits;
        flags = f;
      };
      kept = record {
        front = d.front;
        overflowed = let a = items_most (delivery m) cs in let b = completions_most m.table es in let c = h.kept.overflowed in let e = t.ended in omega (arith, a, b, c, e);
      };
      table = record {
        few = let a = t.same_length in let b = h.table.few in omega (arith, a, b);
        chained = t.chained h.table.chained;
        counted = ap (λ n. n + counted_in m.table es) h.table.counted ∙ sym t.counted;
      };
      world = h.world;
      clock = h.clock;
      threads = h.threads;
    }

-- ---- A request is issued

-- An issued request is well formed.
started_row : (w : WorldState) (c n : ℕ) (x : Row) → is_ended x.phase ≡ false → lacks_descriptor w x ≡ false → RowFormed w x → RowFormed w (started c n x)
started_row = grind arith

mostly_started : (m : Machine) (r c n : ℕ) (x : Row) → Mostly m → slice_get m.table r ≡ Some x → is_ended x.phase ≡ false → Mostly (record m { table = updated (started c n) m.table r })
mostly_started = grind (arith, ended-unfinished, length-updated, chained-updated, counted-unfinished)

-- After a request was issued, no more have completed, and all are well formed.
record Started (m : Machine) (rows : List Row) : Type 0 where
  mostly : Mostly (record m { table = rows })
  ended : ended_of rows ≡ ended_of m.table
  formed : FormedRows m.world rows

started_one : (m : Machine) (rows : List Row) (r c n : ℕ) (x : Row) → Started m rows → slice_get rows r ≡ Some x → is_ended x.phase ≡ false → lacks_descriptor m.world x ≡ false → Started m (updated (started c n) rows r)
started_one m rows r c n x s e q l = record {
  mostly = mostly_started (record m { table = rows }) r c n x s.mostly e q;
  ended = ended-unfinished (started c n) rows r x e q refl ∙ s.ended;
  formed = formed_rows-updated m.world (started c n) rows r row s.formed;
}
  where
    row : (y : Row) → slice_get rows r ≡ Some y → RowFormed m.world (started c n y)
    row = grind (arith, started_row)

-- A linked timeout uses no descriptor.
guard_lacks_none : (w : WorldState) (y : Row) → is_guard y ≡ true → lacks_descriptor w y ≡ false
guard_lacks_none w y g = ap (λ n. uses_descriptor n && not (is_usable y (descriptor_at w y.entry.fd))) (eqb-true y.entry.opcode 15 g)

queued_not_ended : (p : Phase) → is_queued p ≡ true → is_ended p ≡ false
queued_not_ended = grind arith

-- So issuing one leaves no issued TIMEOUT that has reached its count.
started_unmet : (c n : ℕ) (rows : List Row) (r : ℕ) → NoneMet n rows → NoneMet n (all_started c n rows r)
started_unmet = grind (arith, mapped_at)

issued_in_turn : (m : Machine) (r : ℕ) (x : Row) → WellFormed m → slice_get m.table r ≡ Some x → x.phase ≡ Queued → is_guard x ≡ false → lacks_descriptor m.world x ≡ false → WellFormed (record m { table = started_in_turn m.clock m.counted m.table r })
issued_in_turn m r x h e q plain l = by (slice_get m.table (r + 1)) refl
  where
    f : Row → Row
    f = started m.clock m.counted

    first : Started m (updated f m.table r)
    first = started_one m m.table r m.clock m.counted x (record { mostly = mostly m h; ended = refl; formed = record { each = h.rows } }) e (ap is_ended q) l

    whole : (rows : List Row) → started_in_turn m.clock m.counted m.table r ≡ rows → Started m rows → WellFormed (record m { table = started_in_turn m.clock m.counted m.table r })
    whole rows k s = subst (λ rs. WellFormed (record m { table = rs })) (sym k)
        (formed_of (record m { table = rows }) s.mostly (subst (λ n. PutsWithin (65536 * n) m.world) (sym s.ended) h.puts) s.formed
        (subst AllGuardsLinked k (started_guards m.clock m.counted m.table r x e q plain h.guards))
        (subst (NoneMet m.counted) (started_at_once m.clock m.counted m.table r h.guards ∙ k) (started_unmet m.clock m.counted m.table r h.unmet)))

    by_guard : (b : Bool) → option_map_or (is_guard_of r) (slice_get m.table (r + 1)) false ≡ b → started_in_turn m.clock m.counted m.table r ≡ (if b then updated f (updated f m.table r) (r + 1) else updated f m.table r)
    by_guard b k = ap (λ (d : Bool). if d then updated f (updated f m.table r) (r + 1) else updated f m.table r) k

    chosen : (y : Row) → slice_get m.table (r + 1) ≡ Some y → (b : Bool) → is_guard_of r y ≡ b → WellFormed (record m { table = started_in_turn m.clock m.counted m.table r })
    chosen y g false k = whole (updated f m.table r) (by_guard false (ap (λ o. option_map_or (is_guard_of r) o false) g ∙ k)) first
    chosen y g true k =
        let t = guard_is_guard_of r y k in
        whole (updated f (updated f m.table r) (r + 1)) (by_guard true (ap (λ o. option_map_or (is_guard_of r) o false) g ∙ k))
        (started_one m (updated f m.table r) (r + 1) m.clock m.counted y first (apart f m.table r (r + 1) (λ o. absurd (omega (arith, o))) ∙ g) (queued_not_ended y.phase t.queued) (guard_lacks_none m.world y t.guard))

    by : (o : Option Row) → slice_get m.table (r + 1) ≡ o → WellFormed (record m { table = started_in_turn m.clock m.counted m.table r })
    by None g = whole (updated f m.table r) (by_guard false (ap (λ o. option_map_or (is_guard_of r) o false) g)) first
    by (Some y) g = chosen y g (is_guard_of r y) refl

pub formed_issued : (m : Machine) (r : ℕ) (x : Row) → WellFormed m → slice_get m.table r ≡ Some x → x.phase ≡ Queued → is_guard x ≡ false → lacks_descriptor m.world x ≡ false → WellFormed (record m { table = all_started m.clock m.counted m.table r })
formed_issued m r x h e q plain l = subst (λ rows. WellFormed (record m { table = rows })) (sym (started_at_once m.clock m.counted m.table r h.guards)) (issued_in_turn m r x h e q plain l)

-- ---- The memory and the objects change

pub mostly_world : (m : Machine) (w : WorldState) → Mostly m → WorldFormed w → Mostly (record m { world = w })
mostly_world m w h f = record { rings = h.rings; kept = h.kept; table = h.table; world = f; clock = h.clock; threads = h.threads }

pub rows_moved : (m : Machine) (w : WorldState) → WellFormed m → OneWorldSetup m.world w → FormedRows w m.table
rows_moved m w h s = formed_rows-moved m.world w m.table s (record { each = h.rows })

pub formed_world : (m : Machine) (w : WorldState) → WellFormed m → WorldFormed w → PutsWithin (65536 * ended_of m.table) w → OneWorldSetup m.world w → WellFormed (record m { world = w })
formed_world m w h f puts s = formed_of (record m { world = w }) (mostly_world m w (mostly m h) f) puts (rows_moved m w h s) h.guards h.unmet

-- ---- Words of the rings

pub formed_put : (m : Machine) (slot : ℕ) (entry : Sqe) → WellFormed m → WellFormed (record m { submissions = record m.submissions { slots = slice_set m.submissions.slots slot entry } })
formed_put m slot entry h = record {
  mostly = record {
    rings = record {
      submissions = formed_entry m.submissions slot entry h.mostly.rings.submissions;
      completions = h.mostly.rings.completions;
      entries_wait = h.mostly.rings.entries_wait;
      completions_wait = h.mostly.rings.completions_wait;
      flags = h.mostly.rings.flags;
    };
    kept = h.mostly.kept;
    table = h.mostly.table;
    world = h.mostly.world;
    clock = h.mostly.clock;
    threads = λ t x e. subst (λ n. ThreadWellFormed n x) (sym (length-set m.submissions.slots slot entry)) (h.mostly.threads t x e);
  };
  rows = h.rows;
  guards = h.guards;
  unmet = h.unmet;
  puts = h.puts;
}

pub formed_push : (m : Machine) (x : ℕ) → WellFormed m → x < 2 ^ 32 → waiting m.submissions.head m.submissions.tail < length m.submissions.array
    → WellFormed (record m { submissions = record m.submissions { tail = (m.submissions.tail + 1) % 2 ^ 32; array = slice_set m.submissions.array (m.submissions.tail % length m.submissions.array) x } })
formed_push = grind (arith, mostly, formed_pushed, waiting_more, length-set)

pub formed_taken_out : (m : Machine) → WellFormed m → 0 < waiting m.completions.head m.completions.tail → WellFormed (record m { completions = record m.completions { head = (m.completions.head + 1) % 2 ^ 32 } })
formed_taken_out = grind arith
