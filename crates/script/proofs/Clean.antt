-- A text that is valid JSON never results in NotJson.
use Rattle.std.proofs.Common.{◌≡◌, ◌≢◌, ℕ, ◌+◌, Bool, true, false, cond, nat_le, nat_lt, List, [], ◌∷◌, ◌++◌, length, Option, Some, None, Result, Ok, Err}
use Rattle.std.specs.Prelude.{codes, ok_or, option_map, IsUtf8}
use Rattle.serde_json.specs.Data.{Data, null, boolean, number, string, array, object}
use Rattle.serde_json.specs.Find.{get, as_bool, as_str}
use Rattle.serde_json.specs.Read.{read}
use Rattle.ring_words.specs.Rings.{rounded}
use Rattle.places.specs.declared.object.Object.{Object}
use Rattle.script.specs.declared.fault.Key.{Key}
use Rattle.script.specs.declared.fault.Key.TheVariants as key
use Rattle.script.specs.declared.fault.Path.{Path}
use Rattle.script.specs.declared.fault.ScriptFault.{ScriptFault}
use Rattle.script.specs.declared.fault.ScriptFault.TheVariants.{NotJson, Shape, Range, Limit, Memory}
use Rattle.script.specs.Faults.{◌>>=◌, ranged, shaped, limits_then_ranges, form_limits_ranges, form_then_ranges, at_key, at_item, at_inner, Gives}
use Rattle.script.specs.Lists.{has_keys, keyed, listed, list_at, each, folded, at_most, folded_at_most, required}
use Rattle.script.specs.Memory.{piece_form, is_short, with_piece, piece_at, zeros, memory_of}
use Rattle.script.specs.Objects.{object_form, is_small, object_in_range, object_at, objects_of, descriptor_named, descriptor_at, fds_of}
use Rattle.script.specs.Numbers.{whole_of, between, number_between}
use Rattle.script.specs.Instructions.{instruction_form, keeps_limits, instruction_in_range, instruction_at, thread_at}
use Rattle.script.specs.Events.{event_form, event_in_range, event_at}
use Rattle.script.proofs.Chain.{with_schedule, with_threads, with_fds, with_objects, with_memory, with_base, with_submit_all, with_sqpoll, with_cq, with_entries, with_keys}
use Rattle.script.specs.Scripts.{Scenario, is_script_key, entries_of, large_enough, cq_of, flag_of, base_of, threads_of, schedule_of, script_of, IsNoJson}

abbrev Clean : {A : Type 0} → Result A ScriptFault → Type 0
Clean (Ok x) = Unit {0}
Clean (Err NotJson) = ⊥
Clean (Err (Shape p)) = Unit {0}
Clean (Err (Range p)) = Unit {0}
Clean (Err (Limit p)) = Unit {0}
Clean (Err Memory) = Unit {0}

bind_clean : {A B : Type 0} → (r : Result A ScriptFault) (f : A → Result B ScriptFault) → Clean r → ((x : A) → Clean (f x)) → Clean (r >>= f)
bind_clean (Ok x) f h k = k x
bind_clean (Err NotJson) f h k = absurd h
bind_clean (Err (Shape p)) f h k = tt
bind_clean (Err (Range p)) f h k = tt
bind_clean (Err (Limit p)) f h k = tt
bind_clean (Err Memory) f h k = tt

ranged_clean : {A : Type 0} → (p : Path) (o : Option A) → Clean (ranged p o)
ranged_clean p None = tt
ranged_clean p (Some x) = tt

formed_clean : {F A : Type 0} → (p : Path) (o : Option F) (f : F → Option A) → Clean (form_then_ranges p o f)
formed_clean p None f = tt
formed_clean p (Some w) f = ranged_clean p (f w)

shaped_clean : {F : Type 0} → (p : Path) (o : Option F) → Clean (shaped p o)
shaped_clean p None = tt
shaped_clean p (Some w) = tt

required_clean : (k : Key) (o : Option Data) → Clean (required k o)
required_clean k None = tt
required_clean k (Some d) = tt

listed_clean : (p : Path) (d : Data) → Clean (listed p d)
listed_clean p null = tt
listed_clean p (boolean b) = tt
listed_clean p (number n) = tt
listed_clean p (string s) = tt
listed_clean p (array ds) = tt
listed_clean p (object ms) = tt

chosen_clean : {A : Type 0} → (b : Bool) (r s : Result A ScriptFault) → Clean r → Clean s → Clean (cond b r s)
chosen_clean true r s h k = h
chosen_clean false r s h k = k

limited_clean : {F A : Type 0} → (p : Path) (o : Option F) (keeps : F → Bool) (f : F → Option A) → Clean (form_limits_ranges p o keeps f)
limited_clean p o keeps f = bind_clean (shaped p o) (limits_then_ranges p keeps f) (shaped_clean p o) (λ w. chosen_clean (keeps w) (ranged p (f w)) (Err (Limit p)) (ranged_clean p (f w)) tt)

list_clean : (k : Key) (d : Option Data) → Clean (list_at k d)
list_clean k None = tt
list_clean k (Some d) = listed_clean (at_key k) d

folded_clean : {S : Type 0} → (f : S → ℕ → Data → Result S ScriptFault) (s : S) (i : ℕ) (ds : List Data) → ((t : S) (j : ℕ) (d : Data) → Clean (f t j d)) → Clean (folded f s i ds)
folded_clean f s i [] k = tt
folded_clean f s i (d ∷ ds) k = bind_clean (f s i d) (λ t. folded f t (i + 1) ds) (k s i d) (λ t. folded_clean f t (i + 1) ds k)

each_clean : {A : Type 0} → (f : ℕ → Data → Result A ScriptFault) (i : ℕ) (ds : List Data) → ((j : ℕ) (d : Data) → Clean (f j d)) → Clean (each f i ds)
each_clean f i [] k = tt
each_clean f i (d ∷ ds) k =
    bind_clean (f i d) (λ x. each f (i + 1) ds >>= λ xs. Ok (x ∷ xs)) (k i d) (λ x. bind_clean (each f (i + 1) ds) (λ xs. Ok (x ∷ xs)) (each_clean f (i + 1) ds k) (λ xs. tt))

at_most_clean : {A : Type 0} → (most : ℕ) (p : Path) (f : ℕ → Data → Result A ScriptFault) (ds : List Data) → ((j : ℕ) (d : Data) → Clean (f j d)) → Clean (at_most most p f ds)
at_most_clean most p f ds k = chosen_clean (nat_lt most (length ds)) (Err (Limit p)) (each f 0 ds) tt (each_clean f 0 ds k)

entries_clean : (d : Option Data) → Clean (entries_of d)
entries_clean None = tt
entries_clean (Some d) = formed_clean (at_key key.Entries) (whole_of d) (between 1 4096)

cq_clean : (entries : ℕ) (d : Option Data) → Clean (cq_of entries d)
cq_clean entries None = tt
cq_clean entries (Some d) =
    bind_clean (number_between (at_key key.Cq) 1 8192 d) (large_enough entries) (formed_clean (at_key key.Cq) (whole_of d) (between 1 8192)) (λ n. chosen_clean (nat_le (rounded entries) (rounded n)) (Ok (Some n)) (Err (Range (at_key key.Cq))) tt tt)

flag_clean : (k : Key) (d : Option Data) → Clean (flag_of k d)
flag_clean k None = tt
flag_clean k (Some d) = by (as_bool d)
  where
    by : (b : Option Bool) → Clean (ok_or b (Shape (at_key k)))
    by None = tt
    by (Some b) = tt

base_clean : (d : Option Data) → Clean (base_of d)
base_clean None = tt
base_clean (Some d) = formed_clean (at_key key.Base) (whole_of d) (between 0 4294967295)

memory_clean : (d : Option Data) → Clean (memory_of d)
memory_clean d = bind_clean (list_at key.Memory d) (folded piece_at (zeros 65536) 0) (list_clean key.Memory d) (λ ds. folded_clean piece_at (zeros 65536) 0 ds (λ m i e. limited_clean (at_item key.Memory i) (piece_form e) is_short (with_piece m)))

objects_clean : (d : Option Data) → Clean (objects_of d)
objects_clean d = bind_clean (list_at key.Objects d) (folded_at_most 32 (at_key key.Objects) object_at []) (list_clean key.Objects d) (λ ds. chosen_clean (nat_lt 32 (length ds)) (Err (Limit (at_key key.Objects))) (folded object_at [] 0 ds) tt (folded_clean object_at [] 0 ds (λ os i e. limited_clean (at_item key.Objects i) (object_form e) is_small (λ o. option_map (λ x. os ++ x ∷ []) (object_in_range os o)))))

fds_clean : (objects : List Object) (d : Option Data) → Clean (fds_of objects d)
fds_clean objects d = bind_clean (list_at key.Fds d) (at_most 64 (at_key key.Fds) (descriptor_at objects)) (list_clean key.Fds d) (λ ds. at_most_clean 64 (at_key key.Fds) (descriptor_at objects) ds (λ i e. formed_clean (at_item key.Fds i) (as_str e) (descriptor_named objects)))

thread_clean : (size t : ℕ) (d : Data) → Clean (thread_at size t d)
thread_clean size t d =
    bind_clean (listed (at_item key.Threads t) d) (at_most 4096 (at_item key.Threads t) (instruction_at size t)) (listed_clean (at_item key.Threads t) d) (λ ds. at_most_clean 4096 (at_item key.Threads t) (instruction_at size t) ds (λ i e. limited_clean (at_inner key.Threads t i) (instruction_form e) keeps_limits (instruction_in_range size)))

threads_clean : (size : ℕ) (d : Option Data) → Clean (threads_of size d)
threads_clean size d =
    let r = required key.Threads d in
    bind_clean (r >>= listed (at_key key.Threads)) (at_most 16 (at_key key.Threads) (thread_at size)) (bind_clean r (listed (at_key key.Threads)) (required_clean key.Threads d) (listed_clean (at_key key.Threads))) (λ ds. at_most_clean 16 (at_key key.Threads) (thread_at size) ds (thread_clean size))

schedule_clean : (d : Option Data) → Clean (schedule_of d)
schedule_clean d =
    let r = required key.Schedule d in
    bind_clean (r >>= listed (at_key key.Schedule)) (at_most 65536 (at_key key.Schedule) event_at) (bind_clean r (listed (at_key key.Schedule)) (required_clean key.Schedule d) (listed_clean (at_key key.Schedule))) (λ ds. at_most_clean 65536 (at_key key.Schedule) event_at ds (λ i e. formed_clean (at_item key.Schedule i) (event_form e) event_in_range))

script_clean : (d : Data) → Clean (script_of d)
script_clean d =
    bind_clean (keyed is_script_key (at_key key.Document) d) (with_keys d) (chosen_clean (has_keys is_script_key d) (Ok tt) (Err (Shape (at_key key.Document))) tt tt) (λ u.
    bind_clean (entries_of (get (codes "entries") d)) (with_entries d) (entries_clean (get (codes "entries") d)) (λ entries.
    bind_clean (cq_of entries (get (codes "cq") d)) (with_cq d entries) (cq_clean entries (get (codes "cq") d)) (λ cq.
    bind_clean (flag_of key.Sqpoll (get (codes "sqpoll") d)) (with_sqpoll d entries cq) (flag_clean key.Sqpoll (get (codes "sqpoll") d)) (λ sqpoll.
    bind_clean (flag_of key.SubmitAll (get (codes "submit_all") d)) (with_submit_all d entries cq sqpoll) (flag_clean key.SubmitAll (get (codes "submit_all") d)) (λ submit_all.
    bind_clean (base_of (get (codes "base") d)) (with_base d entries cq sqpoll submit_all) (base_clean (get (codes "base") d)) (λ base.
    bind_clean (memory_of (get (codes "memory") d)) (with_memory d entries cq sqpoll submit_all base) (memory_clean (get (codes "memory") d)) (λ memory.
    bind_clean (objects_of (get (codes "objects") d)) (with_objects d entries cq sqpoll submit_all base memory) (objects_clean (get (codes "objects") d)) (λ objects.
    bind_clean (fds_of objects (get (codes "fds") d)) (with_fds d entries cq sqpoll submit_all base memory objects) (fds_clean objects (get (codes "fds") d)) (λ fds.
    bind_clean (threads_of (rounded entries) (get (codes "threads") d)) (with_threads d entries cq sqpoll submit_all base memory objects fds) (threads_clean (rounded entries) (get (codes "threads") d)) (λ threads.
    bind_clean (schedule_of (get (codes "schedule") d)) (with_schedule d entries cq sqpoll submit_all base memory objects fds threads) (schedule_clean (get (codes "schedule") d)) (λ schedule. tt)))))))))))

clean_is : {A : Type 0} → (r : Result A ScriptFault) → Clean r → r ≢ Err NotJson
clean_is (Ok x) h e = absurd (cc)
clean_is (Err NotJson) h e = h
clean_is (Err (Shape p)) h e = absurd (cc)
clean_is (Err (Range p)) h e = absurd (cc)
clean_is (Err (Limit p)) h e = absurd (cc)
clean_is (Err Memory) h e = absurd (cc)

pub script_is_json : (d : Data) → script_of d ≢ Err NotJson
script_is_json d = clean_is (script_of d) (script_clean d)

-- The result for a value that was read isn't NotJson.
pub answered : (text : List ℕ) (answer : Result Scenario ScriptFault) (d : Data) → Gives (λ s. s) answer (script_of d) → answer ≡ Err NotJson → IsNoJson text
answered text (Ok s) d g e = absurd (cc)
answered text (Err NotJson) d g e = absurd (script_is_json d g)
answered text (Err (Shape p)) d g e = absurd (cc)
answered text (Err (Range p)) d g e = absurd (cc)
answered text (Err (Limit p)) d g e = absurd (cc)
answered text (Err Memory) d g e = absurd (cc)

pub no_json_read : {A : Type 0} → (text : List ℕ) (d : Data) → IsUtf8 text → read text ≡ Some d → IsNoJson text → A
no_json_read text d u r n = let e = n.1 u in absurd (cc)
