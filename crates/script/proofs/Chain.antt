-- The keys of a script, read one after the other.
use Rattle.std.proofs.Common.{◌≡◌, ℕ, Bool, List, Option, Result, Ok, ap, ◌∙◌}
use Rattle.std.specs.Prelude.{codes}
use Rattle.serde_json.specs.Data.{Data}
use Rattle.serde_json.specs.Find.{get}
use Rattle.places.specs.declared.object.Descriptor.{Descriptor}
use Rattle.places.specs.declared.object.Object.{Object}
use Rattle.ring_words.specs.Rings.{rounded}
use Rattle.scenario.specs.declared.event.Event.{Event}
use Rattle.scenario.specs.declared.setup.Instruction.{Instruction}
use Rattle.script.specs.declared.fault.Key.TheVariants as key
use Rattle.script.specs.declared.fault.ScriptFault.{ScriptFault}
use Rattle.script.specs.Faults.{◌>>=◌, at_key}
use Rattle.script.specs.Lists.{keyed}
use Rattle.script.specs.Memory.{memory_of}
use Rattle.script.specs.Objects.{objects_of, fds_of}
use Rattle.script.specs.Scripts.{Scenario, is_script_key, entries_of, cq_of, flag_of, base_of, threads_of, schedule_of, script_of}

abbrev pub scenario_with : ℕ → Option ℕ → Bool → Bool → ℕ → List ℕ → List Object → List Descriptor → List (List Instruction) → List Event → Scenario
scenario_with entries cq sqpoll submit_all base memory objects fds threads schedule = record {
  setup = record { entries = entries; cq = cq; sqpoll = sqpoll; submit_all = submit_all; base = base; memory = memory; objects = objects; fds = fds; threads = threads };
  schedule = schedule;
}

abbrev pub with_schedule : Data → ℕ → Option ℕ → Bool → Bool → ℕ → List ℕ → List Object → List Descriptor → List (List Instruction) → List Event → Result Scenario ScriptFault
with_schedule d entries cq sqpoll submit_all base memory objects fds threads schedule = Ok (scenario_with entries cq sqpoll submit_all base memory objects fds threads schedule)

abbrev pub with_threads : Data → ℕ → Option ℕ → Bool → Bool → ℕ → List ℕ → List Object → List Descriptor → List (List Instruction) → Result Scenario ScriptFault
with_threads d entries cq sqpoll submit_all base memory objects fds threads = schedule_of (get (codes "schedule") d) >>= with_schedule d entries cq sqpoll submit_all base memory objects fds threads

abbrev pub with_fds : Data → ℕ → Option ℕ → Bool → Bool → ℕ → List ℕ → List Object → List Descriptor → Result Scenario ScriptFault
with_fds d entries cq sqpoll submit_all base memory objects fds = threads_of (rounded entries) (get (codes "threads") d) >>= with_threads d entries cq sqpoll submit_all base memory objects fds

abbrev pub with_objects : Data → ℕ → Option ℕ → Bool → Bool → ℕ → List ℕ → List Object → Result Scenario ScriptFault
with_objects d entries cq sqpoll submit_all base memory objects = fds_of objects (get (codes "fds") d) >>= with_fds d entries cq sqpoll submit_all base memory objects

abbrev pub with_memory : Data → ℕ → Option ℕ → Bool → Bool → ℕ → List ℕ → Result Scenario ScriptFault
with_memory d entries cq sqpoll submit_all base memory = objects_of (get (codes "objects") d) >>= with_objects d entries cq sqpoll submit_all base memory

abbrev pub with_base : Data → ℕ → Option ℕ → Bool → Bool → ℕ → Result Scenario ScriptFault
with_base d entries cq sqpoll submit_all base = memory_of (get (codes "memory") d) >>= with_memory d entries cq sqpoll submit_all base

abbrev pub with_submit_all : Data → ℕ → Option ℕ → Bool → Bool → Result Scenario ScriptFault
with_submit_all d entries cq sqpoll submit_all = base_of (get (codes "base") d) >>= with_base d entries cq sqpoll submit_all

abbrev pub with_sqpoll : Data → ℕ → Option ℕ → Bool → Result Scenario ScriptFault
with_sqpoll d entries cq sqpoll = flag_of key.SubmitAll (get (codes "submit_all") d) >>= with_submit_all d entries cq sqpoll

abbrev pub with_cq : Data → ℕ → Option ℕ → Result Scenario ScriptFault
with_cq d entries cq = flag_of key.Sqpoll (get (codes "sqpoll") d) >>= with_sqpoll d entries cq

abbrev pub with_entries : Data → ℕ → Result Scenario ScriptFault
with_entries d entries = cq_of entries (get (codes "cq") d) >>= with_cq d entries

abbrev pub with_keys : Data → Unit {0} → Result Scenario ScriptFault
with_keys d u = entries_of (get (codes "entries") d) >>= with_entries d

bound : {A B : Type 0} → (r : Result A ScriptFault) (x : A) (f : A → Result B ScriptFault) → r ≡ Ok x → (r >>= f) ≡ f x
bound r x f h = ap (λ q. q >>= f) h

-- If each key reads, the values form the script.
pub scripted : (d : Data) (u : Unit {0}) (entries : ℕ) (cq : Option ℕ) (sqpoll submit_all : Bool) (base : ℕ) (memory : List ℕ) (objects : List Object) (fds : List Descriptor) (threads : List (List Instruction)) (schedule : List Event)
    → keyed is_script_key (at_key key.Document) d ≡ Ok u
    → entries_of (get (codes "entries") d) ≡ Ok entries
    → cq_of entries (get (codes "cq") d) ≡ Ok cq
    → flag_of key.Sqpoll (get (codes "sqpoll") d) ≡ Ok sqpoll
    → flag_of key.SubmitAll (get (codes "submit_all") d) ≡ Ok submit_all
    → base_of (get (codes "base") d) ≡ Ok base
    → memory_of (get (codes "memory") d) ≡ Ok memory
    → objects_of (get (codes "objects") d) ≡ Ok objects
    → fds_of objects (get (codes "fds") d) ≡ Ok fds
    → threads_of (rounded entries) (get (codes "threads") d) ≡ Ok threads
    → schedule_of (get (codes "schedule") d) ≡ Ok schedule
    → script_of d ≡ Ok (scenario_with entries cq sqpoll submit_all base memory objects fds threads schedule)
scripted d u entries cq sqpoll submit_all base memory objects fds threads schedule hk he hq hs ha hb hm ho hf ht hh =
    bound (keyed is_script_key (at_key key.Document) d) u (with_keys d) hk
    ∙ bound (entries_of (get (codes "entries") d)) entries (with_entries d) he
    ∙ bound (cq_of entries (get (codes "cq") d)) cq (with_cq d entries) hq
    ∙ bound (flag_of key.Sqpoll (get (codes "sqpoll") d)) sqpoll (with_sqpoll d entries cq) hs
    ∙ bound (flag_of key.SubmitAll (get (codes "submit_all") d)) submit_all (with_submit_all d entries cq sqpoll) ha
    ∙ bound (base_of (get (codes "base") d)) base (with_base d entries cq sqpoll submit_all) hb
    ∙ bound (memory_of (get (codes "memory") d)) memory (with_memory d entries cq sqpoll submit_all base) hm
    ∙ bound (objects_of (get (codes "objects") d)) objects (with_objects d entries cq sqpoll submit_all base memory) ho
    ∙ bound (fds_of objects (get (codes "fds") d)) fds (with_fds d entries cq sqpoll submit_all base memory objects) hf
    ∙ bound (threads_of (rounded entries) (get (codes "threads") d)) threads (with_threads d entries cq sqpoll submit_all base memory objects fds) ht
    ∙ bound (schedule_of (get (codes "schedule") d)) schedule (with_schedule d entries cq sqpoll submit_all base memory objects fds threads) hh
