-- The script in a text, or its first fault.
use Rattle.std.specs.Prelude.{◌≡◌, ℕ, zero, ◌<◌, ◌≤◌, ◌||◌, nat_le, List, length, codes, Bool, if◌then◌else◌, Option, Some, None, ok_or, Result, Ok, Err, IsUtf8, true, false}
use Rattle.std.specs.List.{list_any}
use Rattle.std.specs.Str.{bytes_eq}
use Rattle.serde_json.specs.Data.{Data}
use Rattle.serde_json.specs.Find.{get, as_bool}
use Rattle.serde_json.specs.Read.{read}
use Rattle.entries.specs.declared.choice.Choice.TheVariants.{Short}
use Rattle.scenario.specs.Setups.{setup_refusal}
use Rattle.ring_words.specs.Rings.{rounded}
use Rattle.scenario.specs.declared.event.Event.{Event}
use Rattle.scenario.specs.declared.event.Event.TheVariants.{Finish}
use Rattle.scenario.specs.declared.setup.Instruction.{Instruction}
use Rattle.scenario.specs.declared.setup.Setup.{Setup}
use Rattle.script.specs.declared.fault.Key.{Key}
use Rattle.script.specs.declared.fault.Key.TheVariants as key
use Rattle.script.specs.declared.fault.ScriptFault.{ScriptFault}
use Rattle.script.specs.declared.fault.ScriptFault.TheVariants.{NotJson, Shape, Range, Limit}
use Rattle.script.specs.Faults.{◌>>=◌, at_key}
use Rattle.script.specs.Lists.{listed, at_most, keyed, required}
use Rattle.script.specs.Numbers.{number_between}
use Rattle.script.specs.Memory.{memory_of}
use Rattle.script.specs.Objects.{objects_of, fds_of}
use Rattle.script.specs.Instructions.{thread_at}
use Rattle.script.specs.Events.{event_at}

-- A script: a setup, and the events to run from it.
pub record Scenario : Type 0 where
  pub setup : Setup
  pub schedule : List Event

-- The keys of a script.
abbrev pub is_script_key : List ℕ → Bool
is_script_key k =
    bytes_eq k (codes "entries") || bytes_eq k (codes "cq") || bytes_eq k (codes "sqpoll") || bytes_eq k (codes "submit_all") || bytes_eq k (codes "base") || bytes_eq k (codes "memory")
    || bytes_eq k (codes "objects") || bytes_eq k (codes "fds") || bytes_eq k (codes "threads") || bytes_eq k (codes "schedule")

-- The number of submission entries.
abbrev pub entries_of : Option Data → Result ℕ ScriptFault
entries_of d = required key.Entries d >>= number_between (at_key key.Entries) 1 4096

-- After rounding up to powers of two, the completion ring is at least as large as the submission
-- ring.
abbrev pub large_enough : ℕ → ℕ → Result (Option ℕ) ScriptFault
large_enough entries cq = if nat_le (rounded entries) (rounded cq) then Ok (Some cq) else Err (Range (at_key key.Cq))

-- The number of completion entries, if the key is there.
abbrev pub cq_of : ℕ → Option Data → Result (Option ℕ) ScriptFault
cq_of entries None = Ok None
cq_of entries (Some d) = number_between (at_key key.Cq) 1 8192 d >>= large_enough entries

-- An optional boolean, false by default.
abbrev pub flag_of : Key → Option Data → Result Bool ScriptFault
flag_of k None = Ok false
flag_of k (Some d) = ok_or (as_bool d) (Shape (at_key k))

-- The initial value of the heads and tails of both rings, 0 by default.
abbrev pub base_of : Option Data → Result ℕ ScriptFault
base_of None = Ok 0
base_of (Some d) = number_between (at_key key.Base) 0 4294967295 d

-- The threads' programs, at most 16. The submission ring has `size` slots.
abbrev pub threads_of : ℕ → Option Data → Result (List (List Instruction)) ScriptFault
threads_of size d = required key.Threads d >>= listed (at_key key.Threads) >>= at_most 16 (at_key key.Threads) (thread_at size)

-- The schedule, at most 65,536 events.
abbrev pub schedule_of : Option Data → Result (List Event) ScriptFault
schedule_of d = required key.Schedule d >>= listed (at_key key.Schedule) >>= at_most 65536 (at_key key.Schedule) event_at

-- The script in a JSON value, or its first fault. Unknown keys are checked first, then the keys in
-- this order.
abbrev pub script_of : Data → Result Scenario ScriptFault
script_of d = do
  _ ← keyed is_script_key (at_key key.Document) d
  entries ← entries_of (get (codes "entries") d)
  cq ← cq_of entries (get (codes "cq") d)
  sqpoll ← flag_of key.Sqpoll (get (codes "sqpoll") d)
  submit_all ← flag_of key.SubmitAll (get (codes "submit_all") d)
  base ← base_of (get (codes "base") d)
  memory ← memory_of (get (codes "memory") d)
  objects ← objects_of (get (codes "objects") d)
  fds ← fds_of objects (get (codes "fds") d)
  threads ← threads_of (rounded entries) (get (codes "threads") d)
  schedule ← schedule_of (get (codes "schedule") d)
  Ok (record {
    setup = record {
      entries = entries;
      cq = cq;
      sqpoll = sqpoll;
      submit_all = submit_all;
      base = base;
      memory = memory;
      objects = objects;
      fds = fds;
      threads = threads;
    };
    schedule = schedule;
  })

-- The maximum length of a script, in bytes.
abbrev pub limit : ℕ
limit = 8388608

-- A text within the length limit that isn't valid JSON.
abbrev pub IsNoJson : List ℕ → Type 0
IsNoJson text = (length text ≤ limit) × (IsUtf8 text → read text ≡ None)

-- The reading of a text: too long, not JSON, or the script or fault of a JSON value.
pub data Reads (text : List ℕ) : Result Scenario ScriptFault → Type 0 where
  long : limit < length text → Reads text (Err (Limit (at_key key.Document)))
  unread : IsNoJson text → Reads text (Err NotJson)
  value : (d : Data) → length text ≤ limit → IsUtf8 text → read text ≡ Some d → Reads text (script_of d)

-- A Finish with a short transfer of 0 bytes.
abbrev pub is_short_of_nothing : Event → Bool
is_short_of_nothing (Finish row (Short zero)) = true
is_short_of_nothing _ = false

-- What holds for each script: a run can start from its setup, it has at most 65,536 events, and no
-- short transfer has 0 bytes.
pub record Startable (p : Scenario) : Type 0 where
  pub setup : setup_refusal p.setup ≡ None
  pub events : length p.schedule ≤ 65536
  pub transfers : list_any is_short_of_nothing p.schedule ≡ false
