-- The line that the program prints when it fails: words and numbers.
use Rattle.std.specs.Prelude.{ℕ, List, [], ◌++◌, codes, decimal, Option, Some, None}
use Rattle.script.specs.declared.fault.Key.{Key}
use Rattle.script.specs.declared.fault.Key.TheVariants as key
use Rattle.script.specs.declared.fault.Path.{Path}
use Rattle.script.specs.declared.fault.ScriptFault.{ScriptFault}
use Rattle.script.specs.declared.fault.ScriptFault.TheVariants as script
use Rattle.traces.specs.declared.fault.TraceFault.{TraceFault}
use Rattle.traces.specs.declared.fault.TraceFault.TheVariants as trace
use Rattle.debug_server.specs.declared.faults.ServeFault.{ServeFault}
use Rattle.debug_server.specs.declared.faults.ServeFault.TheVariants as serve
use Rattle.debug_server.specs.declared.faults.RunFault.{RunFault}
use Rattle.debug_server.specs.declared.faults.RunFault.TheVariants as run
use Rattle.debug_server.specs.declared.faults.Fault.{Fault}
use Rattle.debug_server.specs.declared.faults.Fault.TheVariants.{File, Run, Live}
use Rattle.live_rules.specs.declared.faults.LiveFault.{LiveFault}
use Rattle.live_rules.specs.declared.faults.LiveFault.TheVariants as live
use Rattle.traces.specs.Faults.{fault_number}
use Rattle.machine.specs.Refusals.{number_of}

abbrev pub key_text : Key → List ℕ
key_text key.Document = codes "document"
key_text key.Entries = codes "entries"
key_text key.Cq = codes "cq"
key_text key.Sqpoll = codes "sqpoll"
key_text key.SubmitAll = codes "submit_all"
key_text key.Base = codes "base"
key_text key.Memory = codes "memory"
key_text key.Objects = codes "objects"
key_text key.Fds = codes "fds"
key_text key.Threads = codes "threads"
key_text key.Schedule = codes "schedule"

-- A space and an index, or nothing.
abbrev pub index_text : Option ℕ → List ℕ
index_text None = []
index_text (Some i) = codes " " ++ decimal i

-- A key and its indexes.
abbrev pub path_text : Path → List ℕ
path_text p = key_text p.key ++ (index_text p.item ++ index_text p.inner)

abbrev pub script_fault_text : ScriptFault → List ℕ
script_fault_text script.NotJson = codes "fault script 1"
script_fault_text (script.Shape p) = codes "fault script 2 " ++ path_text p
script_fault_text (script.Range p) = codes "fault script 3 " ++ path_text p
script_fault_text (script.Limit p) = codes "fault script 4 " ++ path_text p
script_fault_text script.Memory = codes "fault memory"

abbrev pub trace_fault_text : TraceFault → List ℕ
trace_fault_text trace.Memory = codes "fault memory"
trace_fault_text (trace.Setup offset) = codes "fault trace 8 " ++ decimal offset
trace_fault_text fault = codes "fault trace " ++ decimal (fault_number fault)

abbrev pub serve_number : ServeFault → ℕ
serve_number serve.Read = 1
serve_number serve.Write = 2
serve_number serve.Memory = 3
serve_number serve.Closed = 4

abbrev pub run_fault_text : RunFault → List ℕ
run_fault_text (run.Script fault) = script_fault_text fault
run_fault_text (run.Schedule i refusal) = codes "fault schedule " ++ (decimal i ++ (codes " " ++ decimal (number_of refusal)))
run_fault_text (run.Serve fault) = codes "fault session " ++ decimal (serve_number fault)
run_fault_text run.Memory = codes "fault memory"
run_fault_text run.Net = codes "fault net"
run_fault_text (run.Trace fault) = trace_fault_text fault

-- A live run whose setup is refused can only have run out of memory, since a script's setup is
-- valid.
abbrev pub live_fault_text : LiveFault → List ℕ
live_fault_text (live.Setup refusal) = codes "fault memory"
live_fault_text (live.Torn actor) = codes "fault torn"
live_fault_text (live.Strange setup actors) = codes "fault torn"

abbrev pub failure_text : Fault → List ℕ
failure_text File = codes "fault file"
failure_text (Run fault) = run_fault_text fault
failure_text (Live fault) = live_fault_text fault
