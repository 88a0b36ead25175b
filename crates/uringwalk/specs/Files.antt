-- Faults of files.
use Rattle.whole_files.specs.declared.fault.FileFault.{FileFault}
use Rattle.whole_files.specs.declared.fault.FileFault.TheVariants.{Memory as OutOfMemory, File as OfAFile}
use Rattle.debug_server.specs.declared.faults.Fault.{Fault}
use Rattle.debug_server.specs.declared.faults.Fault.TheVariants.{File, Run}
use Rattle.debug_server.specs.declared.faults.RunFault.TheVariants.{Memory}

-- the fault that is reported for a file
abbrev pub fault_as : FileFault → Fault
fault_as OutOfMemory = Run Memory
fault_as OfAFile = File
