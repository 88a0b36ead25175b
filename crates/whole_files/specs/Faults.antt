-- Faults of files.
use Rattle.std.specs.declared.io.ErrorKind.{ErrorKind}
use Rattle.std.specs.declared.io.ErrorKind.TheVariants.{OutOfMemory}
use Rattle.whole_files.specs.declared.fault.FileFault.{FileFault}
use Rattle.whole_files.specs.declared.fault.FileFault.TheVariants.{Memory, File}

-- The fault that an I/O error is reported as.
abbrev pub fault_as : ErrorKind → FileFault
fault_as OutOfMemory = Memory
fault_as kind = File
