-- Copies of objects that share their bytes.
use Rattle.model_files.specs.declared.body.Body.{Body}
use Rattle.model_files.specs.declared.body.Body.TheVariants.{File, Pipe, EventFd}
use Rattle.model_files.specs.declared.shared.SharedBody.{SharedBody}
use Rattle.model_files.specs.declared.shared.SharedBody.TheVariants.{File as SharedFile, Pipe as SharedPipe, EventFd as SharedEventFd}

-- The object that a copy is equal to.
abbrev pub body_of : SharedBody → Body
body_of (SharedFile f) = File f
body_of (SharedPipe p) = Pipe p
body_of (SharedEventFd n) = EventFd n
