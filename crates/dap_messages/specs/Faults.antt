-- Reading up to the first fault.
use Rattle.std.specs.Prelude.{◌≡◌, Option, Some, None, Result, Ok, Err}
use Rattle.dap_messages.specs.declared.field.Field.{Field}
use Rattle.dap_messages.specs.declared.fault.RequestFault.{RequestFault}
use Rattle.dap_messages.specs.declared.fault.RequestFault.TheVariants.{Memory, NotAnObject, NotARequest, UnknownCommand, BadArgument}

-- The second reading, if the first one succeeded, or else the first one's fault.
infixl 10 ◌>>=◌
abbrev pub ◌>>=◌ : {A B : Type 0} → Result A RequestFault → (A → Result B RequestFault) → Result B RequestFault
(Ok x) >>= f = f x
(Err e) >>= f = Err e

-- Whether a returned fault is the specified one. An allocation failure is always possible.
abbrev pub Fails : {B : Type 0} → RequestFault → Result B RequestFault → Type 0
Fails Memory expected = Unit {0}
Fails NotAnObject expected = expected ≡ Err NotAnObject
Fails NotARequest expected = expected ≡ Err NotARequest
Fails UnknownCommand expected = expected ≡ Err UnknownCommand
Fails (BadArgument f) expected = expected ≡ Err (BadArgument f)

-- Whether the result of a call is the specified one. An allocation failure is always possible.
abbrev pub Gives : {A : Type 0} → Result A RequestFault → Result A RequestFault → Type 0
Gives (Ok x) expected = expected ≡ Ok x
Gives (Err e) expected = Fails e expected

-- A missing value is a bad argument.
abbrev pub or_bad : {A : Type 0} → Field → Option A → Result A RequestFault
or_bad f None = Err (BadArgument f)
or_bad f (Some x) = Ok x
