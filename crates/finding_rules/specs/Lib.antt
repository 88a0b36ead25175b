pub mod Common
pub mod Numbers
pub mod Endings
pub mod Uses
pub mod Conditions
pub mod NextSteps
pub mod Conflicts
pub mod Completions
pub mod Canceling
pub mod Facts
pub mod AtEnd
pub mod Timespecs
pub mod Durability
pub mod Verdicts
pub mod Noted
unfoldable pub use Common.*
unfoldable pub use Numbers.*
unfoldable pub use Endings.*
unfoldable pub use Uses.*
unfoldable pub use Conditions.*
unfoldable pub use NextSteps.*
unfoldable pub use Conflicts.*
unfoldable pub use Completions.*
unfoldable pub use Canceling.*
unfoldable pub use Facts.*
unfoldable pub use AtEnd.*
unfoldable pub use Timespecs.*
unfoldable pub use Durability.*
unfoldable pub use Verdicts.*
unfoldable pub use Noted.*
