pub mod Common
pub mod Rules
pub mod Watched
pub mod Given
pub mod Timespecs
pub mod Findings
pub mod Records
pub mod Suspects
pub mod Searching
pub mod Copies
unfoldable pub use Common.*
unfoldable pub use Rules.*
unfoldable pub use Watched.*
unfoldable pub use Given.*
unfoldable pub use Timespecs.*
unfoldable pub use Findings.*
unfoldable pub use Records.*
unfoldable pub use Suspects.*
unfoldable pub use Searching.*
unfoldable pub use Copies.*
pub use Rattle.finding_rules.specs.AtEnd
pub use Rattle.finding_rules.specs.Canceling
pub use Rattle.finding_rules.specs.Completions
pub use Rattle.finding_rules.specs.Conditions
pub use Rattle.finding_rules.specs.Conflicts
pub use Rattle.finding_rules.specs.Durability
pub use Rattle.finding_rules.specs.Endings
pub use Rattle.finding_rules.specs.Uses
