pub mod Common
pub mod Fillings
pub mod Stamping
pub mod Occupancies
unfoldable pub use Common.*
unfoldable pub use Fillings.*
unfoldable pub use Stamping.*
unfoldable pub use Occupancies.*
