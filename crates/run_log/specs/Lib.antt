pub mod Common
pub mod Ranges
pub mod Listings
pub mod Lines
pub mod Logs
pub mod RowShapes
unfoldable pub use Common.*
unfoldable pub use Ranges.*
unfoldable pub use Listings.*
unfoldable pub use Lines.*
unfoldable pub use Logs.*
unfoldable pub use RowShapes.*
