pub mod Entries
pub mod Spelling
pub mod Fields
pub mod Items
pub mod Last
pub use Rattle.lk_base.specs.Ranges
pub use Rattle.lk_base.specs.Timeline
