pub mod Spelling
pub mod Datagram
pub mod Reading
pub mod Written
pub use Rattle.link_payload.specs.Entries
pub use Rattle.link_payload.specs.Items
pub use Rattle.link_payload.specs.Spelling as Payload
pub use Rattle.link_payload.specs.Fields
pub use Rattle.link_payload.specs.Ranges
pub use Rattle.link_payload.specs.Timeline
