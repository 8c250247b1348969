pub mod Cell
pub mod SeqRule
