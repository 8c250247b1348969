pub mod Totals
pub mod Fit
pub mod Sums
pub mod Kept
pub mod Span
