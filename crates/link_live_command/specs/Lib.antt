pub mod ReportText
pub mod LiveSetup
pub mod HeadRead
pub mod ScriptRead
pub mod Outside
pub mod LiveEnds
