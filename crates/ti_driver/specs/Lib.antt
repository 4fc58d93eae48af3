pub mod Commands
pub mod Faults
pub mod Streams
pub mod Runs
pub mod Reports
pub mod ReportLines
pub mod Doings
pub mod Lines
