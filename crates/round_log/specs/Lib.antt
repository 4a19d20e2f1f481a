pub mod RoundLog
pub mod Findings
pub mod WorkedLogs
