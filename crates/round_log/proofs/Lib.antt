pub mod Same
pub mod Judging
pub mod Lengths
pub mod Verdicts
pub mod Runs
pub mod WorkedLogs
