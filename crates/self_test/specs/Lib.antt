pub mod Start
pub mod Results
pub mod Runs
pub mod Files
