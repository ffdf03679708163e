-- What is done for a job, and what the program answers.
pub mod Runs
pub mod DumpRuns
pub mod RestartRuns
pub mod Jobs
pub mod TasksRuns
pub mod Answer
pub mod GoingOn
