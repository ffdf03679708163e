-- Lemmas on a whole run, on texts that are put one after another, on the runs of several tasks, on what words and an input ask
-- for, and on what stands behind a run.
pub mod Putting
pub mod RunEnds
pub mod LostFlash
pub mod RestartEnds
mod DoneJobs
mod TasksEnds
pub mod Exactly
mod GoingOn
