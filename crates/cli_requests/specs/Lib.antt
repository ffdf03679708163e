-- What words and an input ask for.
pub mod Reading
pub mod RunCommand
pub mod DumpCommand
pub mod RestartCommand
pub mod TasksCommand
pub mod CheckCommand
pub mod GenerateCommand
pub mod AsmCommand
pub mod Asking
