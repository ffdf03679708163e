-- Laws of what the tests set up.
mod PagedLaws
mod WorkedRuns
