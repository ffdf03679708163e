-- Laws of what the tests set up.
mod WorkedPage
