-- Laws of stubs and templates.
pub mod Sizes
pub mod WorkedTemplates
