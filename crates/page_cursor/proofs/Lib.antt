-- Laws of what is known of places, and of what a cursor passes.
pub mod MarkLaws
pub mod CursorLaws
