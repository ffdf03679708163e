-- What a cursor knows of places.
pub mod Marks
pub mod Cursors
