mod BitTables
pub mod OneAnswer
mod OtherCounter
pub mod OtherPlace
pub mod RegistersKept
