pub mod Parking
pub mod AtBoot
pub mod Made
pub mod Ends
pub mod Handing
pub mod Counting
