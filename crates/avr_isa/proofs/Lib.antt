pub mod Laws
mod WorkedValues
