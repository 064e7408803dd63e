-- What bits, octets and numbers have to do with each other.
pub mod Bounds
pub mod Choice
pub mod Order
pub mod Refusals
