-- What the link layer promises as a whole, and under which premise.
pub mod Damage
pub mod Calls
pub mod Transfer
pub mod Dozen
pub mod Promises
