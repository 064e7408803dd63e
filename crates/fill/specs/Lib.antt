-- What stands between the data octets of 80-bit blocks.
pub mod Register
pub mod Table38
