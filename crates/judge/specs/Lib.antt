-- What a waiting multiblock turns out to be, and which of its octets may be believed.
pub mod Judge
pub mod Sound
