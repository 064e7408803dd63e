-- What parity, weights and bursts mean.
pub mod Codeword
pub mod Numbers
pub mod Bursts
pub mod Answer
