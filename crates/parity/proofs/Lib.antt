-- Laws of codewords and bursts.
pub mod Numbers
pub mod Codeword
pub mod Bursts
pub mod Sets
pub mod Received
pub mod Groups
pub mod Trap
pub mod Answer
