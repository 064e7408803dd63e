-- By which gap a multiblock is written and read.
pub mod Shape
