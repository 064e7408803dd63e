-- Laws of multiblocks by their gap that no one function owns.
pub mod Shapes
