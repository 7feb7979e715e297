pub mod LeafNodes
pub mod Leaves
pub mod Asked
pub mod Exits
pub mod Marks
