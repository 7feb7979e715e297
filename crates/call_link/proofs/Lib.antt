pub mod InFunctions
pub mod Items
