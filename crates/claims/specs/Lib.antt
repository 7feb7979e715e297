pub mod Headline
pub mod Exact
pub mod LinkExact
pub mod Turns
