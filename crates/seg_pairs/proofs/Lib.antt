pub mod Pairs
pub mod Walks
pub mod Landings
pub mod Forward
mod ItemElements
pub mod Chains
pub mod Chained
pub mod ComplexStretches
pub mod Engine
pub mod Events
pub mod Rows
