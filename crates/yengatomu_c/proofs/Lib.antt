pub mod AsBox
pub mod Shapes
pub mod Loans
