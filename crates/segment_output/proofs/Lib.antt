pub mod GivenParagraphs
pub mod BareLines
mod Counting
pub mod BareObjects
pub mod Gathered
pub mod JoinedCuts
pub mod LineEnds
pub mod MarkedPlaces
pub mod Prepared
pub mod Printed
pub mod Segments
pub mod ShownLines
pub mod ShownWide
pub mod SplitParts
pub mod SplitText
pub mod Stretches
pub mod WrappedParts
pub mod WrittenTokens
