pub mod Tests
pub mod Lists
pub mod Cells
mod RangeSymbols
mod Ends
mod Boundaries
mod Texts
mod Parts
pub mod Segments
pub mod Faultless
pub mod MachineTests
pub mod Scripts
mod Properties
mod SentenceSymbols
mod WordSymbols
mod ClusterCertificate
mod SentenceCertificate
mod WordCertificate
mod TypedStates
mod Faults
mod RuleLaws
mod Sides
mod RowPlaces
mod Bases
mod ClusterPlaces
mod SentencePlaces
mod WordPlaces
mod Sequences
mod SentenceSequences
mod WordSequences
mod TypedSymbols
mod TypedPicks
mod TypedBoundaries
mod TypeExamples
