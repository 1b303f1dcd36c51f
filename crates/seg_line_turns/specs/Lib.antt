pub mod TurnClasses
pub mod TurnRules
pub mod Turns
pub mod TurnBoundaries
pub mod TurnPlaces
pub mod TurnEvents
pub mod PlainTexts
