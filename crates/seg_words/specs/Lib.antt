pub mod RisingPrefixes
pub mod WordRules
pub mod Words
pub mod WordsLeft
