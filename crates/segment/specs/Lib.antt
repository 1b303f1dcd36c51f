pub mod Abbreviations
pub mod Command
pub mod Dictionaries
pub mod Job
pub mod Lists
pub mod Rules
pub mod Words
