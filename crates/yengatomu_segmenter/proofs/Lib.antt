pub mod GoingOn
pub mod Feeds
mod Counted
mod Lines
mod Marked
mod ReadWords
mod Spans
mod Later
