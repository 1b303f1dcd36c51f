pub mod Callers
mod EachWord
mod Cutting
mod Whole
mod Hints
mod Nearest
mod Parts
mod ItemStarts
mod Certain
mod Splits
pub mod Given
mod Suppressing
mod Sources
mod Beginnings
mod Reading
mod Texts
mod Stops
mod Feeds
mod Spaceless
mod Exact
mod Held
