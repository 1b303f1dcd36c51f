mod ChosenLines
mod TypedWords
mod Found
mod TableTests
mod Tables
mod Refusals
mod Refused
