mod Lines
mod Scanning
mod Merging
