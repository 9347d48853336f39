-- Lemmas of the crate.
mod Parsing
mod Reading
mod Entries
mod Numbers
mod CommaParts
