pub mod NameBounds
mod FirstNamed
mod HavingNames
