mod Adding
mod AllUses
mod Keys
mod NoUppers
pub mod UseKinds
