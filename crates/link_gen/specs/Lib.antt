pub mod Contents
pub mod Elf
pub mod Generated
