pub mod Pages
pub mod Pointers
