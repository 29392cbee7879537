pub mod Choices
pub mod Hints
pub mod Needs
pub mod Views
