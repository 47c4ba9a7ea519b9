pub mod Phases
pub mod Changes
pub mod Answers
pub mod Scene
pub mod Settling
pub mod Numbers
pub mod View
