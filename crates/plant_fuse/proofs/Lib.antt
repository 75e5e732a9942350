pub mod Marks
pub mod Passing
pub mod Content
pub mod Unarming
