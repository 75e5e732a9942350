pub mod Grammar
pub mod Reading
pub mod Fronts
pub mod Streams
pub mod Laws
pub mod Examples
