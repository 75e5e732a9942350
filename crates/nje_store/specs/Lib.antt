pub mod Custody
pub mod Wire
pub mod Numbers
pub mod Laws
pub mod Examples
