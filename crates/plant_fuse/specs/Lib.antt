pub mod Counted
pub mod Torn
pub mod Closing
pub mod FuseViews
pub mod Unarmed
