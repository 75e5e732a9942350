mod Computed
mod LineComputed
pub mod Tests
pub mod Ledger
pub mod Stopped
pub mod Told
pub mod Alone
pub mod Locks
pub mod Near
pub mod One
pub mod Halts
pub mod Firsts
pub mod Givens
pub mod Comes
pub mod Keeping
pub mod Awake
pub mod GivenComputed
