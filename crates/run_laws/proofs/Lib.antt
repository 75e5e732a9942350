mod Copies
mod Rows
mod Levels
mod Beginning
mod Found
mod Early
mod Unstopped
