mod Courses
mod Work
mod Looks
mod Joins
