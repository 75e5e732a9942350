mod Walks
mod Giving
mod LowestLemmas
mod TextLemmas
mod OrderLemmas
