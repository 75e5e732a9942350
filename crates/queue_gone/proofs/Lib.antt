pub mod GoneLemmas
