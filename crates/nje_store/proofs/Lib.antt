mod WireLemmas
mod NumberLemmas
