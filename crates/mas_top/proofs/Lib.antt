pub mod RaceLemmas
