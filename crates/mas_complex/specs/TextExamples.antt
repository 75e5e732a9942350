-- Worked examples of texts on the spool volumes.
use Rattle.mas_complex.specs.Names.{GroupNo, Whole, Gone, Deck, groups_of, volume_of, start_of, text_of}
use Rattle.std.specs.Prelude.{◌≡◌, ◌==◌, ℕ, true, false, List, [], ◌∷◌, Some, None}
use Rattle.mas_types.specs.declared.queues.Owner.{Owner}
use Rattle.mas_types.specs.declared.queues.Owner.TheVariants as owner
use Rattle.mas_complex.specs.Texts.{lies_on}

abbrev pub group : ℕ → GroupNo
group n = record { 0 = n }

-- two groups, each the deck of a job
abbrev pub two_decks : List Owner
two_decks = owner.Deck (record { 0 = 1 }) 0 ∷ owner.Deck (record { 0 = 2 }) 0 ∷ []

pub record WorkedTexts : Type 0 where
  -- two volumes of one group each: the second job's deck stands on SPOOL2, at its start
  pub groups : groups_of (Deck (record { 0 = 2 })) two_decks ≡ group 1 ∷ []
  pub volume : volume_of 1 (group 1) ≡ 2
  pub start : start_of 1 (group 1) ≡ 0
  -- with SPOOL2 lost the second job's deck is left out, and the first job's is not
  pub second : lies_on (λ n. n == 2) 1 (group 1 ∷ []) ≡ true
  pub first : lies_on (λ n. n == 2) 1 (group 0 ∷ []) ≡ false
  -- a text without lines takes a group without records; one that was never entered has no group
  pub entered : text_of (λ g. Some []) 0 (group 1 ∷ []) ≡ Whole []
  pub begun : text_of (λ g. Some []) 0 [] ≡ Whole []
  -- the lines AB and the empty one; a group that holds no records; a slot that counts another number of lines
  pub lines : text_of (λ g. Some ((65 ∷ 66 ∷ []) ∷ [] ∷ [])) 2 (group 0 ∷ []) ≡ Whole ((65 ∷ 66 ∷ []) ∷ [] ∷ [])
  pub bad : text_of (λ g. None) 2 (group 0 ∷ []) ≡ Gone (group 0) 2
  pub few : text_of (λ g. Some ((65 ∷ 66 ∷ []) ∷ [])) 2 (group 0 ∷ []) ≡ Gone (group 0) 2
