-- Worked pages, from another program.
use Rattle.std.proofs.Common.{◌≡◌, ℕ, List, [], ◌∷◌, ◌++◌, replicate, None, refl}
use Rattle.std.specs.Prelude.{codes}
use Rattle.mas_types.specs.declared.queues.Owner.TheVariants as owner
use Rattle.ckpt_tables.specs.declared.tables.Tables.{Tables}
use Rattle.ckpt_tables.specs.Pages.{page_of}

small : Tables
small = record {
  config = record { members = 2; jobs = 16; outputs = 32; volumes = 1; groups = 5; hold = 64; dormancy = 7; node = record { 0 = codes "HERE    " } };
  jobs = replicate 16 None;
  outputs = replicate 32 None;
  owners = owner.Member (record { 0 = 2 }) ∷ owner.Deck (record { 0 = 1234 }) 0 ∷ owner.Free ∷ owner.Free ∷ owner.Free ∷ [];
  members = record { init = record { 0 = 65 } ∷ record { 0 = 66 } ∷ []; prt = record { 0 = 67 } ∷ []; forms = record { 0 = codes "STD     " }; lines = 20 }
      ∷ record { init = record { 0 = 90 } ∷ []; prt = record { 0 = 90 } ∷ record { 0 = 57 } ∷ []; forms = record { 0 = codes "FORM1   " }; lines = 300 } ∷ [];
  routes = record { name = record { 0 = codes "FAR     " }; line = 3 } ∷ record { name = record { 0 = codes "AWAY    " }; line = 8 } ∷ [];
  lines = record { sent = 7; got = 8; current = record { 0 = 1234 } } ∷ replicate 7 (record { sent = 0; got = 0; current = record { 0 = 0 } });
  last = record { 0 = 1234 };
  order = 79;
}

levels : List ℕ
levels = 9 ∷ 1 ∷ 2 ∷ 3 ∷ 4 ∷ 9 ∷ []

page_0 : page_of small levels 0 ≡ (77 ∷ 65 ∷ 83 ∷ 67 ∷ 75 ∷ 80 ∷ 84 ∷ 49 ∷ 0 ∷ 0 ∷ 0 ∷ 0 ∷ 0 ∷ 0 ∷ 0 ∷ 9 ∷ 1 ∷ 2 ∷ 1 ∷ 0 ∷ 0 ∷ 16 ∷ 0 ∷ 32 ∷ 0 ∷ 5 ∷ 0 ∷ 64 ∷ 0 ∷ 7 ∷ 0 ∷ 0 ∷ 0 ∷ 0 ∷ 4 ∷ 210 ∷ 0 ∷ 0 ∷ 0 ∷ 0 ∷ 0 ∷ 0 ∷ 0 ∷ 0 ∷ 0 ∷ 0 ∷ 0 ∷ 79 ∷ []) ++ (replicate 983 0 ++ ((9 ∷ 0 ∷ 0 ∷ 0 ∷ 0 ∷ 0 ∷ 0 ∷ 0 ∷ 1 ∷ 0 ∷ 0 ∷ 0 ∷ 0 ∷ 0 ∷ 0 ∷ 0 ∷ 2 ∷ 0 ∷ 0 ∷ 0 ∷ 0 ∷ 0 ∷ 0 ∷ 0 ∷ 3 ∷ 0 ∷ 0 ∷ 0 ∷ 0 ∷ 0 ∷ 0 ∷ 0 ∷ 4 ∷ 0 ∷ 0 ∷ 0 ∷ 0 ∷ 0 ∷ 0 ∷ 0 ∷ 9 ∷ []) ++ (replicate 3024 0)))
unfolding small levels
page_0 = refl

page_1 : page_of small levels 1 ≡ (1 ∷ 2 ∷ 65 ∷ 66 ∷ []) ++ (replicate 34 0 ++ ((1 ∷ 67 ∷ []) ++ (replicate 35 0 ++ ((83 ∷ 84 ∷ 68 ∷ 32 ∷ 32 ∷ 32 ∷ 32 ∷ 32 ∷ 0 ∷ 20 ∷ []) ++ (replicate 43 0 ++ ((1 ∷ 1 ∷ 90 ∷ []) ++ (replicate 35 0 ++ ((2 ∷ 90 ∷ 57 ∷ []) ++ (replicate 34 0 ++ ((70 ∷ 79 ∷ 82 ∷ 77 ∷ 49 ∷ 32 ∷ 32 ∷ 32 ∷ 1 ∷ 44 ∷ []) ++ (replicate 3883 0)))))))))))
unfolding small levels
page_1 = refl

page_2 : page_of small levels 2 ≡ (72 ∷ 69 ∷ 82 ∷ 69 ∷ 32 ∷ 32 ∷ 32 ∷ 32 ∷ 2 ∷ []) ++ (replicate 122 0 ++ ((7 ∷ 0 ∷ 0 ∷ 0 ∷ 8 ∷ 0 ∷ 0 ∷ 4 ∷ 210 ∷ []) ++ (replicate 884 0 ++ ((70 ∷ 65 ∷ 82 ∷ 32 ∷ 32 ∷ 32 ∷ 32 ∷ 32 ∷ 3 ∷ 0 ∷ 0 ∷ 0 ∷ 0 ∷ 0 ∷ 0 ∷ 0 ∷ 65 ∷ 87 ∷ 65 ∷ 89 ∷ 32 ∷ 32 ∷ 32 ∷ 32 ∷ 8 ∷ []) ++ (replicate 3047 0)))))
unfolding small levels
page_2 = refl

page_3 : page_of small levels 3 ≡ replicate 4096 0
unfolding small levels
page_3 = refl

page_4 : page_of small levels 4 ≡ replicate 4096 0
unfolding small levels
page_4 = refl

page_5 : page_of small levels 5 ≡ (1 ∷ 2 ∷ 0 ∷ 0 ∷ 0 ∷ 0 ∷ 0 ∷ 0 ∷ 2 ∷ 0 ∷ 0 ∷ 0 ∷ 0 ∷ 0 ∷ 4 ∷ 210 ∷ []) ++ (replicate 4080 0)
unfolding small levels
page_5 = refl
