-- Pages that are alike to a member's own.
use Rattle.std.proofs.Common.{◌≡◌, ◌∙◌, ℕ, ◌≤◌, ◌<◌, Bool, List, length, sym, subst, arith}
use Rattle.mas_types.specs.declared.ids.Page.{Page}
use Rattle.mas_types.specs.Limits.{pages_most}
use Rattle.ckpt_tables.specs.declared.tables.Tables.{Tables}
use Rattle.ckpt_pages.specs.Checkpoints.{IsCheckpoint, SpellSome}
use Rattle.member_node.specs.declared.checkpoint.Checkpoint.{Checkpoint}
use Rattle.queue_indexed.specs.Index.{Index}
use Rattle.queue_indexed.specs.Behind.{IsBehind}
use Rattle.queue_indexed.specs.Indexes.{IsOf}
use Rattle.queue_indexed.proofs.BehindLemmas.{behind_alike}
use Rattle.page_tables.specs.Bringing.{AreOlder}
use Rattle.page_tables.proofs.TakeLemmas.{older_than}
use Rattle.member_node.specs.Drawn.{AreDrawn}
use Rattle.member_node.specs.Mirrors.{IsMirrorBut}
use Rattle.member_node.specs.Reads.{IsUpTo, MayGoOn}

-- pages are the checkpoint of the tables that they were drawn from
pub own_checkpoint : (t : Tables) (at : ℕ) (levels : List ℕ) (pages : List Page) → AreDrawn t at levels pages → IsCheckpoint pages t
own_checkpoint t at levels pages d = record { level = at; levels = levels; fit = d.spelling; ages = d.leveled; spell = d.spelled }

pub own_spell : (k : Checkpoint) → AreDrawn k.tables k.level k.levels k.pages → SpellSome k.pages
own_spell k d = (k.tables, own_checkpoint k.tables k.level k.levels k.pages d)

-- pages that are alike to drawn ones are the checkpoint of the same tables
pub alike_checkpoint : (room : List Page) (k : Checkpoint) → AreDrawn k.tables k.level k.levels k.pages → room ≡ k.pages → IsCheckpoint room k.tables
alike_checkpoint room k d same = subst (λ (ps : List Page). IsCheckpoint ps k.tables) (sym same) (own_checkpoint k.tables k.level k.levels k.pages d)

-- tables that were drawn are up to pages that are alike to theirs
pub up_already : (room : List Page) (k : Checkpoint) → AreDrawn k.tables k.level k.levels k.pages → room ≡ k.pages → MayGoOn k.tables.config room k.tables → IsUpTo k.tables.config room k
up_already room k d same may = record { has = sym same; drawn = d; may = may }

-- pages that differ from a member's own where marks are: each other page is the one that its tables spell
pub own_older : (k : Checkpoint) (room : List Page) (marks : List Bool) → AreDrawn k.tables k.level k.levels k.pages → length room ≡ length k.pages → length room ≤ pages_most → IsMirrorBut marks room k.pages → AreOlder k.tables room marks
own_older k room marks drawn many few mirror =
    older_than k.tables k.levels k.pages room marks drawn.spelled many (λ p some within off. mirror p some (omega (arith, within, few)) within (omega (arith, within, many)) off)

-- an index of the tables lags behind those that they are brought up to on pages with marks alone
pub behind_read : (index : Index) (k : Checkpoint) (room : List Page) (marks : List Bool) (t : Tables) → AreDrawn k.tables k.level k.levels k.pages → length room ≡ length k.pages → AreOlder k.tables room marks → IsCheckpoint room t → t.config ≡ k.tables.config
    → IsOf index k.tables → IsBehind index t marks
behind_read index k room marks t drawn many older is config of =
    behind_alike k.tables t is.levels marks drawn.spelling is.fit config
    (λ p from to off. let within : p < length room = omega (arith, to, many, drawn.spelled.count) in sym (is.spell.each p within) ∙ older p (omega (arith, from)) within off is.levels) index of
