-- What a check answers.
use Rattle.std.proofs.Common.{◌≡◌, ◌⊎◌, ⊎_elim, ℕ, List, Option, Some, None, Result, Ok, Err, refl, sym, ◌∙◌, ap, subst}
use Rattle.mas_types.specs.declared.answers.FaultKind.TheVariants as kind
use Rattle.mas_types.specs.declared.answers.Verdict.{Verdict}
use Rattle.mas_types.specs.declared.answers.Verdict.TheVariants.{Sound, Fault}
use Rattle.mas_types.specs.declared.ids.Page.{Page}
use Rattle.spool_plant.specs.View.{View}
use Rattle.ckpt_tables.specs.declared.tables.Tables.{Tables}
use Rattle.ckpt_pages.specs.declared.faults.TableFault.{TableFault}
use Rattle.ckpt_pages.specs.declared.faults.TableFault.TheVariants as fault
use Rattle.ckpt_pages.specs.declared.entries.PageNo.{PageNo}
use Rattle.ckpt_pages.specs.declared.entries.PageNo.TheVariants.{BadPage}
use Rattle.ckpt_pages.specs.declared.entries.PageNo.TheVariants as page_no
use Rattle.ckpt_pages.specs.Checkpoints.{IsCheckpoint, IsLeastBad}
use Rattle.ckpt_pages.specs.Reading.{IfBadPage}
use Rattle.ckpt_pages.specs.Sound.{fault_of}
use Rattle.mas_check.specs.declared.checking.CheckNo.{CheckNo}
use Rattle.mas_check.specs.declared.checking.CheckNo.TheVariants.{SpoolLost, NoMemory}
use Rattle.mas_check.specs.declared.groups.Group.{Group}
use Rattle.mas_check.specs.Groups.{wrong_group}
use Rattle.mas_check.specs.Volumes.{groups_on, lost_volume}
use Rattle.mas_check.specs.Checks.{page_answer, verdict_of, text_verdict, answer_of, IsCheckOf, IsCheck, IsAnswer}

-- THE TEXTS

module _ (tells : Type 0) (t : Tables) (old new : View) (sound : fault_of t ≡ None) where
  -- a volume with a group of a text is lost
  pub lost_check : (volume : ℕ) → Some volume ≡ lost_volume new t.config.groups t.owners → IsCheckOf tells t old new (Err (SpoolLost volume))
  lost_check volume lost = record {
    text = wrong_group t (groups_on old t.config.groups t.owners);
    told = λ told. refl;
    is = ap (λ (l : Option ℕ). answer_of None l (wrong_group t (groups_on old t.config.groups t.owners))) lost
        ∙ ap (λ (f : Option TableFault). answer_of f (lost_volume new t.config.groups t.owners) (wrong_group t (groups_on old t.config.groups t.owners))) (sym sound);
  }

  -- no volume is lost, and each group of a text was read
  pub text_check : (groups : List Group) (text : Option ℕ) → None ≡ lost_volume new t.config.groups t.owners → (tells → lost_volume new t.config.groups t.owners ≡ None → groups ≡ groups_on old t.config.groups t.owners) → text ≡ wrong_group t groups
      → IsCheckOf tells t old new (Ok (text_verdict text))
  text_check groups text none read is = record {
    text = text;
    told = λ told. is ∙ ap (λ (gs : List Group). wrong_group t gs) (read told (sym none));
    is = ap (λ (l : Option ℕ). answer_of None l text) none ∙ ap (λ (f : Option TableFault). answer_of f (lost_volume new t.config.groups t.owners) text) (sym sound);
  }

-- tables with a fault
pub fault_check : (tells : Type 0) (t : Tables) (old new : View) (f : TableFault) → fault_of t ≡ Some f → IsCheckOf tells t old new (Ok (verdict_of f))
fault_check tells t old new f is = record {
  text = wrong_group t (groups_on old t.config.groups t.owners);
  told = λ told. refl;
  is = ap (λ (o : Option TableFault). answer_of o (lost_volume new t.config.groups t.owners) (wrong_group t (groups_on old t.config.groups t.owners))) (sym is);
}

-- THE ANSWER

no_page : (f : Option TableFault) (lost text : Option ℕ) (page : ℕ) → Ok (Fault kind.Page page) ≡ answer_of f lost text → ⊥
no_page (Some (fault.Number slot)) lost text page e = absurd (cc)
no_page (Some (fault.Owner group)) lost text page e = absurd (cc)
no_page (Some (fault.Place group)) lost text page e = absurd (cc)
no_page None (Some volume) text page e = absurd (cc)
no_page None None None page e = absurd (cc)
no_page None None (Some group) page e = absurd (cc)

module _ (tells : Type 0) (pages : List Page) (old new : View) where
  -- the answer for tables is that for their pages
  pub answer_of_check : (answer : Result Verdict CheckNo) → IsCheck tells pages old new answer → IsAnswer tells pages old new answer
  answer_of_check (Ok Sound) c = c
  answer_of_check (Ok (Fault kind.Page page)) c = absurd (no_page (fault_of c.tables) (lost_volume new c.tables.config.groups c.tables.owners) c.checked.text page c.checked.is)
  answer_of_check (Ok (Fault kind.Number place)) c = c
  answer_of_check (Ok (Fault kind.Owner place)) c = c
  answer_of_check (Ok (Fault kind.Place place)) c = c
  answer_of_check (Ok (Fault kind.Text place)) c = c
  answer_of_check (Err (SpoolLost volume)) c = c
  answer_of_check (Err NoMemory) c = tt

  pub answer_or_none : (t : Tables) (answer : Result Verdict CheckNo) → IsCheckpoint pages t → (answer ≡ Err NoMemory) ⊎ IsCheckOf tells t old new answer → IsAnswer tells pages old new answer
  answer_or_none t answer spelled either = ⊎_elim
      (λ none. subst (λ (a : Result Verdict CheckNo). IsAnswer tells pages old new a) (sym none) tt)
      (λ checked. answer_of_check answer (record { tables = t; spelled = spelled; checked = checked }))
      either

  -- pages that aren't decoded
  pub no_pages : (why : PageNo) → IfBadPage why (IsLeastBad pages) → IsAnswer tells pages old new (page_answer why)
  no_pages (BadPage page) bad = bad
  no_pages page_no.NoMemory bad = tt
