use Rattle.member_units.proofs.Names.{◌∙◌, sym, true, false, print_under_way, text_under_way}
use Rattle.member_units.proofs.Following.{by_none}
use Rattle.member_units.proofs.nexts.aside_of.Goals as goal

pub returns-in-Print : goal.returns-in-Print
returns-in-Print c =
    let m = c.args.member.now in
    let lines = c.next_lines.ensures in
    rw c.in-Print.is (record { is = lines.is; awaited = lines.awaited (λ Q told sound. print_under_way m.checkpoint.tables Q m.id c.in-Print.job c.in-Print.output c.law_of_texts.ensures.told sound told (sym c.in-Print.is ∙ c.requires.next Q told)) })

pub returns-in-Run : goal.returns-in-Run
returns-in-Run c =
    let m = c.args.member.now in
    let text = c.next_text.ensures in
    rw c.in-Run.is (record { is = text.is; awaited = text.awaited (λ Q told sound. text_under_way m.checkpoint.tables Q m.id c.in-Run.job true c.law_of_texts.ensures.told sound told (sym c.in-Run.is ∙ c.requires.next Q told)) })

pub returns-in-Convert : goal.returns-in-Convert
returns-in-Convert c =
    let m = c.args.member.now in
    let text = c.next_text-in-Convert.ensures in
    rw c.in-Convert.is (record { is = text.is; awaited = text.awaited (λ Q told sound. text_under_way m.checkpoint.tables Q m.id c.in-Convert.job false c.law_of_texts.ensures.told sound told (sym c.in-Convert.is ∙ c.requires.next Q told)) })

pub returns-in_default : goal.returns-in_default
returns-in_default c = record {
  is = λ Q told. by_none c.args.member.now.id c.args.progress Q c.args.next c.in_default.not-Print c.in_default.not-Run c.in_default.not-Convert;
  awaited = tt;
}
