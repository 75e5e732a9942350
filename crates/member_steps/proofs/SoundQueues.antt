-- The sound parts of a queue need no choice: a queue that has them somehow has them.
use Rattle.std.proofs.Common.{◌≡◌, ℕ, zero, suc, ◌-◌, Bool, true, false, ◌&&◌, if◌then◌else◌, List, [], ◌∷◌, ◌++◌, length, replicate, refl, sym, ◌∙◌, ap, subst, arith}
use Rattle.std.specs.Prelude.{◌==◌, nat_le, slice_index_or}
use Rattle.std.specs.List.{list_all}
use Rattle.std.specs.Coded.{Coded-set, coded_list, coded_ℕ, le_prop}
use Rattle.std.proofs.Math.Bool.{Bool-set}
use Rattle.std.proofs.Math.Logic.{∥∥₁_elim, ∥∥₁_map}
use Rattle.std.proofs.lemmas.Bool.{and_parts}
use Rattle.std.proofs.lemmas.Bool.Decides.{nat_tests}
use Rattle.mas_types.specs.declared.ids.Class.{Class}
use Rattle.mas_types.specs.declared.ids.Name8.{Name8}
use Rattle.mas_types.specs.declared.jobs.Job.{Job}
use Rattle.mas_types.specs.declared.jobs.Output.{Output}
use Rattle.mas_types.specs.declared.jobs.Text.{Text}
use Rattle.mas_types.specs.declared.jobs.Text.TheVariants.{Whole, Gone}
use Rattle.mas_types.specs.declared.queues.Config.{Config}
use Rattle.mas_types.specs.declared.queues.Queue.{Queue}
use Rattle.mas_types.specs.declared.queues.Setting.{Setting}
use Rattle.mas_types.specs.Fit.{AreClasses, AreDistinct, AreLines, IsConfig, IsName, IsSetting, IsText}
use Rattle.mas_types.specs.Ids.{same_class, same_number}
use Rattle.mas_types.specs.Limits.{name_bytes}
use Rattle.mas_types.specs.Names.{is_blank, is_name_byte, is_name_text, padded, unpadded}
use Rattle.mas_types.specs.Sound.{IsSound, IsSoundJob, IsSoundOutput, same_key, same_place, same_printer}

-- NAMES: of a padded text the text can be read

all_blank : (n : ℕ) → list_all is_blank (replicate n 32) ≡ true
all_blank zero = refl
all_blank (suc n) = all_blank n

unpadded_blanks : (n : ℕ) → unpadded (replicate n 32) ≡ []
unpadded_blanks zero = refl
unpadded_blanks (suc n) = ap (λ (t : Bool). if t then [] else 32 ∷ unpadded (replicate n 32)) (all_blank n)

not_blank : (b : ℕ) → is_name_byte b ≡ true → (b == 32) ≡ false
not_blank b is = by_test (b == 32) refl where
  by_test : (t : Bool) → (b == 32) ≡ t → (b == 32) ≡ false
  by_test false e = e
  by_test true e =
      let same : b ≡ 32 = grind (arith, nat_tests, e) in
      absurd (let no : false ≡ true = subst (λ (n : ℕ). is_name_byte n ≡ true) same is in cc)

unpadded_back : (text : List ℕ) (n : ℕ) → list_all is_name_byte text ≡ true → unpadded (text ++ replicate n 32) ≡ text
unpadded_back [] n are = unpadded_blanks n
unpadded_back (b ∷ bs) n are =
    let parts = and_parts (is_name_byte b) (list_all is_name_byte bs) are in
    ap (λ (t : Bool). if t && list_all is_blank (bs ++ replicate n 32) then [] else b ∷ unpadded (bs ++ replicate n 32)) (not_blank b parts.0)
    ∙ ap (λ (text : List ℕ). b ∷ text) (unpadded_back bs n parts.1)

name_back : (name : Name8) (is : IsName name) → unpadded name.0 ≡ is.0
name_back name is =
    ap (λ (bytes : List ℕ). unpadded bytes) is.2
    ∙ unpadded_back is.0 (name_bytes - length is.0) (and_parts (nat_le 1 (length is.0) && nat_le (length is.0) name_bytes) (list_all is_name_byte is.0) is.1).1

name_is : (name : Name8) → ∥ IsName name ∥₁ → IsName name
name_is name some = (
  unpadded name.0,
  ∥∥₁_elim some (Bool-set _ _) (λ is. subst (λ (text : List ℕ). is_name_text text ≡ true) (sym (name_back name is)) is.1),
  ∥∥₁_elim some (Coded-set (coded_list coded_ℕ) _ _) (λ is. is.2 ∙ ap (λ (text : List ℕ). padded text) (sym (name_back name is))),
)

-- LISTS, TEXTS, SETTINGS

distinct_is : {A : Type 0} (same : A → A → Bool) (xs : List A) → ∥ AreDistinct same xs ∥₁ → AreDistinct same xs
distinct_is same [] some = tt
distinct_is same (x ∷ xs) some = (∥∥₁_elim some (Bool-set _ _) (λ d. d.0), distinct_is same xs (∥∥₁_map some (λ d. d.1)))

classes_are : (classes : List Class) → ∥ AreClasses classes ∥₁ → AreClasses classes
classes_are classes some = record {
  some = ∥∥₁_elim some le_prop (λ x. x.some);
  few = ∥∥₁_elim some le_prop (λ x. x.few);
  each = λ k d lt. ∥∥₁_elim some (Bool-set _ _) (λ x. x.each k d lt);
  distinct = distinct_is same_class classes (∥∥₁_map some (λ x. x.distinct));
}

lines_are : (lines : List (List ℕ)) → ∥ AreLines lines ∥₁ → AreLines lines
lines_are lines some = record {
  few = ∥∥₁_elim some le_prop (λ x. x.few);
  short = λ k d lt. ∥∥₁_elim some le_prop (λ x. x.short k d lt);
  text = λ k d lt. ∥∥₁_elim some (Bool-set _ _) (λ x. x.text k d lt);
}

text_is : (text : Text) → ∥ IsText text ∥₁ → IsText text
text_is (Whole lines) some = lines_are lines some
text_is (Gone group count) some = ∥∥₁_elim some le_prop (λ x. x)

setting_is : (s : Setting) → ∥ IsSetting s ∥₁ → IsSetting s
setting_is s some = record {
  init = classes_are s.init (∥∥₁_map some (λ x. x.init));
  prt = classes_are s.prt (∥∥₁_map some (λ x. x.prt));
  forms = name_is s.forms (∥∥₁_map some (λ x. x.forms));
  lines = (∥∥₁_elim some le_prop (λ x. x.lines.0), ∥∥₁_elim some le_prop (λ x. x.lines.1));
}

config_is : (c : Config) → ∥ IsConfig c ∥₁ → IsConfig c
config_is c some = record {
  members = (∥∥₁_elim some le_prop (λ x. x.members.0), ∥∥₁_elim some le_prop (λ x. x.members.1));
  jobs = (∥∥₁_elim some le_prop (λ x. x.jobs.0), ∥∥₁_elim some le_prop (λ x. x.jobs.1), ∥∥₁_elim some (Coded-set coded_ℕ _ _) (λ x. x.jobs.2));
  outputs = (∥∥₁_elim some le_prop (λ x. x.outputs.0), ∥∥₁_elim some le_prop (λ x. x.outputs.1), ∥∥₁_elim some (Coded-set coded_ℕ _ _) (λ x. x.outputs.2));
  volumes = (∥∥₁_elim some le_prop (λ x. x.volumes.0), ∥∥₁_elim some le_prop (λ x. x.volumes.1));
  groups = (∥∥₁_elim some le_prop (λ x. x.groups.0), ∥∥₁_elim some le_prop (λ x. x.groups.1));
  hold = (∥∥₁_elim some le_prop (λ x. x.hold.0), ∥∥₁_elim some le_prop (λ x. x.hold.1));
  dormancy = ∥∥₁_elim some le_prop (λ x. x.dormancy);
  node = name_is c.node (∥∥₁_map some (λ x. x.node));
}

-- JOBS AND OUTPUTS

job_is : (config : Config) (j : Job) → ∥ IsSoundJob config j ∥₁ → IsSoundJob config j
job_is config j some = record {
  number = (∥∥₁_elim some le_prop (λ x. x.number.0), ∥∥₁_elim some le_prop (λ x. x.number.1));
  busy = ∥∥₁_elim some (Bool-set _ _) (λ x. x.busy);
  busy_phase = λ busy. ∥∥₁_elim some (Bool-set _ _) (λ x. x.busy_phase busy);
  text = text_is j.text (∥∥₁_map some (λ x. x.text));
  no_cards = λ input. ∥∥₁_elim some (Coded-set coded_ℕ _ _) (λ x. x.no_cards input);
}

output_is : (config : Config) (jobs : List Job) (o : Output) → ∥ IsSoundOutput config jobs o ∥₁ → IsSoundOutput config jobs o
output_is config jobs o some = record {
  index = (∥∥₁_elim some le_prop (λ x. x.index.0), ∥∥₁_elim some le_prop (λ x. x.index.1));
  copies = ∥∥₁_elim some le_prop (λ x. x.copies);
  lines = ∥∥₁_elim some le_prop (λ x. x.lines);
  job = ∥∥₁_elim some (Bool-set _ _) (λ x. x.job);
  busy = ∥∥₁_elim some (Bool-set _ _) (λ x. x.busy);
  text = text_is o.text (∥∥₁_map some (λ x. x.text));
  mark = ∥∥₁_elim some le_prop (λ x. x.mark);
}

-- THE QUEUE

pub sound_is : (Q : Queue) → ∥ IsSound Q ∥₁ → IsSound Q
sound_is Q some = record {
  config = config_is Q.config (∥∥₁_map some (λ s. s.config));
  few_jobs = ∥∥₁_elim some le_prop (λ s. s.few_jobs);
  few_outputs = ∥∥₁_elim some le_prop (λ s. s.few_outputs);
  each_group = ∥∥₁_elim some (Coded-set coded_ℕ _ _) (λ s. s.each_group);
  each_member = ∥∥₁_elim some (Coded-set coded_ℕ _ _) (λ s. s.each_member);
  few_routes = ∥∥₁_elim some le_prop (λ s. s.few_routes);
  each_line = ∥∥₁_elim some (Coded-set coded_ℕ _ _) (λ s. s.each_line);
  last = ∥∥₁_elim some le_prop (λ s. s.last);
  members = λ k d lt. setting_is (slice_index_or Q.members k d) (∥∥₁_map some (λ s. s.members k d lt));
  jobs = λ k d lt. job_is Q.config (slice_index_or Q.jobs k d) (∥∥₁_map some (λ s. s.jobs k d lt));
  decks = λ k d lt cards. ∥∥₁_elim some (Bool-set _ _) (λ s. s.decks k d lt cards);
  outputs = λ k d lt. output_is Q.config Q.jobs (slice_index_or Q.outputs k d) (∥∥₁_map some (λ s. s.outputs k d lt));
  groups = λ k d lt lines. ∥∥₁_elim some (Bool-set _ _) (λ s. s.groups k d lt lines);
  owners = λ k d lt. ∥∥₁_elim some (Bool-set _ _) (λ s. s.owners k d lt);
  numbers = distinct_is (λ a b. same_number a.number b.number) Q.jobs (∥∥₁_map some (λ s. s.numbers));
  keys = distinct_is same_key Q.outputs (∥∥₁_map some (λ s. s.keys));
  printers = distinct_is same_printer Q.outputs (∥∥₁_map some (λ s. s.printers));
  places = distinct_is same_place Q.owners (∥∥₁_map some (λ s. s.places));
  no_gaps = λ k d lt. ∥∥₁_elim some (Bool-set _ _) (λ s. s.no_gaps k d lt);
}
