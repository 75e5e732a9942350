-- A line of a script that may stand in a race, within the limits: what becomes of it, whatever the book says.
use Rattle.std.proofs.Common.{◌≡◌, ◌+◌, ◌≤◌, ℕ, Bool, true, false, if◌then◌else◌, List, [], ◌∷◌, length, All, Some, inl, inr, refl, arith}
use Rattle.std.proofs.lemmas.List.Elements.{All-cons, All-head, All-nil, All-tail}
use Rattle.mas_types.specs.declared.commands.Command.{Command}
use Rattle.mas_types.specs.declared.ids.MemberId.{MemberId}
use Rattle.mas_types.specs.declared.queues.Queue.{Queue}
use Rattle.mas_types.specs.Fit.{IsConfig, IsFit}
use Rattle.mas_types.specs.Ids.{same_member}
use Rattle.mas_types.specs.Limits.{steps_most}
use Rattle.mas_types.specs.Queue.{is_member}
use Rattle.card_reader.specs.Decks.{job_seen_in, nothing_seen, refused_card, seen_after}
use Rattle.card_reader.specs.Statements.{cards_to_end, items_of}
use Rattle.card_reader.proofs.Fields.{fields_fit, least-ok}
use Rattle.card_reader.proofs.Refusals.{cards_fit}
use Rattle.lock_cycle.specs.Books.{Book, is_stopped}
use Rattle.script_input.specs.Played.{IsPlayed, MayBeRaced, may_ask}
use Rattle.script_lang.specs.declared.types.Ask.{Ask}
use Rattle.script_lang.specs.declared.types.Ask.TheVariants as ask
use Rattle.script_lang.specs.declared.types.Step.{Step}
use Rattle.script_laws.specs.Grammar.{MayRace}
use Rattle.script_laws.specs.Limits.{IsAsk}
use Rattle.step_turns.specs.declared.states.Task.TheVariants.{Deck, Work}
use Rattle.run_turns.specs.Admissions.{Admission, resets}
use Rattle.race_turns.specs.Races.{Asked, if_asked, is_raced, lines_of}
use Rattle.run_opening.proofs.TypedLemmas.{reset_givable, typed_givable}
use Rattle.member_racing.specs.Asked.{IsAsked, IsDown, IsKnown, IsRaced}
use Rattle.run_turns.proofs.Comes.{ArmCame, Comes, CommandCame, DeckCame, FreeCame, LineCame, LockCame, LossCame, NoMember, NotGranted, ReplaceCame, ResetCame, SaysNo, StillUp, StopCame, TakeoverCame, WorkCame, comes, few_of}
use Rattle.race_run.specs.Racing.{AreAsked, plays}

module _ (Q : Queue) (by : MemberId) (config : IsConfig Q.config) (member : is_member Q.config by ≡ true) where
  -- BY ITS ADMISSION

  module _ (b : Book) where
    down_of : (c : Command) (of : MemberId) → resets c ≡ Some of → is_member Q.config of ≡ true → is_stopped b of ≡ true → IsFit c → IsDown Q b by of
    down_of c of so some down fit = record { member = some; down = down; few = few_of Q.config of some config; givable = reset_givable Q by config member c of so fit }

    known_by : {what : Ask} {a : Admission} → Comes Q.config b by what a → IsAsk what → may_ask what ≡ true → MayRace what → is_raced what ≡ true → IsKnown Q b by a
    known_by (NoMember end named) fits may race raced = (inl refl, named)
    known_by (SaysNo end up named) fits may race raced = (inr (refl, up), named)
    known_by (StillUp of up some) fits may race raced = (inr (refl, up), few_of Q.config of some config)
    known_by (NotGranted why up is) fits may race raced = (up, is)
    known_by (DeckCame cards fields got read) fits may race raced =
        let none = (least-ok (refused_card 1 (cards_to_end 0 cards + 1) cards) (job_seen_in (seen_after Q.config.node nothing_seen (items_of cards))) fields read).0 in
        (got.is_up, got.none, (fields_fit Q.config.node cards fields config.node read, cards_fit (cards_to_end 0 cards) (cards_to_end 0 cards + 1) cards none), refl, refl)
    known_by (CommandCame c got none) fits may race raced = (got.is_up, got.none, typed_givable Q by config member c fits may, refl, none)
    known_by (ResetCame c of got so some down) fits may race raced = (got.is_up, got.none, down_of c of so some down fits)
    known_by (TakeoverCame c of up so some down holds) fits may race raced = (up, holds, down_of c of so some down fits)
    known_by (WorkCame n got) fits may race raced = (got.is_up, got.none, fits.1, refl, refl)
    known_by (LineCame n got) fits may race raced = absurd race
    known_by (LockCame got) fits may race raced = absurd race
    known_by (FreeCame up holds) fits may race raced = absurd race
    known_by (ReplaceCame dev got) fits may race raced = absurd race
    known_by StopCame fits may race raced = absurd race
    known_by (ArmCame fuse n) fits may race raced = absurd (cc)
    known_by (LossCame dev) fits may race raced = absurd race

  raced_so : (what : Ask) → IsAsk what → MayRace what → is_raced what ≡ true → IsRaced what
  raced_so (ask.Deck cards) fits race raced = tt
  raced_so (ask.Command c) fits race raced = tt
  raced_so (ask.Work n) fits race raced = fits.1
  raced_so ask.Lock fits race raced = race
  raced_so ask.Free fits race raced = race
  raced_so (ask.Line n) fits race raced = race
  raced_so (ask.Replace dev) fits race raced = race
  raced_so ask.Stop fits race raced = race
  raced_so (ask.StopIn fuse n) fits race raced = absurd (cc)
  raced_so (ask.Lose dev) fits race raced = race

  pub asked_so : (s : Step) → IsPlayed s → MayBeRaced s → is_raced s.what ≡ true → IsAsked Q by s.what
  asked_so s played may raced = record {
    raced = raced_so s.what played.fits.what may raced;
    known = λ b. known_by b (comes Q.config b by s.what) played.fits.what played.built may raced;
  }

  -- THE LINES of the member

  one_of : (b : Bool) (a : Asked) (more : List Asked) → (b ≡ true → IsAsked Q by a.what × (1 ≤ a.number) × (a.number ≤ steps_most)) → AreAsked Q by more → AreAsked Q by (if_asked b a more)
  one_of true a more own rest = All-cons (λ (x : Asked). IsAsked Q by x.what × (1 ≤ x.number) × (x.number ≤ steps_most)) a more (own refl) rest
  one_of false a more own rest = rest

  raced_of : (b : Bool) (s : Step) → (if b then is_raced s.what else false) ≡ true → is_raced s.what ≡ true
  raced_of true s is = is
  raced_of false s is = absurd (cc)

  pub are_asked : (at : ℕ) (steps : List Step) → 1 ≤ at → at + length steps ≤ steps_most + 1 → All IsPlayed steps → All MayBeRaced steps → AreAsked Q by (lines_of by at steps)
  are_asked at [] some few played raced = All-nil (λ (x : Asked). IsAsked Q by x.what × (1 ≤ x.number) × (x.number ≤ steps_most))
  are_asked at (s ∷ steps) some few played raced =
      one_of (plays by s) (record { number = at; what = s.what }) (lines_of by (at + 1) steps)
      (λ own. (asked_so s (All-head IsPlayed s steps played) (All-head MayBeRaced s steps raced) (raced_of (same_member s.by by) s own), some, omega (arith, few)))
      (are_asked (at + 1) steps (omega (arith, some)) (omega (arith, few)) (All-tail IsPlayed s steps played) (All-tail MayBeRaced s steps raced))
