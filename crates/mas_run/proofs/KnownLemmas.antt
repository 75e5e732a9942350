-- What is known of a line by its admission, and of its member.
use Rattle.mas_run.proofs.Names.{arith, ◌≡◌, ◌⊎◌, inl, inr, Bool, true, false, if◌then◌else◌, Some, None, refl, sym, ◌∙◌, ap, subst, ⊎_elim, ◌+◌, ◌≤◌, length, Command, MemberId, nobody, is_somebody, is_member, job_seen_in, nothing_seen, refused_card, seen_after, LockNo, Book, is_holder, is_stopped, try_refusal, is_dormant, wakes, Ask, Admission, Frees, Locks, Plays, Refused, Replaces, Resets, TakesOver, admitted, resets, Denied, Unplayed, denied_closing, Dev, IsCkpt, Queue, AreMembersNamed, IsConfig, IsFit, members_most, IsPlayed, IsCopy, IsAsk, IsBy, IsGivable, MayBeAsked, AreFewUnits, IsSayer, is_of_member, line_by, Comes, CommandCame, DeckCame, FreeCame, HasGot, IsUp, LineCame, LockCame, NoMember, NotGranted, ReplaceCame, ResetCame, SaysNo, StillUp, TakeoverCame, WorkCame, comes, few_of, holder_is, inside_of, false_from_ne_true, played, Closing, admission_of, ◌≢◌, Reset}
use Rattle.run_opening.proofs.TypedLemmas.{reset_givable, typed_givable}
use Rattle.card_reader.specs.Statements.{cards_to_end, items_of}
use Rattle.card_reader.proofs.Fields.{fields_fit, least-ok}
use Rattle.card_reader.proofs.Refusals.{cards_fit}
use Rattle.member_lines.specs.declared.admissions.Admission.{Admission as Admitted}
use Rattle.member_lines.specs.declared.admissions.Admission.TheVariants as admits
use Rattle.lock_cycle.specs.declared.answers.LockNo.TheVariants as lock

-- THE LIMITS of a line of a member

pub few_by : (by : MemberId) (what : Ask) → is_of_member what ≡ true → IsBy by what → by.0 ≤ members_most
few_by by q1 is some = grind arith

pub few_asked : (what : Ask) → IsAsk what → AreFewUnits what
few_asked q0 is = grind arith

-- A COPY that a script may have replaced

copy_ckpt : (d : Dev) → IsCopy d → IsCkpt d
copy_ckpt q0 is = grind arith

-- BY ITS ADMISSION

module _ (Q : Queue) (config : IsConfig Q.config) (b : Book) (by : MemberId) where
  -- a member that is to be reset is one, and is stopped
  pub record IsDown (of : MemberId) : Type 0 where
    pub member : is_member Q.config of ≡ true
    pub down : is_stopped b of ≡ true
    pub givable : is_member Q.config by ≡ true → IsGivable Q by (Reset of)

  abbrev IsSaidBy : MemberId → Type 0
  IsSaidBy sayer = (sayer ≡ nobody) ⊎ ((sayer ≡ by) × IsUp Q.config b by)

  abbrev pub IsKnown : Admission → Type 0
  IsKnown (Refused sayer end) = IsSaidBy sayer × AreMembersNamed end
  IsKnown (Denied why) = IsUp Q.config b by × (try_refusal b by false ≡ Some why)
  IsKnown (Plays task) = IsUp Q.config b by × MayBeAsked Q by task × HasGot Q.config b by
  IsKnown (Resets of) = IsUp Q.config b by × IsDown of × HasGot Q.config b by
  IsKnown (TakesOver of) = IsUp Q.config b by × IsDown of × (is_holder b of ≡ true)
  IsKnown Locks = IsUp Q.config b by × HasGot Q.config b by
  IsKnown Frees = IsUp Q.config b by × (is_holder b by ≡ true)
  IsKnown (Replaces dev) = IsUp Q.config b by × IsCkpt dev × HasGot Q.config b by
  IsKnown Unplayed = ⊥

  -- a reset of a member that is stopped
  its_down : (c : Command) (of : MemberId) → resets c ≡ Some of → is_member Q.config of ≡ true → is_stopped b of ≡ true → IsFit c → IsDown of
  its_down c of is member down fit = record { member = member; down = down; givable = λ its. reset_givable Q by config its c of is fit }

  known_by : {what : Ask} {a : Admission} → Comes Q.config b by what a → is_of_member what ≡ true → IsPlayed (line_by by what) → IsKnown a
  known_by (NoMember end named) is played = (inl refl, named)
  known_by (SaysNo end up named) is played = (inr (refl, up), named)
  known_by (StillUp of up member) is played = (inr (refl, up), few_of Q.config of member config)
  known_by (NotGranted why up refused) is played = (up, refused)
  known_by (DeckCame cards fields got read) is played =
      let none = (least-ok (refused_card 1 (cards_to_end 0 cards + 1) cards) (job_seen_in (seen_after Q.config.node nothing_seen (items_of cards))) fields read).0 in
      (got.is_up, (fields_fit Q.config.node cards fields config.node read, cards_fit (cards_to_end 0 cards) (cards_to_end 0 cards + 1) cards none), got)
  known_by (CommandCame c got none) is played = (got.is_up, typed_givable Q by config got.is_up.member c played.fits.what played.built, got)
  known_by (ResetCame c of got so member down) is played = (got.is_up, its_down c of so member down played.fits.what, got)
  known_by (TakeoverCame c of up so member down holds) is played = (up, its_down c of so member down played.fits.what, holds)
  known_by (WorkCame n got) is played = (got.is_up, played.fits.what.1, got)
  known_by (LineCame n got) is played = (got.is_up, played.fits.what, got)
  known_by (LockCame got) is played = (got.is_up, got)
  known_by (FreeCame up holds) is played = (up, holds)
  known_by (ReplaceCame dev got) is played = (got.is_up, copy_ckpt dev played.fits.what, got)
  known_by _ is played = absurd (cc)

  pub known : (what : Ask) → is_of_member what ≡ true → IsPlayed (line_by by what) → IsKnown (admitted Q.config b by what)
  known what is played = known_by (comes Q.config b by what) is played

  -- whoever isn't refused is up
  pub acts_up : (said : Admitted) → ((sayer : MemberId) (end : Closing) → said ≢ admits.Refused sayer end) → IsKnown (admission_of said) → IsUp Q.config b by
  acts_up q0 acts is = grind arith

  -- the lock is held by a member that has its number
  pub busy_named : (why : LockNo) → try_refusal b by false ≡ Some why → b.holder.0 ≤ members_most → AreMembersNamed (denied_closing why)
  busy_named (lock.Busy m) is few = subst (λ (k : MemberId). k.0 ≤ members_most) (by_tests (is_stopped b by) (is_holder b by) (is_somebody b.holder) (is_dormant b by false) is) few where
    by_tests : (s h t d : Bool) → (if s then Some lock.Down else if h then None else if t then Some (lock.Busy b.holder) else if d then Some (lock.Dormant (wakes b by)) else None) ≡ Some (lock.Busy m) → b.holder ≡ m
    by_tests false false true d e = cc
    by_tests false false false true e = absurd (cc)
    by_tests _ _ _ _ e = absurd (cc)
  busy_named _ is few = tt

  -- who says the line of a refusal may
  pub sayer_of : length b.members ≡ Q.config.members → (sayer : MemberId) → IsSaidBy sayer → IsSayer b sayer by
  sayer_of booked sayer says = ⊎_elim inl (λ own. inr (own.0, inside_of Q.config by own.1.member b booked, own.1.up)) says

  -- a member that is up isn't the stopped one that holds the lock
  pub not_holder : (of : MemberId) → is_stopped b by ≡ false → is_stopped b of ≡ true → is_holder b of ≡ true → is_holder b by ≡ false
  not_holder of up down holds = false_from_ne_true (is_holder b by) (λ mine. absurd (let same = ap (λ (m : MemberId). is_stopped b m) (sym (holder_is b of holds) ∙ holder_is b by mine) in cc))
