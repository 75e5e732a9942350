use Rattle.member_tests.proofs.beside.is_beside_on_new.Goals as goal

pub invariant_of-complex : goal.invariant_of-complex
invariant_of-complex c =
    let x = c.is_beside_on.new.complex in record {
      kept = x.kept;
      replied = x.replied;
      paper = x.paper;
      ready = x.ready;
      lost = x.lost;
      one = x.one;
      place_reserved = x.place_reserved;
      place_current = x.place_current;
      place = x.place;
      settled = x.settled;
      begun = x.begun;
      owned = x.owned;
      few = x.few;
      short = x.short;
      short_reserved = x.short_reserved;
      counted = x.counted;
    }
