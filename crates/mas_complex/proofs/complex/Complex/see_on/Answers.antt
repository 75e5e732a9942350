use Rattle.mas_complex.proofs.Answering.{◌∙◌, ap, sym, arith, ∥∥₁_elim, page_count, pick, copies_of, laws_of, place_of, unused_there, pair_then, Stands, entries_in, kept_all, never_unused, one_many, past_of, setting_of, ◌++◌, ◌+◌, IsUsed, Unread, disk_now, side_reads, image_now}
use Rattle.mas_complex.proofs.complex.Complex.see_on.Goals as goal

-- PAGES, as many as the configuration has

pub returns-in-Pages-clause-seen : goal.returns-in-Pages-clause-seen
returns-in-Pages-clause-seen g c =
    let s = c.look_on.new.self in
    let look = rw c.in-Pages.is at c.usable.ensures.used in
    let seen = rw look.0 at c.in_ok-look.ensures.seen in
    let count = g.met.C.Copying.ready_count (pick c.args.dev s.pair.first s.pair.second).copy (g.P.Plant.view s.plant) seen.is_ready in
    record {
      is_alive = seen.is_alive;
      as_many = sym seen.as_many;
      few = count.1;
      some = omega (arith, count.0);
      at = rw look.0 at c.in_ok-look.ensures.place;
      next = λ told. rw look.0 at (c.in_ok-look.ensures.next told);
    }

-- ONE THAT CAN'T BE READ, or has another number of pages

-- over a plant that tells a copy that counts as alive is read, and has as many as the configuration
pub returns-in-Unread-clause-unseen : goal.returns-in-Unread-clause-unseen
returns-in-Unread-clause-unseen g c told none alive =
    let s = c.look_on.new.self in
    let C = g.C.Copying in
    let dev = c.args.dev in
    let h = pick dev s.pair.first s.pair.second in
    let was = pick dev c.args.self.now.pair.first c.args.self.now.pair.second in
    let v = g.P.Plant.view s.plant in
    let base = ap (λ p. p.base) c.look_on.ensures.frame in
    let not : IsUsed c.pages_of-count.result c.in_ok-look.look Unread = rw c.in-Unread.is at c.usable.ensures.used in
    let many = c.pages_of-count.ensures ∙ ap (λ q. page_count q.config) (sym base) in
    let there = unused_there C.count C.room C.room_most C.ready C.reads C.rests g.P.Plant.tells dev v was.copy h.copy h.alive c.pages_of-count.result c.in_ok-look.look not c.in_ok-look.ensures.seen in
    absurd (∥∥₁_elim (s.kept told) (λ a b. absurd a) (λ k. never_unused C.count C.room C.room_most C.ready C.reads C.rests g.P.Plant.tells dev v was.copy h.copy h.alive c.pages_of-count.result (λ pages d r. g.met.C.Copying.rests_now h.copy pages d r) told c.in_ok-look.look not c.usable.ensures.sized c.in_ok-look.ensures.seen k.pages.was k.pages.coming
    (side_reads (setting_of s) k.pages.was (copies_of s dev) ((laws_of g.world g.met.P.Plant g.met.C.Steady g.met.C.Copying).reads h (place_of s dev)) k.pages.coming (place_of s dev) (disk_now v dev) ((k.at dev c.requires.ckpt).at there.0) (disk_now v dev).bytes (image_now (disk_now v dev) (g.met.P.Plant.there s.plant told dev there.1)))
    (λ pages sized one. one_many s.base (kept_all (past_of s)) (entries_in s.current) k.pages.was k.pages.coming (Stands (setting_of s) (s.level + 1) (kept_all (past_of s) ++ entries_in s.current)) k.pages.stands.queue k.pages.comes (λ l q. q.queue) pages sized one ∙ sym many)))

pub returns-in-Unread-clause-leaves : goal.returns-in-Unread-clause-leaves
returns-in-Unread-clause-leaves g c =
    let P = g.P.Plant in
    let s = c.args.self.now in
    let a = c.look_on.new.self in
    let C = g.C.Copying in
    let dev = c.args.dev in
    let there = unused_there C.count C.room C.room_most C.ready C.reads C.rests P.tells dev (P.view a.plant) (pick dev s.pair.first s.pair.second).copy (pick dev a.pair.first a.pair.second).copy (pick dev a.pair.first a.pair.second).alive
    c.pages_of-count.result c.in_ok-look.look (rw c.in-Unread.is at c.usable.ensures.used) c.in_ok-look.ensures.seen in
    pair_then c.in_ok-look.ensures.leaves (c.lose_copy.ensures.leaves there.0 c.args.by.0)
