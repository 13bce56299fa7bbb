use Rattle.std.proofs.Common.{◌≡◌, ◌+◌, ℕ, [], ◌∷◌, IfSome, set, refl, subst, sym, ap, ◌∙◌}
use Rattle.page_ids.specs.Size.{page_bytes}
use Rattle.trail.specs.Trails.{mark}
use Rattle.trail.specs.declared.event.Kind.TheVariants as kind
use Rattle.frame_words.specs.Rows.{laid_row}
use Rattle.frame_words.specs.Seen.{FramesSeen, row_at}
use Rattle.desk.specs.Behind.{IsBehind}
use Rattle.desk.specs.Creating.{blank_at, made_row}
use Rattle.desk.specs.Moments.{Follows}
use Rattle.desk.specs.Steps.{IsAppended, next_entry}
use Rattle.desk.proofs.Coming.{follows_on, follows_row}
use Rattle.desk.proofs.Hands.{hands_used}
use Rattle.desk.proofs.Loading.{behind_laid, behind_on}
use Rattle.desk.proofs.Making.{finished, finished_is, made_rows, settled_made, fix_with, behind_made, tied_made}
use Rattle.desk.proofs.Moments.{keeps_entry}
use Rattle.desk.proofs.Tying.{below_rows, tied_on}
use Rattle.desk.proofs.desk.Desk.make.Goals as goal

pub show_made-place-requires-clause-asked : goal.show_made-place-requires-clause-asked
show_made-place-requires-clause-asked g c = λ κs within.
    let asked = c.requires.asked in
    let old = c.args.self.now.state in
    let f = c.args.frame in
    let s = g.F.Frames.seen c.args.frames.now in
    let blank = blank_at (page_bytes old.config.page) c.args.span.end in
    record {
      caller = fix_with s (g.F.Frames.seen c.lay_blank.new.frames) old c.args.by c.args.page f (laid_row (row_at s f) blank) c.lay_blank.ensures.seen asked.caller;
      absent = asked.absent;
      inside = asked.inside;
      clean = asked.clean;
    }

pub returns-clause-made : goal.returns-clause-made
returns-clause-made g c =
    let P = g.D.PageDisk in
    let old = c.args.self.now.state in
    let new = c.show_made-place.new.self.state in
    let f = c.args.frame in
    let p = c.args.page in
    let s = g.F.Frames.seen c.args.frames.now in
    let m = g.F.Frames.seen c.lay_blank.new.frames in
    let u = g.F.Frames.seen c.visit.new.self in
    let next = c.requires.next in
    let inside = below_rows P.seen s old f c.requires.rest.tied next.below in
    let inside_m = below_rows P.seen m old f c.lay_blank.ensures.tied next.below in
    let end = c.requires.span.end in
    let place = c.show_made-place.result in
    let seen = finished_is m (g.F.Frames.seen c.show_made-place.new.frames) u old.config.first old.history c.args.by p f c.args.span.start c.args.span.end c.args.now place c.visit.result inside_m
    c.show_made-place.ensures.seen c.visit.ensures.seen in
    record {
      absent = c.requires.asked.absent;
      below = next.below;
      fresh = next.vacant;
      frame = next.front;
      place = c.show_made-place.ensures.place;
      clock = refl;
      entry = subst (λ (n : ℕ). IsAppended old new c.args.by (kind.Create p f c.args.span.start n c.args.now)) end c.show_made-place.ensures.appends.entry;
      disk = c.show_made-place.ensures.appends.disk;
      rows_are = ap (λ (x : FramesSeen). x.rows) seen
          ∙ made_rows s m f p place (blank_at (page_bytes old.config.page) c.args.span.end) inside c.lay_blank.ensures.seen
          ∙ ap (λ (n : ℕ). set s.rows f (made_row (row_at s f) p (blank_at (page_bytes old.config.page) n) place)) end;
    }

pub returns-clause-keeps : goal.returns-clause-keeps
returns-clause-keeps g c = λ l holds within.
    let P = g.D.PageDisk in
    let old = c.args.self.now.state in
    let new = c.show_made-place.new.self.state in
    let f = c.args.frame in
    let p = c.args.page in
    let by = c.args.by in
    let start = c.args.span.start in
    let end = c.args.span.end in
    let now = c.args.now in
    let s = g.F.Frames.seen c.args.frames.now in
    let m = g.F.Frames.seen c.lay_blank.new.frames in
    let u = g.F.Frames.seen c.visit.new.self in
    let rest = c.requires.rest in
    let next = c.requires.next in
    let w = c.visit.result in
    let shown = c.show_made-place.ensures in
    let laid = c.lay_blank.ensures in
    let row = laid_row (row_at s f) (blank_at (page_bytes old.config.page) end) in
    let may = fix_with s m old by p f row laid.seen c.requires.asked.caller in
    let inside = below_rows P.seen m old f laid.tied next.below in
    let inside_s = below_rows P.seen s old f rest.tied next.below in
    let create = kind.Create p f start end now in
    let seen : u ≡ finished m (next_entry old by create) f p (mark old.config.first old.history + 1) w =
    finished_is m (g.F.Frames.seen c.show_made-place.new.frames) u old.config.first old.history by p f start end now c.show_made-place.result w inside shown.seen c.visit.ensures.seen
    ∙ ap (λ (n : ℕ). finished m (next_entry old by create) f p n w) shown.place in
    keeps_entry P.seen old new s u l by create shown.appends.entry shown.appends.disk holds (λ before. within)
    (record {
      tied = tied_on P.seen old new by create u _ shown.appends.entry shown.appends.disk seen
          (tied_made P.seen old.config old.instance old.history old.disk m by p f start end now w next.below next.vacant c.requires.asked.absent may.own laid.image laid.tied);
      settled = settled_made s.rows u.rows f p (blank_at (page_bytes old.config.page) (start + 21)) c.show_made-place.result inside_s (rest.tied.rows f inside_s).unlatched
          (returns-clause-made g c).rows_are rest.settled;
      hands = hands_used old new by create f shown.appends.entry (λ b. refl) next.front rest.hand;
    })
    (follows_on [] (next_entry old by create ∷ []) s m u (follows_row s m f row laid.seen) (subst (Follows (next_entry old by create ∷ []) m) (sym seen) (record { turn = refl; opened = refl; history = refl; base = refl })))
    (λ o based before.
    let still = subst (λ (x : FramesSeen). IsBehind P.seen o old x) (sym laid.seen) (behind_laid P.seen o old s f row next.vacant before) in
    let first = subst (λ (x : FramesSeen). IfSome x.base (λ base. base ≡ o.base)) (sym laid.seen) based in
    behind_on P.seen o old new by create u _ shown.appends.entry shown.appends.disk seen
    (behind_made P.seen o old.config old.instance old.history old.disk m by p f start end now w inside next.vacant laid.image (λ none. (laid.tied.shared f inside none).1) first still))
