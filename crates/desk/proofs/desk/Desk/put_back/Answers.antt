use Rattle.std.proofs.Common.{◌≡◌, ℕ, [], ◌∷◌, ap, ◌∙◌, sym, subst}
use Rattle.trail.specs.declared.event.Cause.{Cause}
use Rattle.trail.specs.declared.event.Entry.{Entry}
use Rattle.trail.specs.declared.event.Kind.TheVariants as kind
use Rattle.frame_words.specs.Conditions.{MayAppend}
use Rattle.frame_words.specs.Rows.{published_row}
use Rattle.frame_words.specs.Seen.{FramesSeen, row_at, with_row}
use Rattle.desk.specs.Answers.{IsRefusable}
use Rattle.desk.specs.Claimed.{cause_of}
use Rattle.desk.specs.Moments.{Follows}
use Rattle.desk.specs.Steps.{next_entry}
use Rattle.desk.specs.Tied.{AreTied}
use Rattle.desk.proofs.Asking.{may_refuse, no_words}
use Rattle.desk.proofs.Coming.{follows_on, follows_one, follows_row}
use Rattle.desk.proofs.Claims.{may_publish, tied_back, refused_tied}
use Rattle.desk.proofs.desk.Desk.put_back.Goals as goal

pub publish-requires : goal.publish-requires
publish-requires g c =
    let v = c.args.victim in
    let P = g.D.PageDisk in
    record { may = may_publish P.seen (g.F.Frames.seen c.args.frames.now) c.args.self.now.state v.page v.frame v.clock c.requires.but c.requires.clock.0 c.requires.clock.1 }

pub append-requires-clause-frames : goal.append-requires-clause-frames
append-requires-clause-frames g c = λ κs within.
    let v = c.args.victim in
    let P = g.D.PageDisk in
    let s = g.F.Frames.seen c.args.frames.now in
    let t = g.F.Frames.seen c.publish.new.self in
    let desk = c.args.self.now.state in
    let looks : t ≡ with_row s v.frame (published_row (row_at s v.frame) v.page (row_at s v.frame).clock) =
    c.publish.ensures.seen ∙ ap (λ (n : ℕ). with_row s v.frame (published_row (row_at s v.frame) v.page n)) c.requires.clock.0 in
    let tied = subst (λ (u : FramesSeen). AreTied P.seen u desk) (sym looks) (tied_back P.seen s desk v.page v.frame c.requires.but) in
    let asked = subst (λ (u : FramesSeen). IsRefusable u desk c.args.by c.args.page c.args.call (cause_of c.args.error)) (sym looks) (record {
      turn = c.requires.asked.turn;
      own = c.requires.asked.own;
      for_page = c.requires.asked.for_page;
      may = record { words = c.requires.asked.may.words; fits = c.requires.asked.may.fits };
    }) in
    let cause_is = c.causes_of-cause.ensures.0 in
    subst (λ (why : Cause). MayAppend t (next_entry desk c.args.by (kind.Refused c.args.call why))) (sym cause_is)
    (may_refuse P.seen t desk c.args.by c.args.page c.args.call (cause_of c.args.error) tied asked.turn asked.own asked.for_page asked.may.fits (no_words t c.args.call (cause_of c.args.error) asked.may.words))

pub returns-clause-tied : goal.returns-clause-tied
returns-clause-tied g c =
    let v = c.args.victim in
    let P = g.D.PageDisk in
    let s = g.F.Frames.seen c.args.frames.now in
    let desk = c.args.self.now.state in
    let looks : g.F.Frames.seen c.publish.new.self ≡ with_row s v.frame (published_row (row_at s v.frame) v.page (row_at s v.frame).clock) =
    c.publish.ensures.seen ∙ ap (λ (n : ℕ). with_row s v.frame (published_row (row_at s v.frame) v.page n)) c.requires.clock.0 in
    let tied = subst (λ (u : FramesSeen). AreTied P.seen u desk) (sym looks) (tied_back P.seen s desk v.page v.frame c.requires.but) in
    refused_tied P.seen (g.F.Frames.seen c.publish.new.self) (g.F.Frames.seen c.append.new.frames) desk c.append.new.self.state c.args.by c.args.call _
    tied c.append.ensures.appended c.append.ensures.disk c.append.ensures.seen

pub returns-clause-view : goal.returns-clause-view
returns-clause-view g c =
    let desk = c.args.self.now.state in
    let s = g.F.Frames.seen c.args.frames.now in
    let t = g.F.Frames.seen c.publish.new.self in
    let u = g.F.Frames.seen c.append.new.frames in
    let e : Cause → Entry = λ why. next_entry desk c.args.by (kind.Refused c.args.call why) in
    subst (λ (why : Cause). Follows (e why ∷ []) s u) c.causes_of-cause.ensures.0
    (follows_on [] (_ ∷ []) s t u (follows_row s t c.args.victim.frame _ c.publish.ensures.seen) (follows_one t u _ c.append.ensures.seen))
