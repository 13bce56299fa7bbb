use Rattle.std.proofs.Common.{◌≡◌, ◌<◌, ℕ, List, IfSome, length, refl, ap, ◌∙◌, sym, subst, arith, inl}
use Rattle.page_ids.specs.declared.frame_word.Word.{Word}
use Rattle.trail.specs.declared.event.Cause.TheVariants as cause
use Rattle.trail.specs.declared.event.Kind.TheVariants as kind
use Rattle.frame_words.specs.Appends.{FitsOpen}
use Rattle.frame_words.specs.Conditions.{AreFound}
use Rattle.frame_words.specs.Seen.{FramesSeen}
use Rattle.desk.specs.Steps.{IsAppended}
use Rattle.desk.specs.Moments.{moment}
use Rattle.desk.specs.Victims.{IsFull, AreSettled}
use Rattle.desk.proofs.Asking.{asked_ours}
use Rattle.desk.proofs.Claims.{history_of, may_append, published_tied, refused_tied, refused_behind}
use Rattle.desk.proofs.Coming.{follows_one}
use Rattle.desk.proofs.Finding.{all_are, full_is}
use Rattle.desk.proofs.Evicting.{refused_absent}
use Rattle.desk.proofs.Hands.{hands_refused}
use Rattle.desk.proofs.Moments.{keeps_entry, keeps_none, keeps_most, uses_none, uses_refused}
use Rattle.desk.proofs.PassedWords.{each_some, at_some}
use Rattle.desk.proofs.Values.{behind_frames}
use Rattle.desk.proofs.desk.Desk.refuse_full.Goals as goal

pub append-requires-clause-frames : goal.append-requires-clause-frames
append-requires-clause-frames g c = λ κs within.
    let tied = c.requires.rest.tied in
    let s = g.F.Frames.seen c.args.frames.now in
    let desk = c.args.self.now.state in
    let P = g.D.PageDisk in
    let k = kind.Refused c.args.call (cause.AllFixed c.of-seen.result) in
    let are = all_are desk.config desk.history s.rows s.found c.args.passed.items c.in_order-words.result.items c.requires.full.orderly c.requires.passed c.in_order-words.ensures.same c.in_order-words.ensures.rising in
    may_append P.seen s desk c.args.by k tt tied.history c.requires.asked.caller.turn tied.none_owed (published_tied P.seen s desk tied)
    (λ is. asked_ours (history_of desk) c.args.page c.args.call c.requires.for_page (c.requires.asked.caller.own is)) tt
    (each_some s.opened (λ o. FitsOpen o k) (λ o is. λ takes. at_some s.opened (λ x. length x < 64) o c.requires.asked.caller.few is))
    (subst (λ (l : List (ℕ × Word)). IfSome s.found (λ now. AreFound now l)) (sym c.of-seen.ensures) are.noted)

pub returns-clause-keeps : goal.returns-clause-keeps
returns-clause-keeps g c = λ l.
    let S = g.D.PageDisk.seen in
    let s = g.F.Frames.seen c.args.frames.now in
    let t = g.F.Frames.seen c.append.new.frames in
    let old = c.args.self.now.state in
    let new = c.append.new.self.state in
    let why = cause.AllFixed c.of-seen.result in
    let a = c.append.ensures in
    let rows = ap (λ (u : FramesSeen). u.rows) a.seen in
    let base = ap (λ (u : FramesSeen). u.base) a.seen in
    keeps_entry S old new s t l c.args.by (kind.Refused c.args.call why) a.appended a.disk tt (λ known. known)
    (record { tied = refused_tied S s t old new c.args.by c.args.call why c.requires.rest.tied a.appended a.disk a.seen; settled = subst AreSettled (sym rows) c.requires.rest.settled; hands = hands_refused old new c.args.by c.args.call why a.appended (inl c.requires.rest.hands) (inl c.requires.rest.hands) })
    (follows_one s t _ a.seen) (λ o based before. behind_frames S o new s t rows base (refused_behind S o s old new c.args.by c.args.call why a.appended a.disk before))

pub returns-clause-answers : goal.returns-clause-answers
returns-clause-answers g c = λ l.
    let S = g.D.PageDisk.seen in
    let s = g.F.Frames.seen c.args.frames.now in
    let t = g.F.Frames.seen c.append.new.frames in
    let old = c.args.self.now.state in
    let new = c.append.new.self.state in
    let why = cause.AllFixed c.of-seen.result in
    let a = c.append.ensures in
    let full = c.requires.full in
    let rows = ap (λ (u : FramesSeen). u.rows) a.seen in
    let words = c.in_order-words.result.items in
    let are = all_are old.config old.history s.rows s.found c.args.passed.items words full.orderly c.requires.passed c.in_order-words.ensures.same c.in_order-words.ensures.rising in
    let answer : c.of-seen-2.result ≡ words = c.of-seen-2.ensures ∙ c.in-Ok.ensures.items ∙ c.as_slice.ensures.value in
    record {
      sought = record {
        absent = refused_absent old new c.args.by c.args.page c.args.call why a.appended c.requires.asked.absent;
        page_told = ap (λ (d : g.row.D.Denot). (S d).told c.args.page) a.disk;
        free = λ some. refl;
        covered = inl refl;
        log = uses_refused (moment old s l) (moment new t l) c.args.by c.args.call why a.appended refl;
        as_long = refl;
        behind = λ o before. behind_frames S o new s t rows (ap (λ (u : FramesSeen). u.base) a.seen) (refused_behind S o s old new c.args.by c.args.call why a.appended a.disk before);
      };
      refused = (
        subst (λ (w : List (ℕ × Word)). IsFull old s.rows c.args.page w) (sym answer) (full_is old s.rows s.found c.args.page words full.orderly full.none_free full.full c.requires.asked.absent are),
        subst (λ (w : List (ℕ × Word)). IsAppended old new c.args.by (kind.Refused c.args.call (cause.AllFixed w))) (c.of-seen.ensures ∙ sym answer) a.appended,
        a.disk,
      );
      unmoved = rows;
      unforced = refl;
      hands = hands_refused old new c.args.by c.args.call why a.appended (inl c.requires.rest.hands) (inl c.requires.rest.hands);
    }

pub returns-in_default-clause-keeps : goal.returns-in_default-clause-keeps
returns-in_default-clause-keeps g c = λ l. keeps_most g.D.PageDisk.seen 0 1 _ _ (omega arith) (keeps_none g.D.PageDisk.seen (moment c.args.self.now.state (g.F.Frames.seen c.args.frames.now) l) c.requires.rest)

pub returns-in_default-clause-answers : goal.returns-in_default-clause-answers
returns-in_default-clause-answers g c = λ l. record {
  sought = record { absent = c.requires.asked.absent; page_told = refl; free = λ some. refl; covered = inl refl; log = uses_none _; as_long = refl; behind = λ o before. before };
  refused = refl;
  unmoved = refl;
  unforced = refl;
  hands = c.requires.rest.hands;
}
