use Rattle.std.proofs.Common.{◌≡◌, ◌∷◌, ℕ, true, false, List, [], ap, ◌∙◌, sym, subst, arith, rules, inr}
use Rattle.trail.specs.declared.event.Entry.{Entry}
use Rattle.trail.specs.declared.event.Kind.TheVariants as kind
use Rattle.trail.specs.Dirt.{is_dirty, log_end}
use Rattle.frame_words.specs.Appends.{FitsOpen, appended}
use Rattle.frame_words.specs.Conditions.{MayAppend, AreFound}
use Rattle.frame_words.specs.Seen.{FramesSeen}
use Rattle.desk.specs.Behind.{IsBehind}
use Rattle.desk.specs.Claimed.{AreTiedBut}
use Rattle.desk.specs.Logged.{IsLogged, AreUpTo}
use Rattle.desk.specs.State.{State}
use Rattle.desk.specs.Steps.{next_entry}
use Rattle.desk.specs.Victims.{LeavesTurn}
use Rattle.desk.proofs.Changing.{grown_mid}
use Rattle.desk.proofs.Claims.{mapped_same, may_append, published_but, wrote_but, wrote_behind, unwritten_but, unwritten_behind, on_disk, written_clean}
use Rattle.desk.proofs.Evicting.{leaves_more}
use Rattle.desk.proofs.Flushing.{leaves_written}
use Rattle.desk.proofs.Logging.{logged_later, upto_none, upto_more}
use Rattle.desk.proofs.PassedWords.{each_some}
use Rattle.desk.proofs.desk.Desk.clean_first.Goals as goal

pub append-requires-clause-frames : goal.append-requires-clause-frames
append-requires-clause-frames g c = λ κs within.
    let but = c.requires.but in
    let v = c.args.victim in
    let s = g.F.Frames.seen c.args.frames.now in
    let desk = c.args.self.now.state in
    let mid = c.write_claimed.new.self.state in
    let P = g.D.PageDisk in
    let k = kind.Write v.page c.in-Ok.lsn c.in-Ok.upto in
    let kept : mid ≡ on_disk desk mid.disk = ap (λ x. x.state) c.in-Ok.ensures.kept in
    subst (λ (u : FramesSeen). MayAppend u (next_entry mid c.args.by k)) (sym c.in-Ok.ensures.seen)
    (subst (λ (m : State g.row.D.Denot). MayAppend s (next_entry m c.args.by k)) (sym kept)
    (may_append P.seen s (on_disk desk mid.disk) c.args.by k tt but.history c.requires.turn but.none_owed
    (published_but P.seen s desk v.page v.frame but) (λ is. (but.own is v.page v.frame but.housed, tt)) tt
    (each_some s.opened (λ o. FitsOpen o k) (λ o is. tt)) (each_some s.found (λ found. AreFound found []) (λ found is. tt))))

pub returns-in-Ok-clause-answers : goal.returns-in-Ok-clause-answers
returns-in-Ok-clause-answers g c =
    let v = c.args.victim in
    let old = c.args.self.now.state in
    let mid = c.write_claimed.new.self.state in
    let new = c.append.new.self.state in
    let e = next_entry mid c.args.by (kind.Write v.page c.in-Ok.lsn c.in-Ok.upto) in
    let kept : mid ≡ on_disk old mid.disk = ap (λ x. x.state) c.in-Ok.ensures.kept in
    let wrote = c.in-Ok.ensures.answers in
    record {
      cleaned = inr (record {
        dirt = wrote.dirt;
        upto = c.in-Ok.upto;
        was_dirty = wrote.was_dirty;
        covered = wrote.covered;
        entry = grown_mid old mid new mid.disk c.args.by (kind.Write v.page c.in-Ok.lsn c.in-Ok.upto) kept c.append.ensures.appended
            ∙ ap (λ (n : ℕ). next_entry old c.args.by (kind.Write v.page n c.in-Ok.upto) ∷ old.history) wrote.lsn_is;
      });
      clean = ap (λ (h : List Entry). is_dirty h v.page) c.append.ensures.appended.history ∙ written_clean mid.history v.page e.place e.caller e.number c.in-Ok.lsn c.in-Ok.upto;
    }

pub returns-in-Ok-clause-left : goal.returns-in-Ok-clause-left
returns-in-Ok-clause-left g c =
    let laws = g.met.D.PageDisk g.world.𝓛 g.world.𝓜 g.world.𝓡 ((λ s x. x), (λ x. x), (λ x. x), λ x. x) in
    let but = c.requires.but in
    let v = c.args.victim in
    let P = g.D.PageDisk in
    let s = g.F.Frames.seen c.args.frames.now in
    let t = g.F.Frames.seen c.append.new.frames in
    let old = c.args.self.now.state in
    let mid = c.write_claimed.new.self.state in
    let new = c.append.new.self.state in
    let a = c.append.ensures in
    let others = c.in-Ok.ensures.others in
    let kept : mid ≡ on_disk old mid.disk = ap (λ x. x.state) c.in-Ok.ensures.kept in
    let told = c.in-Ok.ensures.answers.told but.content but.image in
    let looks : t ≡ appended s (next_entry mid c.args.by (kind.Write v.page c.in-Ok.lsn c.in-Ok.upto)) =
    a.seen ∙ ap (λ (u : FramesSeen). appended u (next_entry mid c.args.by (kind.Write v.page c.in-Ok.lsn c.in-Ok.upto))) c.in-Ok.ensures.seen in
    let soiled : is_dirty old.history v.page ≡ true = ap (λ x. is_dirty x.state.history v.page) (sym c.self.view_is) ∙ sym c.is_dirty-soiled.ensures ∙ c.if-not-soiled.false in
    let turn : LeavesTurn s t = search rules in
    record {
      but = wrote_but P.seen s t old mid new c.args.by v.page v.frame c.in-Ok.lsn c.in-Ok.upto told.bytes but kept told.page others told.tells_it (λ silent. laws.silent mid.disk v.page silent) a.appended a.disk looks;
      rows = ap (λ (u : FramesSeen). u.rows) looks;
      found = ap (λ (u : FramesSeen). u.found) looks ∙ mapped_same s.found;
      turn = turn;
      desk = leaves_more P.seen old mid new (leaves_written P.seen old mid v.page kept others) a.appended.config a.appended.instance a.disk;
      unused = λ clean. let bad : true ≡ false = sym soiled ∙ clean in absurd (cc);
      others = λ q other. ap (λ (d : g.row.D.Denot). (P.seen d).told q) a.disk ∙ others.bytes q other;
      behind = λ o before. wrote_behind P.seen o s t old mid new c.args.by v.page v.frame c.in-Ok.lsn c.in-Ok.upto told.bytes but kept told.page others told.tells_it (λ silent. laws.silent mid.disk v.page silent) a.appended a.disk looks before;
    }

pub returns-in-Err-clause-answers : goal.returns-in-Err-clause-answers
returns-in-Err-clause-answers g c =
    let v = c.args.victim in
    let P = g.D.PageDisk in
    let old = c.args.self.now.state in
    let mid = c.write_claimed.new.self.state in
    let failed = c.in-Err.ensures.answers in
    let kept : mid ≡ on_disk old mid.disk = ap (λ x. x.state) c.in-Err.ensures.kept in
    let soiled : is_dirty old.history v.page ≡ true = ap (λ x. is_dirty x.state.history v.page) (sym c.self.view_is) ∙ sym c.is_dirty-soiled.ensures ∙ c.if-not-soiled.false in
    record {
      failed = c.in-Err.ensures.kept;
      soiled = soiled;
      fault = failed.fault;
      forced = failed.forced;
      stands = λ o s before. unwritten_behind P.seen o s old mid v.page soiled kept c.in-Err.ensures.others failed.fades before;
    }

pub returns-in-Err-clause-left : goal.returns-in-Err-clause-left
returns-in-Err-clause-left g c =
    let v = c.args.victim in
    let P = g.D.PageDisk in
    let s = g.F.Frames.seen c.args.frames.now in
    let old = c.args.self.now.state in
    let mid = c.write_claimed.new.self.state in
    let others = c.in-Err.ensures.others in
    let fades = c.in-Err.ensures.answers.fades in
    let kept : mid ≡ on_disk old mid.disk = ap (λ x. x.state) c.in-Err.ensures.kept in
    let soiled : is_dirty old.history v.page ≡ true = ap (λ x. is_dirty x.state.history v.page) (sym c.self.view_is) ∙ sym c.is_dirty-soiled.ensures ∙ c.if-not-soiled.false in
    let same = c.in-Err.ensures.seen in
    let turn : LeavesTurn s (g.F.Frames.seen c.write_claimed.new.frames) = search rules in
    record {
      but = subst (λ (u : FramesSeen). AreTiedBut P.seen u mid v.page v.frame) (sym same) (unwritten_but P.seen s old mid v.page v.frame soiled kept others fades c.requires.but);
      rows = ap (λ (u : FramesSeen). u.rows) same;
      found = ap (λ (u : FramesSeen). u.found) same;
      turn = turn;
      desk = leaves_written P.seen old mid v.page kept others;
      unused = λ clean. let bad : true ≡ false = sym soiled ∙ clean in absurd (cc);
      others = λ q other. others.bytes q other;
      behind = λ o before. subst (λ (u : FramesSeen). IsBehind P.seen o mid u) (sym same) (unwritten_behind P.seen o s old mid v.page soiled kept others fades before);
    }

pub returns-in-Ok-clause-log : goal.returns-in-Ok-clause-log
returns-in-Ok-clause-log g c =
    let log = c.in-Ok.ensures.log in
    let old = c.args.self.now.state.history in
    let mid = c.write_claimed.new.self.state in
    let was = c.args.redo.now.seen in
    let is = c.write_claimed.new.redo.seen in
    let a = c.append.ensures.appended in
    let upto = c.in-Ok.ensures.answers.upto_is in
    let same : mid.history ≡ old = ap (λ x. x.state.history) c.in-Ok.ensures.kept in
    let later = logged_later was is old log.later in
    record {
      later = log.later;
      opening = log.opening;
      kept = λ before. log.kept;
      logged = λ before. subst (λ (h : List Entry). IsLogged is h) (sym a.history) (omega (arith, upto), subst (λ (h : List Entry). IsLogged is h) (sym same) (later before));
      known = λ known. let end = log.end in let last = ap log_end a.history in let first = ap log_end same in omega (arith, known, end, last, first);
      upto = upto_more is.durable old mid.history c.append.new.self.state.history (next_entry mid c.args.by (kind.Write c.args.victim.page c.in-Ok.lsn c.in-Ok.upto)) upto a.history
          (subst (λ (h : List Entry). AreUpTo is.durable old h) (sym same) (upto_none is.durable old));
      end = log.end;
      mark = log.mark;
    }

pub returns-in-Err-clause-log : goal.returns-in-Err-clause-log
returns-in-Err-clause-log g c =
    let log = c.in-Err.ensures.log in
    let old = c.args.self.now.state.history in
    let was = c.args.redo.now.seen in
    let is = c.write_claimed.new.redo.seen in
    let same : c.write_claimed.new.self.state.history ≡ old = ap (λ x. x.state.history) c.in-Err.ensures.kept in
    let later = logged_later was is old log.later in
    record {
      later = log.later;
      opening = log.opening;
      kept = λ before. log.kept;
      logged = λ before. subst (λ (h : List Entry). IsLogged is h) (sym same) (later before);
      known = λ known. let end = log.end in let first = ap log_end same in omega (arith, known, end, first);
      upto = subst (λ (h : List Entry). AreUpTo is.durable old h) (sym same) (upto_none is.durable old);
      end = log.end;
      mark = log.mark;
    }
