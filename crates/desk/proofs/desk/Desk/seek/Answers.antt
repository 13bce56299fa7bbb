use Rattle.std.proofs.Common.{◌≡◌, ◌++◌, ℕ, true, false, List, [], ap, sym, subst}
use Rattle.page_ids.specs.declared.frame_word.Word.{Word}
use Rattle.page_ids.specs.declared.ids.PageId.{PageId}
use Rattle.trail.specs.Victim.{walk}
use Rattle.frame_words.specs.Rows.{Row}
use Rattle.frame_words.specs.Seen.{FramesSeen}
use Rattle.instance_lists.specs.Walk.{part_of}
use Rattle.desk.specs.Claimed.{HasLooked, IsTaken, ArePassedBy, StopsAt}
use Rattle.desk.proofs.Claims.{tied_looked}
use Rattle.desk.proofs.PassedWords.{at_some, at_none, ok_none_map, ok_some_map, looked_map, looked_on, passed_none}
use Rattle.desk.proofs.Seeking.{taken_on, stops_append}
use Rattle.desk.proofs.desk.Desk.seek.Goals as goal

pub pass-requires-in-Ok-None-clause-tied : goal.pass-requires-in-Ok-None-clause-tied
pass-requires-in-Ok-None-clause-tied g c = λ κs within.
    let P = g.D.PageDisk in
    tied_looked P.seen (g.F.Frames.seen c.args.frames.now) (g.F.Frames.seen c.pass.new.frames) c.args.self.now.state
    (at_none c.in-Ok-None.field-0 _ c.in-Ok-None.ensures.looked c.in-Ok-None.field-0-is) c.requires.tied

pub returns-in-Ok-None-clause-looked : goal.returns-in-Ok-None-clause-looked
returns-in-Ok-None-clause-looked g c =
    let s = g.F.Frames.seen c.args.frames.now in
    let t = g.F.Frames.seen c.pass.new.frames in
    let u = g.F.Frames.seen c.pass-in-Ok-None.new.frames in
    let looked = at_none c.in-Ok-None.field-0 _ c.in-Ok-None.ensures.looked c.in-Ok-None.field-0-is in
    looked_map c.pass-in-Ok-None.result (HasLooked t u) (HasLooked s u) (looked_on s t u looked) c.pass-in-Ok-None.ensures.looked

pub returns-in-Ok-None-clause-passed : goal.returns-in-Ok-None-clause-passed
returns-in-Ok-None-clause-passed g c =
    let s = g.F.Frames.seen c.args.frames.now in
    let t = g.F.Frames.seen c.pass.new.frames in
    let u = g.F.Frames.seen c.pass-in-Ok-None.new.frames in
    let h = c.args.self.now.state.history in
    let config = c.args.self.now.state.config in
    let first = c.pass.new.passed.items in
    let last = c.pass-in-Ok-None.new.passed.items in
    let looked = at_none c.in-Ok-None.field-0 _ c.in-Ok-None.ensures.looked c.in-Ok-None.field-0-is in
    let rows : t.rows ≡ s.rows = ap (λ (x : FramesSeen). x.rows) looked.is in
    let none = subst (λ (l : List (ℕ × Word)). ArePassedBy h s.rows s.found [] l) (sym c.requires.empty) (passed_none h s.rows s.found) in
    let clean : ArePassedBy h s.rows t.found (part_of config h false) first = at_none c.in-Ok-None.field-0 _ c.in-Ok-None.ensures.passed c.in-Ok-None.field-0-is [] none in
    let here : ArePassedBy h t.rows t.found (part_of config h false) first = subst (λ (r : List Row). ArePassedBy h r t.found (part_of config h false) first) (sym rows) clean in
    ok_none_map c.pass-in-Ok-None.result ((pages : List PageId) → ArePassedBy h t.rows t.found pages first → ArePassedBy h t.rows u.found (pages ++ part_of config h true) last)
    (ArePassedBy h s.rows u.found (walk config h) last)
    (λ more. subst (λ (r : List Row). ArePassedBy h r u.found (walk config h) last) rows (more (part_of config h false) here)) c.pass-in-Ok-None.ensures.passed

pub returns-in-Ok-None-clause-stops : goal.returns-in-Ok-None-clause-stops
returns-in-Ok-None-clause-stops g c =
    let s = g.F.Frames.seen c.args.frames.now in
    let t = g.F.Frames.seen c.pass.new.frames in
    let u = g.F.Frames.seen c.pass-in-Ok-None.new.frames in
    let h = c.args.self.now.state.history in
    let config = c.args.self.now.state.config in
    let first = c.pass.new.passed.items in
    let last = c.pass-in-Ok-None.new.passed.items in
    let looked = at_none c.in-Ok-None.field-0 _ c.in-Ok-None.ensures.looked c.in-Ok-None.field-0-is in
    let rows : t.rows ≡ s.rows = ap (λ (x : FramesSeen). x.rows) looked.is in
    let none = subst (λ (l : List (ℕ × Word)). ArePassedBy h s.rows s.found [] l) (sym c.requires.empty) (passed_none h s.rows s.found) in
    let clean : ArePassedBy h s.rows t.found (part_of config h false) first = at_none c.in-Ok-None.field-0 _ c.in-Ok-None.ensures.passed c.in-Ok-None.field-0-is [] none in
    let here : ArePassedBy h t.rows t.found (part_of config h false) first = subst (λ (r : List Row). ArePassedBy h r t.found (part_of config h false) first) (sym rows) clean in
    ok_some_map c.pass-in-Ok-None.result (λ v. (pages : List PageId) → ArePassedBy h t.rows t.found pages first → StopsAt h t.rows u.found (pages ++ part_of config h true) v.page last)
    (λ v. StopsAt h s.rows u.found (walk config h) v.page last)
    (λ v more. subst (λ (r : List Row). StopsAt h r u.found (walk config h) v.page last) rows (more (part_of config h false) here)) c.pass-in-Ok-None.ensures.stops

pub returns-in-Ok-None-clause-taken : goal.returns-in-Ok-None-clause-taken
returns-in-Ok-None-clause-taken g c =
    let s = g.F.Frames.seen c.args.frames.now in
    let t = g.F.Frames.seen c.pass.new.frames in
    let u = g.F.Frames.seen c.pass-in-Ok-None.new.frames in
    let h = c.args.self.now.state.history in
    let looked = at_none c.in-Ok-None.field-0 _ c.in-Ok-None.ensures.looked c.in-Ok-None.field-0-is in
    ok_some_map c.pass-in-Ok-None.result (λ v. IsTaken t u h v.page v.frame v.clock) (λ v. IsTaken s u h v.page v.frame v.clock)
    (λ v taken. taken_on s t u h v.page v.frame v.clock looked taken) c.pass-in-Ok-None.ensures.taken

pub returns-in-Ok-Some-clause-stops : goal.returns-in-Ok-Some-clause-stops
returns-in-Ok-Some-clause-stops g c =
    let s = g.F.Frames.seen c.args.frames.now in
    let t = g.F.Frames.seen c.pass.new.frames in
    let h = c.args.self.now.state.history in
    let config = c.args.self.now.state.config in
    let v = c.in-Ok-Some.victim in
    let none = subst (λ (l : List (ℕ × Word)). ArePassedBy h s.rows s.found [] l) (sym c.requires.empty) (passed_none h s.rows s.found) in
    let stops = at_some c.in-Ok-Some.field-0 _ v c.in-Ok-Some.ensures.stops c.in-Ok-Some.field-0-is [] none in
    stops_append h s.rows t.found (part_of config h false) (part_of config h true) v.page c.pass.new.passed.items stops
