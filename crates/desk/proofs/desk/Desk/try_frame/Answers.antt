use Rattle.std.proofs.Common.{◌≡◌, ◌⊎◌, ◌++◌, inl, ℕ, Bool, true, not, List, [], ◌∷◌, Option, Some, None, ap, ◌∙◌, sym, subst, arith}
use mathlib.Core.Bool.{beq}
use Rattle.trail.specs.Dirt.{is_dirty}
use Rattle.trail.specs.History.{home}
use Rattle.page_ids.specs.declared.ids.PageId.{PageId}
use Rattle.page_ids.specs.declared.frame_word.Word.{Word}
use Rattle.frame_words.specs.Appends.{IsNoHome}
use Rattle.frame_words.specs.Rows.{IsFound}
use Rattle.frame_words.specs.Seen.{row_at, visits_of}
use Rattle.instance_lists.specs.Walk.{test_of}
use Rattle.desk.specs.Claimed.{ArePassedBy}
use Rattle.desk.specs.Steps.{row_in}
use Rattle.desk.proofs.Claims.{resident_at}
use Rattle.instance_lists.proofs.Walks.{test_passes, tested}
use Rattle.desk.proofs.PassedWords.{each_some, looked_same, passed_looked, passed_push}
use Rattle.desk.proofs.desk.Desk.try_frame.Goals as goal

pub claim_at-requires-clause-resident : goal.claim_at-requires-clause-resident
claim_at-requires-clause-resident g c =
    let tied = c.requires.tied in
    let below = c.requires.below in
    let whole = tied.whole in
    resident_at _ _ _ _ c.args.frame c.requires.housed.0 (tied.rows c.args.frame (omega (arith, below, whole))) c.requires.housed.1

pub claim_at-requires-clause-steady : goal.claim_at-requires-clause-steady
claim_at-requires-clause-steady g c =
    let tied = c.requires.tied in
    let below = c.requires.below in
    let whole = tied.whole in
    let s = g.F.Frames.seen c.args.frames.now in
    let f = c.args.frame in
    each_some s.history (λ h. ((row_at s f).resident ≡ true) ⊎ IsNoHome h.entries f) (λ h is.
    inl (resident_at _ _ _ _ f c.requires.housed.0 (tied.rows f (omega (arith, below, whole))) c.requires.housed.1))

pub claim_at-requires-clause-free : goal.claim_at-requires-clause-free
claim_at-requires-clause-free g c =
    let tied = c.requires.tied in
    let below = c.requires.below in
    let whole = tied.whole in
    record {
      inside = omega (arith, below, whole);
      unvisited = λ is. let bad : None ≡ Some c.args.frame = sym tied.unvisited ∙ is in absurd (cc);
      unlatched = (tied.rows c.args.frame (omega (arith, below, whole))).unlatched;
    }

pub returns-then-is_dirty_in-soiled-clause-looked : goal.returns-then-is_dirty_in-soiled-clause-looked
returns-then-is_dirty_in-soiled-clause-looked g c = looked_same (g.F.Frames.seen c.args.frames.now)

pub returns-in_ok-push-in-Err-clause-passed : goal.returns-in_ok-push-in-Err-clause-passed
returns-in_ok-push-in-Err-clause-passed g c = λ p pages here are.
    let tied = c.requires.tied in
    let below = c.requires.below in
    let whole = tied.whole in
    let f = c.args.frame in
    let s = g.F.Frames.seen c.args.frames.now in
    let t = g.F.Frames.seen c.claim_at.new.frames in
    let h = c.args.self.now.state.history in
    let w = c.in-Err.word in
    let err = c.in-Err.ensures.err in
    let row = tied.rows f (omega (arith, below, whole)) in
    let resident = resident_at _ _ h (row_at s f) f p row here in
    let found : IsFound (row_in s.rows f) 0 w = subst (λ (v : Option ℕ). IsFound (row_at s f) (visits_of v f) w) tied.unvisited err.0 in
    let T = test_of h c.args.soiled in
    let same : p ≡ c.page_in-page.result = c.requires.alone c.page_in-page.result p (subst (λ x. home x.state.history c.page_in-page.result ≡ Some f) c.self.view_is c.page_in-page.ensures.home) here in
    let dirt : c.is_dirty_in.result ≡ is_dirty h c.page_in-page.result =
    subst (λ x. (q : PageId) → home x.state.history q ≡ Some f → c.is_dirty_in.result ≡ is_dirty x.state.history q) c.self.view_is c.is_dirty_in.ensures c.page_in-page.result
    (subst (λ x. home x.state.history c.page_in-page.result ≡ Some f) c.self.view_is c.page_in-page.ensures.home) in
    let test : T p ≡ true = ap T same ∙ tested c.args.soiled h c.page_in-page.result (ap (λ (b : Bool). not (beq b c.args.soiled)) (sym dirt) ∙ c.if-is_dirty_in-soiled.false) in
    subst (λ (l : List PageId). ArePassedBy h s.rows t.found (pages ++ l) c.push.new.self.items) (sym (test_passes T p [] test))
    (subst (λ (l : List (ℕ × Word)). ArePassedBy h s.rows t.found (pages ++ p ∷ []) l) (sym c.in_ok-push-in-Err.ensures.items)
    (passed_push h s.rows t.found pages c.args.passed.now.items p f w (passed_looked h s.rows s t pages c.args.passed.now.items err.2 are) here
    (record { resident = found.resident ∙ resident; clock = found.clock ∙ row.clock; fixed = err.1 }) found err.1 err.3))
