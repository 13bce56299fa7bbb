-- Accounts with one event more, and what the log has of them.
use Rattle.std.proofs.Common.{◌≡◌, ◌≢◌, ◌⊎◌, ℕ, ◌+◌, ◌<◌, ◌≤◌, Bool, true, false, true≢false, cond, List, [], ◌∷◌, Option, None, Some, IfSome, IsSomeAnd, refl, sym, ap, ◌∙◌, arith, nat_eq, eq-eqb, ⊎_elim}
use Rattle.std.proofs.lemmas.Bool.Decides.{nat_tests}
use Rattle.std.specs.Prelude.{Contains}
use Rattle.std.specs.List.{AllByRecursion}
use Rattle.redo_log.specs.declared.view.Piece.{Piece}
use Rattle.redo_log.specs.Passes.{Known}
use Rattle.trail.specs.declared.event.Entry.{Entry}
use Rattle.trail.specs.declared.event.Event.{Event}
use Rattle.trail.specs.declared.event.Event.TheVariants as event
use Rattle.trail.specs.declared.event.Held.{Held}
use Rattle.trail.specs.declared.event.Kind.{Kind}
use Rattle.trail.specs.declared.event.Kind.TheVariants as kind
use Rattle.trail.specs.declared.event.Note.{Note}
use Rattle.trail.specs.declared.event.Note.TheVariants as note
use Rattle.trail.specs.Alone.{is_of_flush}
use Rattle.trail.specs.Calls.{calls_of, held_after_kind, held_after_note, open_fixes}
use Rattle.trail.specs.Kinds.{Writing, kind_answers, write_in}
use Rattle.trail.specs.Trails.{caller_of, number_of}
use Rattle.trail_laws.specs.Accounts.{with_event}
use Rattle.trail_laws.specs.SoFar.{is_of_clean}
use Rattle.trail_laws.specs.Adding.{IsCalling, IsClosed}
use Rattle.trail_laws.proofs.Calling.{calling_answer, calling_on}
use Rattle.trail_laws.proofs.Places.{with_each}
use Rattle.pool_table.specs.Logged.{HasGone, KnowsMore, log_end_in, record_in}
use Rattle.pool_table.specs.Seen.{DeskSeen}
use Rattle.pool_table.specs.Ours.{AreOurEntries, AreOurs, IsOurs}
use Rattle.pool_table.specs.Kept.{AreClosed, IsLoggedEvent}

pub off : {A : Type 0} → false ≡ true → A
off e = absurd (true≢false (sym e))

pub with_here : (x : Event) (accounts : ℕ → List Event) (d : ℕ) → caller_of x ≡ d → with_event x accounts d ≡ x ∷ accounts d
with_here x accounts d e = ap (λ (b : Bool). cond b (x ∷ accounts d) (accounts d)) (eq-eqb d (caller_of x) (sym e))

pub with_else : (x : Event) (accounts : ℕ → List Event) (d : ℕ) → d ≢ caller_of x → with_event x accounts d ≡ accounts d
with_else x accounts d n = let no : nat_eq d (caller_of x) ≡ false = grind (arith, nat_tests) in ap (λ (b : Bool). cond b (x ∷ accounts d) (accounts d)) no

pub tail_all : (P : Event → Type 0) (x : Event) (accounts : ℕ → List Event) (d : ℕ) → AllByRecursion P (with_event x accounts d) → AllByRecursion P (accounts d)
tail_all P x accounts d all = cases (nat_eq d (caller_of x)) all
  where
    cases : (b : Bool) → AllByRecursion P (cond b (x ∷ accounts d) (accounts d)) → AllByRecursion P (accounts d)
    cases true all = all.1
    cases false all = all

-- An event of this instance's pages joins the history and its caller's account.
pub ours_added : (start : DeskSeen) (h h' : List Entry) (accounts : ℕ → List Event) (x : Event) → IsOurs start x → AreOurEntries start h' → AreOurs start h accounts → AreOurs start h' (with_event x accounts)
ours_added start h h' accounts x here entries ours = record {
  entries = entries;
  events = with_each (λ c mine. AllByRecursion (IsOurs start) mine) x accounts (here, ours.events (caller_of x)) (λ d other. ours.events d);
}

-- Each call but the newest is closed, behind an event too.
closed_own : (x : Event) (mine : List Event) (n : ℕ) (pending : List Entry) → number_of x ≡ n → IsCalling mine n pending → (k : ℕ) → 1 ≤ k → k < calls_of (x ∷ mine) → IsClosed (x ∷ mine) k
closed_own (event.Receipt r) mine n pending is calling k least less =
    let c = calling_answer (event.Receipt r) mine n pending calling is refl in let count : calls_of (event.Receipt r ∷ mine) + 1 ≡ n + 1 = c.count in c.closed k least (omega (arith, count, less))
closed_own (event.Entry e) mine n pending is calling k least less = cases (kind_answers e.kind) refl
  where
    cases : (b : Bool) → kind_answers e.kind ≡ b → IsClosed (event.Entry e ∷ mine) k
    cases true t = let c = calling_answer (event.Entry e) mine n pending calling is t in let count : calls_of (event.Entry e ∷ mine) + 1 ≡ n + 1 = c.count in c.closed k least (omega (arith, count, less))
    cases false t = let c = calling_on e mine n pending calling is t in let count : calls_of (event.Entry e ∷ mine) + 0 ≡ n = c.count in c.closed k least (omega (arith, count, less))

pub closed_added : (accounts : ℕ → List Event) (x : Event) (n : ℕ) (pending : List Entry) → number_of x ≡ n → IsCalling (accounts (caller_of x)) n pending → AreClosed accounts → AreClosed (with_event x accounts)
closed_added accounts x n pending is calling closed =
    with_each (λ c mine. (k : ℕ) → 1 ≤ k → k < calls_of mine → IsClosed mine k) x accounts (closed_own x (accounts (caller_of x)) n pending is calling) (λ d other. closed d)

-- a clean's events open no fix
opens_none : (n : ℕ) (k : Kind) (held : List Held) → is_of_clean (event.Entry (record { place = 0; caller = 0; number = n; kind = k })) ≡ true → held_after_kind n k held ≡ held
opens_none n (kind.Load p f) held is = refl
opens_none n (kind.Fix p f clock now) held is = off is
opens_none n (kind.Create p f start end now) held is = off is
opens_none n (kind.Put p at bytes start end) held is = refl
opens_none n (kind.Evict p f passed) held is = refl
opens_none n (kind.Write p lsn upto) held is = refl
opens_none n (kind.Move p from to) held is = refl
opens_none n (kind.Withdraw from) held is = refl
opens_none n (kind.Undo from) held is = refl
opens_none n (kind.Shrink chunks) held is = refl
opens_none n (kind.Grow chunks) held is = refl
opens_none n (kind.Resize bytes chunks) held is = refl
opens_none n (kind.Clean written skipped) held is = refl
opens_none n (kind.Check lsn) held is = refl
opens_none n (kind.WatchSet p) held is = refl
opens_none n (kind.WatchAt p f) held is = refl
opens_none n (kind.Occurred p arrived) held is = refl
opens_none n (kind.Unwatch p) held is = refl
opens_none n (kind.Dump pct ids) held is = refl
opens_none n (kind.Refused asked why) held is = refl

notes_none : (n : ℕ) (k : Note) (held : List Held) → is_of_clean (event.Receipt (record { place = 0; caller = 0; number = n; note = k })) ≡ true → held_after_note n k held ≡ held
notes_none n (note.Granted p f clock) held is = off is
notes_none n (note.Copied p at bytes clock) held is = refl
notes_none n (note.Unfixed p f fix) held is = off is
notes_none n (note.Refused asked why) held is = refl

-- A caller has no open fix where another is alone.
pub none_open : (c d : ℕ) (flush : Option ℕ) (mine : List Event) → d ≢ c → AllByRecursion (λ e. caller_of e ≡ d) mine
    → AllByRecursion (λ e. ((is_of_flush flush e ≡ true) × (is_of_clean e ≡ true)) ⊎ (caller_of e ≡ c)) mine → open_fixes mine ≡ []
none_open c d flush [] n own all = refl
none_open c d flush (event.Entry e ∷ mine) n own all = ⊎_elim
    (λ (t : (is_of_flush flush (event.Entry e) ≡ true) × (is_of_clean (event.Entry e) ≡ true)). opens_none e.number e.kind (open_fixes mine) t.1 ∙ none_open c d flush mine n own.1 all.1)
    (λ (s : e.caller ≡ c). absurd (n (sym own.0 ∙ s))) all.0
none_open c d flush (event.Receipt r ∷ mine) n own all = ⊎_elim
    (λ (t : (is_of_flush flush (event.Receipt r) ≡ true) × (is_of_clean (event.Receipt r) ≡ true)). notes_none r.number r.note (open_fixes mine) t.1 ∙ none_open c d flush mine n own.1 all.1)
    (λ (s : r.caller ≡ c). absurd (n (sym own.0 ∙ s))) all.0

-- A pass of the log knows at least what it knew.
pub has_gone : (a : Known) → HasGone a a
has_gone a = record { log = refl; end = omega arith; durable = omega arith; pieces = λ p is. is }

pub gone_on : (old : Option Known) (a b : Known) → KnowsMore old (Some a) → HasGone a b → KnowsMore old (Some b)
gone_on None a b more on = tt
gone_on (Some o) a b more on = record {
  log = on.log ∙ more.log;
  end = let x = more.end in let y = on.end in omega (arith, x, y);
  durable = let x = more.durable in let y = on.durable in omega (arith, x, y);
  pieces = λ p is. on.pieces p (more.pieces p is);
}

-- What the log had of a caller's entries it has where its pass knows more.
pub some_more : {A : Type 0} (o : Option A) (P Q : A → Type 0) → ((a : A) → P a → Q a) → IfSome o P → IfSome o Q
some_more None P Q f x = x
some_more (Some a) P Q f x = f a x

knows_more : (P : Known → Type 0) (old new : Option Known) → ((a b : Known) → HasGone a b → P a → P b) → KnowsMore old new → IsSomeAnd old P → IsSomeAnd new P
knows_more P None new f more is = absurd is
knows_more P (Some a) None f more is = absurd more
knows_more P (Some a) (Some b) f more is = f a b more is

pub logged_on : (old new : Option Known) (mine : List Event) → KnowsMore old new → AllByRecursion (IsLoggedEvent old) mine → AllByRecursion (IsLoggedEvent new) mine
logged_on old new [] more all = tt
logged_on old new (event.Receipt r ∷ mine) more all = (tt, logged_on old new mine more all.1)
logged_on old new (event.Entry e ∷ mine) more all = (
  record {
    covered = some_more (write_in e.kind) (λ (w : Writing). IsSomeAnd old (λ (a : Known). w.upto ≤ a.durable)) (λ (w : Writing). IsSomeAnd new (λ (a : Known). w.upto ≤ a.durable))
        (λ w. knows_more (λ (a : Known). w.upto ≤ a.durable) old new (λ a b m le. let d = m.durable in omega (arith, d, le)) more) all.0.covered;
    kept = some_more (record_in e.kind) (λ (p : Piece). IsSomeAnd old (λ (a : Known). Contains a.pieces p)) (λ (p : Piece). IsSomeAnd new (λ (a : Known). Contains a.pieces p))
        (λ p. knows_more (λ (a : Known). Contains a.pieces p) old new (λ a b m is. m.pieces p is) more) all.0.kept;
    ended = some_more (log_end_in e.kind) (λ (n : ℕ). IsSomeAnd old (λ (a : Known). n ≤ a.end)) (λ (n : ℕ). IsSomeAnd new (λ (a : Known). n ≤ a.end))
        (λ n. knows_more (λ (a : Known). n ≤ a.end) old new (λ a b m le. let d = m.end in omega (arith, d, le)) more) all.0.ended;
  },
  logged_on old new mine more all.1,
)
