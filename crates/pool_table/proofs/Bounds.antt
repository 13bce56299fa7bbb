-- How many fixes may be open: 64 in a view, by its own calls, and 64 for each part of the right to make passes in a frame.
use Rattle.std.proofs.Common.{◌≡◌, ◌≢◌, ℕ, suc, ◌+◌, ◌*◌, ◌≤◌, Bool, true, false, cond, List, [], ◌∷◌, Option, None, Some, length, refl, sym, ap, ◌∙◌, subst, arith, nat_eq, eq-eqb}
use Rattle.std.proofs.lemmas.Bool.Decides.{nat_tests}
use mathlib.Core.Option.{some}
use lib.ListN.{get_elem?}
use Rattle.std.specs.Option.{option_or}
use Rattle.atomic_table.specs.Table.{State}
use Rattle.page_ids.specs.declared.limits.TheConstants.{MOST_FIXES}
use Rattle.trail.specs.declared.event.Entry.{Entry}
use Rattle.trail.specs.declared.event.Event.{Event}
use Rattle.trail.specs.declared.event.Event.TheVariants as event
use Rattle.trail.specs.declared.event.Cause.TheVariants as cause
use Rattle.trail.specs.declared.event.Held as trails
use Rattle.trail.specs.declared.event.Kind.{Kind}
use Rattle.trail.specs.declared.event.Kind.TheVariants as kind
use Rattle.trail.specs.declared.event.Note.{Note}
use Rattle.trail.specs.declared.event.Note.TheVariants as note
use Rattle.trail.specs.Calls.{given_back, held_after_kind, held_after_note, open_fixes}
use Rattle.trail.specs.Causes.{IsCausedKind, IsCausedNote, frame_cause, full_cause, resident_cause}
use Rattle.trail.specs.Trails.{Opening}
use Rattle.trail_laws.specs.Accounts.{seen_by}
use Rattle.trail_laws.specs.SoFar.{AreLawfulOf}
use Rattle.pool_table.specs.declared.view.Slot.{Slot}
use Rattle.pool_table.specs.declared.view.View.{View}
use Rattle.pool_table.specs.Seen.{DeskSeen}
use Rattle.pool_table.specs.Views.{fixes_of}
use Rattle.pool_table.specs.Frames.{counted, fixes_in}
use Rattle.pool_table.specs.Kept.{Kept, fixed_in, parts_of, total}

not_full : (mine : List Event) → full_cause mine ≡ None → length (open_fixes mine) ≢ 64
not_full mine none is = let on : nat_eq (length (open_fixes mine)) 64 ≡ true = eq-eqb (length (open_fixes mine)) 64 is in
    let some : Some (cause.HoldFull 64) ≡ None = ap (λ (b : Bool). cond b (Some (cause.HoldFull 64)) None) (sym on) ∙ none in absurd (cc)

first_none : {A : Type 0} (a b : Option A) → option_or a b ≡ None → a ≡ None
first_none None b e = refl
first_none (Some x) b e = absurd (cc)

second_none : {A : Type 0} (a b : Option A) → option_or a b ≡ None → b ≡ None
second_none None b e = e
second_none (Some x) b e = absurd (cc)

one_more : (mine : List Event) → full_cause mine ≡ None → length (open_fixes mine) ≤ 64 → 1 + length (open_fixes mine) ≤ 64
one_more mine none few = less (length (open_fixes mine)) (not_full mine none) few
  where
    less : (n : ℕ) → n ≢ 64 → n ≤ 64 → 1 + n ≤ 64
    less n apart le = grind (arith, nat_tests)

back_shorter : (n : ℕ) (held : List trails.Held) → length (given_back n held) ≤ length held
back_shorter n [] = omega arith
back_shorter n (x ∷ held) = cases (back_shorter n held) (nat_eq x.number n)
  where
    cases : length (given_back n held) ≤ length held → (b : Bool) → length (cond b held (x ∷ given_back n held)) ≤ length (x ∷ held)
    cases less true = omega arith
    cases less false = omega (arith, less)

kind_few : (o : Opening) (h : List Entry) (mine : List Event) (c n : ℕ) (k : Kind) → IsCausedKind o [] h mine c n k → length (open_fixes mine) ≤ 64 → length (held_after_kind n k (open_fixes mine)) ≤ 64
kind_few o h mine c n (kind.Fix p f clock now) is few = let more = one_more mine is.none_due few in omega (arith, more)
kind_few o h mine c n (kind.Create p f start end now) is few = let more = one_more mine (first_none (full_cause mine) (resident_cause h p) is.none_due) few in omega (arith, more)
kind_few o h mine c n (kind.Load p f) is few = few
kind_few o h mine c n (kind.Put p at bytes start end) is few = few
kind_few o h mine c n (kind.Evict p f passed) is few = few
kind_few o h mine c n (kind.Write p lsn upto) is few = few
kind_few o h mine c n (kind.Move p from to) is few = few
kind_few o h mine c n (kind.Withdraw from) is few = few
kind_few o h mine c n (kind.Undo from) is few = few
kind_few o h mine c n (kind.Shrink chunks) is few = few
kind_few o h mine c n (kind.Grow chunks) is few = few
kind_few o h mine c n (kind.Resize bytes chunks) is few = few
kind_few o h mine c n (kind.Clean written skipped) is few = few
kind_few o h mine c n (kind.Check lsn) is few = few
kind_few o h mine c n (kind.WatchSet p) is few = few
kind_few o h mine c n (kind.WatchAt p f) is few = few
kind_few o h mine c n (kind.Occurred p arrived) is few = few
kind_few o h mine c n (kind.Unwatch p) is few = few
kind_few o h mine c n (kind.Dump pct ids) is few = few
kind_few o h mine c n (kind.Refused asked why) is few = few

note_few : (o : Opening) (h : List Entry) (mine : List Event) (c n : ℕ) (k : Note) → IsCausedNote o [] h mine c n k → length (open_fixes mine) ≤ 64 → length (held_after_note n k (open_fixes mine)) ≤ 64
note_few o h mine c n (note.Granted p f clock) is few = let more = one_more mine (second_none (frame_cause o.config f) (full_cause mine) is.none_due) few in omega (arith, more)
note_few o h mine c n (note.Copied p at bytes clock) is few = few
note_few o h mine c n (note.Unfixed p f fix) is few = let less = back_shorter fix (open_fixes mine) in omega (arith, less, few)
note_few o h mine c n (note.Refused asked why) is few = few

-- A caller's lawful calls have 64 fixes open at most.
pub all_few : (o : Opening) (pages : ℕ → ℕ) (h : List Entry) (mine : List Event) → AreLawfulOf o pages h mine → length (open_fixes mine) ≤ MOST_FIXES
all_few o pages h [] laws = omega arith
all_few o pages h (event.Entry e ∷ mine) laws = kind_few o (seen_by (event.Entry e) h) mine e.caller e.number e.kind (laws.0.causes [] (λ s. record { told = tt; shown = omega arith })) (all_few o pages h mine laws.1)
all_few o pages h (event.Receipt r ∷ mine) laws = note_few o (seen_by (event.Receipt r) h) mine r.caller r.number r.note (laws.0.causes [] (λ s. record { told = tt; shown = omega arith })) (all_few o pages h mine laws.1)

in_few : (held : List trails.Held) (f : ℕ) → fixes_in held f ≤ length held
in_few [] f = omega arith
in_few (x ∷ held) f = let less = in_few held f in let one = at_most (nat_eq x.frame f) in omega (arith, less, one)
  where
    at_most : (b : Bool) → cond b 1 0 ≤ 1
    at_most true = omega arith
    at_most false = omega arith

total_few : (f : ℕ) (views : List View) → ((j : ℕ) (v : View) → get_elem? views j ≡ some v → fixed_in f v ≤ MOST_FIXES * v.parts) → total (fixed_in f) views ≤ MOST_FIXES * total parts_of views
total_few f [] each = omega arith
total_few f (v ∷ views) each = let here = each 0 v refl in let rest = total_few f views (λ j. each (suc j)) in omega (arith, here, rest)

module _ (D : Type 0) (seen : D → DeskSeen) (start : DeskSeen) where
  -- A view has 64 open fixes at most.
  pub few_fixes : (s : State (Slot D) View) (r : Kept seen start s) (j : ℕ) (v : View) → get_elem? s.views j ≡ some v → length (fixes_of v) ≤ MOST_FIXES
  few_fixes s r j v at = cases v.passes refl
    where
      few : (c : ℕ) → length (open_fixes (r.accounts c)) ≤ MOST_FIXES
      few c = all_few start.opening start.pages r.h (r.accounts c) (r.laws.so_far.laws c)

      cases : (b : Bool) → v.passes ≡ b → length (open_fixes v.mine) ≤ MOST_FIXES
      cases true t = subst (λ (l : List Event). length (open_fixes l) ≤ MOST_FIXES) ((r.each j v at).keeps.passes t).1.events (few v.number)
      cases false t = subst (λ (l : List Event). length (open_fixes l) ≤ MOST_FIXES) (sym ((r.each j v at).keeps.unnamed t)) (omega arith)

  -- A frame counts 64 fixes at most for each part.
  pub few_counted : (s : State (Slot D) View) (r : Kept seen start s) (f : ℕ) → counted r.frames f ≤ MOST_FIXES * 64
  few_counted s r f = let sum = r.framed.sums f in let whole = r.whole in let all = total_few f s.views each in omega (arith, sum, whole, all)
    where
      none_in : (v : View) → v.mine ≡ [] → fixed_in f v ≡ 0
      none_in v e = ap (λ (l : List Event). fixes_in (open_fixes l) f) e

      each : (j : ℕ) (v : View) → get_elem? s.views j ≡ some v → fixed_in f v ≤ MOST_FIXES * v.parts
      each j v at = cases v.passes refl
        where
          cases : (b : Bool) → v.passes ≡ b → fixed_in f v ≤ MOST_FIXES * v.parts
          cases true t = let part = ((r.each j v at).keeps.passes t).0 in let few = few_fixes s r j v at in let less = in_few (fixes_of v) f in omega (arith, part, few, less)
          cases false t = let none = none_in v ((r.each j v at).keeps.unnamed t) in omega (arith, none)
