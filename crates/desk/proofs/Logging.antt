-- What the log has of a history it still has later.
use Rattle.std.proofs.Common.{◌≡◌, ◌≤◌, ◌+◌, ◌++◌, ℕ, List, [], ◌∷◌, Option, None, Some, IfSome, length, refl, ap, ◌∙◌, sym, subst, arith, append_assoc, length-append}
use Rattle.std.specs.Int.{w16, w32, to_be_bytes}
use Rattle.redo_mark.specs.Logs.{Seen, Holds, IsLater, Grows}
use Rattle.redo_mark.specs.Records.{head_of}
use Rattle.page_ids.specs.declared.ids.PageId.{PageId}
use Rattle.trail.specs.declared.event.Cause.{Cause}
use Rattle.trail.specs.declared.event.Cause.TheVariants as cause
use Rattle.trail.specs.declared.event.Entry.{Entry}
use Rattle.trail.specs.declared.event.Kind.{Kind}
use Rattle.trail.specs.declared.event.Kind.TheVariants as kind
use Rattle.desk.specs.Logged.{IsLogged, AreUpTo, IsUpTo, IsLoggedKind, IsLoggedCause, put_change}

-- no entry came, or one more
pub upto_none : (m : ℕ) (h : List Entry) → AreUpTo m h h
upto_none m h = record { came = []; split = refl; each = tt }

pub upto_more : (m : ℕ) (h k l : List Entry) (e : Entry) → IsUpTo m e.kind → l ≡ e ∷ k → AreUpTo m h k → AreUpTo m h l
upto_more m h k l e kind_is is were = record { came = e ∷ were.came; split = is ∙ ap (λ (x : List Entry). e ∷ x) were.split; each = (kind_is, were.each) }

pub holds_later : (old new : Seen) (piece : List ℕ) (start : ℕ) → IsLater old new → Holds old piece start → Holds new piece start
holds_later old new piece start later holds = record {
  behind = subst (λ (n : ℕ). n ≤ start) (sym later.opened) holds.behind;
  within = omega (arith, holds.within, later.end);
  there = go old.bytes new.bytes later.bytes holds.there;
}
  where
    go : (a b : Option (List ℕ)) → Grows a b → IfSome a (λ bytes. (before after : List ℕ) × (bytes ≡ before ++ piece ++ after) × (old.opened + length before ≡ start))
        → IfSome b (λ bytes. (before after : List ℕ) × (bytes ≡ before ++ piece ++ after) × (new.opened + length before ≡ start))
    go None None grows was = tt
    go None (Some b) grows was = absurd (cc)
    go (Some a) None grows was = absurd grows
    go (Some a) (Some b) grows was = (was.0, was.1 ++ grows.0, grows.1 ∙ ap (λ (l : List ℕ). l ++ grows.0) was.2 ∙ append_assoc (was.0 ++ piece) was.1 grows.0, ap (λ (n : ℕ). n + length was.0) later.opened ∙ was.3)

cause_later : (old new : Seen) (why : Cause) → IsLater old new → IsLoggedCause old why → IsLoggedCause new why
cause_later old new (cause.PlacesSpent mark need) later is = is
cause_later old new (cause.NoSuchPage pages) later is = is
cause_later old new (cause.HoldFull held) later is = is
cause_later old new (cause.Resident f) later is = is
cause_later old new (cause.AllFixed seen) later is = is
cause_later old new (cause.RedoFault before after) later is = is
cause_later old new (cause.DiskFault before after) later is = is
cause_later old new (cause.BadPage bad) later is = is
cause_later old new (cause.LogSpent end) later is = omega (arith, is, later.end)
cause_later old new (cause.WatchFull watches) later is = is
cause_later old new cause.NoWatch later is = is
cause_later old new cause.TooSmall later is = is
cause_later old new (cause.TooLarge chunks max) later is = is
cause_later old new (cause.Withdrawing from) later is = is
cause_later old new (cause.Undone seen) later is = is
cause_later old new (cause.NoFrame frames) later is = is
cause_later old new (cause.Stale found) later is = is
cause_later old new (cause.OtherPage found) later is = is
cause_later old new (cause.Latched found) later is = is
cause_later old new (cause.Busy found) later is = is
cause_later old new cause.Unheld later is = is

kind_later : (old new : Seen) (k : Kind) → IsLater old new → IsLoggedKind old k → IsLoggedKind new k
kind_later old new (kind.Load p f) later is = is
kind_later old new (kind.Fix p f clock now) later is = is
kind_later old new (kind.Create p f start end now) later is = holds_later old new _ start later is
kind_later old new (kind.Put p at bytes start end) later is = holds_later old new _ start later is
kind_later old new (kind.Evict p f passed) later is = is
kind_later old new (kind.Write p lsn upto) later is = omega (arith, is, later.durable)
kind_later old new (kind.Move p from to) later is = is
kind_later old new (kind.Withdraw from) later is = is
kind_later old new (kind.Undo from) later is = is
kind_later old new (kind.Shrink chunks) later is = is
kind_later old new (kind.Grow chunks) later is = is
kind_later old new (kind.Resize bytes chunks) later is = is
kind_later old new (kind.Clean written skipped) later is = is
kind_later old new (kind.Check lsn) later is = omega (arith, is, later.end)
kind_later old new (kind.WatchSet p) later is = is
kind_later old new (kind.WatchAt p f) later is = is
kind_later old new (kind.Occurred p arrived) later is = is
kind_later old new (kind.Unwatch p) later is = is
kind_later old new (kind.Dump pct ids) later is = is
kind_later old new (kind.Refused asked why) later is = cause_later old new why later is

pub logged_later : (old new : Seen) (h : List Entry) → IsLater old new → IsLogged old h → IsLogged new h
logged_later old new [] later logged = tt
logged_later old new (e ∷ h) later logged = (kind_later old new e.kind later logged.0, logged_later old new h later logged.1)

-- all of a put's record but its end LSN
pub length-put : (p : PageId) (at : ℕ) (bytes : List ℕ) → length (head_of (put_change p at bytes)) ≡ 13 + length bytes
length-put p at bytes = length-append (kind_and_place) bytes
  where
    kind_and_place : List ℕ
    kind_and_place = 1 ∷ to_be_bytes w32 p.space ++ to_be_bytes w32 p.page ++ to_be_bytes w16 at ++ to_be_bytes w16 (length bytes)
