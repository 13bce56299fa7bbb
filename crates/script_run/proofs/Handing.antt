-- What entries leave of the book: no chunks are withdrawn, and whose frame is in hand.
use Rattle.std.proofs.Common.{◌≡◌, ℕ, Bool, true, false, cond, List, [], ◌∷◌, ◌++◌, ◌&&◌, ◌⊎◌, inl, inr, Option, Some, None, refl, ap, ◌∙◌, nat_eq}
use Rattle.std.specs.Option.{option_map_or}
use Rattle.trail.specs.declared.event.Call.{Call}
use Rattle.trail.specs.declared.event.Cause.{Cause}
use Rattle.trail.specs.declared.event.Entry.{Entry}
use Rattle.trail.specs.declared.event.Hand.{Hand}
use Rattle.trail.specs.declared.event.Kind.{Kind}
use Rattle.trail.specs.declared.event.Kind.TheVariants as kind
use Rattle.page_ids.specs.declared.config.Config.{Config}
use Rattle.page_ids.specs.declared.frame_word.Word.{Word}
use Rattle.page_ids.specs.declared.ids.PageId.{PageId}
use Rattle.trail.specs.declared.event.Event.{Event}
use Rattle.trail.specs.Withdrawal.{AreFollowed, IsFollowed}
use Rattle.script_run.specs.Work.{AreSteady, leaves_chunks}
use Rattle.trail.specs.Book.{Area, Book, book, book_after, give, give_next, is_in_area, is_late, is_owner, next_frame, use_frame}
use Rattle.trail.proofs.Judging.{HasTurn, given_up}

give_area : (per f : ℕ) (b : Book) → (give per f b).area ≡ b.area
give_area per f b = cases (is_in_area per b f)
  where
    cases : (t : Bool) → (let used = use_frame f b in let after : Book = cond t (record used { withdrawn = b.withdrawn ++ f ∷ [] }) (record used { free = used.free ++ f ∷ [] }) in after.area) ≡ b.area
    cases true = refl
    cases false = refl

next_area : (per c n : ℕ) (b : Book) → (give_next per c n b).area ≡ b.area
next_area per c n b = cases (next_frame b c n)
  where
    cases : (o : Option ℕ) → (option_map_or (λ f. give per f b) o b).area ≡ b.area
    cases None = refl
    cases (Some f) = give_area per f b

late_area : (per c n : ℕ) (b : Book) (t : Bool) → (let after : Book = cond t (give_next per c n b) b in after.area) ≡ b.area
late_area per c n b true = next_area per c n b
late_area per c n b false = refl

evict_area : (per f : ℕ) (hands : List Hand) (b : Book) (t : Bool) → (let after : Book = cond t (give per f b) (record b { hands = hands }) in after.area) ≡ b.area
evict_area per f hands b true = give_area per f b
evict_area per f hands b false = refl

pub area_kept : (per : ℕ) (e : Entry) (k : Kind) (b : Book) → leaves_chunks k ≡ true → (book_after per e k b).area ≡ b.area
area_kept per e (kind.Load p f) b keeps = refl
area_kept per e (kind.Fix p f clock now) b keeps = refl
area_kept per e (kind.Create p f start end now) b keeps = refl
area_kept per e (kind.Put p at bytes start end) b keeps = refl
area_kept per e (kind.Evict p f passed) b keeps = evict_area per f (record { frame = f; caller = e.caller; number = e.number } ∷ b.hands) b (is_owner b e.caller e.number)
area_kept per e (kind.Write p lsn upto) b keeps = refl
area_kept per e (kind.Move p from to) b keeps = refl
area_kept per e (kind.Withdraw from) b keeps = absurd (cc)
area_kept per e (kind.Undo from) b keeps = absurd (cc)
area_kept per e (kind.Shrink chunks) b keeps = absurd (cc)
area_kept per e (kind.Grow chunks) b keeps = absurd (cc)
area_kept per e (kind.Resize bytes chunks) b keeps = refl
area_kept per e (kind.Clean written skipped) b keeps = refl
area_kept per e (kind.Check lsn) b keeps = refl
area_kept per e (kind.WatchSet p) b keeps = refl
area_kept per e (kind.WatchAt p f) b keeps = refl
area_kept per e (kind.Occurred p has) b keeps = refl
area_kept per e (kind.Unwatch p) b keeps = refl
area_kept per e (kind.Dump pct ids) b keeps = refl
area_kept per e (kind.Refused asked why) b keeps = late_area per e.caller e.number b (is_late asked why)

-- where no chunks came or went none are withdrawn
pub none_withdrawn : (c : Config) (h : List Entry) → AreSteady h → (book c h).area ≡ None
none_withdrawn c [] steady = refl
none_withdrawn c (e ∷ h) steady = area_kept c.frames e e.kind (book c h) steady.0 ∙ none_withdrawn c h steady.1

-- and nothing has to be followed by its call's answer
kind_followed : (past : List Event) (next : Option Entry) (e : Entry) (k : Kind) → leaves_chunks k ≡ true → IsFollowed past next e k
kind_followed past next e (kind.Load p f) keeps = tt
kind_followed past next e (kind.Fix p f clock now) keeps = tt
kind_followed past next e (kind.Create p f start end now) keeps = tt
kind_followed past next e (kind.Put p at bytes start end) keeps = tt
kind_followed past next e (kind.Evict p f passed) keeps = tt
kind_followed past next e (kind.Write p lsn upto) keeps = tt
kind_followed past next e (kind.Move p from to) keeps = tt
kind_followed past next e (kind.Withdraw from) keeps = absurd (cc)
kind_followed past next e (kind.Undo from) keeps = absurd (cc)
kind_followed past next e (kind.Shrink chunks) keeps = absurd (cc)
kind_followed past next e (kind.Grow chunks) keeps = absurd (cc)
kind_followed past next e (kind.Resize bytes chunks) keeps = tt
kind_followed past next e (kind.Clean written skipped) keeps = tt
kind_followed past next e (kind.Check lsn) keeps = tt
kind_followed past next e (kind.WatchSet p) keeps = tt
kind_followed past next e (kind.WatchAt p f) keeps = tt
kind_followed past next e (kind.Occurred p has) keeps = tt
kind_followed past next e (kind.Unwatch p) keeps = tt
kind_followed past next e (kind.Dump pct ids) keeps = tt
kind_followed past next e (kind.Refused asked why) keeps = tt

pub all_followed : (past : List Event) (next : Option Entry) (h : List Entry) → AreSteady h → AreFollowed past next h
all_followed past next [] steady = tt
all_followed past next (e ∷ h) steady = (kind_followed past next e e.kind steady.0, all_followed past (Some e) h steady.1)

-- a refusal leaves no frame in hand, where there was none, or its call's own is given back
pub refused_hand : (per : ℕ) (e : Entry) (asked : Call) (why : Cause) (b : Book) → HasTurn b e.caller e.number → (b.hands ≡ []) ⊎ (is_late asked why ≡ true)
    → (book_after per e (kind.Refused asked why) b).hands ≡ []
refused_hand per e asked why b turn (inr late) = ap (λ (t : Bool). let after : Book = cond t (give_next per e.caller e.number b) b in after.hands) late ∙ given_up per b e.caller e.number turn
refused_hand per e asked why b turn (inl none) = cases (is_late asked why)
  where
    cases : (t : Bool) → (let after : Book = cond t (give_next per e.caller e.number b) b in after.hands) ≡ []
    cases true = given_up per b e.caller e.number (inl none)
    cases false = none

-- the frame of a page that left is in the hand of its call alone, where no chunks are withdrawn and none was in hand
pub evict_hand : (per : ℕ) (e : Entry) (p : PageId) (f : ℕ) (passed : List (ℕ × Word)) (b : Book) → b.area ≡ None → b.hands ≡ []
    → (book_after per e (kind.Evict p f passed) b).hands ≡ record { frame = f; caller = e.caller; number = e.number } ∷ []
evict_hand per e p f passed b closed none =
    let x : Hand = record { frame = f; caller = e.caller; number = e.number } in
    ap (λ (a : Option Area). let after : Book = cond (option_map_or (λ (x : Area). nat_eq x.caller e.caller && nat_eq x.number e.number) a false) (give per f b) (record b { hands = x ∷ b.hands }) in after.hands) closed
    ∙ ap (λ hands. x ∷ hands) none
