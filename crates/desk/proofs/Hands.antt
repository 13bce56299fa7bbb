-- The frames in hand behind an entry.
use Rattle.std.specs.Prelude.{not}
use Rattle.std.proofs.Common.{◌≡◌, ◌∷◌, ◌++◌, ℕ, Bool, true, false, cond, nat_eq, List, [], Some, filter, ap, ◌∙◌, inl, inr}
use Rattle.page_ids.specs.declared.config.Config.{Config}
use Rattle.page_ids.specs.declared.frame_word.Word.{Word}
use Rattle.page_ids.specs.declared.ids.PageId.{PageId}
use Rattle.trail.specs.Book.{Book, book, book_after, frame_in_turn, use_frame, give, give_next, is_in_area, is_late, is_owner}
use Rattle.trail.specs.declared.event.Call.{Call}
use Rattle.trail.specs.declared.event.Cause.{Cause}
use Rattle.trail.specs.declared.event.Entry.{Entry}
use Rattle.trail.specs.declared.event.Hand.{Hand}
use Rattle.trail.specs.declared.event.Kind.{Kind}
use Rattle.trail.specs.declared.event.Kind.TheVariants as kind
use Rattle.trail.proofs.Judging.{used_up, given_up}
use Rattle.desk.specs.Moments.{IsEmptyHanded, HasOwnAlone, EmptiesHand}
use Rattle.desk.specs.State.{State}
use Rattle.desk.specs.Steps.{IsAppended, next_entry}
use Rattle.desk.specs.Victims.{IsCleanedFirst}
use Rattle.desk.specs.declared.calls.Caller.{Caller}

-- whether the book is as it was, or gives a frame back
abbrev given_if : Bool → ℕ → Caller → Book → Book
given_if late per by b = cond late (give_next per by.pass by.number b) b

module _ {D : Type 0} where
  book_is : (old new : State D) (by : Caller) (k : Kind) → IsAppended old new by k → book new.config new.history ≡ book_after old.config.frames (next_entry old by k) k (book old.config old.history)
  book_is old new by k a = ap (book new.config) a.history ∙ ap (λ (c : Config). book c (next_entry old by k ∷ old.history)) a.config

  -- the history is as it was
  pub hands_still : (old new : State D) → new.config ≡ old.config → new.history ≡ old.history → IsEmptyHanded old → IsEmptyHanded new
  hands_still old new config same none = ap (λ (c : Config). (book c new.history).hands) config ∙ ap (λ (h : List Entry). (book old.config h).hands) same ∙ none

  pub hand_still : (old new : State D) (by : Caller) → new.config ≡ old.config → new.history ≡ old.history → HasOwnAlone old by → HasOwnAlone new by
  hand_still old new by config same (inl none) = inl (hands_still old new config same none)
  hand_still old new by config same (inr (f, own)) = inr (f, ap (λ (c : Config). (book c new.history).hands) config ∙ ap (λ (h : List Entry). (book old.config h).hands) same ∙ own)

  -- an entry that leaves the frames in hand
  pub hands_on : (old new : State D) (by : Caller) (k : Kind) → IsAppended old new by k → ((b : Book) → (book_after old.config.frames (next_entry old by k) k b).hands ≡ b.hands) → IsEmptyHanded old → IsEmptyHanded new
  hands_on old new by k a still none = ap (λ (b : Book). b.hands) (book_is old new by k a) ∙ still (book old.config old.history) ∙ none

  -- the next frame came to a page
  pub hands_used : (old new : State D) (by : Caller) (k : Kind) (f : ℕ) → IsAppended old new by k → ((b : Book) → book_after old.config.frames (next_entry old by k) k b ≡ use_frame f b)
      → frame_in_turn (book old.config old.history) ≡ Some f → HasOwnAlone old by → IsEmptyHanded new
  hands_used old new by k f a uses front own =
      ap (λ (b : Book). b.hands) (book_is old new by k a ∙ uses (book old.config old.history)) ∙ used_up (book old.config old.history) by.pass by.number f own front

  -- a call was refused
  pub hands_refused : (old new : State D) (by : Caller) (asked : Call) (why : Cause) → IsAppended old new by (kind.Refused asked why) → HasOwnAlone old by → EmptiesHand old asked why → IsEmptyHanded new
  hands_refused old new by asked why a own empties = ap (λ (b : Book). b.hands) (book_is old new by (kind.Refused asked why) a) ∙ go empties
    where
      go : EmptiesHand old asked why → (given_if (is_late asked why) old.config.frames by (book old.config old.history)).hands ≡ []
      go (inr late) = ap (λ (t : Bool). (given_if t old.config.frames by (book old.config old.history)).hands) late ∙ given_up old.config.frames (book old.config old.history) by.pass by.number own
      go (inl none) = cases (is_late asked why)
        where
          cases : (t : Bool) → (given_if t old.config.frames by (book old.config old.history)).hands ≡ []
          cases true = given_up old.config.frames (book old.config old.history) by.pass by.number (inl none)
          cases false = none

  -- a page was written first, where it was dirty
  pub hands_cleaned : (old new : State D) (by : Caller) (p : PageId) → new.config ≡ old.config → IsCleanedFirst old.config.first by p old.history new.history → IsEmptyHanded old → IsEmptyHanded new
  hands_cleaned old new by p config (inl same) none = hands_still old new config same.1 none
  hands_cleaned old new by p config (inr wrote) none = ap (λ (c : Config). (book c new.history).hands) config ∙ ap (λ (h : List Entry). (book old.config h).hands) wrote.entry ∙ none

  -- a page left its frame, which is in the call's hand
  pub hand_given : (old new : State D) (by : Caller) (p : PageId) (f : ℕ) (passed : List (ℕ × Word)) → IsAppended old new by (kind.Evict p f passed) → IsEmptyHanded old → HasOwnAlone new by
  hand_given old new by p f passed a none =
      let b = book old.config old.history in
      let is = ap (λ (b : Book). b.hands) (book_is old new by (kind.Evict p f passed) a) in
      by_owner (is_owner b by.pass by.number) is
    where
      own : Hand
      own = record { frame = f; caller = by.pass; number = by.number }

      by_owner : (t : Bool) → (book new.config new.history).hands ≡ (let b = book old.config old.history in let after : Book = cond t (give old.config.frames f b) (record b { hands = own ∷ b.hands }) in after.hands) → HasOwnAlone new by
      by_owner false is = inr (f, is ∙ ap (λ (hands : List Hand). own ∷ hands) none)
      by_owner true is = inl (is ∙ by_area (is_in_area old.config.frames (book old.config old.history) f))
        where
          by_area : (t : Bool)
              → (let b = book old.config old.history in let used = use_frame f b in let after : Book = cond t (record used { withdrawn = b.withdrawn ++ f ∷ [] }) (record used { free = used.free ++ f ∷ [] }) in after.hands) ≡ []
          by_area true = ap (filter (λ (x : Hand). not (nat_eq x.frame f))) none
          by_area false = ap (filter (λ (x : Hand). not (nat_eq x.frame f))) none
