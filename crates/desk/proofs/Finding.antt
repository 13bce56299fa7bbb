-- What the words of the frames that were passed say: how a victim was found, and that all frames are fixed.
use Rattle.std.proofs.Common.{◌≡◌, ◌++◌, ◌<◌, ℕ, List, [], ◌∷◌, Option, None, Some, refl, ap, ◌∙◌, sym, subst, arith}
use Rattle.std.specs.Prelude.{Contains, IsPermutation}
use Rattle.std.specs.List.Sorted.{IsNonDecreasingBy}
use Rattle.page_ids.specs.declared.frame_word.Word.{Word}
use Rattle.page_ids.specs.declared.ids.PageId.{PageId}
use Rattle.page_ids.specs.declared.config.Config.{Config}
use Rattle.trail.specs.declared.event.Entry.{Entry}
use Rattle.trail.specs.History.{home}
use Rattle.trail.specs.declared.event.Hand.{Hand}
use Rattle.trail.specs.Book.{Book, book, first_in, frame_in_turn, frames_there}
use Rattle.trail.specs.Victim.{walk, before_of, ArePassed, IsSought, AreAllFixed}
use Rattle.trail.specs.Words.{frames_told}
use Rattle.frame_words.specs.Rows.{Row}
use Rattle.desk.specs.Claimed.{ArePassedBy, StopsAt}
use Rattle.desk.specs.State.{State}
use Rattle.desk.specs.Victims.{IsFull}
use Rattle.instance_lists.specs.Walk.{AreOrderly}
use Rattle.trail.proofs.LookUps.{before_split, is_some_and, just_itself}
use Rattle.instance_lists.proofs.Walks.{before_once, before_other, walk_once, housed_walked}
use Rattle.desk.proofs.PassedWords.{AreInOrder, AreJustOf, in_order_are, just_passed, frames_are}

none_in : (hands : List Hand) (free : List ℕ) → first_in hands free ≡ None → free ≡ []
none_in (x ∷ hands) free is = absurd (cc)
none_in [] [] is = refl
none_in [] (f ∷ fs) is = absurd (cc)

pub no_front : (b : Book) → frame_in_turn b ≡ None → b.free ≡ []
no_front b is = none_in b.hands b.free is

same_frame : (a b : ℕ) → Some a ≡ Some b → a ≡ b
same_frame a b e = cc

-- the words of the pages before a victim, in order of frame
pub stopped_are : (c : Config) (h : List Entry) (rows : List Row) (found : Option (List (ℕ × Word))) (p : PageId) (passed words : List (ℕ × Word)) → AreOrderly c h → (stops : StopsAt h rows found (walk c h) p passed)
    → IsPermutation passed words → IsNonDecreasingBy (λ (x : ℕ × Word). x.0) words → AreInOrder h rows found stops.before words
stopped_are c h rows found p passed words orderly stops same sorted =
    in_order_are h rows found stops.before passed words stops.passed_are (record { once = λ q. before_once c h q p stops.before stops.after orderly stops.split; alone = orderly.alone }) same sorted

-- the first page of the walk that was not passed
pub sought_at : (c : Config) (h : List Entry) (p : PageId) (before after : List PageId) (words : List (ℕ × Word)) → AreOrderly c h → frame_in_turn (book c h) ≡ None → walk c h ≡ before ++ p ∷ after
    → AreJustOf h before words → IsSought c h p words
sought_at c h p before after words orderly none_free split are = record {
  none_free = no_front (book c h) none_free;
  passed_are = is_some_and (before_of p (walk c h)) (λ ahead. ArePassed h ahead words) before
      (ap (before_of p) split ∙ before_split p before after (before_other c h p before after orderly split)) (just_passed h before words are);
}

pub sought_is : (c : Config) (h : List Entry) (rows : List Row) (found : Option (List (ℕ × Word))) (p : PageId) (passed words : List (ℕ × Word)) → AreOrderly c h → frame_in_turn (book c h) ≡ None → (stops : StopsAt h rows found (walk c h) p passed)
    → AreInOrder h rows found stops.before words → IsSought c h p words
sought_is c h rows found p passed words orderly none_free stops are = sought_at c h p stops.before stops.after words orderly none_free stops.split are.passed_are

-- the words of all pages, in order of frame
pub all_are : (c : Config) (h : List Entry) (rows : List Row) (found : Option (List (ℕ × Word))) (passed words : List (ℕ × Word)) → AreOrderly c h → ArePassedBy h rows found (walk c h) passed
    → IsPermutation passed words → IsNonDecreasingBy (λ (x : ℕ × Word). x.0) words → AreInOrder h rows found (walk c h) words
all_are c h rows found passed words orderly are same sorted =
    in_order_are h rows found (walk c h) passed words are (record { once = λ q. walk_once c h q orderly; alone = orderly.alone }) same sorted

-- where each frame is a home, these are all frames
pub all_fixed_are : (c : Config) (h : List Entry) (rows : List Row) (found : Option (List (ℕ × Word))) (p : PageId) (words : List (ℕ × Word)) → AreOrderly c h → frame_in_turn (book c h) ≡ None
    → ((f : ℕ) → f < c.frames → (q : PageId) × (home h q ≡ Some f)) → home h p ≡ None → AreInOrder h rows found (walk c h) words → AreAllFixed c h p words
all_fixed_are c h rows found p words orderly none_free full absent are = record {
  absent = absent;
  none_free = no_front (book c h) none_free;
  frames = just_itself (frames_there c.frames (book c h)) (frames_told words) (orderly.there ∙ sym (frames_are 0 c.frames words are.rising
      (λ f least most.
      let q = full f (omega (arith, most)) in
      let there = are.passed_are.each q.0 (housed_walked c h q.0 f orderly q.1) in
      subst (λ (g : ℕ). Contains (frames_told words) g) (same_frame there.0 f (sym there.1 ∙ q.1)) there.2)
      (λ f here.
      let q = are.passed_are.only f here in
      let below = orderly.below q.0 f q.2 in
      (omega arith, omega (arith, below)))
      ));
  fixed = are.passed_are.fixed;
}

pub full_is : {D : Type 0} (desk : State D) (rows : List Row) (found : Option (List (ℕ × Word))) (p : PageId) (words : List (ℕ × Word)) → AreOrderly desk.config desk.history → frame_in_turn (book desk.config desk.history) ≡ None
    → ((f : ℕ) → f < desk.config.frames → (q : PageId) × (home desk.history q ≡ Some f)) → home desk.history p ≡ None → AreInOrder desk.history rows found (walk desk.config desk.history) words → IsFull desk rows p words
full_is desk rows found p words orderly none_free full absent are = record {
  all = all_fixed_are desk.config desk.history rows found p words orderly none_free full absent are;
  none_free = none_free;
  found = are.seen;
  rising = are.rising;
}
