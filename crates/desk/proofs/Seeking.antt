-- What a walk over the dirty pages, or over the clean ones, has done so far.
use Rattle.std.proofs.Common.{◌≡◌, ◌<◌, ◌+◌, ◌++◌, ℕ, Bool, true, length, arith, List, [], ◌∷◌, Option, None, Some, refl, ap, ◌∙◌, sym, subst, append_assoc, append-nil}
use Rattle.std.specs.Prelude.{filter}
use Rattle.page_ids.specs.declared.frame_word.Word.{Word}
use Rattle.page_ids.specs.declared.ids.PageId.{PageId}
use Rattle.page_ids.specs.declared.config.Config.{Config}
use Rattle.trail.specs.declared.event.Entry.{Entry}
use Rattle.trail.specs.History.{home}
use Rattle.trail.specs.Victim.{from_the_tail}
use Rattle.frame_words.specs.Rows.{Row}
use Rattle.frame_words.specs.Seen.{FramesSeen, row_at}
use Rattle.instance_lists.specs.Walk.{test_of, part_of, start_of, first_tried}
use Rattle.desk.specs.Claimed.{HasLooked, IsClaimed, IsTaken, ArePassedBy, StopsAt}
use Rattle.instance_lists.specs.Walk.{first_home, next_home, AreOrderly}
use Rattle.desk.proofs.PassedWords.{looked_same, looked_on, passed_looked}
use Rattle.instance_lists.proofs.Walks.{left_at, first_there, stands_at, next_there, left_there, left_less, all_walked, part_more, test_passes}

pub record SoFar (c : Config) (h : List Entry) (was now : FramesSeen) (soiled : Bool) (at : Option ℕ) (before passed : List (ℕ × Word)) : Type 0 where
  pub done : List PageId
  pub rest : List PageId
  pub split : from_the_tail c h ≡ done ++ rest
  pub at_is : at ≡ first_home h rest
  pub looked : HasLooked was now
  pub passed_are : (pages : List PageId) → ArePassedBy h was.rows was.found pages before → ArePassedBy h was.rows now.found (pages ++ filter (test_of h soiled) done) passed

-- at the tail
so_far_none : (c : Config) (h : List Entry) (s : FramesSeen) (soiled : Bool) (at : Option ℕ) (before : List (ℕ × Word)) → at ≡ next_home h None (from_the_tail c h) → SoFar c h s s soiled at before before
so_far_none c h s soiled at before is = record {
  done = [];
  rest = from_the_tail c h;
  split = refl;
  at_is = is;
  looked = looked_same s;
  passed_are = λ pages are. subst (λ (l : List PageId). ArePassedBy h s.rows s.found l before) (sym (append-nil pages)) are;
}

-- where the search begins: at the tail, or nowhere where there is no page of the kind
pub so_far_first : (c : Config) (h : List Entry) (s : FramesSeen) (soiled : Bool) (at : Option ℕ) (before : List (ℕ × Word)) → at ≡ first_tried c h soiled → SoFar c h s s soiled at before before
so_far_first c h s soiled at before is = go (part_of c h soiled) refl is
  where
    go : (part : List PageId) → part_of c h soiled ≡ part → at ≡ start_of part (first_home h (from_the_tail c h)) → SoFar c h s s soiled at before before
    go [] none at_is = record {
      done = from_the_tail c h;
      rest = [];
      split = sym (append-nil (from_the_tail c h));
      at_is = at_is;
      looked = looked_same s;
      passed_are = λ pages are. subst (λ (l : List PageId). ArePassedBy h s.rows s.found l before) (sym (ap (λ (l : List PageId). pages ++ l) none ∙ append-nil pages)) are;
    }
    go (p ∷ ps) some at_is = so_far_none c h s soiled at before at_is

-- where the walk stands
pub record IsAt (c : Config) (h : List Entry) (done rest : List PageId) (f : ℕ) : Type 0 where
  pub page : PageId
  pub more : List PageId
  pub rest_is : rest ≡ page ∷ more
  pub housed : home h page ≡ Some f
  pub split : from_the_tail c h ≡ done ++ page ∷ more

pub is_at : (c : Config) (h : List Entry) (was now : FramesSeen) (soiled : Bool) (at : Option ℕ) (f : ℕ) (before passed : List (ℕ × Word)) → (so : SoFar c h was now soiled at before passed) → at ≡ Some f → IsAt c h so.done so.rest f
is_at c h was now soiled at f before passed so is =
    let first = first_there h f so.rest (sym so.at_is ∙ is) in
    record { page = first.0; more = first.1; rest_is = first.2; housed = first.3; split = so.split ∙ ap (λ (l : List PageId). so.done ++ l) first.2 }

-- one page more
pub so_far_more : (c : Config) (h : List Entry) (was mid now : FramesSeen) (soiled : Bool) (at to : Option ℕ) (f : ℕ) (before passed words : List (ℕ × Word)) → AreOrderly c h → SoFar c h was mid soiled at before passed
    → at ≡ Some f → to ≡ next_home h (Some f) (from_the_tail c h) → HasLooked mid now
    → ((p : PageId) (pages : List PageId) → home h p ≡ Some f → ArePassedBy h mid.rows mid.found pages passed → ArePassedBy h mid.rows now.found (pages ++ filter (test_of h soiled) (p ∷ [])) words)
    → SoFar c h was now soiled to before words
so_far_more c h was mid now soiled at to f before passed words orderly so is next looked more =
    let here = is_at c h was mid soiled at f before passed so is in
    let p = here.page in
    let rows : mid.rows ≡ was.rows = ap (λ (s : FramesSeen). s.rows) so.looked.is in
    record {
      done = so.done ++ p ∷ [];
      rest = here.more;
      split = here.split ∙ sym (append_assoc so.done (p ∷ []) here.more);
      at_is = next ∙ ap (next_home h (Some f)) here.split ∙ next_there h f p so.done here.more (stands_at c h f p so.done here.more orderly here.split here.housed);
      looked = looked_on was mid now so.looked looked;
      passed_are = λ pages are.
          let R : List Row → Type 0 = λ r. ArePassedBy h r mid.found (pages ++ filter (test_of h soiled) so.done) passed in
          let S : List Row → Type 0 = λ r. ArePassedBy h r now.found ((pages ++ filter (test_of h soiled) so.done) ++ filter (test_of h soiled) (p ∷ [])) words in
          let L : List PageId → Type 0 = λ l. ArePassedBy h was.rows now.found l words in
          subst L (append_assoc pages (filter (test_of h soiled) so.done) (filter (test_of h soiled) (p ∷ [])) ∙ ap (λ (l : List PageId). pages ++ l) (sym (part_more (test_of h soiled) p so.done)))
          (subst S rows (more p (pages ++ filter (test_of h soiled) so.done) here.housed (subst R (sym rows) (so.passed_are pages are))));
    }

-- the walk has one page less before it
pub so_far_less : (c : Config) (h : List Entry) (was mid now : FramesSeen) (soiled : Bool) (at to : Option ℕ) (f : ℕ) (before passed words : List (ℕ × Word)) → AreOrderly c h → SoFar c h was mid soiled at before passed
    → at ≡ Some f → to ≡ next_home h (Some f) (from_the_tail c h) → left_at h to (from_the_tail c h) < left_at h at (from_the_tail c h)
so_far_less c h was mid now soiled at to f before passed words orderly so is next =
    let here = is_at c h was mid soiled at f before passed so is in
    let p = here.page in
    let stands = stands_at c h f p so.done here.more orderly here.split here.housed in
    let first : to ≡ first_home h here.more = next ∙ ap (next_home h (Some f)) here.split ∙ next_there h f p so.done here.more stands in
    let one : left_at h at (from_the_tail c h) ≡ 1 + length here.more = ap (λ (o : Option ℕ). left_at h o (from_the_tail c h)) is ∙ ap (left_at h (Some f)) here.split ∙ left_there h f p so.done here.more stands in
    let less = left_less c h (so.done ++ p ∷ []) here.more orderly (here.split ∙ sym (append_assoc so.done (p ∷ []) here.more)) in
    let same = ap (λ (o : Option ℕ). left_at h o (from_the_tail c h)) first in
    omega (arith, one, less, same)

-- all pages of the kind were passed
pub so_far_all : (c : Config) (h : List Entry) (was now : FramesSeen) (soiled : Bool) (at : Option ℕ) (before passed : List (ℕ × Word)) → AreOrderly c h → SoFar c h was now soiled at before passed → at ≡ None
    → (pages : List PageId) → ArePassedBy h was.rows was.found pages before → ArePassedBy h was.rows now.found (pages ++ part_of c h soiled) passed
so_far_all c h was now soiled at before passed orderly so is pages are =
    let ended : so.rest ≡ [] = all_walked c h so.done so.rest orderly so.split (sym so.at_is ∙ is) in
    let whole : from_the_tail c h ≡ so.done = so.split ∙ ap (λ (l : List PageId). so.done ++ l) ended ∙ append-nil so.done in
    subst (λ (l : List PageId). ArePassedBy h was.rows now.found (pages ++ filter (test_of h soiled) l) passed) (sym whole) (so.passed_are pages are)

-- the frame of the next page was claimed
pub so_far_stop : (c : Config) (h : List Entry) (was mid now : FramesSeen) (soiled : Bool) (at : Option ℕ) (f : ℕ) (p : PageId) (before passed words : List (ℕ × Word)) → AreOrderly c h → SoFar c h was mid soiled at before passed
    → at ≡ Some f → home h p ≡ Some f → test_of h soiled p ≡ true → IsClaimed mid now f → words ≡ passed
    → (pages : List PageId) → ArePassedBy h was.rows was.found pages before → StopsAt h was.rows now.found (pages ++ part_of c h soiled) p words
so_far_stop c h was mid now soiled at f p before passed words orderly so is housed test claimed same pages are =
    let here = is_at c h was mid soiled at f before passed so is in
    let page_is : p ≡ here.page = orderly.alone here.page p f here.housed housed in
    let split : from_the_tail c h ≡ so.done ++ p ∷ here.more = here.split ∙ ap (λ (q : PageId). so.done ++ q ∷ here.more) (sym page_is) in
    let T : PageId → Bool = test_of h soiled in
    let part : part_of c h soiled ≡ filter T so.done ++ p ∷ filter T here.more =
    ap (filter T) split ∙ Rattle.std.proofs.lemmas.List.Elements.filter-append T so.done (p ∷ here.more) ∙ ap (λ (l : List PageId). filter T so.done ++ l) (test_passes T p here.more test) in
    let found : now.found ≡ claimed.mid.found = ap (λ (s : FramesSeen). s.found) claimed.is in
    record {
      before = pages ++ filter T so.done;
      after = filter T here.more;
      split = ap (λ (l : List PageId). pages ++ l) part ∙ sym (append_assoc pages (filter T so.done) (p ∷ filter T here.more));
      passed_are = subst (λ (l : List (ℕ × Word)). ArePassedBy h was.rows now.found (pages ++ filter T so.done) l) (sym same)
          (subst (λ (o : Option (List (ℕ × Word))). ArePassedBy h was.rows o (pages ++ filter T so.done) passed) (sym found)
          (passed_looked h was.rows mid claimed.mid (pages ++ filter T so.done) passed claimed.looked (so.passed_are pages are)));
    }

-- a page that stops the first part stops the whole
pub stops_append : (h : List Entry) (rows : List Row) (found : Option (List (ℕ × Word))) (xs ys : List PageId) (p : PageId) (passed : List (ℕ × Word)) → StopsAt h rows found xs p passed → StopsAt h rows found (xs ++ ys) p passed
stops_append h rows found xs ys p passed stops = record {
  before = stops.before;
  after = stops.after ++ ys;
  split = ap (λ (l : List PageId). l ++ ys) stops.split ∙ append_assoc stops.before (p ∷ stops.after) ys;
  passed_are = stops.passed_are;
}

-- a frame was claimed behind more looks
pub taken_on : (was mid now : FramesSeen) (h : List Entry) (p : PageId) (f clock : ℕ) → HasLooked was mid → IsTaken mid now h p f clock → IsTaken was now h p f clock
taken_on was mid now h p f clock looked taken = record {
  claimed = record {
    mid = taken.claimed.mid;
    looked = looked_on was mid taken.claimed.mid looked taken.claimed.looked;
    image = taken.claimed.image;
    uncovered = taken.claimed.uncovered;
    unfixed = taken.claimed.unfixed;
    is = taken.claimed.is;
  };
  housed = taken.housed;
  clock_is = taken.clock_is ∙ ap (λ (s : FramesSeen). (row_at s f).clock) looked.is;
  early = taken.early;
}
