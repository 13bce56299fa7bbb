-- Plain frames that tell a history: what the frames inside need, and what stays of them.
use Rattle.std.specs.Prelude.{IsSome, IsSomeAnd, replicate, not, ◌&&◌}
use Rattle.std.specs.Option.{option_map}
use Rattle.std.proofs.Common.{◌≡◌, ◌⊎◌, ℕ, List, [], ◌∷◌, Option, None, Some, ◌+◌, ◌<◌, ◌++◌, Bool, true, false, cond, length, get_or, set, map, reverse, refl, sym, ap, ◌∙◌, subst, rules, length-set, ⊎_elim}
use Rattle.std.proofs.lemmas.Bool.{cases_lt, false≢true, true≢false}
use Rattle.std.proofs.lemmas.List.{get_or-set_same, get_or-set_other, get_or-replicate, get_or_past, length-replicate, reverse-append, map-append}
use Rattle.page_ids.specs.Content.{Content}
use Rattle.page_ids.specs.Size.{page_bytes}
use Rattle.page_ids.specs.declared.frame_word.Word.{Word}
use Rattle.page_ids.specs.declared.ids.PageId.{PageId}
use Rattle.trail.specs.declared.event.Entry.{Entry}
use Rattle.trail.specs.declared.event.Kind.{Kind}
use Rattle.trail.specs.declared.event.Kind.TheVariants as kind
use Rattle.frame_words.specs.Appends.{AreReady, IsAway, appended, fixed_frame, rows_after}
use Rattle.frame_words.specs.Conditions.{IsUntouched, IsUncovered, IsLatched, IsVisited, MayAppend, MayLay, MayPublish, MayUnlatch}
use Rattle.frame_words.specs.Plain.{Plain, seen_of}
use Rattle.frame_words.specs.Rows.{Row, Uncovers, new_row, reached, claimed_row, published_row, latched_row, unlatched_row, stamped_row, lifted_row, laid_row, held_row}
use Rattle.frame_words.specs.Seen.{FramesSeen, row_at, with_row, noted, visited, left, is_owed}
use Rattle.part_tests.specs.Telling.{Telling, telling_seen, IsImageSized, IsKept, AreTold}
use mathlib.Core.Logic.{dite}
use native.Mathlib.Decide.{ℕ_discrete}

-- one frame changes
set_kept : (size : ℕ) (rows : List Row) (i : ℕ) (row : Row) → AreTold size rows → IsKept size row → AreTold size (set rows i row)
set_kept size rows i row kept one = λ f below. let inside : f < length rows = subst (λ (n : ℕ). f < n) (length-set rows i row) below in
    dite (ℕ_discrete f i)
    (λ same. subst (λ (k : ℕ). IsKept size (get_or (set rows i row) k new_row)) (sym same)
    (subst (λ (r : Row). IsKept size r) (sym (get_or-set_same rows i row new_row (subst (λ (k : ℕ). k < length rows) same inside))) one))
    (λ other. subst (λ (r : Row). IsKept size r) (sym (get_or-set_other rows i f row new_row other)) (kept f inside))

one_kept : (size : ℕ) (p p' : Plain) (f : ℕ) (row : Row) → AreTold size p.rows → seen_of p' ≡ with_row (seen_of p) f row → IsKept size row → AreTold size p'.rows
one_kept size p p' f row kept new one = subst (λ (rows : List Row). AreTold size rows) (sym (ap (λ (s : FramesSeen). s.rows) new)) (set_kept size p.rows f row kept one)

pub kept_same : (size : ℕ) (p p' : Plain) → AreTold size p.rows → seen_of p' ≡ seen_of p → AreTold size p'.rows
kept_same size p p' kept same = subst (λ (rows : List Row). AreTold size rows) (sym (ap (λ (s : FramesSeen). s.rows) same)) kept

new_row_kept : (size : ℕ) → IsKept size new_row
new_row_kept size = record { held = refl; sized = search rules; there = λ resident unlatched. absurd (false≢true resident) }

pub new_kept : (size n : ℕ) → AreTold size (replicate n new_row)
new_kept size n = λ f below. subst (λ (r : Row). IsKept size r)
    (sym (get_or-replicate n f new_row new_row (subst (λ (k : ℕ). f < k) (length-replicate n new_row) below)))
    (new_row_kept size)

uncovered_sized : (size : ℕ) (old image : Option (Option Content)) → IsImageSized size old → Uncovers old image → IsImageSized size image
uncovered_sized size None image sized told = subst (λ (i : Option (Option Content)). IsImageSized size i) (sym told) sized
uncovered_sized size (Some None) image sized told = absurd sized
uncovered_sized size (Some (Some c)) image sized told = subst (λ (i : Option (Option Content)). IsImageSized size i) (sym told) sized

module _ {T : Type 0} where
  some_of : (o : Option T) (P : T → Type 0) → IsSomeAnd o P → IsSome o
  some_of None P given = absurd given
  some_of (Some x) P given = refl

image_there : (old image : Option (Option Content)) → IsSome old → Uncovers old image → IsSome image
image_there None image some told = absurd (false≢true some)
image_there (Some None) image some told = some_of image (λ o. IsSome o) told
image_there (Some (Some c)) image some told = subst (λ (i : Option (Option Content)). IsSome i) (sym told) refl

reached_same : (held : Option ℕ) (among : Bool) (image : Option (Option Content)) → IsSome held → reached held among image ≡ image
reached_same None among image told = absurd (false≢true told)
reached_same (Some n) among image told = refl

one_more : (held : Option ℕ) → IsSome held → IsSome (option_map (λ n. n + 1) held)
one_more None told = told
one_more (Some n) told = refl

claimed : (size : ℕ) (r : Row) (image : Option (Option Content)) → IsKept size r → Uncovers r.image image → IsKept size (claimed_row r image)
claimed size r image kept told = record {
  held = kept.held;
  sized = uncovered_sized size r.image image kept.sized told;
  there = λ resident unlatched. absurd (false≢true resident);
}

latched : (size : ℕ) (r : Row) (image : Option (Option Content)) → IsKept size r → Uncovers r.image image → IsKept size (latched_row r image)
latched size r image kept told = record {
  held = kept.held;
  sized = uncovered_sized size r.image image kept.sized told;
  there = λ resident unlatched. absurd (true≢false unlatched);
}

published : (size : ℕ) (r : Row) (page : PageId) (clock : ℕ) → IsKept size r → IsSome r.image → IsKept size (published_row r page clock)
published size r page clock kept there =
    let same : reached r.held (not r.latched) r.image ≡ r.image = reached_same r.held (not r.latched) r.image kept.held in
    record {
      held = kept.held;
      sized = subst (λ (i : Option (Option Content)). IsImageSized size i) (sym same) kept.sized;
      there = λ resident unlatched. subst (λ (i : Option (Option Content)). IsSome i) (sym same) there;
    }

unlatched : (size : ℕ) (r : Row) → IsKept size r → (r.resident ≡ true → IsSome r.image) → IsKept size (unlatched_row r)
unlatched size r kept there =
    let same : reached r.held (r.resident && true) r.image ≡ r.image = reached_same r.held (r.resident && true) r.image kept.held in
    record {
      held = kept.held;
      sized = subst (λ (i : Option (Option Content)). IsImageSized size i) (sym same) kept.sized;
      there = λ resident unlatched. subst (λ (i : Option (Option Content)). IsSome i) (sym same) (there resident);
    }

lifted : (size : ℕ) (r : Row) → IsKept size r → (r.resident ≡ false) ⊎ (r.latched ≡ true) → IsKept size (lifted_row r)
lifted size r kept alone = record {
  held = kept.held;
  sized = search rules;
  there = λ resident unlatched. absurd (⊎_elim (λ away. false≢true (sym away ∙ resident)) (λ latched. true≢false (sym latched ∙ unlatched)) alone);
}

laid : (size : ℕ) (r : Row) (c : Content) → IsKept size r → length c.bytes ≡ size → IsKept size (laid_row r c)
laid size r c kept sized = record { held = kept.held; sized = sized; there = λ resident unlatched. refl }

held : (size : ℕ) (r : Row) → IsKept size r → IsKept size (held_row r)
held size r kept = record { held = one_more r.held kept.held; sized = kept.sized; there = kept.there }

pub free_inside : (t : Telling) (f : ℕ) → IsUntouched (telling_seen t) f → IsUntouched (seen_of t.plain) f
free_inside t f free = record { inside = free.inside; unvisited = free.unvisited; unlatched = free.unlatched }

pub publish_inside : (t : Telling) (f : ℕ) (page : PageId) (clock : ℕ) → MayPublish (telling_seen t) f page clock → MayPublish (seen_of t.plain) f page clock
publish_inside t f page clock may = record { inside = may.inside; away = may.away; laid = may.laid; early = may.early; home_is = search rules; value_is = search rules }

pub latched_inside : (t : Telling) (f : ℕ) → IsLatched (telling_seen t) f → IsLatched (seen_of t.plain) f
latched_inside t f latch = record { inside = latch.inside; latched = latch.latched }

pub unlatch_inside : (t : Telling) (f : ℕ) → MayUnlatch (telling_seen t) f → MayUnlatch (seen_of t.plain) f
unlatch_inside t f may = record { latch = latched_inside t f may.latch; settled = λ resident. search rules }

pub reached_inside : (t : Telling) (f : ℕ) → IsVisited (telling_seen t) f → IsVisited (seen_of t.plain) f
reached_inside t f reach = record { inside = reach.inside; alone = reach.alone }

pub lay_inside : (t : Telling) (f : ℕ) (c : Content) → MayLay (telling_seen t) f c → MayLay (seen_of t.plain) f c
lay_inside t f c may = record { reached = reached_inside t f may.reached; empty = may.empty; sized = search rules; valued = λ resident. search rules }

away_inside : (t : Telling) (f : ℕ) → IsAway (telling_seen t) f → IsAway (seen_of t.plain) f
away_inside t f away = record { inside = away.inside; away = away.away }

ready_inside : (t : Telling) (k : Kind) → AreReady (telling_seen t) k → AreReady (seen_of t.plain) k
ready_inside t (kind.Load p f) ready = away_inside t f ready
ready_inside t (kind.Fix p f clock now) ready = record { inside = ready.inside; resident = ready.resident; visit = ready.visit }
ready_inside t (kind.Create p f start end now) ready = away_inside t f ready
ready_inside t (kind.Put p at bytes start end) ready = ready
ready_inside t (kind.Evict p f passed) ready = away_inside t f ready
ready_inside t (kind.Write p lsn upto) ready = ready
ready_inside t (kind.Move p from to) ready = (away_inside t from ready.0, away_inside t to ready.1)
ready_inside t (kind.Withdraw from) ready = ready
ready_inside t (kind.Undo from) ready = ready
ready_inside t (kind.Shrink chunks) ready = ready
ready_inside t (kind.Grow chunks) ready = ready
ready_inside t (kind.Resize bytes chunks) ready = ready
ready_inside t (kind.Clean written skipped) ready = ready
ready_inside t (kind.Check lsn) ready = ready
ready_inside t (kind.WatchSet p) ready = ready
ready_inside t (kind.WatchAt p f) ready = ready
ready_inside t (kind.Occurred p arrived) ready = ready
ready_inside t (kind.Unwatch p) ready = ready
ready_inside t (kind.Dump pct ids) ready = ready
ready_inside t (kind.Refused asked why) ready = ready

pub append_inside : (t : Telling) (e : Entry) → MayAppend (telling_seen t) e → MayAppend (seen_of t.plain) e
append_inside t e may = record { frames = ready_inside t e.kind may.frames; next = search rules }

-- every frame is kept, also one that is not there
any_kept : (size : ℕ) (rows : List Row) (f : ℕ) → AreTold size rows → IsKept size (get_or rows f new_row)
any_kept size rows f kept = ⊎_elim (λ inside. kept f inside)
    (λ out. subst (λ (r : Row). IsKept size r) (sym (get_or_past rows f new_row out)) (new_row_kept size))
    (cases_lt f (length rows))

fixed_kept : (size : ℕ) (fixed : Option ℕ) (rows : List Row) → AreTold size rows → AreTold size (rows_after fixed rows)
fixed_kept size None rows kept = kept
fixed_kept size (Some f) rows kept = set_kept size rows f (held_row (get_or rows f new_row)) kept (held size (get_or rows f new_row) (any_kept size rows f kept))

pub kept_appended : (size : ℕ) (p p' : Plain) (e : Entry) → AreTold size p.rows → seen_of p' ≡ appended (seen_of p) e → AreTold size p'.rows
kept_appended size p p' e kept new = subst (λ (rows : List Row). AreTold size rows) (sym (ap (λ (s : FramesSeen). s.rows) new))
    (fixed_kept size (fixed_frame e.kind) p.rows kept)

pub kept_claimed : (size : ℕ) (p p' : Plain) (f : ℕ) (image : Option (Option Content)) → AreTold size p.rows → IsUncovered (seen_of p) f image
    → seen_of p' ≡ with_row (seen_of p) f (claimed_row (row_at (seen_of p) f) image) → AreTold size p'.rows
kept_claimed size p p' f image kept told new = one_kept size p p' f _ kept new (claimed size (row_at (seen_of p) f) image (any_kept size p.rows f kept) told.told)

pub kept_latched : (size : ℕ) (p p' : Plain) (f : ℕ) (image : Option (Option Content)) → AreTold size p.rows → IsUncovered (seen_of p) f image
    → seen_of p' ≡ with_row (seen_of p) f (latched_row (row_at (seen_of p) f) image) → AreTold size p'.rows
kept_latched size p p' f image kept told new = one_kept size p p' f _ kept new (latched size (row_at (seen_of p) f) image (any_kept size p.rows f kept) told.told)

pub kept_published : (size : ℕ) (p p' : Plain) (f : ℕ) (page : PageId) (clock : ℕ) → AreTold size p.rows → MayPublish (seen_of p) f page clock
    → seen_of p' ≡ with_row (seen_of p) f (published_row (row_at (seen_of p) f) page clock) → AreTold size p'.rows
kept_published size p p' f page clock kept may new = one_kept size p p' f _ kept new (published size (row_at (seen_of p) f) page clock (any_kept size p.rows f kept) may.laid)

pub kept_stamped : (size : ℕ) (p p' : Plain) (f clock : ℕ) → AreTold size p.rows
    → seen_of p' ≡ with_row (seen_of p) f (stamped_row (row_at (seen_of p) f) clock) → AreTold size p'.rows
kept_stamped size p p' f clock kept new = let row : IsKept size (row_at (seen_of p) f) = any_kept size p.rows f kept in
    one_kept size p p' f _ kept new (record { held = row.held; sized = row.sized; there = row.there })

pub kept_unlatched : (t : Telling) (p' : Plain) (f : ℕ) → AreTold (page_bytes t.history.config.page) t.plain.rows → MayUnlatch (telling_seen t) f
    → seen_of p' ≡ with_row (seen_of t.plain) f (unlatched_row (row_at (seen_of t.plain) f)) → AreTold (page_bytes t.history.config.page) p'.rows
kept_unlatched t p' f kept may new = let size : ℕ = page_bytes t.history.config.page in
    one_kept size t.plain p' f _ kept new
    (unlatched size (row_at (seen_of t.plain) f) (any_kept size t.plain.rows f kept) (λ resident. (may.settled resident).0))

pub kept_lifted : (size : ℕ) (p p' : Plain) (f : ℕ) → AreTold size p.rows → IsVisited (seen_of p) f
    → seen_of p' ≡ with_row (seen_of p) f (lifted_row (row_at (seen_of p) f)) → AreTold size p'.rows
kept_lifted size p p' f kept reach new = one_kept size p p' f _ kept new (lifted size (row_at (seen_of p) f) (any_kept size p.rows f kept) reach.alone)

pub kept_laid : (t : Telling) (p' : Plain) (f : ℕ) (c : Content) → AreTold (page_bytes t.history.config.page) t.plain.rows → MayLay (telling_seen t) f c
    → seen_of p' ≡ with_row (seen_of t.plain) f (laid_row (row_at (seen_of t.plain) f) c) → AreTold (page_bytes t.history.config.page) p'.rows
kept_laid t p' f c kept may new = let size : ℕ = page_bytes t.history.config.page in
    one_kept size t.plain p' f _ kept new (laid size (row_at (seen_of t.plain) f) c (any_kept size t.plain.rows f kept) may.sized)

either_kept : (size : ℕ) (b : Bool) (s s' : FramesSeen) → AreTold size s.rows → AreTold size s'.rows → AreTold size (cond b s s').rows
either_kept size true s s' kept kept' = kept
either_kept size false s s' kept kept' = kept'

pub kept_visited : (size : ℕ) (p p' : Plain) (f : ℕ) (w : Word) → AreTold size p.rows → seen_of p' ≡ visited (seen_of p) f w → AreTold size p'.rows
kept_visited size p p' f w kept new = subst (λ (rows : List Row). AreTold size rows) (sym (ap (λ (s : FramesSeen). s.rows) new))
    (either_kept size (is_owed (seen_of p) f)
    (record (with_row (noted (seen_of p) f w) f (held_row (row_at (seen_of p) f))) { owed = None }) (record (noted (seen_of p) f w) { visit = Some f })
    (fixed_kept size (Some f) p.rows kept) kept)

pub kept_left : (size : ℕ) (p p' : Plain) (f : ℕ) (w : Word) → AreTold size p.rows → seen_of p' ≡ left (seen_of p) f w → AreTold size p'.rows
kept_left size p p' f w kept new = subst (λ (rows : List Row). AreTold size rows) (sym (ap (λ (s : FramesSeen). s.rows) new)) kept

some_sized : (size : ℕ) (image : Option (Option Content)) → IsImageSized size image → IsSome image
    → IsSomeAnd image (λ told. IsSomeAnd told (λ c. length c.bytes ≡ size))
some_sized size None sized some = absurd (false≢true some)
some_sized size (Some told) sized some = sized

-- the image of a page that is uncovered has the size that the history tells
pub uncovered_outside : (t : Telling) (f : ℕ) (image : Option (Option Content)) → AreTold (page_bytes t.history.config.page) t.plain.rows
    → (row_at (seen_of t.plain) f).latched ≡ false → IsUncovered (seen_of t.plain) f image → IsUncovered (telling_seen t) f image
uncovered_outside t f image kept unlatched told =
    let size : ℕ = page_bytes t.history.config.page in
    let row : Row = row_at (seen_of t.plain) f in
    let here : IsKept size row = any_kept size t.plain.rows f kept in
    record {
      told = told.told;
      its = λ resident. record {
        sized = some_sized size image (uncovered_sized size row.image image here.sized told.told) (image_there row.image image (here.there resident unlatched) told.told);
        valued = search rules;
      };
    }

module _ {T : Type 0} where
  -- the list that is pushed to, the newest first
  pub newest_first : (tell : T → Entry) (items : List T) (item : T) → reverse (map tell (items ++ item ∷ [])) ≡ tell item ∷ reverse (map tell items)
  newest_first tell items item = ap reverse (map-append tell items (item ∷ [])) ∙ reverse-append (map tell items) (tell item ∷ [])
