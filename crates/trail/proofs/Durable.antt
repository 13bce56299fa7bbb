-- Where no page is dirty, the log was made durable behind the last change.
use Rattle.std.proofs.Common.{◌≡◌, ◌≤◌, ℕ, Bool, true, false, List, [], ◌∷◌, ◌⊎◌, inl, inr, Option, None, Some, refl, ap, ◌∙◌, sym, arith}
use Rattle.page_ids.specs.Same.{same_page}
use Rattle.page_ids.specs.declared.ids.PageId.{PageId}
use Rattle.trail.specs.declared.event.Dirty.{Dirty}
use Rattle.trail.specs.declared.event.Entry.{Entry}
use Rattle.trail.specs.declared.event.Event.{Event}
use Rattle.trail.specs.declared.event.Event.TheVariants as event
use Rattle.trail.specs.declared.event.Kind.{Kind}
use Rattle.trail.specs.declared.event.Kind.TheVariants as kind
use Rattle.std.specs.Prelude.{IfSome}
use Rattle.trail.specs.Covered.{IsCoveredWrite}
use Rattle.trail.specs.Kinds.{write_in}
use Rattle.trail.specs.Saved.{AreDurable}
use Rattle.trail.specs.Dirt.{dirtied, cleaned, dirty, dirty_after, dirt_of, log_end, log_end_after}
use Rattle.trail.specs.Laws.{AreLawful}
use Rattle.trail.specs.Trails.{Opening, entries}
use Rattle.page_ids.proofs.Basics.{one_page}
use Rattle.trail.proofs.DirtyPages.{cleaned_other, dirtied_same, changed}

-- the last change is durable, or its page is dirty with its end as the newest LSN
abbrev Reaches : ℕ → List Dirty → ℕ → Type 0
Reaches durable ds end = (end ≤ durable) ⊎ ((p : PageId) × (d : Dirty) × (dirt_of ds p ≡ Some d) × (d.newest ≡ end))

changed_newest : (q : PageId) (start end : ℕ) (found : Option Dirty) → (changed q start end found).newest ≡ end
changed_newest q start end None = refl
changed_newest q start end (Some d) = refl

reaches_changed : (durable : ℕ) (ds : List Dirty) (q : PageId) (start end : ℕ) → Reaches durable (dirtied q start end ds) end
reaches_changed durable ds q start end = inr (q, changed q start end (dirt_of ds q), dirtied_same q start end ds, changed_newest q start end (dirt_of ds q))

reaches_written : (durable : ℕ) (h : List Entry) (end : ℕ) (q : PageId) (lsn upto : ℕ) → IsCoveredWrite h q lsn upto → upto ≤ durable → Reaches durable (dirty h) end → Reaches durable (cleaned q (dirty h)) end
reaches_written durable h end q lsn upto covered le (inl done) = inl done
reaches_written durable h end q lsn upto covered le (inr (p, d, found, newest)) = cases (same_page q p) refl
  where
    cases : (b : Bool) → same_page q p ≡ b → Reaches durable (cleaned q (dirty h)) end
    cases true t =
        let same : Some covered.dirt ≡ Some d = sym covered.is_dirty ∙ ap (dirt_of (dirty h)) (one_page q p t) ∙ found in
        let one : covered.dirt ≡ d = cc in
        let its : covered.dirt.newest ≡ d.newest = ap (λ (x : Dirty). x.newest) one in
        inl (omega (arith, covered.newest, covered.logged, its, newest, le))
    cases false t = inr (p, d, cleaned_other q p (dirty h) t ∙ found, newest)

reaches_after : (durable : ℕ) (h : List Entry) (end : ℕ) (k : Kind) → IfSome (write_in k) (λ w. IsCoveredWrite h w.page w.lsn w.upto) → IfSome (write_in k) (λ w. w.upto ≤ durable) → Reaches durable (dirty h) end → Reaches durable (dirty_after k (dirty h)) (log_end_after k end)
reaches_after durable h end (kind.Load q f) covered le was = was
reaches_after durable h end (kind.Fix q f clock now) covered le was = was
reaches_after durable h end (kind.Create q f from to now) covered le was = reaches_changed durable (dirty h) q from to
reaches_after durable h end (kind.Put q at bytes from to) covered le was = reaches_changed durable (dirty h) q from to
reaches_after durable h end (kind.Evict q f passed) covered le was = was
reaches_after durable h end (kind.Write q lsn upto) covered le was = reaches_written durable h end q lsn upto covered le was
reaches_after durable h end (kind.Move q from to) covered le was = was
reaches_after durable h end (kind.Withdraw from) covered le was = was
reaches_after durable h end (kind.Undo from) covered le was = was
reaches_after durable h end (kind.Shrink chunks) covered le was = was
reaches_after durable h end (kind.Grow chunks) covered le was = was
reaches_after durable h end (kind.Resize bytes chunks) covered le was = was
reaches_after durable h end (kind.Clean written skipped) covered le was = was
reaches_after durable h end (kind.Check lsn) covered le was = was
reaches_after durable h end (kind.WatchSet q) covered le was = was
reaches_after durable h end (kind.WatchAt q f) covered le was = was
reaches_after durable h end (kind.Occurred q arrived) covered le was = was
reaches_after durable h end (kind.Unwatch q) covered le was = was
reaches_after durable h end (kind.Dump pct ids) covered le was = was
reaches_after durable h end (kind.Refused asked why) covered le was = was

reaches : (o : Opening) (sole : Option ℕ) (past : List Event) (durable : ℕ) → AreLawful o sole past → AreDurable durable (entries past) → Reaches durable (dirty (entries past)) (log_end (entries past))
reaches o sole [] durable good written = inl (omega arith)
reaches o sole (event.Entry e ∷ past) durable good written = reaches_after durable (entries past) (log_end (entries past)) e.kind good.0.covered written.0 (reaches o sole past durable good.1 written.1)
reaches o sole (event.Receipt r ∷ past) durable good written = reaches o sole past durable good.1 written

none_dirty : (durable : ℕ) (ds : List Dirty) (end : ℕ) → ds ≡ [] → Reaches durable ds end → end ≤ durable
none_dirty durable ds end none (inl le) = le
none_dirty durable ds end none (inr (p, d, found, newest)) = let bad : None ≡ Some d = sym (ap (λ (l : List Dirty). dirt_of l p) none) ∙ found in absurd (cc)

pub clean_durable : (o : Opening) (sole : Option ℕ) (past : List Event) (durable : ℕ) → AreLawful o sole past → AreDurable durable (entries past) → dirty (entries past) ≡ [] → log_end (entries past) ≤ durable
clean_durable o sole past durable good written none = none_dirty durable (dirty (entries past)) (log_end (entries past)) none (reaches o sole past durable good written)
