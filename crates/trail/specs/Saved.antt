-- What of a page was last written, as a history says, and how far the log was durable then. The newest entry stands first.
use Rattle.std.specs.Prelude.{ℕ, Bool, true, false, List, [], ◌∷◌, ◌≤◌, Option, IfSome, ⊤, if◌then◌else◌}
use Rattle.std.specs.Option.{option_map_or}
use Rattle.page_ids.specs.Content.{Content}
use Rattle.page_ids.specs.Same.{same_page}
use Rattle.page_ids.specs.declared.ids.PageId.{PageId}
use Rattle.trail.specs.declared.event.Kind.{Kind}
use Rattle.trail.specs.declared.event.Entry.{Entry}
use Rattle.trail.specs.Kinds.{Writing, write_in}
use Rattle.trail.specs.History.{value}

abbrev pub written_after : Kind → PageId → Bool → Bool
written_after k p before = option_map_or (λ (w : Writing). if same_page w.page p then true else before) (write_in k) before

-- whether the page was ever written
abbrev pub is_written : List Entry → PageId → Bool
is_written [] p = false
is_written (e ∷ h) p = written_after e.kind p (is_written h p)

-- at a write it is the page's value of that moment that stands on the disk from then on
abbrev pub saved_after : Kind → PageId → Option Content → Option Content → Option Content
saved_after k p current before = option_map_or (λ (w : Writing). if same_page w.page p then current else before) (write_in k) before

-- the page's value at its latest write; before the first one, what the disk gave
abbrev pub saved : ℕ → (PageId → Option Content) → List Entry → PageId → Option Content
saved size base [] p = base p
saved size base (e ∷ h) p = saved_after e.kind p (value size base h p) (saved size base h p)

-- the log is durable up to where each write says
abbrev pub AreDurable : ℕ → List Entry → Type 0
AreDurable durable [] = ⊤
AreDurable durable (e ∷ h) = IfSome (write_in e.kind) (λ w. w.upto ≤ durable) × AreDurable durable h
