-- The rule of the marks, which are three words: the end, the durable mark and the count of faults.
use Rattle.std.specs.Prelude.{◌≡◌, ℕ, ◌+◌, ◌-◌, ◌≤◌, min, max, true, false, List, [], ◌∷◌, ◌++◌, length, slice_index}
use mathlib.Core.Option.{some}
use lib.ListN.{get_elem?}
use Rattle.redo_log.specs.declared.view.TheConstants.{SHARES}
use Rattle.redo_log.specs.declared.view.Piece.{Piece}
use Rattle.redo_log.specs.declared.view.Story.{Story}
use Rattle.redo_log.specs.declared.view.View.{View}
use Rattle.redo_log.specs.Story.{end_of, longer, size_of, StandAll}

abbrev pub words_of : Story → List ℕ
words_of s = end_of s ∷ s.durable ∷ s.faults ∷ []

-- no log was opened yet
abbrev pub no_story : Story
no_story = record { opened = 0; bytes = []; durable = 0; faults = 0 }

-- a view that knows nothing
abbrev pub blank : View
blank = record { keeps = false; story = no_story; end = 0; durable = 0; faults = 0; met = 0; pieces = []; share = 0; lost = 0 }

-- the first view: it is the keeper's, and has all shares
abbrev pub first_view : View
first_view = record blank { keeps = true; share = SHARES }

-- what a view knows is so, where so many shares are lost: its marks are no later than the story's, its pieces stand, and the keeper knows
-- the whole story
pub record Fits (s : Story) (lost keeper j : ℕ) (v : View) : Type 0 where
  pub end : v.end ≤ end_of s
  pub durable : v.durable ≤ s.durable
  pub faults : v.faults ≤ s.faults
  pub pieces : StandAll s v.pieces
  pub lost_le : v.lost ≤ lost
  pub none : lost ≡ 0 → v.share ≡ 0 → (v.pieces ≡ []) × (v.met ≡ 0)
  pub keeps : v.keeps ≡ true → (j ≡ keeper) × (v.story ≡ s)

-- what these views have together
abbrev pub total : (View → ℕ) → List View → ℕ
total f [] = 0
total f (v ∷ vs) = f v + total f vs

abbrev pub share_of : View → ℕ
share_of v = v.share

abbrev pub met_of : View → ℕ
met_of v = v.met

abbrev pub bytes_of : View → ℕ
bytes_of v = size_of v.pieces

-- a durable mark lies in its log
pub record IsSoundStory (s : Story) : Type 0 where
  pub low : s.opened ≤ s.durable
  pub high : s.durable ≤ end_of s

-- the words are those of some story, of which each view knows a part and one view the whole; and where no share is lost, each byte and each
-- fault is some view's
pub record Kept (marks : List ℕ) (views : List View) : Type 0 where
  pub story : Story
  pub keeper : ℕ
  pub lost : ℕ
  pub words : marks ≡ words_of story
  pub sound : IsSoundStory story
  pub each : (j : ℕ) (v : View) → get_elem? views j ≡ some v → Fits story lost keeper j v
  pub shares : total share_of views + min 1 lost ≤ SHARES
  pub bytes : lost ≡ 0 → total bytes_of views ≡ length story.bytes
  pub mets : lost ≡ 0 → total met_of views ≡ story.faults

-- the view with the keeper's part of another
abbrev pub taken : View → View → View
taken v w = record v { keeps = true; story = w.story }

-- the view without the keeper's part, and that part alone
abbrev pub left : View → View
left v = record v { keeps = false; story = no_story }

abbrev pub keeper_of : View → View
keeper_of v = record blank { keeps = true; story = v.story }

-- a new view with the same marks, that met no fault, without a piece or a share
abbrev pub again : View → View
again v = record blank { end = v.end; durable = v.durable; faults = v.faults }

-- the same with a share, and the view that gave it: where that has no second one, it is lost
abbrev pub shared : View → View
shared v = record (again v) { share = min 1 (v.share - 1); lost = v.lost + (2 - v.share) }

abbrev pub less : View → View
less v = record v { share = v.share - 1; lost = v.lost + (2 - v.share) }

-- the view with what another knows
abbrev pub joined : View → View → View
joined v w = record v {
  end = max v.end w.end;
  durable = max v.durable w.durable;
  faults = max v.faults w.faults;
  met = v.met + w.met;
  pieces = v.pieces ++ w.pieces;
  share = v.share + w.share;
  lost = max v.lost w.lost;
}

-- the view that has seen the marks of this story
abbrev pub looked : View → Story → View
looked v s = record v { end = end_of s; durable = s.durable; faults = s.faults }

-- the keeper's view, once the story is this one
abbrev pub told : View → Story → View
told v s = looked (record v { story = s }) s

-- the keeper's view, once this piece was put at the log's end
abbrev pub appended : View → Piece → View
appended v p = record (told v (longer v.story p.bytes)) { pieces = v.pieces ++ p ∷ [] }

-- the keeper's view, once a log was opened: the faults so far are its own
abbrev pub begun : View → ℕ → ℕ → ℕ → View
begun v end durable faults = record (told v record { opened = end; bytes = []; durable = durable; faults = faults }) { met = faults }

-- the keeper's view, once the durable mark and the count of faults are these: the faults that came are its own
abbrev pub raised : View → ℕ → ℕ → View
raised v durable faults = record (told v record v.story { durable = durable; faults = faults }) { met = v.met + (faults - v.story.faults) }

-- what a step of the keeper tells, by the words that it puts
abbrev pub Opens : View → List ℕ → List ℕ → View → Type 0
Opens v x y w = w ≡ begun v (slice_index y 0) (slice_index y 1) (slice_index y 2)

abbrev pub Rises : View → List ℕ → List ℕ → View → Type 0
Rises v x y w = w ≡ raised v (slice_index y 1) (slice_index y 2)

abbrev pub AppendsPiece : Piece → View → List ℕ → List ℕ → View → Type 0
AppendsPiece p v x y w = w ≡ appended v p

-- what a look at the words tells: the view has these marks then, which did not fall; and the keeper knows where the log stands
pub record Looks (v : View) (x y : List ℕ) (w : View) : Type 0 where
  pub words : x ≡ w.end ∷ w.durable ∷ w.faults ∷ []
  pub end : v.end ≤ w.end
  pub durable : v.durable ≤ w.durable
  pub faults : v.faults ≤ w.faults
  pub high : w.durable ≤ w.end
  pub same : (w.keeps ≡ v.keeps) × (w.story ≡ v.story) × (w.pieces ≡ v.pieces) × (w.met ≡ v.met) × (w.share ≡ v.share) × (w.lost ≡ v.lost)
  pub whole : v.keeps ≡ true → (w ≡ told v v.story) × IsSoundStory v.story × StandAll v.story v.pieces
      × (v.share ≡ SHARES → (bytes_of v ≡ length v.story.bytes) × (v.met ≡ v.story.faults))
