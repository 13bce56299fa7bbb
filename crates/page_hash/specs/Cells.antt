-- The cells of a page hash: chains of frames, by what page each frame has.
use Rattle.std.specs.Prelude.{ℕ, Bool, false, List, Option, None, Some, ◌≡◌, ◌==◌, ◌+◌, ◌*◌, ◌%◌, ◌^◌, length, slice_get, if◌then◌else◌}
use Rattle.link_lists.specs.Grid.{Grid, times}
use Rattle.link_lists.specs.Chains.{Ends, IsChain}
use Rattle.page_ids.specs.declared.ids.PageId.{PageId}

-- a page's number among all, by which it is spread over the cells
abbrev pub fold_of : PageId → ℕ
fold_of p = p.space * 2 ^ 20 + p.space + p.page

-- the cell of a page, of so many
abbrev pub cell_of : ℕ → PageId → ℕ
cell_of cells p = fold_of p % cells

-- whether a frame that has this page, or none, belongs into the cell
abbrev pub falls_into : ℕ → ℕ → Option PageId → Bool
falls_into cells c None = false
falls_into cells c (Some p) = cell_of cells p == c

-- the pages of the frames, behind a change of one
abbrev pub with_page : ℕ → Option PageId → (ℕ → Option PageId) → ℕ → Option PageId
with_page frame page at f = if f == frame then page else at f

-- the chain is a list of just the frames whose pages fall into the cell, each once
pub record IsCell (g : Grid) (chain : Ends) (at : ℕ → Option PageId) (cells c : ℕ) : Type 0 where
  pub pair : chain.pair ≡ 0
  pub frames : List ℕ
  pub chain_is : IsChain g chain frames
  pub counted : (f : ℕ) → times f frames ≡ (if falls_into cells c (at f) then 1 else 0)

-- each of the chains is its cell's
abbrev pub AreFiled : Grid → List Ends → (ℕ → Option PageId) → Type 0
AreFiled g cells at = (c : ℕ) (chain : Ends) → slice_get cells c ≡ Some chain → IsCell g chain at (length cells) c
