use Rattle.std.specs.Prelude.{ℕ, List, ◌≡◌, ◌≢◌}
use Rattle.page_ids.specs.Layout.{IsBlank, page_number, page_space, lsn_head, lsn_tail}
use Rattle.page_ids.specs.declared.ids.PageId.{PageId}
use Rattle.page_ids.specs.declared.layout.BadPage.{BadPage}
use Rattle.page_ids.specs.declared.layout.BadPage.TheVariants.{Number, Space, Torn}

-- The first reason why bytes are no page of the id, with what was found.
abbrev pub IsBadPage : PageId → List ℕ → BadPage → Type 0
IsBadPage p bytes (Number found) = (IsBlank bytes → ⊥) × (found ≡ page_number bytes) × (found ≢ p.page)
IsBadPage p bytes (Space found) = (IsBlank bytes → ⊥) × (page_number bytes ≡ p.page) × (found ≡ page_space bytes) × (found ≢ p.space)
IsBadPage p bytes (Torn head tail) = (IsBlank bytes → ⊥) × (page_number bytes ≡ p.page) × (page_space bytes ≡ p.space) × (head ≡ lsn_head bytes) × (tail ≡ lsn_tail bytes) × (head ≢ tail)
