-- Pieces in a log that grows.
use Rattle.std.proofs.Common.{◌≡◌, ℕ, ◌+◌, ◌≤◌, ◌<◌, ◌++◌, List, [], ◌∷◌, length, refl, sym, ap, ◌∙◌, arith, append_assoc, length-append}
use Rattle.std.proofs.lemmas.List.{append-nil}
use Rattle.redo_log.specs.declared.view.Piece.{Piece}
use Rattle.redo_log.specs.declared.view.Story.{Story}
use Rattle.redo_log.specs.Story.{end_of, longer, size_of, StandsInLog, StandAll}

-- a piece stands still where more is put behind it
pub stands_more : (s : Story) (more : List ℕ) (p : Piece) → StandsInLog s p → StandsInLog (longer s more) p
stands_more s more p h = (h.0, h.1 ++ more, ap (λ l. l ++ more) h.2 ∙ append_assoc (h.0 ++ p.bytes) h.1 more, h.3, h.4)

pub stand_all_more : (s : Story) (more : List ℕ) (ps : List Piece) → StandAll s ps → StandAll (longer s more) ps
stand_all_more s more [] all = tt
stand_all_more s more (p ∷ ps) all = (stands_more s more p all.0, stand_all_more s more ps all.1)

-- the piece that was put behind
pub stands_new : (s : Story) (p : Piece) → p.start ≡ end_of s → 0 < length p.bytes → StandsInLog (longer s p.bytes) p
stands_new s p is some = (s.bytes, [], sym (append-nil (s.bytes ++ p.bytes)), sym is, some)

pub stand_all_append : (s : Story) (ps qs : List Piece) → StandAll s ps → StandAll s qs → StandAll s (ps ++ qs)
stand_all_append s [] qs all more = more
stand_all_append s (p ∷ ps) qs all more = (all.0, stand_all_append s ps qs all.1 more)

-- pieces have their bytes together
pub size-append : (ps qs : List Piece) → size_of (ps ++ qs) ≡ size_of ps + size_of qs
size-append [] qs = omega arith
size-append (p ∷ ps) qs = let rest = size-append ps qs in omega (arith, rest)

pub stand_all_left : (s : Story) (ps qs : List Piece) → StandAll s (ps ++ qs) → StandAll s ps
stand_all_left s [] qs all = tt
stand_all_left s (p ∷ ps) qs all = (all.0, stand_all_left s ps qs all.1)

pub stand_all_right : (s : Story) (ps qs : List Piece) → StandAll s (ps ++ qs) → StandAll s qs
stand_all_right s [] qs all = all
stand_all_right s (p ∷ ps) qs all = stand_all_right s ps qs all.1

-- a story is known by its opening and its bytes
pub same_bytes : (s t : Story) (ps : List Piece) → t.opened ≡ s.opened → t.bytes ≡ s.bytes → StandAll s ps → StandAll t ps
same_bytes s t [] opened bytes all = tt
same_bytes s t (p ∷ ps) opened bytes all =
    let h = all.0 in
    ((h.0, h.1, bytes ∙ h.2, (let e = h.3 in omega (arith, opened, e)), h.4), same_bytes s t ps opened bytes all.1)

-- in an empty log nothing stands
pub none_stand : (s t : Story) (ps : List Piece) → s.bytes ≡ [] → StandAll s ps → StandAll t ps
none_stand s t [] empty all = tt
none_stand s t (p ∷ ps) empty all =
    let h = all.0 in
    let one = length-append (h.0 ++ p.bytes) h.1 in
    let two = length-append h.0 p.bytes in
    let len = ap length h.2 in
    let none = ap length empty in
    let some = h.4 in absurd (omega (arith, one, two, len, none, some))
