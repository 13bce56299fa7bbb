-- A note is read from its words.
use Rattle.std.proofs.Common.{ℕ, List, [], ◌∷◌, ◌++◌, ◌≡◌, Option, None, Some, refl, ap, append_assoc, if◌then◌else◌}
use Rattle.std.specs.Prelude.{codes}
use Rattle.std.specs.Fmt.{decimal}
use Rattle.std.specs.Str.{bytes_eq}
use Rattle.std.proofs.lemmas.List.{append-nil}
use Rattle.page_ids.specs.Spelling.{page_text, hex}
use Rattle.trail.specs.declared.event.Note.{Note}
use Rattle.trail.specs.declared.event.Note.TheVariants as note
use Rattle.trail.specs.Spelling.{note_text}
use Rattle.trail.specs.Typed.{NoteFits}
use Rattle.trail.proofs.Visible.{AreVisible, both_visible, page_visible, small_visible, number_visible, hex_visible}
use Rattle.trail.proofs.Cuts.{spelled}
use Rattle.trail.proofs.Words.{◌>>=◌, reads, done, u32, u64, page_of, hex_of, page_read, read32, read64, hex_read}
use Rattle.trail.proofs.CallWords.{call_words, call_of, call_read, call_visible}
use Rattle.trail.proofs.CauseWords.{cause_words, cause_of, cause_read, cause_visible}
use Rattle.trail.proofs.KindWords.{refused_spelled}

abbrev pub note_words : Note → List (List ℕ)
note_words (note.Granted p frame clock) = codes "granted" ∷ page_text p ∷ decimal frame ∷ decimal clock ∷ []
note_words (note.Copied p at bytes clock) = codes "copied" ∷ page_text p ∷ decimal at ∷ hex bytes ∷ decimal clock ∷ []
note_words (note.Unfixed p frame fix) = codes "unfixed" ∷ page_text p ∷ decimal frame ∷ decimal fix ∷ []
note_words (note.Refused c why) = codes "refused" ∷ (call_words c ++ cause_words why)

abbrev pub note_of : List (List ℕ) → Option Note
note_of [] = None
note_of (w ∷ ws) =
    if bytes_eq w (codes "granted") then reads page_of ws (λ p ws. reads u32 ws (λ frame ws. reads u64 ws (λ clock ws. done (note.Granted p frame clock) ws))) else
    if bytes_eq w (codes "copied") then reads page_of ws (λ p ws. reads u32 ws (λ at ws. reads hex_of ws (λ bytes ws. reads u64 ws (λ clock ws. done (note.Copied p at bytes clock) ws)))) else
    if bytes_eq w (codes "unfixed") then reads page_of ws (λ p ws. reads u32 ws (λ frame ws. reads u32 ws (λ fix ws. done (note.Unfixed p frame fix) ws))) else
    if bytes_eq w (codes "refused") then (call_of ws >>= λ r. cause_of r.1 >>= λ why. Some (note.Refused r.0 why)) else
    None

pub note_read : (k : Note) → NoteFits k → note_of (note_words k) ≡ Some k
note_read (note.Granted p frame clock) h = rw (page_read p h.0) (rw (read32 frame h.1) (rw (read64 clock h.2) refl))
note_read (note.Copied p at bytes clock) h = rw (page_read p h.0) (rw (read32 at h.1) (rw (hex_read bytes h.2) (rw (read64 clock h.3) refl)))
note_read (note.Unfixed p frame fix) h = rw (page_read p h.0) (rw (read32 frame h.1) (rw (read32 fix h.2) refl))
note_read (note.Refused c why) h = rw (call_read c (cause_words why) h.0) (rw (cause_read why h.1) refl)

pub note_visible : (k : Note) → NoteFits k → AreVisible (note_words k)
note_visible (note.Granted p frame clock) h = (refl, (page_visible p h.0, (small_visible frame h.1, (number_visible clock h.2, tt))))
note_visible (note.Copied p at bytes clock) h = (refl, (page_visible p h.0, (small_visible at h.1, (hex_visible bytes h.2, (number_visible clock h.3, tt)))))
note_visible (note.Unfixed p frame fix) h = (refl, (page_visible p h.0, (small_visible frame h.1, (small_visible fix h.2, tt))))
note_visible (note.Refused c why) h = (refl, both_visible (call_words c) (cause_words why) (call_visible c h.0) (cause_visible why h.1))

pub note_spelled : (k : Note) → 32 ∷ note_text k ≡ spelled (note_words k)
note_spelled (note.Granted p frame clock) = simp (append_assoc, append-nil)
note_spelled (note.Copied p at bytes clock) = simp (append_assoc, append-nil)
note_spelled (note.Unfixed p frame fix) = simp (append_assoc, append-nil)
note_spelled (note.Refused c why) = ap (λ t. 32 ∷ codes "refused" ++ t) (refused_spelled c why)
