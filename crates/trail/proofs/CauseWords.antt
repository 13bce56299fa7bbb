-- A cause is read from its words.
use Rattle.std.proofs.Common.{ℕ, List, [], ◌∷◌, ◌++◌, ◌≡◌, Option, None, Some, refl, ap, append_assoc, if◌then◌else◌}
use Rattle.std.specs.Prelude.{codes}
use Rattle.std.specs.Fmt.{decimal}
use Rattle.std.specs.Str.{bytes_eq}
use Rattle.std.proofs.lemmas.List.{append-nil}
use Rattle.page_ids.specs.FrameWord.{word_text}
use Rattle.page_ids.specs.Spelling.{page_text, words_text}
use Rattle.page_ids.specs.declared.layout.BadPage.{BadPage}
use Rattle.page_ids.specs.declared.layout.BadPage.TheVariants as bad
use Rattle.trail.specs.declared.event.Cause.{Cause}
use Rattle.trail.specs.declared.event.Cause.TheVariants as cause
use Rattle.trail.specs.Spelling.{cause_text, bad_text}
use Rattle.trail.specs.Typed.{CauseFits, BadFits}
use Rattle.trail.proofs.Visible.{AreVisible, page_visible, small_visible, number_visible, word_visible, frames_visible}
use Rattle.trail.proofs.Cuts.{spelled}
use Rattle.trail.proofs.Words.{◌>>=◌, reads, done, u32, u64, page_of, frame_word_of, frames_of, page_read, read32, read64, frame_word_read, frames_read}

-- why bytes are no page
abbrev pub bad_words : BadPage → List (List ℕ)
bad_words (bad.Number found) = codes "Number" ∷ decimal found ∷ []
bad_words (bad.Space found) = codes "Space" ∷ decimal found ∷ []
bad_words (bad.Torn head tail) = codes "Torn" ∷ decimal head ∷ decimal tail ∷ []

abbrev pub bad_of : List (List ℕ) → Option BadPage
bad_of [] = None
bad_of (w ∷ ws) =
    if bytes_eq w (codes "Number") then reads u32 ws (λ found ws. done (bad.Number found) ws) else
    if bytes_eq w (codes "Space") then reads u32 ws (λ found ws. done (bad.Space found) ws) else
    if bytes_eq w (codes "Torn") then reads u32 ws (λ head ws. reads u32 ws (λ tail ws. done (bad.Torn head tail) ws)) else
    None

bad_read : (b : BadPage) → BadFits b → bad_of (bad_words b) ≡ Some b
bad_read (bad.Number found) h = rw (read32 found h) refl
bad_read (bad.Space found) h = rw (read32 found h) refl
bad_read (bad.Torn head tail) h = rw (read32 head h.0) (rw (read32 tail h.1) refl)

bad_visible : (b : BadPage) → BadFits b → AreVisible (bad_words b)
bad_visible (bad.Number found) h = (refl, (small_visible found h, tt))
bad_visible (bad.Space found) h = (refl, (small_visible found h, tt))
bad_visible (bad.Torn head tail) h = (refl, (small_visible head h.0, (small_visible tail h.1, tt)))

bad_spelled : (b : BadPage) → 32 ∷ bad_text b ≡ spelled (bad_words b)
bad_spelled (bad.Number found) = simp (append_assoc, append-nil)
bad_spelled (bad.Space found) = simp (append_assoc, append-nil)
bad_spelled (bad.Torn head tail) = simp (append_assoc, append-nil)

abbrev pub cause_words : Cause → List (List ℕ)
cause_words (cause.PlacesSpent mark need) = codes "PlacesSpent" ∷ decimal mark ∷ decimal need ∷ []
cause_words (cause.NoSuchPage pages) = codes "NoSuchPage" ∷ decimal pages ∷ []
cause_words (cause.HoldFull held) = codes "HoldFull" ∷ decimal held ∷ []
cause_words (cause.Resident frame) = codes "Resident" ∷ decimal frame ∷ []
cause_words (cause.AllFixed seen) = codes "AllFixed" ∷ words_text seen ∷ []
cause_words (cause.RedoFault before after) = codes "RedoFault" ∷ decimal before ∷ decimal after ∷ []
cause_words (cause.DiskFault before after) = codes "DiskFault" ∷ decimal before ∷ decimal after ∷ []
cause_words (cause.BadPage why) = codes "BadPage" ∷ bad_words why
cause_words (cause.LogSpent end) = codes "LogSpent" ∷ decimal end ∷ []
cause_words (cause.WatchFull watches) = codes "WatchFull" ∷ decimal watches ∷ []
cause_words cause.NoWatch = codes "NoWatch" ∷ []
cause_words cause.TooSmall = codes "TooSmall" ∷ []
cause_words (cause.TooLarge chunks max) = codes "TooLarge" ∷ decimal chunks ∷ decimal max ∷ []
cause_words (cause.Withdrawing from) = codes "Withdrawing" ∷ decimal from ∷ []
cause_words (cause.Undone seen) = codes "Undone" ∷ words_text seen ∷ []
cause_words (cause.NoFrame frames) = codes "NoFrame" ∷ decimal frames ∷ []
cause_words (cause.Stale found) = codes "Stale" ∷ word_text found ∷ []
cause_words (cause.OtherPage found) = codes "OtherPage" ∷ page_text found ∷ []
cause_words (cause.Latched found) = codes "Latched" ∷ word_text found ∷ []
cause_words (cause.Busy found) = codes "Busy" ∷ word_text found ∷ []
cause_words cause.Unheld = codes "Unheld" ∷ []

abbrev pub cause_of : List (List ℕ) → Option Cause
cause_of [] = None
cause_of (w ∷ ws) =
    if bytes_eq w (codes "PlacesSpent") then reads u64 ws (λ mark ws. reads u64 ws (λ need ws. done (cause.PlacesSpent mark need) ws)) else
    if bytes_eq w (codes "NoSuchPage") then reads u32 ws (λ pages ws. done (cause.NoSuchPage pages) ws) else
    if bytes_eq w (codes "HoldFull") then reads u32 ws (λ held ws. done (cause.HoldFull held) ws) else
    if bytes_eq w (codes "Resident") then reads u32 ws (λ frame ws. done (cause.Resident frame) ws) else
    if bytes_eq w (codes "AllFixed") then reads frames_of ws (λ seen ws. done (cause.AllFixed seen) ws) else
    if bytes_eq w (codes "RedoFault") then reads u64 ws (λ before ws. reads u64 ws (λ after ws. done (cause.RedoFault before after) ws)) else
    if bytes_eq w (codes "DiskFault") then reads u64 ws (λ before ws. reads u64 ws (λ after ws. done (cause.DiskFault before after) ws)) else
    if bytes_eq w (codes "BadPage") then (bad_of ws >>= λ why. Some (cause.BadPage why)) else
    if bytes_eq w (codes "LogSpent") then reads u64 ws (λ end ws. done (cause.LogSpent end) ws) else
    if bytes_eq w (codes "WatchFull") then reads u32 ws (λ watches ws. done (cause.WatchFull watches) ws) else
    if bytes_eq w (codes "NoWatch") then done cause.NoWatch ws else
    if bytes_eq w (codes "TooSmall") then done cause.TooSmall ws else
    if bytes_eq w (codes "TooLarge") then reads u32 ws (λ chunks ws. reads u32 ws (λ max ws. done (cause.TooLarge chunks max) ws)) else
    if bytes_eq w (codes "Withdrawing") then reads u32 ws (λ from ws. done (cause.Withdrawing from) ws) else
    if bytes_eq w (codes "Undone") then reads frames_of ws (λ seen ws. done (cause.Undone seen) ws) else
    if bytes_eq w (codes "NoFrame") then reads u32 ws (λ frames ws. done (cause.NoFrame frames) ws) else
    if bytes_eq w (codes "Stale") then reads frame_word_of ws (λ found ws. done (cause.Stale found) ws) else
    if bytes_eq w (codes "OtherPage") then reads page_of ws (λ found ws. done (cause.OtherPage found) ws) else
    if bytes_eq w (codes "Latched") then reads frame_word_of ws (λ found ws. done (cause.Latched found) ws) else
    if bytes_eq w (codes "Busy") then reads frame_word_of ws (λ found ws. done (cause.Busy found) ws) else
    if bytes_eq w (codes "Unheld") then done cause.Unheld ws else
    None

pub cause_read : (c : Cause) → CauseFits c → cause_of (cause_words c) ≡ Some c
cause_read (cause.PlacesSpent mark need) h = rw (read64 mark h.0) (rw (read64 need h.1) refl)
cause_read (cause.NoSuchPage pages) h = rw (read32 pages h) refl
cause_read (cause.HoldFull held) h = rw (read32 held h) refl
cause_read (cause.Resident frame) h = rw (read32 frame h) refl
cause_read (cause.AllFixed seen) h = rw (frames_read seen h) refl
cause_read (cause.RedoFault before after) h = rw (read64 before h.0) (rw (read64 after h.1) refl)
cause_read (cause.DiskFault before after) h = rw (read64 before h.0) (rw (read64 after h.1) refl)
cause_read (cause.BadPage why) h = rw (bad_read why h) refl
cause_read (cause.LogSpent end) h = rw (read64 end h) refl
cause_read (cause.WatchFull watches) h = rw (read32 watches h) refl
cause_read cause.NoWatch h = refl
cause_read cause.TooSmall h = refl
cause_read (cause.TooLarge chunks max) h = rw (read32 chunks h.0) (rw (read32 max h.1) refl)
cause_read (cause.Withdrawing from) h = rw (read32 from h) refl
cause_read (cause.Undone seen) h = rw (frames_read seen h) refl
cause_read (cause.NoFrame frames) h = rw (read32 frames h) refl
cause_read (cause.Stale found) h = rw (frame_word_read found h) refl
cause_read (cause.OtherPage found) h = rw (page_read found h) refl
cause_read (cause.Latched found) h = rw (frame_word_read found h) refl
cause_read (cause.Busy found) h = rw (frame_word_read found h) refl
cause_read cause.Unheld h = refl

pub cause_visible : (c : Cause) → CauseFits c → AreVisible (cause_words c)
cause_visible (cause.PlacesSpent mark need) h = (refl, (number_visible mark h.0, (number_visible need h.1, tt)))
cause_visible (cause.NoSuchPage pages) h = (refl, (small_visible pages h, tt))
cause_visible (cause.HoldFull held) h = (refl, (small_visible held h, tt))
cause_visible (cause.Resident frame) h = (refl, (small_visible frame h, tt))
cause_visible (cause.AllFixed seen) h = (refl, (frames_visible seen h, tt))
cause_visible (cause.RedoFault before after) h = (refl, (number_visible before h.0, (number_visible after h.1, tt)))
cause_visible (cause.DiskFault before after) h = (refl, (number_visible before h.0, (number_visible after h.1, tt)))
cause_visible (cause.BadPage why) h = (refl, bad_visible why h)
cause_visible (cause.LogSpent end) h = (refl, (number_visible end h, tt))
cause_visible (cause.WatchFull watches) h = (refl, (small_visible watches h, tt))
cause_visible cause.NoWatch h = (refl, tt)
cause_visible cause.TooSmall h = (refl, tt)
cause_visible (cause.TooLarge chunks max) h = (refl, (small_visible chunks h.0, (small_visible max h.1, tt)))
cause_visible (cause.Withdrawing from) h = (refl, (small_visible from h, tt))
cause_visible (cause.Undone seen) h = (refl, (frames_visible seen h, tt))
cause_visible (cause.NoFrame frames) h = (refl, (small_visible frames h, tt))
cause_visible (cause.Stale found) h = (refl, (word_visible found h, tt))
cause_visible (cause.OtherPage found) h = (refl, (page_visible found h, tt))
cause_visible (cause.Latched found) h = (refl, (word_visible found h, tt))
cause_visible (cause.Busy found) h = (refl, (word_visible found h, tt))
cause_visible cause.Unheld h = (refl, tt)

pub cause_spelled : (c : Cause) → 32 ∷ cause_text c ≡ spelled (cause_words c)
cause_spelled (cause.PlacesSpent mark need) = simp (append_assoc, append-nil)
cause_spelled (cause.NoSuchPage pages) = simp (append_assoc, append-nil)
cause_spelled (cause.HoldFull held) = simp (append_assoc, append-nil)
cause_spelled (cause.Resident frame) = simp (append_assoc, append-nil)
cause_spelled (cause.AllFixed seen) = simp (append_assoc, append-nil)
cause_spelled (cause.RedoFault before after) = simp (append_assoc, append-nil)
cause_spelled (cause.DiskFault before after) = simp (append_assoc, append-nil)
cause_spelled (cause.BadPage why) = ap (λ t. 32 ∷ codes "BadPage" ++ t) (bad_spelled why)
cause_spelled (cause.LogSpent end) = simp (append_assoc, append-nil)
cause_spelled (cause.WatchFull watches) = simp (append_assoc, append-nil)
cause_spelled cause.NoWatch = refl
cause_spelled cause.TooSmall = refl
cause_spelled (cause.TooLarge chunks max) = simp (append_assoc, append-nil)
cause_spelled (cause.Withdrawing from) = simp (append_assoc, append-nil)
cause_spelled (cause.Undone seen) = simp (append_assoc, append-nil)
cause_spelled (cause.NoFrame frames) = simp (append_assoc, append-nil)
cause_spelled (cause.Stale found) = simp (append_assoc, append-nil)
cause_spelled (cause.OtherPage found) = simp (append_assoc, append-nil)
cause_spelled (cause.Latched found) = simp (append_assoc, append-nil)
cause_spelled (cause.Busy found) = simp (append_assoc, append-nil)
cause_spelled cause.Unheld = refl
