-- A kind is read from its words.
use Rattle.std.proofs.Common.{ℕ, List, [], ◌∷◌, ◌++◌, ◌≡◌, ◌∙◌, Bool, true, false, Option, None, Some, refl, sym, ap, append_assoc, if◌then◌else◌}
use Rattle.std.specs.Prelude.{codes}
use Rattle.std.specs.Fmt.{decimal}
use Rattle.std.specs.Str.{bytes_eq}
use Rattle.std.proofs.lemmas.List.{append-nil}
use Rattle.page_ids.specs.Spelling.{page_text, hex, ids_text, words_text}
use Rattle.trail.specs.declared.event.Call.{Call}
use Rattle.trail.specs.declared.event.Cause.{Cause}
use Rattle.trail.specs.declared.event.Kind.{Kind}
use Rattle.trail.specs.declared.event.Kind.TheVariants as kind
use Rattle.trail.specs.Spelling.{field, call_text, cause_text, kind_text, arrived_text}
use Rattle.trail.specs.Typed.{KindFits}
use Rattle.trail.proofs.Visible.{visible, AreVisible, both_visible, page_visible, small_visible, number_visible, hex_visible, frames_visible, pages_visible}
use Rattle.trail.proofs.Cuts.{spelled}
use Rattle.trail.proofs.Words.{◌>>=◌, reads, done, u32, u64, page_of, hex_of, ids_of, frames_of, arrived_of, page_read, read32, read64, hex_read, ids_read, frames_read, arrived_read}
use Rattle.trail.proofs.CallWords.{call_words, call_of, call_read, call_visible, call_spelled}
use Rattle.trail.proofs.CauseWords.{cause_words, cause_of, cause_read, cause_visible, cause_spelled}

pub spelled-append : (ws vs : List (List ℕ)) → spelled (ws ++ vs) ≡ spelled ws ++ spelled vs
spelled-append [] vs = refl
spelled-append (w ∷ ws) vs = ap (λ t. 32 ∷ w ++ t) (spelled-append ws vs) ∙ ap (λ t. 32 ∷ t) (sym (append_assoc w (spelled ws) (spelled vs)))

pub refused_spelled : (c : Call) (why : Cause) → 32 ∷ (call_text c ++ 32 ∷ cause_text why) ≡ spelled (call_words c ++ cause_words why)
refused_spelled c why = ap (λ t. t ++ 32 ∷ cause_text why) (call_spelled c) ∙ ap (λ t. spelled (call_words c) ++ t) (cause_spelled why) ∙ sym (spelled-append (call_words c) (cause_words why))

in_row : (a b c d e : List ℕ) → (((a ++ b) ++ c) ++ d) ++ e ≡ a ++ (b ++ (c ++ (d ++ (e ++ []))))
in_row a b c d e = simp (append_assoc, append-nil)

arrived_visible : (b : Bool) → visible (arrived_text b) ≡ true
arrived_visible true = refl
arrived_visible false = refl

abbrev pub kind_words : Kind → List (List ℕ)
kind_words (kind.Load p frame) = codes "load" ∷ page_text p ∷ decimal frame ∷ []
kind_words (kind.Fix p frame clock now) = codes "fix" ∷ page_text p ∷ decimal frame ∷ decimal clock ∷ decimal now ∷ []
kind_words (kind.Create p frame start end now) = codes "create" ∷ page_text p ∷ decimal frame ∷ decimal start ∷ decimal end ∷ decimal now ∷ []
kind_words (kind.Put p at bytes start end) = codes "put" ∷ page_text p ∷ decimal at ∷ hex bytes ∷ decimal start ∷ decimal end ∷ []
kind_words (kind.Evict p frame passed) = codes "evict" ∷ page_text p ∷ decimal frame ∷ words_text passed ∷ []
kind_words (kind.Write p lsn upto) = codes "write" ∷ page_text p ∷ decimal lsn ∷ decimal upto ∷ []
kind_words (kind.Move p from to) = codes "move" ∷ page_text p ∷ decimal from ∷ decimal to ∷ []
kind_words (kind.Withdraw from) = codes "withdraw" ∷ decimal from ∷ []
kind_words (kind.Undo from) = codes "undo" ∷ decimal from ∷ []
kind_words (kind.Shrink chunks) = codes "shrink" ∷ decimal chunks ∷ []
kind_words (kind.Grow chunks) = codes "grow" ∷ decimal chunks ∷ []
kind_words (kind.Resize bytes chunks) = codes "resize" ∷ decimal bytes ∷ decimal chunks ∷ []
kind_words (kind.Clean written skipped) = codes "clean" ∷ decimal written ∷ words_text skipped ∷ []
kind_words (kind.Check lsn) = codes "checkpoint" ∷ decimal lsn ∷ []
kind_words (kind.WatchSet p) = codes "watch" ∷ page_text p ∷ codes "set" ∷ []
kind_words (kind.WatchAt p frame) = codes "watch" ∷ page_text p ∷ codes "at" ∷ decimal frame ∷ []
kind_words (kind.Occurred p arrived) = codes "seen" ∷ page_text p ∷ arrived_text arrived ∷ []
kind_words (kind.Unwatch p) = codes "unwatch" ∷ page_text p ∷ []
kind_words (kind.Dump pct ids) = codes "dump" ∷ decimal pct ∷ ids_text ids ∷ []
kind_words (kind.Refused c why) = codes "refused" ∷ (call_words c ++ cause_words why)

abbrev pub kind_of : List (List ℕ) → Option Kind
kind_of [] = None
kind_of (w ∷ ws) =
    if bytes_eq w (codes "load") then reads page_of ws (λ p ws. reads u32 ws (λ frame ws. done (kind.Load p frame) ws)) else
    if bytes_eq w (codes "fix") then reads page_of ws (λ p ws. reads u32 ws (λ frame ws. reads u64 ws (λ clock ws. reads u64 ws (λ now ws. done (kind.Fix p frame clock now) ws)))) else
    if bytes_eq w (codes "create") then reads page_of ws (λ p ws. reads u32 ws (λ frame ws. reads u64 ws (λ start ws. reads u64 ws (λ end ws. reads u64 ws (λ now ws. done (kind.Create p frame start end now) ws))))) else
    if bytes_eq w (codes "put") then reads page_of ws (λ p ws. reads u32 ws (λ at ws. reads hex_of ws (λ bytes ws. reads u64 ws (λ start ws. reads u64 ws (λ end ws. done (kind.Put p at bytes start end) ws))))) else
    if bytes_eq w (codes "evict") then reads page_of ws (λ p ws. reads u32 ws (λ frame ws. reads frames_of ws (λ passed ws. done (kind.Evict p frame passed) ws))) else
    if bytes_eq w (codes "write") then reads page_of ws (λ p ws. reads u64 ws (λ lsn ws. reads u64 ws (λ upto ws. done (kind.Write p lsn upto) ws))) else
    if bytes_eq w (codes "move") then reads page_of ws (λ p ws. reads u32 ws (λ from ws. reads u32 ws (λ to ws. done (kind.Move p from to) ws))) else
    if bytes_eq w (codes "withdraw") then reads u32 ws (λ from ws. done (kind.Withdraw from) ws) else
    if bytes_eq w (codes "undo") then reads u32 ws (λ from ws. done (kind.Undo from) ws) else
    if bytes_eq w (codes "shrink") then reads u32 ws (λ chunks ws. done (kind.Shrink chunks) ws) else
    if bytes_eq w (codes "grow") then reads u32 ws (λ chunks ws. done (kind.Grow chunks) ws) else
    if bytes_eq w (codes "resize") then reads u64 ws (λ bytes ws. reads u32 ws (λ chunks ws. done (kind.Resize bytes chunks) ws)) else
    if bytes_eq w (codes "clean") then reads u32 ws (λ written ws. reads frames_of ws (λ skipped ws. done (kind.Clean written skipped) ws)) else
    if bytes_eq w (codes "checkpoint") then reads u64 ws (λ lsn ws. done (kind.Check lsn) ws) else
    if bytes_eq w (codes "watch") then reads page_of ws (λ p ws. reads Some ws (λ w ws. if bytes_eq w (codes "set") then done (kind.WatchSet p) ws else if bytes_eq w (codes "at") then reads u32 ws (λ frame ws. done (kind.WatchAt p frame) ws) else None)) else
    if bytes_eq w (codes "seen") then reads page_of ws (λ p ws. reads arrived_of ws (λ arrived ws. done (kind.Occurred p arrived) ws)) else
    if bytes_eq w (codes "unwatch") then reads page_of ws (λ p ws. done (kind.Unwatch p) ws) else
    if bytes_eq w (codes "dump") then reads u32 ws (λ pct ws. reads ids_of ws (λ ids ws. done (kind.Dump pct ids) ws)) else
    if bytes_eq w (codes "refused") then (call_of ws >>= λ r. cause_of r.1 >>= λ why. Some (kind.Refused r.0 why)) else
    None

pub kind_read : (k : Kind) → KindFits k → kind_of (kind_words k) ≡ Some k
kind_read (kind.Load p frame) h = rw (page_read p h.0) (rw (read32 frame h.1) refl)
kind_read (kind.Fix p frame clock now) h = rw (page_read p h.0) (rw (read32 frame h.1) (rw (read64 clock h.2) (rw (read64 now h.3) refl)))
kind_read (kind.Create p frame start end now) h = rw (page_read p h.0) (rw (read32 frame h.1) (rw (read64 start h.2) (rw (read64 end h.3) (rw (read64 now h.4) refl))))
kind_read (kind.Put p at bytes start end) h = rw (page_read p h.0) (rw (read32 at h.1) (rw (hex_read bytes h.2) (rw (read64 start h.3) (rw (read64 end h.4) refl))))
kind_read (kind.Evict p frame passed) h = rw (page_read p h.0) (rw (read32 frame h.1) (rw (frames_read passed h.2) refl))
kind_read (kind.Write p lsn upto) h = rw (page_read p h.0) (rw (read64 lsn h.1) (rw (read64 upto h.2) refl))
kind_read (kind.Move p from to) h = rw (page_read p h.0) (rw (read32 from h.1) (rw (read32 to h.2) refl))
kind_read (kind.Withdraw from) h = rw (read32 from h) refl
kind_read (kind.Undo from) h = rw (read32 from h) refl
kind_read (kind.Shrink chunks) h = rw (read32 chunks h) refl
kind_read (kind.Grow chunks) h = rw (read32 chunks h) refl
kind_read (kind.Resize bytes chunks) h = rw (read64 bytes h.0) (rw (read32 chunks h.1) refl)
kind_read (kind.Clean written skipped) h = rw (read32 written h.0) (rw (frames_read skipped h.1) refl)
kind_read (kind.Check lsn) h = rw (read64 lsn h) refl
kind_read (kind.WatchSet p) h = rw (page_read p h) refl
kind_read (kind.WatchAt p frame) h = rw (page_read p h.0) (rw (read32 frame h.1) refl)
kind_read (kind.Occurred p arrived) h = rw (page_read p h) (rw (arrived_read arrived) refl)
kind_read (kind.Unwatch p) h = rw (page_read p h) refl
kind_read (kind.Dump pct ids) h = rw (read32 pct h.0) (rw (ids_read ids h.1) refl)
kind_read (kind.Refused c why) h = rw (call_read c (cause_words why) h.0) (rw (cause_read why h.1) refl)

pub kind_visible : (k : Kind) → KindFits k → AreVisible (kind_words k)
kind_visible (kind.Load p frame) h = (refl, (page_visible p h.0, (small_visible frame h.1, tt)))
kind_visible (kind.Fix p frame clock now) h = (refl, (page_visible p h.0, (small_visible frame h.1, (number_visible clock h.2, (number_visible now h.3, tt)))))
kind_visible (kind.Create p frame start end now) h = (refl, (page_visible p h.0, (small_visible frame h.1, (number_visible start h.2, (number_visible end h.3, (number_visible now h.4, tt))))))
kind_visible (kind.Put p at bytes start end) h = (refl, (page_visible p h.0, (small_visible at h.1, (hex_visible bytes h.2, (number_visible start h.3, (number_visible end h.4, tt))))))
kind_visible (kind.Evict p frame passed) h = (refl, (page_visible p h.0, (small_visible frame h.1, (frames_visible passed h.2, tt))))
kind_visible (kind.Write p lsn upto) h = (refl, (page_visible p h.0, (number_visible lsn h.1, (number_visible upto h.2, tt))))
kind_visible (kind.Move p from to) h = (refl, (page_visible p h.0, (small_visible from h.1, (small_visible to h.2, tt))))
kind_visible (kind.Withdraw from) h = (refl, (small_visible from h, tt))
kind_visible (kind.Undo from) h = (refl, (small_visible from h, tt))
kind_visible (kind.Shrink chunks) h = (refl, (small_visible chunks h, tt))
kind_visible (kind.Grow chunks) h = (refl, (small_visible chunks h, tt))
kind_visible (kind.Resize bytes chunks) h = (refl, (number_visible bytes h.0, (small_visible chunks h.1, tt)))
kind_visible (kind.Clean written skipped) h = (refl, (small_visible written h.0, (frames_visible skipped h.1, tt)))
kind_visible (kind.Check lsn) h = (refl, (number_visible lsn h, tt))
kind_visible (kind.WatchSet p) h = (refl, (page_visible p h, (refl, tt)))
kind_visible (kind.WatchAt p frame) h = (refl, (page_visible p h.0, (refl, (small_visible frame h.1, tt))))
kind_visible (kind.Occurred p arrived) h = (refl, (page_visible p h, (arrived_visible arrived, tt)))
kind_visible (kind.Unwatch p) h = (refl, (page_visible p h, tt))
kind_visible (kind.Dump pct ids) h = (refl, (small_visible pct h.0, (pages_visible ids h.1, tt)))
kind_visible (kind.Refused c why) h = (refl, both_visible (call_words c) (cause_words why) (call_visible c h.0) (cause_visible why h.1))

pub kind_spelled : (k : Kind) → 32 ∷ kind_text k ≡ spelled (kind_words k)
kind_spelled (kind.Load p frame) = simp (append_assoc, append-nil)
kind_spelled (kind.Fix p frame clock now) = simp (append_assoc, append-nil)
kind_spelled (kind.Create p frame start end now) = ap (λ t. 32 ∷ codes "create " ++ t) (in_row (page_text p) (field frame) (field start) (field end) (field now))
kind_spelled (kind.Put p at bytes start end) = ap (λ t. 32 ∷ codes "put " ++ t) (in_row (page_text p) (field at) (32 ∷ hex bytes) (field start) (field end))
kind_spelled (kind.Evict p frame passed) = simp (append_assoc, append-nil)
kind_spelled (kind.Write p lsn upto) = simp (append_assoc, append-nil)
kind_spelled (kind.Move p from to) = simp (append_assoc, append-nil)
kind_spelled (kind.Withdraw from) = simp (append_assoc, append-nil)
kind_spelled (kind.Undo from) = simp (append_assoc, append-nil)
kind_spelled (kind.Shrink chunks) = simp (append_assoc, append-nil)
kind_spelled (kind.Grow chunks) = simp (append_assoc, append-nil)
kind_spelled (kind.Resize bytes chunks) = simp (append_assoc, append-nil)
kind_spelled (kind.Clean written skipped) = simp (append_assoc, append-nil)
kind_spelled (kind.Check lsn) = simp (append_assoc, append-nil)
kind_spelled (kind.WatchSet p) = simp (append_assoc, append-nil)
kind_spelled (kind.WatchAt p frame) = simp (append_assoc, append-nil)
kind_spelled (kind.Occurred p arrived) = simp (append_assoc, append-nil)
kind_spelled (kind.Unwatch p) = simp (append_assoc, append-nil)
kind_spelled (kind.Dump pct ids) = simp (append_assoc, append-nil)
kind_spelled (kind.Refused c why) = ap (λ t. 32 ∷ codes "refused" ++ t) (refused_spelled c why)
