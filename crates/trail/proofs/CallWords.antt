-- A call is read from its words.
use Rattle.std.proofs.Common.{ℕ, List, [], ◌∷◌, ◌++◌, ◌≡◌, Option, None, Some, refl, append_assoc, if◌then◌else◌}
use Rattle.std.specs.Prelude.{codes}
use Rattle.std.specs.Fmt.{decimal}
use Rattle.std.specs.Str.{bytes_eq}
use Rattle.std.proofs.lemmas.List.{append-nil}
use Rattle.page_ids.specs.Spelling.{page_text, hex}
use Rattle.trail.specs.declared.event.Call.{Call}
use Rattle.trail.specs.declared.event.Call.TheVariants as call
use Rattle.trail.specs.Spelling.{call_text}
use Rattle.trail.specs.Typed.{CallFits}
use Rattle.trail.proofs.Visible.{AreVisible, page_visible, small_visible, number_visible, hex_visible}
use Rattle.trail.proofs.Cuts.{spelled}
use Rattle.trail.proofs.Words.{reads, u32, u64, page_of, hex_of, page_read, read32, read64, hex_read}

abbrev pub call_words : Call → List (List ℕ)
call_words (call.Fix p now) = codes "fix" ∷ page_text p ∷ decimal now ∷ []
call_words (call.Create p now) = codes "create" ∷ page_text p ∷ decimal now ∷ []
call_words (call.Put p at bytes) = codes "put" ∷ page_text p ∷ decimal at ∷ hex bytes ∷ []
call_words (call.Read p at len) = codes "read" ∷ page_text p ∷ decimal at ∷ decimal len ∷ []
call_words (call.Unfix p) = codes "unfix" ∷ page_text p ∷ []
call_words (call.Guess p frame clock) = codes "guess" ∷ page_text p ∷ decimal frame ∷ decimal clock ∷ []
call_words (call.Watch p) = codes "watch" ∷ page_text p ∷ []
call_words (call.Occurred p) = codes "seen" ∷ page_text p ∷ []
call_words (call.Unwatch p) = codes "unwatch" ∷ page_text p ∷ []
call_words (call.Clean bound) = codes "clean" ∷ decimal bound ∷ []
call_words call.Check = codes "checkpoint" ∷ []
call_words (call.Dump pct) = codes "dump" ∷ decimal pct ∷ []
call_words (call.Resize bytes rounds) = codes "resize" ∷ decimal bytes ∷ decimal rounds ∷ []

-- the call, and the words behind it
abbrev pub call_of : List (List ℕ) → Option (Call × List (List ℕ))
call_of [] = None
call_of (w ∷ ws) =
    if bytes_eq w (codes "fix") then reads page_of ws (λ p ws. reads u64 ws (λ now ws. Some (call.Fix p now, ws))) else
    if bytes_eq w (codes "create") then reads page_of ws (λ p ws. reads u64 ws (λ now ws. Some (call.Create p now, ws))) else
    if bytes_eq w (codes "put") then reads page_of ws (λ p ws. reads u32 ws (λ at ws. reads hex_of ws (λ bytes ws. Some (call.Put p at bytes, ws)))) else
    if bytes_eq w (codes "read") then reads page_of ws (λ p ws. reads u32 ws (λ at ws. reads u32 ws (λ len ws. Some (call.Read p at len, ws)))) else
    if bytes_eq w (codes "unfix") then reads page_of ws (λ p ws. Some (call.Unfix p, ws)) else
    if bytes_eq w (codes "guess") then reads page_of ws (λ p ws. reads u32 ws (λ frame ws. reads u64 ws (λ clock ws. Some (call.Guess p frame clock, ws)))) else
    if bytes_eq w (codes "watch") then reads page_of ws (λ p ws. Some (call.Watch p, ws)) else
    if bytes_eq w (codes "seen") then reads page_of ws (λ p ws. Some (call.Occurred p, ws)) else
    if bytes_eq w (codes "unwatch") then reads page_of ws (λ p ws. Some (call.Unwatch p, ws)) else
    if bytes_eq w (codes "clean") then reads u32 ws (λ bound ws. Some (call.Clean bound, ws)) else
    if bytes_eq w (codes "checkpoint") then Some (call.Check, ws) else
    if bytes_eq w (codes "dump") then reads u32 ws (λ pct ws. Some (call.Dump pct, ws)) else
    if bytes_eq w (codes "resize") then reads u64 ws (λ bytes ws. reads u32 ws (λ rounds ws. Some (call.Resize bytes rounds, ws))) else
    None

pub call_read : (c : Call) (rest : List (List ℕ)) → CallFits c → call_of (call_words c ++ rest) ≡ Some (c, rest)
call_read (call.Fix p now) rest h = rw (page_read p h.0) (rw (read64 now h.1) refl)
call_read (call.Create p now) rest h = rw (page_read p h.0) (rw (read64 now h.1) refl)
call_read (call.Put p at bytes) rest h = rw (page_read p h.0) (rw (read32 at h.1) (rw (hex_read bytes h.2) refl))
call_read (call.Read p at len) rest h = rw (page_read p h.0) (rw (read32 at h.1) (rw (read32 len h.2) refl))
call_read (call.Unfix p) rest h = rw (page_read p h) refl
call_read (call.Guess p frame clock) rest h = rw (page_read p h.0) (rw (read32 frame h.1) (rw (read64 clock h.2) refl))
call_read (call.Watch p) rest h = rw (page_read p h) refl
call_read (call.Occurred p) rest h = rw (page_read p h) refl
call_read (call.Unwatch p) rest h = rw (page_read p h) refl
call_read (call.Clean bound) rest h = rw (read32 bound h) refl
call_read call.Check rest h = refl
call_read (call.Dump pct) rest h = rw (read32 pct h) refl
call_read (call.Resize bytes rounds) rest h = rw (read64 bytes h.0) (rw (read32 rounds h.1) refl)

pub call_visible : (c : Call) → CallFits c → AreVisible (call_words c)
call_visible (call.Fix p now) h = (refl, (page_visible p h.0, (number_visible now h.1, tt)))
call_visible (call.Create p now) h = (refl, (page_visible p h.0, (number_visible now h.1, tt)))
call_visible (call.Put p at bytes) h = (refl, (page_visible p h.0, (small_visible at h.1, (hex_visible bytes h.2, tt))))
call_visible (call.Read p at len) h = (refl, (page_visible p h.0, (small_visible at h.1, (small_visible len h.2, tt))))
call_visible (call.Unfix p) h = (refl, (page_visible p h, tt))
call_visible (call.Guess p frame clock) h = (refl, (page_visible p h.0, (small_visible frame h.1, (number_visible clock h.2, tt))))
call_visible (call.Watch p) h = (refl, (page_visible p h, tt))
call_visible (call.Occurred p) h = (refl, (page_visible p h, tt))
call_visible (call.Unwatch p) h = (refl, (page_visible p h, tt))
call_visible (call.Clean bound) h = (refl, (small_visible bound h, tt))
call_visible call.Check h = (refl, tt)
call_visible (call.Dump pct) h = (refl, (small_visible pct h, tt))
call_visible (call.Resize bytes rounds) h = (refl, (number_visible bytes h.0, (small_visible rounds h.1, tt)))

pub call_spelled : (c : Call) → 32 ∷ call_text c ≡ spelled (call_words c)
call_spelled (call.Fix p now) = simp (append_assoc, append-nil)
call_spelled (call.Create p now) = simp (append_assoc, append-nil)
call_spelled (call.Put p at bytes) = simp (append_assoc, append-nil)
call_spelled (call.Read p at len) = simp (append_assoc, append-nil)
call_spelled (call.Unfix p) = simp (append_assoc, append-nil)
call_spelled (call.Guess p frame clock) = simp (append_assoc, append-nil)
call_spelled (call.Watch p) = simp (append_assoc, append-nil)
call_spelled (call.Occurred p) = simp (append_assoc, append-nil)
call_spelled (call.Unwatch p) = simp (append_assoc, append-nil)
call_spelled (call.Clean bound) = simp (append_assoc, append-nil)
call_spelled call.Check = refl
call_spelled (call.Dump pct) = simp (append_assoc, append-nil)
call_spelled (call.Resize bytes rounds) = simp (append_assoc, append-nil)
