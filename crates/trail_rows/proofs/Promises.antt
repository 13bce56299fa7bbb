-- What the calls promise beside the laws: events that are lawful where they come, and that no call leaves.
use Rattle.std.proofs.Common.{ℕ, List, [], ◌∷◌, ◌++◌, ◌==◌, if◌then◌else◌, reverse, arith}
use Rattle.page_ids.specs.declared.layout.BadPage.TheVariants as bad
use Rattle.trail.specs.declared.event.Call.TheVariants as call
use Rattle.trail.specs.declared.event.Cause.TheVariants as cause
use Rattle.trail.specs.declared.event.Kind.TheVariants as kind
use Rattle.trail.specs.declared.event.Event.{Event}
use Rattle.trail.specs.Trails.{Opening, caller_of, entries, own}
use Rattle.trail.specs.Alone.{sole_of}
use Rattle.trail.specs.Laws.{AreLawful}
use Rattle.trail.specs.Promises.{IsPromised, ArePromised}
use Rattle.trail_rows.proofs.Shared.{page, fixed, four, opened, entry, receipt, word, latched, load, fix, create, write, refused, refused_fix, unfixed, denied, computing, fails}

-- space 0 has 64 pages
abbrev pages : ℕ → ℕ
pages s = if s == 0 then 64 else 0

-- The events are lawful, and what comes last isn't promised.
pub record Unpromised (o : Opening) (events : List Event) (e : Event) : Type 0 where
  pub good : AreLawful o (sole_of (e ∷ reverse events)) (e ∷ reverse events)
  pub bad : IsPromised o pages (entries (reverse events)) (own (caller_of e) (reverse events)) e → ⊥

-- a fix, a missing page, and a failed read are as the calls leave them
pub as_promised : ArePromised four pages (reverse (fixed ++ entry 3 1 2 (refused_fix 64 (cause.NoSuchPage 64)) ∷ entry 4 1 3 (refused_fix 1 (cause.DiskFault 0 1)) ∷ receipt 4 1 4 (unfixed 0 0 1) ∷ []))
as_promised = search computing

-- a create reads nothing
pub bad_page_of_create : Unpromised four [] (entry 1 1 1 (refused (call.Create (page 1) 1) (cause.BadPage (bad.Number 8))))
bad_page_of_create = record { good = search computing; bad = fails (λ h. h.1.own) (λ law. grind arith) }

-- a refusal under the turn is an entry
pub fault_as_receipt : Unpromised four [] (receipt 0 1 1 (denied (call.Fix (page 1) 1) (cause.DiskFault 0 1)))
fault_as_receipt = record { good = search computing; bad = fails (λ h. h.1.filed) (λ law. grind arith) }

-- that a caller has no fix is a receipt
pub unheld_as_entry : Unpromised four [] (entry 1 1 1 (refused (call.Unfix (page 0)) cause.Unheld))
unheld_as_entry = record { good = search computing; bad = fails (λ h. h.1.filed) (λ law. grind arith) }

-- frames rise
pub falling_words : Unpromised (opened 0 2 8192 1)
    (entry 1 1 1 (load 0 0) ∷ entry 2 1 1 (fix 0 0 1 1) ∷ entry 3 1 2 (load 1 1) ∷ entry 4 1 2 (fix 1 1 3 1) ∷ [])
    (entry 5 1 3 (refused_fix 2 (cause.AllFixed ((1, word 1 3) ∷ (0, word 1 1) ∷ []))))
falling_words = record { good = search computing; bad = fails (λ h. h.1.rising) (λ law. grind arith) }

-- a page that is there isn't read
pub fault_of_resident : Unpromised four fixed (entry 3 1 2 (refused_fix 0 (cause.DiskFault 0 1)))
fault_of_resident = record { good = search computing; bad = fails (λ h. h.1.excused) (λ law. grind arith) }

-- the number of pages is the disk's
pub other_pages : Unpromised four [] (entry 1 1 1 (refused_fix 64 (cause.NoSuchPage 60)))
other_pages = record { good = search computing; bad = fails (λ h. h.0.told) (λ law. grind arith) }

-- a refused clean wrote the oldest pages first
pub clean_failed_elsewhere : Unpromised four
    (entry 1 1 1 (create 0 0 8192 8213) ∷ entry 2 1 2 (create 1 1 8213 8234) ∷ entry 3 1 3 (write 1 8234 8234) ∷ [])
    (entry 4 1 3 (refused (call.Clean 9) (cause.DiskFault 0 1)))
clean_failed_elsewhere = record { good = search computing; bad = fails (λ h. h.1.begun.oldest) (λ law. grind arith) }

-- frames that a clean skipped rise
pub falling_skipped : Unpromised four
    (entry 1 1 1 (create 0 0 8192 8213) ∷ entry 2 1 2 (create 1 1 8213 8234) ∷ [])
    (entry 3 2 1 (kind.Clean 0 ((1, latched 1 2) ∷ (0, latched 1 1) ∷ [])))
falling_skipped = record { good = search computing; bad = fails (λ h. h.1) (λ law. grind arith) }
