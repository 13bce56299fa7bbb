-- Words that were found: where one caller made all calls but the closing flush they are just what the trail says. A wrong one breaks a trail where it stands.
use Rattle.std.proofs.Common.{List, [], ◌∷◌, ◌++◌, arith}
use Rattle.page_ids.specs.declared.limits.TheConstants.{LIMIT}
use Rattle.trail.specs.declared.event.Call.TheVariants as call
use Rattle.trail.specs.declared.event.Cause.TheVariants as cause
use Rattle.trail.specs.declared.event.Kind.TheVariants as kind
use Rattle.trail.specs.declared.event.Event.{Event}
use Rattle.trail_rows.proofs.Shared.{page, fixed, four, single, opened, entry, receipt, word, latched, vacant, load, fix, put, evict, refused, refused_fix, granted, unfixed, denied, computing, fails, Breaks, BreaksBefore, Good, Whole}

-- another caller has asked for a checkpoint
abbrev with_other : List Event
with_other = fixed ++ entry 3 2 1 (kind.Check 0) ∷ []

-- page 0 with its fix, and a frame that never had a page
pub stale : Whole four
    (fixed
    ++ receipt 2 1 2 (denied (call.Guess (page 0) 0 9) (cause.Stale (word 1 1)))
    ∷ receipt 2 1 3 (denied (call.Guess (page 0) 1 9) (cause.Stale (vacant 0)))
    ∷ receipt 2 1 4 (denied (call.Guess (page 5) 0 1) (cause.OtherPage (page 0)))
    ∷ entry 3 0 1 (kind.Clean 0 [])
    ∷ [])
stale = search computing

-- a fix that nobody has is told; the closing flush is no other caller
pub too_many : BreaksBefore four fixed (receipt 2 1 2 (denied (call.Guess (page 0) 0 9) (cause.Stale (word 2 1)))) (entry 3 0 1 (kind.Clean 0 []) ∷ [])
too_many = record { good = search computing; bad = fails (λ h. h.words) (λ law. grind arith) }

-- with another caller it may be
pub many_with_other : Whole four (with_other ++ receipt 3 1 2 (denied (call.Guess (page 0) 0 9) (cause.Stale (word 2 1))) ∷ [])
many_with_other = search computing

-- the clock isn't that of the last change
pub old_clock : Breaks four fixed (receipt 2 1 2 (denied (call.Guess (page 0) 0 9) (cause.Stale (word 1 0))))
old_clock = record { good = search computing; bad = fails (λ h. h.words) (λ law. grind arith) }

-- a page is in the frame, and the word shows none
pub not_resident : Breaks four fixed (receipt 2 1 2 (denied (call.Guess (page 0) 0 9) (cause.Stale (vacant 1))))
not_resident = record { good = search computing; bad = fails (λ h. h.words) (λ law. grind arith) }

-- none is, and the word shows one
pub resident : Breaks four fixed (receipt 2 1 2 (denied (call.Guess (page 0) 1 9) (cause.Stale (word 0 0))))
resident = record { good = search computing; bad = fails (λ h. h.words) (λ law. grind arith) }

-- another page is told than that of the frame
pub other_tag : Breaks four fixed (receipt 2 1 2 (denied (call.Guess (page 5) 0 1) (cause.OtherPage (page 3))))
other_tag = record { good = search computing; bad = fails (λ h. h.words) (λ law. grind arith) }

-- nobody can have latched the frame
pub latched_alone : Breaks four fixed (receipt 2 1 2 (denied (call.Guess (page 0) 0 1) (cause.Latched (latched 1 1))))
latched_alone = record { good = search computing; bad = fails (λ h. h.words) (λ law. grind arith) }

-- whatever the call
pub latched_read_alone : Breaks four fixed (receipt 2 1 2 (denied (call.Read (page 0) 38 4) (cause.Latched (latched 1 1))))
latched_read_alone = record { good = search computing; bad = fails (λ h. h.words) (λ law. grind arith) }

-- nor made it busy
pub busy_alone : Breaks four fixed (receipt 2 1 2 (denied (call.Read (page 0) 38 4) (cause.Busy (latched 1 1))))
busy_alone = record { good = search computing; bad = fails (λ h. h.words) (λ law. grind arith) }

-- another caller can
pub latched_with_other : Whole four
    (with_other
    ++ receipt 3 1 2 (denied (call.Guess (page 0) 0 1) (cause.Latched (latched 2 1)))
    ∷ receipt 3 1 3 (denied (call.Read (page 0) 38 4) (cause.Busy (latched 1 1)))
    ∷ [])
latched_with_other = search computing

-- a fix and a guess of one page make two fixes of its frame
pub all_fixed : Whole single (fixed ++ receipt 2 1 2 (granted 0 0 1) ∷ entry 3 1 3 (refused_fix 1 (cause.AllFixed ((0, word 2 1) ∷ []))) ∷ [])
all_fixed = search computing

-- a page that was passed has two fixes, by its word, and one, by the trail
pub passed : BreaksBefore (opened 0 2 8192 1)
    (fixed ++ entry 3 1 2 (load 1 1) ∷ entry 4 1 2 (fix 1 1 3 1) ∷ receipt 4 1 3 (unfixed 1 1 2) ∷ [])
    (entry 5 1 4 (evict 1 1 ((0, word 2 1) ∷ [])))
    (entry 6 1 4 (load 2 1) ∷ entry 7 1 4 (fix 2 1 6 1) ∷ [])
passed = record { good = search computing; bad = fails (λ h. h.words) (λ law. grind arith) }

-- a clean skips a latched frame, with another caller
pub skipped_with_other : Whole four (with_other ++ entry 4 1 2 (put 0 38 (1 ∷ []) 8192 8214) ∷ entry 5 2 2 (kind.Clean 0 ((0, latched 1 4) ∷ [])) ∷ [])
skipped_with_other = search computing

-- with none
pub skipped_alone : Breaks four (fixed ++ entry 3 1 2 (put 0 38 (1 ∷ []) 8192 8214) ∷ []) (entry 4 1 3 (kind.Clean 0 ((0, latched 1 3) ∷ [])))
skipped_alone = record { good = search computing; bad = fails (λ h. h.words) (λ law. grind arith) }

-- nor does the closing flush
pub flush_skips : Breaks four (fixed ++ entry 3 1 2 (put 0 38 (1 ∷ []) 8192 8214) ∷ []) (entry 4 0 1 (kind.Clean 0 ((0, latched 1 3) ∷ [])))
flush_skips = record { good = search computing; bad = fails (λ h. h.words) (λ law. grind arith) }

-- a clean of caller 0 that isn't its last call is another caller's
pub clean_before_check : Whole four (fixed ++ receipt 2 1 2 (denied (call.Guess (page 0) 0 9) (cause.Stale (word 2 1))) ∷ entry 3 0 1 (kind.Clean 0 []) ∷ entry 4 0 2 (kind.Check 0) ∷ [])
clean_before_check = search computing

-- and so is one that found no places left
pub clean_without_places : Whole (opened LIMIT 4 16384 2)
    (receipt LIMIT 0 1 (denied (call.Clean 16384) (cause.PlacesSpent LIMIT 1)) ∷ receipt LIMIT 1 1 (denied (call.Guess (page 0) 0 9) (cause.Stale (word 2 1))) ∷ [])
clean_without_places = search computing

-- a flush that failed is the closing one
pub failed_flush : BreaksBefore four fixed (receipt 2 1 2 (denied (call.Guess (page 0) 0 9) (cause.Stale (word 2 1)))) (entry 3 0 1 (refused (call.Clean 16384) (cause.RedoFault 0 1)) ∷ [])
failed_flush = record { good = search computing; bad = fails (λ h. h.words) (λ law. grind arith) }

-- a flush that is refused by a receipt is the closing one too
pub failed_flush_noted : BreaksBefore four fixed
    (receipt 2 1 2 (denied (call.Guess (page 0) 0 9) (cause.Stale (word 2 1))))
    (entry 3 1 3 (kind.Check 0) ∷ receipt 3 0 1 (denied (call.Clean 16384) (cause.RedoFault 0 1)) ∷ [])
failed_flush_noted = record { good = search computing; bad = fails (λ h. h.words) (λ law. grind arith) }

-- in the closing flush nobody made a frame busy, either
pub flush_busy : Breaks four fixed (receipt 2 0 1 (denied (call.Clean 9) (cause.Busy (latched 1 1))))
flush_busy = record { good = search computing; bad = fails (λ h. h.words) (λ law. grind arith) }

-- that is so where somebody else was there
pub flush_busy_with_other : Good four (with_other ++ entry 4 0 1 (refused (call.Clean 9) (cause.Busy (latched 1 1))) ∷ [])
flush_busy_with_other = search computing
