-- Which entries a call has before its answer.
use Rattle.std.proofs.Common.{List, [], ◌∷◌, ◌++◌, arith}
use Rattle.trail.specs.declared.event.Call.TheVariants as call
use Rattle.trail.specs.declared.event.Cause.TheVariants as cause
use Rattle.trail.specs.declared.event.Kind.TheVariants as kind
use Rattle.trail.specs.declared.event.Event.{Event}
use Rattle.trail_rows.proofs.Shared.{page, four, pairs, single, opened, entry, receipt, word, load, fix, create, put, evict, write, refused, refused_fix, unfixed, denied, computing, fails, Good, Breaks, Whole, Unfinished}

-- page 0 was in the only frame, and is given back
abbrev back : List Event
back = entry 1 1 1 (load 0 0) ∷ entry 2 1 1 (fix 0 0 1 1) ∷ receipt 2 1 2 (unfixed 0 0 1) ∷ []

-- the same with a put
abbrev dirty : List Event
dirty = entry 1 1 1 (load 0 0) ∷ entry 2 1 1 (fix 0 0 1 1) ∷ entry 3 1 2 (put 0 38 (1 ∷ []) 8192 8214) ∷ receipt 3 1 3 (unfixed 0 0 1) ∷ []

-- the evict and the load come before a fix of another page
pub fix_behind_evict : Good single (back ++ entry 3 1 3 (evict 0 0 []) ∷ entry 4 1 3 (load 1 0) ∷ entry 5 1 3 (fix 1 0 4 1) ∷ [])
fix_behind_evict = search computing

-- the load before a fix is that of another page
pub fix_behind_other_load : Breaks four
    (entry 1 2 1 (load 0 0) ∷ entry 2 2 1 (fix 0 0 1 1) ∷ entry 3 1 1 (load 1 1) ∷ [])
    (entry 4 1 1 (fix 0 0 1 1))
fix_behind_other_load = record { good = search computing; bad = fails (λ h. h.legal.before) (λ law. grind arith) }

-- a call evicts the page that it fixes, and reads it in again
pub fix_behind_own_evict : Breaks single
    (back ++ entry 3 1 3 (evict 0 0 []) ∷ entry 4 1 3 (load 0 0) ∷ [])
    (entry 5 1 3 (fix 0 0 4 1))
fix_behind_own_evict = record { good = search computing; bad = fails (λ h. h.legal.before) (λ law. grind arith) }

-- two evicts come before a fix
pub fix_behind_two_evicts : Breaks pairs
    (entry 1 1 1 (load 0 0) ∷ entry 2 1 1 (fix 0 0 1 1)
    ∷ entry 3 1 2 (load 1 1) ∷ entry 4 1 2 (fix 1 1 3 1)
    ∷ entry 5 1 3 (load 2 2) ∷ entry 6 1 3 (fix 2 2 5 1)
    ∷ entry 7 1 4 (load 3 3) ∷ entry 8 1 4 (fix 3 3 7 1)
    ∷ receipt 8 1 5 (unfixed 0 0 1)
    ∷ receipt 8 1 6 (unfixed 1 1 2)
    ∷ entry 9 1 7 (evict 0 0 [])
    ∷ entry 10 1 7 (evict 1 1 [])
    ∷ entry 11 1 7 (load 4 1)
    ∷ [])
    (entry 12 1 7 (fix 4 1 11 1))
fix_behind_two_evicts = record { good = search computing; bad = fails (λ h. h.legal.before) (λ law. grind arith) }

-- the victim's write comes before its evict
pub create_behind_write : Good single (dirty ++ entry 4 1 4 (write 0 8214 8214) ∷ entry 5 1 4 (evict 0 0 []) ∷ entry 6 1 4 (create 1 0 8214 8235) ∷ [])
create_behind_write = search computing

-- a load comes before a create
pub create_behind_load : Breaks four (entry 1 1 1 (load 0 0) ∷ []) (entry 2 1 1 (create 1 1 8192 8213))
create_behind_load = record { good = search computing; bad = fails (λ h. h.legal.before) (λ law. grind arith) }

-- an entry of another call stands between a victim's write and its evict
pub write_apart : Breaks single
    (dirty ++ entry 4 1 4 (write 0 8214 8214) ∷ entry 5 2 1 (kind.Check 8214) ∷ [])
    (entry 6 1 4 (evict 0 0 []))
write_apart = record { good = search computing; bad = fails (λ h. h.legal.together) (λ law. grind arith) }

-- a page was made, three others are fixed in the other frames, and chunks are withdrawn
abbrev withdrawing : List Event
withdrawing =
    entry 1 1 1 (create 0 0 8192 8213)
    ∷ entry 2 1 2 (load 1 1) ∷ entry 3 1 2 (fix 1 1 2 1)
    ∷ entry 4 1 3 (load 2 2) ∷ entry 5 1 3 (fix 2 2 4 1)
    ∷ entry 6 1 4 (load 3 3) ∷ entry 7 1 4 (fix 3 3 6 1)
    ∷ receipt 7 1 5 (unfixed 0 0 1)
    ∷ entry 8 1 6 (kind.Withdraw 1)
    ∷ []

-- and so in a resize, whose entries may have others between them, but not these two: it is judged at its answer
pub write_apart_in_resize : Breaks pairs
    (withdrawing ++ entry 9 1 6 (write 0 8213 8213) ∷ entry 10 2 1 (kind.Check 8213) ∷ entry 11 1 6 (evict 0 0 []) ∷ entry 12 1 6 (kind.Undo 1) ∷ [])
    (entry 13 1 6 (refused (call.Resize 8192 1) (cause.Undone ((2, word 1 4) ∷ []))))
write_apart_in_resize = record { good = search computing; bad = fails (λ h. h.legal.before) (λ law. grind arith) }

-- where the two stand together the answer is lawful
pub write_with_evict_in_resize : Good pairs
    (withdrawing
    ++ entry 9 2 1 (kind.Check 8192)
    ∷ entry 10 1 6 (write 0 8213 8213)
    ∷ entry 11 1 6 (evict 0 0 ((1, word 1 2) ∷ (2, word 1 4) ∷ (3, word 1 6) ∷ []))
    ∷ entry 12 1 6 (kind.Undo 1)
    ∷ entry 13 1 6 (refused (call.Resize 8192 1) (cause.Undone ((2, word 1 4) ∷ [])))
    ∷ [])
write_with_evict_in_resize = search computing

-- a checkpoint has no entry before it
pub check_behind_load : Breaks four (entry 1 1 1 (load 0 0) ∷ []) (entry 2 1 1 (kind.Check 0))
check_behind_load = record { good = search computing; bad = fails (λ h. h.legal.before) (λ law. grind arith) }

-- a clean has writes alone before it
pub clean_behind_load : Breaks four (entry 1 1 1 (load 0 0) ∷ []) (entry 2 1 1 (kind.Clean 0 []))
clean_behind_load = record { good = search computing; bad = fails (λ h. h.legal.before) (λ law. grind arith) }

-- a fix whose read failed has evicted a page
pub fault_behind_evict : Good single (back ++ entry 3 1 3 (evict 0 0 []) ∷ entry 4 1 3 (refused_fix 1 (cause.DiskFault 0 1)) ∷ [])
fault_behind_evict = search computing

-- but not one whose page was there
pub fault_of_resident_behind_evict : Breaks (opened 0 2 8192 1)
    (back ++ entry 3 1 3 (load 1 1) ∷ entry 4 1 3 (fix 1 1 3 1) ∷ entry 5 1 4 (evict 0 0 []) ∷ [])
    (entry 6 1 4 (refused_fix 1 (cause.DiskFault 0 1)))
fault_of_resident_behind_evict = record { good = search computing; bad = fails (λ h. h.legal.before) (λ law. grind arith) }

-- nor one whose page isn't in its space
pub no_page_behind_evict : Breaks single (back ++ entry 3 1 3 (evict 0 0 []) ∷ []) (entry 4 1 3 (refused_fix 64 (cause.NoSuchPage 64)))
no_page_behind_evict = record { good = search computing; bad = fails (λ h. h.legal.before) (λ law. grind arith) }

-- nor has a refused fix read its page in
pub fault_behind_load : Breaks four (entry 1 1 1 (load 0 0) ∷ []) (entry 2 1 1 (refused_fix 0 (cause.DiskFault 0 1)))
fault_behind_load = record { good = search computing; bad = fails (λ h. h.legal.before) (λ law. grind arith) }

-- a create evicts before it finds that the log has no numbers left
pub spent_behind_evict : Good single (back ++ entry 3 1 3 (evict 0 0 []) ∷ entry 4 1 3 (refused (call.Create (page 1) 1) (cause.LogSpent 9223372036854775800)) ∷ [])
spent_behind_evict = search computing

-- a create whose victim's write failed has evicted nothing
pub create_fault_behind_evict : Breaks single (back ++ entry 3 1 3 (evict 0 0 []) ∷ []) (entry 4 1 3 (refused (call.Create (page 1) 1) (cause.DiskFault 0 1)))
create_fault_behind_evict = record { good = search computing; bad = fails (λ h. h.legal.before) (λ law. grind arith) }

-- a clean that failed keeps its writes
pub clean_failed : Good single (dirty ++ entry 4 1 4 (write 0 8214 8214) ∷ entry 5 1 4 (refused (call.Clean 9) (cause.DiskFault 0 1)) ∷ [])
clean_failed = search computing

-- a resize is answered before it took its withdrawal to an end
pub resize_early : Breaks pairs (entry 1 1 1 (kind.Withdraw 1) ∷ []) (entry 2 1 1 (kind.Resize 16384 2))
resize_early = record { good = search computing; bad = fails (λ h. h.legal.before) (λ law. grind arith) }

-- a resize that gives up takes its withdrawal back first
pub refused_before_undo : Breaks pairs (entry 1 1 1 (kind.Withdraw 1) ∷ []) (entry 2 1 1 (refused (call.Resize 8192 1) (cause.DiskFault 0 1)))
refused_before_undo = record { good = search computing; bad = fails (λ h. h.legal.before) (λ law. grind arith) }

-- a resize that gives up for its size has withdrawn nothing
pub too_small_behind_undo : Breaks pairs (entry 1 1 1 (kind.Withdraw 1) ∷ entry 2 1 1 (kind.Undo 1) ∷ []) (entry 3 1 1 (refused (call.Resize 0 1) cause.TooSmall))
too_small_behind_undo = record { good = search computing; bad = fails (λ h. h.legal.before) (λ law. grind arith) }

-- a withdrawal that was taken back for want of memory needs no answer
pub undone_alone : Whole pairs (entry 1 1 1 (kind.Withdraw 1) ∷ entry 2 1 1 (kind.Undo 1) ∷ entry 3 2 1 (kind.Check 0) ∷ [])
undone_alone = search computing

-- nor does one that is open at the end
pub withdrawing_alone : Whole pairs (entry 1 1 1 (kind.Withdraw 1) ∷ [])
withdrawing_alone = search computing

-- but without an answer a call has the entries of a resize alone
pub load_in_undone : Unfinished pairs (entry 1 1 1 (kind.Withdraw 1) ∷ entry 2 1 1 (load 9 0) ∷ entry 3 1 1 (kind.Undo 1) ∷ [])
load_in_undone = record { good = search computing; bad = fails (λ h. h.answered) (λ law. grind arith) }

-- a resize that a device's fault refused before its first entry
pub resize_fault : Good pairs (entry 1 1 1 (refused (call.Resize 8192 1) (cause.DiskFault 0 1)) ∷ receipt 1 1 2 (denied (call.Resize 8192 1) (cause.RedoFault 0 1)) ∷ [])
resize_fault = search computing

-- one that gives up took its withdrawal back, also where its refusal is a receipt
pub noted_before_undo : Breaks pairs (entry 1 1 1 (kind.Withdraw 1) ∷ []) (receipt 1 1 1 (denied (call.Resize 8192 1) (cause.DiskFault 0 1)))
noted_before_undo = record { good = search computing; bad = fails (λ h. h.legal.before) (λ law. grind arith) }
