-- Whole trails.
use Rattle.std.proofs.Common.{[], ◌∷◌, true}
use Rattle.page_ids.specs.declared.layout.BadPage.TheVariants as bad
use Rattle.trail.specs.declared.event.Call.TheVariants as call
use Rattle.trail.specs.declared.event.Cause.TheVariants as cause
use Rattle.trail.specs.declared.event.Kind.TheVariants as kind
use Rattle.trail_rows.proofs.Shared.{page, four, pairs, single, entry, receipt, word, vacant, load, fix, create, put, evict, write, move, refused, refused_fix, granted, copied, unfixed, denied, computing, Whole}

-- a page is fixed, read and given back, and the pool is closed
pub one_read : Whole four
    (entry 1 1 1 (load 0 0) ∷ entry 2 1 1 (fix 0 0 1 5)
    ∷ receipt 2 1 2 (copied 0 38 (0 ∷ 0 ∷ 0 ∷ 0 ∷ []) 1)
    ∷ receipt 2 1 3 (unfixed 0 0 1)
    ∷ entry 3 0 1 (kind.Clean 0 [])
    ∷ [])
one_read = search computing

-- Four fixed pages: a fifth finds no frame, until one of them is given back.
pub all_fixed : Whole four
    (entry 1 1 1 (load 0 0) ∷ entry 2 1 1 (fix 0 0 1 1)
    ∷ entry 3 1 2 (load 1 1) ∷ entry 4 1 2 (fix 1 1 3 1)
    ∷ entry 5 1 3 (load 2 2) ∷ entry 6 1 3 (fix 2 2 5 1)
    ∷ entry 7 1 4 (load 3 3) ∷ entry 8 1 4 (fix 3 3 7 1)
    ∷ entry 9 1 5 (refused (call.Fix (page 4) 7) (cause.AllFixed ((0, word 1 1) ∷ (1, word 1 3) ∷ (2, word 1 5) ∷ (3, word 1 7) ∷ [])))
    ∷ receipt 9 1 6 (unfixed 0 0 1)
    ∷ entry 10 1 7 (evict 0 0 [])
    ∷ entry 11 1 7 (load 4 0) ∷ entry 12 1 7 (fix 4 0 11 8)
    ∷ receipt 12 1 8 (unfixed 4 0 7)
    ∷ receipt 12 1 9 (unfixed 3 3 4)
    ∷ receipt 12 1 10 (unfixed 2 2 3)
    ∷ receipt 12 1 11 (unfixed 1 1 2)
    ∷ entry 13 0 1 (kind.Clean 0 [])
    ∷ [])
all_fixed = search computing

-- A page in the area is fixed, so the withdrawal is given up after two rounds, and its frame is free again.
pub given_up : Whole pairs
    (entry 1 1 1 (load 0 0) ∷ entry 2 1 1 (fix 0 0 1 1)
    ∷ entry 3 1 2 (load 1 1) ∷ entry 4 1 2 (fix 1 1 3 1)
    ∷ entry 5 1 3 (load 2 2) ∷ entry 6 1 3 (fix 2 2 5 1)
    ∷ receipt 6 1 4 (unfixed 0 0 1)
    ∷ entry 7 1 5 (kind.Withdraw 1)
    ∷ entry 8 1 5 (kind.Undo 1)
    ∷ entry 9 1 5 (refused (call.Resize 8192 2) (cause.Undone ((2, word 1 5) ∷ (2, word 1 5) ∷ [])))
    ∷ entry 10 1 6 (load 3 3) ∷ entry 11 1 6 (fix 3 3 10 9)
    ∷ receipt 11 1 7 (unfixed 3 3 6)
    ∷ receipt 11 1 8 (unfixed 2 2 3)
    ∷ receipt 11 1 9 (unfixed 1 1 2)
    ∷ entry 12 0 1 (kind.Clean 0 [])
    ∷ [])
given_up = search computing

-- An unsound page is refused and its frame goes to the back; then a dirty page is relocated, and the hint from before is stale.
pub relocated : Whole pairs
    (entry 1 1 1 (refused_fix 7 (cause.BadPage (bad.Number 8)))
    ∷ entry 2 1 2 (load 1 1) ∷ entry 3 1 2 (fix 1 1 2 1)
    ∷ entry 4 1 3 (load 2 2) ∷ entry 5 1 3 (fix 2 2 4 1)
    ∷ entry 6 1 4 (put 2 38 (170 ∷ 187 ∷ []) 8192 8215)
    ∷ receipt 6 1 5 (unfixed 2 2 3)
    ∷ entry 7 1 6 (kind.Withdraw 1)
    ∷ entry 8 1 6 (move 2 2 0)
    ∷ entry 9 1 6 (kind.Shrink 1)
    ∷ entry 10 1 6 (kind.Resize 8192 1)
    ∷ receipt 10 1 7 (denied (call.Guess (page 2) 2 6) (cause.Stale (vacant 6)))
    ∷ receipt 10 1 8 (granted 2 0 8)
    ∷ receipt 10 1 9 (copied 2 38 (170 ∷ 187 ∷ []) 8)
    ∷ receipt 10 1 10 (unfixed 2 0 8)
    ∷ receipt 10 1 11 (unfixed 1 1 2)
    ∷ entry 11 0 1 (write 2 8215 8215)
    ∷ entry 12 0 1 (kind.Clean 1 [])
    ∷ [])
relocated = search computing

-- Four pages, each given back: the two of the area move to frames from which others are evicted.
pub made_room : Whole pairs
    (entry 1 1 1 (load 0 0) ∷ entry 2 1 1 (fix 0 0 1 1)
    ∷ receipt 2 1 2 (unfixed 0 0 1)
    ∷ entry 3 1 3 (load 1 1) ∷ entry 4 1 3 (fix 1 1 3 1)
    ∷ receipt 4 1 4 (unfixed 1 1 3)
    ∷ entry 5 1 5 (load 2 2) ∷ entry 6 1 5 (fix 2 2 5 1)
    ∷ receipt 6 1 6 (unfixed 2 2 5)
    ∷ entry 7 1 7 (load 3 3) ∷ entry 8 1 7 (fix 3 3 7 1)
    ∷ receipt 8 1 8 (unfixed 3 3 7)
    ∷ entry 9 1 9 (kind.Withdraw 1)
    ∷ entry 10 1 9 (evict 0 0 [])
    ∷ entry 11 1 9 (move 2 2 0)
    ∷ entry 12 1 9 (evict 1 1 [])
    ∷ entry 13 1 9 (move 3 3 1)
    ∷ entry 14 1 9 (kind.Shrink 1)
    ∷ entry 15 1 9 (kind.Resize 8192 1)
    ∷ entry 16 0 1 (kind.Clean 0 [])
    ∷ [])
made_room = search computing

-- The log fails at a victim's write, so the page stays; the next fix writes and evicts it.
pub log_failed : Whole single
    (entry 1 1 1 (load 0 0) ∷ entry 2 1 1 (fix 0 0 1 1)
    ∷ entry 3 1 2 (put 0 38 (1 ∷ []) 8192 8214)
    ∷ receipt 3 1 3 (unfixed 0 0 1)
    ∷ entry 4 1 4 (refused (call.Fix (page 1) 2) (cause.RedoFault 0 1))
    ∷ entry 5 1 5 (write 0 8214 8214)
    ∷ entry 6 1 5 (evict 0 0 [])
    ∷ entry 7 1 5 (load 1 0) ∷ entry 8 1 5 (fix 1 0 7 3)
    ∷ receipt 8 1 6 (unfixed 1 0 5)
    ∷ entry 9 0 1 (kind.Clean 0 [])
    ∷ [])
log_failed = search computing

-- a page that is watched for comes, and the watch is asked, kept, given up and missed
pub watched : Whole four
    (entry 1 1 1 (kind.WatchSet (page 0))
    ∷ entry 2 1 2 (load 0 0) ∷ entry 3 1 2 (fix 0 0 2 1)
    ∷ entry 4 1 3 (kind.Occurred (page 0) true)
    ∷ entry 5 1 4 (kind.WatchAt (page 0) 0)
    ∷ entry 6 1 5 (kind.Unwatch (page 0))
    ∷ entry 7 1 6 (refused (call.Occurred (page 0)) cause.NoWatch)
    ∷ receipt 7 1 7 (unfixed 0 0 2)
    ∷ entry 8 0 1 (kind.Clean 0 [])
    ∷ [])
watched = search computing

-- a page is made, checkpoints stand before and behind its clean, and a second create and a put without a fix are refused
pub created : Whole four
    (entry 1 1 1 (create 2 0 8192 8213)
    ∷ entry 2 1 2 (kind.Check 8192)
    ∷ entry 3 1 3 (write 2 8213 8213)
    ∷ entry 4 1 3 (kind.Clean 1 [])
    ∷ entry 5 1 4 (kind.Check 8213)
    ∷ entry 6 1 5 (refused (call.Create (page 2) 1) (cause.Resident 0))
    ∷ receipt 6 1 6 (denied (call.Put (page 1) 38 (1 ∷ [])) cause.Unheld)
    ∷ receipt 6 1 7 (unfixed 2 0 1)
    ∷ entry 7 0 1 (kind.Clean 0 [])
    ∷ [])
created = search computing
