-- Resizes: growth, withdrawals, relocated pages, and what other calls do meanwhile.
use Rattle.std.proofs.Common.{List, [], ◌∷◌, ◌++◌, arith}
use Rattle.trail.specs.declared.event.Call.TheVariants as call
use Rattle.trail.specs.declared.event.Cause.TheVariants as cause
use Rattle.trail.specs.declared.event.Kind.TheVariants as kind
use Rattle.trail.specs.declared.event.Event.{Event}
use Rattle.trail_rows.proofs.Shared.{four, pairs, entry, receipt, word, load, fix, evict, move, refused, refused_fix, unfixed, computing, fails, Good, Breaks, Whole, Unfinished}

-- pages 0 to 2 are in frames 0 to 2, and page 2 alone is fixed
abbrev three : List Event
three =
    entry 1 1 1 (load 0 0) ∷ entry 2 1 1 (fix 0 0 1 1)
    ∷ receipt 2 1 2 (unfixed 0 0 1)
    ∷ entry 3 1 3 (load 1 1) ∷ entry 4 1 3 (fix 1 1 3 1)
    ∷ receipt 4 1 4 (unfixed 1 1 3)
    ∷ entry 5 1 5 (load 2 2) ∷ entry 6 1 5 (fix 2 2 5 1)
    ∷ []

-- and that one isn't
abbrev three_back : List Event
three_back = three ++ receipt 6 1 6 (unfixed 2 2 5) ∷ []

-- page 2 is in the area, and page 0 was evicted for it: frame 0 is free
abbrev one_free : List Event
one_free =
    entry 1 1 1 (load 0 0) ∷ entry 2 1 1 (fix 0 0 1 1)
    ∷ entry 3 1 2 (load 1 1) ∷ entry 4 1 2 (fix 1 1 3 1)
    ∷ entry 5 1 3 (load 2 2) ∷ entry 6 1 3 (fix 2 2 5 1)
    ∷ receipt 6 1 4 (unfixed 0 0 1)
    ∷ receipt 6 1 5 (unfixed 2 2 3)
    ∷ entry 7 1 6 (kind.Withdraw 1)
    ∷ entry 8 1 6 (evict 0 0 [])
    ∷ []

-- a chunk comes, and its frames are free behind the others
pub grown : Whole four
    (entry 1 1 1 (kind.Grow 2)
    ∷ entry 2 1 1 (kind.Resize 32768 2)
    ∷ entry 3 1 2 (load 0 0) ∷ entry 4 1 2 (fix 0 0 3 1)
    ∷ [])
grown = search computing

-- more chunks than may be
pub grow_too_far : Breaks four [] (entry 1 1 1 (kind.Grow 3))
grow_too_far = record { good = search computing; bad = fails (λ h. h.withdrawal.most) (λ law. grind arith) }

-- as many as there are
pub grow_nothing : Breaks four [] (entry 1 1 1 (kind.Grow 1))
grow_nothing = record { good = search computing; bad = fails (λ h. h.withdrawal.more) (λ law. grind arith) }

-- while others are withdrawn
pub grow_while_open : Breaks (record pairs { config = record pairs.config { max = 3 } }) (entry 1 1 1 (kind.Withdraw 1) ∷ []) (entry 2 2 1 (kind.Grow 3))
grow_while_open = record { good = search computing; bad = fails (λ h. h.withdrawal.none_open) (λ law. grind arith) }

-- nothing changes: the answer stands alone
pub unchanged : Whole pairs (entry 1 1 1 (kind.Resize 16384 2) ∷ [])
unchanged = search computing

-- it tells other chunks than there are
pub other_chunks : Breaks pairs [] (entry 1 1 1 (kind.Resize 8192 1))
other_chunks = record { good = search computing; bad = fails (λ h. h.legal.kind.chunks_are) (λ law. grind arith) }

-- it tells bytes that are no whole chunks
pub other_bytes : Breaks pairs [] (entry 1 1 1 (kind.Resize 16000 2))
other_bytes = record { good = search computing; bad = fails (λ h. h.legal.kind.bytes_are) (λ law. grind arith) }

-- all chunks are withdrawn
pub withdraw_all : Breaks pairs [] (entry 1 1 1 (kind.Withdraw 0))
withdraw_all = record { good = search computing; bad = fails (λ h. h.withdrawal.some_left) (λ law. grind arith) }

-- none is
pub withdraw_none : Breaks pairs [] (entry 1 1 1 (kind.Withdraw 2))
withdraw_none = record { good = search computing; bad = fails (λ h. h.withdrawal.some_go) (λ law. grind arith) }

-- two calls withdraw
pub withdraw_twice : Breaks pairs (entry 1 1 1 (kind.Withdraw 1) ∷ []) (entry 2 2 1 (kind.Withdraw 1))
withdraw_twice = record { good = search computing; bad = fails (λ h. h.withdrawal.none_open) (λ law. grind arith) }

-- an area without pages goes at once
pub shrunk : Whole pairs (entry 1 1 1 (kind.Withdraw 1) ∷ entry 2 1 1 (kind.Shrink 1) ∷ entry 3 1 1 (kind.Resize 8192 1) ∷ [])
shrunk = search computing

-- to other chunks
pub shrink_other : Breaks pairs (entry 1 1 1 (kind.Withdraw 1) ∷ []) (entry 2 1 1 (kind.Shrink 0))
shrink_other = record { good = search computing; bad = fails (λ h. h.withdrawal.left) (λ law. grind arith) }

-- while a page is in it
pub shrink_early : Breaks pairs (three_back ++ entry 7 1 7 (kind.Withdraw 1) ∷ []) (entry 8 1 7 (kind.Shrink 1))
shrink_early = record { good = search computing; bad = fails (λ h. h.withdrawal.withdrawn) (λ law. grind arith) }

-- by another call
pub shrink_by_other : Breaks pairs (entry 1 1 1 (kind.Withdraw 1) ∷ []) (entry 2 2 1 (kind.Shrink 1))
shrink_by_other = record { good = search computing; bad = fails (λ h. h.withdrawal.owner) (λ law. grind arith) }

-- another call takes a withdrawal back
pub undo_by_other : Breaks pairs (entry 1 1 1 (kind.Withdraw 1) ∷ []) (entry 2 2 1 (kind.Undo 1))
undo_by_other = record { good = search computing; bad = fails (λ h. h.withdrawal.owner) (λ law. grind arith) }

-- another area is given up
pub undo_other : Breaks pairs (entry 1 1 1 (kind.Withdraw 1) ∷ []) (entry 2 1 1 (kind.Undo 2))
undo_other = record { good = search computing; bad = fails (λ h. h.withdrawal.area) (λ law. grind arith) }

-- a page of the area moves to the frame that was freed for it
pub moved : Good pairs (one_free ++ entry 9 1 6 (move 2 2 0) ∷ entry 10 1 6 (kind.Shrink 1) ∷ entry 11 1 6 (kind.Resize 8192 1) ∷ entry 12 2 1 (fix 2 0 9 1) ∷ [])
moved = search computing

-- another call moves it
pub move_by_other : Breaks pairs one_free (entry 9 2 1 (move 2 2 0))
move_by_other = record { good = search computing; bad = fails (λ h. h.withdrawal.owner) (λ law. grind arith) }

-- from a frame that isn't its home
pub move_from_other : Breaks pairs one_free (entry 9 1 6 (move 2 3 0))
move_from_other = record { good = search computing; bad = fails (λ h. h.withdrawal.housed) (λ law. grind arith) }

-- from a frame outside the area
pub move_outside : Breaks pairs one_free (entry 9 1 6 (move 1 1 0))
move_outside = record { good = search computing; bad = fails (λ h. h.withdrawal.inside) (λ law. grind arith) }

-- to a frame that isn't free
pub move_to_other : Breaks pairs one_free (entry 9 1 6 (move 2 2 3))
move_to_other = record { good = search computing; bad = fails (λ h. h.withdrawal.free) (λ law. grind arith) }

-- while it is fixed
pub move_fixed : Breaks pairs (one_free ++ entry 9 2 1 (fix 2 2 5 1) ∷ []) (entry 10 1 6 (move 2 2 0))
move_fixed = record { good = search computing; bad = fails (λ h. h.still) (λ law. grind arith) }

-- a withdrawn frame is taken by another call
pub load_withdrawn : Breaks pairs (three_back ++ entry 7 1 7 (kind.Withdraw 1) ∷ []) (entry 8 2 1 (load 3 3))
load_withdrawn = record { good = search computing; bad = fails (λ h. h.legal.kind.next) (λ law. grind arith) }

-- Another caller's fix stands between a withdrawal and its undoing.
pub fix_while_withdrawing : Whole pairs
    (three
    ++ entry 7 1 6 (kind.Withdraw 1)
    ∷ entry 8 2 1 (evict 0 0 [])
    ∷ entry 9 2 1 (load 5 0) ∷ entry 10 2 1 (fix 5 0 9 1)
    ∷ entry 11 1 6 (kind.Undo 1)
    ∷ entry 12 1 6 (refused (call.Resize 8192 1) (cause.Undone ((2, word 1 5) ∷ [])))
    ∷ [])
fix_while_withdrawing = search computing

-- Other callers' calls stand between the steps of one that comes to its end.
pub fixes_while_moving : Whole pairs
    (one_free
    ++ entry 9 2 1 (fix 1 1 3 1)
    ∷ entry 10 1 6 (move 2 2 0)
    ∷ entry 11 2 2 (fix 2 0 10 1)
    ∷ entry 12 1 6 (kind.Shrink 1)
    ∷ entry 13 1 6 (kind.Resize 8192 1)
    ∷ [])
fixes_while_moving = search computing

-- one of them stands between the shrink and the answer
pub shrink_parted : Unfinished pairs (entry 1 1 1 (kind.Withdraw 1) ∷ entry 2 1 1 (kind.Shrink 1) ∷ entry 3 2 1 (kind.Check 0) ∷ entry 4 1 1 (kind.Resize 8192 1) ∷ [])
shrink_parted = record { good = search computing; bad = fails (λ h. h.followed) (λ law. grind arith) }

-- between growth and its answer
pub growth_parted : Unfinished four (entry 1 1 1 (kind.Grow 2) ∷ entry 2 2 1 (kind.Check 0) ∷ entry 3 1 1 (kind.Resize 32768 2) ∷ [])
growth_parted = record { good = search computing; bad = fails (λ h. h.followed) (λ law. grind arith) }

-- between an undoing and its refusal
pub undo_parted : Unfinished pairs
    (three ++ entry 7 1 6 (kind.Withdraw 1) ∷ entry 8 1 6 (kind.Undo 1) ∷ entry 9 2 1 (kind.Check 0) ∷ entry 10 1 6 (refused (call.Resize 8192 1) (cause.Undone ((2, word 1 5) ∷ []))) ∷ [])
undo_parted = record { good = search computing; bad = fails (λ h. h.followed) (λ law. grind arith) }

-- fewer words are told than rounds were allowed
pub undone_early : Breaks pairs (three ++ entry 7 1 6 (kind.Withdraw 1) ∷ entry 8 1 6 (kind.Undo 1) ∷ []) (entry 9 1 6 (refused (call.Resize 8192 2) (cause.Undone ((2, word 1 5) ∷ []))))
undone_early = record { good = search computing; bad = fails (λ h. h.causes.1.1.rounds) (λ law. grind arith) }

-- the word of a frame outside the area is told
pub undone_outside : Breaks pairs (three ++ entry 7 1 6 (kind.Withdraw 1) ∷ entry 8 1 6 (kind.Undo 1) ∷ []) (entry 9 1 6 (refused (call.Resize 8192 1) (cause.Undone ((1, word 1 3) ∷ []))))
undone_outside = record { good = search computing; bad = fails (λ h. h.causes.1.1.inside) (λ law. grind arith) }

-- a word without a fix is told
pub undone_unfixed : Breaks pairs (three ++ entry 7 1 6 (kind.Withdraw 1) ∷ entry 8 1 6 (kind.Undo 1) ∷ []) (entry 9 1 6 (refused (call.Resize 8192 1) (cause.Undone ((2, word 0 5) ∷ []))))
undone_unfixed = record { good = search computing; bad = fails (λ h. h.causes.1.1.fixed) (λ law. grind arith) }

-- another call evicts the page of the area, while it is withdrawn
abbrev victim : List Event
victim =
    entry 1 1 1 (load 0 0) ∷ entry 2 1 1 (fix 0 0 1 1)
    ∷ entry 3 1 2 (load 1 1) ∷ entry 4 1 2 (fix 1 1 3 1)
    ∷ entry 5 1 3 (load 2 2) ∷ entry 6 1 3 (fix 2 2 5 1)
    ∷ receipt 6 1 4 (unfixed 2 2 3)
    ∷ entry 7 2 1 (kind.Withdraw 1)
    ∷ entry 8 1 5 (evict 2 2 ((0, word 1 1) ∷ (1, word 1 3) ∷ []))
    ∷ []

-- the frame goes to that call, and not to the withdraw list
pub victim_in_area : Good pairs (victim ++ entry 9 1 5 (load 3 2) ∷ entry 10 1 5 (fix 3 2 9 1) ∷ [])
victim_in_area = search computing

-- where the page can't be read in, it does go there, and the area is withdrawn
pub victim_back_in_area : Good pairs (victim ++ entry 9 1 5 (refused_fix 3 (cause.DiskFault 0 1)) ∷ entry 10 2 1 (kind.Shrink 1) ∷ entry 11 2 1 (kind.Resize 8192 1) ∷ [])
victim_back_in_area = search computing
