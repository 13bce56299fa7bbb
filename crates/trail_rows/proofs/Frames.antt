-- Frames: which one a page comes into, which page leaves, and what stays.
use Rattle.std.proofs.Common.{List, [], ◌∷◌, ◌++◌, arith}
use Rattle.page_ids.specs.declared.layout.BadPage.TheVariants as bad
use Rattle.trail.specs.declared.event.Call.TheVariants as call
use Rattle.trail.specs.declared.event.Cause.TheVariants as cause
use Rattle.trail.specs.declared.event.Kind.TheVariants as kind
use Rattle.trail.specs.declared.event.Event.{Event}
use Rattle.trail_rows.proofs.Shared.{page, four, pairs, single, opened, entry, receipt, word, vacant, load, fix, put, evict, write, refused, refused_fix, granted, unfixed, computing, fails, Good, Breaks}

-- two frames, and pages 0 and 1 in them, each with a fix of its own caller
abbrev couple : List Event
couple = entry 1 1 1 (load 0 0) ∷ entry 2 1 1 (fix 0 0 1 1) ∷ entry 3 2 1 (load 1 1) ∷ entry 4 2 1 (fix 1 1 3 1) ∷ []

-- the second frame in the free list is taken
pub load_second : Breaks four [] (entry 1 1 1 (load 0 1))
load_second = record { good = search computing; bad = fails (λ h. h.legal.kind.next) (λ law. grind arith) }

-- a frame goes to the back of the free list where its page was unsound or couldn't be read, or the log had no LSN for a create
pub back_of_list : Good four
    (entry 1 1 1 (refused_fix 7 (cause.BadPage (bad.Number 8)))
    ∷ entry 2 1 2 (refused_fix 1 (cause.DiskFault 0 1))
    ∷ entry 3 1 3 (refused (call.Create (page 1) 1) (cause.LogSpent 9223372036854775800))
    ∷ entry 4 1 4 (load 0 3)
    ∷ [])
back_of_list = search computing

-- a create that found no page on the disk leaves the list: such a refusal comes to a fix alone
pub create_leaves_list : Good four (entry 1 1 1 (refused (call.Create (page 1) 1) (cause.BadPage (bad.Number 8))) ∷ entry 2 1 2 (load 0 0) ∷ [])
create_leaves_list = search computing

-- a victim's frame is given back where the read failed, and the next call takes it
pub victim_given_back : Good (opened 0 2 8192 1)
    (couple
    ++ receipt 4 1 2 (unfixed 0 0 1)
    ∷ entry 5 1 3 (evict 0 0 [])
    ∷ entry 6 1 3 (refused_fix 2 (cause.DiskFault 0 1))
    ∷ entry 7 2 2 (load 3 0) ∷ entry 8 2 2 (fix 3 0 7 1)
    ∷ [])
victim_given_back = search computing

-- the frame of another call's victim is taken
pub other_hand : Breaks single
    (entry 1 1 1 (load 0 0) ∷ entry 2 1 1 (fix 0 0 1 1) ∷ receipt 2 1 2 (unfixed 0 0 1) ∷ entry 3 1 3 (evict 0 0 []) ∷ [])
    (entry 4 2 1 (load 1 0))
other_hand = record { good = search computing; bad = fails (λ h. h.legal.kind.next) (λ law. grind arith) }

-- It stays in that call's hand where another call is refused behind its frame, and so isn't free.
pub other_hand_kept : Breaks single
    (entry 1 1 1 (load 0 0) ∷ entry 2 1 1 (fix 0 0 1 1) ∷ receipt 2 1 2 (unfixed 0 0 1) ∷ entry 3 1 3 (evict 0 0 [])
    ∷ entry 4 2 1 (refused_fix 7 (cause.BadPage (bad.Number 8))) ∷ [])
    (entry 5 2 2 (load 1 0))
other_hand_kept = record { good = search computing; bad = fails (λ h. h.legal.kind.next) (λ law. grind arith) }

-- while the frames that come later are taken and given back by others
pub hand_among_free : Good (opened 0 1 4096 2)
    (entry 1 1 1 (load 0 0) ∷ entry 2 1 1 (fix 0 0 1 1) ∷ receipt 2 1 2 (unfixed 0 0 1) ∷ entry 3 1 3 (evict 0 0 [])
    ∷ entry 4 2 1 (kind.Grow 2) ∷ entry 5 2 1 (kind.Resize 8192 2)
    ∷ entry 6 2 2 (refused_fix 7 (cause.BadPage (bad.Number 8))) ∷ entry 7 2 3 (load 1 1) ∷ entry 8 2 3 (fix 1 1 7 1)
    ∷ [])
hand_among_free = search computing

-- a page leaves while a frame is free
pub evict_with_free : Breaks four
    (entry 1 1 1 (load 0 0) ∷ entry 2 1 1 (fix 0 0 1 1) ∷ receipt 2 1 2 (unfixed 0 0 1) ∷ [])
    (entry 3 1 3 (evict 0 0 []))
evict_with_free = record { good = search computing; bad = fails (λ h. h.victim.sought.none_free) (λ law. grind arith) }

-- a page leaves that its own caller has fixed
pub evict_fixed : Breaks single (entry 1 1 1 (load 0 0) ∷ entry 2 1 1 (fix 0 0 1 1) ∷ []) (entry 3 1 2 (evict 0 0 []))
evict_fixed = record { good = search computing; bad = fails (λ h. h.still) (λ law. grind arith) }

-- or another one, by a guess
pub evict_guessed : Breaks single
    (entry 1 1 1 (load 0 0) ∷ entry 2 1 1 (fix 0 0 1 1) ∷ receipt 2 1 2 (unfixed 0 0 1) ∷ receipt 2 2 1 (granted 0 0 1) ∷ [])
    (entry 3 1 3 (evict 0 0 []))
evict_guessed = record { good = search computing; bad = fails (λ h. h.still) (λ law. grind arith) }

-- the page at the tail is fixed: it is passed with its word, and the next one leaves
pub evict_passes : Good (opened 0 2 8192 1) (couple ++ receipt 4 2 2 (unfixed 1 1 1) ∷ entry 5 2 3 (evict 1 1 ((0, word 1 1) ∷ [])) ∷ [])
evict_passes = search computing

-- nothing is told of it
pub evict_passes_silently : Breaks (opened 0 2 8192 1) (couple ++ receipt 4 2 2 (unfixed 1 1 1) ∷ []) (entry 5 2 3 (evict 1 1 []))
evict_passes_silently = record { good = search computing; bad = fails (λ h. h.victim.sought.passed_are) (λ law. grind arith) }

-- the word that was passed has no fix
pub evict_passes_unfixed : Breaks (opened 0 2 8192 1) (couple ++ receipt 4 2 2 (unfixed 1 1 1) ∷ []) (entry 5 2 3 (evict 1 1 ((0, word 0 1) ∷ [])))
evict_passes_unfixed = record { good = search computing; bad = fails (λ h. h.victim.sought.passed_are.fixed) (λ law. grind arith) }

-- the word that was passed has the clock of a change before
pub evict_passes_old : Breaks (opened 0 2 8192 1) (couple ++ receipt 4 2 2 (unfixed 1 1 1) ∷ []) (entry 5 2 3 (evict 1 1 ((0, word 1 0) ∷ [])))
evict_passes_old = record { good = search computing; bad = fails (λ h. h.victim.sought.passed_are.fixed) (λ law. grind arith) }

-- a word tells of a frame that wasn't passed
pub evict_passes_more : Breaks (opened 0 2 8192 1) (couple ++ receipt 4 1 2 (unfixed 0 0 1) ∷ []) (entry 5 1 3 (evict 0 0 ((1, word 1 3) ∷ [])))
evict_passes_more = record { good = search computing; bad = fails (λ h. h.victim.sought.passed_are.only) (λ law. grind arith) }

-- page 0 at the tail is dirty, page 1 is clean, and nobody has them
abbrev dirty_tail : List Event
dirty_tail = couple ++ entry 5 1 2 (put 0 38 (7 ∷ []) 8192 8214) ∷ receipt 5 1 3 (unfixed 0 0 1) ∷ receipt 5 2 2 (unfixed 1 1 1) ∷ []

-- the clean page leaves, though a dirty one stands at the tail
pub clean_first : Good (opened 0 2 8192 1) (dirty_tail ++ entry 6 1 4 (evict 1 1 []) ∷ [])
clean_first = search computing

-- the dirty page is written and leaves before a clean one
pub dirty_first : Breaks (opened 0 2 8192 1) (dirty_tail ++ entry 6 1 4 (write 0 8214 8214) ∷ []) (entry 7 1 4 (evict 0 0 []))
dirty_first = record { good = search computing; bad = fails (λ h. h.victim.sought.passed_are) (λ law. grind arith) }

-- a dirty page leaves without a write
pub evict_dirty : Breaks single
    (entry 1 1 1 (load 0 0) ∷ entry 2 1 1 (fix 0 0 1 1) ∷ entry 3 1 2 (put 0 38 (7 ∷ []) 8192 8214) ∷ receipt 3 1 3 (unfixed 0 0 1) ∷ [])
    (entry 4 1 4 (evict 0 0 []))
evict_dirty = record { good = search computing; bad = fails (λ h. h.victim.clean) (λ law. grind arith) }

-- a page leaves another frame than its own
pub evict_other_frame : Breaks (opened 0 2 8192 1) (couple ++ receipt 4 1 2 (unfixed 0 0 1) ∷ []) (entry 5 1 3 (evict 0 1 []))
evict_other_frame = record { good = search computing; bad = fails (λ h. h.victim.housed) (λ law. grind arith) }

-- Every frame was seen with a fix; the words may stand in any order.
pub all_fixed : Good (opened 0 2 8192 1) (couple ++ entry 5 1 2 (refused_fix 2 (cause.AllFixed ((1, word 1 3) ∷ (0, word 3 1) ∷ []))) ∷ [])
all_fixed = search computing

-- one frame isn't told
pub all_fixed_but_one : Breaks (opened 0 2 8192 1) couple (entry 5 1 2 (refused_fix 2 (cause.AllFixed ((1, word 1 3) ∷ []))))
all_fixed_but_one = record { good = search computing; bad = fails (λ h. h.causes.1.1.frames) (λ law. grind arith) }

-- one is told twice
pub all_fixed_twice : Breaks (opened 0 2 8192 1) couple (entry 5 1 2 (refused_fix 2 (cause.AllFixed ((0, word 1 1) ∷ (0, word 1 1) ∷ (1, word 1 3) ∷ []))))
all_fixed_twice = record { good = search computing; bad = fails (λ h. h.causes.1.1.frames.count) (λ law. grind arith) }

-- one has no fix
pub all_fixed_unfixed : Breaks (opened 0 2 8192 1) couple (entry 5 1 2 (refused_fix 2 (cause.AllFixed ((0, word 0 1) ∷ (1, word 1 3) ∷ []))))
all_fixed_unfixed = record { good = search computing; bad = fails (λ h. h.causes.1.1.fixed) (λ law. grind arith) }

-- a frame is free
pub all_fixed_with_free : Breaks four (entry 1 1 1 (load 0 0) ∷ entry 2 1 1 (fix 0 0 1 1) ∷ [])
    (entry 3 1 2 (refused_fix 2 (cause.AllFixed ((0, word 1 1) ∷ (1, vacant 0) ∷ (2, vacant 0) ∷ (3, vacant 0) ∷ []))))
all_fixed_with_free = record { good = search computing; bad = fails (λ h. h.causes.1.1.none_free) (λ law. grind arith) }

-- the page is there
pub all_fixed_resident : Breaks (opened 0 2 8192 1) couple (entry 5 1 2 (refused_fix 1 (cause.AllFixed ((0, word 1 1) ∷ (1, word 1 3) ∷ []))))
all_fixed_resident = record { good = search computing; bad = fails (λ h. h.causes.1.1.absent) (λ law. grind arith) }

-- a frame that is withdrawn isn't told
pub all_fixed_but_withdrawn : Good pairs
    (couple ++ entry 5 3 1 (kind.Withdraw 1) ∷ entry 6 1 2 (refused_fix 2 (cause.AllFixed ((0, word 1 1) ∷ (1, word 1 3) ∷ []))) ∷ [])
all_fixed_but_withdrawn = search computing
