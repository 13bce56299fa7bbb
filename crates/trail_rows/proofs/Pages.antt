-- What events say of pages: puts, reads, guesses, unfixes, writes, cleans, checkpoints, watches and dumps.
use Rattle.std.proofs.Common.{List, [], ◌∷◌, ◌++◌, true, None, arith}
use Rattle.trail.specs.declared.event.Kind.TheVariants as kind
use Rattle.trail.specs.declared.event.Event.{Event}
use Rattle.trail.specs.Trails.{Opening}
use Rattle.trail_rows.proofs.Shared.{page, fixed, four, single, entry, receipt, word, latched, load, fix, create, put, evict, write, granted, copied, unfixed, computing, fails, Good, Breaks}

-- and a byte is put
abbrev changed : List Event
changed = fixed ++ entry 3 1 2 (put 0 38 (7 ∷ []) 8192 8214) ∷ []

-- a page that is no page is read in
pub load_unsound : Breaks four [] (entry 1 1 1 (load 7 0))
load_unsound = record { good = search computing; bad = fails (λ h. h.legal.kind.sound) (λ law. grind arith) }

-- where the disk tells no values, that isn't judged
pub load_untold : Good (record four { base = None }) (entry 1 1 1 (load 7 0) ∷ [])
load_untold = search computing

-- a page that is there is read in once more
pub load_resident : Breaks four fixed (entry 3 1 2 (load 0 1))
load_resident = record { good = search computing; bad = fails (λ h. h.legal.kind.absent) (λ law. grind arith) }

-- a fix is granted at the clock that a put left
pub fix_after_put : Good four (changed ++ entry 4 2 1 (fix 0 0 3 1) ∷ [])
fix_after_put = search computing

-- at an older one
pub fix_old_clock : Breaks four changed (entry 4 2 1 (fix 0 0 1 1))
fix_old_clock = record { good = search computing; bad = fails (λ h. h.legal.kind.unchanged) (λ law. grind arith) }

-- in another frame
pub fix_other_frame : Breaks four fixed (entry 3 2 1 (fix 0 1 0 1))
fix_other_frame = record { good = search computing; bad = fails (λ h. h.legal.kind.resident) (λ law. grind arith) }

-- puts follow each other in the log, perhaps with a gap; the last one ends where the body does
pub puts_follow : Good four (changed ++ entry 4 1 3 (put 0 4086 (8 ∷ 9 ∷ []) 8300 8323) ∷ [])
puts_follow = search computing

-- a put begins in the log before the end of the one before
pub put_overlaps : Breaks four changed (entry 4 1 3 (put 0 38 (8 ∷ []) 8213 8235))
put_overlaps = record { good = search computing; bad = fails (λ h. h.legal.kind.behind) (λ law. grind arith) }

-- a put's record is a byte too short
pub put_short : Breaks four fixed (entry 3 1 2 (put 0 38 (7 ∷ []) 8192 8213))
put_short = record { good = search computing; bad = fails (λ h. h.legal.kind.record_is) (λ law. grind arith) }

-- a put reaches into the header
pub put_in_header : Breaks four fixed (entry 3 1 2 (put 0 37 (7 ∷ []) 8192 8214))
put_in_header = record { good = search computing; bad = fails (λ h. h.legal.kind.range.header) (λ law. grind arith) }

-- or into the trailer
pub put_in_trailer : Breaks four fixed (entry 3 1 2 (put 0 4087 (8 ∷ 9 ∷ []) 8192 8215))
put_in_trailer = record { good = search computing; bad = fails (λ h. h.legal.kind.range.trailer) (λ law. grind arith) }

-- a put of no bytes
pub put_nothing : Breaks four fixed (entry 3 1 2 (put 0 38 [] 8192 8213))
put_nothing = record { good = search computing; bad = fails (λ h. h.legal.kind.range.some) (λ law. grind arith) }

-- a put on a page that another caller has fixed
pub put_unheld : Breaks four fixed (entry 3 2 1 (put 0 38 (7 ∷ []) 8192 8214))
put_unheld = record { good = search computing; bad = fails (λ h. h.legal.kind.held) (λ law. grind arith) }

-- a create ends 21 bytes behind its start, and its page is blank
pub create_blank : Good four (entry 1 1 1 (create 7 0 8192 8213) ∷ receipt 1 1 2 (copied 7 38 (0 ∷ 0 ∷ []) 1) ∷ [])
create_blank = search computing

-- a create's record is too long
pub create_long : Breaks four [] (entry 1 1 1 (create 7 0 8192 8214))
create_long = record { good = search computing; bad = fails (λ h. h.legal.kind.record_is) (λ law. grind arith) }

-- a page that is there is made
pub create_resident : Breaks four fixed (entry 3 1 2 (create 0 1 8192 8213))
create_resident = record { good = search computing; bad = fails (λ h. h.legal.kind.absent) (λ law. grind arith) }

-- the bytes that were put are read, at the put's clock
pub read_put : Good four (changed ++ receipt 3 1 3 (copied 0 38 (7 ∷ 0 ∷ []) 3) ∷ [])
read_put = search computing

-- the bytes from before are read
pub read_old : Breaks four changed (receipt 3 1 3 (copied 0 38 (0 ∷ []) 3))
read_old = record { good = search computing; bad = fails (λ h. h.legal.note.read) (λ law. grind arith) }

-- at the clock from before
pub read_old_clock : Breaks four changed (receipt 3 1 3 (copied 0 38 (7 ∷ []) 1))
read_old_clock = record { good = search computing; bad = fails (λ h. h.legal.note.unchanged) (λ law. grind arith) }

-- a guess is granted at the clock from before
pub guess_old_clock : Breaks four changed (receipt 3 2 1 (granted 0 0 1))
guess_old_clock = record { good = search computing; bad = fails (λ h. h.legal.note.unchanged) (λ law. grind arith) }

-- a fix that a guess got is given back, and then the one from before
pub both_given_back : Good four (fixed ++ receipt 2 1 2 (granted 0 0 1) ∷ receipt 2 1 3 (unfixed 0 0 2) ∷ receipt 2 1 4 (unfixed 0 0 1) ∷ [])
both_given_back = search computing

-- a fix is given back twice
pub unfix_twice : Breaks four (fixed ++ receipt 2 1 2 (unfixed 0 0 1) ∷ []) (receipt 2 1 3 (unfixed 0 0 1))
unfix_twice = record { good = search computing; bad = fails (λ h. h.legal.note) (λ law. grind arith) }

-- the fix of another caller is
pub unfix_of_other : Breaks four fixed (receipt 2 2 1 (unfixed 0 0 1))
unfix_of_other = record { good = search computing; bad = fails (λ h. h.legal.note) (λ law. grind arith) }

-- a page is written with another LSN than its last change's end
pub write_other_lsn : Breaks four changed (entry 4 1 3 (write 0 8192 8214))
write_other_lsn = record { good = search computing; bad = fails (λ h. h.covered) (λ law. grind arith) }

-- before its log is durable
pub write_uncovered : Breaks four changed (entry 4 1 3 (write 0 8214 8213))
write_uncovered = record { good = search computing; bad = fails (λ h. h.covered) (λ law. grind arith) }

-- a clean page is written
pub write_clean : Breaks four fixed (entry 3 1 2 (write 0 0 0))
write_clean = record { good = search computing; bad = fails (λ h. h.covered) (λ law. grind arith) }

-- pages 0 and 1 were changed, page 0 first
abbrev two_dirty : List Event
two_dirty = entry 1 1 1 (create 0 0 8192 8213) ∷ entry 2 1 2 (create 1 1 8213 8234) ∷ entry 3 1 3 (put 0 38 (7 ∷ []) 8234 8256) ∷ []

-- a clean writes the page first that was changed first, and may end there
pub clean_oldest : Good four (two_dirty ++ entry 4 1 4 (write 0 8256 8256) ∷ entry 5 1 4 (kind.Clean 1 []) ∷ entry 6 1 5 (kind.Check 8213) ∷ [])
clean_oldest = search computing

-- it writes both
pub clean_both : Good four (two_dirty ++ entry 4 1 4 (write 0 8256 8256) ∷ entry 5 1 4 (write 1 8234 8256) ∷ entry 6 1 4 (kind.Clean 2 []) ∷ [])
clean_both = search computing

-- it writes the younger one first
pub clean_younger : Breaks four (two_dirty ++ entry 4 1 4 (write 1 8234 8256) ∷ []) (entry 5 1 4 (kind.Clean 1 []))
clean_younger = record { good = search computing; bad = fails (λ h. h.legal.kind.oldest) (λ law. grind arith) }

-- it counts a page too few
pub clean_miscounted : Breaks four (two_dirty ++ entry 4 1 4 (write 0 8256 8256) ∷ []) (entry 5 1 4 (kind.Clean 0 []))
clean_miscounted = record { good = search computing; bad = fails (λ h. h.legal.kind.count) (λ law. grind arith) }

-- a latched frame is skipped, and the next page is written
pub clean_skips : Good four (two_dirty ++ entry 4 2 1 (write 1 8234 8256) ∷ entry 5 2 1 (kind.Clean 1 ((0, latched 1 3) ∷ [])) ∷ [])
clean_skips = search computing

-- a frame is skipped that isn't latched
pub clean_skips_unlatched : Breaks four (two_dirty ++ entry 4 2 1 (write 1 8234 8256) ∷ []) (entry 5 2 1 (kind.Clean 1 ((0, word 1 3) ∷ [])))
clean_skips_unlatched = record { good = search computing; bad = fails (λ h. h.legal.kind.latched) (λ law. grind arith) }

-- a frame without a dirty page is skipped
pub clean_skips_other : Breaks four (two_dirty ++ entry 4 2 1 (write 0 8256 8256) ∷ []) (entry 5 2 1 (kind.Clean 1 ((2, latched 0 0) ∷ [])))
clean_skips_other = record { good = search computing; bad = fails (λ h. h.legal.kind.passed) (λ law. grind arith) }

-- a checkpoint names the first change of the page that was changed last
pub check_younger : Breaks four two_dirty (entry 4 1 4 (kind.Check 8213))
check_younger = record { good = search computing; bad = fails (λ h. h.legal.kind) (λ law. grind arith) }

-- where nothing is dirty, it stands before a change
pub check_early : Breaks four (changed ++ entry 4 1 3 (write 0 8214 8214) ∷ entry 5 1 3 (kind.Clean 1 []) ∷ []) (entry 6 1 4 (kind.Check 8213))
check_early = record { good = search computing; bad = fails (λ h. h.legal.kind) (λ law. grind arith) }

-- a watch for a page that is there is set
pub watch_resident : Breaks four fixed (entry 3 1 2 (kind.WatchSet (page 0)))
watch_resident = record { good = search computing; bad = fails (λ h. h.legal.kind) (λ law. grind arith) }

-- or names another frame
pub watch_other_frame : Breaks four fixed (entry 3 1 2 (kind.WatchAt (page 0) 1))
watch_other_frame = record { good = search computing; bad = fails (λ h. h.legal.kind) (λ law. grind arith) }

-- a page has come that hasn't
pub seen_early : Breaks four (entry 1 1 1 (kind.WatchSet (page 0)) ∷ []) (entry 2 1 2 (kind.Occurred (page 0) true))
seen_early = record { good = search computing; bad = fails (λ h. h.legal.kind) (λ law. grind arith) }

-- each caller has its own watch
pub watch_of_other : Breaks four (entry 1 1 1 (kind.WatchSet (page 0)) ∷ []) (entry 2 2 1 (kind.Unwatch (page 0)))
watch_of_other = record { good = search computing; bad = fails (λ h. h.legal.kind) (λ law. grind arith) }

-- a watch that has occurred is set again when its page has left, and stays as it is
pub watch_again : Good single
    (entry 1 1 1 (kind.WatchSet (page 0))
    ∷ entry 2 1 2 (load 0 0) ∷ entry 3 1 2 (fix 0 0 2 1) ∷ receipt 3 1 3 (unfixed 0 0 2)
    ∷ entry 4 1 4 (evict 0 0 []) ∷ entry 5 1 4 (load 1 0) ∷ entry 6 1 4 (fix 1 0 5 1)
    ∷ entry 7 1 5 (kind.WatchSet (page 0)) ∷ entry 8 1 6 (kind.Occurred (page 0) true)
    ∷ [])
watch_again = search computing

-- the first half of the list is dumped, the head first
pub dump_half : Good four (two_dirty ++ entry 4 1 4 (kind.Dump 50 (page 1 ∷ [])) ∷ [])
dump_half = search computing

-- the tail is
pub dump_tail : Breaks four two_dirty (entry 4 1 4 (kind.Dump 50 (page 0 ∷ [])))
dump_tail = record { good = search computing; bad = fails (λ h. h.legal.kind) (λ law. grind arith) }

-- half of the list is old, where it has two pages at least
abbrev halved : Opening
halved = record four { config = record four.config { old_pct = 50; old_min = 2 } }

-- page 2 came to the midpoint, and page 0 is old
abbrev thirds : List Event
thirds =
    entry 1 1 1 (load 0 0) ∷ entry 2 1 1 (fix 0 0 1 1)
    ∷ entry 3 1 2 (load 1 1) ∷ entry 4 1 2 (fix 1 1 3 1)
    ∷ entry 5 1 3 (load 2 2) ∷ entry 6 1 3 (fix 2 2 5 1)
    ∷ []

-- it stays where less than a second has passed since its first access
pub old_page : Good halved (thirds ++ entry 7 1 4 (fix 0 0 1 1000) ∷ entry 8 1 5 (kind.Dump 100 (page 1 ∷ page 2 ∷ page 0 ∷ [])) ∷ [])
old_page = search computing

-- and becomes young where a second has passed
pub young_page : Good halved (thirds ++ entry 7 1 4 (fix 0 0 1 1001) ∷ entry 8 1 5 (kind.Dump 100 (page 0 ∷ page 1 ∷ page 2 ∷ [])) ∷ [])
young_page = search computing
