-- Why calls are refused: each cause comes where it holds, and an exact one wherever it does.
use Rattle.std.proofs.Common.{ℕ, zero, suc, List, [], ◌∷◌, ◌++◌, ◌+◌, refl, arith}
use Rattle.page_ids.specs.declared.layout.BadPage.TheVariants as bad
use Rattle.trail.specs.declared.event.Call.TheVariants as call
use Rattle.trail.specs.declared.event.Cause.TheVariants as cause
use Rattle.trail.specs.declared.event.Kind.TheVariants as kind
use Rattle.trail.specs.declared.event.Event.{Event}
use Rattle.trail_rows.proofs.Shared.{page, fixed, four, pairs, entry, receipt, word, latched, vacant, load, fix, refused, refused_fix, granted, denied, computing, fails, Good, Breaks}

-- a page that isn't there, by the number of its space's pages, and the last one that is
pub no_page : Good four (entry 1 1 1 (refused_fix 64 (cause.NoSuchPage 64)) ∷ entry 2 1 2 (load 63 0) ∷ entry 3 1 2 (fix 63 0 2 1) ∷ [])
no_page = search computing

-- each space has its own number
pub no_page_in_another : Good four (entry 1 1 1 (refused_fix 64 (cause.NoSuchPage 64)) ∷ entry 2 1 2 (refused (call.Fix (record { space = 3; page = 0 }) 1) (cause.NoSuchPage 0)) ∷ [])
no_page_in_another = search computing

-- the number says that the page is there
pub no_page_below : Breaks four [] (entry 1 1 1 (refused_fix 63 (cause.NoSuchPage 64)))
no_page_below = record { good = search computing; bad = fails (λ h. h.causes.1.behind) (λ law. grind arith) }

-- any call that names a page may tell it
pub no_page_of_guess : Good four (receipt 0 1 1 (denied (call.Guess (page 64) 0 1) (cause.NoSuchPage 64)) ∷ entry 1 1 2 (refused_fix 70 (cause.NoSuchPage 64)) ∷ [])
no_page_of_guess = search computing

-- and its number is the space's for all behind it
pub no_page_of_guess_twice : Breaks four (receipt 0 1 1 (denied (call.Guess (page 64) 0 1) (cause.NoSuchPage 64)) ∷ []) (entry 1 1 2 (refused_fix 70 (cause.NoSuchPage 65)))
no_page_of_guess_twice = record { good = search computing; bad = fails (λ h. h.causes.1.same) (λ law. grind arith) }

-- but behind its own causes
pub no_page_unheld : Breaks four [] (entry 1 1 1 (refused (call.Put (page 64) 38 (1 ∷ [])) (cause.NoSuchPage 64)))
no_page_unheld = record { good = search computing; bad = fails (λ h. h.causes.2) (λ law. grind arith) }

-- two numbers are told of one space
pub no_page_twice : Breaks four (entry 1 1 1 (refused_fix 64 (cause.NoSuchPage 64)) ∷ []) (entry 2 1 2 (refused (call.Watch (page 70)) (cause.NoSuchPage 65)))
no_page_twice = record { good = search computing; bad = fails (λ h. h.causes.1.same) (λ law. grind arith) }

-- a page is fixed that a refusal told to be missing
pub fix_of_no_page : Breaks four (entry 1 1 1 (refused_fix 64 (cause.NoSuchPage 64)) ∷ entry 2 1 2 (load 64 0) ∷ []) (entry 3 1 2 (fix 64 0 2 1))
fix_of_no_page = record { good = search computing; bad = fails (λ h. h.causes.reached.inside) (λ law. grind arith) }

-- or is refused for something else
pub fault_of_no_page : Breaks four (entry 1 1 1 (refused_fix 64 (cause.NoSuchPage 64)) ∷ []) (entry 2 1 2 (refused_fix 65 (cause.DiskFault 0 1)))
fault_of_no_page = record { good = search computing; bad = fails (λ h. h.causes.0.inside) (λ law. grind arith) }

-- a page is told to be missing below one that was there
pub no_page_below_fixed : Breaks four (entry 1 1 1 (load 9 0) ∷ entry 2 1 1 (fix 9 0 1 1) ∷ []) (entry 3 1 2 (refused_fix 9 (cause.NoSuchPage 9)))
no_page_below_fixed = record { good = search computing; bad = fails (λ h. h.causes.1.shown) (λ law. grind arith) }

-- or below one that a refusal for something else shows to be there
pub no_page_below_refused : Breaks four (entry 1 1 1 (refused (call.Create (page 9) 1) (cause.RedoFault 0 1)) ∷ []) (entry 2 1 2 (refused_fix 9 (cause.NoSuchPage 9)))
no_page_below_refused = record { good = search computing; bad = fails (λ h. h.causes.1.shown) (λ law. grind arith) }

-- so many guesses of page 0, from this number on
abbrev guesses : ℕ → ℕ → List Event
guesses number zero = []
guesses number (suc n) = receipt 2 1 number (granted 0 0 1) ∷ guesses (number + 1) n

-- a caller has 64 fixes
abbrev full : List Event
full = fixed ++ guesses 2 63

-- so that a fix is refused, and a create too, for this before it is for a page that is there
pub fixes_full : Good four (full ++ entry 3 1 65 (refused_fix 1 (cause.HoldFull 64)) ∷ entry 4 1 66 (refused (call.Create (page 0) 1) (cause.HoldFull 64)) ∷ [])
fixes_full = search computing

-- it gets one more
pub fixes_over_full : Breaks four full (receipt 2 1 65 (granted 0 0 1))
fixes_over_full = record { good = search computing; bad = fails (λ h. h.causes.none_due) (λ law. grind arith) }

-- it has one, and is refused as if it had 64
pub fixes_few : Breaks four fixed (entry 3 1 2 (refused_fix 1 (cause.HoldFull 64)))
fixes_few = record { good = search computing; bad = fails (λ h. h.causes.1) (λ law. grind arith) }

-- a page that is there isn't made
pub resident : Good four (fixed ++ entry 3 1 2 (refused (call.Create (page 0) 1) (cause.Resident 0)) ∷ [])
resident = search computing

-- that is told with another frame
pub resident_elsewhere : Breaks four fixed (entry 3 1 2 (refused (call.Create (page 0) 1) (cause.Resident 1)))
resident_elsewhere = record { good = search computing; bad = fails (λ h. h.causes.1) (λ law. grind arith) }

-- A fix of a page that is there isn't refused for that, but this is a promise of the calls, and no law: the law is that the page is there,
pub resident_fix : Good four (fixed ++ entry 3 1 2 (refused_fix 0 (cause.Resident 0)) ∷ [])
resident_fix = search computing

-- in this frame,
pub resident_fix_elsewhere : Breaks four fixed (entry 3 1 2 (refused_fix 1 (cause.Resident 0)))
resident_fix_elsewhere = record { good = search computing; bad = fails (λ h. h.causes.1) (λ law. grind arith) }

-- and that the call has no cause of its own
pub resident_fix_full : Breaks four full (entry 3 1 65 (refused_fix 0 (cause.Resident 0)))
resident_fix_full = record { good = search computing; bad = fails (λ h. h.causes.1) (λ law. grind arith) }

-- another cause is told in its place
pub resident_hidden : Breaks four fixed (entry 3 1 2 (refused (call.Create (page 0) 1) (cause.RedoFault 0 1)))
resident_hidden = record { good = search computing; bad = fails (λ h. h.causes.1.0) (λ law. grind arith) }

-- counts of faults rise, those of the log and of the disk each for themselves, and stay at their end
pub faults : Good four
    (entry 1 1 1 (refused_fix 1 (cause.RedoFault 3 4))
    ∷ entry 2 1 2 (refused_fix 1 (cause.DiskFault 0 2))
    ∷ entry 3 1 3 (refused_fix 1 (cause.DiskFault 2 3))
    ∷ entry 4 1 4 (refused_fix 1 (cause.DiskFault 18446744073709551615 18446744073709551615))
    ∷ [])
faults = search computing

-- a count didn't rise
pub fault_unrisen : Breaks four [] (entry 1 1 1 (refused_fix 1 (cause.DiskFault 1 1)))
fault_unrisen = record { good = search computing; bad = fails (λ h. h.causes.1.1.0) (λ law. grind arith) }

-- it was greater before
pub fault_again : Breaks four (entry 1 1 1 (refused_fix 1 (cause.RedoFault 0 2)) ∷ []) (entry 2 1 2 (refused_fix 1 (cause.RedoFault 1 3)))
fault_again = record { good = search computing; bad = fails (λ h. h.causes.1.1.1) (λ law. grind arith) }

-- another page's number, another space's, or two halves were found
pub bad_pages : Good four
    (entry 1 1 1 (refused_fix 1 (cause.BadPage (bad.Number 8)))
    ∷ entry 2 1 2 (refused_fix 1 (cause.BadPage (bad.Space 5)))
    ∷ entry 3 1 3 (refused_fix 1 (cause.BadPage (bad.Torn 8214 0)))
    ∷ [])
bad_pages = search computing

-- the page's own number was found
pub bad_page_itself : Breaks four [] (entry 1 1 1 (refused_fix 1 (cause.BadPage (bad.Number 1))))
bad_page_itself = record { good = search computing; bad = fails (λ h. h.causes.1.1) (λ law. law refl) }

-- one LSN at both ends
pub bad_page_whole : Breaks four [] (entry 1 1 1 (refused_fix 1 (cause.BadPage (bad.Torn 5 5))))
bad_page_whole = record { good = search computing; bad = fails (λ h. h.causes.1.1) (λ law. law refl) }

-- a create reads nothing, but that it has no such cause is a promise of the calls, and no law
pub bad_page_of_create : Good four (entry 1 1 1 (refused (call.Create (page 1) 1) (cause.BadPage (bad.Number 8))) ∷ [])
bad_page_of_create = search computing

-- a record of 22 bytes doesn't fit before the log's last end, 2^63, and then one of 21 bytes at the same end
pub log_spent : Good four
    (fixed
    ++ entry 3 1 2 (refused (call.Put (page 0) 38 (1 ∷ [])) (cause.LogSpent 9223372036854775800))
    ∷ entry 4 1 3 (refused (call.Create (page 1) 1) (cause.LogSpent 9223372036854775800))
    ∷ [])
log_spent = search computing

-- it does fit
pub log_unspent : Breaks four fixed (entry 3 1 2 (refused (call.Put (page 0) 38 (1 ∷ [])) (cause.LogSpent 9223372036854775786)))
log_unspent = record { good = search computing; bad = fails (λ h. h.causes.1.1.beyond) (λ law. grind arith) }

-- the log's end was further on before
pub log_spent_again : Breaks four
    (fixed ++ entry 3 1 2 (refused (call.Put (page 0) 38 (1 ∷ [])) (cause.LogSpent 9223372036854775800)) ∷ [])
    (entry 4 1 3 (refused (call.Put (page 0) 38 (1 ∷ [])) (cause.LogSpent 9223372036854775790)))
log_spent_again = record { good = search computing; bad = fails (λ h. h.causes.1.1.behind) (λ law. grind arith) }

-- so many watches for pages, from this number on
abbrev watching : ℕ → ℕ → List Event
watching number zero = []
watching number (suc n) = entry number 1 number (kind.WatchSet (page number)) ∷ watching (number + 1) n

-- 33 watches stand, so no other one may be set; one that stands may
pub watches_full : Good four (watching 1 33 ++ entry 34 1 34 (refused (call.Watch (page 34)) (cause.WatchFull 33)) ∷ entry 35 1 35 (kind.WatchSet (page 33)) ∷ [])
watches_full = search computing

-- one more is set
pub watches_over_full : Breaks four (watching 1 33) (entry 34 1 34 (kind.WatchSet (page 34)))
watches_over_full = record { good = search computing; bad = fails (λ h. h.causes.none_due) (λ law. grind arith) }

-- a caller has no watch for the page
pub no_watch : Good four (entry 1 1 1 (refused (call.Unwatch (page 0)) cause.NoWatch) ∷ entry 2 1 2 (refused (call.Occurred (page 0)) cause.NoWatch) ∷ [])
no_watch = search computing

-- so of any call that names the page; one that names none can't be refused for this
pub no_watch_of_fix : Good four (entry 1 1 1 (refused_fix 0 cause.NoWatch) ∷ entry 2 1 2 (refused (call.Create (page 0) 1) cause.Unheld) ∷ [])
no_watch_of_fix = search computing

pub no_watch_of_check : Breaks four [] (entry 1 1 1 (refused call.Check cause.NoWatch))
no_watch_of_check = record { good = search computing; bad = fails (λ h. h.causes.1) (λ law. grind arith) }

-- it has one
pub no_watch_but_one : Breaks four (entry 1 1 1 (kind.WatchSet (page 0)) ∷ []) (entry 2 1 2 (refused (call.Occurred (page 0)) cause.NoWatch))
no_watch_but_one = record { good = search computing; bad = fails (λ h. h.causes.1) (λ law. grind arith) }

-- resizes to no bytes, to more chunks than may be, and while another call withdraws some
pub bad_sizes : Good pairs
    (entry 1 1 1 (refused (call.Resize 0 1) cause.TooSmall)
    ∷ entry 2 1 2 (refused (call.Resize 16385 1) (cause.TooLarge 3 2))
    ∷ entry 3 2 1 (kind.Withdraw 1)
    ∷ entry 4 1 3 (refused (call.Resize 16384 1) (cause.Withdrawing 1))
    ∷ entry 5 1 4 (refused (call.Resize 0 1) cause.TooSmall)
    ∷ [])
bad_sizes = search computing

-- a resize to no bytes is refused for another cause, which stands behind
pub size_hidden : Breaks pairs (entry 1 2 1 (kind.Withdraw 1) ∷ []) (entry 2 1 1 (refused (call.Resize 0 1) (cause.Withdrawing 1)))
size_hidden = record { good = search computing; bad = fails (λ h. h.causes.1) (λ law. grind arith) }

-- so many chunks may be
pub not_too_large : Breaks pairs [] (entry 1 1 1 (refused (call.Resize 16384 1) (cause.TooLarge 2 2)))
not_too_large = record { good = search computing; bad = fails (λ h. h.causes.1) (λ law. grind arith) }

-- a resize is granted while another call withdraws chunks
pub resize_while_withdrawing : Breaks pairs (entry 1 2 1 (kind.Withdraw 1) ∷ []) (entry 2 1 1 (kind.Resize 16384 2))
resize_while_withdrawing = record { good = search computing; bad = fails (λ h. h.causes.none_due) (λ law. grind arith) }

-- guesses: there is no such frame, its page or clock is another one, or it is latched
pub guesses_refused : Good four
    (fixed
    ++ receipt 2 1 2 (denied (call.Guess (page 0) 8 1) (cause.NoFrame 8))
    ∷ receipt 2 1 3 (denied (call.Guess (page 0) 0 2) (cause.Stale (word 1 1)))
    ∷ receipt 2 1 4 (denied (call.Guess (page 0) 1 0) (cause.Stale (vacant 0)))
    ∷ receipt 2 1 5 (denied (call.Guess (page 1) 0 1) (cause.OtherPage (page 0)))
    ∷ receipt 2 1 6 (denied (call.Guess (page 0) 0 1) (cause.Latched (latched 2 1)))
    ∷ receipt 2 1 7 (denied (call.Read (page 0) 38 4) (cause.Busy (latched 1 1)))
    ∷ receipt 2 2 1 (denied (call.Read (page 0) 38 4) cause.Unheld)
    ∷ [])
guesses_refused = search computing

-- there is such a frame
pub frame_there : Breaks four fixed (receipt 2 1 2 (denied (call.Guess (page 0) 7 1) (cause.NoFrame 8)))
frame_there = record { good = search computing; bad = fails (λ h. h.causes.1) (λ law. grind arith) }

-- there is no such frame, and something else is told
pub frame_hidden : Breaks four fixed (receipt 2 1 2 (denied (call.Guess (page 0) 8 1) (cause.Stale (vacant 0))))
frame_hidden = record { good = search computing; bad = fails (λ h. h.causes.1.0) (λ law. grind arith) }

-- the word is that of the hint
pub not_stale : Breaks four fixed (receipt 2 1 2 (denied (call.Guess (page 0) 0 1) (cause.Stale (word 1 1))))
not_stale = record { good = search computing; bad = fails (λ h. h.causes.1.1) (λ law. grind arith) }

-- the page is that of the hint
pub not_other : Breaks four fixed (receipt 2 1 2 (denied (call.Guess (page 0) 0 1) (cause.OtherPage (page 0))))
not_other = record { good = search computing; bad = fails (λ h. h.causes.1.1) (λ law. grind arith) }

-- the word isn't latched
pub not_latched : Breaks four fixed (receipt 2 1 2 (denied (call.Guess (page 0) 0 1) (cause.Latched (word 1 1))))
not_latched = record { good = search computing; bad = fails (λ h. h.causes.1.1) (λ law. grind arith) }

-- the caller has a fix of the page
pub not_unheld : Breaks four fixed (receipt 2 1 2 (denied (call.Read (page 0) 38 4) cause.Unheld))
not_unheld = record { good = search computing; bad = fails (λ h. h.causes) (λ law. grind arith) }

-- it has none, and something else is told
pub unheld_hidden : Breaks four fixed (receipt 2 2 1 (denied (call.Read (page 0) 38 4) (cause.Busy (latched 1 1))))
unheld_hidden = record { good = search computing; bad = fails (λ h. h.causes.1.0) (λ law. grind arith) }

-- a refusal that is a receipt tells how many pages a space has, too
pub no_page_noted : Good four (receipt 0 1 1 (denied (call.Fix (page 64) 1) (cause.NoSuchPage 64)) ∷ entry 1 2 1 (refused_fix 70 (cause.NoSuchPage 64)) ∷ [])
no_page_noted = search computing

-- another number is told behind it
pub no_page_noted_twice : Breaks four (receipt 0 1 1 (denied (call.Fix (page 64) 1) (cause.NoSuchPage 64)) ∷ []) (entry 1 2 1 (refused_fix 70 (cause.NoSuchPage 65)))
no_page_noted_twice = record { good = search computing; bad = fails (λ h. h.causes.1.same) (λ law. grind arith) }

-- and it shows that its page is there
pub no_page_shown_noted : Breaks four (receipt 0 1 1 (denied (call.Fix (page 63) 1) (cause.DiskFault 0 1)) ∷ []) (entry 1 2 1 (refused_fix 63 (cause.NoSuchPage 63)))
no_page_shown_noted = record { good = search computing; bad = fails (λ h. h.causes.1.shown) (λ law. grind arith) }
