-- Places of the history: what a call needs, and when it is refused for want of them.
use Rattle.std.proofs.Common.{ℕ, List, [], ◌∷◌, ◌++◌, ◌+◌, ◌-◌, arith}
use Rattle.page_ids.specs.declared.limits.TheConstants.{LIMIT}
use Rattle.trail.specs.declared.event.Call.TheVariants as call
use Rattle.trail.specs.declared.event.Cause.TheVariants as cause
use Rattle.trail.specs.declared.event.Kind.TheVariants as kind
use Rattle.trail.specs.declared.event.Event.{Event}
use Rattle.trail.specs.Trails.{Opening}
use Rattle.trail_rows.proofs.Shared.{page, opened, entry, receipt, load, fix, create, put, write, refused, refused_fix, denied, computing, fails, Good, Breaks, Whole, Unfinished}

-- one chunk of four frames, so many places before the limit
abbrev left : ℕ → Opening
left places = opened (LIMIT - places) 4 16384 2

-- two chunks of two frames
abbrev pairs_left : ℕ → Opening
pairs_left places = opened (LIMIT - places) 2 16384 2

-- a fix needs four places, and is refused by a receipt where three are left
pub fix_spent : Whole (left 3) (receipt (LIMIT - 3) 1 1 (denied (call.Fix (page 0) 1) (cause.PlacesSpent (LIMIT - 3) 4)) ∷ [])
fix_spent = search computing

-- where four are left it isn't
pub fix_unspent : Breaks (left 4) [] (receipt (LIMIT - 4) 1 1 (denied (call.Fix (page 0) 1) (cause.PlacesSpent (LIMIT - 4) 4)))
fix_unspent = record { good = search computing; bad = fails (λ h. h.causes.beyond) (λ law. grind arith) }

-- it is granted there
pub fix_in_time : Good (left 4) (entry (LIMIT - 3) 1 1 (load 0 0) ∷ entry (LIMIT - 2) 1 1 (fix 0 0 (LIMIT - 3) 1) ∷ [])
fix_in_time = search computing

-- it is granted where three are left, though it takes but two
pub fix_too_late : Breaks (left 3) (entry (LIMIT - 2) 1 1 (load 0 0) ∷ []) (entry (LIMIT - 1) 1 1 (fix 0 0 (LIMIT - 2) 1))
fix_too_late = record { good = search computing; bad = fails (λ h. h.causes.reached.places) (λ law. grind arith) }

-- or is refused there, since its page is missing
pub no_page_too_late : Breaks (left 3) [] (entry (LIMIT - 2) 1 1 (refused_fix 64 (cause.NoSuchPage 64)))
no_page_too_late = record { good = search computing; bad = fails (λ h. h.causes.0) (λ law. grind arith) }

-- another need is told
pub other_need : Breaks (left 3) [] (receipt (LIMIT - 3) 1 1 (denied (call.Fix (page 0) 1) (cause.PlacesSpent (LIMIT - 3) 5)))
other_need = record { good = search computing; bad = fails (λ h. h.causes.need_is) (λ law. grind arith) }

-- another place is told
pub other_mark : Breaks (left 3) [] (receipt (LIMIT - 3) 1 1 (denied (call.Fix (page 0) 1) (cause.PlacesSpent (LIMIT - 2) 4)))
other_mark = record { good = search computing; bad = fails (λ h. h.causes.mark_is) (λ law. grind arith) }

-- such a refusal is an entry
pub spent_as_entry : Breaks (left 3) [] (entry (LIMIT - 2) 1 1 (refused_fix 0 (cause.PlacesSpent (LIMIT - 3) 4)))
spent_as_entry = record { good = search computing; bad = fails (λ h. h.legal.before.0) (λ law. law) }

-- a create needs three places, and any other call of a page one
pub needs : Good (left 3) (entry (LIMIT - 2) 1 1 (create 0 0 8192 8213) ∷ entry (LIMIT - 1) 1 2 (put 0 38 (1 ∷ []) 8213 8235) ∷ entry LIMIT 1 3 (kind.Check 8192) ∷ [])
needs = search computing

-- a caller without a fix is told so before all other causes, and a guess needs no place
pub no_need : Good (left 0) (receipt LIMIT 1 1 (denied (call.Put (page 0) 38 (1 ∷ [])) cause.Unheld) ∷ receipt LIMIT 1 2 (denied (call.Guess (page 0) 8 1) (cause.NoFrame 8)) ∷ [])
no_need = search computing

-- page 0 is dirty, and one place is left
abbrev dirty : List Event
dirty = entry (LIMIT - 2) 1 1 (create 0 0 8192 8213) ∷ entry (LIMIT - 1) 1 2 (kind.Check 8192) ∷ []

-- a clean of no page needs one place; one of a page needs two
pub clean_spent : Good (left 3) (dirty ++ receipt (LIMIT - 1) 1 3 (denied (call.Clean 9) (cause.PlacesSpent (LIMIT - 1) 2)) ∷ entry LIMIT 1 4 (kind.Clean 0 []) ∷ [])
clean_spent = search computing

-- it writes the page all the same
pub clean_too_late : Breaks (left 3) (dirty ++ entry LIMIT 1 3 (write 0 8213 8213) ∷ []) (entry (LIMIT + 1) 1 3 (kind.Clean 1 []))
clean_too_late = record { good = search computing; bad = fails (λ h. h.causes.reached.places) (λ law. grind arith) }

-- the runner's clean may go further, as it may be the closing flush
pub closing_flush : Whole (left 3) (dirty ++ entry LIMIT 0 1 (write 0 8213 8213) ∷ entry (LIMIT + 1) 0 1 (kind.Clean 1 []) ∷ [])
closing_flush = search computing

-- a round of a resize needs nine places for an area of two frames
pub round_spent : Whole (pairs_left 8) (receipt (LIMIT - 8) 1 1 (denied (call.Resize 8192 1) (cause.PlacesSpent (LIMIT - 8) 9)) ∷ [])
round_spent = search computing

-- while another call withdraws chunks a resize needs one
pub withdrawing_spends_one : Good (pairs_left 9) (entry (LIMIT - 8) 2 1 (kind.Withdraw 1) ∷ entry (LIMIT - 7) 1 1 (refused (call.Resize 8192 1) (cause.Withdrawing 1)) ∷ [])
withdrawing_spends_one = search computing

-- a resize to more chunks needs two
pub growth_spent : Whole (left 1) (receipt (LIMIT - 1) 1 1 (denied (call.Resize 32768 1) (cause.PlacesSpent (LIMIT - 1) 2)) ∷ [])
growth_spent = search computing

-- A later round is refused by an entry behind the undoing, at the place before it.
pub later_round_spent : Whole (pairs_left 9)
    (entry (LIMIT - 8) 1 1 (kind.Withdraw 1)
    ∷ entry (LIMIT - 7) 1 1 (kind.Undo 1)
    ∷ entry (LIMIT - 6) 1 1 (refused (call.Resize 8192 2) (cause.PlacesSpent (LIMIT - 8) 9))
    ∷ [])
later_round_spent = search computing

-- at the place behind it
pub later_round_elsewhere : Breaks (pairs_left 9)
    (entry (LIMIT - 8) 1 1 (kind.Withdraw 1) ∷ entry (LIMIT - 7) 1 1 (kind.Undo 1) ∷ [])
    (entry (LIMIT - 6) 1 1 (refused (call.Resize 8192 2) (cause.PlacesSpent (LIMIT - 7) 9)))
later_round_elsewhere = record { good = search computing; bad = fails (λ h. h.causes.mark_is) (λ law. grind arith) }

-- the places were left at that round
pub later_round_unspent : Breaks (pairs_left 10)
    (entry (LIMIT - 9) 1 1 (kind.Withdraw 1) ∷ entry (LIMIT - 8) 1 1 (kind.Undo 1) ∷ [])
    (entry (LIMIT - 7) 1 1 (refused (call.Resize 8192 2) (cause.PlacesSpent (LIMIT - 9) 9)))
later_round_unspent = record { good = search computing; bad = fails (λ h. h.causes.beyond) (λ law. grind arith) }

-- places that were left at a resize's first round are no cause against its answer
pub resize_in_time : Whole (pairs_left 9) (entry (LIMIT - 8) 1 1 (kind.Withdraw 1) ∷ entry (LIMIT - 7) 1 1 (kind.Shrink 1) ∷ entry (LIMIT - 6) 1 1 (kind.Resize 8192 1) ∷ [])
resize_in_time = search computing

-- they weren't
pub resize_too_late : Breaks (pairs_left 8)
    (entry (LIMIT - 7) 1 1 (kind.Withdraw 1) ∷ entry (LIMIT - 6) 1 1 (kind.Shrink 1) ∷ [])
    (entry (LIMIT - 5) 1 1 (kind.Resize 8192 1))
resize_too_late = record { good = search computing; bad = fails (λ h. h.causes.reached.places) (λ law. grind arith) }

-- That a caller has no fix of the page stands before want of places: it is no cause then.
pub put_unheld_spent : Breaks (left 0) [] (receipt LIMIT 1 1 (denied (call.Put (page 0) 38 (1 ∷ [])) (cause.PlacesSpent LIMIT 1)))
put_unheld_spent = record { good = search computing; bad = fails (λ h. h.causes.held) (λ law. grind arith) }

-- with a fix it is
pub put_spent : Good (left 4)
    (entry (LIMIT - 3) 1 1 (load 0 0) ∷ entry (LIMIT - 2) 1 1 (fix 0 0 (LIMIT - 3) 1)
    ∷ entry (LIMIT - 1) 1 2 (kind.Check 0) ∷ entry LIMIT 1 3 (kind.Check 0)
    ∷ receipt LIMIT 1 4 (denied (call.Put (page 0) 38 (1 ∷ [])) (cause.PlacesSpent LIMIT 1))
    ∷ [])
put_spent = search computing

-- three chunks of two frames
abbrev triples_left : ℕ → Opening
triples_left places = opened (LIMIT - places) 2 24576 3

-- A later round goes by the area that is open: four frames.
pub later_round_of_area : Good (triples_left 15)
    (entry (LIMIT - 14) 1 1 (kind.Withdraw 1)
    ∷ entry (LIMIT - 13) 1 1 (kind.Undo 1)
    ∷ entry (LIMIT - 12) 1 1 (refused (call.Resize 16384 2) (cause.PlacesSpent (LIMIT - 14) 15))
    ∷ [])
later_round_of_area = search computing

-- and not by the target, which would leave two of them
pub later_round_of_target : Breaks (triples_left 9)
    (entry (LIMIT - 8) 1 1 (kind.Withdraw 1) ∷ entry (LIMIT - 7) 1 1 (kind.Undo 1) ∷ [])
    (entry (LIMIT - 6) 1 1 (refused (call.Resize 16384 2) (cause.PlacesSpent (LIMIT - 8) 9)))
later_round_of_target = record { good = search computing; bad = fails (λ h. h.causes.need_is) (λ law. grind arith) }

-- By a receipt it is refused lawfully where it comes, since which refusals are receipts is promised alone; but no whole trail has it so, because what
-- follows the undo in the history isn't its call's refusal.
pub later_round_noted : Unfinished (pairs_left 9)
    (entry (LIMIT - 8) 1 1 (kind.Withdraw 1)
    ∷ entry (LIMIT - 7) 1 1 (kind.Undo 1)
    ∷ receipt (LIMIT - 7) 1 1 (denied (call.Resize 8192 2) (cause.PlacesSpent (LIMIT - 8) 9))
    ∷ [])
later_round_noted = record { good = search computing; bad = fails (λ h. h.followed) (λ law. grind arith) }

-- a first round is refused by an entry
pub first_round_as_entry : Breaks (pairs_left 8) [] (entry (LIMIT - 7) 1 1 (refused (call.Resize 8192 1) (cause.PlacesSpent (LIMIT - 8) 9)))
first_round_as_entry = record { good = search computing; bad = fails (λ h. h.legal.before.0) (λ law. law) }
