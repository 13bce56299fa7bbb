-- Places, numbers of calls, and the order of events.
use Rattle.std.proofs.Common.{ℕ, List, [], ◌∷◌, ◌++◌, ◌≡◌, refl, arith}
use Rattle.trail.specs.declared.event.Call.TheVariants as call
use Rattle.trail.specs.declared.event.Cause.TheVariants as cause
use Rattle.trail.specs.declared.event.Kind.TheVariants as kind
use Rattle.trail.specs.declared.event.Note.{Note}
use Rattle.trail.specs.declared.event.Event.{Event}
use Rattle.trail.specs.Trails.{Opening, entries, own}
use Rattle.trail.specs.Legal.{IsLegal}
use Rattle.trail.specs.Causes.{IsCaused}
use Rattle.trail.specs.Spaces.{shown_pages, told_pages}
use Rattle.trail_rows.proofs.Shared.{page, fixed, four, single, entry, receipt, load, fix, put, write, evict, refused_fix, granted, unfixed, denied, computing, fails, Good, Breaks, Unfinished}

-- a place is skipped
pub place_skipped : Breaks four (entry 1 1 1 (load 0 0) ∷ []) (entry 3 1 1 (fix 0 0 1 5))
place_skipped = record { good = search computing; bad = fails (λ h. h.legal.place) (λ law. grind arith) }

-- a receipt stands behind a newer entry than that of its place
pub receipt_late : Breaks four fixed (receipt 1 1 2 (granted 0 0 1))
receipt_late = record { good = search computing; bad = fails (λ h. h.legal.place) (λ law. grind arith) }

-- a caller's first number is 2
pub number_of_first : Breaks four [] (entry 1 1 2 (load 0 0))
number_of_first = record { good = search computing; bad = fails (λ h. h.legal.number) (λ law. grind arith) }

-- or 0
pub number_nought : Breaks four [] (entry 1 1 0 (load 0 0))
number_nought = record { good = search computing; bad = fails (λ h. h.legal.number) (λ law. grind arith) }

-- a number is skipped by an entry
pub number_skipped : Breaks four fixed (entry 3 1 3 (kind.Check 0))
number_skipped = record { good = search computing; bad = fails (λ h. h.legal.number) (λ law. grind arith) }

-- a call that has its answer gets one more
pub answered_twice : Breaks four fixed (entry 3 1 1 (kind.Check 0))
answered_twice = record { good = search computing; bad = fails (λ h. h.legal.number) (λ law. grind arith) }

-- a receipt answers a call that has entries
pub receipt_behind_load : Breaks four (entry 1 1 1 (load 0 0) ∷ []) (receipt 1 1 1 (granted 0 0 1))
receipt_behind_load = record { good = search computing; bad = fails (λ h. h.legal.before) (λ law. grind arith) }

-- each caller counts its own calls
pub two_callers : Good four (fixed ++ entry 3 2 1 (fix 0 0 1 5) ∷ entry 4 1 2 (fix 0 0 1 5) ∷ [])
two_callers = search computing

-- a refused fix of its own caller stands between the load and the fix of a call: the fix comes too late
pub fix_parted : Breaks four (entry 1 1 1 (load 0 0) ∷ entry 2 1 2 (refused_fix 1 (cause.DiskFault 0 1)) ∷ []) (entry 3 1 1 (fix 0 0 1 5))
fix_parted = record { good = search computing; bad = fails (λ h. h.legal.together) (λ law. grind arith) }

-- and so behind an entry of another caller
pub fix_parted_by_other : Breaks four (entry 1 1 1 (load 0 0) ∷ entry 2 2 1 (kind.Check 0) ∷ []) (entry 3 1 1 (fix 0 0 1 5))
fix_parted_by_other = record { good = search computing; bad = fails (λ h. h.legal.together) (λ law. grind arith) }

-- a receipt of another caller parts no call
pub receipt_between : Good four (entry 1 1 1 (load 0 0) ∷ receipt 1 2 1 (denied (call.Unfix (page 0)) cause.Unheld) ∷ entry 2 1 1 (fix 0 0 1 5) ∷ [])
receipt_between = search computing

-- an entry of another call stands between two writes of a clean: the second write comes too late
pub clean_parted : Breaks four
    (fixed
    ++ entry 3 1 2 (put 0 38 (1 ∷ []) 8192 8214)
    ∷ entry 4 1 3 (load 1 1) ∷ entry 5 1 3 (fix 1 1 4 5)
    ∷ entry 6 1 4 (put 1 38 (1 ∷ []) 8214 8236)
    ∷ entry 7 1 5 (write 0 8214 8236)
    ∷ entry 8 2 1 (kind.Check 8214)
    ∷ [])
    (entry 9 1 5 (write 1 8236 8236))
clean_parted = record { good = search computing; bad = fails (λ h. h.legal.together) (λ law. grind arith) }

-- receipts of one place rise by caller, and then by number
pub receipts_rise : Good four (fixed ++ receipt 2 1 2 (granted 0 0 1) ∷ receipt 2 1 3 (granted 0 0 1) ∷ receipt 2 2 1 (granted 0 0 1) ∷ [])
receipts_rise = search computing

-- a later caller's comes first
pub callers_fall : Breaks four (fixed ++ receipt 2 2 1 (granted 0 0 1) ∷ []) (receipt 2 1 2 (granted 0 0 1))
callers_fall = record { good = search computing; bad = fails (λ h. h.order) (λ law. grind arith) }

-- Another caller's receipt, whatever it says, takes nothing from what a receipt has to obey but its place in the order, and adds nothing;
-- for causes this is so where it tells nothing of spaces.
pub other_receipt : (o : Opening) (past seen : List Event) (place m n : ℕ) (q r : Note)
    → (IsLegal o (entries (receipt place 2 m q ∷ past)) (own 1 (receipt place 2 m q ∷ past)) (receipt place 1 n r) → IsLegal o (entries past) (own 1 past) (receipt place 1 n r))
    × (IsLegal o (entries past) (own 1 past) (receipt place 1 n r) → IsLegal o (entries (receipt place 2 m q ∷ past)) (own 1 (receipt place 2 m q ∷ past)) (receipt place 1 n r))
    × (IsCaused o seen (entries (receipt place 2 m q ∷ past)) (own 1 (receipt place 2 m q ∷ past)) (receipt place 1 n r) → IsCaused o seen (entries past) (own 1 past) (receipt place 1 n r))
    × (IsCaused o seen (entries past) (own 1 past) (receipt place 1 n r) → IsCaused o seen (entries (receipt place 2 m q ∷ past)) (own 1 (receipt place 2 m q ∷ past)) (receipt place 1 n r))
other_receipt o past seen place m n q r = (λ h. h, λ h. h, λ h. h, λ h. h)

-- as what grants a guess does
pub guess_tells_no_space : (past : List Event) (place m f clock s : ℕ)
    → (told_pages (receipt place 2 m (granted 0 f clock) ∷ past) s ≡ told_pages past s) × (shown_pages (receipt place 2 m (granted 0 f clock) ∷ past) s ≡ shown_pages past s)
guess_tells_no_space past place m f clock s = (refl, refl)

-- a refusal that is a receipt answers a call that has entries, and no other receipt does
pub fault_noted_behind_evict : Good single
    (entry 1 1 1 (load 0 0) ∷ entry 2 1 1 (fix 0 0 1 1) ∷ receipt 2 1 2 (unfixed 0 0 1) ∷ entry 3 1 3 (evict 0 0 []) ∷ receipt 3 1 3 (denied (call.Fix (page 1) 1) (cause.DiskFault 0 1)) ∷ [])
fault_noted_behind_evict = search computing

-- its call has no such entry
pub fault_noted_behind_load : Breaks four (entry 1 1 1 (load 0 0) ∷ []) (receipt 1 1 1 (denied (call.Fix (page 0) 1) (cause.DiskFault 0 1)))
fault_noted_behind_load = record { good = search computing; bad = fails (λ h. h.legal.before) (λ law. grind arith) }

-- it has its answer
pub noted_twice : Breaks four fixed (receipt 2 1 1 (denied (call.Fix (page 1) 1) (cause.DiskFault 0 1)))
noted_twice = record { good = search computing; bad = fails (λ h. h.legal.number) (λ law. grind arith) }

-- a call has no answer at the trail's end
pub unanswered : Unfinished four (entry 1 1 1 (load 0 0) ∷ [])
unanswered = record { good = search computing; bad = fails (λ h. h.answered) (λ law. grind arith) }
