-- The answer of a clean behind its writes: that it is done, or its refusal by a fault.
use Rattle.std.proofs.Common.{◌≡◌, ℕ, suc, Bool, true, false, List, [], ◌∷◌, ◌++◌, ◌+◌, ◌≤◌, inl, Option, None, Some, IfSome, IsSome, length, take, refl, ap, ◌∙◌, sym, subst, arith}
use Rattle.std.specs.Option.{option_map, option_to_list}
use Rattle.page_ids.specs.Faults.{Rose}
use Rattle.page_ids.specs.Needs.{clean_need}
use Rattle.page_ids.specs.declared.ids.PageId.{PageId}
use Rattle.page_ids.specs.declared.limits.TheConstants.{LIMIT}
use Rattle.trail.specs.declared.event.Call.TheVariants as call
use Rattle.trail.specs.declared.event.Cause.TheVariants as cause
use Rattle.trail.specs.declared.event.Entry.{Entry}
use Rattle.trail.specs.declared.event.Kind.{Kind}
use Rattle.trail.specs.declared.event.Kind.TheVariants as kind
use Rattle.trail.specs.declared.event.Held.{Held}
use Rattle.trail.specs.declared.event.Event.{Event}
use Rattle.trail.specs.Trails.{entries, mark, own, Opening}
use Rattle.trail.specs.Kinds.{Writing, departure_in, kind_answers, write_in}
use Rattle.trail.specs.Book.{Book, book_after}
use Rattle.trail.specs.History.{disk_faults, log_faults}
use Rattle.trail.specs.Dirt.{dirty, pages_of}
use Rattle.trail.specs.Calls.{before_call, made as made_by}
use Rattle.trail.specs.Victim.{IsVictimKind}
use Rattle.trail.specs.Preceding.{MayPrecede, AreWrites, kinds}
use Rattle.trail.specs.Legal.{IsLegalKind, cleaned_first, written_pages}
use Rattle.trail.specs.Needs.{HasPlaces}
use Rattle.trail.specs.Still.{IsUnfixed}
use Rattle.trail.specs.Covered.{IsCoveredWrite}
use Rattle.trail.specs.Causes.{IsCausedKind, IsReached}
use Rattle.trail.specs.Withdrawal.{IsWithdrawalKind}
use Rattle.trail.specs.Alone.{IsTrueKind}
use Rattle.trail.specs.Promises.{IsBegun, IsOfSpaces, IsPromisedKind}
use Rattle.trail.proofs.LookUps.{all_came, none_passed}
use Rattle.desk.specs.declared.calls.Caller.{Caller}
use Rattle.script_run.specs.Openings.{Start, IsKindWithin}
use Rattle.script_run.specs.Runs.{RoseSo, fault_cause}
use Rattle.script_run.specs.Work.{leaves_chunks}
use Rattle.script_run.proofs.Calling.{before_by, numbered_entries, places_by}
use Rattle.script_run.proofs.Flushing.{Flushed}
use Rattle.script_run.proofs.Handing.{refused_hand}

-- what the call's answer is, behind its writes
pub record Closes (by : Caller) (start : Start) (disk log : ℕ) (o : Opening) (past : List Event) (k : Kind) : Type 0 where
  pub answers : kind_answers k ≡ true
  pub before : (h made : List Entry) → AreWrites (kinds made) → MayPrecede h made k
  pub legal : IsLegalKind o (entries past) (own by.pass past) by.pass by.number k
  pub still : IfSome (departure_in k) (λ d. IsUnfixed past d.page)
  pub covered : IfSome (write_in k) (λ v. IsCoveredWrite (entries past) v.page v.lsn v.upto)
  pub causes : IsCausedKind o past (entries past) (own by.pass past) by.pass by.number k
  pub victim : IsVictimKind o.config (entries past) by.pass by.number k
  pub withdrawal : IsWithdrawalKind o.config (entries past) by.pass by.number k
  pub exact : (h : List Entry) (held : List Held) → IsTrueKind h held k
  pub promised : IsOfSpaces start.pages k × IsPromisedKind o (entries past) (made_by by.number (own by.pass past)) k
  pub within : IsKindWithin start disk log k
  pub steady : leaves_chunks k ≡ true
  pub handless : (per : ℕ) (e : Entry) (b : Book) → b.hands ≡ [] → (book_after per e k b).hands ≡ []

refused_closes : (by : Caller) (start : Start) (disk_was disk_is log_was log_is : ℕ) (o : Opening) (past : List Event) (bound : ℕ) (log : Bool) (before after : ℕ) → start.disk_faults ≤ disk_was → start.log_faults ≤ log_was
    → disk_faults (entries past) ≤ disk_was → log_faults (entries past) ≤ log_was → Rose before after → RoseSo log disk_was disk_is log_was log_is before after
    → IsReached o past (entries past) (made_by by.number (own by.pass past)) by.pass by.number (call.Clean bound)
    → IsBegun (entries past) (made_by by.number (own by.pass past)) bound → Closes by start disk_is log_is o past (kind.Refused (call.Clean bound) (fault_cause log before after))
refused_closes by start disk_was disk_is log_was log_is o past bound true before after low low_log last last_log rose counts reached begun = record {
  answers = refl;
  before = λ h made are. (tt, are);
  legal = tt;
  still = tt;
  covered = tt;
  causes = (reached, (refl, (rose, omega (arith, last_log, counts.first))));
  victim = tt;
  withdrawal = tt;
  exact = λ h held. record { words = tt; tag = tt; free = refl };
  promised = (record { inside = tt; told = tt }, record { own = refl; filed = refl; excused = tt; rising = tt; begun = begun });
  within = (omega (arith, low_log, counts.first), omega (arith, counts.last));
  steady = refl;
  handless = λ per e b none. refused_hand per e (call.Clean bound) (cause.RedoFault before after) b (inl none) (inl none);
}
refused_closes by start disk_was disk_is log_was log_is o past bound false before after low low_log last last_log rose counts reached begun = record {
  answers = refl;
  before = λ h made are. (tt, are);
  legal = tt;
  still = tt;
  covered = tt;
  causes = (reached, (refl, (rose, omega (arith, last, counts.first))));
  victim = tt;
  withdrawal = tt;
  exact = λ h held. record { words = tt; tag = tt; free = refl };
  promised = (record { inside = tt; told = tt }, record { own = refl; filed = refl; excused = tt; rising = tt; begun = begun });
  within = (omega (arith, low, counts.first), omega (arith, counts.last));
  steady = refl;
  handless = λ per e b none. refused_hand per e (call.Clean bound) (cause.DiskFault before after) b (inl none) (inl none);
}

taken_first : (made : List Entry) (n : ℕ) (rest pages : List PageId) → pages ≡ written_pages made ++ rest → length (written_pages made) ≡ n → take n pages ≡ written_pages made
taken_first made n rest pages is count = ap (take n) is ∙ ap (λ m. take m (written_pages made ++ rest)) (sym count) ∙ take_front (written_pages made) rest
  where
    take_front : (xs ys : List PageId) → take (length xs) (xs ++ ys) ≡ xs
    take_front [] ys = refl
    take_front (x ∷ xs) ys = ap (λ l. x ∷ l) (take_front xs ys)

-- each write tells a page
written_count : (made : List Entry) → AreWrites (kinds made) → length (written_pages made) ≡ length made
written_count [] are = refl
written_count (e ∷ made) are = cases (written_count made are.1) (write_in e.kind) are.0
  where
    longer : (xs : List PageId) (p : PageId) → length (xs ++ p ∷ []) ≡ suc (length xs)
    longer [] p = refl
    longer (x ∷ xs) p = ap suc (longer xs p)

    cases : length (written_pages made) ≡ length made → (w : Option Writing) → IsSome w → length (written_pages made ++ option_to_list (option_map (λ (v : Writing). v.page) w)) ≡ suc (length made)
    cases rest None some = absurd (cc)
    cases rest (Some w) some = longer (written_pages made) w.page ∙ ap suc rest

module _ (by : Caller) (start : Start) where
  -- the history before the call, and what it wrote
  made_is : (disk log : ℕ) (o : Opening) (past : List Event) (n : ℕ) (mid : List Entry) (f : Flushed by o start disk log past n mid) → made_by by.number (own by.pass (f.writes ++ past)) ≡ f.made
  made_is disk log o past n mid f = f.calls.made_are

  began_at : (disk log : ℕ) (o : Opening) (past : List Event) (n : ℕ) (mid : List Entry) (f : Flushed by o start disk log past n mid)
      → before_call (made_by by.number (own by.pass (f.writes ++ past))) (entries (f.writes ++ past)) ≡ entries past
  began_at disk log o past n mid f = ap (λ l. before_call l (entries (f.writes ++ past))) (made_is disk log o past n mid f)
      ∙ before_by o.first f.made (entries past) (entries (f.writes ++ past)) (f.entries_are ∙ f.began) (numbered_entries _ o (f.writes ++ past) f.good)

  -- the places of a clean are left, of so many pages at most
  reached_clean : (disk log : ℕ) (o : Opening) (past : List Event) (n : ℕ) (mid : List Entry) (f : Flushed by o start disk log past n mid) (bound : ℕ) → bound ≤ 16384
      → mark o.first (entries past) + 16385 ≤ LIMIT → IsReached o (f.writes ++ past) (entries (f.writes ++ past)) (made_by by.number (own by.pass (f.writes ++ past))) by.pass by.number (call.Clean bound)
  reached_clean disk log o past n mid f bound most room =
      let H : List Entry → Type 0 = λ h. HasPlaces o.first o.config h by.pass by.number (call.Clean bound) in
      let need : clean_need bound (length (dirty (entries past))) ≤ 16385 = needs bound (length (dirty (entries past))) most in
      record {
        places = subst H (sym (began_at disk log o past n mid f)) (places_by o.first o.config (entries past) by.pass by.number (call.Clean bound) (clean_need bound (length (dirty (entries past)))) refl (omega (arith, need, room)));
        inside = tt;
      }
    where
      needs : (bound dirty : ℕ) → bound ≤ 16384 → clean_need bound dirty ≤ 16385
      needs bound dirty most = omega (arith, most)

  -- the clean is done
  pub clean_closes : (disk log : ℕ) (o : Opening) (past : List Event) (n : ℕ) (mid : List Entry) (f : Flushed by o start disk log past n mid) → n ≤ 16384 → mark o.first (entries past) + 16385 ≤ LIMIT
      → Closes by start disk log o (f.writes ++ past) (kind.Clean n [])
  clean_closes disk log o past n mid f most room =
      let h = entries (f.writes ++ past) in
      let made = made_by by.number (own by.pass (f.writes ++ past)) in
      let is_made = made_is disk log o past n mid f in
      let long : length made ≡ n = ap (length {A = Entry}) is_made ∙ f.count in
      let first : cleaned_first h made [] ≡ written_pages f.made =
      ap (λ l. take (length made + 0) (pages_of (dirty l))) (began_at disk log o past n mid f)
      ∙ taken_first f.made (length made + 0) (pages_of (dirty mid)) (pages_of (dirty (entries past))) f.pages (written_count f.made f.are_writes ∙ f.count ∙ sym long ∙ plus_none (length made)) in
      record {
        answers = refl;
        before = λ h made are. are;
        legal = record {
          count = sym long;
          oldest = ap written_pages is_made ∙ sym first ∙ sym (all_came h (cleaned_first h made []));
          passed = sym (ap (length {A = PageId}) (none_passed h (cleaned_first h made [])));
          latched = tt;
        };
        still = tt;
        covered = tt;
        causes = record { reached = reached_clean disk log o past n mid f n most room; none_due = refl };
        victim = tt;
        withdrawal = tt;
        exact = λ h held. refl;
        promised = (record { inside = tt; told = tt }, tt);
        within = tt;
        steady = refl;
        handless = λ per e b none. none;
      }
    where
      plus_none : (m : ℕ) → m ≡ m + 0
      plus_none m = omega arith

  -- it was refused by a fault of the log or of the disk
  pub fault_closes : (disk_was disk_is log_was log_is : ℕ) (o : Opening) (past : List Event) (n : ℕ) (mid : List Entry) (f : Flushed by o start disk_is log_is past n mid) (bound : ℕ) (log : Bool) (before after : ℕ)
      → start.disk_faults ≤ disk_was → start.log_faults ≤ log_was → disk_faults (entries past) ≤ disk_was → log_faults (entries past) ≤ log_was
      → Rose before after → RoseSo log disk_was disk_is log_was log_is before after → n ≤ bound → bound ≤ 16384 → mark o.first (entries past) + 16385 ≤ LIMIT
      → Closes by start disk_is log_is o (f.writes ++ past) (kind.Refused (call.Clean bound) (fault_cause log before after))
  fault_closes disk_was disk_is log_was log_is o past n mid f bound log before after low low_log last last_log rose counts most bounded room =
      let at : entries (f.writes ++ past) ≡ mid = f.entries_are in
      let h = entries (f.writes ++ past) in
      let made = made_by by.number (own by.pass (f.writes ++ past)) in
      let is_made = made_is disk_is log_is o past n mid f in
      let long : length made ≡ n = ap (length {A = Entry}) is_made ∙ f.count in
      refused_closes by start disk_was disk_is log_was log_is o (f.writes ++ past) bound log before after low low_log
      (omega (arith, ap disk_faults at, f.last_fault, last)) (omega (arith, ap log_faults at, f.last_log_fault, last_log)) rose counts
      (reached_clean disk_is log_is o past n mid f bound bounded room)
      (record {
        oldest = ap written_pages is_made ∙ sym (ap (λ l. take (length made) (pages_of (dirty l))) (began_at disk_is log_is o past n mid f)
            ∙ taken_first f.made (length made) (pages_of (dirty mid)) (pages_of (dirty (entries past))) f.pages (written_count f.made f.are_writes ∙ f.count ∙ sym long));
        most = omega (arith, long, most);
      })
