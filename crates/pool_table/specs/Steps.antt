-- What a step asks of its caller.
use Rattle.std.specs.Prelude.{◌≡◌, ℕ, ◌+◌, ◌<◌, ◌++◌, true, List, Some, IfSome}
use Rattle.std.specs.List.{AllByRecursion}
use Rattle.page_ids.specs.declared.ids.PageId.{PageId}
use Rattle.trail.specs.declared.event.Entry.{Entry}
use Rattle.trail.specs.declared.event.Event.{Event}
use Rattle.trail.specs.declared.event.Held.{Held}
use Rattle.trail.specs.declared.event.Kind.{Kind}
use Rattle.trail.specs.declared.event.Note.{Note}
use Rattle.trail.specs.Alone.{IsTrueOf}
use Rattle.trail.specs.Calls.{made}
use Rattle.trail.specs.Causes.{IsCausedKind}
use Rattle.trail.specs.Covered.{IsCoveredWrite}
use Rattle.trail.specs.History.{home}
use Rattle.trail.specs.Kinds.{Placing, Writing, departure_in, write_in}
use Rattle.trail.specs.Legal.{IsLegalKind, IsTogether}
use Rattle.trail.specs.Preceding.{MayPrecede}
use Rattle.trail.specs.Promises.{IsOfSpaces}
use Rattle.trail.specs.Trails.{AreNumbered, Opening, caller_of, mark}
use Rattle.trail.specs.Victim.{IsVictimKind}
use Rattle.trail.specs.Withdrawal.{IsWithdrawalKind}
use Rattle.trail_laws.specs.Accounts.{IsAccount}
use Rattle.trail_laws.specs.Adding.{MayNote}
use Rattle.trail_laws.specs.SoFar.{TellSpaces, is_of_clean}
use Rattle.frame_words.specs.Plain.{Plain}
use Rattle.pool_table.specs.declared.view.View.{View}
use Rattle.pool_table.specs.Seen.{DeskSeen}
use Rattle.pool_table.specs.Views.{fixes_of}
use Rattle.pool_table.specs.Frames.{AreOpen, IsOfHome, IsThere, counted, fixes_in, row_of}
use Rattle.pool_table.specs.Ours.{IsOurKind, IsOurNote}

-- The frames were `old` behind the history h, and are `new` behind h': the caller's fixes changed by as much as the frames count, and a page whose frame had a
-- fix is still in it.
pub record MayShow (o : Opening) (h h' : List Entry) (old new : Plain) (was now : List Held) : Type 0 where
  pub homes : (f : ℕ) → IsOfHome o h' (row_of new f) f
  pub sums : (f : ℕ) → counted new f + fixes_in was f ≡ counted old f + fixes_in now f
  pub stays : (p : PageId) (f : ℕ) → home h p ≡ Some f → 0 < counted old f → IsThere old f → (home h' p ≡ Some f) × IsThere new f
  pub own : AreOpen h' new now

-- What an entry of the pass that has the turn meets, by its own events and the history alone: all that `MayAdd` asks but that nobody has fixed the page that
-- leaves, of which the frames tell that its frame has no fix; and its pages are of this instance.
pub record MayMake (start : DeskSeen) (h : List Entry) (frames : Plain) (mine : List Event) (c n : ℕ) (k : Kind) : Type 0 where
  pub together : IsTogether (mark start.opening.first h + 1) (made n mine)
  pub before : MayPrecede h (made n mine) k
  pub kind : IsLegalKind start.opening h mine c n k
  pub covered : IfSome (write_in k) (λ (w : Writing). IsCoveredWrite h w.page w.lsn w.upto)
  pub causes : (past : List Event) → TellSpaces start.pages past → IsCausedKind start.opening past h mine c n k
  pub victim : IsVictimKind start.opening.config h c n k
  pub withdrawal : IsWithdrawalKind start.opening.config h c n k
  pub spaces : IsOfSpaces start.pages k
  pub ours : IsOurKind start k
  pub unfixed : IfSome (departure_in k) (λ (d : Placing). (home h d.page ≡ Some d.frame) × (counted frames d.frame ≡ 0))

-- What a receipt meets, with the turn or without.
pub record MayLeave (start : DeskSeen) (h : List Entry) (mine : List Event) (c n : ℕ) (k : Note) : Type 0 where
  pub note : MayNote start.opening start.pages h mine c n k
  pub ours : IsOurNote start k

-- What a pass without the turn knows of the history that the mark marks: it goes on from what the pass saw, its own events are those that it has of it, and the pages
-- of its open fixes are in their homes.
pub record IsMarked (start : DeskSeen) (h : List Entry) (v : View) : Type 0 where
  pub more : List Entry
  pub grown : h ≡ more ++ v.seen
  pub numbered : AreNumbered start.opening.first h
  pub account : IsAccount start.opening.first h v.number v.mine
  pub homes : AllByRecursion (λ (x : Held). home h x.page ≡ Some x.frame) (fixes_of v)

-- these are open fixes of pages in their homes, as many in each frame as it counts
pub record AreAllFixes (h : List Entry) (frames : Plain) (all : List Held) : Type 0 where
  pub opened : AreOpen h frames all
  pub sums : (f : ℕ) → counted frames f ≡ fixes_in all f

-- the words that an event tells are those of its frames, or its caller's view has the number of another who changed a frame's word; a clean tells none
pub record IsFoundOn (h : List Entry) (frames : Plain) (numbers : List ℕ) (e : Event) : Type 0 where
  pub found : AllByRecursion (λ (n : ℕ). n ≡ caller_of e) numbers → (all : List Held) → AreAllFixes h frames all → IsTrueOf h all e
  pub clean : is_of_clean e ≡ true → (held : List Held) → IsTrueOf h held e
