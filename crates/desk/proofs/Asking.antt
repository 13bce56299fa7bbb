-- A call that takes a frame for a page, and its refusals.
use Rattle.std.proofs.Common.{◌≡◌, ◌<◌, ℕ, List, [], IfSome, length, refl, ap, ◌∙◌, sym, subst}
use Rattle.page_ids.specs.Instances.{instance_of}
use Rattle.page_ids.specs.declared.ids.PageId.{PageId}
use Rattle.page_ids.specs.declared.frame_word.Word.{Word}
use Rattle.page_disk.specs.Disks.{DiskSeen}
use Rattle.trail.specs.Words.{cause_words}
use Rattle.trail.specs.declared.event.Call.{Call}
use Rattle.trail.specs.declared.event.Call.TheVariants as call
use Rattle.trail.specs.declared.event.Cause.{Cause}
use Rattle.trail.specs.declared.event.Held.{Held}
use Rattle.trail.specs.declared.event.Kind.TheVariants as kind
use Rattle.frame_words.specs.Appends.{FitsRefusal, call_pages}
use Rattle.frame_words.specs.Conditions.{AreFound, AreOurs, MayAppend}
use Rattle.frame_words.specs.Seen.{FramesSeen, History}
use Rattle.desk.specs.Claimed.{cause_of, refusal_of}
use Rattle.desk.specs.State.{State}
use Rattle.desk.specs.Steps.{next_entry}
use Rattle.desk.specs.Tied.{AreTied, HasTurn, IsOwn}
use Rattle.desk.specs.Victims.{AsksFor, IsUnforced}
use Rattle.desk.specs.declared.calls.Caller.{Caller}
use Rattle.desk.specs.declared.flush.WriteErr.{WriteErr}
use Rattle.desk.specs.declared.flush.WriteErr.TheVariants as unwritten
use Rattle.desk.proofs.Claims.{history_of, may_append, published_tied}
use Rattle.desk.proofs.PassedWords.{each_some}

-- the page that the call names is one of its instance
pub asked_ours : (h : History) (p : PageId) (asked : Call) → AsksFor p asked → instance_of p h.config.instances ≡ h.instance → AreOurs h (call_pages asked)
asked_ours h p (call.Fix q now) asks own = (ap (λ (x : PageId). instance_of x h.config.instances) asks ∙ own, tt)
asked_ours h p (call.Create q now) asks own = (ap (λ (x : PageId). instance_of x h.config.instances) asks ∙ own, tt)
asked_ours h p (call.Put q at bytes) asks own = absurd asks
asked_ours h p (call.Read q at len) asks own = absurd asks
asked_ours h p (call.Unfix q) asks own = absurd asks
asked_ours h p (call.Guess q f clock) asks own = absurd asks
asked_ours h p (call.Watch q) asks own = absurd asks
asked_ours h p (call.Occurred q) asks own = absurd asks
asked_ours h p (call.Unwatch q) asks own = absurd asks
asked_ours h p (call.Clean bound) asks own = absurd asks
asked_ours h p call.Check asks own = absurd asks
asked_ours h p (call.Dump pct) asks own = absurd asks
asked_ours h p (call.Resize bytes rounds) asks own = absurd asks

-- a refusal for a device's fault needs room for one more fix, and says no word
pub fault_fits : (opened : List Held) (asked : Call) (e : WriteErr) → length opened < 64 → FitsRefusal opened asked (cause_of e)
fault_fits opened asked (unwritten.RedoFault before after) few = λ takes. few
fault_fits opened asked (unwritten.DiskFault before after) few = λ takes. few

pub fault_none : (asked : Call) (e : WriteErr) → cause_words asked (cause_of e) ≡ []
fault_none asked (unwritten.RedoFault before after) = refl
fault_none asked (unwritten.DiskFault before after) = refl

module _ {D : Type 0} (seen : D → DiskSeen) where
  -- the refusal of such a call is the next entry
  pub may_refuse : (s : FramesSeen) (desk : State D) (by : Caller) (p : PageId) (asked : Call) (why : Cause) → AreTied seen s desk → HasTurn s by → IsOwn s desk p → AsksFor p asked
      → IfSome s.opened (λ opened. FitsRefusal opened asked why) → IfSome s.found (λ found. AreFound found (cause_words asked why)) → MayAppend s (next_entry desk by (kind.Refused asked why))
  may_refuse s desk by p asked why tied turn own asks fits words =
      may_append seen s desk by (kind.Refused asked why) tt tied.history turn tied.none_owed (published_tied seen s desk tied)
      (λ is. asked_ours (history_of desk) p asked asks (own is)) tt fits words

-- no word is said
pub no_words : (s : FramesSeen) (asked : Call) (why : Cause) → cause_words asked why ≡ [] → IfSome s.found (λ found. AreFound found (cause_words asked why))
no_words s asked why none = each_some s.found (λ found. AreFound found (cause_words asked why)) (λ found is. subst (λ (l : List (ℕ × Word)). AreFound found l) (sym none) tt)

-- a device was used
pub unforced_fault : {L : Type 0} (x y : L) (e : WriteErr) → IsUnforced x y (refusal_of e)
unforced_fault x y (unwritten.RedoFault before after) = tt
unforced_fault x y (unwritten.DiskFault before after) = tt
