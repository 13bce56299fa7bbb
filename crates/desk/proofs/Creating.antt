-- A whole create, put together from its steps.
use Rattle.std.proofs.Common.{◌≡◌, ◌<◌, ℕ, List, None, length, refl}
use Rattle.page_ids.specs.declared.ids.PageId.{PageId}
use Rattle.page_disk.specs.Disks.{DiskSeen, pages_in}
use Rattle.redo_mark.specs.Records.{head_of}
use Rattle.trail.specs.declared.event.Call.TheVariants as call
use Rattle.trail.specs.History.{home}
use Rattle.frame_words.specs.Rows.{Row}
use Rattle.desk.specs.Creating.{IsCreateRefusal, LeavesLog, create_err_of}
use Rattle.desk.specs.Logged.{create_change}
use Rattle.desk.specs.State.{State}
use Rattle.desk.specs.Victims.{IsUnhad, IsUnforced}
use Rattle.desk.specs.declared.calls.Caller.{Caller}
use Rattle.desk.specs.declared.calls.FrameErr.{FrameErr}
use Rattle.desk.specs.declared.calls.FrameErr.TheVariants as unhad

-- all of a create's record but its end LSN
pub length-create : (p : PageId) → length (head_of (create_change p)) ≡ 13
length-create p = refl

-- no frame was had
pub unhad_create : {D : Type 0} (seen : D → DiskSeen) (old new : State D) (rows now : List Row) (by : Caller) (held : ℕ) (p : PageId) (moment durable first last was is : ℕ) (e : FrameErr)
    → p.page < pages_in (seen old.disk).spaces p.space → held < 64 → home old.history p ≡ None → now ≡ rows → IsUnhad old new rows by p (call.Create p moment) (seen old.disk).faults (seen new.disk).faults durable was is e
    → IsCreateRefusal seen old new rows now by held p moment durable first last was is (create_err_of e)
unhad_create seen old new rows now by held p moment durable first last was is unhad.OutOfMemory within few absent same un = (un, same)
unhad_create seen old new rows now by held p moment durable first last was is (unhad.AllFixed words) within few absent same un =
    (within, few, record { absent = absent; full = un.0; entry = un.1; disk = un.2 }, same)
unhad_create seen old new rows now by held p moment durable first last was is (unhad.RedoFault before after) within few absent same un =
    (within, few, record { absent = absent; rose = un.0; entry = un.1 }, same, un.2, un.3)
unhad_create seen old new rows now by held p moment durable first last was is (unhad.DiskFault before after) within few absent same un =
    (within, few, record { absent = absent; rose = un.0; entry = un.1 }, same, un.2)

-- the log is as it was where no device failed
pub unforced_unused : {L : Type 0} (x y : L) (e : FrameErr) → IsUnforced x y e → LeavesLog x y (create_err_of e)
unforced_unused x y unhad.OutOfMemory same = same
unforced_unused x y (unhad.AllFixed words) same = same
unforced_unused x y (unhad.RedoFault before after) same = tt
unforced_unused x y (unhad.DiskFault before after) same = tt
