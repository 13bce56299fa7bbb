-- What disk and log hold behind the trail of a run.
use Rattle.std.proofs.Common.{◌≡◌, ◌<◌, ◌≤◌, ◌+◌, ℕ, Bool, true, false, List, [], ◌∷◌, ◌++◌, Option, None, Some, IfSome, IsSomeAnd, MatchOption, length, refl, ap, arith, length-append, take, ◌-◌}
use Rattle.std.proofs.lemmas.List.{length-take-le}
use Rattle.std.specs.Int.{w16, w32, w64, to_be_bytes}
use Rattle.page_ids.specs.Content.{Content}
use Rattle.page_ids.specs.Layout.{IsPage}
use Rattle.page_ids.specs.declared.ids.PageId.{PageId}
use Rattle.page_disk.specs.Disks.{DiskSeen, Fades}
use Rattle.page_disk.specs.declared.shelf.FaultAt.{FaultAt}
use Rattle.redo_mark.specs.Device.{Told, IsOpening}
use Rattle.redo_mark.specs.Logs.{Seen, Holds, IsKept, IsAllKept, IsKeptAt}
use Rattle.redo_mark.specs.Records.{head_of, record_of}
use Rattle.trail.specs.declared.event.Entry.{Entry}
use Rattle.trail.specs.declared.event.Event.{Event}
use Rattle.trail.specs.declared.event.Event.TheVariants as event
use Rattle.trail.specs.declared.event.Kind.{Kind}
use Rattle.trail.specs.declared.event.Kind.TheVariants as kind
use Rattle.trail.specs.Saved.{AreDurable, is_written, saved}
use Rattle.trail.specs.Dirt.{log_end, log_end_after}
use Rattle.trail.specs.History.{value}
use Rattle.trail.specs.Laws.{AreLawful}
use Rattle.trail.specs.Legal.{IsLegalKind}
use Rattle.trail.specs.Trails.{Opening, entries, own}
use Rattle.trail.specs.Kinds.{write_in}
use Rattle.frame_words.specs.Seen.{FramesSeen}
use Rattle.desk.specs.Base.{Opened}
use Rattle.desk.specs.Behind.{IsBehind}
use Rattle.desk.specs.Logged.{IsLogged, IsLoggedKind, put_change, create_change}
use Rattle.desk.specs.State.{State}
use Rattle.script_run.specs.Runs.{IsSavedPage, IsValuedPage, IsDiskOf, IsKeptKind, KeepsRecords, IsKeptBelow, KeepsRecordsBelow, IsExtended}

-- the bytes of a put's record
record_length : (p : PageId) (at : ℕ) (bytes : List ℕ) (from : ℕ) → length (record_of (put_change p at bytes) from) ≡ 21 + length bytes
record_length p at bytes from =
    let head = head_of (put_change p at bytes) in
    let a : length (record_of (put_change p at bytes) from) ≡ length head + 8 = length-append head (to_be_bytes w64 (from + length head + 8)) in
    let b : length head ≡ 13 + length bytes = length-append kind_and_place bytes in
    omega (arith, a, b)
  where
    kind_and_place : List ℕ
    kind_and_place = 1 ∷ to_be_bytes w32 p.space ++ to_be_bytes w32 p.page ++ to_be_bytes w16 at ++ to_be_bytes w16 (length bytes)

-- and of a create's
created_length : (p : PageId) (from : ℕ) → length (record_of (create_change p) from) ≡ 21
created_length p from =
    let head = head_of (create_change p) in
    let a : length (record_of (create_change p) from) ≡ length head + 8 = length-append head (to_be_bytes w64 (from + length head + 8)) in
    let b : length head ≡ 13 = refl in
    omega (arith, a, b)

kind_durable : (log : Seen) (k : Kind) → IsLoggedKind log k → IfSome (write_in k) (λ w. w.upto ≤ log.durable)
kind_durable log (kind.Load p f) logged = tt
kind_durable log (kind.Fix p f clock now) logged = tt
kind_durable log (kind.Create p f from to now) logged = tt
kind_durable log (kind.Put p at bytes from to) logged = tt
kind_durable log (kind.Evict p f passed) logged = tt
kind_durable log (kind.Write p lsn upto) logged = logged
kind_durable log (kind.Move p from to) logged = tt
kind_durable log (kind.Withdraw from) logged = tt
kind_durable log (kind.Undo from) logged = tt
kind_durable log (kind.Shrink chunks) logged = tt
kind_durable log (kind.Grow chunks) logged = tt
kind_durable log (kind.Resize bytes chunks) logged = tt
kind_durable log (kind.Clean written skipped) logged = tt
kind_durable log (kind.Check lsn) logged = tt
kind_durable log (kind.WatchSet p) logged = tt
kind_durable log (kind.WatchAt p f) logged = tt
kind_durable log (kind.Occurred p arrived) logged = tt
kind_durable log (kind.Unwatch p) logged = tt
kind_durable log (kind.Dump pct ids) logged = tt
kind_durable log (kind.Refused asked why) logged = tt

pub are_durable : (log : Seen) (h : List Entry) → IsLogged log h → AreDurable log.durable h
are_durable log [] logged = tt
are_durable log (e ∷ h) logged = (kind_durable log e.kind logged.0, are_durable log h logged.1)

-- what the log's device keeps of it, up to this LSN
abbrev pub Records : Seen → Option Told → ℕ → Type 0
Records log told durable = (piece : List ℕ) (start : ℕ) → Holds log piece start → start + length piece ≤ durable → IsKeptAt log.first piece start told

kind_kept : (o : Opening) (h : List Entry) (mine : List Event) (c n : ℕ) (log : Seen) (told : Option Told) (durable : ℕ) (k : Kind) → Records log told durable → IsLegalKind o h mine c n k → IsLoggedKind log k
    → log_end_after k (log_end h) ≤ durable → IsKeptKind log.first told k × (log_end h ≤ durable)
kind_kept o h mine c n log told durable (kind.Load p f) records legal logged le = (tt, le)
kind_kept o h mine c n log told durable (kind.Fix p f clock now) records legal logged le = (tt, le)
kind_kept o h mine c n log told durable (kind.Create p f from to now) records legal logged le = (records (record_of (create_change p) from) from logged (omega (arith, created_length p from, legal.record_is, le)), omega (arith, legal.behind, legal.record_is, le))
kind_kept o h mine c n log told durable (kind.Put p at bytes from to) records legal logged le = (records (record_of (put_change p at bytes) from) from logged (omega (arith, record_length p at bytes from, legal.record_is, le)), omega (arith, legal.behind, legal.record_is, le))
kind_kept o h mine c n log told durable (kind.Evict p f passed) records legal logged le = (tt, le)
kind_kept o h mine c n log told durable (kind.Write p lsn upto) records legal logged le = (tt, le)
kind_kept o h mine c n log told durable (kind.Move p from to) records legal logged le = (tt, le)
kind_kept o h mine c n log told durable (kind.Withdraw from) records legal logged le = (tt, le)
kind_kept o h mine c n log told durable (kind.Undo from) records legal logged le = (tt, le)
kind_kept o h mine c n log told durable (kind.Shrink chunks) records legal logged le = (tt, le)
kind_kept o h mine c n log told durable (kind.Grow chunks) records legal logged le = (tt, le)
kind_kept o h mine c n log told durable (kind.Resize bytes chunks) records legal logged le = (tt, le)
kind_kept o h mine c n log told durable (kind.Clean written skipped) records legal logged le = (tt, le)
kind_kept o h mine c n log told durable (kind.Check lsn) records legal logged le = (tt, le)
kind_kept o h mine c n log told durable (kind.WatchSet p) records legal logged le = (tt, le)
kind_kept o h mine c n log told durable (kind.WatchAt p f) records legal logged le = (tt, le)
kind_kept o h mine c n log told durable (kind.Occurred p arrived) records legal logged le = (tt, le)
kind_kept o h mine c n log told durable (kind.Unwatch p) records legal logged le = (tt, le)
kind_kept o h mine c n log told durable (kind.Dump pct ids) records legal logged le = (tt, le)
kind_kept o h mine c n log told durable (kind.Refused asked why) records legal logged le = (tt, le)

pub are_kept : (sole : Option ℕ) (o : Opening) (past : List Event) (log : Seen) (told : Option Told) (durable : ℕ) → Records log told durable → AreLawful o sole past → IsLogged log (entries past) → log_end (entries past) ≤ durable
    → KeepsRecords log.first told (entries past)
are_kept sole o [] log told durable records good logged le = tt
are_kept sole o (event.Entry e ∷ past) log told durable records good logged le =
    let here = kind_kept o (entries past) (own e.caller past) e.caller e.number log told durable e.kind records good.0.legal.kind logged.0 le in
    (here.0, are_kept _ o past log told durable records good.1 logged.1 here.1)
are_kept sole o (event.Receipt r ∷ past) log told durable records good logged le = are_kept _ o past log told durable records good.1 logged le

kind_kept_below : (o : Opening) (h : List Entry) (mine : List Event) (c n : ℕ) (log : Seen) (told : Option Told) (durable : ℕ) (k : Kind) → Records log told durable → IsLegalKind o h mine c n k → IsLoggedKind log k
    → IsKeptBelow log.first durable told k
kind_kept_below o h mine c n log told durable (kind.Load p f) records legal logged = tt
kind_kept_below o h mine c n log told durable (kind.Fix p f clock now) records legal logged = tt
kind_kept_below o h mine c n log told durable (kind.Create p f from to now) records legal logged = λ le. records (record_of (create_change p) from) from logged (omega (arith, created_length p from, legal.record_is, le))
kind_kept_below o h mine c n log told durable (kind.Put p at bytes from to) records legal logged = λ le. records (record_of (put_change p at bytes) from) from logged (omega (arith, record_length p at bytes from, legal.record_is, le))
kind_kept_below o h mine c n log told durable (kind.Evict p f passed) records legal logged = tt
kind_kept_below o h mine c n log told durable (kind.Write p lsn upto) records legal logged = tt
kind_kept_below o h mine c n log told durable (kind.Move p from to) records legal logged = tt
kind_kept_below o h mine c n log told durable (kind.Withdraw from) records legal logged = tt
kind_kept_below o h mine c n log told durable (kind.Undo from) records legal logged = tt
kind_kept_below o h mine c n log told durable (kind.Shrink chunks) records legal logged = tt
kind_kept_below o h mine c n log told durable (kind.Grow chunks) records legal logged = tt
kind_kept_below o h mine c n log told durable (kind.Resize bytes chunks) records legal logged = tt
kind_kept_below o h mine c n log told durable (kind.Clean written skipped) records legal logged = tt
kind_kept_below o h mine c n log told durable (kind.Check lsn) records legal logged = tt
kind_kept_below o h mine c n log told durable (kind.WatchSet p) records legal logged = tt
kind_kept_below o h mine c n log told durable (kind.WatchAt p f) records legal logged = tt
kind_kept_below o h mine c n log told durable (kind.Occurred p arrived) records legal logged = tt
kind_kept_below o h mine c n log told durable (kind.Unwatch p) records legal logged = tt
kind_kept_below o h mine c n log told durable (kind.Dump pct ids) records legal logged = tt
kind_kept_below o h mine c n log told durable (kind.Refused asked why) records legal logged = tt

-- whether or not the closing flush failed
pub are_kept_below : (sole : Option ℕ) (o : Opening) (past : List Event) (log : Seen) (told : Option Told) (durable : ℕ) → Records log told durable → AreLawful o sole past → IsLogged log (entries past)
    → KeepsRecordsBelow log.first durable told (entries past)
are_kept_below sole o [] log told durable records good logged = tt
are_kept_below sole o (event.Entry e ∷ past) log told durable records good logged =
    (kind_kept_below o (entries past) (own e.caller past) e.caller e.number log told durable e.kind records good.0.legal.kind logged.0, are_kept_below _ o past log told durable records good.1 logged.1)
are_kept_below sole o (event.Receipt r ∷ past) log told durable records good logged = are_kept_below _ o past log told durable records good.1 logged

-- nothing but the log's bytes came behind what the log kept at its opening
pub extended : (opened : ℕ) (was now : Option Told) (log : Seen) → IsAllKept opened was log now → IfSome was (IsOpening opened) → IsExtended was now
extended opened None now log all opening = tt
extended opened (Some s) None log all opening = absurd all
extended opened (Some s) (Some t) log all opening = bytes_of log.bytes (all opening)
  where
    bytes_of : (bytes : Option (List ℕ)) → IsSomeAnd bytes (λ b. t.kept ≡ s.kept ++ take (log.durable - log.opened) b) → (more : List ℕ) × (t.kept ≡ s.kept ++ more)
    bytes_of None is = absurd is
    bytes_of (Some b) is = (take (log.durable - log.opened) b, is)

-- what the log keeps ends at its durable mark
pub long_of : (opened first : ℕ) (was now : Option Told) (log : Seen) → IsAllKept opened was log now → IfSome was (IsOpening opened) → IsKept log now → log.opened ≡ first + opened
    → log.opened ≤ log.durable → log.durable ≤ log.end → IfSome was (λ s. IsSomeAnd now (λ t. first + length t.kept ≡ log.durable))
long_of opened first None now log all opening kept at low high = tt
long_of opened first (Some s) None log all opening kept at low high = absurd all
long_of opened first (Some s) (Some t) log all opening kept at low high = by_bytes log.bytes (all opening) kept
  where
    by_bytes : (bytes : Option (List ℕ)) → IsSomeAnd bytes (λ b. t.kept ≡ s.kept ++ take (log.durable - log.opened) b)
        → IsSomeAnd bytes (λ b. (front rest : List ℕ) × (t.kept ≡ front ++ take (log.durable - log.opened) b ++ rest) × (log.first + length front ≡ log.opened) × (log.opened + length b ≡ log.end))
        → first + length t.kept ≡ log.durable
    by_bytes None is there = absurd is
    by_bytes (Some b) is there =
        let n = log.durable - log.opened in
        let all_kept = ap (length {A = ℕ}) is in
        let parts = length-append s.kept (take n b) in
        let taken : length (take n b) ≡ n = length-take-le n b (omega (arith, there.4, low, high)) in
        omega (arith, all_kept, parts, taken, opening.1, at, low)

saved_page : (b : Bool) (was now : Option (List ℕ)) (kept : Option Content) (p : PageId) → (b ≡ true → IfSome now (λ bytes. IfSome kept (λ c. IsPage p bytes c))) → (b ≡ false → Fades was now)
    → IfSome now (λ bytes. IsSavedPage b was kept p bytes)
saved_page true was now kept p written unwritten = written refl
saved_page false was now kept p written unwritten = unwritten refl

valued_page : (was now : Option (List ℕ)) (v : Option Content) (p : PageId) → IfSome now (λ bytes. MatchOption v (was ≡ Some bytes) (λ c. IsPage p bytes c)) → IfSome now (λ bytes. IsValuedPage was v p bytes)
valued_page was None v p at = tt
valued_page was (Some bytes) None p at = at
valued_page was (Some bytes) (Some c) p at = at

-- what stands behind a desk is what its disk holds behind the trail
pub disk_of : {D : Type 0} (seen : D → DiskSeen) (o : Opened) (desk : State D) (frames : FramesSeen) (fault : Option FaultAt)
    → IsBehind seen o desk frames
    → (fault ≡ None → (p : PageId) → p.page < o.pages p.space → IfSome ((seen desk.disk).told p) (λ bytes. MatchOption (value o.size o.base desk.history p) (o.told p ≡ Some bytes) (λ c. IsPage p bytes c)))
    → IsDiskOf o.size o.base o.pages o.told (seen desk.disk).told fault desk.history
disk_of seen o desk frames fault behind rests = record {
  saved = λ p inside. saved_page (is_written desk.history p) (o.told p) ((seen desk.disk).told p) (saved o.size o.base desk.history p) p (behind.written p) (behind.unwritten p);
  told = λ p inside clean there. behind.clean p clean there;
  whole = λ fine p inside. valued_page (o.told p) ((seen desk.disk).told p) (value o.size o.base desk.history p) p (rests fine p inside);
}
