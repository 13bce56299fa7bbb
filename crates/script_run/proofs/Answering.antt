-- How the parts of a run make its answer.
use Rattle.std.proofs.Common.{◌≡◌, ◌≢◌, ◌≤◌, ◌<◌, ◌+◌, ◌^◌, ℕ, Bool, true, false, IsTrue, ◌||◌, List, [], ◌++◌, ◌⊎◌, inl, inr, Option, Some, None, IfSome, IsSomeAnd, length, refl, ap, ◌∙◌, sym, subst, arith, length-append, reverse}
use Rattle.std.specs.Prelude.{unwrap_or, IsSome}
use Rattle.std.proofs.lemmas.Bool.{false≢true}
use Rattle.page_ids.specs.Content.{Content}
use Rattle.page_ids.specs.Size.{page_bytes}
use Rattle.page_ids.specs.declared.config.Config.{Config}
use Rattle.page_ids.specs.declared.ids.PageId.{PageId}
use Rattle.page_disk.specs.Disks.{DiskSeen, pages_in}
use Rattle.page_disk.specs.Shelves.{Asked, unasked, IsAskedFor, IsAskedForLog, OfferedDisk, OfferedLog, IsAsOffered, IsLogAsOffered}
use Rattle.page_disk.specs.declared.shelf.FaultAt.{FaultAt}
use Rattle.redo_mark.specs.Device.{Told, RedoSeen}
use Rattle.redo_mark.specs.declared.redo.RedoEnd.{RedoEnd}
use Rattle.trail.specs.Trails.{Events, entries}
use Rattle.trail.specs.History.{value}
use Rattle.trail.specs.Saved.{is_written, saved}
use Rattle.desk.specs.Base.{IsBase}
use Rattle.script_text.specs.Plan.{Plan}
use Rattle.script_text.specs.Verdict.{IsScript, IsBadScript}
use Rattle.script_run.specs.Runs.{disk_as, log_as, start_of, IsEndedRun, IsLogOf, IsLogAsOpened, IsLongLog, IsSavedPage, IsValuedPage}
use Rattle.script_run.proofs.Growing.{on_some}
use Rattle.script_run.proofs.Progress.{append_nil}
use Rattle.script_run.proofs.Values.{faults_wider}

pub or_false : (b : Bool) → (b || false) ≡ b
or_false true = refl
or_false false = refl

low_end : (handed : Option ℕ) (count : ℕ) → IfSome handed (λ n. count ≡ n) → unwrap_or handed 0 ≤ count
low_end None count is = omega arith
low_end (Some n) count is = omega (arith, is)

told_base : (told was : PageId → Option (List ℕ)) (pages : ℕ → ℕ) (first : PageId → Option Content) → ((p : PageId) → told p ≡ was p) → IsBase was pages first → IsBase told pages first
told_base told was pages first same is_base p inside = let given = is_base p inside in record { bytes = given.bytes; tells = same p ∙ given.tells; content = given.content }

-- the run on a disk and a log, told by what the shelf offered
pub ended_run : {D R : Type 0} (seen : D → DiskSeen) (log_seen : R → RedoSeen) (given : OfferedDisk) (given_log : OfferedLog) (disk : D) (log : R) (plan : Plan) (fault : Option FaultAt) (trails : List Events) (disks : List D) (redo : Option (RedoEnd R))
    → IsEndedRun (disk_as (seen disk)) (log_as (log_seen log)) seen log_seen plan fault trails disks redo
    → IsAsOffered given (seen disk) → IsLogAsOffered given_log (log_seen log)
    → IsEndedRun given given_log seen log_seen plan fault trails disks redo
ended_run {D} {R} seen log_seen given given_log disk log plan fault trails disks redo is offered offered_log =
    let tells = offered.told in
    let W : Option Told → Type 0 = λ t. IsLogOf plan.config.lsn t log_seen is.end fault (entries (reverse is.trail.events)) in
    record {
      trail = is.trail;
      disk = is.disk;
      end = is.end;
      trails_are = is.trails_are;
      disks_are = is.disks_are;
      log_is = is.log_is;
      run = λ base based. is.run base (on_some base _ _ (λ first e is_base. told_base (seen disk).told given.told (pages_in (seen is.disk).spaces) first tells is_base) based);
      faults = faults_wider (start_of given given_log (pages_in (seen is.disk).spaces)) (start_of (disk_as (seen disk)) (log_as (log_seen log)) (pages_in (seen is.disk).spaces)) (seen is.disk).faults (log_seen is.end.disk).faults (seen is.disk).faults (log_seen is.end.disk).faults _
          (record { disk = low_end given.faults (seen disk).faults offered.faults; log = low_end given_log.faults (log_seen log).faults offered_log.faults }) (omega arith) (omega arith) is.faults;
      spaces_are = on_some given.spaces _ _ (λ known e here s. is.spaces_are s ∙ here s) offered.spaces;
      holds = λ base is_base.
          let held = is.holds base (told_base (seen disk).told given.told (pages_in (seen is.disk).spaces) base tells is_base) in
          let h = entries (reverse is.trail.events) in
          let size = page_bytes plan.config.page in
          record {
            saved = λ p inside. on_some ((seen is.disk).told p) _ _ (λ bytes e page. let P : Option (List ℕ) → Type 0 = λ t. IsSavedPage (is_written h p) t (saved size base h p) p bytes in subst P (tells p) page) (held.saved p inside);
            told = λ p inside clean there. let S : Option (List ℕ) → Type 0 = λ t. IsSome t in held.told p inside clean (subst S (sym (tells p)) there);
            whole = λ fine p inside. on_some ((seen is.disk).told p) _ _ (λ bytes e page. let P : Option (List ℕ) → Type 0 = λ t. IsValuedPage t (value size base h p) p bytes in subst P (tells p) page) (held.whole fine p inside);
          };
      logs = subst W offered_log.told is.logs;
    }

-- a log that is too long was handed back
pub long_log : {R : Type 0} (left : Option (List ℕ)) (was : Option Told) (log_seen : R → RedoSeen) (line : ℕ) (log : Option (RedoEnd R)) (plan : Plan) → ((bytes : List ℕ) → left ≡ Some bytes → IsScript bytes plan) → line ≡ 0
    → IsSomeAnd log (λ r. IsLogAsOpened was log_seen r × (2 ^ 63 < plan.config.lsn + r.end)) → IsLongLog left was log_seen line log
long_log left was log_seen line None plan script whole is = absurd is
long_log left was log_seen line (Some end) plan script whole is = record { plan = plan; script = script; end = end; log_is = refl; whole = whole; opened = is.0; beyond = is.1 }

pub not_seven : (s : ℕ) → s ≡ 5 → s ≢ 7
not_seven s five seven = absurd (omega (arith, five, seven))

pub ended_status : (s : ℕ) (fault : Option FaultAt) → (s ≡ 0) ⊎ (s ≡ 1) ⊎ (s ≡ 5) ⊎ ((s ≡ 6) × IsSome fault) → s ≢ 7
ended_status s fault (inl zero_is) seven = absurd (omega (arith, zero_is, seven))
ended_status s fault (inr (inl one_is)) seven = absurd (omega (arith, one_is, seven))
ended_status s fault (inr (inr (inl five_is))) seven = absurd (omega (arith, five_is, seven))
ended_status s fault (inr (inr (inr six_is))) seven = absurd (omega (arith, six_is.0, seven))

-- bytes that were read to their end, or are too long
pub all_script : (bytes all rest : List ℕ) (plan : Plan) → bytes ≡ all ++ rest → (rest ≡ []) ⊎ (length all ≡ 1048577) → IsScript all plan → IsScript bytes plan
all_script bytes all rest plan whole (inl none) is = let S : List ℕ → Type 0 = λ b. IsScript b plan in subst S (sym (whole ∙ ap (λ r. all ++ r) none ∙ append_nil all)) is
all_script bytes all rest plan whole (inr long) is = absurd (omega (arith, long, is.short))

pub all_ends : (bytes all rest : List ℕ) (plan : Plan) → bytes ≡ all ++ rest → (rest ≡ []) ⊎ (length all ≡ 1048577) → IsScript all plan → rest ≡ []
all_ends bytes all rest plan whole (inl none) is = none
all_ends bytes all rest plan whole (inr long) is = absurd (omega (arith, long, is.short))

too_long : (bytes all rest : List ℕ) → bytes ≡ all ++ rest → 1048576 < length all → 1048576 < length bytes
too_long bytes all rest whole long = let n = ap (length {A = ℕ}) whole in let m = length-append all rest in omega (arith, n, m, long)

pub all_bad : (bytes all rest : List ℕ) (n : ℕ) → bytes ≡ all ++ rest → (rest ≡ []) ⊎ (length all ≡ 1048577) → IsBadScript all n → IsBadScript bytes n
all_bad bytes all rest n whole (inl none) bad = let B : List ℕ → Type 0 = λ b. IsBadScript b n in subst B (sym (whole ∙ ap (λ r. all ++ r) none ∙ append_nil all)) bad
all_bad bytes all rest n whole (inr long) (inl (zero_is, inl too)) = inl (zero_is, inl (too_long bytes all rest whole too))
all_bad bytes all rest n whole (inr long) (inl (zero_is, inr faulty)) = absurd (omega (arith, long, faulty.short))
all_bad bytes all rest n whole (inr long) (inr (short, line)) = absurd (omega (arith, long, short))

pub bad_all : (bytes all rest : List ℕ) (n : ℕ) → bytes ≡ all ++ rest → (rest ≡ []) ⊎ (length all ≡ 1048577) → IsBadScript bytes n → IsBadScript all n
bad_all bytes all rest n whole (inl none) bad = let B : List ℕ → Type 0 = λ b. IsBadScript b n in subst B (whole ∙ ap (λ r. all ++ r) none ∙ append_nil all) bad
bad_all bytes all rest n whole (inr long) (inl (zero_is, why)) = inl (zero_is, inl (omega (arith, long)))
bad_all bytes all rest n whole (inr long) (inr (short, line)) = let m = ap (length {A = ℕ}) whole in let k = length-append all rest in absurd (omega (arith, long, short, m, k))

is_false : (b : Bool) → (IsTrue b → ⊥) → b ≡ false
is_false true never = absurd (never refl)
is_false false never = refl

-- a shelf without earlier calls that was asked for the disk of instance 0 and then for the log
pub asked_once : (config : Config) (old mid new : Asked) → IsAskedFor config 0 old mid → IsAskedForLog config mid new → old ≡ unasked
    → new ≡ record { config = Some config; disks = 1; log = true; strayed = false }
asked_once config old mid new a b fresh =
    let d : IsAskedFor config 0 unasked mid = subst (λ (o : Asked). IsAskedFor config 0 o mid) fresh a in
    let config_is : new.config ≡ Some config = b.first ∙ ap (λ (m : Option Config). Some (unwrap_or m config)) d.first in
    let same : config ≡ unwrap_or mid.config config = sym (ap (λ (m : Option Config). unwrap_or m config) d.first) in
    let calm : IsTrue mid.strayed → ⊥ = λ is. no_reason config 0 (d.strayed.0 is) in
    let none : IsTrue mid.log → ⊥ = subst (λ (x : Bool). IsTrue x → ⊥) (sym d.log) false≢true in
    let strayed : new.strayed ≡ false = is_false new.strayed (λ is. no_more config mid.config mid.strayed mid.log same calm none (b.strayed.0 is)) in
    λ i. record { config = config_is i; disks = (b.disks ∙ d.disks) i; log = b.log i; strayed = strayed i }
  where
    no_reason : (config : Config) (instance : ℕ) → IsTrue false ⊎ (config ≢ unwrap_or None config) ⊎ (instance ≢ instance) ⊎ IsTrue false → ⊥
    no_reason config instance (inl before) = false≢true before
    no_reason config instance (inr (inl other)) = other refl
    no_reason config instance (inr (inr (inl another))) = another refl
    no_reason config instance (inr (inr (inr log))) = false≢true log

    no_more : (config : Config) (first : Option Config) (strayed log : Bool) → config ≡ unwrap_or first config → (IsTrue strayed → ⊥) → (IsTrue log → ⊥)
        → IsTrue strayed ⊎ (config ≢ unwrap_or first config) ⊎ IsTrue log → ⊥
    no_more config first strayed log same calm none (inl before) = calm before
    no_more config first strayed log same calm none (inr (inl other)) = other same
    no_more config first strayed log same calm none (inr (inr behind)) = none behind
