-- A whole eviction, put together from its steps.
use Rattle.std.proofs.Common.{◌≡◌, ◌<◌, ◌≤◌, ◌+◌, ℕ, Bool, true, false, List, [], ◌∷◌, Option, None, Some, IfSome, length, set, length-set, refl, ap, ◌∙◌, sym, subst, arith, inl, inr, append-nil, ◌⊎◌, get_or}
use Rattle.std.proofs.lemmas.List.{set-set, set-get_or}
use mathlib.Core.Logic.{dite}
use native.Mathlib.Decide.{ℕ_discrete}
use Rattle.page_ids.specs.Content.{Content}
use Rattle.page_ids.specs.FrameWord.{fixes_of}
use Rattle.page_ids.specs.Same.{same_page}
use Rattle.page_ids.specs.declared.config.Config.{Config}
use Rattle.page_ids.specs.declared.frame_word.Word.{Word}
use Rattle.page_ids.specs.declared.ids.PageId.{PageId}
use Rattle.page_disk.specs.Disks.{DiskSeen}
use Rattle.redo_mark.specs.Device.{RedoSeen}
use Rattle.redo_mark.specs.Logs as log
use Rattle.redo_mark.specs.Logs.{Seen, Grows}
use Rattle.trail.specs.declared.event.Cause.{Cause}
use Rattle.trail.specs.declared.event.Dirty.{Dirty}
use Rattle.trail.specs.declared.event.Entry.{Entry}
use Rattle.trail.specs.declared.event.Held.{Held}
use Rattle.trail.specs.declared.event.Kind.{Kind}
use Rattle.trail.specs.declared.event.Kind.TheVariants as kind
use Rattle.trail.specs.declared.event.Call.{Call}
use Rattle.trail.specs.Book.{book, frame_in_turn}
use Rattle.trail.specs.History.{home}
use Rattle.trail.specs.Dirt.{is_dirty, log_end, log_end_after}
use Rattle.trail.specs.Victim.{walk}
use Rattle.frame_words.specs.Rows.{Row, IsFound, Uncovers, claimed_row, published_row, new_row}
use Rattle.frame_words.specs.Seen.{FramesSeen, Turn, row_at}
use Rattle.desk.specs.Base.{Opened}
use Rattle.desk.specs.Behind.{IsBehind}
use Rattle.desk.specs.Changes.{IsWriteFault, IsForced, LeavesDesk}
use Rattle.desk.specs.Claimed.{HasLooked, IsTaken, StopsAt, AreTiedBut, KeepsLog, cause_of, refusal_of}
use Rattle.desk.specs.Ledger.{entry_behind}
use Rattle.desk.specs.Logged.{IsLogged, IsLoggedKind, AreUpTo, IsUpTo}
use Rattle.desk.specs.State.{State}
use Rattle.desk.specs.Steps.{IsAppended, RefusesCall, row_in}
use Rattle.desk.specs.Tied.{AreTied, IsTied, HasTurn, IsOwn}
use Rattle.desk.specs.Victims.{IsHad, IsUnhad, MustWrite, IsAhead, MustCover, IsRowSettled, AreSettled, IsCleanedFirst, LeavesTurn}
use Rattle.instance_lists.specs.Walk.{AreOrderly}
use Rattle.desk.specs.declared.calls.Caller.{Caller}
use Rattle.desk.specs.declared.flush.WriteErr.{WriteErr}
use Rattle.desk.specs.declared.flush.WriteErr.TheVariants as unwritten
use Rattle.instance_lists.proofs.Dirt.{same_is}
use Rattle.desk.proofs.PassedWords.{AreInOrder, passed_by_are}
use Rattle.desk.proofs.Logging.{upto_none, upto_more}
use Rattle.desk.proofs.Finding.{sought_at, sought_is}
use Rattle.desk.proofs.Claims.{resident_at, tied_looked, behind_looked, claimed_image, tied_claim, behind_claim, row_here, row_there, row_back, on_disk}

-- a page without a home is another one than a page with one
pub other_page : (h : List Entry) (p q : PageId) (f : ℕ) → home h p ≡ Some f → home h q ≡ None → same_page p q ≡ false
other_page h p q f here none = go (same_page p q) refl
  where
    go : (b : Bool) → same_page p q ≡ b → b ≡ false
    go false is = refl
    go true is =
        let e : home h p ≡ home h q = ap (home h) (same_is p q is) in
        absurd (cc)

-- looks and claims leave the turn
pub looked_turn : (s t : FramesSeen) → HasLooked s t → LeavesTurn s t
looked_turn s t looked = record {
  turn = ap (λ (u : FramesSeen). u.turn) looked.is;
  opened = ap (λ (u : FramesSeen). u.opened) looked.is;
  history = ap (λ (u : FramesSeen). Rattle.std.specs.Option.is_some u.history) looked.is;
  base = ap (λ (u : FramesSeen). u.base) looked.is;
}

pub turn_on : (a b c : FramesSeen) → LeavesTurn a b → LeavesTurn b c → LeavesTurn a c
turn_on a b c x y = record { turn = y.turn ∙ x.turn; opened = y.opened ∙ x.opened; history = y.history ∙ x.history; base = y.base ∙ x.base }

pub taken_turn : (s t : FramesSeen) (h : List Entry) (p : PageId) (f clock : ℕ) → IsTaken s t h p f clock → LeavesTurn s t
taken_turn s t h p f clock taken =
    let claimed = taken.claimed in
    turn_on s claimed.mid t (looked_turn s claimed.mid claimed.looked) (record {
      turn = ap (λ (u : FramesSeen). u.turn) claimed.is;
      opened = ap (λ (u : FramesSeen). u.opened) claimed.is;
      history = ap (λ (u : FramesSeen). Rattle.std.specs.Option.is_some u.history) claimed.is;
      base = ap (λ (u : FramesSeen). u.base) claimed.is;
    })

pub has_turn : (s t : FramesSeen) (by : Caller) → LeavesTurn s t → HasTurn s by → HasTurn t by
has_turn s t by left has = subst (λ (o : Option Turn). IfSome o (λ x. (x.caller ≡ by.pass) × (x.number ≡ by.number))) (sym left.turn) has

pub still_few : (s t : FramesSeen) → LeavesTurn s t → IfSome s.opened (λ opened. length opened < 64) → IfSome t.opened (λ opened. length opened < 64)
still_few s t left few = subst (λ (o : Option (List Held)). IfSome o (λ opened. length opened < 64)) (sym left.opened) few

pub still_own : {D : Type 0} (s t : FramesSeen) (old new : State D) (p : PageId) → LeavesTurn s t → new.config ≡ old.config → new.instance ≡ old.instance → IsOwn s old p → IsOwn t new p
still_own s t old new p left config instance own is =
    ap (λ (c : Config). Rattle.page_ids.specs.Instances.instance_of p c.instances) config ∙ own (sym left.history ∙ is) ∙ sym instance

-- the rows behind a claim
pub taken_rows : (s t : FramesSeen) (h : List Entry) (p : PageId) (f clock : ℕ) → (taken : IsTaken s t h p f clock) → t.rows ≡ set s.rows f (claimed_row (row_in s.rows f) taken.claimed.image)
taken_rows s t h p f clock taken =
    ap (λ (u : FramesSeen). u.rows) taken.claimed.is
    ∙ ap (λ (u : FramesSeen). set u.rows f (claimed_row (row_in u.rows f) taken.claimed.image)) taken.claimed.looked.is

no_fixes : (held : Option ℕ) (w : Word) (latched : Bool) → IfSome held (λ n. (fixes_of w ≡ n + 0) × (Rattle.page_ids.specs.FrameWord.is_latched w ≡ latched)) → fixes_of w ≡ 0 → IfSome held (λ n. n ≡ 0)
no_fixes None w latched exact none = tt
no_fixes (Some n) w latched exact none = let first = exact.0 in omega (arith, first, none)

-- a frame that could be claimed has no fixes, where they are told
pub taken_unfixed : (s t : FramesSeen) (h : List Entry) (p : PageId) (f clock : ℕ) → s.visit ≡ None → IsTaken s t h p f clock → IfSome (row_in s.rows f).held (λ held. held ≡ 0)
taken_unfixed s t h p f clock alone taken =
    let mid = taken.claimed.mid in
    let unfixed = taken.claimed.unfixed in
    let rows : mid.rows ≡ s.rows = ap (λ (u : FramesSeen). u.rows) taken.claimed.looked.is in
    let visit : mid.visit ≡ None = ap (λ (u : FramesSeen). u.visit) taken.claimed.looked.is ∙ alone in
    let found : IsFound (row_in mid.rows f) 0 unfixed.word = subst (λ (v : Option ℕ). IsFound (row_in mid.rows f) (Rattle.frame_words.specs.Seen.visits_of v f) unfixed.word) visit unfixed.found in
    subst (λ (r : List Row). IfSome (row_in r f).held (λ held. held ≡ 0)) rows (no_fixes (row_in mid.rows f).held unfixed.word (row_in mid.rows f).latched found.exact unfixed.unfixed)

-- the rest stays settled
pub settled_claimed : (rows now : List Row) (f : ℕ) (image : Option (Option Content)) → f < length rows → now ≡ set rows f (claimed_row (row_in rows f) image) → AreSettled rows → AreSettled now
settled_claimed rows now f image inside is settled = subst AreSettled (sym is) (λ g l resident. dite (ℕ_discrete g f)
    (λ same.
    let here : row_in (set rows f (claimed_row (row_in rows f) image)) g ≡ claimed_row (row_in rows f) image = ap (row_in (set rows f (claimed_row (row_in rows f) image))) same ∙ row_here rows f (claimed_row (row_in rows f) image) inside in
    let away : false ≡ true = sym (ap (λ (r : Row). r.resident) here) ∙ resident in
    absurd (cc))
    (λ other.
    let there = row_there rows f g (claimed_row (row_in rows f) image) other in
    let long = length-set rows f (claimed_row (row_in rows f) image) in
    subst IsRowSettled (sym there) (settled g (omega (arith, l, long)) (sym (ap (λ (r : Row). r.resident) there) ∙ resident))))

grows_same : (x : Option (List ℕ)) → Grows x x
grows_same None = refl
grows_same (Some a) = ([], sym (append-nil a))

pub log_same : {R : Type 0} (log_seen : R → RedoSeen) (s : log.State R) (h : List Entry) → KeepsLog log_seen s s h h
log_same log_seen s h = record {
  later = record { first = refl; opened = refl; durable = omega arith; end = omega arith; faults = omega arith; bytes = grows_same s.seen.bytes };
  opening = refl;
  kept = λ is. is;
  logged = λ is. is;
  known = λ is. is;
  end = refl;
  upto = upto_none s.seen.durable h;
  mark = inl refl;
}

module _ {D : Type 0} (seen : D → DiskSeen) where
  pub taken_but : (s t : FramesSeen) (desk : State D) (p : PageId) (f clock : ℕ) → AreTied seen s desk → AreOrderly desk.config desk.history → frame_in_turn (book desk.config desk.history) ≡ None
      → IsTaken s t desk.history p f clock → AreTiedBut seen t desk p f
  taken_but s t desk p f clock tied orderly none_free taken =
      let claimed = taken.claimed in
      let mid = claimed.mid in
      let tied_mid = tied_looked seen s mid desk claimed.looked tied in
      let below = orderly.below p f taken.housed in
      let alone : (q : PageId) → home desk.history q ≡ Some f → q ≡ p = λ q is. orderly.alone p q f taken.housed is in
      let has = claimed_image seen mid desk p f claimed.image tied_mid taken.housed alone below claimed.uncovered in
      subst (λ (u : FramesSeen). AreTiedBut seen u desk p f) (sym claimed.is)
      (tied_claim seen mid desk p f claimed.image tied_mid taken.housed alone below none_free orderly.no_area has)

  pub taken_behind : (o : Opened) (s t : FramesSeen) (desk : State D) (p : PageId) (f clock : ℕ) → AreTied seen s desk → AreOrderly desk.config desk.history → IsTaken s t desk.history p f clock
      → IsBehind seen o desk s → IsBehind seen o desk t
  taken_behind o s t desk p f clock tied orderly taken b =
      let claimed = taken.claimed in
      let mid = claimed.mid in
      let tied_mid = tied_looked seen s mid desk claimed.looked tied in
      let below = orderly.below p f taken.housed in
      let alone : (q : PageId) → home desk.history q ≡ Some f → q ≡ p = λ q is. orderly.alone p q f taken.housed is in
      let has = claimed_image seen mid desk p f claimed.image tied_mid taken.housed alone below claimed.uncovered in
      subst (λ (u : FramesSeen). IsBehind seen o desk u) (sym claimed.is)
      (behind_claim seen o mid desk p f claimed.image tied_mid below alone has (behind_looked seen o s mid desk claimed.looked b))

  -- what was claimed and is published again is as it was
  pub taken_back : (s t : FramesSeen) (desk : State D) (p : PageId) (f clock : ℕ) → AreTied seen s desk → AreOrderly desk.config desk.history → AreSettled s.rows → IsTaken s t desk.history p f clock
      → set t.rows f (published_row (row_at t f) p clock) ≡ s.rows
  taken_back s t desk p f clock tied orderly settled taken =
      let claimed = taken.claimed in
      let image = claimed.image in
      let r = row_in s.rows f in
      let below = orderly.below p f taken.housed in
      let whole = tied.whole in
      let inside : f < length s.rows = omega (arith, below, whole) in
      let row : IsTied _ desk.config.frames desk.history r f = tied.rows f inside in
      let resident = resident_at _ _ desk.history r f p row taken.housed in
      let page_is : r.page ≡ p = orderly.alone p r.page f taken.housed (row.resident resident) in
      let rows = taken_rows s t desk.history p f clock taken in
      let mid_rows : claimed.mid.rows ≡ s.rows = ap (λ (u : FramesSeen). u.rows) claimed.looked.is in
      let un : Uncovers r.image image = subst (λ (l : List Row). Uncovers (row_in l f).image image) mid_rows claimed.uncovered.told in
      let again : published_row (claimed_row r image) p clock ≡ r = row_back r image p clock resident row.unlatched page_is (sym taken.clock_is) (settled f inside resident) (row.there below) un in
      let here : row_in (set s.rows f (claimed_row r image)) f ≡ claimed_row r image = row_here s.rows f (claimed_row r image) inside in
      ap (λ (l : List Row). set l f (published_row (row_in l f) p clock)) rows
      ∙ set-set s.rows f (claimed_row r image) (published_row (row_in (set s.rows f (claimed_row r image)) f) p clock)
      ∙ ap (λ (x : Row). set s.rows f (published_row x p clock)) here
      ∙ ap (set s.rows f) again
      ∙ set-get_or s.rows f new_row

-- why a fix was refused
pub unhad_fault : {D : Type 0} (old new : State D) (rows : List Row) (by : Caller) (p : PageId) (asked : Call) (disk_was disk_is durable log_was log_is : ℕ) (e : WriteErr) → IsWriteFault disk_was disk_is log_was log_is e
    → RefusesCall old new by asked (cause_of e) → (must : MustWrite old rows) → IsForced old.disk new.disk (IsAhead old.history must.victim durable) e → IsUnhad old new rows by p asked disk_was disk_is durable log_was log_is (refusal_of e)
unhad_fault old new rows by p asked disk_was disk_is durable log_was log_is (unwritten.RedoFault before after) fault refused must forced = (fault, refused, record { write = must; ahead = forced.0 }, forced.1)
unhad_fault old new rows by p asked disk_was disk_is durable log_was log_is (unwritten.DiskFault before after) fault refused must forced = (fault, refused, must)

-- a page that was changed behind the durable mark is dirty
ahead_dirty : (h : List Entry) (p : PageId) (durable : ℕ) → IsAhead h p durable → is_dirty h p ≡ true
ahead_dirty h p durable ahead = ap (Rattle.std.specs.Option.is_some {T = Dirty}) ahead.was_dirty

-- what was needed for one reason was needed for another
pub forced_on : {D A B : Type 0} (old new : D) (e : WriteErr) → (A → B) → IsForced old new A e → IsForced old new B e
forced_on old new (unwritten.RedoFault before after) on forced = (on forced.0, forced.1)
forced_on old new (unwritten.DiskFault before after) on forced = tt

-- a dirty victim has to be written
unfoldable pub must_write : {D : Type 0} (s t : FramesSeen) (old : State D) (p : PageId) (f clock : ℕ) (found : Option (List (ℕ × Word))) (passed : List (ℕ × Word)) → AreOrderly old.config old.history → frame_in_turn (book old.config old.history) ≡ None → s.visit ≡ None
    → IsTaken s t old.history p f clock → StopsAt old.history s.rows found (walk old.config old.history) p passed → is_dirty old.history p ≡ true → MustWrite old s.rows
must_write s t old p f clock found passed orderly none_free alone taken stops soiled = record {
  victim = p;
  frame = f;
  passed = passed;
  none_free = none_free;
  sought = sought_at old.config old.history p stops.before stops.after passed orderly none_free stops.split (passed_by_are old.history s.rows found stops.before passed stops.passed_are);
  found = stops.passed_are.seen;
  housed = taken.housed;
  unfixed = taken_unfixed s t old.history p f clock alone taken;
  soiled = soiled;
}

-- the log was used for a victim, where it was used
pub must_cover : {D L : Type 0} {x y : L} (s t : FramesSeen) (old : State D) (p : PageId) (f clock durable : ℕ) (found : Option (List (ℕ × Word))) (passed : List (ℕ × Word)) → AreOrderly old.config old.history → frame_in_turn (book old.config old.history) ≡ None → s.visit ≡ None
    → IsTaken s t old.history p f clock → StopsAt old.history s.rows found (walk old.config old.history) p passed → (y ≡ x) ⊎ IsAhead old.history p durable → (y ≡ x) ⊎ MustCover old s.rows durable
unfolding must_write
must_cover s t old p f clock durable found passed orderly none_free alone taken stops (inl same) = inl same
must_cover s t old p f clock durable found passed orderly none_free alone taken stops (inr ahead) =
    inr (record { write = must_write s t old p f clock found passed orderly none_free alone taken stops (ahead_dirty old.history p durable ahead); ahead = ahead })

-- an entry behind a change of the disk alone
pub appended_on : {D : Type 0} (old mid new : State D) (by : Caller) (k : Kind) → mid ≡ on_disk old mid.disk → IsAppended mid new by k → IsAppended old new by k
appended_on old mid new by k kept a = let b = subst (λ (m : State _). IsAppended m new by k) kept a in record { config = b.config; instance = b.instance; history = b.history }

-- the evict of a page that was clean, or was written first
pub evicted_is : {D : Type 0} (s t u : FramesSeen) (old mid new : State D) (by : Caller) (p : PageId) (f clock : ℕ) (found : Option (List (ℕ × Word))) (passed words : List (ℕ × Word)) → AreOrderly old.config old.history → frame_in_turn (book old.config old.history) ≡ None → s.visit ≡ None
    → (taken : IsTaken s t old.history p f clock) → (stops : StopsAt old.history s.rows found (walk old.config old.history) p passed) → AreInOrder old.history s.rows found stops.before words
    → IsCleanedFirst old.config.first by p old.history mid.history → (is_dirty old.history p ≡ false → new.disk ≡ old.disk) → mid.config ≡ old.config → mid.instance ≡ old.instance → IsAppended mid new by (kind.Evict p f words) → u.rows ≡ t.rows
    → IsHad old new s.rows u.rows by f
evicted_is s t u old mid new by p f clock found passed words orderly none_free alone taken stops are cleaned unused config instance a rows = inr (record {
  page = p;
  passed = words;
  mid = mid.history;
  image = taken.claimed.image;
  none_free = none_free;
  sought = sought_is old.config old.history s.rows found p passed words orderly none_free stops are;
  found = are.seen;
  rising = are.rising;
  housed = taken.housed;
  unfixed = taken_unfixed s t old.history p f clock alone taken;
  cleaned = cleaned;
  unused = unused;
  history = a.history ∙ ap (λ (c : Config). entry_behind c.first mid.history by (kind.Evict p f words) ∷ mid.history) config;
  config = a.config ∙ config;
  instance = a.instance ∙ instance;
  rows_are = rows ∙ taken_rows s t old.history p f clock taken;
})

-- the history grows by at most the write
pub cleaned_length : (first : ℕ) (by : Caller) (p : PageId) (old new : List Entry) → IsCleanedFirst first by p old new → length new ≤ length old + 1
cleaned_length first by p old new (inl same) = let e = ap (length {A = Entry}) same.1 in omega (arith, e)
cleaned_length first by p old new (inr back) = let e = ap (length {A = Entry}) back.entry in omega (arith, e)

-- a page without a home gets none
pub cleaned_home : (first : ℕ) (by : Caller) (p q : PageId) (old new : List Entry) → IsCleanedFirst first by p old new → home new q ≡ home old q
cleaned_home first by p q old new (inl same) = ap (λ (h : List Entry). home h q) same.1
cleaned_home first by p q old new (inr back) = ap (λ (h : List Entry). home h q) back.entry

left_none : (b : Bool) (o : Option ℕ) → o ≡ None → Rattle.std.proofs.Common.cond b None o ≡ None
left_none true o is = refl
left_none false o is = is

pub evict_absent : {D : Type 0} (mid new : State D) (by : Caller) (p q : PageId) (f : ℕ) (words : List (ℕ × Word)) → IsAppended mid new by (kind.Evict p f words) → home mid.history q ≡ None → home new.history q ≡ None
evict_absent mid new by p q f words a none = ap (λ (h : List Entry). home h q) a.history ∙ left_none (same_page p q) (home mid.history q) none

pub refused_absent : {D : Type 0} (mid new : State D) (by : Caller) (q : PageId) (asked : Call) (why : Cause) → IsAppended mid new by (kind.Refused asked why) → home mid.history q ≡ None → home new.history q ≡ None
refused_absent mid new by q asked why a none = ap (λ (h : List Entry). home h q) a.history ∙ none

-- entries of a kind that no log has to know
pub log_on : {R : Type 0} (log_seen : R → RedoSeen) (old new : log.State R) (h k l : List Entry) → ((x : Seen) → IsLogged x k → IsLogged x l) → log_end l ≡ log_end k → ((m : ℕ) (g : List Entry) → AreUpTo m g k → AreUpTo m g l) → KeepsLog log_seen old new h k → KeepsLog log_seen old new h l
log_on log_seen old new h k l logged ends upto keeps = record {
  later = keeps.later;
  opening = keeps.opening;
  kept = keeps.kept;
  logged = λ is. logged new.seen (keeps.logged is);
  known = λ is. let known = keeps.known is in omega (arith, known, ends);
  end = keeps.end;
  upto = upto new.seen.durable h keeps.upto;
  mark = keeps.mark;
}

pub log_appended : {D : Type 0} {R : Type 0} (log_seen : R → RedoSeen) (old new : log.State R) (h : List Entry) (mid desk : State D) (by : Caller) (k : Kind) → ((x : Seen) → IsLoggedKind x k) → ((n : ℕ) → log_end_after k n ≡ n) → ((m : ℕ) → IsUpTo m k)
    → IsAppended mid desk by k → KeepsLog log_seen old new h mid.history → KeepsLog log_seen old new h desk.history
log_appended log_seen old new h mid desk by k kinds ends marks a keeps = log_on log_seen old new h mid.history desk.history
    (λ x is. subst (λ (l : List Entry). IsLogged x l) (sym a.history) (kinds x, is)) (ap log_end a.history ∙ ends (log_end mid.history))
    (λ m g were. upto_more m g mid.history desk.history (entry_behind mid.config.first mid.history by k) (marks m) a.history were) keeps

pub fault_logged : (x : Seen) (asked : Call) (e : WriteErr) → IsLoggedKind x (kind.Refused asked (cause_of e))
fault_logged x asked (unwritten.RedoFault before after) = tt
fault_logged x asked (unwritten.DiskFault before after) = tt

-- a step that leaves numbers and disk
pub leaves_more : {D : Type 0} (seen : D → DiskSeen) (old mid new : State D) → LeavesDesk seen old mid
    → new.config ≡ mid.config → new.instance ≡ mid.instance → new.disk ≡ mid.disk → LeavesDesk seen old new
leaves_more seen old mid new leaves config instance disk = record {
  config = config ∙ leaves.config;
  instance = instance ∙ leaves.instance;
  sizes = ap (λ d. (seen d).size) disk ∙ leaves.sizes;
  telling = ap (λ d. (seen d).tells) disk ∙ leaves.telling;
  spaces_are = λ n. ap (λ (d : _). (seen d).spaces n) disk ∙ leaves.spaces_are n;
  later = let e = ap (λ d. (seen d).faults) disk in let l = leaves.later in omega (arith, e, l);
}

pub leaves_none : {D : Type 0} (seen : D → DiskSeen) (s : State D) → LeavesDesk seen s s
leaves_none seen s = record { config = refl; instance = refl; sizes = refl; telling = refl; spaces_are = λ n. refl; later = omega arith }
