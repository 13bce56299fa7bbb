-- What the passes of a log know at its end.
use Rattle.std.proofs.Common.{◌≡◌, ℕ, ◌+◌, ◌-◌, ◌≤◌, ◌++◌, true, List, [], ◌∷◌, length, take, All, Option, Some, None, IfSome, IsSomeAnd, refl, sym, ap, ◌∙◌, subst, arith, append_assoc, length-append}
use Rattle.std.proofs.lemmas.List.{append-nil}
use Rattle.std.proofs.lemmas.List.Elements.{All-cons, All-nil, All-weaker}
use Rattle.atomic_table.specs.Seated.{TableId}
use Rattle.redo_mark.specs.Device.{Told, RedoSeen, Tells, IsOpening}
use Rattle.redo_mark.specs.Records.{AreRecords}
use Rattle.redo_mark.specs.Logs.{Seen, LogState, HasGrown, Holds, IsKeptAt, IsAllKept, IsWhole}
use Rattle.redo_mark.specs.declared.redo.RedoEnd.{RedoEnd}
use Rattle.redo_log.specs.declared.view.Piece.{Piece}
use Rattle.redo_log.specs.declared.view.Story.{Story}
use Rattle.redo_log.specs.declared.view.View.{View}
use Rattle.redo_log.specs.Story.{end_of, StandsInLog, StandAll}
use Rattle.redo_log.specs.Marks.{IsSoundStory, Looks, bytes_of, joined}
use Rattle.redo_log.specs.Passes.{Known, LogOf, known_of}
use Rattle.redo_log.specs.Turns.{Agrees, BeganAs}
use Rattle.redo_log.specs.Ends.{IsKnownBy, shares_of, sizes_of, mets_of, IsPieceKept, IsInEnd, IsEndOf}
use Rattle.redo_log.proofs.Pieces.{size-append, stand_all_left, stand_all_right}

-- of these passes the view has taken in all but those that are left
abbrev pub HasTaken : View → View → List Known → List Known → Type 0
HasTaken first v left all = (done : List Known) × (all ≡ left ++ done) × All (IsKnownBy v) done × (v.share ≡ first.share + shares_of done) × (bytes_of v ≡ bytes_of first + sizes_of done)
    × (v.met ≡ first.met + mets_of done)

pub none_taken : (v : View) (all : List Known) → HasTaken v v all all
none_taken v all = ([], sym (append-nil all), All-nil (IsKnownBy v), omega arith, omega arith, omega arith)

pub one_taken : (first v w : View) (id : TableId) (left rest all : List Known) → left ≡ rest ++ known_of id w ∷ [] → HasTaken first v left all
    → HasTaken first (joined v w) rest all
one_taken first v w id left rest all is h =
    let q = known_of id w in
    let older : (p : Known) → IsKnownBy v p → IsKnownBy (joined v w) p = λ p g. record {
      end = omega (arith, g.end);
      durable = omega (arith, g.durable);
      faults = omega (arith, g.faults);
      pieces = λ s all. g.pieces s (stand_all_left s v.pieces w.pieces all);
    } in
    let here : IsKnownBy (joined v w) q = record {
      end = omega arith;
      durable = omega arith;
      faults = omega arith;
      pieces = λ s all. stand_all_right s v.pieces w.pieces all;
    } in (
      q ∷ h.0,
      h.1 ∙ ap (λ l. l ++ h.0) is ∙ append_assoc rest (q ∷ []) h.0,
      All-cons (IsKnownBy (joined v w)) q h.0 here (All-weaker (IsKnownBy v) (IsKnownBy (joined v w)) older h.0 h.2),
      (let share = h.3 in omega (arith, share)),
      (let size = size-append v.pieces w.pieces in let bytes = h.4 in omega (arith, size, bytes)),
      (let met = h.5 in omega (arith, met)),
    )

pub all_taken : (first v : View) (left all : List Known) → left ≡ [] → HasTaken first v left all → All (IsKnownBy v) all
all_taken first v left all is h = subst (All (IsKnownBy v)) (sym (h.1 ∙ ap (λ l. l ++ h.0) is)) h.2

pub all_shares : (first v : View) (left all : List Known) → left ≡ [] → HasTaken first v left all → v.share ≡ first.share + shares_of all
all_shares first v left all is h = h.3 ∙ ap (λ l. first.share + shares_of l) (sym (h.1 ∙ ap (λ l. l ++ h.0) is))

pub all_sizes : (first v : View) (left all : List Known) → left ≡ [] → HasTaken first v left all → bytes_of v ≡ bytes_of first + sizes_of all
all_sizes first v left all is h = h.4 ∙ ap (λ l. bytes_of first + sizes_of l) (sym (h.1 ∙ ap (λ l. l ++ h.0) is))

pub all_mets : (first v : View) (left all : List Known) → left ≡ [] → HasTaken first v left all → v.met ≡ first.met + mets_of all
all_mets first v left all is h = h.5 ∙ ap (λ l. first.met + mets_of l) (sym (h.1 ∙ ap (λ l. l ++ h.0) is))

-- a piece of the story stands in the log
pub holds_piece : (s : Story) (seen : Seen) (p : Piece) → Agrees s seen → StandsInLog s p → Holds seen p.bytes p.start
holds_piece s seen p agrees h =
    let one = length-append (h.0 ++ p.bytes) h.1 in
    let two = length-append h.0 p.bytes in
    let len = ap length h.2 in record {
      behind = omega (arith, agrees.opened, h.3);
      within = omega (arith, one, two, len, agrees.end, h.3);
      there = there seen.bytes agrees.bytes;
    }
  where
    there : (bytes : Option (List ℕ)) → IfSome bytes (λ b. b ≡ s.bytes) → IfSome bytes (λ b. (before after : List ℕ) × (b ≡ before ++ p.bytes ++ after) × (seen.opened + length before ≡ p.start))
    there None is = tt
    there (Some b) is = (h.0, h.1, is ∙ h.2, (let e = h.3 in omega (arith, agrees.opened, e)))

-- each record that stands below the mark is kept
pub are_kept : (s : Story) (seen : Seen) (mark : ℕ) (told : Option Told) (ps : List Piece) → Agrees s seen → StandAll s ps
    → ((piece : List ℕ) (start : ℕ) → Holds seen piece start → start + length piece ≤ mark → IsKeptAt seen.first piece start told) → All (IsPieceKept seen.first mark told) ps
are_kept s seen mark told [] agrees all keeps = All-nil (IsPieceKept seen.first mark told)
are_kept s seen mark told (p ∷ ps) agrees all keeps =
    All-cons (IsPieceKept seen.first mark told) p ps (λ below. keeps p.bytes p.start (holds_piece s seen p agrees all.0) below)
    (are_kept s seen mark told ps agrees all.1 keeps)

-- what a log keeps that began on a device at its opening
pub ends_kept : (s : Story) (seen : Seen) (opened : ℕ) (opening told : Option Told) → Agrees s seen → IsWhole seen → IsAllKept opened opening seen told
    → Tells opening told (λ a b. IsOpening opened a → (bytes : List ℕ) × AreRecords seen.opened bytes × (seen.opened + length bytes ≡ seen.end)
    × (b.kept ≡ a.kept ++ take (seen.durable - seen.opened) bytes))
ends_kept s seen opened None told agrees whole kept = kept
ends_kept s seen opened (Some a) None agrees whole kept = kept
ends_kept s seen opened (Some a) (Some b) agrees whole kept = λ was. there seen.bytes agrees.bytes whole (kept was)
  where
    there : (bytes : Option (List ℕ)) → IfSome bytes (λ x. x ≡ s.bytes) → IfSome bytes (AreRecords seen.opened)
        → IsSomeAnd bytes (λ x. b.kept ≡ a.kept ++ take (seen.durable - seen.opened) x)
        → (x : List ℕ) × AreRecords seen.opened x × (seen.opened + length x ≡ seen.end) × (b.kept ≡ a.kept ++ take (seen.durable - seen.opened) x)
    there None is whole kept = absurd kept
    there (Some x) is whole kept = (x, whole, (let len = ap length is in omega (arith, len, agrees.opened, agrees.end)), kept)

-- what a pass knows is so at the end of a log whose keeper knows it
pub in_end : (v w : View) (x : List ℕ) (seen : Seen) (disk : RedoSeen) (lsn mark : ℕ) (p : Known) → Looks v x x w → v.keeps ≡ true → Agrees v.story seen
    → IsKnownBy v p → lsn ≡ seen.end → mark ≡ seen.durable → seen.faults ≡ disk.faults
    → ((piece : List ℕ) (start : ℕ) → Holds seen piece start → start + length piece ≤ mark → IsKeptAt seen.first piece start disk.told) → IsInEnd seen.first disk lsn mark p
in_end v w x seen disk lsn mark p looked has agrees within end durable faults keeps =
    let whole = looked.whole has in
    let e = ap (λ (u : View). u.end) whole.0 in
    let d = ap (λ (u : View). u.durable) whole.0 in
    let f = ap (λ (u : View). u.faults) whole.0 in record {
      end = omega (arith, within.end, looked.end, e, agrees.end, end);
      durable = omega (arith, within.durable, looked.durable, d, agrees.durable, durable);
      faults = omega (arith, within.faults, looked.faults, f, agrees.faults, faults);
      pieces = are_kept v.story seen mark disk.told p.pieces agrees (within.pieces v.story whole.2) keeps;
    }

-- the end of a log is as its story says
pub is_end : {R : Type 0} (seen : R → RedoSeen) (log : LogOf R) (left : RedoEnd R) (state : LogState R) (s : Story) → Agrees s state.seen → IsSoundStory s
    → BeganAs seen log state → left.durable ≡ state.seen.durable → left.end ≡ state.seen.end → IsWhole state.seen
    → state.seen.opened ≡ state.seen.first + (seen left.disk).opened
    → ((opening : Option Told) → HasGrown state.seen (seen state.disk) opening → IsAllKept (seen left.disk).opened opening state.seen (seen left.disk).told) → IsEndOf seen log left
is_end seen log left state s agrees sound began durable end whole opened keeps =
    let len : (seen left.disk).opened ≡ (seen log.opening).opened = omega (arith, opened, began.opened, began.first) in
    let told = (seen log.opening).told in record {
      durable = omega (arith, sound.low, agrees.opened, agrees.durable, began.opened, durable);
      end = omega (arith, sound.high, agrees.end, agrees.durable, durable, end);
      kept = subst (λ (y : ℕ × ℕ × ℕ × ℕ). Tells told (seen left.disk).told (λ a b. IsOpening y.0 a → (bytes : List ℕ) × AreRecords y.1 bytes × (y.1 + length bytes ≡ y.2)
          × (b.kept ≡ a.kept ++ take (y.3 - y.1) bytes))) (λ i. (len i, began.opened i, sym end i, sym durable i))
          (ends_kept s state.seen (seen left.disk).opened told (seen left.disk).told agrees whole (keeps told began.grown));
    }
