-- Frames under a put, a write and an answer: what each step needs of them, and what it leaves.
use Rattle.std.proofs.Common.{◌≡◌, ◌≢◌, ◌==◌, ℕ, Bool, true, false, cond, List, [], ◌∷◌, ◌++◌, ◌<◌, ◌+◌, Option, Some, None, IsSomeAnd, length, take, drop, refl, ap, ◌∙◌, sym, subst, IfSome, IsSome, inr, eq-eqb, arith, length-append, length-set, slice_set}
use Rattle.std.specs.Prelude.{⊤}
use Rattle.std.proofs.lemmas.Bool.{ne_eqb}
use Rattle.std.proofs.lemmas.List.{set-set, set-get_or, length-take-le, length-drop}
use Rattle.std.specs.Option.{is_some, option_map, option_map_or}
use Rattle.page_ids.specs.Content.{Content, IsRange, patched}
use Rattle.page_ids.specs.Layout.{IsPage}
use Rattle.page_ids.specs.Same.{same_page}
use Rattle.page_ids.specs.Size.{page_bytes}
use Rattle.page_ids.specs.declared.config.Config.{Config}
use Rattle.page_ids.specs.declared.frame_word.Word.{Word}
use Rattle.page_ids.specs.declared.ids.PageId.{PageId}
use Rattle.page_ids.specs.declared.lists.Words.{Words}
use Rattle.trail.specs.declared.event.Call.{Call}
use Rattle.trail.specs.declared.event.Cause.{Cause}
use Rattle.page_disk.specs.Disks.{DiskSeen, IsSameDisk, IsOtherwiseSame, Fades}
use Rattle.trail.specs.declared.event.Dirty.{Dirty}
use Rattle.trail.specs.declared.event.Entry.{Entry}
use Rattle.trail.specs.declared.event.Held.{Held}
use Rattle.trail.specs.declared.event.Kind.{Kind}
use Rattle.trail.specs.declared.event.Kind.TheVariants as kind
use Rattle.trail.specs.Dirt.{dirtied, dirty, dirt_of, is_dirty}
use Rattle.trail.specs.History.{value, home, change, changes}
use Rattle.trail.specs.Trails.{mark}
use Rattle.trail.specs.Words.{words_told}
use Rattle.frame_words.specs.Appends.{AreReady, FitsHomes, FitsOpen, appended, extended, pages_named, turn_after}
use Rattle.frame_words.specs.Conditions.{AreFound, AreOurs, ArePublished, IsNext, IsVisited, IsUncovered, MayAppend, MayLay}
use Rattle.frame_words.specs.Rows.{Row, Uncovers, laid_row, latched_row, lifted_row, stamped_row, unlatched_row}
use Rattle.frame_words.specs.Seen.{FramesSeen, History, Turn, row_at, with_row, OnToldValue}
use Rattle.desk.specs.Base.{Opened}
use Rattle.desk.specs.Behind.{IsBehind}
use Rattle.desk.specs.Changes.{IsPutBy, IsImageTold, changed_row}
use Rattle.desk.specs.State.{State}
use Rattle.desk.specs.Steps.{IsAppended, next_entry}
use Rattle.desk.specs.Tied.{AreTied, TellsAll, HasTurn, IsTied, OnTold}
use Rattle.desk.specs.declared.calls.Caller.{Caller}
use Rattle.desk.specs.declared.calls.PutDone.{PutDone}
use Rattle.desk.proofs.BehindWrites.{settled, row_here, row_there, desk_of, settled_value, behind_rows, behind_disk, behind_answer, behind_put, behind_write, behind_failed, refused_answer, clean_answer}
use Rattle.instance_lists.proofs.Dirt.{no_way, same_is, same_self, dirtied_here, dirtied_other, cleaned_of}
use mathlib.Core.Logic.{dite}
use native.Mathlib.Decide.{ℕ_discrete}

-- a desk is known by its parts
pub desk_is : {D : Type 0} → (old new : State D) (by : Caller) (k : Kind) → IsAppended old new by k → new ≡ desk_of old (next_entry old by k ∷ old.history) new.disk
desk_is {D} old new by k a =
    let made = λ (c : Config) (n : ℕ) (h : List Entry). let x : State D = record { config = c; instance = n; history = h; disk = new.disk } in x in
    ap (λ c. made c new.instance new.history) a.config ∙ ap (λ n. made old.config n new.history) a.instance ∙ ap (made old.config old.instance) a.history

pub desk_kept : {D : Type 0} → (old new : State D) → new.config ≡ old.config → new.instance ≡ old.instance → new.history ≡ old.history → new ≡ desk_of old old.history new.disk
desk_kept {D} old new config instance history =
    let made = λ (c : Config) (n : ℕ) (h : List Entry). let x : State D = record { config = c; instance = n; history = h; disk = new.disk } in x in
    ap (λ c. made c new.instance new.history) config ∙ ap (λ n. made old.config n new.history) instance ∙ ap (made old.config old.instance) history

-- and where the disk is as before
pub desk_next : {D : Type 0} → (old new : State D) (by : Caller) (k : Kind) → IsAppended old new by k → new.disk ≡ old.disk → new ≡ desk_of old (next_entry old by k ∷ old.history) old.disk
desk_next {D} old new by k a disk = desk_is old new by k a ∙ ap (desk_of old (next_entry old by k ∷ old.history)) disk

-- an entry behind a write to the disk
pub grown_mid : {D : Type 0} → (desk mid new : State D) (d : D) (by : Caller) (k : Kind) → mid ≡ desk_of desk desk.history d → IsAppended mid new by k
    → new.history ≡ next_entry desk by k ∷ desk.history
grown_mid {D} desk mid new d by k still a = a.history ∙ ap (λ (x : State D). next_entry x by k ∷ x.history) still

not_false : (b : Bool) → (b ≡ false → ⊥) → b ≡ true
not_false true no_more = refl
not_false false no_more = absurd (no_more refl)

some_in : {A : Type 0} → (o : Option A) → IsSome o → (x : A) × (o ≡ Some x)
some_in None is = absurd (no_way (sym is))
some_in (Some x) is = (x, refl)

module _ {A : Type 0} where
  -- where there is something, it is this
  if_is : (o : Option A) (x : A) (P : A → Type 0) → IfSome o (λ y. y ≡ x) → P x → IfSome o P
  if_is None x P is p = tt
  if_is (Some y) x P is p = subst P (sym is) p

  if_map : (f : A → A) (o : Option A) (P : A → Type 0) → IfSome o (λ x. P (f x)) → IfSome (option_map f o) P
  if_map f None P is = tt
  if_map f (Some x) P is = is

  some_map : (f : A → A) (o : Option A) → IsSome (option_map f o) → IsSome o
  some_map f None is = is
  some_map f (Some x) is = refl

  map_some : (f : A → A) (o : Option A) → IsSome o → IsSome (option_map f o)
  map_some f None is = is
  map_some f (Some x) is = refl

-- what is known of the image of a frame that nobody else reaches
told_image : (image : Option (Option Content)) → IsSome image → IfSome image (λ told. IsSome told) → (c : Content) × (image ≡ Some (Some c))
told_image None there told = absurd (no_way (sym there))
told_image (Some None) there told = absurd (no_way (sym told))
told_image (Some (Some c)) there told = (c, refl)

-- a page's home that nobody else reaches
pub record IsSettled (size : ℕ) (h : List Entry) (r : Row) (p : PageId) (f : ℕ) : Type 0 where
  pub content : Content
  pub held : ℕ
  pub row : r ≡ settled p (change h f) content held
  pub sized : length content.bytes ≡ size

settled_row : (size frames : ℕ) (h : List Entry) (r : Row) (p : PageId) (f : ℕ) → IsTied size frames h r f → IsSome r.held → IfSome r.image (λ told. IsSome told)
    → home h p ≡ Some f → f < frames → ((q : PageId) → home h q ≡ Some f → q ≡ p) → IsSettled size h r p f
settled_row size frames h r p f t held_is told_is here below only =
    let resident : r.resident ≡ true = not_false r.resident (λ away. t.vacant away p here) in
    let page : r.page ≡ p = only r.page (t.resident resident) in
    let image = told_image r.image (t.there below) told_is in
    let held = some_in r.held held_is in
    let made = λ (a : Bool) (b : ℕ) (q : PageId) (l : Bool) (i : Option (Option Content)) (n : Option ℕ). let x : Row = record { resident = a; clock = b; page = q; latched = l; image = i; held = n } in x in
    let I : Option (Option Content) → Type 0 = λ i. OnTold i (λ c. length c.bytes ≡ size) in
    record {
      content = image.0;
      held = held.0;
      row = ap (λ a. made a r.clock r.page r.latched r.image r.held) resident
          ∙ ap (λ b. made true b r.page r.latched r.image r.held) t.clock
          ∙ ap (λ q. made true (change h f) q r.latched r.image r.held) page
          ∙ ap (λ l. made true (change h f) p l r.image r.held) t.unlatched
          ∙ ap (λ i. made true (change h f) p false i r.held) image.1
          ∙ ap (λ n. made true (change h f) p false (Some (Some image.0)) n) held.1;
      sized = subst I image.1 t.sized;
    }

-- the frame's image is in this holder's hand
abbrev pub in_hand : Row → Row
in_hand r = lifted_row (latched_row r None)

-- an image that is told is the one that was lifted
pub uncovered : (s : FramesSeen) (f clock n : ℕ) (p : PageId) (c image : Content) → row_at s f ≡ settled p clock c n → IsUncovered s f (Some (Some image)) → image ≡ c
uncovered s f clock n p c image row is =
    let U : Row → Type 0 = λ r. Uncovers r.image (Some (Some image)) in
    let same : Some (Some image) ≡ Some (Some c) = subst U row is.told in
    cc

pub length-changed : (size : ℕ) (c : Content) (at : ℕ) (bytes : List ℕ) (lsn : ℕ) → length c.bytes ≡ size → IsRange size at (length bytes) → length (patched c at bytes lsn).bytes ≡ size
length-changed size c at bytes lsn sized body =
    let head = length-take-le at c.bytes (omega (arith, sized, body.trailer)) in
    let tail = length-drop (at + length bytes) c.bytes in
    let one = length-append (take at c.bytes) bytes in
    let two = length-append (take at c.bytes ++ bytes) (drop (at + length bytes) c.bytes) in
    omega (arith, head, tail, one, two, sized, body.trailer)

-- the place of a put is its frame's clock
change_put : (h : List Entry) (e : Entry) (p : PageId) (f at : ℕ) (bytes : List ℕ) (start end : ℕ) → e.kind ≡ kind.Put p at bytes start end → home h p ≡ Some f → change (e ∷ h) f ≡ e.place
change_put h e p f at bytes start end k here =
    let test : changes h e.kind f ≡ true = ap (λ x. changes h x f) k ∙ ap (λ o. option_map_or (λ g. g == f) o false) here ∙ eq-eqb f f refl in
    ap (λ (b : Bool). cond b e.place (change h f)) test

change_else : (h : List Entry) (e : Entry) (p : PageId) (f g at : ℕ) (bytes : List ℕ) (start end : ℕ) → e.kind ≡ kind.Put p at bytes start end → home h p ≡ Some f → f ≢ g → change (e ∷ h) g ≡ change h g
change_else h e p f g at bytes start end k here ne =
    let test : changes h e.kind g ≡ false = ap (λ x. changes h x g) k ∙ ap (λ o. option_map_or (λ x. x == g) o false) here ∙ ne_eqb f g ne in
    ap (λ (b : Bool). cond b e.place (change h g)) test

-- writing a row twice, and writing back what stood there
twice : (s : FramesSeen) (f : ℕ) (a b : Row) → with_row (with_row s f a) f b ≡ with_row s f b
twice s f a b = ap (λ (rows : List Row). record s { rows = rows }) (set-set s.rows f a b)

own_row : (s : FramesSeen) (f : ℕ) → f < length s.rows → with_row s f (row_at s f) ≡ s
own_row s f inside = ap (λ (rows : List Row). record s { rows = rows }) (set-get_or s.rows f _)

-- a frame's row is written twice, the second time over what then stands there
pub then_row : (g : Row → Row) (s s1 s2 : FramesSeen) (f : ℕ) (r : Row) → f < length s.rows → s1 ≡ with_row s f r → s2 ≡ with_row s1 f (g (row_at s1 f)) → s2 ≡ with_row s f (g r)
then_row g s s1 s2 f r inside first second =
    second ∙ ap (λ (x : FramesSeen). with_row x f (g (row_at x f))) first ∙ ap (λ (x : Row). with_row (with_row s f r) f (g x)) (row_here s f r inside) ∙ twice s f r (g r)

-- what is told of the history is the desk's
abbrev pub history_of : {D : Type 0} → State D → History
history_of desk = record { config = desk.config; instance = desk.instance; entries = desk.history }

pub turn_kept : (f : Turn → Turn) (o : Option Turn) (by : Caller) → ((t : Turn) → f t ≡ t) → IfSome o (λ t. (t.caller ≡ by.pass) × (t.number ≡ by.number)) → IfSome (option_map f o) (λ t. (t.caller ≡ by.pass) × (t.number ≡ by.number))
turn_kept f None by same is = tt
turn_kept f (Some t) by same is =
    let P : Turn → Type 0 = λ t. (t.caller ≡ by.pass) × (t.number ≡ by.number) in
    subst P (sym (same t)) is

pub alone_rows : (s t : FramesSeen) → t.rows ≡ s.rows → TellsAll s → TellsAll t
alone_rows s t same alone =
    let P : List Row → Type 0 = λ rows. TellsAll (record t { rows = rows }) in
    subst P (sym same) alone

pub any_open : (o : Option (List Held)) → IfSome o (λ x. ⊤)
any_open None = tt
any_open (Some x) = tt

-- when an entry that names no words may be appended
pub next_may : {D : Type 0} → (s : FramesSeen) (desk : State D) (by : Caller) (k : Kind) → AreReady s k → IfSome s.history (λ h. h ≡ history_of desk) → HasTurn s by
    → ArePublished s desk.history → s.owed ≡ None → (IsSome s.history → AreOurs (history_of desk) (pages_named k)) → FitsHomes s desk.history k
    → IfSome s.opened (λ o. FitsOpen o k) → words_told k ≡ [] → MayAppend s (next_entry desk by k)
next_may s desk by k ready history turn published owed ours homes opened words = record { frames = ready; next = go s.history refl s.turn refl }
  where
    no_words : (found : Option (List (ℕ × Word))) → IfSome found (λ f. AreFound f (words_told k))
    no_words None = tt
    no_words (Some f) = (let P : List (ℕ × Word) → Type 0 = λ ws. AreFound f ws in subst P (sym words) tt)

    go : (H : Option History) → s.history ≡ H → (T : Option Turn) → s.turn ≡ T → IfSome H (λ h. IfSome T (λ t. IsNext s h t (next_entry desk by k)))
    go None told T turns = tt
    go (Some h) told None turns = tt
    go (Some h) told (Some t) turns =
        let H : Option History → Type 0 = λ o. IfSome o (λ x. x ≡ history_of desk) in
        let T : Option Turn → Type 0 = λ o. IfSome o (λ x. (x.caller ≡ by.pass) × (x.number ≡ by.number)) in
        let is : h ≡ history_of desk = subst H told history in
        let his : (t.caller ≡ by.pass) × (t.number ≡ by.number) = subst T turns turn in
        let N : History → Type 0 = λ x. IsNext s x t (next_entry desk by k) in
        subst N (sym is) (record {
          place = refl;
          caller = sym his.0;
          number = sym his.1;
          published = published;
          created = owed;
          ours = ours (ap is_some told);
          homes = homes;
          opened = opened;
          words = no_words s.found;
        })

module _ {D : Type 0} (seen : D → DiskSeen) where
  abbrev Ties : FramesSeen → State D → Type 0
  Ties s desk = AreTied seen s desk

  pub home_row : (s : FramesSeen) (desk : State D) (p : PageId) (f : ℕ) → Ties s desk → TellsAll s → home desk.history p ≡ Some f → f < desk.config.frames
      → ((q : PageId) → home desk.history q ≡ Some f → q ≡ p) → IsSettled (page_bytes desk.config.page) desk.history (row_at s f) p f
  home_row s desk p f t alone here below only =
      let inside : f < length s.rows = omega (arith, below, t.whole) in
      settled_row (page_bytes desk.config.page) desk.config.frames desk.history (row_at s f) p f (t.rows f inside) (alone f inside).0 (alone f inside).1 here below only

  -- where values are told, that of the page is the image's content
  value_told : (s : FramesSeen) (desk : State D) (p : PageId) (f clock n : ℕ) (c : Content) → Ties s desk → home desk.history p ≡ Some f → row_at s f ≡ settled p clock c n
      → IfSome s.base (λ base. value (page_bytes desk.config.page) base desk.history p ≡ Some c)
  value_told s desk p f clock n c t here row = go s.base t.valued
    where
      go : (B : Option (PageId → Option Content)) → IfSome B (λ base. (o : Opened) × (o.base ≡ base) × IsBehind seen o desk s)
          → IfSome B (λ base. value (page_bytes desk.config.page) base desk.history p ≡ Some c)
      go None is = tt
      go (Some base) is =
          let v : value is.0.size is.0.base desk.history p ≡ Some c = settled_value seen is.0 desk s p f clock n c here row is.2 in
          ap (λ size. value size base desk.history p) is.2.size ∙ ap (λ b. value is.0.size b desk.history p) (sym is.1) ∙ v

  module _ (s : FramesSeen) (desk : State D) (p : PageId) (f clock n : ℕ) (c : Content) (t : Ties s desk) (inside : f < length s.rows) (here : home desk.history p ≡ Some f)
      (row : row_at s f ≡ settled p clock c n) where
    abbrev Hand : FramesSeen
    Hand = with_row s f (in_hand (row_at s f))

    hand_row : row_at Hand f ≡ in_hand (settled p clock c n)
    hand_row = row_here s f (in_hand (row_at s f)) inside ∙ ap in_hand row

    hand_clock : ArePublished Hand desk.history
    hand_clock q g within there away =
        let below : g < length s.rows = omega (arith, within, length-set s.rows f (in_hand (row_at s f))) in
        dite (ℕ_discrete g f)
        (λ same. ap (λ x. (row_at Hand x).clock) same ∙ ap (λ (r : Row). r.clock) (row_here s f (in_hand (row_at s f)) inside) ∙ (t.rows f inside).clock ∙ ap (change desk.history) (sym same))
        (λ other. ap (λ (r : Row). r.clock) (row_there s f g (in_hand (row_at s f)) other) ∙ (t.rows g below).clock)

    -- an entry on the page whose image is in hand may be appended
    pub hand_may : (by : Caller) (k : Kind) → HasTurn s by → (IsSome s.history → AreOurs (history_of desk) (pages_named k)) → AreReady Hand k → FitsHomes Hand desk.history k
        → IfSome s.opened (λ o. FitsOpen o k) → words_told k ≡ [] → MayAppend Hand (next_entry desk by k)
    hand_may by k turn ours ready homes opened words = next_may Hand desk by k ready t.history turn hand_clock t.none_owed ours homes opened words

    hand_reached : IsVisited Hand f
    hand_reached = record { inside = omega (arith, inside, length-set s.rows f (in_hand (row_at s f))); alone = inr (ap (λ (r : Row). r.latched) hand_row) }

    hand_page : (row_at Hand f).page ≡ p
    hand_page = ap (λ (r : Row). r.page) hand_row

    -- the changed image may be laid behind the put
    pub lay_changed : (by : Caller) (at : ℕ) (bytes : List ℕ) (start end : ℕ) → length (patched c at bytes end).bytes ≡ page_bytes desk.config.page
        → MayLay (appended Hand (next_entry desk by (kind.Put p at bytes start end))) f (patched c at bytes end)
    lay_changed by at bytes start end sized =
        let e : Entry = next_entry desk by (kind.Put p at bytes start end) in
        let new : Content = patched c at bytes end in record {
          reached = record { inside = hand_reached.inside; alone = hand_reached.alone };
          empty = ap (λ (r : Row). r.image) hand_row;
          sized = if_map (extended e) s.history (λ h. length new.bytes ≡ page_bytes h.config.page)
              (if_is s.history (history_of desk) (λ h. length new.bytes ≡ page_bytes h.config.page) t.history sized);
          valued = λ resident.
              let P : PageId → Type 0 = λ q. OnToldValue (appended Hand e) q (λ v. v ≡ Some new) in
              let V : History → Type 0 = λ h. IfSome s.base (λ base. value (page_bytes h.config.page) base h.entries p ≡ Some new) in
              subst P (sym hand_page) (if_map (extended e) s.history V (if_is s.history (history_of desk) (λ h. V (extended e h)) t.history
              (patched_told s.base (value_told s desk p f clock n c t here row))));
        }
      where
        patched_told : (B : Option (PageId → Option Content)) → IfSome B (λ base. value (page_bytes desk.config.page) base desk.history p ≡ Some c)
            → IfSome B (λ base. value (page_bytes desk.config.page) base (next_entry desk by (kind.Put p at bytes start end) ∷ desk.history) p ≡ Some (patched c at bytes end))
        patched_told None is = tt
        patched_told (Some base) is =
            let v : Option Content = value (page_bytes desk.config.page) base desk.history p in
            ap (λ (b : Bool). cond b (option_map (λ x. patched x at bytes end) v) v) (same_self p) ∙ ap (option_map (λ x. patched x at bytes end)) is

    -- the image that was written may be laid back behind its write, and the clock is that of the frame
    pub lay_written : (by : Caller) (lsn upto : ℕ) → length c.bytes ≡ page_bytes desk.config.page → MayLay (appended Hand (next_entry desk by (kind.Write p lsn upto))) f c
    lay_written by lsn upto sized =
        let e : Entry = next_entry desk by (kind.Write p lsn upto) in record {
          reached = record { inside = hand_reached.inside; alone = hand_reached.alone };
          empty = ap (λ (r : Row). r.image) hand_row;
          sized = if_map (extended e) s.history (λ h. length c.bytes ≡ page_bytes h.config.page)
              (if_is s.history (history_of desk) (λ h. length c.bytes ≡ page_bytes h.config.page) t.history sized);
          valued = λ resident.
              let P : PageId → Type 0 = λ q. OnToldValue (appended Hand e) q (λ v. v ≡ Some c) in
              let V : History → Type 0 = λ h. IfSome s.base (λ base. value (page_bytes h.config.page) base h.entries p ≡ Some c) in
              subst P (sym hand_page) (if_map (extended e) s.history V (if_is s.history (history_of desk) (λ h. V (extended e h)) t.history
              (value_told s desk p f clock n c t here row)));
        }

    pub clock_written : (by : Caller) (lsn upto : ℕ) → clock ≡ change desk.history f
        → (let A : FramesSeen = appended Hand (next_entry desk by (kind.Write p lsn upto)) in IfSome A.history (λ h. (row_at A f).clock ≡ change h.entries f))
    clock_written by lsn upto is =
        let e : Entry = next_entry desk by (kind.Write p lsn upto) in
        let V : History → Type 0 = λ h. (row_at Hand f).clock ≡ change h.entries f in
        if_map (extended e) s.history V (if_is s.history (history_of desk) (λ h. V (extended e h)) t.history (ap (λ (r : Row). r.clock) hand_row ∙ is))

    -- what is seen at the end: all is as before, but for the entry
    pub given_back : with_row Hand f (unlatched_row (laid_row (row_at Hand f) c)) ≡ s
    given_back =
        ap (λ r. with_row Hand f (unlatched_row (laid_row r c))) hand_row ∙ twice s f (in_hand (row_at s f)) (settled p clock c n) ∙ ap (with_row s f) (sym row) ∙ own_row s f inside

    pub given_written : (by : Caller) (lsn upto : ℕ) → (let A : FramesSeen = appended Hand (next_entry desk by (kind.Write p lsn upto)) in
        with_row A f (unlatched_row (laid_row (row_at A f) c)) ≡ appended s (next_entry desk by (kind.Write p lsn upto)))
    given_written by lsn upto = ap (λ (x : FramesSeen). appended x (next_entry desk by (kind.Write p lsn upto))) given_back

    -- or the image and the clock are new
    pub given_changed : (by : Caller) (at : ℕ) (bytes : List ℕ) (start end place : ℕ) → (let A : FramesSeen = appended Hand (next_entry desk by (kind.Put p at bytes start end)) in
        with_row A f (unlatched_row (stamped_row (laid_row (row_at A f) (patched c at bytes end)) place))
        ≡ with_row (appended s (next_entry desk by (kind.Put p at bytes start end))) f (settled p place (patched c at bytes end) n))
    given_changed by at bytes start end place =
        let new : Content = patched c at bytes end in
        ap (λ (x : FramesSeen). appended x (next_entry desk by (kind.Put p at bytes start end)))
        (ap (λ (r : Row). with_row Hand f (unlatched_row (stamped_row (laid_row r new) place))) hand_row ∙ twice s f (in_hand (row_at s f)) (settled p place new n))

    -- the same, from what the calls tell
    pub put_end : (by : Caller) (at : ℕ) (bytes : List ℕ) (start end place : ℕ) (image : Content) (s1 s2 s3 : FramesSeen) → (let e : Entry = next_entry desk by (kind.Put p at bytes start end) in
        s1 ≡ Hand → s2 ≡ appended s1 e → image ≡ patched c at bytes end → place ≡ e.place
        → s3 ≡ with_row s2 f (unlatched_row (stamped_row (laid_row (row_at s2 f) image) place))
        → s3 ≡ with_row (appended s e) f (settled p e.place (patched c at bytes end) n))
    put_end by at bytes start end place image s1 s2 s3 first second is when third =
        let e : Entry = next_entry desk by (kind.Put p at bytes start end) in
        third ∙ ap (λ (x : FramesSeen). with_row x f (unlatched_row (stamped_row (laid_row (row_at x f) image) place))) (second ∙ ap (λ (x : FramesSeen). appended x e) first)
        ∙ ap (λ (x : Content). with_row (appended Hand e) f (unlatched_row (stamped_row (laid_row (row_at (appended Hand e) f) x) place))) is
        ∙ given_changed by at bytes start end place
        ∙ ap (λ (x : ℕ). with_row (appended s e) f (settled p x (patched c at bytes end) n)) when

    pub write_end : (by : Caller) (lsn upto : ℕ) (image : Content) (s1 s2 s3 : FramesSeen) → (let e : Entry = next_entry desk by (kind.Write p lsn upto) in
        s1 ≡ Hand → s2 ≡ appended s1 e → image ≡ c → s3 ≡ with_row s2 f (unlatched_row (laid_row (row_at s2 f) image)) → s3 ≡ appended s e)
    write_end by lsn upto image s1 s2 s3 first second is third =
        let e : Entry = next_entry desk by (kind.Write p lsn upto) in
        third ∙ ap (λ (x : FramesSeen). with_row x f (unlatched_row (laid_row (row_at x f) image))) (second ∙ ap (λ (x : FramesSeen). appended x e) first)
        ∙ ap (λ (x : Content). with_row (appended Hand e) f (unlatched_row (laid_row (row_at (appended Hand e) f) x))) is
        ∙ given_written by lsn upto

    pub fail_end : (image : Content) (s1 s2 : FramesSeen) → s1 ≡ Hand → image ≡ c → s2 ≡ with_row s1 f (unlatched_row (laid_row (row_at s1 f) image)) → s2 ≡ s
    fail_end image s1 s2 first is second =
        second ∙ ap (λ (x : FramesSeen). with_row x f (unlatched_row (laid_row (row_at x f) image))) first
        ∙ ap (λ (x : Content). with_row Hand f (unlatched_row (laid_row (row_at Hand f) x))) is
        ∙ given_back

  -- values that are told go on to be those of the history
  valued_on : (old new : State D) (s t : FramesSeen) (B : Option (PageId → Option Content)) → ((o : Opened) → IsBehind seen o old s → IsBehind seen o new t)
      → IfSome B (λ base. (o : Opened) × (o.base ≡ base) × IsBehind seen o old s) → IfSome B (λ base. (o : Opened) × (o.base ≡ base) × IsBehind seen o new t)
  valued_on old new s t None on is = tt
  valued_on old new s t (Some base) on is = (is.0, is.1, on is.0 is.2)

  -- only what stands on the disk has changed
  pub tied_disk : (s : FramesSeen) (desk : State D) (d : D) → ((o : Opened) → IsBehind seen o desk s → IsBehind seen o (desk_of desk desk.history d) s)
      → Ties s desk → Ties s (desk_of desk desk.history d)
  tied_disk s desk d on t = record {
    count = t.count;
    whole = t.whole;
    rows = t.rows;
    stamped = t.stamped;
    unvisited = t.unvisited;
    none_owed = t.none_owed;
    history = t.history;
    known = t.known;
    shared = t.shared;
    own = t.own;
    valued = valued_on desk (desk_of desk desk.history d) s s s.base on t.valued;
  }

  -- an entry came that leaves homes and clocks, and makes no page dirty
  pub tied_on : (s : FramesSeen) (desk : State D) (e : Entry) (d : D) (T : Option Turn) (O : Option (List Held)) (F : Option (List (ℕ × Word)))
      → (let h : List Entry = e ∷ desk.history in let s' : FramesSeen = record s { history = option_map (extended e) s.history; turn = T; opened = O; found = F } in
      ((p : PageId) → home h p ≡ home desk.history p) → ((f : ℕ) → change h f ≡ change desk.history f)
      → ((p : PageId) (x : Dirty) → dirt_of (dirty h) p ≡ Some x → dirt_of (dirty desk.history) p ≡ Some x)
      → ((o : Opened) → IsBehind seen o desk s → IsBehind seen o (desk_of desk h d) s')
      → Ties s desk → Ties s' (desk_of desk h d))
  tied_on s desk e d T O F homes clocks dirts on t =
      let h : List Entry = e ∷ desk.history in
      let s' : FramesSeen = record s { history = option_map (extended e) s.history; turn = T; opened = O; found = F } in
      record {
        count = t.count;
        whole = t.whole;
        rows = λ f inside.
            let was = t.rows f inside in record {
              clock = was.clock ∙ sym (clocks f);
              unlatched = was.unlatched;
              resident = λ is. homes (row_at s f).page ∙ was.resident is;
              vacant = λ is p here. was.vacant is p (sym (homes p) ∙ here);
              there = was.there;
              sized = was.sized;
              told = was.told;
              bare = was.bare;
            };
        stamped = λ p f x here dirt. t.stamped p f x (sym (homes p) ∙ here) (dirts p x dirt);
        unvisited = t.unvisited;
        none_owed = t.none_owed;
        history = if_map (extended e) s.history (λ x. x ≡ history_of (desk_of desk h d))
            (if_is s.history (history_of desk) (λ x. extended e x ≡ history_of (desk_of desk h d)) t.history refl);
        known = λ f inside untold. let was = t.known f inside untold in (map_some (extended e) s.history was.0, was.1);
        shared = λ f inside none. let was = t.shared f inside none in (map_some (extended e) s.history was.0, was.1);
        own = λ is p f here. t.own (some_map (extended e) s.history is) p f (sym (homes p) ∙ here);
        valued = valued_on desk (desk_of desk h d) s s' s.base on t.valued;
      }

  pub tied_refused : (s : FramesSeen) (desk : State D) (by : Caller) (asked : Call) (why : Cause) → Ties s desk
      → Ties (appended s (next_entry desk by (kind.Refused asked why))) (desk_of desk (next_entry desk by (kind.Refused asked why) ∷ desk.history) desk.disk)
  tied_refused s desk by asked why t =
      let e : Entry = next_entry desk by (kind.Refused asked why) in
      tied_on s desk e desk.disk (appended s e).turn (appended s e).opened (appended s e).found (λ p. refl) (λ f. refl) (λ p x is. is)
      (λ o b. behind_rows seen o _ s (appended s e) refl refl (behind_answer seen o desk s e (refused_answer asked why) b)) t

  pub tied_cleaned : (s : FramesSeen) (desk : State D) (by : Caller) (n : ℕ) (skipped : Words) → Ties s desk
      → Ties (appended s (next_entry desk by (kind.Clean n skipped))) (desk_of desk (next_entry desk by (kind.Clean n skipped) ∷ desk.history) desk.disk)
  tied_cleaned s desk by n skipped t =
      let e : Entry = next_entry desk by (kind.Clean n skipped) in
      tied_on s desk e desk.disk (appended s e).turn (appended s e).opened (appended s e).found (λ p. refl) (λ f. refl) (λ p x is. is)
      (λ o b. behind_rows seen o _ s (appended s e) refl refl (behind_answer seen o desk s e (clean_answer n skipped) b)) t

  -- after a refusal, and after a clean
  pub refused_tied : (s t : FramesSeen) (old new : State D) (by : Caller) (asked : Call) (why : Cause) → IsAppended old new by (kind.Refused asked why) → new.disk ≡ old.disk
      → t ≡ appended s (next_entry old by (kind.Refused asked why)) → Ties s old → Ties t new
  refused_tied s t old new by asked why a disk shown tied =
      let e : Entry = next_entry old by (kind.Refused asked why) in
      subst (λ (x : FramesSeen). Ties x new) (sym shown)
      (subst (λ (x : State D). Ties (appended s e) x) (sym (desk_next old new by (kind.Refused asked why) a disk)) (tied_refused s old by asked why tied))

  pub cleaned_tied : (s t : FramesSeen) (old new : State D) (by : Caller) (n : ℕ) (skipped : Words) → IsAppended old new by (kind.Clean n skipped) → new.disk ≡ old.disk
      → t ≡ appended s (next_entry old by (kind.Clean n skipped)) → Ties s old → Ties t new
  cleaned_tied s t old new by n skipped a disk shown tied =
      let e : Entry = next_entry old by (kind.Clean n skipped) in
      subst (λ (x : FramesSeen). Ties x new) (sym shown)
      (subst (λ (x : State D). Ties (appended s e) x) (sym (desk_next old new by (kind.Clean n skipped) a disk)) (tied_cleaned s old by n skipped tied))

  pub refused_behind : (o : Opened) (s t : FramesSeen) (old new : State D) (by : Caller) (asked : Call) (why : Cause) → IsAppended old new by (kind.Refused asked why) → new.disk ≡ old.disk
      → t ≡ appended s (next_entry old by (kind.Refused asked why)) → IsBehind seen o old s → IsBehind seen o new t
  refused_behind o s t old new by asked why a disk shown b =
      let e : Entry = next_entry old by (kind.Refused asked why) in
      subst (λ (x : FramesSeen). IsBehind seen o new x) (sym shown)
      (subst (λ (x : State D). IsBehind seen o x (appended s e)) (sym (desk_next old new by (kind.Refused asked why) a disk))
      (behind_rows seen o (desk_of old (e ∷ old.history) old.disk) s (appended s e) refl refl (behind_answer seen o old s e (refused_answer asked why) b)))

  pub cleaned_behind : (o : Opened) (s t : FramesSeen) (old new : State D) (by : Caller) (n : ℕ) (skipped : Words) → IsAppended old new by (kind.Clean n skipped) → new.disk ≡ old.disk
      → t ≡ appended s (next_entry old by (kind.Clean n skipped)) → IsBehind seen o old s → IsBehind seen o new t
  cleaned_behind o s t old new by n skipped a disk shown b =
      let e : Entry = next_entry old by (kind.Clean n skipped) in
      subst (λ (x : FramesSeen). IsBehind seen o new x) (sym shown)
      (subst (λ (x : State D). IsBehind seen o x (appended s e)) (sym (desk_next old new by (kind.Clean n skipped) a disk))
      (behind_rows seen o (desk_of old (e ∷ old.history) old.disk) s (appended s e) refl refl (behind_answer seen o old s e (clean_answer n skipped) b)))

  -- the disk was synced
  pub synced_tied : (s : FramesSeen) (old new : State D) → new.config ≡ old.config → new.instance ≡ old.instance → new.history ≡ old.history
      → IsSameDisk (seen old.disk) (seen new.disk) → Ties s old → Ties s new
  synced_tied s old new config instance history same t =
      subst (λ (x : State D). Ties s x) (sym (desk_kept old new config instance history))
      (tied_disk s old new.disk (λ o b. behind_disk seen o old s new.disk same b) t)

  pub synced_behind : (o : Opened) (s : FramesSeen) (old new : State D) → new.config ≡ old.config → new.instance ≡ old.instance → new.history ≡ old.history
      → IsSameDisk (seen old.disk) (seen new.disk) → IsBehind seen o old s → IsBehind seen o new s
  synced_behind o s old new config instance history same b =
      subst (λ (x : State D). IsBehind seen o x s) (sym (desk_kept old new config instance history)) (behind_disk seen o old s new.disk same b)

  pub tied_written : (s : FramesSeen) (desk : State D) (by : Caller) (p : PageId) (lsn upto : ℕ) (d : D)
      → ((o : Opened) → IsBehind seen o desk s
      → IsBehind seen o (desk_of desk (next_entry desk by (kind.Write p lsn upto) ∷ desk.history) d) (appended s (next_entry desk by (kind.Write p lsn upto))))
      → Ties s desk → Ties (appended s (next_entry desk by (kind.Write p lsn upto))) (desk_of desk (next_entry desk by (kind.Write p lsn upto) ∷ desk.history) d)
  tied_written s desk by p lsn upto d on t =
      let e : Entry = next_entry desk by (kind.Write p lsn upto) in
      tied_on s desk e d (appended s e).turn (appended s e).opened (appended s e).found (λ q. refl) (λ f. refl)
      (λ q x is. still (same_page p q) (dirt_of (dirty desk.history) q) x (sym (cleaned_of (dirty desk.history) p q) ∙ is)) on t
    where
      still : (b : Bool) (was : Option Dirty) (x : Dirty) → cond b None was ≡ Some x → was ≡ Some x
      still true was x is = absurd (cc)
      still false was x is = is

  -- the image in the home of the page that was dirty first has the LSN of its last change
  pub first_lsn : (s : FramesSeen) (desk : State D) (x : Dirty) (rest : List Dirty) (f clock n : ℕ) (c : Content) → Ties s desk → dirty desk.history ≡ x ∷ rest
      → home desk.history x.page ≡ Some f → row_at s f ≡ settled x.page clock c n → c.lsn ≡ x.newest
  first_lsn s desk x rest f clock n c t first here row =
      let dirt : dirt_of (dirty desk.history) x.page ≡ Some x =
      ap (λ ds. dirt_of ds x.page) first ∙ ap (λ (b : Bool). cond b (Some x) (dirt_of rest x.page)) (same_self x.page) in
      let R : Row → Type 0 = λ r. OnTold r.image (λ c. c.lsn ≡ x.newest) in
      subst R row (t.stamped x.page f x here dirt)

  -- bytes of a page in a settled home were changed
  pub tied_put : (s : FramesSeen) (desk : State D) (by : Caller) (p : PageId) (f at : ℕ) (bytes : List ℕ) (start end clock n : ℕ) (c : Content)
      → f < length s.rows → f < desk.config.frames → home desk.history p ≡ Some f → row_at s f ≡ settled p clock c n → ((q : PageId) → home desk.history q ≡ Some f → q ≡ p)
      → length (patched c at bytes end).bytes ≡ page_bytes desk.config.page → Ties s desk
      → (let e : Entry = next_entry desk by (kind.Put p at bytes start end) in
      Ties (with_row (appended s e) f (settled p e.place (patched c at bytes end) n)) (desk_of desk (e ∷ desk.history) desk.disk))
  tied_put s desk by p f at bytes start end clock n c inside below here row only sized t = record {
    count = wide ∙ t.count;
    whole = omega (arith, wide, t.whole);
    rows = λ g within. dite (ℕ_discrete g f) (here_tied g) (there_tied g within);
    stamped = λ q g x there dirt. stamped q g x there dirt (same_page p q) refl;
    unvisited = t.unvisited;
    none_owed = t.none_owed;
    history = if_map (extended e) s.history (λ x. x ≡ history_of new)
        (if_is s.history (history_of desk) (λ x. extended e x ≡ history_of new) t.history refl);
    known = λ g within untold. dite (ℕ_discrete g f)
        (λ same. let no : Some (Some after) ≡ Some None = sym (ap (λ (r : Row). r.image) (row_now g same)) ∙ untold in absurd (cc))
        (λ other. let was = t.known g (omega (arith, within, wide)) (sym (ap (λ (r : Row). r.image) (row_there (appended s e) f g now other)) ∙ untold) in (map_some (extended e) s.history was.0, was.1));
    shared = λ g within none. dite (ℕ_discrete g f)
        (λ same. let no : Some n ≡ None = sym (ap (λ (r : Row). r.held) (row_now g same)) ∙ none in absurd (cc))
        (λ other. let was = t.shared g (omega (arith, within, wide)) (sym (ap (λ (r : Row). r.held) (row_there (appended s e) f g now other)) ∙ none) in (map_some (extended e) s.history was.0, was.1));
    own = λ is q g there. t.own (some_map (extended e) s.history is) q g there;
    valued = valued_on desk new s s' s.base (λ o b. behind_put seen o desk s by p f at bytes start end clock e.place n c inside here row only b) t.valued;
  }
    where
      e : Entry
      e = next_entry desk by (kind.Put p at bytes start end)

      after : Content
      after = patched c at bytes end

      now : Row
      now = settled p e.place after n

      s' : FramesSeen
      s' = with_row (appended s e) f now

      new : State D
      new = desk_of desk (e ∷ desk.history) desk.disk

      wide : length s'.rows ≡ length s.rows
      wide = length-set s.rows f now

      row_now : (g : ℕ) → g ≡ f → row_at s' g ≡ now
      row_now g same = ap (row_at s') same ∙ row_here (appended s e) f now inside

      here_tied : (g : ℕ) → g ≡ f → IsTied (page_bytes desk.config.page) desk.config.frames (e ∷ desk.history) (row_at s' g) g
      here_tied g same =
          let P : ℕ → Type 0 = λ x. IsTied (page_bytes desk.config.page) desk.config.frames (e ∷ desk.history) (row_at s' x) x in
          let R : Row → Type 0 = λ r. IsTied (page_bytes desk.config.page) desk.config.frames (e ∷ desk.history) r f in
          subst P (sym same) (subst R (sym (row_now f refl)) (record {
            clock = sym (change_put desk.history e p f at bytes start end refl here);
            unlatched = refl;
            resident = λ is. here;
            vacant = λ away. absurd (no_way away);
            there = λ is. refl;
            sized = sized;
            told = λ is away. absurd (no_way away);
            bare = λ past. absurd (omega (arith, past, below));
          }))

      there_tied : (g : ℕ) → g < length s'.rows → g ≢ f → IsTied (page_bytes desk.config.page) desk.config.frames (e ∷ desk.history) (row_at s' g) g
      there_tied g within other =
          let was = t.rows g (omega (arith, within, wide)) in
          let R : Row → Type 0 = λ r. IsTied (page_bytes desk.config.page) desk.config.frames (e ∷ desk.history) r g in
          subst R (sym (row_there (appended s e) f g now other)) (record {
            clock = was.clock ∙ sym (change_else desk.history e p f g at bytes start end refl here (λ same. other (sym same)));
            unlatched = was.unlatched;
            resident = was.resident;
            vacant = was.vacant;
            there = was.there;
            sized = was.sized;
            told = was.told;
            bare = was.bare;
          })

      newest : (o : Option Dirty) (x : Dirty) → IsSomeAnd o (λ d. (d.page ≡ p) × (d.newest ≡ end)) → o ≡ Some x → end ≡ x.newest
      newest None x is same = absurd is
      newest (Some d) x is same = let one : d ≡ x = cc in sym is.1 ∙ ap (λ (y : Dirty). y.newest) one

      stamped : (q : PageId) (g : ℕ) (x : Dirty) → home desk.history q ≡ Some g → dirt_of (dirtied p start end (dirty desk.history)) q ≡ Some x → (b : Bool) → same_page p q ≡ b
          → OnTold (row_at s' g).image (λ c. c.lsn ≡ x.newest)
      stamped q g x there dirt true same =
          let page : p ≡ q = same_is p q same in
          let homes : Some g ≡ Some f = sym there ∙ ap (home desk.history) (sym page) ∙ here in
          let frames : g ≡ f = cc in
          let R : Row → Type 0 = λ r. OnTold r.image (λ c. c.lsn ≡ x.newest) in
          let soiled : dirt_of (dirtied p start end (dirty desk.history)) p ≡ Some x = ap (dirt_of (dirtied p start end (dirty desk.history))) page ∙ dirt in
          subst R (sym (row_now g frames)) (newest (dirt_of (dirtied p start end (dirty desk.history)) p) x (dirtied_here (dirty desk.history) p start end) soiled)
      stamped q g x there dirt false other =
          let away : g ≢ f = λ same. no_way (sym (same_self p) ∙ ap (same_page p) (sym (only q (there ∙ ap (λ m. Some m) same))) ∙ other) in
          let R : Row → Type 0 = λ r. OnTold r.image (λ c. c.lsn ≡ x.newest) in
          subst R (sym (row_there (appended s e) f g now away)) (t.stamped q g x there (sym (dirtied_other (dirty desk.history) p q start end other) ∙ dirt))

  -- what a put leaves
  pub record IsPutKept (s s' : FramesSeen) (old new : State D) (by : Caller) (p : PageId) (at : ℕ) (bytes : List ℕ) (d : PutDone) : Type 0 where
    pub done : IsPutBy old new s.rows s'.rows by p at bytes d
    pub tied : Ties s' new
    pub behind : (o : Opened) → IsBehind seen o old s → IsBehind seen o new s'

  -- what the write of a page leaves
  pub record IsWriteKept (s s' : FramesSeen) (old new : State D) (by : Caller) : Type 0 where
    pub rows : s'.rows ≡ s.rows
    pub tied : Ties s' new
    pub turn : HasTurn s by → HasTurn s' by
    pub base : s'.base ≡ s.base
    pub behind : (o : Opened) → IsBehind seen o old s → IsBehind seen o new s'

  -- a page in its home, whose image was lifted under the latch
  module _ (s s1 : FramesSeen) (desk : State D) (by : Caller) (p : PageId) (f : ℕ) (image : Content) (t : Ties s desk) (alone : TellsAll s)
      (here : home desk.history p ≡ Some f) (below : f < desk.config.frames) (only : (q : PageId) → home desk.history q ≡ Some f → q ≡ p)
      (lifted : IsUncovered s f (Some (Some image))) (first : s1 ≡ with_row s f (in_hand (row_at s f))) where
    it : IsSettled (page_bytes desk.config.page) desk.history (row_at s f) p f
    it = home_row s desk p f t alone here below only

    abbrev clock : ℕ
    clock = change desk.history f

    within : f < length s.rows
    within = omega (arith, below, t.whole)

    image_is : image ≡ it.content
    image_is = uncovered s f clock it.held p it.content image it.row lifted

    -- the image after a put
    after_is : (at : ℕ) (bytes slice : List ℕ) (end : ℕ) (new : Content) → new ≡ patched image at slice end → slice ≡ bytes → new ≡ patched it.content at bytes end
    after_is at bytes slice end new is same = is ∙ ap (λ (l : List ℕ). patched image at l end) same ∙ ap (λ (x : Content). patched x at bytes end) image_is

    pub put_lay : (at : ℕ) (bytes slice : List ℕ) (start end : ℕ) (new : Content) (s2 : FramesSeen) → IsRange (page_bytes desk.config.page) at (length bytes)
        → new ≡ patched image at slice end → slice ≡ bytes → s2 ≡ appended s1 (next_entry desk by (kind.Put p at bytes start end)) → MayLay s2 f new
    put_lay at bytes slice start end new s2 body is same second =
        let e : Entry = next_entry desk by (kind.Put p at bytes start end) in
        let hand : FramesSeen = with_row s f (in_hand (row_at s f)) in
        let laid = lay_changed s desk p f clock it.held it.content t within here it.row by at bytes start end
        (length-changed (page_bytes desk.config.page) it.content at bytes end it.sized body) in
        subst (λ (x : FramesSeen). MayLay x f new) (sym (second ∙ ap (λ (x : FramesSeen). appended x e) first))
        (subst (λ (x : Content). MayLay (appended hand e) f x) (sym (after_is at bytes slice end new is same)) laid)

    pub put_kept : (at : ℕ) (bytes slice : List ℕ) (start end place : ℕ) (new : Content) (s2 s3 : FramesSeen) (desk' : State D)
        → IsRange (page_bytes desk.config.page) at (length bytes) → end ≡ start + 21 + length bytes → new ≡ patched image at slice end → slice ≡ bytes
        → place ≡ mark desk.config.first desk.history + 1 → s2 ≡ appended s1 (next_entry desk by (kind.Put p at bytes start end))
        → s3 ≡ with_row s2 f (unlatched_row (stamped_row (laid_row (row_at s2 f) new) place))
        → IsAppended desk desk' by (kind.Put p at bytes start end) → desk'.disk ≡ desk.disk
        → IsPutKept s s3 desk desk' by p at bytes (record { lsn = end; place = place })
    put_kept at bytes slice start end place new s2 s3 desk' body long is same when second third entry disk = record {
      done = record {
        frame = f;
        content = it.content;
        start = start;
        resident = here;
        image = (let U : Row → Type 0 = λ x. Uncovers x.image (Some (Some it.content)) in subst U (sym it.row) refl);
        lsn = long;
        place = when;
        entry = entry;
        rows_are = ap (λ (x : FramesSeen). x.rows) finally ∙ ap (λ (n : ℕ). slice_set s.rows f (settled p n after it.held)) (sym when)
            ∙ ap (λ (x : Row). slice_set s.rows f (changed_row x after place)) (sym it.row);
        disk = disk;
      };
      tied = subst (λ (x : FramesSeen). Ties x desk') (sym finally) (subst (λ (x : State D). Ties end_seen x) (sym desk_end)
          (tied_put s desk by p f at bytes start end clock it.held it.content within below here it.row only
          (length-changed (page_bytes desk.config.page) it.content at bytes end it.sized body) t));
      behind = λ o b.
          subst (λ (x : FramesSeen). IsBehind seen o desk' x) (sym finally) (subst (λ (x : State D). IsBehind seen o x end_seen) (sym desk_end)
          (behind_put seen o desk s by p f at bytes start end clock e.place it.held it.content within here it.row only b));
    }
      where
        e : Entry
        e = next_entry desk by (kind.Put p at bytes start end)

        after : Content
        after = patched it.content at bytes end

        end_seen : FramesSeen
        end_seen = with_row (appended s e) f (settled p e.place after it.held)

        finally : s3 ≡ end_seen
        finally = put_end s desk p f clock it.held it.content t within here it.row by at bytes start end place new s1 s2 s3 first second
            (after_is at bytes slice end new is same) when third

        desk_end : desk' ≡ desk_of desk (e ∷ desk.history) desk.disk
        desk_end = desk_next desk desk' by (kind.Put p at bytes start end) entry disk

    pub written_lsn : (x : Dirty) (rest : List Dirty) → dirty desk.history ≡ x ∷ rest → x.page ≡ p → image.lsn ≡ x.newest
    written_lsn x rest front page =
        let at_x : home desk.history x.page ≡ Some f = ap (home desk.history) page ∙ here in
        let row : row_at s f ≡ settled x.page clock it.content it.held = it.row ∙ ap (λ q. settled q clock it.content it.held) (sym page) in
        ap (λ (c : Content). c.lsn) image_is ∙ first_lsn s desk x rest f clock it.held it.content t front at_x row

    pub write_may : (lsn upto : ℕ) (mid : State D) → mid ≡ desk_of desk desk.history mid.disk → HasTurn s by → MayAppend s1 (next_entry mid by (kind.Write p lsn upto))
    write_may lsn upto mid still turn =
        let k : Kind = kind.Write p lsn upto in
        let may = hand_may s desk p f clock it.held it.content t within here it.row by k turn (λ is. (t.own is p f here, tt)) tt tt (any_open s.opened) refl in
        subst (λ (x : FramesSeen). MayAppend x (next_entry mid by k)) (sym first)
        (subst (λ (x : Entry). MayAppend (with_row s f (in_hand (row_at s f))) x) (sym (ap (λ (x : State D). next_entry x by k) still)) may)

    written_is : (lsn upto : ℕ) (mid : State D) (s2 : FramesSeen) → mid ≡ desk_of desk desk.history mid.disk → s2 ≡ appended s1 (next_entry mid by (kind.Write p lsn upto))
        → s2 ≡ appended (with_row s f (in_hand (row_at s f))) (next_entry desk by (kind.Write p lsn upto))
    written_is lsn upto mid s2 still second =
        let k : Kind = kind.Write p lsn upto in
        second ∙ ap (λ (x : FramesSeen). appended x (next_entry mid by k)) first
        ∙ ap (λ (x : State D). appended (with_row s f (in_hand (row_at s f))) (next_entry x by k)) still

    pub write_lay : (lsn upto : ℕ) (mid : State D) (s2 : FramesSeen) → mid ≡ desk_of desk desk.history mid.disk → s2 ≡ appended s1 (next_entry mid by (kind.Write p lsn upto))
        → MayLay s2 f image
    write_lay lsn upto mid s2 still second =
        subst (λ (x : FramesSeen). MayLay x f image) (sym (written_is lsn upto mid s2 still second))
        (subst (λ (x : Content). MayLay (appended (with_row s f (in_hand (row_at s f))) (next_entry desk by (kind.Write p lsn upto))) f x) (sym image_is)
        (lay_written s desk p f clock it.held it.content t within here it.row by lsn upto it.sized))

    pub write_clock : (lsn upto : ℕ) (mid : State D) (s2 : FramesSeen) → mid ≡ desk_of desk desk.history mid.disk → s2 ≡ appended s1 (next_entry mid by (kind.Write p lsn upto))
        → IfSome s2.history (λ h. (row_at s2 f).clock ≡ change h.entries f)
    write_clock lsn upto mid s2 still second =
        subst (λ (x : FramesSeen). IfSome x.history (λ h. (row_at x f).clock ≡ change h.entries f)) (sym (written_is lsn upto mid s2 still second))
        (clock_written s desk p f clock it.held it.content t within here it.row by lsn upto refl)

    pub write_kept : (lsn upto : ℕ) (mid desk' : State D) (s2 s3 : FramesSeen) → mid ≡ desk_of desk desk.history mid.disk
        → IsOtherwiseSame p (seen desk.disk) (seen mid.disk) → IsImageTold p image (seen desk.disk) (seen mid.disk) → ((seen mid.disk).tells ≡ false → (seen mid.disk).told p ≡ None)
        → s2 ≡ appended s1 (next_entry mid by (kind.Write p lsn upto)) → s3 ≡ with_row s2 f (unlatched_row (laid_row (row_at s2 f) image))
        → IsAppended mid desk' by (kind.Write p lsn upto) → desk'.disk ≡ mid.disk → IsWriteKept s s3 desk desk' by
    write_kept lsn upto mid desk' s2 s3 still others written silent second third entry disk = record {
      rows = ap (λ (x : FramesSeen). x.rows) finally;
      tied = subst (λ (x : FramesSeen). Ties x desk') (sym finally) (subst (λ (x : State D). Ties (appended s e) x) (sym desk_end) (tied_written s desk by p lsn upto mid.disk on t));
      turn = λ turn. subst (λ (x : FramesSeen). HasTurn x by) (sym finally) (turn_kept (turn_after k) s.turn by (λ x. refl) turn);
      base = ap (λ (x : FramesSeen). x.base) finally;
      behind = λ o b.
          subst (λ (x : FramesSeen). IsBehind seen o desk' x) (sym finally) (subst (λ (x : State D). IsBehind seen o x (appended s e)) (sym desk_end) (on o b));
    }
      where
        k : Kind
        k = kind.Write p lsn upto

        e : Entry
        e = next_entry desk by k

        finally : s3 ≡ appended s e
        finally = write_end s desk p f clock it.held it.content t within here it.row by lsn upto image s1 s2 s3 first
            (second ∙ ap (λ (x : State D). appended s1 (next_entry x by k)) still) image_is third

        desk_end : desk' ≡ desk_of desk (e ∷ desk.history) mid.disk
        desk_end = desk_next mid desk' by k entry disk ∙ ap (λ (x : State D). desk_of x (next_entry x by k ∷ x.history) mid.disk) still

        page : IsPage p written.bytes it.content
        page = subst (λ (x : Content). IsPage p written.bytes x) image_is written.page

        on : (o : Opened) → IsBehind seen o desk s → IsBehind seen o (desk_of desk (e ∷ desk.history) mid.disk) (appended s e)
        on o b = behind_write seen o desk s by mid.disk p f lsn upto clock it.held it.content written.bytes here it.row page others written.tells_it silent b

    pub fail_kept : (mid : State D) (s2 : FramesSeen) → mid ≡ desk_of desk desk.history mid.disk → is_dirty desk.history p ≡ true
        → IsOtherwiseSame p (seen desk.disk) (seen mid.disk) → Fades ((seen desk.disk).told p) ((seen mid.disk).told p)
        → s2 ≡ with_row s1 f (unlatched_row (laid_row (row_at s1 f) image)) → IsWriteKept s s2 desk mid by
    fail_kept mid s2 still dirt others fades second = record {
      rows = ap (λ (x : FramesSeen). x.rows) finally;
      tied = subst (λ (x : FramesSeen). Ties x mid) (sym finally) (subst (λ (x : State D). Ties s x) (sym still) (tied_disk s desk mid.disk on t));
      turn = λ turn. subst (λ (x : FramesSeen). HasTurn x by) (sym finally) turn;
      base = ap (λ (x : FramesSeen). x.base) finally;
      behind = λ o b.
          subst (λ (x : FramesSeen). IsBehind seen o mid x) (sym finally) (subst (λ (x : State D). IsBehind seen o x s) (sym still) (on o b));
    }
      where
        finally : s2 ≡ s
        finally = fail_end s desk p f clock it.held it.content t within here it.row image s1 s2 first image_is second

        on : (o : Opened) → IsBehind seen o desk s → IsBehind seen o (desk_of desk desk.history mid.disk) s
        on o b = behind_failed seen o desk s mid.disk p dirt others fades b
