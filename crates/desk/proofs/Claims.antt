-- Frames that are tied to a desk, while a page leaves its frame.
use Rattle.std.proofs.Common.{◌≡◌, ◌^◌, ◌<◌, ℕ, Bool, true, false, cond, not, ◌&&◌, List, ◌∷◌, Option, Some, None, length, get_or, set, length-set, refl, ap, ◌∙◌, sym, subst, IfSome, IsSome, IsSomeAnd, arith}
use Rattle.std.specs.Prelude.{MatchOption}
use Rattle.std.specs.Option.{is_some, option_map}
use Rattle.std.proofs.lemmas.List.{get_or-set_same, get_or-set_other, set-set, set-get_or}
use mathlib.Core.Logic.{dite}
use native.Mathlib.Decide.{ℕ_discrete}
use Rattle.page_ids.specs.Content.{Content}
use Rattle.page_ids.specs.Layout.{IsPage}
use Rattle.page_ids.specs.Same.{same_page}
use Rattle.page_ids.specs.Size.{page_bytes}
use Rattle.page_ids.specs.declared.config.Config.{Config}
use Rattle.page_ids.specs.declared.frame_word.Word.{Word}
use Rattle.page_ids.specs.declared.ids.PageId.{PageId}
use Rattle.page_disk.specs.Disks.{DiskSeen, Fades, IsOtherwiseSame}
use Rattle.trail.specs.Words.{words_told}
use Rattle.trail.specs.declared.event.Call.{Call}
use Rattle.trail.specs.declared.event.Cause.{Cause}
use Rattle.trail.specs.declared.event.Dirty.{Dirty}
use Rattle.trail.specs.declared.event.Entry.{Entry}
use Rattle.trail.specs.declared.event.Kind.{Kind}
use Rattle.trail.specs.declared.event.Kind.TheVariants as kind
use Rattle.trail.specs.Book.{book, frame_in_turn}
use Rattle.trail.specs.History.{value, home, change}
use Rattle.trail.specs.Dirt.{dirty, dirt_of, is_dirty}
use Rattle.frame_words.specs.Appends.{appended, extended, AreReady, FitsHomes, FitsOpen, pages_named}
use Rattle.frame_words.specs.Conditions.{IsUncovered, IsItsImage, MayAppend, IsNext, ArePublished, AreOurs, AreFound, MayPublish}
use Rattle.frame_words.specs.Rows.{Row, Uncovers, reached, claimed_row, published_row, lifted_row, laid_row, new_row}
use Rattle.frame_words.specs.Seen.{FramesSeen, History, row_at, with_row}
use Rattle.desk.specs.Base.{Opened}
use Rattle.desk.specs.Behind.{IsBehind, IsValueIn}
use Rattle.desk.specs.Claimed.{HasLooked, AreTiedBut}
use Rattle.desk.specs.State.{State}
use Rattle.desk.specs.Steps.{IsAppended, next_entry}
use Rattle.desk.specs.Tied.{AreTied, IsTied, OnTold, HasTurn}
use Rattle.desk.specs.Victims.{IsRowSettled}
use Rattle.desk.specs.declared.calls.Caller.{Caller}
use Rattle.trail.proofs.DirtyPages.{newest_value}
use Rattle.instance_lists.proofs.Dirt.{no_way, same_is, same_self, cleaned_of}
use Rattle.desk.proofs.BehindParts.{refused_still}
use Rattle.desk.proofs.PassedWords.{each_some, at_some}
use Rattle.desk.proofs.Values.{desk_of, entry_at, value_in, behind_frames, behind_parts, behind_quiet, behind_evict, behind_wrote, behind_unwritten}

pub some_is : {A : Type 0} (o : Option A) → IsSome o → (x : A) × (o ≡ Some x)
some_is None is = absurd (no_way (sym is))
some_is (Some x) is = (x, refl)

pub mapped_same : {A : Type 0} (o : Option A) → option_map (λ x. x) o ≡ o
mapped_same None = refl
mapped_same (Some x) = refl

mapped_some : {A : Type 0} (f : A → A) (o : Option A) → IsSome o → IsSome (option_map f o)
mapped_some f None is = is
mapped_some f (Some x) is = refl

some_mapped : {A : Type 0} (f : A → A) (o : Option A) → IsSome (option_map f o) → IsSome o
some_mapped f None is = is
some_mapped f (Some x) is = refl

same_homes : (a b : ℕ) → Some a ≡ Some b → a ≡ b
same_homes a b e = cc

-- a page's home is resident
pub resident_at : (size frames : ℕ) (h : List Entry) (r : Row) (f : ℕ) (p : PageId) → IsTied size frames h r f → home h p ≡ Some f → r.resident ≡ true
resident_at size frames h r f p tied here = go r.resident refl
  where
    go : (b : Bool) → r.resident ≡ b → r.resident ≡ true
    go true is = is
    go false is = absurd (tied.vacant is p here)

-- a row is as tied to a history with the same homes and the same change of the frame
tied_row : (size frames : ℕ) (h k : List Entry) (r : Row) (f : ℕ) → change k f ≡ change h f → ((q : PageId) → home k q ≡ home h q) → IsTied size frames h r f → IsTied size frames k r f
tied_row size frames h k r f changed homes t = record {
  clock = t.clock ∙ sym changed;
  unlatched = t.unlatched;
  resident = λ is. homes r.page ∙ t.resident is;
  vacant = λ is q here. t.vacant is q (sym (homes q) ∙ here);
  there = t.there;
  sized = t.sized;
  told = t.told;
  bare = t.bare;
}

reached_some : (held : Option ℕ) (b : Bool) (c : Content) → IsSome (reached held b (Some (Some c)))
reached_some (Some n) b c = refl
reached_some None true c = refl
reached_some None false c = refl

reached_on : (held : Option ℕ) (b : Bool) (c : Content) (P : Content → Type 0) → P c → OnTold (reached held b (Some (Some c))) P
reached_on (Some n) b c P is = is
reached_on None true c P is = tt
reached_on None false c P is = is

reached_untold : (held : Option ℕ) (b : Bool) (c : Content) → reached held b (Some (Some c)) ≡ Some None → held ≡ None
reached_untold (Some n) b c is = absurd (cc)
reached_untold None b c is = refl

reached_value : (o : Opened) (s : FramesSeen) (held : Option ℕ) (b : Bool) (c : Content) (v : Option Content) → s.base ≡ Some o.base → v ≡ Some c → IsValueIn o s (reached held b (Some (Some c))) v
reached_value o s (Some n) b c v base is = is
reached_value o s None true c v base is = (base, ap is_some is)
reached_value o s None false c v base is = is

told_is : (image : Option (Option Content)) → IsSomeAnd image (λ told. IsSome told) → (c : Content) × (image ≡ Some (Some c))
told_is None is = absurd is
told_is (Some None) is = absurd (no_way (sym is))
told_is (Some (Some c)) is = (c, refl)

left_home : (b : Bool) (before : Option ℕ) (g : ℕ) → cond b None before ≡ Some g → before ≡ Some g
left_home true before g is = absurd (cc)
left_home false before g is = is

clean_dirt : (b : Bool) (o : Option Dirty) (d : Dirty) → cond b None o ≡ Some d → o ≡ Some d
clean_dirt true o d is = absurd (cc)
clean_dirt false o d is = is

abbrev pub history_of : {D : Type 0} → State D → History
history_of desk = record { config = desk.config; instance = desk.instance; entries = desk.history }

history_on : (o : Option History) (c : Config) (n : ℕ) (h : List Entry) (e : Entry) → IfSome o (λ x. x ≡ record { config = c; instance = n; entries = h })
    → IfSome (option_map (extended e) o) (λ x. x ≡ record { config = c; instance = n; entries = e ∷ h })
history_on None c n h e is = tt
history_on (Some x) c n h e is = ap (extended e) is

pub row_here : (rows : List Row) (f : ℕ) (r : Row) → f < length rows → get_or (set rows f r) f new_row ≡ r
row_here rows f r inside = get_or-set_same rows f r new_row inside

pub row_there : (rows : List Row) (f g : ℕ) (r : Row) → (g ≡ f → ⊥) → get_or (set rows f r) g new_row ≡ get_or rows g new_row
row_there rows f g r ne = get_or-set_other rows f g r new_row ne

-- a page is clean behind its write
pub written_clean : (h : List Entry) (p : PageId) (place caller number lsn upto : ℕ) → is_dirty (entry_at place caller number (kind.Write p lsn upto) ∷ h) p ≡ false
written_clean h p place caller number lsn upto = ap (is_some {T = Dirty}) (cleaned_of (dirty h) p p ∙ ap (λ (b : Bool). cond b None (dirt_of (dirty h) p)) (same_self p))

-- the desk with another disk
abbrev pub on_disk : {D : Type 0} → State D → D → State D
on_disk desk d = desk_of desk.config desk.instance desk.history d

module _ {D : Type 0} (seen : D → DiskSeen) where
  abbrev Tied : FramesSeen → State D → Type 0
  Tied s desk = AreTied seen s desk

  abbrev But : FramesSeen → State D → PageId → ℕ → Type 0
  But s desk p f = AreTiedBut seen s desk p f

  abbrev Valued : FramesSeen → State D → Type 0
  Valued s desk = IfSome s.base (λ base. (o : Opened) × (o.base ≡ base) × IsBehind seen o desk s)

  valued_on : (s t : FramesSeen) (desk new : State D) → t.base ≡ s.base
      → ((o : Opened) → s.base ≡ Some o.base → IsBehind seen o desk s → IsBehind seen o new t) → Valued s desk → Valued t new
  valued_on s t desk new base on v = each_some t.base (λ b. (o : Opened) × (o.base ≡ b) × IsBehind seen o new t) (λ b is.
      let was = at_some s.base (λ b. (o : Opened) × (o.base ≡ b) × IsBehind seen o desk s) b v (sym base ∙ is) in
      (was.0, was.1, on was.0 (sym base ∙ is ∙ ap (λ (x : PageId → Option Content). Some x) (sym was.1)) was.2))

  -- a desk is its parts
  pub desk_is : (new : State D) (c : Config) (n : ℕ) (h : List Entry) (d : D) → new.config ≡ c → new.instance ≡ n → new.history ≡ h → new.disk ≡ d → new ≡ desk_of c n h d
  desk_is new c n h d config instance history disk =
      ap (λ (x : Config). desk_of x new.instance new.history new.disk) config
      ∙ ap (λ (x : ℕ). desk_of c x new.history new.disk) instance
      ∙ ap (λ (x : List Entry). desk_of c n x new.disk) history
      ∙ ap (λ (x : D). desk_of c n h x) disk

  tied_found : (s : FramesSeen) (found : Option (List (ℕ × Word))) (desk : State D) → Tied s desk → Tied (record s { found = found }) desk
  tied_found s found desk t = record {
    count = t.count;
    whole = t.whole;
    rows = t.rows;
    stamped = t.stamped;
    unvisited = t.unvisited;
    none_owed = t.none_owed;
    history = t.history;
    known = t.known;
    shared = t.shared;
    own = t.own;
    valued = valued_on s (record s { found = found }) desk desk refl (λ o is b. behind_frames seen o desk s (record s { found = found }) refl refl b) t.valued;
  }

  -- a look leaves the ties
  pub tied_looked : (s t : FramesSeen) (desk : State D) → HasLooked s t → Tied s desk → Tied t desk
  tied_looked s t desk looked tied = subst (λ (u : FramesSeen). Tied u desk) (sym looked.is) (tied_found s looked.found desk tied)

  pub behind_looked : (o : Opened) (s t : FramesSeen) (desk : State D) → HasLooked s t → IsBehind seen o desk s → IsBehind seen o desk t
  behind_looked o s t desk looked b = behind_frames seen o desk s t (ap (λ (u : FramesSeen). u.rows) looked.is) (ap (λ (u : FramesSeen). u.base) looked.is) b

  -- what is known of the image of a page whose frame is claimed
  pub record HasImage (s : FramesSeen) (desk : State D) (p : PageId) (image : Option (Option Content)) : Type 0 where
    pub content : Content
    pub is : image ≡ Some (Some content)
    pub sized : length content.bytes ≡ page_bytes desk.config.page
    pub lsn : (d : Dirty) → dirt_of (dirty desk.history) p ≡ Some d → content.lsn ≡ d.newest
    pub value_is : (o : Opened) → IsBehind seen o desk s → value o.size o.base desk.history p ≡ Some content

  pub claimed_image : (s : FramesSeen) (desk : State D) (p : PageId) (f : ℕ) (image : Option (Option Content)) → Tied s desk → home desk.history p ≡ Some f
      → ((q : PageId) → home desk.history q ≡ Some f → q ≡ p) → f < desk.config.frames → IsUncovered s f image → HasImage s desk p image
  claimed_image s desk p f image tied here alone below un = go (row_at s f).image refl
    where
      inside : f < length s.rows
      inside = let whole = tied.whole in omega (arith, whole, below)

      row : IsTied (page_bytes desk.config.page) desk.config.frames desk.history (row_at s f) f
      row = tied.rows f inside

      resident : (row_at s f).resident ≡ true
      resident = resident_at (page_bytes desk.config.page) desk.config.frames desk.history (row_at s f) f p row here

      page_is : (row_at s f).page ≡ p
      page_is = alone (row_at s f).page (row.resident resident)

      go : (i : Option (Option Content)) → (row_at s f).image ≡ i → HasImage s desk p image
      go None is = absurd (no_way (sym (ap is_some (sym is) ∙ row.there below)))
      go (Some (Some c)) is = record {
        content = c;
        is = subst (λ (x : Option (Option Content)). Uncovers x image) is un.told;
        sized = subst (λ (x : Option (Option Content)). OnTold x (λ c. length c.bytes ≡ page_bytes desk.config.page)) is row.sized;
        lsn = λ d there. subst (λ (x : Option (Option Content)). OnTold x (λ c. c.lsn ≡ d.newest)) is (tied.stamped p f d here there);
        value_is = λ o b. subst (λ (x : Option (Option Content)). IsValueIn o s x (value o.size o.base desk.history p)) is (b.values p f here);
      }
      go (Some None) is =
          let c = told_is image (subst (λ (x : Option (Option Content)). Uncovers x image) is un.told) in
          let known = tied.known f inside is in
          let h = some_is s.history known.0 in
          let base = some_is s.base known.1 in
          let same : h.0 ≡ history_of desk = at_some s.history (λ x. x ≡ history_of desk) h.0 tied.history h.1 in
          let its_then : IsItsImage s h.0 (row_at s f).page image = at_some s.history (λ x. IsItsImage s x (row_at s f).page image) h.0 (un.its resident) h.1 in
          let its : IsItsImage s (history_of desk) p image = subst (λ (q : PageId). IsItsImage s (history_of desk) q image) page_is (subst (λ (x : History). IsItsImage s x (row_at s f).page image) same its_then) in
          let value_then : image ≡ Some (value (page_bytes desk.config.page) base.0 desk.history p) = at_some s.base (λ b. image ≡ Some (value (page_bytes desk.config.page) b desk.history p)) base.0 its.valued base.1 in
          let both : Some (Some c.0) ≡ Some (value (page_bytes desk.config.page) base.0 desk.history p) = sym c.1 ∙ value_then in
          let value_now : value (page_bytes desk.config.page) base.0 desk.history p ≡ Some c.0 = cc in
          record {
            content = c.0;
            is = c.1;
            sized = subst (λ (x : Option (Option Content)). IsSomeAnd x (λ told. IsSomeAnd told (λ c. length c.bytes ≡ page_bytes desk.config.page))) c.1 its.sized;
            lsn = λ d there. newest_value (page_bytes desk.config.page) base.0 desk.history p d c.0 there value_now;
            value_is = λ o b.
                let in_it = subst (λ (x : Option (Option Content)). IsValueIn o s x (value o.size o.base desk.history p)) is (b.values p f here) in
                let bases : Some base.0 ≡ Some o.base = sym base.1 ∙ in_it.0 in
                let base_is : base.0 ≡ o.base = cc in
                ap (λ (n : ℕ). value n o.base desk.history p) (sym b.size) ∙ ap (λ (x : PageId → Option Content). value (page_bytes desk.config.page) x desk.history p) (sym base_is) ∙ value_now;
          }

  behind_claimed : (o : Opened) (s : FramesSeen) (desk : State D) (p : PageId) (f : ℕ) (r : Row) (c : Content) → f < length s.rows → ((q : PageId) → home desk.history q ≡ Some f → q ≡ p)
      → r.image ≡ Some (Some c) → value o.size o.base desk.history p ≡ Some c → IsBehind seen o desk s → IsBehind seen o desk (with_row s f r)
  behind_claimed o s desk p f r c inside alone image value_is b = record {
    size = b.size;
    pages = b.pages;
    based = b.based;
    telling = b.telling;
    values = λ q g at. dite (ℕ_discrete g f)
        (λ same.
        let met : q ≡ p = alone q (at ∙ ap (λ (n : ℕ). Some n) same) in
        let here : (row_at (with_row s f r) g).image ≡ Some (Some c) = ap (λ (n : ℕ). (row_at (with_row s f r) n).image) same ∙ ap (λ (x : Row). x.image) (row_here s.rows f r inside) ∙ image in
        let is : value o.size o.base desk.history q ≡ Some c = ap (value o.size o.base desk.history) met ∙ value_is in
        subst (λ (x : Option (Option Content)). IsValueIn o (with_row s f r) x (value o.size o.base desk.history q)) (sym here) is)
        (λ other.
        let there : (row_at (with_row s f r) g).image ≡ (row_at s g).image = ap (λ (x : Row). x.image) (row_there s.rows f g r other) in
        subst (λ (x : Option (Option Content)). IsValueIn o (with_row s f r) x (value o.size o.base desk.history q)) (sym there)
        (value_in o s (with_row s f r) (row_at s g).image (value o.size o.base desk.history q) refl (b.values q g at)));
    written = b.written;
    unwritten = b.unwritten;
    clean = b.clean;
    valued = b.valued;
  }

  pub behind_claim : (o : Opened) (s : FramesSeen) (desk : State D) (p : PageId) (f : ℕ) (image : Option (Option Content)) → Tied s desk → f < desk.config.frames
      → ((q : PageId) → home desk.history q ≡ Some f → q ≡ p) → HasImage s desk p image → IsBehind seen o desk s
      → IsBehind seen o desk (with_row s f (claimed_row (row_at s f) image))
  behind_claim o s desk p f image tied below alone has b =
      behind_claimed o s desk p f (claimed_row (row_at s f) image) has.content (let whole = tied.whole in omega (arith, whole, below)) alone has.is (has.value_is o b) b

  -- a page's frame was claimed
  pub tied_claim : (s : FramesSeen) (desk : State D) (p : PageId) (f : ℕ) (image : Option (Option Content)) → Tied s desk → home desk.history p ≡ Some f
      → ((q : PageId) → home desk.history q ≡ Some f → q ≡ p) → f < desk.config.frames → frame_in_turn (book desk.config desk.history) ≡ None → (book desk.config desk.history).area ≡ None
      → HasImage s desk p image → But (with_row s f (claimed_row (row_at s f) image)) desk p f
  tied_claim s desk p f image tied housed alone below none_free no_area has = record {
    count = length-set s.rows f now ∙ tied.count;
    whole = let long = length-set s.rows f now in let whole = tied.whole in omega (arith, long, whole);
    housed = housed;
    alone = alone;
    below = below;
    none_free = none_free;
    no_area = no_area;
    rows = λ g l other. subst (λ (r : Row). IsTied (page_bytes desk.config.page) desk.config.frames desk.history r g) (sym (row_there s.rows f g now other)) (tied.rows g (let long = length-set s.rows f now in omega (arith, l, long)));
    away = ap (λ (r : Row). r.resident) here;
    unlatched = ap (λ (r : Row). r.latched) here ∙ row.unlatched;
    clock = ap (λ (r : Row). r.clock) here ∙ row.clock;
    content = has.content;
    image = ap (λ (r : Row). r.image) here ∙ has.is;
    sized = has.sized;
    shared = λ g l none. dite (ℕ_discrete g f)
        (λ same. tied.shared f inside (sym (ap (λ (r : Row). r.held) here) ∙ sym (ap (λ (m : ℕ). (row_at t m).held) same) ∙ none))
        (λ other. tied.shared g (let long = length-set s.rows f now in omega (arith, l, long)) (sym (ap (λ (r : Row). r.held) (row_there s.rows f g now other)) ∙ none));
    stamped = λ q g d at there. dite (ℕ_discrete g f)
        (λ same.
        let met : q ≡ p = alone q (at ∙ ap (λ (n : ℕ). Some n) same) in
        let next : (row_at t g).image ≡ Some (Some has.content) = ap (λ (n : ℕ). (row_at t n).image) same ∙ ap (λ (r : Row). r.image) here ∙ has.is in
        subst (λ (x : Option (Option Content)). OnTold x (λ c. c.lsn ≡ d.newest)) (sym next) (has.lsn d (ap (dirt_of (dirty desk.history)) (sym met) ∙ there)))
        (λ other. subst (λ (r : Row). OnTold r.image (λ c. c.lsn ≡ d.newest)) (sym (row_there s.rows f g now other)) (tied.stamped q g d at there));
    unvisited = tied.unvisited;
    none_owed = tied.none_owed;
    history = tied.history;
    known = λ g l untold. dite (ℕ_discrete g f)
        (λ same.
        let next : (row_at t g).image ≡ Some (Some has.content) = ap (λ (n : ℕ). (row_at t n).image) same ∙ ap (λ (r : Row). r.image) here ∙ has.is in
        let bad : Some (Some has.content) ≡ Some None = sym next ∙ untold in
        absurd (cc))
        (λ other. tied.known g (let long = length-set s.rows f now in omega (arith, l, long)) (sym (ap (λ (r : Row). r.image) (row_there s.rows f g now other)) ∙ untold));
    own = tied.own;
    valued = valued_on s t desk desk refl (λ o is b. behind_claim o s desk p f image tied below alone has b) tied.valued;
  }
    where
      now : Row
      now = claimed_row (row_at s f) image

      t : FramesSeen
      t = with_row s f now

      inside : f < length s.rows
      inside = let whole = tied.whole in omega (arith, whole, below)

      row : IsTied (page_bytes desk.config.page) desk.config.frames desk.history (row_at s f) f
      row = tied.rows f inside

      here : row_at t f ≡ now
      here = row_here s.rows f now inside

  -- a page left the frame that was claimed
  pub tied_evict : (s : FramesSeen) (c : Config) (n : ℕ) (h : List Entry) (d : D) (p : PageId) (f place caller number : ℕ) (passed : List (ℕ × Word)) → But s (desk_of c n h d) p f
      → Tied (appended s (entry_at place caller number (kind.Evict p f passed))) (desk_of c n (entry_at place caller number (kind.Evict p f passed) ∷ h) d)
  tied_evict s c n h d p f place caller number passed but = record {
    count = but.count;
    whole = but.whole;
    rows = λ g l. dite (ℕ_discrete g f)
        (λ same. subst (λ (m : ℕ). IsTied (page_bytes c.page) c.frames (e ∷ h) (row_at s m) m) (sym same) here)
        (λ other. there g other (but.rows g l other));
    stamped = λ q g x at dirt. but.stamped q g x (left_home (same_page p q) (home h q) g at) dirt;
    unvisited = but.unvisited;
    none_owed = but.none_owed;
    history = history_on s.history c n h e but.history;
    known = λ g l untold. let known = but.known g l untold in (mapped_some (extended e) s.history known.0, known.1);
    shared = λ g l none. let known = but.shared g l none in (mapped_some (extended e) s.history known.0, known.1);
    own = λ is q g at. but.own (some_mapped (extended e) s.history is) q g (left_home (same_page p q) (home h q) g at);
    valued = valued_on s t (desk_of c n h d) (desk_of c n (e ∷ h) d) refl
        (λ o is b. behind_frames seen o (desk_of c n (e ∷ h) d) s t refl refl (behind_evict seen o c n h d s place caller number p f passed b)) but.valued;
  }
    where
      e : Entry
      e = entry_at place caller number (kind.Evict p f passed)

      t : FramesSeen
      t = appended s e

      gone : (q : PageId) → home (e ∷ h) q ≡ Some f → ⊥
      gone q at =
          let met : q ≡ p = but.alone q (left_home (same_page p q) (home h q) f at) in
          let none : home (e ∷ h) q ≡ None = ap (λ (r : PageId). home (e ∷ h) r) met ∙ ap (λ (b : Bool). cond b None (home h p)) (same_self p) in
          let bad : None ≡ Some f = sym none ∙ at in
          absurd (cc)

      here : IsTied (page_bytes c.page) c.frames (e ∷ h) (row_at s f) f
      here = record {
        clock = but.clock;
        unlatched = but.unlatched;
        resident = λ is. absurd (no_way (sym is ∙ but.away));
        vacant = λ is. gone;
        there = λ l. ap is_some but.image;
        sized = subst (λ (x : Option (Option Content)). OnTold x (λ c'. length c'.bytes ≡ page_bytes c.page)) (sym but.image) but.sized;
        told = λ l is. subst (λ (x : Option (Option Content)). IsSomeAnd x (λ told. IsSome told)) (sym but.image) refl;
        bare = λ l. let below = but.below in absurd (omega (arith, l, below));
      }

      there : (g : ℕ) → (g ≡ f → ⊥) → IsTied (page_bytes c.page) c.frames h (row_at s g) g → IsTied (page_bytes c.page) c.frames (e ∷ h) (row_at s g) g
      there g other was = record {
        clock = was.clock;
        unlatched = was.unlatched;
        resident = λ is. stays (same_page p (row_at s g).page) refl (was.resident is);
        vacant = λ is q at. was.vacant is q (left_home (same_page p q) (home h q) g at);
        there = was.there;
        sized = was.sized;
        told = was.told;
        bare = was.bare;
      }
        where
          stays : (b : Bool) → same_page p (row_at s g).page ≡ b → home h (row_at s g).page ≡ Some g → cond b None (home h (row_at s g).page) ≡ Some g
          stays false is at = at
          stays true is at =
              let met : home h p ≡ Some g = ap (home h) (same_is p (row_at s g).page is) ∙ at in
              let homes : Some g ≡ Some f = sym met ∙ but.housed in
              absurd (other (same_homes g f homes))

  -- the page in the claimed frame was written
  pub but_wrote : (s : FramesSeen) (c : Config) (n : ℕ) (h : List Entry) (d e : D) (p : PageId) (f place caller number lsn upto : ℕ) (bytes : List ℕ) → (but : But s (desk_of c n h d) p f)
      → IsPage p bytes but.content → IsOtherwiseSame p (seen d) (seen e) → ((seen d).tells ≡ true → (seen e).told p ≡ Some bytes) → ((seen e).tells ≡ false → (seen e).told p ≡ None)
      → But (appended s (entry_at place caller number (kind.Write p lsn upto))) (desk_of c n (entry_at place caller number (kind.Write p lsn upto) ∷ h) e) p f
  but_wrote s c n h d e p f place caller number lsn upto bytes but page others ok silent = record {
    count = but.count;
    whole = but.whole;
    housed = but.housed;
    alone = but.alone;
    below = but.below;
    none_free = but.none_free;
    no_area = but.no_area;
    rows = λ g l other. tied_row (page_bytes c.page) c.frames h (w ∷ h) (row_at s g) g refl (λ q. refl) (but.rows g l other);
    away = but.away;
    unlatched = but.unlatched;
    clock = but.clock;
    content = but.content;
    image = but.image;
    sized = but.sized;
    shared = λ g l none. let known = but.shared g l none in (mapped_some (extended w) s.history known.0, known.1);
    stamped = λ q g x at dirt. but.stamped q g x at (clean_dirt (same_page p q) (dirt_of (dirty h) q) x (sym (cleaned_of (dirty h) p q) ∙ dirt));
    unvisited = but.unvisited;
    none_owed = but.none_owed;
    history = history_on s.history c n h w but.history;
    known = λ g l untold. let known = but.known g l untold in (mapped_some (extended w) s.history known.0, known.1);
    own = λ is. but.own (some_mapped (extended w) s.history is);
    valued = valued_on s t (desk_of c n h d) (desk_of c n (w ∷ h) e) refl
        (λ o is b. behind_frames seen o (desk_of c n (w ∷ h) e) s t refl refl
        (behind_wrote seen o c n h s d e place caller number p lsn upto but.content bytes
        (subst (λ (x : Option (Option Content)). IsValueIn o s x (value o.size o.base h p)) but.image (b.values p f but.housed)) page others ok silent b)) but.valued;
  }
    where
      w : Entry
      w = entry_at place caller number (kind.Write p lsn upto)

      t : FramesSeen
      t = appended s w

  -- the write failed
  pub but_unwritten : (s : FramesSeen) (c : Config) (n : ℕ) (h : List Entry) (d e : D) (p : PageId) (f : ℕ) → is_dirty h p ≡ true
      → IsOtherwiseSame p (seen d) (seen e) → Fades ((seen d).told p) ((seen e).told p) → But s (desk_of c n h d) p f → But s (desk_of c n h e) p f
  but_unwritten s c n h d e p f dirty_is others fades but = record {
    count = but.count;
    whole = but.whole;
    housed = but.housed;
    alone = but.alone;
    below = but.below;
    none_free = but.none_free;
    no_area = but.no_area;
    rows = but.rows;
    away = but.away;
    unlatched = but.unlatched;
    clock = but.clock;
    content = but.content;
    image = but.image;
    sized = but.sized;
    shared = but.shared;
    stamped = but.stamped;
    unvisited = but.unvisited;
    none_owed = but.none_owed;
    history = but.history;
    known = but.known;
    own = but.own;
    valued = valued_on s s (desk_of c n h d) (desk_of c n h e) refl (λ o is b. behind_unwritten seen o c n h s d e p dirty_is others fades b) but.valued;
  }

  -- the claimed frame is the page's again
  pub tied_back : (s : FramesSeen) (desk : State D) (p : PageId) (f : ℕ) → But s desk p f → Tied (with_row s f (published_row (row_at s f) p (row_at s f).clock)) desk
  tied_back s desk p f but = record {
    count = length-set s.rows f now ∙ but.count;
    whole = let long = length-set s.rows f now in let whole = but.whole in omega (arith, long, whole);
    rows = λ g l. dite (ℕ_discrete g f)
        (λ same. subst (λ (m : ℕ). IsTied (page_bytes desk.config.page) desk.config.frames desk.history (row_at t m) m) (sym same) (subst (λ (r : Row). IsTied (page_bytes desk.config.page) desk.config.frames desk.history r f) (sym here) again))
        (λ other. subst (λ (r : Row). IsTied (page_bytes desk.config.page) desk.config.frames desk.history r g) (sym (row_there s.rows f g now other)) (but.rows g (let long = length-set s.rows f now in omega (arith, l, long)) other));
    stamped = λ q g x at dirt. dite (ℕ_discrete g f)
        (λ same.
        let met : q ≡ p = but.alone q (at ∙ ap (λ (m : ℕ). Some m) same) in
        let lsn : but.content.lsn ≡ x.newest = subst (λ (i : Option (Option Content)). OnTold i (λ c. c.lsn ≡ x.newest)) but.image (but.stamped p f x but.housed (ap (dirt_of (dirty desk.history)) (sym met) ∙ dirt)) in
        subst (λ (m : ℕ). OnTold (row_at t m).image (λ c. c.lsn ≡ x.newest)) (sym same) (subst (λ (i : Option (Option Content)). OnTold i (λ c. c.lsn ≡ x.newest)) (sym image_is) (reached_on (row_at s f).held among but.content (λ c. c.lsn ≡ x.newest) lsn)))
        (λ other. subst (λ (r : Row). OnTold r.image (λ c. c.lsn ≡ x.newest)) (sym (row_there s.rows f g now other)) (but.stamped q g x at dirt));
    unvisited = but.unvisited;
    none_owed = but.none_owed;
    history = but.history;
    known = λ g l untold. dite (ℕ_discrete g f)
        (λ same. but.shared f inside (reached_untold (row_at s f).held among but.content (sym image_is ∙ ap (λ (m : ℕ). (row_at t m).image) (sym same) ∙ untold)))
        (λ other. but.known g (let long = length-set s.rows f now in omega (arith, l, long)) (sym (ap (λ (r : Row). r.image) (row_there s.rows f g now other)) ∙ untold));
    shared = λ g l none. dite (ℕ_discrete g f)
        (λ same. but.shared f inside (sym (ap (λ (r : Row). r.held) here) ∙ sym (ap (λ (m : ℕ). (row_at t m).held) same) ∙ none))
        (λ other. but.shared g (let long = length-set s.rows f now in omega (arith, l, long)) (sym (ap (λ (r : Row). r.held) (row_there s.rows f g now other)) ∙ none));
    own = but.own;
    valued = valued_on s t desk desk refl back but.valued;
  }
    where
      now : Row
      now = published_row (row_at s f) p (row_at s f).clock

      among : Bool
      among = true && not (row_at s f).latched

      t : FramesSeen
      t = with_row s f now

      inside : f < length s.rows
      inside = let whole = but.whole in let below = but.below in omega (arith, whole, below)

      here : row_at t f ≡ now
      here = row_here s.rows f now inside

      image_is : (row_at t f).image ≡ reached (row_at s f).held among (Some (Some but.content))
      image_is = ap (λ (r : Row). r.image) here ∙ ap (reached (row_at s f).held among) but.image

      now_image : now.image ≡ reached (row_at s f).held among (Some (Some but.content))
      now_image = ap (reached (row_at s f).held among) but.image

      again : IsTied (page_bytes desk.config.page) desk.config.frames desk.history now f
      again = record {
        clock = but.clock;
        unlatched = but.unlatched;
        resident = λ is. but.housed;
        vacant = λ is. absurd (no_way is);
        there = λ l. ap is_some now_image ∙ reached_some (row_at s f).held among but.content;
        sized = subst (λ (i : Option (Option Content)). OnTold i (λ c. length c.bytes ≡ page_bytes desk.config.page)) (sym now_image) (reached_on (row_at s f).held among but.content (λ c. length c.bytes ≡ page_bytes desk.config.page) but.sized);
        told = λ l is. absurd (no_way is);
        bare = λ l. let below = but.below in absurd (omega (arith, l, below));
      }

      back : (o : Opened) → s.base ≡ Some o.base → IsBehind seen o desk s → IsBehind seen o desk t
      back o base b = record {
        size = b.size;
        pages = b.pages;
        based = b.based;
        telling = b.telling;
        values = λ q g at. dite (ℕ_discrete g f)
            (λ same.
            let met : q ≡ p = but.alone q (at ∙ ap (λ (m : ℕ). Some m) same) in
            let is : value o.size o.base desk.history p ≡ Some but.content = subst (λ (x : Option (Option Content)). IsValueIn o s x (value o.size o.base desk.history p)) but.image (b.values p f but.housed) in
            let next : value o.size o.base desk.history q ≡ Some but.content = ap (value o.size o.base desk.history) met ∙ is in
            subst (λ (m : ℕ). IsValueIn o t (row_at t m).image (value o.size o.base desk.history q)) (sym same)
            (subst (λ (x : Option (Option Content)). IsValueIn o t x (value o.size o.base desk.history q)) (sym image_is)
            (reached_value o t (row_at s f).held among but.content (value o.size o.base desk.history q) base next)))
            (λ other.
            let there : (row_at t g).image ≡ (row_at s g).image = ap (λ (r : Row). r.image) (row_there s.rows f g now other) in
            subst (λ (x : Option (Option Content)). IsValueIn o t x (value o.size o.base desk.history q)) (sym there)
            (value_in o s t (row_at s g).image (value o.size o.base desk.history q) refl (b.values q g at)));
        written = b.written;
        unwritten = b.unwritten;
        clean = b.clean;
        valued = b.valued;
      }

  -- a refusal was appended
  pub tied_refused : (s : FramesSeen) (c : Config) (n : ℕ) (h : List Entry) (d : D) (asked : Call) (place caller number : ℕ) (why : Cause) → Tied s (desk_of c n h d)
      → Tied (appended s (entry_at place caller number (kind.Refused asked why))) (desk_of c n (entry_at place caller number (kind.Refused asked why) ∷ h) d)
  tied_refused s c n h d asked place caller number why tied = record {
    count = tied.count;
    whole = tied.whole;
    rows = λ g l. tied_row (page_bytes c.page) c.frames h (e ∷ h) (row_at s g) g refl (λ q. refl) (tied.rows g l);
    stamped = tied.stamped;
    unvisited = tied.unvisited;
    none_owed = tied.none_owed;
    history = history_on s.history c n h e tied.history;
    known = λ g l untold. let known = tied.known g l untold in (mapped_some (extended e) s.history known.0, known.1);
    shared = λ g l none. let known = tied.shared g l none in (mapped_some (extended e) s.history known.0, known.1);
    own = λ is. tied.own (some_mapped (extended e) s.history is);
    valued = valued_on s t (desk_of c n h d) (desk_of c n (e ∷ h) d) refl
        (λ o is b. behind_frames seen o (desk_of c n (e ∷ h) d) s t refl refl (behind_quiet seen o c n h d s e (refused_still asked why) b)) tied.valued;
  }
    where
      e : Entry
      e = entry_at place caller number (kind.Refused asked why)

      t : FramesSeen
      t = appended s e

  -- what an entry needs that comes next
  pub may_append : (s : FramesSeen) (desk : State D) (by : Caller) (k : Kind) → AreReady s k → IfSome s.history (λ h. h ≡ history_of desk) → HasTurn s by → s.owed ≡ None → ArePublished s desk.history
      → (IsSome s.history → AreOurs (history_of desk) (pages_named k)) → FitsHomes s desk.history k → IfSome s.opened (λ opened. FitsOpen opened k) → IfSome s.found (λ found. AreFound found (words_told k))
      → MayAppend s (next_entry desk by k)
  may_append s desk by k ready told_is turn owed published ours homes opened words = record {
    frames = ready;
    next = each_some s.history (λ h. IfSome s.turn (λ t. IsNext s h t (next_entry desk by k))) (λ h is.
        let same : h ≡ history_of desk = at_some s.history (λ h. h ≡ history_of desk) h told_is is in
        each_some s.turn (λ t. IsNext s h t (next_entry desk by k)) (λ t at.
        let has = at_some s.turn (λ t. (t.caller ≡ by.pass) × (t.number ≡ by.number)) t turn at in
        subst (λ (x : History). IsNext s x t (next_entry desk by k)) (sym same) (record {
          place = refl;
          caller = sym has.0;
          number = sym has.1;
          published = published;
          created = owed;
          ours = ours (ap is_some is);
          homes = homes;
          opened = opened;
          words = words;
        })));
  }

  pub published_tied : (s : FramesSeen) (desk : State D) → Tied s desk → ArePublished s desk.history
  published_tied s desk tied p f inside here away = absurd ((tied.rows f inside).vacant away p here)

  pub published_but : (s : FramesSeen) (desk : State D) (p : PageId) (f : ℕ) → But s desk p f → ArePublished s desk.history
  published_but s desk p f but q g inside here away = dite (ℕ_discrete g f)
      (λ same. ap (λ (m : ℕ). (row_at s m).clock) same ∙ but.clock ∙ ap (change desk.history) (sym same))
      (λ other. absurd ((but.rows g inside other).vacant away q here))

  -- the frame may be given back to its page
  pub may_publish : (s : FramesSeen) (desk : State D) (p : PageId) (f clock : ℕ) → But s desk p f → clock ≡ (row_at s f).clock → clock < 2 ^ 48 → MayPublish s f p clock
  may_publish s desk p f clock but is early = record {
    inside = let whole = but.whole in let below = but.below in omega (arith, whole, below);
    away = but.away;
    laid = ap is_some but.image;
    early = early;
    home_is = each_some s.history (λ h. (home h.entries p ≡ Some f) × (clock ≡ change h.entries f)) (λ h at.
        let same : h ≡ history_of desk = at_some s.history (λ h. h ≡ history_of desk) h but.history at in
        subst (λ (x : History). (home x.entries p ≡ Some f) × (clock ≡ change x.entries f)) (sym same) (but.housed, is ∙ but.clock));
    value_is = each_some s.history (λ h. IfSome s.base (λ base. (row_at s f).image ≡ Some (value (page_bytes h.config.page) base h.entries p))) (λ h at.
        let same : h ≡ history_of desk = at_some s.history (λ h. h ≡ history_of desk) h but.history at in
        subst (λ (x : History). IfSome s.base (λ base. (row_at s f).image ≡ Some (value (page_bytes x.config.page) base x.entries p))) (sym same)
        (each_some s.base (λ base. (row_at s f).image ≡ Some (value (page_bytes desk.config.page) base desk.history p)) (λ base there.
        let was = at_some s.base (λ b. (o : Opened) × (o.base ≡ b) × IsBehind seen o desk s) base but.valued there in
        let is : value was.0.size was.0.base desk.history p ≡ Some but.content = subst (λ (x : Option (Option Content)). IsValueIn was.0 s x (value was.0.size was.0.base desk.history p)) but.image (was.2.values p f but.housed) in
        let now : value (page_bytes desk.config.page) base desk.history p ≡ Some but.content =
        ap (λ (m : ℕ). value m base desk.history p) was.2.size ∙ ap (λ (b : PageId → Option Content). value was.0.size b desk.history p) (sym was.1) ∙ is in
        but.image ∙ ap (λ (v : Option Content). Some v) (sym now))));
  }

  -- the same of a desk and frames after each call
  pub gone_tied : (s t : FramesSeen) (old new : State D) (by : Caller) (p : PageId) (f : ℕ) (passed : List (ℕ × Word)) → But s old p f → IsAppended old new by (kind.Evict p f passed) → new.disk ≡ old.disk
      → t ≡ appended s (next_entry old by (kind.Evict p f passed)) → Tied t new
  gone_tied s t old new by p f passed but a disk shown =
      let e = next_entry old by (kind.Evict p f passed) in
      subst (λ (u : FramesSeen). Tied u new) (sym shown)
      (subst (λ (x : State D). Tied (appended s e) x) (sym (desk_is new old.config old.instance (e ∷ old.history) old.disk a.config a.instance a.history disk))
      (tied_evict s old.config old.instance old.history old.disk p f e.place by.pass by.number passed but))

  pub gone_behind : (o : Opened) (s t : FramesSeen) (old new : State D) (by : Caller) (p : PageId) (f : ℕ) (passed : List (ℕ × Word)) → IsAppended old new by (kind.Evict p f passed) → new.disk ≡ old.disk
      → t ≡ appended s (next_entry old by (kind.Evict p f passed)) → IsBehind seen o old s → IsBehind seen o new t
  gone_behind o s t old new by p f passed a disk shown b =
      let e = next_entry old by (kind.Evict p f passed) in
      behind_frames seen o new s t (ap (λ (u : FramesSeen). u.rows) shown) (ap (λ (u : FramesSeen). u.base) shown)
      (behind_parts seen o new s old.config old.instance (e ∷ old.history) old.disk a.config a.instance a.history disk
      (behind_evict seen o old.config old.instance old.history old.disk s e.place by.pass by.number p f passed b))

  pub refused_tied : (s t : FramesSeen) (old new : State D) (by : Caller) (asked : Call) (why : Cause) → Tied s old → IsAppended old new by (kind.Refused asked why) → new.disk ≡ old.disk
      → t ≡ appended s (next_entry old by (kind.Refused asked why)) → Tied t new
  refused_tied s t old new by asked why tied a disk shown =
      let e = next_entry old by (kind.Refused asked why) in
      subst (λ (u : FramesSeen). Tied u new) (sym shown)
      (subst (λ (x : State D). Tied (appended s e) x) (sym (desk_is new old.config old.instance (e ∷ old.history) old.disk a.config a.instance a.history disk))
      (tied_refused s old.config old.instance old.history old.disk asked e.place by.pass by.number why tied))

  pub refused_behind : (o : Opened) (s : FramesSeen) (old new : State D) (by : Caller) (asked : Call) (why : Cause) → IsAppended old new by (kind.Refused asked why) → new.disk ≡ old.disk
      → IsBehind seen o old s → IsBehind seen o new s
  refused_behind o s old new by asked why a disk b =
      let e = next_entry old by (kind.Refused asked why) in
      behind_parts seen o new s old.config old.instance (e ∷ old.history) old.disk a.config a.instance a.history disk
      (behind_quiet seen o old.config old.instance old.history old.disk s e (refused_still asked why) b)

  pub wrote_but : (s t : FramesSeen) (old mid new : State D) (by : Caller) (p : PageId) (f lsn upto : ℕ) (bytes : List ℕ) → (but : But s old p f) → mid ≡ on_disk old mid.disk
      → IsPage p bytes but.content → IsOtherwiseSame p (seen old.disk) (seen mid.disk) → ((seen old.disk).tells ≡ true → (seen mid.disk).told p ≡ Some bytes) → ((seen mid.disk).tells ≡ false → (seen mid.disk).told p ≡ None)
      → IsAppended mid new by (kind.Write p lsn upto) → new.disk ≡ mid.disk → t ≡ appended s (next_entry mid by (kind.Write p lsn upto)) → But t new p f
  wrote_but s t old mid new by p f lsn upto bytes but kept page others ok silent a disk shown =
      let e = next_entry (on_disk old mid.disk) by (kind.Write p lsn upto) in
      let added : IsAppended (on_disk old mid.disk) new by (kind.Write p lsn upto) = subst (λ (m : State D). IsAppended m new by (kind.Write p lsn upto)) kept a in
      let looks : t ≡ appended s e = shown ∙ ap (λ (m : State D). appended s (next_entry m by (kind.Write p lsn upto))) kept in
      subst (λ (u : FramesSeen). But u new p f) (sym looks)
      (subst (λ (x : State D). But (appended s e) x p f) (sym (desk_is new old.config old.instance (e ∷ old.history) mid.disk added.config added.instance added.history disk))
      (but_wrote s old.config old.instance old.history old.disk mid.disk p f e.place by.pass by.number lsn upto bytes but page others ok silent))

  pub wrote_behind : (o : Opened) (s t : FramesSeen) (old mid new : State D) (by : Caller) (p : PageId) (f lsn upto : ℕ) (bytes : List ℕ) → (but : But s old p f) → mid ≡ on_disk old mid.disk
      → IsPage p bytes but.content → IsOtherwiseSame p (seen old.disk) (seen mid.disk) → ((seen old.disk).tells ≡ true → (seen mid.disk).told p ≡ Some bytes) → ((seen mid.disk).tells ≡ false → (seen mid.disk).told p ≡ None)
      → IsAppended mid new by (kind.Write p lsn upto) → new.disk ≡ mid.disk → t ≡ appended s (next_entry mid by (kind.Write p lsn upto)) → IsBehind seen o old s → IsBehind seen o new t
  wrote_behind o s t old mid new by p f lsn upto bytes but kept page others ok silent a disk shown b =
      let e = next_entry (on_disk old mid.disk) by (kind.Write p lsn upto) in
      let added : IsAppended (on_disk old mid.disk) new by (kind.Write p lsn upto) = subst (λ (m : State D). IsAppended m new by (kind.Write p lsn upto)) kept a in
      let is : value o.size o.base old.history p ≡ Some but.content = subst (λ (x : Option (Option Content)). IsValueIn o s x (value o.size o.base old.history p)) but.image (b.values p f but.housed) in
      behind_frames seen o new s t (ap (λ (u : FramesSeen). u.rows) shown) (ap (λ (u : FramesSeen). u.base) shown)
      (behind_parts seen o new s old.config old.instance (e ∷ old.history) mid.disk added.config added.instance added.history disk
      (behind_wrote seen o old.config old.instance old.history s old.disk mid.disk e.place by.pass by.number p lsn upto but.content bytes is page others ok silent b))

  pub unwritten_but : (s : FramesSeen) (old new : State D) (p : PageId) (f : ℕ) → is_dirty old.history p ≡ true → new ≡ on_disk old new.disk
      → IsOtherwiseSame p (seen old.disk) (seen new.disk) → Fades ((seen old.disk).told p) ((seen new.disk).told p) → But s old p f → But s new p f
  unwritten_but s old new p f dirty_is kept others fades but =
      subst (λ (x : State D). But s x p f) (sym kept) (but_unwritten s old.config old.instance old.history old.disk new.disk p f dirty_is others fades but)

  pub unwritten_behind : (o : Opened) (s : FramesSeen) (old new : State D) (p : PageId) → is_dirty old.history p ≡ true → new ≡ on_disk old new.disk
      → IsOtherwiseSame p (seen old.disk) (seen new.disk) → Fades ((seen old.disk).told p) ((seen new.disk).told p) → IsBehind seen o old s → IsBehind seen o new s
  unwritten_behind o s old new p dirty_is kept others fades b =
      subst (λ (x : State D). IsBehind seen o x s) (sym kept) (behind_unwritten seen o old.config old.instance old.history s old.disk new.disk p dirty_is others fades b)

-- an image that was lifted is laid back
pub laid_back : (s : FramesSeen) (f : ℕ) (c : Content) → f < length s.rows → (row_at s f).image ≡ Some (Some c)
    → with_row (with_row s f (lifted_row (row_at s f))) f (laid_row (row_at (with_row s f (lifted_row (row_at s f))) f) c) ≡ s
laid_back s f c inside is =
    let up = lifted_row (row_at s f) in
    let make = λ (rows : List Row). let t : FramesSeen = record s { rows = rows } in t in
    let again : laid_row (get_or (set s.rows f up) f new_row) c ≡ row_at s f =
    ap (λ (r : Row). laid_row r c) (row_here s.rows f up inside) ∙ ap (λ (i : Option (Option Content)). let r : Row = record (row_at s f) { image = i } in r) (sym is) in
    ap make (set-set s.rows f up (laid_row (get_or (set s.rows f up) f new_row) c) ∙ ap (set s.rows f) again ∙ set-get_or s.rows f new_row)

-- a claimed row that is published at its clock is as before
pub row_back : (r : Row) (image : Option (Option Content)) (p : PageId) (clock : ℕ) → r.resident ≡ true → r.latched ≡ false → r.page ≡ p → r.clock ≡ clock → IsRowSettled r → IsSome r.image → Uncovers r.image image
    → published_row (claimed_row r image) p clock ≡ r
row_back r image p clock resident latched page clock_is settled there un =
    let make = λ (a : Bool) (b : ℕ) (q : PageId) (i : Option (Option Content)). let x : Row = record { resident = a; clock = b; page = q; latched = r.latched; image = i; held = r.held } in x in
    ap (λ (i : Option (Option Content)). make true clock p i) (ap (λ (b : Bool). reached r.held (true && not b) image) latched ∙ back r.held r.image image settled there un)
    ∙ ap (λ (a : Bool). make a clock p r.image) (sym resident)
    ∙ ap (λ (n : ℕ). make r.resident n p r.image) (sym clock_is)
    ∙ ap (λ (q : PageId). make r.resident r.clock q r.image) (sym page)
  where
    told_same : (x : Option (Option Content)) (i : Option (Option Content)) → IsSome x → IfSome x (λ told. IsSome told) → Uncovers x i → i ≡ x
    told_same None i some told u = u
    told_same (Some None) i some told u = absurd (no_way (sym told))
    told_same (Some (Some c)) i some told u = u

    untold_same : (x : Option (Option Content)) (i : Option (Option Content)) → IsSome x → IfSome x (λ told. told ≡ None) → Uncovers x i → option_map Rattle.frame_words.specs.Rows.untold i ≡ x
    untold_same None i some un u = absurd (no_way (sym some))
    untold_same (Some (Some c)) i some un u = absurd (cc)
    untold_same (Some None) i some un u = ap (option_map Rattle.frame_words.specs.Rows.untold) (told_is i u).1

    back : (held : Option ℕ) (x : Option (Option Content)) (i : Option (Option Content)) → MatchOption held (IfSome x (λ told. told ≡ None)) (λ n. IfSome x (λ told. IsSome told)) → IsSome x → Uncovers x i → reached held true i ≡ x
    back (Some n) x i set some u = told_same x i some set u
    back None x i set some u = untold_same x i some set u
