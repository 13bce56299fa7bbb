-- What each entry leaves of a worker's fixes.
use Rattle.std.proofs.Common.{◌≡◌, ℕ, Bool, true, false, cond, List, [], ◌∷◌, ◌<◌, Option, Some, None, refl, ap, ◌∙◌, sym, subst, inl, inr}
use Rattle.page_ids.specs.Same.{same_page}
use Rattle.page_ids.specs.declared.config.Config.{Config}
use Rattle.page_ids.specs.declared.frame_word.Word.{Word}
use Rattle.page_ids.specs.declared.ids.PageId.{PageId}
use Rattle.page_disk.specs.Disks.{DiskSeen}
use Rattle.trail.specs.declared.event.Entry.{Entry}
use Rattle.trail.specs.declared.event.Held.{Held}
use Rattle.trail.specs.declared.event.Kind.{Kind}
use Rattle.trail.specs.declared.event.Kind.TheVariants as kind
use Rattle.trail.specs.History.{home}
use Rattle.trail.specs.Calls.{newest_fix}
use Rattle.frame_words.specs.Plain.{Plain}
use Rattle.frame_words.specs.Rows.{Row, claimed_row}
use Rattle.instance_lists.specs.Ledger.{IsVacant}
use Rattle.desk.specs.Ledger.{entry_behind}
use Rattle.desk.specs.State.{State}
use Rattle.desk.specs.Steps.{row_in}
use Rattle.desk.specs.Victims.{IsHad, IsEvicted, IsCleanedFirst}
use Rattle.script_run.specs.Work.{Working, AreHoused, AreHeld, AreInChunk, AreHomesApart, IsWorkerReady}
use Rattle.script_run.proofs.Fixes.{one_page, same_self}
use Rattle.script_run.proofs.Framing.{held_kept}
use Rattle.script_run.proofs.Growing.{me}
use Rattle.script_run.proofs.Having.{victim_free}
use Rattle.script_run.proofs.Values.{Leaves, write_leaves}

abbrev entry_of : ℕ → ℕ → ℕ → Kind → Entry
entry_of place caller number k = record { place = place; caller = caller; number = number; kind = k }

-- homes and fixes fit at this history
pub record Stays (config : Config) (h : List Entry) (rows : List Row) (fixed : List Held) : Type 0 where
  pub homes : AreInChunk config h
  pub apart : AreHomesApart h
  pub housed : AreHoused h fixed
  pub held : AreHeld rows fixed

pub stays_ready : {D : Type 0} (seen : D → DiskSeen) (desk : State D) (frames : Plain) (fixed : List Held) → IsWorkerReady seen desk frames fixed → Stays desk.config desk.history frames.rows fixed
stays_ready seen desk frames fixed ready = record { homes = ready.homes; apart = ready.apart; housed = ready.housed; held = ready.held }

pub stays_rows : (config : Config) (h : List Entry) (rows more : List Row) (fixed : List Held) → AreHeld more fixed → Stays config h rows fixed → Stays config h more fixed
stays_rows config h rows more fixed held was = record { homes = was.homes; apart = was.apart; housed = was.housed; held = held }

pub stays_at : (config other : Config) (h new : List Entry) (rows : List Row) (fixed : List Held) → other ≡ config → new ≡ h → Stays config h rows fixed → Stays other new rows fixed
stays_at config other h new rows fixed same grown was =
    let S : Config → List Entry → Type 0 = λ c l. Stays c l rows fixed in subst (λ c. S c new) (sym same) (subst (λ l. S config l) (sym grown) was)

housed_quiet : (h : List Entry) (e : Entry) (held : List Held) → Leaves e.kind → AreHoused h held → AreHoused (e ∷ h) held
housed_quiet h e [] leaves was = tt
housed_quiet h e (x ∷ held) leaves was = (leaves.homes x.page (home h x.page) ∙ was.0, housed_quiet h e held leaves was.1)

pub stays_quiet : (config : Config) (h : List Entry) (e : Entry) (rows : List Row) (fixed : List Held) → Leaves e.kind → Stays config h rows fixed → Stays config (e ∷ h) rows fixed
stays_quiet config h e rows fixed leaves was =
    let back : (p : PageId) (f : ℕ) → home (e ∷ h) p ≡ Some f → home h p ≡ Some f = λ p f here. sym (leaves.homes p (home h p)) ∙ here in
    record {
      homes = λ p f here. was.homes p f (back p f here);
      apart = λ p q f a b. was.apart p q f (back p f a) (back q f b);
      housed = housed_quiet h e fixed leaves was.housed;
      held = was.held;
    }

other_home : (b : Bool) (h : List Entry) (p q : PageId) (f g : ℕ) → same_page p q ≡ b → home h p ≡ None → home h q ≡ Some g → cond b (Some f) (home h q) ≡ Some g
other_home true h p q f g test absent here = let bad : None ≡ Some g = sym absent ∙ ap (home h) (one_page p q test) ∙ here in absurd (cc)
other_home false h p q f g test absent here = here

housed_load : (h : List Entry) (e : Entry) (p : PageId) (f : ℕ) (held : List Held) → e.kind ≡ kind.Load p f → home h p ≡ None → AreHoused h held → AreHoused (entry_of e.place e.caller e.number (kind.Load p f) ∷ h) held
housed_load h e p f [] is absent was = tt
housed_load h e p f (x ∷ held) is absent was = (other_home (same_page p x.page) h p x.page f x.frame refl absent was.0, housed_load h e p f held is absent was.1)

load_test : (b : Bool) (f g n : ℕ) (found : Option ℕ) → cond b (Some f) found ≡ Some g → f < n → (found ≡ Some g → g < n) → g < n
load_test true f g n found here below more = let same : f ≡ g = cc in subst (λ (k : ℕ). k < n) same below
load_test false f g n found here below more = more here

apart_load : (h : List Entry) (p q r : PageId) (f g : ℕ) (a b : Bool) → IsVacant h f → same_page p q ≡ a → same_page p r ≡ b → cond a (Some f) (home h q) ≡ Some g → cond b (Some f) (home h r) ≡ Some g
    → (home h q ≡ Some g → home h r ≡ Some g → q ≡ r) → q ≡ r
apart_load h p q r f g true true vacant s t here there more = sym (one_page p q s) ∙ one_page p r t
apart_load h p q r f g true false vacant s t here there more = absurd (vacant r (there ∙ sym here))
apart_load h p q r f g false true vacant s t here there more = absurd (vacant q (here ∙ sym there))
apart_load h p q r f g false false vacant s t here there more = more here there

pub stays_load : (config : Config) (h : List Entry) (place caller number : ℕ) (p : PageId) (f : ℕ) (rows : List Row) (fixed : List Held) → home h p ≡ None → IsVacant h f → f < config.frames
    → Stays config h rows fixed → Stays config (entry_of place caller number (kind.Load p f) ∷ h) rows fixed
stays_load config h place caller number p f rows fixed absent vacant below was = record {
  homes = λ q g here. load_test (same_page p q) f g config.frames (home h q) here below (was.homes q g);
  apart = λ q r g a b. apart_load h p q r f g (same_page p q) (same_page p r) vacant refl refl a b (was.apart q r g);
  housed = housed_load h (entry_of place caller number (kind.Load p f)) p f fixed refl absent was.housed;
  held = was.held;
}

gone_test : (b : Bool) (found : Option ℕ) (g : ℕ) → cond b None found ≡ Some g → found ≡ Some g
gone_test true found g here = absurd (cc)
gone_test false found g here = here

not_held : (q : PageId) (x : Held) (held : List Held) (b : Bool) → same_page q x.page ≡ b → cond (same_page x.page q) (Some x) (newest_fix held q) ≡ None → (b ≡ false) × (newest_fix held q ≡ None)
not_held q x held true test none =
    let same : same_page x.page q ≡ true = ap (λ p. same_page p q) (sym (one_page q x.page test)) ∙ same_self q in
    let bad : Some x ≡ None = sym (ap (λ (b : Bool). cond b (Some x) (newest_fix held q)) same) ∙ none in absurd (cc)
not_held q x held false test none = (refl, rest (same_page x.page q) none)
  where
    rest : (b : Bool) → cond b (Some x) (newest_fix held q) ≡ None → newest_fix held q ≡ None
    rest true e = absurd (cc)
    rest false e = e

housed_evict : (h : List Entry) (place caller number : ℕ) (q : PageId) (f : ℕ) (passed : List (ℕ × Word)) (held : List Held) → newest_fix held q ≡ None → AreHoused h held
    → AreHoused (entry_of place caller number (kind.Evict q f passed) ∷ h) held
housed_evict h place caller number q f passed [] none was = tt
housed_evict h place caller number q f passed (x ∷ held) none was =
    let apart = not_held q x held (same_page q x.page) refl none in
    (ap (λ (b : Bool). cond b None (home h x.page)) apart.0 ∙ was.0, housed_evict h place caller number q f passed held apart.1 was.1)

pub stays_evict : (config : Config) (h : List Entry) (place caller number : ℕ) (q : PageId) (f : ℕ) (passed : List (ℕ × Word)) (rows : List Row) (fixed : List Held) → newest_fix fixed q ≡ None
    → Stays config h rows fixed → Stays config (entry_of place caller number (kind.Evict q f passed) ∷ h) rows fixed
stays_evict config h place caller number q f passed rows fixed none was = record {
  homes = λ p g here. was.homes p g (gone_test (same_page q p) (home h p) g here);
  apart = λ p r g a b. was.apart p r g (gone_test (same_page q p) (home h p) g a) (gone_test (same_page q r) (home h r) g b);
  housed = housed_evict h place caller number q f passed fixed none was.housed;
  held = was.held;
}

stays_cleaned : {D : Type 0} (old : State D) (w : Working) (q : PageId) (mid : List Entry) (rows : List Row) → IsCleanedFirst old.config.first (me w) q old.history mid
    → Stays old.config old.history rows w.fixed → Stays old.config mid rows w.fixed
stays_cleaned old w q mid rows (inl (clean, same)) was = stays_at old.config old.config old.history mid rows w.fixed refl same was
stays_cleaned old w q mid rows (inr back) was =
    let x : Entry = entry_behind old.config.first old.history (me w) (kind.Write q back.dirt.newest back.upto) in
    stays_at old.config old.config (x ∷ old.history) mid rows w.fixed refl back.entry (stays_quiet old.config old.history x rows w.fixed (write_leaves q back.dirt.newest back.upto) was)

stays_evicted : {D : Type 0} {cleared : List Row} (seen : D → DiskSeen) (old had : State D) (frames : Plain) (w : Working) (f : ℕ) → IsWorkerReady seen old frames w.fixed → IsEvicted old had frames.rows cleared (me w) f
    → Stays had.config had.history cleared w.fixed
stays_evicted {D} {cleared} seen old had frames w f ready evicted =
    let x : Entry = entry_behind old.config.first evicted.mid (me w) (kind.Evict evicted.page f evicted.passed) in
    let R : List Row → Type 0 = λ rows. AreHeld rows w.fixed in
    let held : AreHeld cleared w.fixed = subst R (sym evicted.rows_are) (held_kept frames.rows w.fixed f (claimed_row (row_in frames.rows f) evicted.image) refl ready.held) in
    stays_at old.config had.config (x ∷ evicted.mid) had.history cleared w.fixed evicted.config evicted.history
    (stays_evict old.config evicted.mid x.place x.caller x.number evicted.page f evicted.passed cleared w.fixed (victim_free seen old had frames w f ready evicted)
    (stays_cleaned old w evicted.page evicted.mid cleared evicted.cleaned (stays_rows old.config old.history frames.rows cleared w.fixed held (stays_ready seen old frames w.fixed ready))))

-- a frame is had
pub stays_had : {D : Type 0} {cleared : List Row} (seen : D → DiskSeen) (old had : State D) (frames : Plain) (w : Working) (f : ℕ) → IsWorkerReady seen old frames w.fixed → IsHad old had frames.rows cleared (me w) f
    → Stays had.config had.history cleared w.fixed
stays_had seen old had frames w f ready (inl free) =
    let R : List Row → Type 0 = λ rows. AreHeld rows w.fixed in
    stays_at old.config had.config old.history had.history _ w.fixed (ap (λ (s : State _). s.config) free.same) (ap (λ (s : State _). s.history) free.same)
    (stays_rows old.config old.history frames.rows _ w.fixed (subst R (sym free.rows_are) ready.held) (stays_ready seen old frames w.fixed ready))
stays_had seen old had frames w f ready (inr evicted) = stays_evicted seen old had frames w f ready evicted
