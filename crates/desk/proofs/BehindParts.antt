-- What a step does to what is known of one page.
use Rattle.std.proofs.Common.{◌≡◌, ℕ, Bool, true, false, cond, List, ◌<◌, ◌||◌, Option, Some, None, length, refl, ap, ◌∙◌, sym, subst, arith, IfSome, IsSome, MatchOption, get_or, inl, inr}
use Rattle.std.proofs.lemmas.Grind.{same_number_lists}
use Rattle.std.specs.Option.{is_some}
use Rattle.page_ids.specs.Content.{Content}
use Rattle.page_ids.specs.Layout.{IsPage, IsContent}
use Rattle.page_ids.specs.Refusal.{IsBadPage}
use Rattle.page_ids.specs.Same.{same_page}
use Rattle.page_ids.specs.declared.ids.PageId.{PageId}
use Rattle.page_ids.specs.declared.layout.BadPage.{BadPage}
use Rattle.page_disk.specs.Disks.{Fades}
use Rattle.trail.specs.declared.event.Call.{Call}
use Rattle.trail.specs.declared.event.Cause.{Cause}
use Rattle.trail.specs.declared.event.Dirty.{Dirty}
use Rattle.trail.specs.declared.event.Kind.{Kind}
use Rattle.trail.specs.declared.event.Kind.TheVariants as kind
use Rattle.trail.specs.History.{value_after, home_after}
use Rattle.trail.specs.Dirt.{dirtied, cleaned, dirty_after, dirt_of, log_end_after}
use Rattle.trail.specs.Saved.{written_after, saved_after}
use Rattle.desk.specs.Base.{IsGiven}
use Rattle.instance_lists.proofs.Dirt.{no_way, dirtied_is, dirtied_other, cleaned_of}

-- what an entry leaves that neither loads, changes, writes nor moves a page
pub record IsStill (k : Kind) : Type 0 where
  pub homes : (p : PageId) (before : Option ℕ) → home_after k p before ≡ before
  pub values : (size : ℕ) (p : PageId) (before : Option Content) → value_after size k p before ≡ before
  pub writes : (p : PageId) (before : Bool) → written_after k p before ≡ before
  pub saves : (p : PageId) (now before : Option Content) → saved_after k p now before ≡ before
  pub dirts : (before : List Dirty) → dirty_after k before ≡ before
  pub ends : (last : ℕ) → log_end_after k last ≡ last

pub fix_still : (p : PageId) (f clock now : ℕ) → IsStill (kind.Fix p f clock now)
fix_still p f clock now = record { homes = λ q b. refl; values = λ size q b. refl; writes = λ q b. refl; saves = λ q v b. refl; dirts = λ b. refl; ends = λ b. refl }

pub refused_still : (c : Call) (why : Cause) → IsStill (kind.Refused c why)
refused_still c why = record { homes = λ q b. refl; values = λ size q b. refl; writes = λ q b. refl; saves = λ q v b. refl; dirts = λ b. refl; ends = λ b. refl }

-- a page that was changed is dirty, and every other one is as it was
pub dirty_here : (q p : PageId) (start end : ℕ) (ds : List Dirty) → same_page q p ≡ true → is_some (dirt_of (dirtied q start end ds) p) ≡ true
dirty_here q p start end ds same = dirtied_is ds q p start end ∙ ap (λ (b : Bool). b || is_some (dirt_of ds p)) same

pub dirty_other : (q p : PageId) (start end : ℕ) (ds : List Dirty) → same_page q p ≡ false → is_some (dirt_of (dirtied q start end ds) p) ≡ is_some (dirt_of ds p)
dirty_other q p start end ds other = ap (is_some {T = Dirty}) (dirtied_other ds q p start end other)

-- a write leaves every other page
pub clean_other : (q p : PageId) (ds : List Dirty) → same_page q p ≡ false → is_some (dirt_of (cleaned q ds) p) ≡ is_some (dirt_of ds p)
clean_other q p ds other = ap (is_some {T = Dirty}) (cleaned_of ds q p ∙ ap (λ (b : Bool). cond b None (dirt_of ds p)) other)

-- two contents of the same bytes are one
pub one_content : (bytes : List ℕ) (c d : Content) → IsContent bytes c → IsContent bytes d → c ≡ d
one_content bytes c d a b =
    let make = λ (n : ℕ) (xs : List ℕ). let x : Content = record { lsn = n; bytes = xs } in x in
    let sizes : length c.bytes ≡ length d.bytes = a.size ∙ sym b.size in
    let each : (k : ℕ) → k < length c.bytes → get_or c.bytes k 0 ≡ get_or d.bytes k 0 = λ k inside. a.kept k (omega (arith, a.size)) ∙ sym (b.kept k (omega (arith, a.size))) in
    ap (λ n. make n c.bytes) (a.lsn ∙ sym b.lsn) ∙ ap (λ xs. make d.lsn xs) (same_number_lists c.bytes d.bytes sizes each)

content_test : (first : Option Content) (p : PageId) (bytes : List ℕ) (c : Content) → IsPage p bytes c → MatchOption first ((d : Content) → IsPage p bytes d → ⊥) (λ d. IsPage p bytes d) → first ≡ Some c
content_test None p bytes c page m = absurd (m c page)
content_test (Some d) p bytes c page m = ap (λ (x : Content). Some x) (one_content bytes d c m.content_is page.content_is)

-- what was read of a page that is told and has its value on the disk is its value
pub given_content : (told : Option (List ℕ)) (p : PageId) (first : Option Content) (c : Content) → IsGiven told p first → IfSome told (λ bytes. IsPage p bytes c) → first ≡ Some c
given_content told p first c given read =
    let P : Option (List ℕ) → Type 0 = λ t. IfSome t (λ bytes. IsPage p bytes c) in
    content_test first p given.bytes c (subst P given.tells read) given.content

bad_unsound : (p : PageId) (bytes : List ℕ) (bad : BadPage) (c : Content) → IsBadPage p bytes bad → IsPage p bytes c → ⊥
bad_unsound p bytes (Rattle.page_ids.specs.declared.layout.BadPage.TheVariants.Number found) c is page = elim page.sound [
  | inl blank ↦ is.0 blank
  | inr written ↦ is.2 (is.1 ∙ written.number)
]
bad_unsound p bytes (Rattle.page_ids.specs.declared.layout.BadPage.TheVariants.Space found) c is page = elim page.sound [
  | inl blank ↦ is.0 blank
  | inr written ↦ is.3 (is.2 ∙ written.space)
]
bad_unsound p bytes (Rattle.page_ids.specs.declared.layout.BadPage.TheVariants.Torn head tail) c is page = elim page.sound [
  | inl blank ↦ is.0 blank
  | inr written ↦ is.5 (is.3 ∙ written.whole ∙ sym is.4)
]

none_test : (first : Option Content) (p : PageId) (bytes : List ℕ) → ((c : Content) → IsPage p bytes c → ⊥) → MatchOption first ((d : Content) → IsPage p bytes d → ⊥) (λ d. IsPage p bytes d) → first ≡ None
none_test None p bytes no_page m = refl
none_test (Some d) p bytes no_page m = absurd (no_page d m)

-- a told page whose bytes are no page has no value
pub given_none : (told : Option (List ℕ)) (p : PageId) (first : Option Content) (bytes : List ℕ) (bad : BadPage) → IsGiven told p first → IfSome told (λ here. bytes ≡ here) → IsBadPage p bytes bad → first ≡ None
given_none told p first bytes bad given known is =
    let P : Option (List ℕ) → Type 0 = λ t. IfSome t (λ here. bytes ≡ here) in
    let same : bytes ≡ given.bytes = subst P given.tells known in
    let B : List ℕ → Type 0 = λ b. IsBadPage p b bad in
    none_test first p given.bytes (λ c page. bad_unsound p given.bytes bad c (subst B same is) page) given.content

-- what is known of a clean page: told at the opening, its first value, told now, whether written since, its value, and that at its latest write
pub record IsClean (p : PageId) (opened : Option (List ℕ)) (first : Option Content) (told : Option (List ℕ)) (w : Bool) (v s : Option Content) : Type 0 where
  pub given : IsGiven opened p first
  pub told_is : IsSome told
  pub written : w ≡ true → IfSome told (λ bytes. IfSome s (λ c. IsPage p bytes c))
  pub unwritten : w ≡ false → Fades opened told
  pub valued : w ≡ true → IsSome v
  pub same : s ≡ v
  pub first_is : w ≡ false → s ≡ first

pub some_at : {A : Type 0} (o : Option A) → IsSome o → (x : A) × (o ≡ Some x)
some_at None is = absurd (no_way (sym is))
some_at (Some x) is = (x, refl)

-- its value is what its bytes on the disk are a page of
pub stands : (p : PageId) (opened : Option (List ℕ)) (first : Option Content) (told : Option (List ℕ)) (w : Bool) (v s : Option Content) → IsClean p opened first told w v s → IsGiven told p v
stands p opened first told w v s clean = go w refl
  where
    there : (x : List ℕ) × (told ≡ Some x)
    there = some_at told clean.told_is

    go : (b : Bool) → w ≡ b → IsGiven told p v
    go true is =
        let c = some_at v (clean.valued is) in
        let T : Option (List ℕ) → Type 0 = λ t. IfSome t (λ bytes. IfSome s (λ c. IsPage p bytes c)) in
        let S : Option Content → Type 0 = λ x. IfSome x (λ c. IsPage p there.0 c) in
        let page : IsPage p there.0 c.0 = subst S (clean.same ∙ c.1) (subst T there.1 (clean.written is)) in
        let M : Option Content → Type 0 = λ x. MatchOption x ((d : Content) → IsPage p there.0 d → ⊥) (λ d. IsPage p there.0 d) in
        record { bytes = there.0; tells = there.1; content = subst M (sym c.1) page }
    go false is =
        let F : Option (List ℕ) → Type 0 = λ t. Fades opened t in
        let was : opened ≡ Some there.0 = subst F there.1 (clean.unwritten is) in
        let G : Option (List ℕ) → Type 0 = λ t. IsGiven t p first in
        let V : Option Content → Type 0 = λ x. IsGiven told p x in
        subst V (sym (clean.first_is is) ∙ clean.same) (subst G (was ∙ sym there.1) clean.given)

-- a page that is told as before, or no longer, keeps what is known where it is told
pub fades_keeps : (old new : Option (List ℕ)) (P : List ℕ → Type 0) → Fades old new → IfSome old P → IfSome new P
fades_keeps old None P fades is = tt
fades_keeps old (Some bytes) P fades is = (let Q : Option (List ℕ) → Type 0 = λ o. IfSome o P in subst Q fades is)
