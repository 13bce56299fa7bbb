-- A visited frame's fix may be appended where it could before the visit.
use Rattle.std.specs.Prelude.{IfSome, ◌&&◌, slice_set}
use Rattle.std.specs.Option.{option_map, option_map_or}
use Rattle.std.proofs.Common.{◌≡◌, ◌==◌, inl, ℕ, Option, None, Some, Bool, true, false, cond, ◌<◌, length, refl, sym, ap, ◌∙◌, subst, rules}
use Rattle.page_ids.specs.declared.frame_word.Word.{Word}
use Rattle.page_ids.specs.declared.ids.PageId.{PageId}
use Rattle.trail.specs.declared.event.Entry.{Entry}
use Rattle.trail.specs.declared.event.Kind.{Kind}
use Rattle.trail.specs.declared.event.Kind.TheVariants as kind
use Rattle.trail.specs.Words.{words_told}
use Rattle.frame_words.specs.Appends.{AreReady, FitsHomes, appended, extended, fixed_frame, rows_after, visit_after}
use Rattle.frame_words.specs.Conditions.{AreFound, IsNext, IsSteady, MayAppend}
use Rattle.frame_words.specs.Rows.{held_row}
use Rattle.frame_words.specs.Seen.{FramesSeen, row_at, with_row, noted, visited, is_owed}

module _ {T : Type 0} where
  weaker : (o : Option T) (P Q : T → Type 0) → ((x : T) → P x → Q x) → IfSome o P → IfSome o Q
  weaker None P Q more given = given
  weaker (Some x) P Q more given = more x given

  always : (o : Option T) (P : T → Type 0) → ((x : T) → P x) → IfSome o P
  always None P all = search rules
  always (Some x) P all = all x

pub steady_page : (s : FramesSeen) (f : ℕ) → (row_at s f).resident ≡ true → IsSteady s f
steady_page s f resident = always s.history _ (λ h. inl resident)

and_false : (b : Bool) → (b && false) ≡ false
and_false true = refl
and_false false = refl

abbrev visiting : FramesSeen → ℕ → Word → FramesSeen
visiting s f w = record (noted s f w) { visit = Some f }

-- no create waits for its visit
plain_visit : (s : FramesSeen) (f : ℕ) (w : Word) → s.owed ≡ None → visited s f w ≡ visiting s f w
plain_visit s f w created =
    let none : is_owed s f ≡ false = ap (λ (o : Option ℕ). (row_at s f).resident && option_map_or (λ g. g == f) o false) created ∙ and_false (row_at s f).resident in
    ap (λ (b : Bool). cond b (record (with_row (noted s f w) f (held_row (row_at s f))) { owed = None }) (visiting s f w)) none

pub may_fix : (s s' : FramesSeen) (f : ℕ) (w : Word) (e : Entry) (page : PageId) (clock now : ℕ) → f < length s.rows → (row_at s f).resident ≡ true
    → s.owed ≡ None → e.kind ≡ kind.Fix page f clock now → IfSome s.history (λ h. IfSome s.turn (λ t. IsNext s h t e))
    → s' ≡ visited s f w → MayAppend s' e
may_fix s s' f w e page clock now inside resident created is next new =
    let v : FramesSeen = visiting s f w in
    subst (λ (x : FramesSeen). MayAppend x e) (sym (new ∙ plain_visit s f w created)) (record {
      frames = subst (λ (k : Kind). AreReady v k) (sym is) (record { inside = inside; resident = resident; visit = refl });
      next = weaker s.history _ _
          (λ h. weaker s.turn _ _
          (λ t n. record {
            place = n.place;
            caller = n.caller;
            number = n.number;
            published = n.published;
            created = n.created;
            ours = n.ours;
            homes = subst (λ (k : Kind). FitsHomes v h.entries k) (sym is) (subst (λ (k : Kind). FitsHomes s h.entries k) is n.homes);
            opened = n.opened;
            words = always v.found _ (λ found. subst (λ (k : Kind). AreFound found (words_told k)) (sym is) (search rules));
          })) next;
    })

after_fix : (s s' s'' : FramesSeen) (f : ℕ) (w : Word) (e : Entry) → s.owed ≡ None → s' ≡ visited s f w → s'' ≡ appended s' e → s'' ≡ appended (visiting s f w) e
after_fix s s' s'' f w e created visit append = append ∙ ap (λ (x : FramesSeen). appended x e) (visit ∙ plain_visit s f w created)

pub fixed_visit : (s s' s'' : FramesSeen) (f : ℕ) (w : Word) (e : Entry) (page : PageId) (clock now : ℕ) → s.owed ≡ None → e.kind ≡ kind.Fix page f clock now
    → s' ≡ visited s f w → s'' ≡ appended s' e → s''.visit ≡ None
fixed_visit s s' s'' f w e page clock now created is visit append = ap (λ (x : FramesSeen). x.visit) (after_fix s s' s'' f w e created visit append)
    ∙ ap (λ (k : Kind). visit_after (fixed_frame k) (Some f)) is

pub fixed_rows : (s s' s'' : FramesSeen) (f : ℕ) (w : Word) (e : Entry) (page : PageId) (clock now : ℕ) → s.owed ≡ None → e.kind ≡ kind.Fix page f clock now
    → s' ≡ visited s f w → s'' ≡ appended s' e → s''.rows ≡ slice_set s.rows f (held_row (row_at s f))
fixed_rows s s' s'' f w e page clock now created is visit append = ap (λ (x : FramesSeen). x.rows) (after_fix s s' s'' f w e created visit append)
    ∙ ap (λ (k : Kind). rows_after (fixed_frame k) s.rows) is

pub fixed_history : (s s' s'' : FramesSeen) (f : ℕ) (w : Word) (e : Entry) → s.owed ≡ None → s' ≡ visited s f w → s'' ≡ appended s' e
    → s''.history ≡ option_map (extended e) s.history
fixed_history s s' s'' f w e created visit append = ap (λ (x : FramesSeen). x.history) (after_fix s s' s'' f w e created visit append)
