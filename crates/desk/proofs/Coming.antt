-- The entries that came, and the holder's view behind them, put together from steps.
use Rattle.std.proofs.Common.{◌≡◌, ◌++◌, ℕ, List, [], ◌∷◌, Option, None, Some, IfSome, refl, ap, ◌∙◌, sym, subst, append_assoc, inl, inr}
use Rattle.std.specs.Prelude.{⊤}
use Rattle.std.specs.Option.{is_some, option_map}
use Rattle.page_ids.specs.declared.config.Config.{Config}
use Rattle.page_ids.specs.declared.frame_word.Word.{Word}
use Rattle.page_ids.specs.declared.ids.PageId.{PageId}
use Rattle.trail.specs.Calls.{held_after_kind}
use Rattle.trail.specs.declared.event.Entry.{Entry}
use Rattle.trail.specs.declared.event.Held.{Held}
use Rattle.trail.specs.declared.event.Kind.{Kind}
use Rattle.trail.specs.declared.event.Kind.TheVariants as kind
use Rattle.frame_words.specs.Appends.{appended, extended, turn_after}
use Rattle.frame_words.specs.Rows.{Row}
use Rattle.frame_words.specs.Seen.{FramesSeen, History, Turn, with_row}
use Rattle.desk.specs.Ledger.{entry_behind}
use Rattle.desk.specs.Moments.{behind_each, Follows, Came}
use Rattle.desk.specs.State.{State}
use Rattle.desk.specs.Steps.{IsAppended, next_entry}
use Rattle.desk.specs.Victims.{IsCleanedFirst, LeavesTurn}
use Rattle.desk.specs.declared.calls.Caller.{Caller}
use Rattle.instance_lists.proofs.Dirt.{no_way}
use Rattle.desk.proofs.Tying.{history_of}

-- one step behind another
behind_more : {A : Type 0} (step : Entry → A → A) (xs ys : List Entry) (told : Option A) → behind_each step (xs ++ ys) told ≡ behind_each step xs (behind_each step ys told)
behind_more step [] ys told = refl
behind_more step (x ∷ xs) ys told = ap (option_map (step x)) (behind_more step xs ys told)

pub follows_on : (xs ys : List Entry) (s t u : FramesSeen) → Follows xs s t → Follows ys t u → Follows (ys ++ xs) s u
follows_on xs ys s t u x y = record {
  turn = y.turn ∙ ap (behind_each (λ (e : Entry). turn_after e.kind) ys) x.turn ∙ sym (behind_more (λ (e : Entry). turn_after e.kind) ys xs s.turn);
  opened = y.opened ∙ ap (behind_each (λ (e : Entry). held_after_kind e.number e.kind) ys) x.opened ∙ sym (behind_more (λ (e : Entry). held_after_kind e.number e.kind) ys xs s.opened);
  history = y.history ∙ ap (behind_each extended ys) x.history ∙ sym (behind_more extended ys xs s.history);
  base = y.base ∙ x.base;
}

pub follows_none : (s t : FramesSeen) → t ≡ s → Follows [] s t
follows_none s t is = subst (Follows [] s) (sym is) (record { turn = refl; opened = refl; history = refl; base = refl })

pub follows_row : (s t : FramesSeen) (f : ℕ) (r : Row) → t ≡ with_row s f r → Follows [] s t
follows_row s t f r is = subst (Follows [] s) (sym is) (record { turn = refl; opened = refl; history = refl; base = refl })

pub follows_one : (s t : FramesSeen) (e : Entry) → t ≡ appended s e → Follows (e ∷ []) s t
follows_one s t e is = subst (Follows (e ∷ []) s) (sym is) (record { turn = refl; opened = refl; history = refl; base = refl })

-- steps that leave what is told
abbrev pub AreStill : (A : Type 0) → (Entry → A → A) → List Entry → Type 0
AreStill A step [] = ⊤
AreStill A step (e ∷ came) = ((x : A) → step e x ≡ x) × AreStill A step came

module _ {A : Type 0} where
  still_map : (g : A → A) → ((x : A) → g x ≡ x) → (o : Option A) → option_map g o ≡ o
  still_map g still None = refl
  still_map g still (Some x) = ap (λ (y : A). Some y) (still x)

  still_behind : (step : Entry → A → A) (came : List Entry) → AreStill A step came → (told : Option A) → behind_each step came told ≡ told
  still_behind step [] still told = refl
  still_behind step (e ∷ came) still told = still_map (step e) still.0 (behind_each step came told) ∙ still_behind step came still.1 told

  none_behind : (step : Entry → A → A) (came : List Entry) → behind_each step came None ≡ None
  none_behind step [] = refl
  none_behind step (e ∷ came) = ap (option_map (step e)) (none_behind step came)

history_behind : (c : Config) (n : ℕ) (h came : List Entry) → behind_each extended came (Some (history_of c n h)) ≡ Some (history_of c n (came ++ h))
history_behind c n h [] = refl
history_behind c n h (e ∷ came) = ap (option_map (extended e)) (history_behind c n h came)

-- a history that is told before and after is the desk's
told_behind : (x y : Option History) (c d : Config) (n k : ℕ) (h g came : List Entry) → IfSome x (λ t. t ≡ history_of c n h) → IfSome y (λ t. t ≡ history_of d k g)
    → d ≡ c → k ≡ n → g ≡ came ++ h → is_some y ≡ is_some x → y ≡ behind_each extended came x
told_behind None None c d n k h g came was is config instance split told = sym (none_behind extended came)
told_behind None (Some y) c d n k h g came was is config instance split told = absurd (no_way told)
told_behind (Some x) None c d n k h g came was is config instance split told = absurd (no_way (sym told))
told_behind (Some x) (Some y) c d n k h g came was is config instance split told =
    ap (λ (a : History). Some a) is
    ∙ ap (λ (a : Config). Some (history_of a k g)) config
    ∙ ap (λ (a : ℕ). Some (history_of c a g)) instance
    ∙ ap (λ (a : List Entry). Some (history_of c n a)) split
    ∙ sym (history_behind c n h came)
    ∙ ap (λ (a : History). behind_each extended came (Some a)) (sym was)

pub still_told : {A : Type 0} (g : A → A) (o : Option A) → is_some (option_map g o) ≡ is_some o
still_told g None = refl
still_told g (Some x) = refl

-- a page left a frame that was claimed
pub gone_turn : {D : Type 0} (s t : FramesSeen) (old : State D) (by : Caller) (p : PageId) (f : ℕ) (words : List (ℕ × Word)) → t ≡ appended s (next_entry old by (kind.Evict p f words)) → LeavesTurn s t
gone_turn s t old by p f words is = subst (LeavesTurn s) (sym is) (record {
  turn = still_map (turn_after (kind.Evict p f words)) (λ x. refl) s.turn;
  opened = still_map (held_after_kind by.number (kind.Evict p f words)) (λ x. refl) s.opened;
  history = still_told (extended (next_entry old by (kind.Evict p f words))) s.history;
  base = refl;
})

module _ {D : Type 0} where
  pub came_none : (old new : State D) (s t : FramesSeen) → new.history ≡ old.history → Follows [] s t → Came old new s t
  came_none old new s t same view = record { came = []; split = same; view = view }

  pub came_one : (old new : State D) (s t : FramesSeen) (by : Caller) (k : Kind) → IsAppended old new by k → Follows (next_entry old by k ∷ []) s t → Came old new s t
  came_one old new s t by k a view = record { came = next_entry old by k ∷ []; split = a.history; view = view }

  pub came_on : (old mid new : State D) (s t u : FramesSeen) → Came old mid s t → Came mid new t u → Came old new s u
  came_on old mid new s t u x y = record {
    came = y.came ++ x.came;
    split = y.split ∙ ap (λ (h : List Entry). y.came ++ h) x.split ∙ sym (append_assoc y.came x.came old.history);
    view = follows_on x.came y.came s t u x.view y.view;
  }

  -- entries that end no call and open no fix
  came_left : (old new : State D) (s u : FramesSeen) (came : List Entry) → IfSome s.history (λ t. t ≡ history_of old.config old.instance old.history)
      → IfSome u.history (λ t. t ≡ history_of new.config new.instance new.history) → LeavesTurn s u → new.config ≡ old.config → new.instance ≡ old.instance → new.history ≡ came ++ old.history
      → AreStill Turn (λ (e : Entry). turn_after e.kind) came → AreStill (List Held) (λ (e : Entry). held_after_kind e.number e.kind) came → Came old new s u
  came_left old new s u came was is left config instance split turns opens = record {
    came = came;
    split = split;
    view = record {
      turn = left.turn ∙ sym (still_behind (λ (e : Entry). turn_after e.kind) came turns s.turn);
      opened = left.opened ∙ sym (still_behind (λ (e : Entry). held_after_kind e.number e.kind) came opens s.opened);
      history = told_behind s.history u.history old.config new.config old.instance new.instance old.history new.history came was is config instance split left.history;
      base = left.base;
    };
  }

  -- a page left its frame, and was written first where it was dirty
  pub came_gone : (old mid new : State D) (s u : FramesSeen) (by : Caller) (p : PageId) (f : ℕ) (words : List (ℕ × Word)) → IfSome s.history (λ t. t ≡ history_of old.config old.instance old.history)
      → IfSome u.history (λ t. t ≡ history_of new.config new.instance new.history) → LeavesTurn s u → mid.config ≡ old.config → mid.instance ≡ old.instance
      → IsCleanedFirst old.config.first by p old.history mid.history → IsAppended mid new by (kind.Evict p f words) → Came old new s u
  came_gone old mid new s u by p f words was is left config instance (inl same) a =
      let gone = next_entry mid by (kind.Evict p f words) in
      came_left old new s u (gone ∷ []) was is left (a.config ∙ config) (a.instance ∙ instance) (a.history ∙ ap (λ (h : List Entry). gone ∷ h) same.1) ((λ x. refl), tt) ((λ x. refl), tt)
  came_gone old mid new s u by p f words was is left config instance (inr wrote) a =
      let gone = next_entry mid by (kind.Evict p f words) in
      let write = entry_behind old.config.first old.history by (kind.Write p wrote.dirt.newest wrote.upto) in
      came_left old new s u (gone ∷ write ∷ []) was is left (a.config ∙ config) (a.instance ∙ instance) (a.history ∙ ap (λ (h : List Entry). gone ∷ h) wrote.entry) ((λ x. refl), ((λ x. refl), tt)) ((λ x. refl), ((λ x. refl), tt))

  -- a frame was claimed and given back, and then an entry was appended
  pub came_back : (old mid new : State D) (s m u : FramesSeen) (by : Caller) (k : Kind) → IfSome s.history (λ t. t ≡ history_of old.config old.instance old.history)
      → IfSome u.history (λ t. t ≡ history_of new.config new.instance new.history) → LeavesTurn s m → mid.config ≡ old.config → mid.instance ≡ old.instance → mid.history ≡ old.history
      → IsAppended mid new by k → Follows (next_entry mid by k ∷ []) m u → Came old new s u
  came_back old mid new s m u by k was is left config instance same a view =
      let e = next_entry mid by k in
      let split : new.history ≡ e ∷ old.history = a.history ∙ ap (λ (h : List Entry). e ∷ h) same in
      record {
        came = e ∷ [];
        split = split;
        view = record {
          turn = view.turn ∙ ap (option_map (turn_after k)) left.turn;
          opened = view.opened ∙ ap (option_map (held_after_kind e.number k)) left.opened;
          history = told_behind s.history u.history old.config new.config old.instance new.instance old.history new.history (e ∷ []) was is (a.config ∙ config) (a.instance ∙ instance) split
              (ap is_some view.history ∙ still_told (extended e) m.history ∙ left.history);
          base = view.base ∙ left.base;
        };
      }
