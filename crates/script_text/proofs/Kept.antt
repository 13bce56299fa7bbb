-- What lines make keeps its limits.
use Rattle.std.proofs.Common.{ℕ, List, [], ◌∷◌, ◌++◌, ◌≡◌, ◌+◌, ◌<◌, ◌≤◌, ◌∙◌, ◌&&◌, Bool, true, false, Option, None, Some, length, nat_le, nat_lt, refl, sym, ap, subst, arith}
use Rattle.std.specs.Prelude.{◌==◌, ◌||◌, not}
use Rattle.std.specs.List.{AllByRecursion}
use Rattle.std.proofs.lemmas.Option.{cond_some}
use Rattle.std.proofs.lemmas.Bool.Decides.{nat_tests}
use Rattle.std.proofs.lemmas.List.{length-append}
use Rattle.std.proofs.lemmas.List.Sums.{sum_by_push}
use Rattle.page_ids.specs.Chunks.{chunks_of}
use Rattle.page_ids.specs.Fields.{unfit_of, IsFit, is_settable}
use Rattle.page_ids.proofs.Fitting.{fit_of}
use Rattle.page_ids.specs.declared.config.BadConfig.{BadConfig}
use Rattle.page_ids.specs.declared.config.Config.{Config}
use Rattle.page_ids.specs.declared.config.Field.{Field}
use Rattle.page_ids.specs.declared.ids.PageSize.{PageSize}
use Rattle.script_text.specs.Plan.{Plan}
use Rattle.script_text.specs.Text.{IsTyped, IsTypedItem, IsSpelled}
use Rattle.script_text.specs.Grammar.{SoFar, nothing_said, was_set, with_setting, is_in_range, calls_of, calls_in, all_calls, with_command, step, AreRead, lines_of}
use Rattle.script_text.specs.Faults.{is_bad, is_unbuilt, is_faulty}
use Rattle.script_text.specs.Verdict.{IsScript, plan_of}
use Rattle.script_text.specs.Within.{IsInRange, IsWithin}
use Rattle.script_text.specs.declared.script.TheConstants.{MOST_CALLS, THREADS}
use Rattle.script_text.specs.declared.script.Command.{Command}
use Rattle.script_text.specs.declared.script.Command.TheVariants.{Fix, Create, Read, Put, Unfix, Scan, Clean, Checkpoint}
use Rattle.script_text.specs.declared.lines.Item.{Item}
use Rattle.script_text.specs.declared.lines.Item.TheVariants.{Nothing, Set, Thread, Does}
use Rattle.script_text.proofs.Threads.{at_end}

abbrev Ranges : PageSize → List (List Command) → Type 0
Ranges size threads = AllByRecursion (AllByRecursion (IsInRange size)) threads

record Kept (s : SoFar) : Type 0 where
  pub threads : length s.threads ≤ THREADS
  pub calls : all_calls s.config.instances s.threads ≤ s.calls
  pub limit : s.calls ≤ MOST_CALLS
  pub ranges : Ranges s.config.page s.threads

in_range : (size : PageSize) (c : Command) → IsTyped c → is_in_range size c ≡ true → IsInRange size c
in_range size (Fix p now) h r = h
in_range size (Create p now) h r = h
in_range size (Read p at len) h r = (h.0, grind (arith, nat_tests), record { some = grind (arith, nat_tests); header = grind (arith, nat_tests); trailer = grind (arith, nat_tests) })
in_range size (Put p at bytes) h r = (h.0, grind (arith, nat_tests), record { some = grind (arith, nat_tests); header = grind (arith, nat_tests); trailer = grind (arith, nat_tests) }, h.2)
in_range size (Unfix p) h r = h
in_range size (Scan from last now) h r = (h.0, grind (arith, nat_tests), grind (arith, nat_tests), h.1, h.2)
in_range size (Clean bound) h r = grind (arith, nat_tests)
in_range size Checkpoint h r = tt

all_push : {A : Type 0} (P : A → Type 0) (xs : List A) (x : A) → AllByRecursion P xs → P x → AllByRecursion P (xs ++ x ∷ [])
all_push P [] x h p = (p, tt)
all_push P (y ∷ ys) x h p = (h.0, all_push P ys x h.1 p)

all_front : {A : Type 0} (P : A → Type 0) (xs : List A) (x : A) → AllByRecursion P (xs ++ x ∷ []) → AllByRecursion P xs
all_front P [] x h = tt
all_front P (y ∷ ys) x h = (h.0, all_front P ys x h.1)

all_last : {A : Type 0} (P : A → Type 0) (xs : List A) (x : A) → AllByRecursion P (xs ++ x ∷ []) → P x
all_last P [] x h = h.0
all_last P (y ∷ ys) x h = all_last P ys x h.1

-- the threads but the last, and the last
record Ends (ts : List (List Command)) : Type 0 where
  pub front : List (List Command)
  pub last : List Command
  pub whole : ts ≡ front ++ last ∷ []

ends : (t : List Command) (ts : List (List Command)) → Ends (t ∷ ts)
ends t [] = record { front = []; last = t; whole = refl }
ends t (u ∷ ts) = let rest = ends u ts in record { front = t ∷ rest.front; last = rest.last; whole = ap (λ x. t ∷ x) rest.whole }

some_end : (ts : List (List Command)) → 0 < length ts → Ends ts
some_end [] some = absurd (omega (arith, some))
some_end (t ∷ ts) some = ends t ts

nothing_in : (ts : List (List Command)) → length ts ≡ 0 → ts ≡ []
nothing_in [] e = refl
nothing_in (t ∷ ts) e = absurd (omega (arith, e))

kept_set : (s : SoFar) (name : Field) (n : ℕ) (bits : List Bool) → s.threads ≡ [] → Kept s → Kept (record s { config = with_setting s.config name n; settings = bits })
kept_set s name n bits none h =
    let new : Config = with_setting s.config name n in
    let C : List (List Command) → Type 0 = λ ts. all_calls new.instances ts ≤ s.calls in
    let R : List (List Command) → Type 0 = λ ts. Ranges new.page ts in
    record {
      threads = h.threads;
      calls = subst C (sym none) (omega arith);
      limit = h.limit;
      ranges = subst R (sym none) tt;
    }

kept_thread : (s : SoFar) → length s.threads + 1 ≤ THREADS → Kept s → Kept (record s { threads = s.threads ++ [] ∷ [] })
kept_thread s few h = record {
  threads = omega (arith, few, length-append s.threads ([] ∷ []));
  calls = omega (arith, h.calls, sum_by_push (calls_in s.config.instances) s.threads []);
  limit = h.limit;
  ranges = all_push (AllByRecursion (IsInRange s.config.page)) s.threads [] h.ranges tt;
}

kept_command : (s : SoFar) (c : Command) → Ends s.threads → IsInRange s.config.page c → s.calls + calls_of s.config.instances c ≤ MOST_CALLS → Kept s
    → Kept (record s { threads = with_command s.threads c; calls = s.calls + calls_of s.config.instances c })
kept_command s c e r few h =
    let P : List Command → Type 0 = λ cs. AllByRecursion (IsInRange s.config.page) cs in
    let n = s.config.instances in
    let new : List (List Command) = e.front ++ (e.last ++ c ∷ []) ∷ [] in
    let made : with_command s.threads c ≡ new = ap (λ ts. with_command ts c) e.whole ∙ at_end e.front e.last c in
    let was : Ranges s.config.page (e.front ++ e.last ∷ []) = subst (λ (ts : List (List Command)). Ranges s.config.page ts) e.whole h.ranges in
    let longer : length new ≡ length s.threads = length-append e.front ((e.last ++ c ∷ []) ∷ []) ∙ sym (length-append e.front (e.last ∷ [])) ∙ ap length (sym e.whole) in
    let before : all_calls n s.threads ≡ all_calls n e.front + calls_in n e.last = ap (all_calls n) e.whole ∙ sum_by_push (calls_in n) e.front e.last in
    let after : all_calls n new ≡ all_calls n e.front + calls_in n (e.last ++ c ∷ []) = sum_by_push (calls_in n) e.front (e.last ++ c ∷ []) in
    let more : calls_in n (e.last ++ c ∷ []) ≡ calls_in n e.last + calls_of n c = sum_by_push (calls_of n) e.last c in
    let K : List (List Command) → Type 0 = λ ts. Kept (record s { threads = ts; calls = s.calls + calls_of n c }) in
    subst K (sym made) (record {
      threads = omega (arith, longer, h.threads);
      calls = omega (arith, before, after, more, h.calls);
      limit = few;
      ranges = all_push P e.front (e.last ++ c ∷ []) (all_front P e.front e.last was) (all_push (IsInRange s.config.page) e.last c (all_last P e.front e.last was) r);
    })

kept_step : (s t : SoFar) (i : Item) → IsTypedItem i → step s i ≡ Some t → Kept s → Kept t
kept_step s t Nothing typed e h = let same : s ≡ t = cc in subst (λ (x : SoFar). Kept x) same h
kept_step s t (Set name n) typed e h =
    let parts = cond_some ((length s.threads == 0) && is_settable name n && not (was_set s name)) _ t e in
    let none : length s.threads ≡ 0 = grind (arith, nat_tests, parts.0) in
    subst (λ (x : SoFar). Kept x) parts.1 (kept_set s name n _ (nothing_in s.threads none) h)
kept_step s t (Thread k) typed e h =
    let parts = cond_some ((k == length s.threads + 1) && nat_le k THREADS) _ t e in
    let few : length s.threads + 1 ≤ THREADS = grind (arith, nat_tests, parts.0) in
    subst (λ (x : SoFar). Kept x) parts.1 (kept_thread s few h)
kept_step s t (Does c) typed e h =
    let parts = cond_some (nat_lt 0 (length s.threads) && is_in_range s.config.page c && nat_le (s.calls + calls_of s.config.instances c) MOST_CALLS) _ t e in
    let some_thread : 0 < length s.threads = grind (arith, nat_tests, parts.0) in
    let range : is_in_range s.config.page c ≡ true = grind (arith, nat_tests, parts.0) in
    let few : s.calls + calls_of s.config.instances c ≤ MOST_CALLS = grind (arith, nat_tests, parts.0) in
    subst (λ (x : SoFar). Kept x) parts.1 (kept_command s c (some_end s.threads some_thread) (in_range s.config.page c typed range) few h)

is_item : (i : Item) (line : List ℕ) → IsSpelled i line → IsTypedItem i
is_item Nothing line h = tt
is_item (Set name n) line h = h.1
is_item (Thread k) line h = h.1
is_item (Does c) line h = h.1

kept_read : (s t : SoFar) (lines : List (List ℕ)) → AreRead s lines t → Kept s → Kept t
kept_read s t [] e h = subst (λ (x : SoFar). Kept x) (sym e) h
kept_read s t (line ∷ lines) (mid, (i, spelled, stepped), rest) h = kept_read mid t lines rest (kept_step s mid i (is_item i line spelled) stepped h)

kept_at_start : Kept nothing_said
kept_at_start = record { threads = omega arith; calls = omega arith; limit = omega arith; ranges = tt }

-- a whole without a fault: a pool can be made with its numbers, and can be run
record Sound (c : Config) : Type 0 where
  pub fit : IsFit c
  pub instances : c.instances ≡ 1
  pub first : c.first ≡ 0
  pub chunks : chunks_of c ≡ 1

not_bad : (bad : Option BadConfig) (b : Bool) → (is_bad bad || b) ≡ false → (bad ≡ None) × (b ≡ false)
not_bad None b e = (refl, e)
not_bad (Some bad) b e = absurd (cc)

sound_of : (plan : Plan) → is_faulty plan ≡ false → Sound plan.config
sound_of plan e =
    let c = plan.config in
    let parts = not_bad (unfit_of c) (is_unbuilt c) e in
    let fit = fit_of c parts.0 in
    let built : (nat_lt 1 c.instances || nat_lt 0 c.first || nat_lt 1 (chunks_of c)) ≡ false = parts.1 in
    let few : c.instances ≤ 1 = grind (arith, nat_tests, built) in
    let none : c.first ≤ 0 = grind (arith, nat_tests, built) in
    let one : chunks_of c ≤ 1 = grind (arith, nat_tests, built) in
    record { fit = fit; instances = omega (arith, few, fit.instances.0); first = omega (arith, none); chunks = omega (arith, one, fit.chunks.0) }

-- a script keeps its limits
pub within_of : (bytes : List ℕ) (plan : Plan) → IsScript bytes plan → IsWithin plan
within_of bytes plan h =
    let kept : Kept h.last = kept_read nothing_said h.last (lines_of bytes) h.read kept_at_start in
    let sound = sound_of (plan_of h.last) h.sound in
    subst (λ (p : Plan). IsWithin p) (sym h.asked) (record {
      sound = h.sound;
      config = sound.fit;
      instances = sound.instances;
      first = sound.first;
      chunks = sound.chunks;
      threads = kept.threads;
      calls = omega (arith, kept.calls, kept.limit);
      ranges = kept.ranges;
    })
