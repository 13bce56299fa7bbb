-- What is printed is read back.
use Rattle.std.proofs.Common.{lit<, ℕ, List, [], ◌∷◌, ◌++◌, ◌≡◌, ◌+◌, ◌-◌, ◌^◌, ◌<◌, ◌≤◌, ◌∙◌, ◌&&◌, true, false, Some, length, map, drop, get_or, nat_lt, nat_le, refl, sym, ap, subst, arith}
use Rattle.std.specs.Prelude.{◌==◌, slice_set, replicate}
use Rattle.std.specs.List.{AllByRecursion}
use Rattle.std.proofs.lemmas.List.{append_assoc, append-nil, length-append, at_drop_more}
use Rattle.std.proofs.lemmas.List.Splits.{slice_split_at}
use Rattle.std.proofs.lemmas.List.Sums.{sum_by-cons}
use Rattle.std.proofs.lemmas.Bool.Decides.{nat_tests}
use Rattle.page_ids.specs.Size.{page_bytes}
use Rattle.page_ids.specs.Fields.{fields, setting_of, is_settable, IsFit}
use Rattle.page_ids.specs.declared.config.Config.{Config}
use Rattle.page_ids.specs.declared.config.Field.{Field}
use Rattle.page_ids.specs.declared.config.Field.TheVariants.{Page, Instances, Frames, Size, Max, OldPct, OldTime, OldMin, Lsn, First}
use Rattle.page_ids.specs.declared.ids.PageSize.{PageSize}
use Rattle.page_ids.specs.declared.ids.PageSize.TheVariants.{Kib4, Kib8, Kib16}
use Rattle.script_text.specs.Plan.{Plan}
use Rattle.script_text.specs.Text.{item_words, IsTyped, IsTypedItem, IsSpelled}
use Rattle.script_text.specs.Printed.{settings_items, all_settings, commands_items, threads_items, plan_items, item_text, items_text, plan_text}
use Rattle.script_text.specs.Grammar.{SoFar, nothing_said, step, was_set, size_of, with_setting, place_of, with_command, is_in_range, calls_of, calls_in, all_calls, AreRead, lines_of}
use Rattle.script_text.specs.Verdict.{IsScript}
use Rattle.script_text.specs.Within.{IsInRange, IsWithin}
use Rattle.script_text.specs.declared.script.TheConstants.{MOST_CALLS, SCRIPT_BYTES, THREADS}
use Rattle.script_text.specs.declared.script.Command.{Command}
use Rattle.script_text.specs.declared.script.Command.TheVariants.{Fix, Create, Read, Put, Unfix, Scan, Clean, Checkpoint}
use Rattle.script_text.specs.declared.lines.Item.{Item}
use Rattle.script_text.specs.declared.lines.Item.TheVariants.{Nothing, Set, Thread, Does}
use Rattle.script_text.proofs.Lacking.{words_lack, line_lacks}
use Rattle.script_text.proofs.Threads.{at_end}

-- printing, line by line
text_more : (out line rest : List ℕ) → (out ++ (line ++ 10 ∷ [])) ++ rest ≡ out ++ (line ++ 10 ∷ rest)
text_more out line rest = append_assoc out (line ++ 10 ∷ []) rest ∙ ap (λ x. out ++ x) (append_assoc line (10 ∷ []) rest)

text_append : (items others : List Item) → items_text (items ++ others) ≡ items_text items ++ items_text others
text_append [] others = refl
text_append (i ∷ items) others = ap (λ x. item_text i ++ 10 ∷ x) (text_append items others) ∙ sym (append_assoc (item_text i) (10 ∷ items_text items) (items_text others))

-- the text so far, and the lines to come
pub items_more : {A : Type 0} (item : A → Item) (xs : List A) (i : ℕ) (d : A) (out new all : List ℕ) → i < length xs → new ≡ out ++ (item_text (item (get_or xs i d)) ++ 10 ∷ [])
    → out ++ items_text (map item (drop i xs)) ≡ all → new ++ items_text (map item (drop (i + 1) xs)) ≡ all
items_more item xs i d out new all inside grown so_far =
    let line : List ℕ = item_text (item (get_or xs i d)) in
    let rest : List ℕ = items_text (map item (drop (i + 1) xs)) in
    let cut : items_text (map item (drop i xs)) ≡ line ++ 10 ∷ rest = at_drop_more (λ ys. items_text (map item ys)) xs i d inside in
    ap (λ t. t ++ rest) grown ∙ text_more out line rest ∙ ap (λ t. out ++ t) (sym cut) ∙ so_far

pub threads_more : {A : Type 0} (commands : A → List Command) (ts : List A) (i number : ℕ) (t : A) (out mid new all : List ℕ) → i < length ts → t ≡ get_or ts i t
    → mid ≡ out ++ (item_text (Thread number) ++ 10 ∷ []) → new ≡ mid ++ items_text (commands_items (commands t))
    → out ++ items_text (threads_items number (map commands (drop i ts))) ≡ all → new ++ items_text (threads_items (number + 1) (map commands (drop (i + 1) ts))) ≡ all
threads_more commands ts i number t out mid new all inside here begun grown so_far =
    let rest : List Item = threads_items (number + 1) (map commands (drop (i + 1) ts)) in
    let own : List Item = commands_items (commands t) in
    let cut : items_text (threads_items number (map commands (drop i ts))) ≡ items_text (threads_items number (commands (get_or ts i t) ∷ map commands (drop (i + 1) ts))) =
    at_drop_more (λ us. items_text (threads_items number (map commands us))) ts i t inside in
    let text : items_text (threads_items number (map commands (drop i ts))) ≡ item_text (Thread number) ++ 10 ∷ items_text (own ++ rest) =
    cut ∙ ap (λ u. items_text (threads_items number (commands u ∷ map commands (drop (i + 1) ts)))) (sym here) in
    ap (λ x. x ++ items_text rest) grown ∙ append_assoc mid (items_text own) (items_text rest) ∙ ap (λ x. mid ++ x) (sym (text_append own rest))
    ∙ ap (λ x. x ++ items_text (own ++ rest)) begun ∙ text_more out (item_text (Thread number)) (items_text (own ++ rest)) ∙ ap (λ x. out ++ x) (sym text) ∙ so_far

pub plan_printed : (plan : Plan) (given : List (List Command)) (out new lines settings : List ℕ) → new ≡ out ++ lines → settings ≡ items_text (all_settings plan.config)
    → lines ≡ settings ++ items_text (threads_items 1 given) → given ≡ plan.threads → new ≡ out ++ plan_text plan
plan_printed plan given out new lines settings grown first then same =
    grown ∙ ap (λ x. out ++ x) (then ∙ ap (λ ts. settings ++ items_text (threads_items 1 ts)) same ∙ ap (λ x. x ++ items_text (threads_items 1 plan.threads)) first
    ∙ sym (text_append (all_settings plan.config) (threads_items 1 plan.threads)))

-- what items make of what was said, one after the other
abbrev AreTaken : SoFar → List Item → SoFar → Type 0
AreTaken old [] new = new ≡ old
AreTaken old (i ∷ items) new = (mid : SoFar) × (step old i ≡ Some mid) × AreTaken mid items new

taken_append : (old mid new : SoFar) (items others : List Item) → AreTaken old items mid → AreTaken mid others new → AreTaken old (items ++ others) new
taken_append old mid new [] others first rest = subst (λ (s : SoFar). AreTaken s others new) first rest
taken_append old mid new (i ∷ items) others (next, stepped, first) rest = (next, stepped, taken_append next mid new items others first rest)

abbrev AreTyped : List Item → Type 0
AreTyped items = AllByRecursion IsTypedItem items

typed_append : (items others : List Item) → AreTyped items → AreTyped others → AreTyped (items ++ others)
typed_append [] others h g = g
typed_append (i ∷ items) others h g = (h.0, typed_append items others h.1 g)

-- the lines of the text, and the empty one behind its last newline
text_lines : (items : List Item) → AreTyped items → lines_of (items_text items) ≡ map item_text items ++ [] ∷ []
text_lines [] h = refl
text_lines (i ∷ items) h =
    slice_split_at (λ b. b == 10) (item_text i) 10 (items_text items) (line_lacks (item_words i) (words_lack 10 (lit< tt) i h.0)) refl
    ∙ ap (λ ls. item_text i ∷ ls) (text_lines items h.1)

spelled : (i : Item) → IsTypedItem i → IsSpelled i (item_text i)
spelled Nothing h = refl
spelled (Set name n) h = (refl, h)
spelled (Thread k) h = (refl, h)
spelled (Does c) h = (refl, h)

lines_read : (old new : SoFar) (items : List Item) → AreTyped items → AreTaken old items new → AreRead old (map item_text items ++ [] ∷ []) new
lines_read old new [] h same = (old, (Nothing, refl, refl), same)
lines_read old new (i ∷ items) h (mid, stepped, rest) = (mid, (i, spelled i h.0, stepped), lines_read mid new items h.1 rest)

-- settings
within_test : (low high n : ℕ) → low ≤ n → n ≤ high → (nat_le low n && nat_le n high) ≡ true
within_test low high n above below = grind (arith, nat_tests)

page_test : (size : PageSize) → is_settable Page (page_bytes size) ≡ true
page_test Kib4 = refl
page_test Kib8 = refl
page_test Kib16 = refl

settable : (c : Config) → IsFit c → (f : Field) → is_settable f (setting_of c f) ≡ true
settable c h Page = page_test c.page
settable c h Instances = within_test 1 16 c.instances h.instances.0 h.instances.1
settable c h Frames = within_test 1 8192 c.frames h.frames.0 h.frames.1
settable c h Size = within_test 1 _ c.size h.size.0 h.size.1
settable c h Max = within_test 1 16 c.max h.max.0 h.max.1
settable c h OldPct = within_test 5 95 c.old_pct h.pct.0 h.pct.1
settable c h OldTime = within_test 0 (2 ^ 32 - 1) c.old_time (omega arith) (omega (arith, h.time))
settable c h OldMin = within_test 1 16384 c.old_min h.min.0 h.min.1
settable c h Lsn = within_test 1 (2 ^ 63 - 1) c.lsn h.lsn.0 (omega (arith, h.lsn.1))
settable c h First = within_test 0 _ c.first (omega arith) h.first

page_small : (size : PageSize) → page_bytes size ≤ 16384
page_small Kib4 = omega arith
page_small Kib8 = omega arith
page_small Kib16 = omega arith

fits : (c : Config) → IsFit c → (f : Field) → setting_of c f < 2 ^ 64
fits c h Page = omega (arith, page_small c.page)
fits c h Instances = omega (arith, h.instances.1)
fits c h Frames = omega (arith, h.frames.1)
fits c h Size = omega (arith, h.size.1)
fits c h Max = omega (arith, h.max.1)
fits c h OldPct = omega (arith, h.pct.1)
fits c h OldTime = omega (arith, h.time)
fits c h OldMin = omega (arith, h.min.1)
fits c h Lsn = omega (arith, h.lsn.1)
fits c h First = omega (arith, h.first)

settings_typed : (c : Config) → ((f : Field) → setting_of c f < 2 ^ 64) → (fs : List Field) → AreTyped (settings_items c fs)
settings_typed c h [] = tt
settings_typed c h (f ∷ fs) = (h f, settings_typed c h fs)

-- the state when the first so many settings were read
abbrev after : Config → Config → List Field → SoFar → SoFar
after c d [] s = s
after c d (f ∷ fs) s = after c d fs (record s { config = with_setting s.config f (setting_of c f); settings = slice_set s.settings (place_of f) true })

-- settings that were not set yet, each at most once
abbrev AreNew : List Field → SoFar → Config → Type 0
AreNew [] s c = Unit {0}
AreNew (f ∷ fs) s c = (was_set s f ≡ false) × AreNew fs (record s { config = with_setting s.config f (setting_of c f); settings = slice_set s.settings (place_of f) true }) c

settings_taken : (c : Config) → IsFit c → (fs : List Field) (s : SoFar) → s.threads ≡ [] → AreNew fs s c → AreTaken s (settings_items c fs) (after c c fs s)
settings_taken c h [] s none new = refl
settings_taken c h (f ∷ fs) s none new =
    let next : SoFar = record s { config = with_setting s.config f (setting_of c f); settings = slice_set s.settings (place_of f) true } in
    let empty : (length s.threads == 0) ≡ true = ap (λ ts. length ts == 0) none in
    let stepped : step s (Set f (setting_of c f)) ≡ Some next = rw (empty, settable c h f, new.0) refl in
    (next, stepped, settings_taken c h fs next none new.1)

size_back : (size : PageSize) → size_of (page_bytes size) ≡ size
size_back Kib4 = refl
size_back Kib8 = refl
size_back Kib16 = refl

-- the state behind the settings
abbrev set_up : Config → SoFar
set_up c = record { config = c; settings = replicate 10 true; threads = []; calls = 0 }

all_set : (c : Config) → after c c fields nothing_said ≡ set_up c
all_set c = ap (λ (size : PageSize). set_up (record c { page = size })) (size_back c.page)

-- commands
typed_of : (size : PageSize) (c : Command) → IsInRange size c → IsTyped c
typed_of size (Fix p now) h = h
typed_of size (Create p now) h = h
typed_of size (Read p at len) h = (h.0, omega (arith, page_small size, h.2.trailer), omega (arith, h.1))
typed_of size (Put p at bytes) h = (h.0, omega (arith, page_small size, h.2.trailer), h.3)
typed_of size (Unfix p) h = h
typed_of size (Scan from last now) h = (h.0, h.3, h.4)
typed_of size (Clean bound) h = omega (arith, h)
typed_of size Checkpoint h = tt

range_test : (size : PageSize) (c : Command) → IsInRange size c → is_in_range size c ≡ true
range_test size (Fix p now) h = refl
range_test size (Create p now) h = refl
range_test size (Read p at len) h = grind (arith, nat_tests, h.1, h.2.some, h.2.header, h.2.trailer)
range_test size (Put p at bytes) h = grind (arith, nat_tests, h.1, h.2.some, h.2.header, h.2.trailer)
range_test size (Unfix p) h = refl
range_test size (Scan from last now) h = grind (arith, nat_tests, h.1, h.2)
range_test size (Clean bound) h = grind (arith, nat_tests, h)
range_test size Checkpoint h = refl

commands_typed : (size : PageSize) (cs : List Command) → AllByRecursion (IsInRange size) cs → AreTyped (commands_items cs)
commands_typed size [] h = tt
commands_typed size (c ∷ cs) h = (typed_of size c h.0, commands_typed size cs h.1)

commands_taken : (cs : List Command) (s : SoFar) (front : List (List Command)) (last : List Command) → s.threads ≡ front ++ last ∷ [] → AllByRecursion (IsInRange s.config.page) cs
    → s.calls + calls_in s.config.instances cs ≤ MOST_CALLS
    → AreTaken s (commands_items cs) (record s { threads = front ++ (last ++ cs) ∷ []; calls = s.calls + calls_in s.config.instances cs })
commands_taken [] s front last are h few =
    let T : List Command → ℕ → Type 0 = λ ds n. ◌≡◌ {A = SoFar} (record s { threads = front ++ ds ∷ []; calls = n }) s in
    let none : s.calls ≡ s.calls + 0 = omega arith in
    let same : T last s.calls = ap (λ (ts : List (List Command)). record s { threads = ts }) (sym are) in
    subst (λ (n : ℕ). T (last ++ []) n) none (subst (λ (ds : List Command). T ds s.calls) (sym (append-nil last)) same)
commands_taken (c ∷ cs) s front last are h few =
    let n : ℕ = s.config.instances in
    let sum : calls_in n (c ∷ cs) ≡ calls_of n c + calls_in n cs = sum_by-cons (calls_of n) c cs in
    let mid : SoFar = record s { threads = with_command s.threads c; calls = s.calls + calls_of n c } in
    let some_thread : nat_lt 0 (length s.threads) ≡ true = let long = length-append front (last ∷ []) in let here = ap length are in grind (arith, nat_tests, long, here) in
    let range : is_in_range s.config.page c ≡ true = range_test s.config.page c h.0 in
    let room : nat_le (s.calls + calls_of n c) MOST_CALLS ≡ true = grind (arith, nat_tests, few, sum) in
    let stepped : step s (Does c) ≡ Some mid = rw (some_thread, range, room) refl in
    let ends : with_command s.threads c ≡ front ++ (last ++ c ∷ []) ∷ [] = ap (λ ts. with_command ts c) are ∙ at_end front last c in
    let rest = commands_taken cs mid front (last ++ c ∷ []) ends h.1 (omega (arith, few, sum)) in
    let R : List Command → ℕ → Type 0 = λ ds m. AreTaken mid (commands_items cs) (record s { threads = front ++ ds ∷ []; calls = m }) in
    let count : s.calls + calls_of n c + calls_in n cs ≡ s.calls + calls_in n (c ∷ cs) = omega (arith, sum) in
    (mid, stepped, subst (λ (m : ℕ). R (last ++ c ∷ cs) m) count (subst (λ (ds : List Command). R ds (s.calls + calls_of n c + calls_in n cs)) (append_assoc last (c ∷ []) cs) rest))

-- threads
abbrev AreInRange : PageSize → List (List Command) → Type 0
AreInRange size threads = AllByRecursion (AllByRecursion (IsInRange size)) threads

threads_typed : (size : PageSize) (number : ℕ) (ts : List (List Command)) → number + length ts < 2 ^ 64 → AreInRange size ts → AreTyped (threads_items number ts)
threads_typed size number [] few h = tt
threads_typed size number (t ∷ ts) few h =
    (omega (arith, few), typed_append (commands_items t) (threads_items (number + 1) ts) (commands_typed size t h.0) (threads_typed size (number + 1) ts (omega (arith, few)) h.1))

threads_taken : (ts : List (List Command)) (s : SoFar) (number : ℕ) → number ≡ length s.threads + 1 → length s.threads + length ts ≤ THREADS → AreInRange s.config.page ts
    → s.calls + all_calls s.config.instances ts ≤ MOST_CALLS
    → AreTaken s (threads_items number ts) (record s { threads = s.threads ++ ts; calls = s.calls + all_calls s.config.instances ts })
threads_taken [] s number next few h calls =
    let none : s.calls ≡ s.calls + 0 = omega arith in
    let T : List (List Command) → ℕ → Type 0 = λ ts n. ◌≡◌ {A = SoFar} (record s { threads = ts; calls = n }) s in
    subst (λ (n : ℕ). T (s.threads ++ []) n) none (subst (λ (ts : List (List Command)). T ts s.calls) (sym (append-nil s.threads)) refl)
threads_taken (t ∷ ts) s number next few h calls =
    let n : ℕ = s.config.instances in
    let sum : all_calls n (t ∷ ts) ≡ calls_in n t + all_calls n ts = sum_by-cons (calls_in n) t ts in
    let begun : SoFar = record s { threads = s.threads ++ [] ∷ [] } in
    let one : (number == length s.threads + 1) ≡ true = grind (arith, nat_tests, next) in
    let room : nat_le number THREADS ≡ true = grind (arith, nat_tests, next, few) in
    let stepped : step s (Thread number) ≡ Some begun = rw (one, room) refl in
    let mid : SoFar = record s { threads = s.threads ++ t ∷ []; calls = s.calls + calls_in n t } in
    let first : AreTaken begun (commands_items t) mid = commands_taken t begun s.threads [] refl h.0 (omega (arith, calls, sum)) in
    let longer : length (s.threads ++ t ∷ []) ≡ length s.threads + 1 = length-append s.threads (t ∷ []) in
    let rest = threads_taken ts mid (number + 1) (omega (arith, next, longer)) (omega (arith, few, longer)) h.1 (omega (arith, calls, sum)) in
    let new : List (List Command) → ℕ → SoFar = λ us m. record s { threads = us; calls = m } in
    let count : s.calls + calls_in n t + all_calls n ts ≡ s.calls + all_calls n (t ∷ ts) = omega (arith, sum) in
    let ends : (s.threads ++ t ∷ []) ++ ts ≡ s.threads ++ t ∷ ts = append_assoc s.threads (t ∷ []) ts in
    let others : AreTaken mid (threads_items (number + 1) ts) (new (s.threads ++ t ∷ ts) (s.calls + all_calls n (t ∷ ts))) =
    subst (λ (m : ℕ). AreTaken mid (threads_items (number + 1) ts) (new (s.threads ++ t ∷ ts) m)) count
    (subst (λ (us : List (List Command)). AreTaken mid (threads_items (number + 1) ts) (new us (s.calls + calls_in n t + all_calls n ts))) ends rest) in
    (begun, stepped, taken_append begun mid _ (commands_items t) (threads_items (number + 1) ts) first others)

-- the whole
pub reads_back : (plan : Plan) → IsWithin plan → length (plan_text plan) ≤ SCRIPT_BYTES → IsScript (plan_text plan) plan
unfolding all_settings
reads_back plan h short =
    let c = plan.config in
    let start : SoFar = set_up c in
    let last : SoFar = record start { threads = plan.threads; calls = 0 + all_calls c.instances plan.threads } in
    let settings : AreTaken nothing_said (all_settings c) start =
    subst (λ (s : SoFar). AreTaken nothing_said (all_settings c) s) (all_set c) (settings_taken c h.config fields nothing_said refl (refl, (refl, (refl, (refl, (refl, (refl, (refl, (refl, (refl, (refl, tt))))))))))) in
    let threads : AreTaken start (threads_items 1 plan.threads) last = threads_taken plan.threads start 1 refl (omega (arith, h.threads)) h.ranges (omega (arith, h.calls)) in
    let typed : AreTyped (plan_items plan) =
    typed_append (all_settings c) (threads_items 1 plan.threads) (settings_typed c (fits c h.config) fields) (threads_typed c.page 1 plan.threads (omega (arith, h.threads)) h.ranges) in
    let taken : AreTaken nothing_said (plan_items plan) last = taken_append nothing_said start last (all_settings c) (threads_items 1 plan.threads) settings threads in
    record {
      last = last;
      short = short;
      read = subst (λ (lines : List (List ℕ)). AreRead nothing_said lines last) (sym (text_lines (plan_items plan) typed)) (lines_read nothing_said last (plan_items plan) typed taken);
      sound = h.sound;
      asked = refl;
    }
