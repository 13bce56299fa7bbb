-- A line is read exactly where it is the spelling of what it says.
use Rattle.std.proofs.Common.{inr, lit<, lit≤, subst, ℕ, List, [], ◌∷◌, ◌++◌, ◌≡◌, ◌^◌, ◌<◌, ◌∙◌, Bool, true, false, Option, None, Some, refl, sym, ap, arith, rules}
use Rattle.std.specs.Prelude.{◌==◌, codes}
use Rattle.std.specs.Fmt.{decimal}
use Rattle.std.specs.Str.{bytes_eq}
use Rattle.std.specs.List.{AllByRecursion, slice_split, join_with_byte}
use Rattle.std.proofs.lemmas.Option.{option_and_then_some}
use Rattle.std.proofs.lemmas.Slice.Eq.{bytes_eq-Decides}
use Rattle.std.proofs.lemmas.List.Splits.{join_with_byte-slice_split}
use Rattle.page_ids.specs.Numerals.{number_of, cut_at}
use Rattle.page_ids.specs.Spelling.{page_text, hex}
use Rattle.page_ids.specs.declared.ids.PageId.{PageId}
use Rattle.page_ids.specs.Typed.{FitsId}
use Rattle.script_text.specs.Text.{range_text, command_words, item_words, setting_name, is_nothing, IsTyped, IsTypedItem, IsSpelled}
use Rattle.script_text.specs.Reading.{◌>>=◌, page_of, range_of, hex_of, keyword_text, found, keywords, keyword_of, one, two, three, fix_of, create_of, read_of, put_of, unfix_of, scan_of, clean_of, checkpoint_of, thread_of, set_of, said_by, words_say, line_says}
use Rattle.page_ids.proofs.Cuts.{Lacks, decimal_lacks, cut_here, cut_is}
use Rattle.page_ids.proofs.Numbers.{number_of-decimal, number_is}
use Rattle.script_text.proofs.Hex.{hex_read, hex_is}
use Rattle.script_text.proofs.Lacking.{words_lack, page_lacks}
use Rattle.script_text.proofs.Cuts.{words_joined}
use Rattle.script_text.specs.declared.script.Command.{Command}
use Rattle.script_text.specs.declared.script.Command.TheVariants.{Fix, Create, Read, Put, Unfix, Scan, Clean, Checkpoint}
use Rattle.page_ids.specs.declared.config.Field.{Field}
use Rattle.page_ids.specs.declared.config.Field.TheVariants.{Page, Instances, Frames, Size, Max, OldPct, OldTime, OldMin, Lsn, First}
use Rattle.script_text.specs.declared.lines.Item.{Item}
use Rattle.script_text.specs.declared.lines.Item.TheVariants.{Nothing, Set, Thread, Does}
use Rattle.script_text.specs.declared.lines.Keyword.{Keyword}
use Rattle.script_text.specs.declared.lines.Keyword.TheVariants as keyword

-- page ids
wide : (n : ℕ) → n < 2 ^ 32 → n < 2 ^ 64
wide n small = omega arith

page_of-text : (p : PageId) → FitsId p → page_of (page_text p) ≡ Some p
page_of-text p h =
    let cuts = cut_here 58 (decimal p.space) (decimal p.page) (decimal_lacks 58 p.space (inr (lit< tt)) (wide _ h.0)) in
    let space = number_of-decimal (2 ^ 32) p.space (wide _ h.0) h.0 in
    let page = number_of-decimal (2 ^ 32) p.page (wide _ h.1) h.1 in
    rw cuts (rw space (rw page refl))

page_is : (w : List ℕ) (p : PageId) → page_of w ≡ Some p → (w ≡ page_text p) × FitsId p
page_is w p e = option_and_then_some _ (cut_at 58 w) p e (λ r cuts e1. option_and_then_some _ (number_of (2 ^ 32) r.0) p e1 (λ s space e2. option_and_then_some _ (number_of (2 ^ 32) r.1) p e2 (λ k page e3.
    let first = number_is (2 ^ 32) s r.0 (lit≤ tt) space in
    let second = number_is (2 ^ 32) k r.1 (lit≤ tt) page in
    let whole : w ≡ r.0 ++ 58 ∷ r.1 = cut_is 58 w r.0 r.1 cuts in
    let same : ◌≡◌ {A = PageId} (record { space = s; page = k }) p = cc in
    let spelled : w ≡ decimal s ++ 58 ∷ decimal k = whole ∙ ap (λ a. a ++ 58 ∷ r.1) first.0 ∙ ap (λ b. decimal s ++ 58 ∷ b) second.0 in
    subst (λ (q : PageId). (w ≡ page_text q) × FitsId q) same (spelled, (first.1, second.1)))))

range_of-text : (p : PageId) (last : ℕ) → FitsId p → last < 2 ^ 32 → range_of (range_text p last) ≡ Some (p, last)
unfolding range_of
range_of-text p last h fits =
    let cuts = cut_here 45 (page_text p) (decimal last) (page_lacks 45 p (lit< tt) h) in
    rw cuts (rw (page_of-text p h) (rw (number_of-decimal (2 ^ 32) last (wide _ fits) fits) refl))

range_is : (w : List ℕ) (r : PageId × ℕ) → range_of w ≡ Some r → (w ≡ range_text r.0 r.1) × FitsId r.0 × (r.1 < 2 ^ 32)
unfolding range_of
range_is w r e = option_and_then_some _ (cut_at 45 w) r e (λ c cuts e1. option_and_then_some _ (page_of c.0) r e1 (λ p page e2. option_and_then_some _ (number_of (2 ^ 32) c.1) r e2 (λ n last e3.
    let first = page_is c.0 p page in
    let second = number_is (2 ^ 32) n c.1 (lit≤ tt) last in
    let whole : w ≡ c.0 ++ 45 ∷ c.1 = cut_is 45 w c.0 c.1 cuts in
    let same : ◌≡◌ {A = PageId × ℕ} (p, n) r = cc in
    let spelled : w ≡ range_text p n = whole ∙ ap (λ a. a ++ 45 ∷ c.1) first.0 ∙ ap (λ b. page_text p ++ 45 ∷ b) second.0 in
    subst (λ (q : PageId × ℕ). (w ≡ range_text q.0 q.1) × FitsId q.0 × (q.1 < 2 ^ 32)) same (spelled, first.1, second.1))))

-- how many words stand behind the keyword
one_some : {P : Type 0} (f : List ℕ → Option Item) (args : List (List ℕ)) (i : Item) → one f args ≡ Some i → ((a : List ℕ) → args ≡ a ∷ [] → f a ≡ Some i → P) → P
one_some f [] i e k = let bad : ◌≡◌ {A = Option Item} None (Some i) = e in absurd (cc)
one_some f (a ∷ []) i e k = k a refl e
one_some f (a ∷ b ∷ bs) i e k = let bad : ◌≡◌ {A = Option Item} None (Some i) = e in absurd (cc)

two_some : {P : Type 0} (f : List ℕ → List ℕ → Option Item) (args : List (List ℕ)) (i : Item) → two f args ≡ Some i → ((a b : List ℕ) → args ≡ a ∷ b ∷ [] → f a b ≡ Some i → P) → P
two_some f [] i e k = let bad : ◌≡◌ {A = Option Item} None (Some i) = e in absurd (cc)
two_some f (a ∷ []) i e k = let bad : ◌≡◌ {A = Option Item} None (Some i) = e in absurd (cc)
two_some f (a ∷ b ∷ []) i e k = k a b refl e
two_some f (a ∷ b ∷ c ∷ cs) i e k = let bad : ◌≡◌ {A = Option Item} None (Some i) = e in absurd (cc)

three_some : {P : Type 0} (f : List ℕ → List ℕ → List ℕ → Option Item) (args : List (List ℕ)) (i : Item) → three f args ≡ Some i → ((a b c : List ℕ) → args ≡ a ∷ b ∷ c ∷ [] → f a b c ≡ Some i → P) → P
three_some f [] i e k = let bad : ◌≡◌ {A = Option Item} None (Some i) = e in absurd (cc)
three_some f (a ∷ []) i e k = let bad : ◌≡◌ {A = Option Item} None (Some i) = e in absurd (cc)
three_some f (a ∷ b ∷ []) i e k = let bad : ◌≡◌ {A = Option Item} None (Some i) = e in absurd (cc)
three_some f (a ∷ b ∷ c ∷ []) i e k = k a b c refl e
three_some f (a ∷ b ∷ c ∷ d ∷ ds) i e k = let bad : ◌≡◌ {A = Option Item} None (Some i) = e in absurd (cc)

-- keywords
keyword_is : (w : List ℕ) (ks : List Keyword) (k : Keyword) → found w ks ≡ Some k → w ≡ keyword_text k
keyword_is w [] k e = let bad : ◌≡◌ {A = Option Keyword} None (Some k) = e in absurd (cc)
keyword_is w (m ∷ ks) k e = cases (λ d. keyword_is w ks k d) (bytes_eq w (keyword_text m)) refl
  where
    cases : (found w ks ≡ Some k → w ≡ keyword_text k) → (b : Bool) → bytes_eq w (keyword_text m) ≡ b → w ≡ keyword_text k
    cases next true t =
        let same : w ≡ keyword_text m = search (rules, bytes_eq-Decides w (keyword_text m), t) in
        let told : Some m ≡ Some k = rw t at e in
        let alike : m ≡ k = cc in same ∙ ap keyword_text alike
    cases next false t = next (rw t at e)

setting_found : (name : Field) → keyword_of (setting_name name) ≡ Some (keyword.Set name)
setting_found Page = refl
setting_found Instances = refl
setting_found Frames = refl
setting_found Size = refl
setting_found Max = refl
setting_found OldPct = refl
setting_found OldTime = refl
setting_found OldMin = refl
setting_found Lsn = refl
setting_found First = refl

-- the words of what is said
abbrev IsWords : Item → List (List ℕ) → Type 0
IsWords i ws = (ws ≡ item_words i) × IsTypedItem i

set_words : (name : Field) (args : List (List ℕ)) (i : Item) → set_of name args ≡ Some i → IsWords i (setting_name name ∷ args)
set_words name args i e = one_some _ args i e (λ v shape e1. option_and_then_some _ (number_of (2 ^ 64) v) i e1 (λ n ne e2.
    let a = number_is (2 ^ 64) n v (lit≤ tt) ne in
    let same : Set name n ≡ i = cc in
    let words : args ≡ decimal n ∷ [] = simp (shape, a.0) in
    subst (λ (j : Item). IsWords j (setting_name name ∷ args)) same (ap (λ r. setting_name name ∷ r) words, a.1)))

thread_words : (args : List (List ℕ)) (i : Item) → thread_of args ≡ Some i → IsWords i (codes "thread" ∷ args)
thread_words args i e = one_some _ args i e (λ v shape e1. option_and_then_some _ (number_of (2 ^ 64) v) i e1 (λ k ke e2.
    let a = number_is (2 ^ 64) k v (lit≤ tt) ke in
    let same : Thread k ≡ i = cc in
    let words : args ≡ decimal k ∷ [] = simp (shape, a.0) in
    subst (λ (j : Item). IsWords j (codes "thread" ∷ args)) same (ap (λ r. codes "thread" ∷ r) words, a.1)))

-- a page and a moment
page_moment : (make : PageId → ℕ → Item) (args : List (List ℕ)) (i : Item) → two (λ p t. page_of p >>= λ page. number_of (2 ^ 64) t >>= λ now. Some (make page now)) args ≡ Some i
    → (page : PageId) × (now : ℕ) × (make page now ≡ i) × (args ≡ page_text page ∷ decimal now ∷ []) × FitsId page × (now < 2 ^ 64)
page_moment make args i e = two_some _ args i e (λ p t shape e1. option_and_then_some _ (page_of p) i e1 (λ page pe e2. option_and_then_some _ (number_of (2 ^ 64) t) i e2 (λ now te e3.
    let a = page_is p page pe in
    let b = number_is (2 ^ 64) now t (lit≤ tt) te in
    let same : make page now ≡ i = cc in
    let words : args ≡ page_text page ∷ decimal now ∷ [] = simp (shape, a.0, b.0) in
    (page, now, same, words, a.1, b.1))))

fix_words : (args : List (List ℕ)) (i : Item) → fix_of args ≡ Some i → IsWords i (codes "fix" ∷ args)
fix_words args i e = let w = page_moment (λ page now. Does (Fix page now)) args i e in subst (λ (j : Item). IsWords j (codes "fix" ∷ args)) w.2 (ap (λ r. codes "fix" ∷ r) w.3, (w.4, w.5))

create_words : (args : List (List ℕ)) (i : Item) → create_of args ≡ Some i → IsWords i (codes "create" ∷ args)
create_words args i e = let w = page_moment (λ page now. Does (Create page now)) args i e in subst (λ (j : Item). IsWords j (codes "create" ∷ args)) w.2 (ap (λ r. codes "create" ∷ r) w.3, (w.4, w.5))

read_words : (args : List (List ℕ)) (i : Item) → read_of args ≡ Some i → IsWords i (codes "read" ∷ args)
read_words args i e = three_some _ args i e (λ p x y shape e1. option_and_then_some _ (page_of p) i e1 (λ page pe e2. option_and_then_some _ (number_of (2 ^ 32) x) i e2 (λ at xe e3. option_and_then_some _ (number_of (2 ^ 32) y) i e3 (λ len ye e4.
    let a = page_is p page pe in
    let b = number_is (2 ^ 32) at x (lit≤ tt) xe in
    let c = number_is (2 ^ 32) len y (lit≤ tt) ye in
    let same : Does (Read page at len) ≡ i = cc in
    let words : args ≡ page_text page ∷ decimal at ∷ decimal len ∷ [] = simp (shape, a.0, b.0, c.0) in
    subst (λ (j : Item). IsWords j (codes "read" ∷ args)) same (ap (λ r. codes "read" ∷ r) words, (a.1, b.1, c.1))))))

put_words : (args : List (List ℕ)) (i : Item) → put_of args ≡ Some i → IsWords i (codes "put" ∷ args)
put_words args i e = three_some _ args i e (λ p x y shape e1. option_and_then_some _ (page_of p) i e1 (λ page pe e2. option_and_then_some _ (number_of (2 ^ 32) x) i e2 (λ at xe e3. option_and_then_some _ (hex_of y) i e3 (λ bytes ye e4.
    let a = page_is p page pe in
    let b = number_is (2 ^ 32) at x (lit≤ tt) xe in
    let c = hex_is y bytes ye in
    let same : Does (Put page at bytes) ≡ i = cc in
    let words : args ≡ page_text page ∷ decimal at ∷ hex bytes ∷ [] = simp (shape, a.0, b.0, c.0) in
    subst (λ (j : Item). IsWords j (codes "put" ∷ args)) same (ap (λ r. codes "put" ∷ r) words, (a.1, b.1, c.1))))))

unfix_words : (args : List (List ℕ)) (i : Item) → unfix_of args ≡ Some i → IsWords i (codes "unfix" ∷ args)
unfix_words args i e = one_some _ args i e (λ p shape e1. option_and_then_some _ (page_of p) i e1 (λ page pe e2.
    let a = page_is p page pe in
    let same : Does (Unfix page) ≡ i = cc in
    let words : args ≡ page_text page ∷ [] = simp (shape, a.0) in
    subst (λ (j : Item). IsWords j (codes "unfix" ∷ args)) same (ap (λ r. codes "unfix" ∷ r) words, a.1)))

scan_words : (args : List (List ℕ)) (i : Item) → scan_of args ≡ Some i → IsWords i (codes "scan" ∷ args)
scan_words args i e = two_some _ args i e (λ r t shape e1. option_and_then_some _ (range_of r) i e1 (λ pages pe e2. option_and_then_some _ (number_of (2 ^ 64) t) i e2 (λ now te e3.
    let a = range_is r pages pe in
    let b = number_is (2 ^ 64) now t (lit≤ tt) te in
    let same : Does (Scan pages.0 pages.1 now) ≡ i = cc in
    let words : args ≡ range_text pages.0 pages.1 ∷ decimal now ∷ [] = simp (shape, a.0, b.0) in
    subst (λ (j : Item). IsWords j (codes "scan" ∷ args)) same (ap (λ r. codes "scan" ∷ r) words, (a.1, a.2, b.1)))))

clean_words : (args : List (List ℕ)) (i : Item) → clean_of args ≡ Some i → IsWords i (codes "clean" ∷ args)
clean_words args i e = one_some _ args i e (λ n shape e1. option_and_then_some _ (number_of (2 ^ 32) n) i e1 (λ bound ne e2.
    let a = number_is (2 ^ 32) bound n (lit≤ tt) ne in
    let same : Does (Clean bound) ≡ i = cc in
    let words : args ≡ decimal bound ∷ [] = simp (shape, a.0) in
    subst (λ (j : Item). IsWords j (codes "clean" ∷ args)) same (ap (λ r. codes "clean" ∷ r) words, a.1)))

checkpoint_words : (args : List (List ℕ)) (i : Item) → checkpoint_of args ≡ Some i → IsWords i (codes "checkpoint" ∷ args)
checkpoint_words [] i e = let same : Does Checkpoint ≡ i = cc in subst (λ (j : Item). IsWords j (codes "checkpoint" ∷ [])) same (refl, tt)
checkpoint_words (a ∷ others) i e = let bad : ◌≡◌ {A = Option Item} None (Some i) = e in absurd (cc)

said_words : (k : Keyword) (args : List (List ℕ)) (i : Item) → said_by k args ≡ Some i → IsWords i (keyword_text k ∷ args)
said_words (keyword.Set name) args i e = set_words name args i e
said_words keyword.Thread args i e = thread_words args i e
said_words keyword.Fix args i e = fix_words args i e
said_words keyword.Create args i e = create_words args i e
said_words keyword.Read args i e = read_words args i e
said_words keyword.Put args i e = put_words args i e
said_words keyword.Unfix args i e = unfix_words args i e
said_words keyword.Scan args i e = scan_words args i e
said_words keyword.Clean args i e = clean_words args i e
said_words keyword.Checkpoint args i e = checkpoint_words args i e

-- what is read is spelled so
pub read_is_spelled : (line : List ℕ) (i : Item) → line_says line ≡ Some i → IsSpelled i line
read_is_spelled line i e = cases (is_nothing line) refl
  where
    cases : (b : Bool) → is_nothing line ≡ b → IsSpelled i line
    cases true t = let told : Some Nothing ≡ Some i = rw t at e in let same : Nothing ≡ i = cc in subst (λ (j : Item). IsSpelled j line) same t
    cases false t = words (slice_split (λ x. x == 32) line) refl (rw t at e)
      where
        words : (ws : List (List ℕ)) → slice_split (λ x. x == 32) line ≡ ws → words_say ws ≡ Some i → IsSpelled i line
        words [] cut told = let bad : ◌≡◌ {A = Option Item} None (Some i) = told in absurd (cc)
        words (w ∷ args) cut told = option_and_then_some _ (keyword_of w) i told (λ k named said.
            let text : w ≡ keyword_text k = keyword_is w keywords k named in
            let here = said_words k args i said in
            let joined : line ≡ join_with_byte 32 (item_words i) = sym (join_with_byte-slice_split 32 line) ∙ ap (join_with_byte 32) (cut ∙ ap (λ x. x ∷ args) text ∙ here.0) in
            spelled i joined here.1 k here.0)
          where
            spelled : (j : Item) → line ≡ join_with_byte 32 (item_words j) → IsTypedItem j → (k : Keyword) → (keyword_text k ∷ args) ≡ item_words j → IsSpelled j line
            spelled Nothing joined typed k full = let bad : ◌≡◌ {A = List (List ℕ)} (keyword_text k ∷ args) [] = full in absurd (cc)
            spelled (Set name n) joined typed k full = (joined, typed)
            spelled (Thread n) joined typed k full = (joined, typed)
            spelled (Does c) joined typed k full = (joined, typed)

-- what is spelled so is read
by_words : (i : Item) (line w : List ℕ) (ws : List (List ℕ)) → item_words i ≡ w ∷ ws → IsTypedItem i → is_nothing (join_with_byte 32 (w ∷ ws)) ≡ false
    → words_say (w ∷ ws) ≡ Some i → line ≡ join_with_byte 32 (item_words i) → line_says line ≡ Some i
by_words i line w ws words typed something says e =
    let here : line ≡ join_with_byte 32 (w ∷ ws) = e ∙ ap (join_with_byte 32) words in
    let says_something : is_nothing line ≡ false = ap is_nothing here ∙ something in
    let lacks : AllByRecursion (Lacks 32) (w ∷ ws) = subst (λ (all : List (List ℕ)). AllByRecursion (Lacks 32) all) words (words_lack 32 (lit< tt) i typed) in
    let cut : slice_split (λ x. x == 32) line ≡ w ∷ ws = ap (slice_split (λ x. x == 32)) here ∙ words_joined w ws lacks.0 lacks.1 in
    rw says_something (rw cut says)

command_read : (c : Command) (line : List ℕ) → line ≡ join_with_byte 32 (command_words c) → IsTyped c → line_says line ≡ Some (Does c)
command_read (Fix p now) line e h = by_words (Does (Fix p now)) line _ _ refl h refl
    (rw (page_of-text p h.0) (rw (number_of-decimal (2 ^ 64) now h.1 h.1) refl)) e
command_read (Create p now) line e h = by_words (Does (Create p now)) line _ _ refl h refl
    (rw (page_of-text p h.0) (rw (number_of-decimal (2 ^ 64) now h.1 h.1) refl)) e
command_read (Read p at len) line e h = by_words (Does (Read p at len)) line _ _ refl h refl
    (rw (page_of-text p h.0) (rw (number_of-decimal (2 ^ 32) at (wide _ h.1) h.1) (rw (number_of-decimal (2 ^ 32) len (wide _ h.2) h.2) refl))) e
command_read (Put p at bytes) line e h = by_words (Does (Put p at bytes)) line _ _ refl h refl
    (rw (page_of-text p h.0) (rw (number_of-decimal (2 ^ 32) at (wide _ h.1) h.1) (rw (hex_read bytes h.2) refl))) e
command_read (Unfix p) line e h = by_words (Does (Unfix p)) line _ _ refl h refl (rw (page_of-text p h) refl) e
command_read (Scan from last now) line e h = by_words (Does (Scan from last now)) line _ _ refl h refl
    (rw (range_of-text from last h.0 h.1) (rw (number_of-decimal (2 ^ 64) now h.2 h.2) refl)) e
command_read (Clean bound) line e h = by_words (Does (Clean bound)) line _ _ refl h refl (rw (number_of-decimal (2 ^ 32) bound (wide _ h) h) refl) e
command_read Checkpoint line e h = by_words (Does Checkpoint) line _ _ refl h refl refl e

set_says : (name : Field) (n : ℕ) → n < 2 ^ 64 → words_say (setting_name name ∷ decimal n ∷ []) ≡ Some (Set name n)
set_says name n h = rw (setting_found name) (rw (number_of-decimal (2 ^ 64) n h h) refl)

set_something : (name : Field) (w : List ℕ) → is_nothing (join_with_byte 32 (setting_name name ∷ w ∷ [])) ≡ false
set_something Page w = refl
set_something Instances w = refl
set_something Frames w = refl
set_something Size w = refl
set_something Max w = refl
set_something OldPct w = refl
set_something OldTime w = refl
set_something OldMin w = refl
set_something Lsn w = refl
set_something First w = refl

pub spelled_is_read : (line : List ℕ) (i : Item) → IsSpelled i line → line_says line ≡ Some i
spelled_is_read line Nothing h = let nothing : is_nothing line ≡ true = h in rw nothing refl
spelled_is_read line (Set name n) h = by_words (Set name n) line _ _ refl h.1 (set_something name (decimal n)) (set_says name n h.1) h.0
spelled_is_read line (Thread k) h = by_words (Thread k) line _ _ refl h.1 refl (rw (number_of-decimal (2 ^ 64) k h.1 h.1) refl) h.0
spelled_is_read line (Does c) h = command_read c line h.0 h.1
