-- The words of a line have no byte below the dash: no blank and no newline.
use Rattle.std.proofs.Common.{inl, ℕ, List, [], ◌∷◌, ◌≡◌, ◌/◌, ◌%◌, ◌^◌, ◌<◌, true, false, nat_le, refl, arith, rules}
use Rattle.std.specs.Prelude.{◌==◌, codes}
use Rattle.std.specs.Fmt.{decimal, digit_glyph}
use Rattle.std.specs.List.{AllByRecursion, join_with_byte}
use Rattle.std.proofs.lemmas.Bool.Decides.{nat_tests}
use Rattle.std.proofs.lemmas.List.Elements.{All-append, All-cons, All-nil, All-from_recursion}
use Rattle.page_ids.specs.Spelling.{page_text, hex}
use Rattle.page_ids.specs.declared.ids.PageId.{PageId}
use Rattle.page_ids.specs.declared.config.Field.{Field}
use Rattle.page_ids.specs.declared.config.Field.TheVariants.{Page, Instances, Frames, Size, Max, OldPct, OldTime, OldMin, Lsn, First}
use Rattle.page_ids.proofs.Cuts.{Lacks, decimal_lacks}
use Rattle.page_ids.specs.Typed.{FitsId, AreBytes}
use Rattle.script_text.specs.Text.{command_words, item_words, setting_name, range_text, IsTyped, IsTypedItem}
use Rattle.script_text.specs.declared.script.Command.{Command}
use Rattle.script_text.specs.declared.script.Command.TheVariants.{Fix, Create, Read, Put, Unfix, Scan, Clean, Checkpoint}
use Rattle.script_text.specs.declared.lines.Item.{Item}
use Rattle.script_text.specs.declared.lines.Item.TheVariants.{Nothing, Set, Thread, Does}

-- digits, letters and what stands between them
abbrev IsHigh : List ℕ → Type 0
IsHigh w = AllByRecursion (λ x. nat_le 48 x ≡ true) w

high_lacks : (c : ℕ) → c < 48 → (w : List ℕ) → IsHigh w → Lacks c w
high_lacks c low w h = All-from_recursion (λ x. (x == c) ≡ false) w (each w h)
  where
    other : (x : ℕ) → nat_le 48 x ≡ true → (x == c) ≡ false
    other x high = grind (arith, nat_tests)

    each : (v : List ℕ) → IsHigh v → AllByRecursion (λ x. (x == c) ≡ false) v
    each [] h = tt
    each (x ∷ xs) h = (other x h.0, each xs h.1)

number_lacks : (c n : ℕ) → c < 48 → n < 2 ^ 64 → Lacks c (decimal n)
number_lacks c n low h = decimal_lacks c n (inl low) h

pub short_lacks : (c n : ℕ) → c < 48 → n < 2 ^ 32 → Lacks c (decimal n)
short_lacks c n low h = number_lacks c n low (omega (arith, h))

pub page_lacks : (c : ℕ) (p : PageId) → c < 48 → FitsId p → Lacks c (page_text p)
page_lacks c p low h = All-append (λ x. (x == c) ≡ false) (decimal p.space) (58 ∷ decimal p.page) (short_lacks c p.space low h.0)
    (All-cons (λ x. (x == c) ≡ false) 58 (decimal p.page) (grind (arith, nat_tests)) (short_lacks c p.page low h.1))

range_lacks : (c : ℕ) (p : PageId) (last : ℕ) → c < 45 → FitsId p → last < 2 ^ 32 → Lacks c (range_text p last)
range_lacks c p last low h fits = All-append (λ x. (x == c) ≡ false) (page_text p) (45 ∷ decimal last) (page_lacks c p (omega (arith, low)) h)
    (All-cons (λ x. (x == c) ≡ false) 45 (decimal last) (grind (arith, nat_tests)) (short_lacks c last (omega (arith, low)) fits))

hex_lacks : (c : ℕ) (bytes : List ℕ) → c < 48 → AreBytes bytes → Lacks c (hex bytes)
hex_lacks c bytes low h = high_lacks c low (hex bytes) (each bytes h)
  where
    glyph : (d : ℕ) → d < 16 → nat_le 48 (digit_glyph false d) ≡ true
    glyph d small = grind (arith, nat_tests)

    each : (bs : List ℕ) → AreBytes bs → IsHigh (hex bs)
    each [] h = tt
    each (b ∷ bs) h = (glyph (b / 16) (omega (arith, h.0)), (glyph (b % 16) (omega arith), each bs h.1))

setting_high : (name : Field) → IsHigh (setting_name name)
setting_high Page = search rules
setting_high Instances = search rules
setting_high Frames = search rules
setting_high Size = search rules
setting_high Max = search rules
setting_high OldPct = search rules
setting_high OldTime = search rules
setting_high OldMin = search rules
setting_high Lsn = search rules
setting_high First = search rules

small : (c : ℕ) → c < 45 → c < 48
small c low = omega (arith, low)

command_lacks : (c : ℕ) → c < 45 → (command : Command) → IsTyped command → AllByRecursion (Lacks c) (command_words command)
command_lacks c low (Fix p now) h = (high_lacks c (small c low) (codes "fix") (search rules), (page_lacks c p (small c low) h.0, (number_lacks c now (small c low) h.1, tt)))
command_lacks c low (Create p now) h = (high_lacks c (small c low) (codes "create") (search rules), (page_lacks c p (small c low) h.0, (number_lacks c now (small c low) h.1, tt)))
command_lacks c low (Read p at len) h = (high_lacks c (small c low) (codes "read") (search rules), (page_lacks c p (small c low) h.0, (short_lacks c at (small c low) h.1, (short_lacks c len (small c low) h.2, tt))))
command_lacks c low (Put p at bytes) h = (high_lacks c (small c low) (codes "put") (search rules), (page_lacks c p (small c low) h.0, (short_lacks c at (small c low) h.1, (hex_lacks c bytes (small c low) h.2, tt))))
command_lacks c low (Unfix p) h = (high_lacks c (small c low) (codes "unfix") (search rules), (page_lacks c p (small c low) h, tt))
command_lacks c low (Scan from last now) h = (high_lacks c (small c low) (codes "scan") (search rules), (range_lacks c from last low h.0 h.1, (number_lacks c now (small c low) h.2, tt)))
command_lacks c low (Clean bound) h = (high_lacks c (small c low) (codes "clean") (search rules), (short_lacks c bound (small c low) h, tt))
command_lacks c low Checkpoint h = (high_lacks c (small c low) (codes "checkpoint") (search rules), tt)

pub words_lack : (c : ℕ) → c < 45 → (i : Item) → IsTypedItem i → AllByRecursion (Lacks c) (item_words i)
words_lack c low Nothing h = tt
words_lack c low (Set name n) h = (high_lacks c (small c low) (setting_name name) (setting_high name), (number_lacks c n (small c low) h, tt))
words_lack c low (Thread k) h = (high_lacks c (small c low) (codes "thread") (search rules), (number_lacks c k (small c low) h, tt))
words_lack c low (Does command) h = command_lacks c low command h

-- words without newlines, with blanks between them
pub line_lacks : (ws : List (List ℕ)) → AllByRecursion (Lacks 10) ws → Lacks 10 (join_with_byte 32 ws)
line_lacks [] h = All-nil (λ x. (x == 10) ≡ false)
line_lacks (w ∷ []) h = h.0
line_lacks (w ∷ v ∷ ws) h = All-append (λ x. (x == 10) ≡ false) w (32 ∷ join_with_byte 32 (v ∷ ws)) h.0
    (All-cons (λ x. (x == 10) ≡ false) 32 (join_with_byte 32 (v ∷ ws)) refl (line_lacks (v ∷ ws) h.1))
