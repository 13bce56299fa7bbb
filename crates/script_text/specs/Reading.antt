-- What a line says, read from the left. The code is proved against these functions, and they against the spelling.
use Rattle.std.specs.Prelude.{ℕ, List, [], ◌∷◌, ◌+◌, ◌-◌, ◌*◌, ◌^◌, ◌==◌, ◌&&◌, nat_le, Option, None, Some, if◌then◌else◌, codes}
use Rattle.std.specs.Str.{bytes_eq}
use Rattle.std.specs.List.{slice_split}
use Rattle.std.specs.Option.{option_and_then}
use Rattle.page_ids.specs.Numerals.{number_of, cut_at}
use Rattle.page_ids.specs.declared.ids.PageId.{PageId}
use Rattle.script_text.specs.Text.{is_nothing, setting_name}
use Rattle.script_text.specs.declared.script.Command.TheVariants.{Fix, Create, Read, Put, Unfix, Scan, Clean, Checkpoint}
use Rattle.page_ids.specs.declared.config.Field.{Field}
use Rattle.page_ids.specs.declared.config.Field.TheVariants.{Page, Instances, Frames, Size, Max, OldPct, OldTime, OldMin, Lsn, First}
use Rattle.script_text.specs.declared.lines.Item.{Item}
use Rattle.script_text.specs.declared.lines.Item.TheVariants.{Nothing, Set, Thread, Does}
use Rattle.script_text.specs.declared.lines.Keyword.{Keyword}
use Rattle.script_text.specs.declared.lines.Keyword.TheVariants as keyword

infixl 10 ◌>>=◌
abbrev pub ◌>>=◌ : {A B : Type 0} → Option A → (A → Option B) → Option B
o >>= f = option_and_then f o

abbrev pub page_of : List ℕ → Option PageId
page_of word = cut_at 58 word >>= λ r. number_of (2 ^ 32) r.0 >>= λ space. number_of (2 ^ 32) r.1 >>= λ page. Some (record { space = space; page = page })

-- a page, and the number of another one
unfoldable pub range_of : List ℕ → Option (PageId × ℕ)
range_of word = cut_at 45 word >>= λ r. page_of r.0 >>= λ from. number_of (2 ^ 32) r.1 >>= λ last. Some (from, last)

-- what a lower-case hexadecimal digit stands for
abbrev pub hex_digit : ℕ → Option ℕ
hex_digit c = if nat_le 48 c && nat_le c 57 then Some (c - 48) else if nat_le 97 c && nat_le c 102 then Some (c - 97 + 10) else None

-- the byte that two digits write
abbrev pub byte_of : ℕ → ℕ → Option ℕ
byte_of a b = hex_digit a >>= λ high. hex_digit b >>= λ low. Some (high * 16 + low)

-- the bytes that a word writes
abbrev pub hex_of : List ℕ → Option (List ℕ)
hex_of [] = Some []
hex_of (a ∷ []) = None
hex_of (a ∷ b ∷ cs) = byte_of a b >>= λ byte. hex_of cs >>= λ (bytes : List ℕ). Some (byte ∷ bytes)

abbrev pub keyword_text : Keyword → List ℕ
keyword_text (keyword.Set name) = setting_name name
keyword_text keyword.Thread = codes "thread"
keyword_text keyword.Fix = codes "fix"
keyword_text keyword.Create = codes "create"
keyword_text keyword.Read = codes "read"
keyword_text keyword.Put = codes "put"
keyword_text keyword.Unfix = codes "unfix"
keyword_text keyword.Scan = codes "scan"
keyword_text keyword.Clean = codes "clean"
keyword_text keyword.Checkpoint = codes "checkpoint"

abbrev pub found : List ℕ → List Keyword → Option Keyword
found w [] = None
found w (k ∷ ks) = if bytes_eq w (keyword_text k) then Some k else found w ks

abbrev pub keywords : List Keyword
keywords =
    keyword.Set Page ∷ keyword.Set Instances ∷ keyword.Set Frames ∷ keyword.Set Size ∷ keyword.Set Max
    ∷ keyword.Set OldPct ∷ keyword.Set OldTime ∷ keyword.Set OldMin ∷ keyword.Set Lsn ∷ keyword.Set First
    ∷ keyword.Thread ∷ keyword.Fix ∷ keyword.Create ∷ keyword.Read ∷ keyword.Put ∷ keyword.Unfix
    ∷ keyword.Scan ∷ keyword.Clean ∷ keyword.Checkpoint ∷ []

abbrev pub keyword_of : List ℕ → Option Keyword
keyword_of w = found w keywords

-- a kind of line with so many words behind its keyword
abbrev pub one : (List ℕ → Option Item) → List (List ℕ) → Option Item
one f (a ∷ []) = f a
one f _ = None

abbrev pub two : (List ℕ → List ℕ → Option Item) → List (List ℕ) → Option Item
two f (a ∷ b ∷ []) = f a b
two f _ = None

abbrev pub three : (List ℕ → List ℕ → List ℕ → Option Item) → List (List ℕ) → Option Item
three f (a ∷ b ∷ c ∷ []) = f a b c
three f _ = None

-- the words behind the keyword, one kind of line each
abbrev pub set_of : Field → List (List ℕ) → Option Item
set_of name = one (λ v. number_of (2 ^ 64) v >>= λ n. Some (Set name n))

abbrev pub thread_of : List (List ℕ) → Option Item
thread_of = one (λ k. number_of (2 ^ 64) k >>= λ n. Some (Thread n))

abbrev pub fix_of : List (List ℕ) → Option Item
fix_of = two (λ p t. page_of p >>= λ page. number_of (2 ^ 64) t >>= λ now. Some (Does (Fix page now)))

abbrev pub create_of : List (List ℕ) → Option Item
create_of = two (λ p t. page_of p >>= λ page. number_of (2 ^ 64) t >>= λ now. Some (Does (Create page now)))

abbrev pub read_of : List (List ℕ) → Option Item
read_of = three (λ p a l. page_of p >>= λ page. number_of (2 ^ 32) a >>= λ at. number_of (2 ^ 32) l >>= λ len. Some (Does (Read page at len)))

abbrev pub put_of : List (List ℕ) → Option Item
put_of = three (λ p a h. page_of p >>= λ page. number_of (2 ^ 32) a >>= λ at. hex_of h >>= λ bytes. Some (Does (Put page at bytes)))

abbrev pub unfix_of : List (List ℕ) → Option Item
unfix_of = one (λ p. page_of p >>= λ page. Some (Does (Unfix page)))

abbrev pub scan_of : List (List ℕ) → Option Item
scan_of = two (λ r t. range_of r >>= λ pages. number_of (2 ^ 64) t >>= λ now. Some (Does (Scan pages.0 pages.1 now)))

abbrev pub clean_of : List (List ℕ) → Option Item
clean_of = one (λ n. number_of (2 ^ 32) n >>= λ bound. Some (Does (Clean bound)))

abbrev pub checkpoint_of : List (List ℕ) → Option Item
checkpoint_of [] = Some (Does Checkpoint)
checkpoint_of _ = None

abbrev pub said_by : Keyword → List (List ℕ) → Option Item
said_by (keyword.Set name) args = set_of name args
said_by keyword.Thread args = thread_of args
said_by keyword.Fix args = fix_of args
said_by keyword.Create args = create_of args
said_by keyword.Read args = read_of args
said_by keyword.Put args = put_of args
said_by keyword.Unfix args = unfix_of args
said_by keyword.Scan args = scan_of args
said_by keyword.Clean args = clean_of args
said_by keyword.Checkpoint args = checkpoint_of args

abbrev pub words_say : List (List ℕ) → Option Item
words_say [] = None
words_say (w ∷ args) = do
  k ← keyword_of w
  said_by k args

abbrev pub line_says : List ℕ → Option Item
line_says line = if is_nothing line then Some Nothing else words_say (slice_split (λ x. x == 32) line)
