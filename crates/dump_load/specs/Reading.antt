-- What a line of a dump says, read from the left. The code is proved against this function, and it against the spelling.
use Rattle.std.specs.Prelude.{ℕ, List, ◌^◌, Option, Some}
use Rattle.std.specs.Option.{option_and_then}
use Rattle.page_ids.specs.Numerals.{number_of, cut_at}
use Rattle.page_ids.specs.declared.ids.PageId.{PageId}

abbrev pub id_of : List ℕ → Option PageId
id_of line =
    option_and_then (λ (r : List ℕ × List ℕ).
    option_and_then (λ space. option_and_then (λ page. Some (record { space = space; page = page })) (number_of (2 ^ 32) r.1)) (number_of (2 ^ 32) r.0)) (cut_at 44 line)
