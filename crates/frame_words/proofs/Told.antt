-- The image of a plain frame is told.
use Rattle.std.specs.Option.{option_map}
use Rattle.std.proofs.Common.{◌≡◌, Option, None, Some, true, refl}
use Rattle.page_ids.specs.Content.{Content}
use Rattle.frame_words.specs.Rows.{Uncovers}
use Rattle.frame_words.specs.Plain.{is_told}

pub image_told : (image : Option Content) → is_told (option_map Some image) ≡ true
image_told None = refl
image_told (Some c) = refl

pub told_stays : (image : Option (Option Content)) → is_told image ≡ true → Uncovers image image
told_stays None told = refl
told_stays (Some None) told = told
told_stays (Some (Some c)) told = refl
