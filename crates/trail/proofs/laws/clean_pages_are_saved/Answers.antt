use Rattle.trail.proofs.DirtyPages.{clean_saved, first_saved, newest_value}
use Rattle.trail.proofs.laws.clean_pages_are_saved.Goals as goal

pub returns : goal.returns
returns c = record { clean = clean_saved; unwritten = first_saved; newest = newest_value }
