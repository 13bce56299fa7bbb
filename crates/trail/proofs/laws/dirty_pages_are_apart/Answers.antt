use Rattle.trail.specs.Dirt.{dirty}
use Rattle.trail.proofs.DirtyPages.{found_dirty, is_dirtied, is_cleaned, front_leaves}
use Rattle.trail.proofs.laws.dirty_pages_are_apart.Goals as goal

pub returns : goal.returns
returns c = record {
  apart = found_dirty;
  put = λ h e q p at bytes start end is. rw is (is_dirtied q p start end (dirty h));
  create = λ h e q p f start end now is. rw is (is_dirtied q p start end (dirty h));
  write = λ h e q p lsn upto is. rw is (is_cleaned q p (dirty h));
  front = front_leaves;
}
