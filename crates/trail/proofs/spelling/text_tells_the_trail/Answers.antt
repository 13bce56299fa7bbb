use Rattle.trail.proofs.TrailWords.{same_trail}
use Rattle.trail.proofs.spelling.text_tells_the_trail.Goals as goal

pub returns : goal.returns
returns c = same_trail
