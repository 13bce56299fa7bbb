use Rattle.trail.specs.Victim.{from_the_tail}
use Rattle.frame_words.specs.Seen.{KeepsRoom}
use Rattle.instance_lists.proofs.Walks.{left_at}
use Rattle.desk.proofs.Seeking.{SoFar}
use Rattle.desk.proofs.desk.Desk.pass.Given as goal

abbrev pub invariant-loop-at : goal.invariant-loop-at
invariant-loop-at g l = SoFar l.self.state.config l.self.state.history (g.F.Frames.seen l.fn.frames) (g.F.Frames.seen l.frames) l.soiled l.at l.fn.passed.items l.passed.items
    × KeepsRoom (g.F.Frames.room l.fn.frames) (g.F.Frames.room l.frames)

abbrev pub decreases-loop-at : goal.decreases-loop-at
decreases-loop-at g l = left_at l.self.state.history l.at (from_the_tail l.self.state.config l.self.state.history)
