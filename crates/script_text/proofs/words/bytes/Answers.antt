use Rattle.script_text.proofs.Hex.{hex_step}
use Rattle.script_text.proofs.words.bytes.Goals as goal

pub loop-rest-preserved : goal.loop-rest-preserved
loop-rest-preserved c = hex_step c.loop-rest.bytes.items c.push.new.self.items c.loop-rest.rest.now c.in-Some.byte _ c.in-len2-up.len_at_least c.in-Some.ensures c.in_ok-push.ensures.items c.loop-rest.invariant
