use Rattle.std.proofs.Common.{subst}
use Rattle.page_hash.specs.View.{IsInOrder}
use Rattle.page_hash.proofs.Homes.{in_order}
use Rattle.page_hash.proofs.hash.PageHash.stands_in_order.Goals as goal

pub returns : goal.returns
returns c = subst (λ pages. IsInOrder pages) c.self.view_is (in_order c.self.inside.pages.items c.self.invariant.apart)
