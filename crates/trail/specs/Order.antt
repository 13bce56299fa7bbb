-- The LRU order of an instance's pages, as its history gives it, the newest entry first.
use Rattle.std.specs.Prelude.{List, [], ◌∷◌}
use Rattle.page_ids.specs.Midpoint.{Numbers, Order, numbers_of, empty_order, read_in, touch, evict}
use Rattle.page_ids.specs.Same.{same_page}
use Rattle.page_ids.specs.declared.ids.PageId.{PageId}
use Rattle.page_ids.specs.declared.config.Config.{Config}
use Rattle.trail.specs.declared.event.Kind.{Kind}
use Rattle.trail.specs.declared.event.Kind.TheVariants as kind
use Rattle.trail.specs.declared.event.Entry.{Entry}

-- A load reads its page in, a fix touches it, a create does both, and an evict takes it out. A move leaves a page where it stands.
abbrev pub order_after : Numbers → Kind → Order PageId → Order PageId
order_after n (kind.Load p f) o = read_in n p o
order_after n (kind.Fix p f clock now) o = touch same_page n p now o
order_after n (kind.Create p f start end now) o = touch same_page n p now (read_in n p o)
order_after n (kind.Put p at bytes start end) o = o
order_after n (kind.Evict p f passed) o = evict same_page p o
order_after n (kind.Write p lsn upto) o = o
order_after n (kind.Move p from to) o = o
order_after n (kind.Withdraw from) o = o
order_after n (kind.Undo from) o = o
order_after n (kind.Shrink chunks) o = o
order_after n (kind.Grow chunks) o = o
order_after n (kind.Resize bytes chunks) o = o
order_after n (kind.Clean written skipped) o = o
order_after n (kind.Check lsn) o = o
order_after n (kind.WatchSet p) o = o
order_after n (kind.WatchAt p f) o = o
order_after n (kind.Occurred p arrived) o = o
order_after n (kind.Unwatch p) o = o
order_after n (kind.Dump pct ids) o = o
order_after n (kind.Refused asked why) o = o

-- the order after the whole history
abbrev pub order : Config → List Entry → Order PageId
order c [] = empty_order
order c (e ∷ h) = order_after (numbers_of c) e.kind (order c h)
