use Rattle.std.proofs.Common.{◌≡◌, ◌∙◌, length, max, None, refl, sym, ap, subst, arith}
use Rattle.link_lists.specs.Grid.{Grid}
use Rattle.page_hash.specs.Cells.{AreFiled}
use Rattle.page_hash.specs.View.{page_in, IsRoomChanged}
use Rattle.page_hash.specs.Inside.{AreFramesApart}
use Rattle.page_hash.proofs.Homes.{resized}
use Rattle.page_hash.proofs.hash.PageHash.resize.Goals as goal

pub file_all-requires-clause-empty : goal.file_all-requires-clause-empty
file_all-requires-clause-empty c =
    let pairs : c.grow.new.self.pairs ≡ 1 = c.in_ok-grow.ensures.grown.pairs ∙ ap (λ (g : Grid). g.pairs) c.new-nodes.ensures in
    c.in_ok-cells.ensures.empty c.grow.new.self (omega (arith, pairs))

pub file_all-requires-clause-some : goal.file_all-requires-clause-some
file_all-requires-clause-some c = omega (arith, c.in_ok-cells.ensures.count, c.requires)

pub file_all-requires-clause-exist : goal.file_all-requires-clause-exist
file_all-requires-clause-exist c =
    let nodes = c.in_ok-grow.ensures.grown.nodes ∙ ap (λ (g : Grid). max g.nodes c.max-room.result) c.new-nodes.ensures in
    omega (arith, nodes, ap length c.deref.ensures.value, c.in_ok-resize.ensures.len, c.resize.new.self.ok.0)

pub invariant_of-self : goal.invariant_of-self
invariant_of-self c =
    let k = c.self.invariant in
    let e = c.in_err-resize.ensures.items in
    record {
      some = k.some;
      fits = omega (arith, k.fits, ap length e);
      nodes = k.nodes ∙ sym (ap length e);
      apart = subst (λ xs. AreFramesApart xs) (sym e) k.apart;
      filed = subst (λ xs. AreFiled c.self.inside.nodes c.self.inside.cells.items (page_in xs)) (sym e) k.filed;
    }

pub invariant_of-self-2 : goal.invariant_of-self-2
invariant_of-self-2 c =
    let e = c.in_ok-resize.ensures in
    let done = resized c.self.inside.pages.items c.resize.new.self.items c.self.inside.pages.len c.max-room.result c.self.inside.pages.ok.0 (omega (arith, e.len, c.resize.new.self.ok.0)) (omega (arith, c.max-room.ensures, c.len.ensures)) c.self.invariant.apart (λ f. e.by_index.0 f None) (λ f. e.by_index.1 f None refl) in
    let nodes = c.in_ok-grow.ensures.grown.nodes ∙ ap (λ (g : Grid). max g.nodes c.max-room.result) c.new-nodes.ensures in
    let filed = c.file_all.ensures in
    record {
      some = omega (arith, c.in_ok-cells.ensures.count, c.requires, filed.cells, c.file_all.new.cells.ok.0);
      fits = omega (arith, done.1.room_is, c.max-room.type_inv);
      nodes = omega (arith, filed.nodes, nodes, done.1.room_is);
      apart = done.0;
      filed = subst (λ xs. AreFiled c.file_all.new.nodes c.file_all.new.cells.items (page_in xs)) c.deref.ensures.value filed.filed;
    }

pub returns-clause-ok : goal.returns-clause-ok
returns-clause-ok c =
    let e = c.in_ok-resize.ensures in
    let done = resized c.self.inside.pages.items c.resize.new.self.items c.self.inside.pages.len c.max-room.result c.self.inside.pages.ok.0 (omega (arith, e.len, c.resize.new.self.ok.0)) (omega (arith, c.max-room.ensures, c.len.ensures)) c.self.invariant.apart (λ f. e.by_index.0 f None) (λ f. e.by_index.1 f None refl) in
    let frames : c.max-room.result ≡ max (length c.args.self.now) c.args.frames = omega (arith, c.max-room.ensures, c.len.ensures, c.self.inside.pages.ok.0, ap length c.self.view_is) in
    subst (λ xs. IsRoomChanged xs c.resize.new.self.items (max (length c.args.self.now) c.args.frames)) c.self.view_is (subst (λ n. IsRoomChanged c.self.inside.pages.items c.resize.new.self.items n) frames done.1)
