use Rattle.std.proofs.Common.{rules, ◌≡◌, ◌-◌, ◌+◌, ◌++◌, ◌∙◌, ℕ, List, length, take, drop, ap, sym, subst, arith}
use Rattle.std.specs.Prelude.{replicate}
use Rattle.std.proofs.lemmas.List.{take_all, drop-replicate}
use Rattle.page_disk.specs.MemoryDisks.{size_of, kept_of, bytes_of, AreKeptSized}
use Rattle.page_disk.proofs.Kept.{bytes_sized}
use Rattle.page_disk.proofs.disk_memory.DiskMemory.append_rest.Goals as goal

pub slice_bounds-extend_from_slice-count : goal.slice_bounds-extend_from_slice-count
slice_bounds-extend_from_slice-count c =
    let now = c.args.self.now in
    let sized : AreKeptSized (size_of now) now.kept = subst (λ d. AreKeptSized (size_of d) d.kept) c.self.view_is c.self.invariant in
    let is : c.deref.result.now ≡ bytes_of now c.args.page = search rules in
    omega (arith, c.requires, ap length is, bytes_sized (size_of now) (kept_of now.kept c.args.page) (sized c.args.page))

pub slice_bounds-extend_from_slice-start : goal.slice_bounds-extend_from_slice-start
slice_bounds-extend_from_slice-start c = slice_bounds-extend_from_slice-count c

-- a page that isn't kept is of zeros
none_kept : (c : goal.In_ok-resize-in-None) → bytes_of c.args.self.now c.args.page ≡ replicate (size_of c.args.self.now) 0
none_kept c = search rules

pub returns-in_ok-resize-in-None : goal.returns-in_ok-resize-in-None
returns-in_ok-resize-in-None c =
    let now = c.args.self.now in
    let out = c.args.out.now.items in
    let at = c.args.at in
    let n = c.len.result + (c.bytes.result - at) in
    let bytes : c.bytes.result ≡ size_of now = search rules in
    let count : n - length out ≡ size_of now - at = omega (arith, c.len.ensures, bytes, c.args.out.now.ok.0) in
    let items : c.resize.new.self.items ≡ take n out ++ replicate (n - length out) 0 = search rules in
    items
    ∙ ap (λ (xs : List ℕ). xs ++ replicate (n - length out) 0) (take_all n out (omega (arith, c.len.ensures, c.args.out.now.ok.0)))
    ∙ ap (λ k. out ++ replicate k 0) count
    ∙ ap (λ xs. out ++ xs) (sym (drop-replicate at (size_of now) 0))
    ∙ ap (λ xs. out ++ drop at xs) (sym (none_kept c))
