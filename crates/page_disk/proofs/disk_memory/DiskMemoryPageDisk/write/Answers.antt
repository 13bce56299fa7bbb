use Rattle.std.proofs.Common.{rules, ◌≡◌, ◌++◌, false, length, take, drop, sym, subst, ◌∙◌}
use Rattle.page_disk.specs.MemoryDisks.{IsKept, AreKeptSized, kept_of, bytes_of, whole, size_of}
use Rattle.page_disk.proofs.Kept.{bytes_sized, over_all, told_whole}
use Rattle.page_disk.proofs.disk_memory.DiskMemoryPageDisk.write.Goals as goal

-- at Ok the page is kept as its bytes
put_whole : (c : goal.Else-listed) → IsKept c.args.page (whole c.args.bytes.now) c.args.self.now.kept c.put.new.self.kept
put_whole c =
    let now = c.args.self.now in
    let bytes = c.args.bytes.now in
    let before = bytes_of now c.args.page in
    let most = c.put_len-most.result in
    let front = take most bytes in
    let all : most ≡ length bytes = search rules in
    let sized : AreKeptSized (size_of now) now.kept = subst (λ d. AreKeptSized (size_of d) d.kept) c.self.view_is c.self.invariant in
    let long : length before ≡ length bytes = bytes_sized (size_of now) (kept_of now.kept c.args.page) (sized c.args.page) ∙ sym c.requires.size in
    let put : IsKept c.args.page (record { bytes = front ++ drop (length front) before; torn = false }) now.kept c.put.new.self.kept = search rules in
    subst (λ xs. IsKept c.args.page (whole xs) now.kept c.put.new.self.kept) (over_all most bytes before all long) put

pub returns-clause-written : goal.returns-clause-written
returns-clause-written c told =
    let spaces : c.put.new.self.spaces ≡ c.args.self.now.spaces = search rules in
    told_whole c.args.self.now c.put.new.self c.args.page c.args.bytes.now spaces c.requires.inside (put_whole c)

pub returns-clause-ok : goal.returns-clause-ok
returns-clause-ok c = (search rules, search rules, put_whole c)
