use Rattle.std.proofs.Common.{rules, FitsSigned, subst, sym, ◌≡◌, length, w32}
use Rattle.std.proofs.lemmas.Int.{to_z-of_z}
use Rattle.entries.specs.Layout.{EntryLayout}
use Rattle.entries.proofs.Writing.{entry_laid, entry_written}
use Rattle.entries.proofs.entry.Sqe.write.Goals as goal

pub returns : goal.returns
returns c =
    let e = c.args.self.now in
    let f : FitsSigned w32 e.fd = search rules in
    let g : FitsSigned w32 e.splice_fd_in = search rules in
    let n : length e.rest ≡ 16 = search rules in
    let fd = rw (to_z-of_z w32 e.fd f) at c.put_i32.ensures in
    let splice = rw (to_z-of_z w32 e.splice_fd_in g) at c.put_i32-2.ensures in
    let same = entry_written e _ _ _ _ _ _ _ _ _ _ _ _ _ c.put_u8.ensures c.put_u8-2.ensures c.put_u16.ensures fd c.put_u64.ensures c.put_u64-2.ensures c.put_u32.ensures c.put_u32-2.ensures c.put_u64-3.ensures c.put_u16-2.ensures c.put_u16-3.ensures splice c.copy_from_slice.ensures.after in
    subst (EntryLayout e) (sym same) (entry_laid e n)
