use Rattle.std.proofs.Common.{◌∙◌, ap, length, map, drop, arith}
use Rattle.std.proofs.lemmas.List.{length-map}
use Rattle.shared_pages.specs.Lists.{elements}
use Rattle.shared_pages.proofs.Joining.{elements-append, lent_all, lent_none, lent_page, lent_size, paged_over, there_in}
use Rattle.shared_pages.proofs.shared.SharedList.restore.Goals as goal

pub loop-k-init : goal.loop-k-init
loop-k-init g c = lent_none (map (λ s. s.value.items) c.self.inside.pages.items) c.add_pages.new.pages.items

pub lend-requires : goal.lend-requires
lend-requires g c =
    let extends = rw c.deref.ensures.value at c.in_ok-add_pages.ensures.extends in
    let paged = (extends g.row.N c.room.inside.len c.self.inside.len c.room.invariant c.self.invariant).0 in
    let room = rw c.deref.ensures.value at c.in_ok-add_pages.ensures.room in
    let count = c.self.inside.pages.ok.0 in
    let mapped = length-map c.self.inside.pages.items (λ s. s.value.items) in
    let there = there_in (λ s. s.value.items) c.self.inside.pages.items c.loop-k.k c.index.result.now c.in_ok-try_clone.field-0.value.items (omega (arith, count)) c.index.ensures (ap (λ v. v.items) c.in_ok-try_clone.ensures) in
    lent_size c.loop-k.pages.items (map (λ s. s.value.items) c.self.inside.pages.items) c.add_pages.new.pages.items g.row.N c.room.inside.len c.self.inside.len c.loop-k.k c.index_mut-page.result.now c.in_ok-try_clone.field-0.value.items
    c.loop-k.invariant paged c.self.invariant (omega (arith, count, mapped)) (omega (arith, count, room)) c.index_mut-page.ensures.value there

pub loop-k-preserved : goal.loop-k-preserved
loop-k-preserved g c =
    let room = rw c.deref.ensures.value at c.in_ok-add_pages.ensures.room in
    let count = c.self.inside.pages.ok.0 in
    let mapped = length-map c.self.inside.pages.items (λ s. s.value.items) in
    let there = there_in (λ s. s.value.items) c.self.inside.pages.items c.loop-k.k c.index.result.now c.in_ok-try_clone.field-0.value.items (omega (arith, count)) c.index.ensures (ap (λ v. v.items) c.in_ok-try_clone.ensures) in
    rw c.lend.ensures (lent_page c.loop-k.pages.items (map (λ s. s.value.items) c.self.inside.pages.items) c.add_pages.new.pages.items c.loop-k.k c.in_ok-try_clone.field-0.value.items c.loop-k.invariant (omega (arith, count, room)) there)

pub invariant_of-result : goal.invariant_of-result
invariant_of-result g c =
    let extends = rw c.deref.ensures.value at c.in_ok-add_pages.ensures.extends in
    let paged = (extends g.row.N c.room.inside.len c.self.inside.len c.room.invariant c.self.invariant).0 in
    let count = c.self.inside.pages.ok.0 in
    let mapped = length-map c.self.inside.pages.items (λ s. s.value.items) in
    let all = lent_all c.loop-k.pages.items (map (λ s. s.value.items) c.self.inside.pages.items) c.add_pages.new.pages.items c.loop-k.k c.loop-k.invariant (omega (arith, count, mapped)) in
    rw all (paged_over g.row.N c.room.inside.len c.self.inside.len (length (map (λ s. s.value.items) c.self.inside.pages.items)) c.add_pages.new.pages.items (map (λ s. s.value.items) c.self.inside.pages.items) paged c.self.invariant)

pub returns : goal.returns
returns g c =
    let count = c.self.inside.pages.ok.0 in
    let mapped = length-map c.self.inside.pages.items (λ s. s.value.items) in
    let all = lent_all c.loop-k.pages.items (map (λ s. s.value.items) c.self.inside.pages.items) c.add_pages.new.pages.items c.loop-k.k c.loop-k.invariant (omega (arith, count, mapped)) in
    ap (elements c.self.inside.len) all ∙ elements-append g.row.N c.self.inside.len (map (λ s. s.value.items) c.self.inside.pages.items) (drop (length (map (λ s. s.value.items) c.self.inside.pages.items)) c.add_pages.new.pages.items) c.self.invariant ∙ c.self.view_is
