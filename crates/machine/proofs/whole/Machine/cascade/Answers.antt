use Rattle.machine.proofs.Common.{◌≡◌, ◌∙◌, ap, sym, subst, OnOk, arith, Direct, counted-le-length, Machine, all_ended, cascaded}
use Rattle.machine.proofs.{CascadedRows.direct_cascade, FormedMachines.room_for_endings}
use Rattle.machine.proofs.whole.Machine.cascade.Goals as goal

pub falls_alone-requires-clause-counted : goal.falls_alone-requires-clause-counted
falls_alone-requires-clause-counted c =
    let a = counted-le-length c.args.self.now.table in
    let n = c.requires.mostly.table.counted in
    let l = c.requires.mostly.table.few in
    omega (arith, a, n, l)

pub returns-in-Some-clause-ok : goal.returns-in-Some-clause-ok
unfolding cascaded
returns-in-Some-clause-ok c =
    subst (λ (n : Machine). OnOk c.end_all.result (c.end_all.new.self ≡ n)) (ap (all_ended c.args.self.now) (sym c.in-Some.ensures.alone)) c.end_all.ensures.ok

pub fall-requires-clause-counted : goal.fall-requires-clause-counted
fall-requires-clause-counted c =
    let a = counted-le-length c.args.self.now.table in
    let n = c.requires.mostly.table.counted in
    let l = c.requires.mostly.table.few in
    omega (arith, a, n, l)

pub count-counted-requires : goal.count-counted-requires
count-counted-requires c =
    let m = c.args.self.now in
    let direct = subst (Direct m.table) (sym (c.deref.ensures.value ∙ c.in_ok-endings.ensures)) (direct_cascade m.table m.counted c.args.direct.now) in
    record { few = let k = room_for_endings m c.deref.result.now c.requires.mostly direct in omega (arith, k) }

pub end_all-requires-2-clause-direct : goal.end_all-requires-2-clause-direct
end_all-requires-2-clause-direct c =
    subst (Direct c.args.self.now.table) (sym (c.deref-2.ensures.value ∙ c.in_ok-endings.ensures)) (direct_cascade c.args.self.now.table c.args.self.now.counted c.args.direct.now)

pub returns-clause-ok : goal.returns-clause-ok
unfolding cascaded
returns-clause-ok c = subst (λ (n : Machine). OnOk c.end_all-2.result (c.end_all-2.new.self ≡ n)) (ap (all_ended c.args.self.now) (c.deref-2.ensures.value ∙ c.in_ok-endings.ensures)) c.end_all-2.ensures.ok
