-- Empty tables are orderly, and are read as maps without pages.
use Rattle.std.proofs.Common.{◌-◌}
use Rattle.rules.proofs.PlanLaws.{plan_limits}
use Rattle.store.proofs.TableLaws.{same_maps, empty_sets, empty_table, orderly_blank}
use Rattle.store.proofs.maps.Maps.formatted.Goals as goal

pub invariant_of-result-clause-orderly : goal.invariant_of-result-clause-orderly
invariant_of-result-clause-orderly c =
    let p = c.args.plan in
    let l = plan_limits p c.args.pages c.requires.within in
    ∣ orderly_blank p c.empty.result c.empty.ensures c.args.pages l.few_data l.two_blocks l.few_blocks ∣₁

pub returns : goal.returns
returns c = λ k.
    let p = c.args.plan in
    let e = c.empty.result in
    let l = plan_limits p c.args.pages c.requires.within in
    same_maps p c.args.pages (p.region - 1) k _ _ _ _ (empty_sets p e c.empty.ensures l.few_data) (empty_table p e c.empty.ensures l.few_blocks)
