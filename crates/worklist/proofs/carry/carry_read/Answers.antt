use Rattle.std.proofs.Common.{◌≡◌, ◌+◌, ◌++◌, [], length, drop, arith, rules}
use Rattle.std.proofs.lemmas.Grind.{common_steps}
use Rattle.worklist.proofs.CarryLaws.{past_page, past_fields, read_leaves}
use Rattle.worklist.proofs.carry.carry_read.Goals as goal

pub returns-in-Ok-clause-told : goal.returns-in-Ok-clause-told
returns-in-Ok-clause-told g c =
    let past : drop (4 + length c.read.new.into) (c.args.fields.now ++ c.args.bytes.now) ≡ [] = past_page c.args.fields.now c.args.bytes.now (length c.read.new.into) (search rules) (search rules) in
    λ area. search (rules, read_leaves)

pub returns-in-Err-clause-told : goal.returns-in-Err-clause-told
returns-in-Err-clause-told g c =
    let past : drop 4 (c.args.fields.now ++ c.args.bytes.now) ≡ c.args.bytes.now = past_fields c.args.fields.now c.args.bytes.now (search rules) in
    λ area. grind (arith, common_steps, read_leaves)
