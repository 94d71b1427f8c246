use Rattle.std.proofs.Common.{string_bytes, rules}
use Rattle.trialcard.proofs.LineLaws.{unprinted_all, unprinted_on, printed}
use Rattle.trialcard.proofs.lines.push_lines.Goals as goal

pub loop-fields-init : goal.loop-fields-init
loop-fields-init c = unprinted_all _ _

pub loop-fields-preserved : goal.loop-fields-preserved
loop-fields-preserved c =
    unprinted_on _ c.args.answers.now _ c.loop-fields.rest.now c.loop-fields.invariant c.from-answer.result c.min.result c.split_at.result.0.now c.split_at.result.1.now (string_bytes c.write.new.self)
    (search rules) (search rules) (search rules) (search rules) (search rules) (search rules)

pub returns : goal.returns
returns c = printed _ c.args.answers.now _ c.loop-fields.rest.now c.loop-fields.invariant (search rules)
