use Rattle.std.proofs.Common.{◌≡◌, length, take, drop, rules}
use Rattle.worklist.proofs.CarryLaws.{told_in_four, told_in_page}
use Rattle.worklist.proofs.carry.carry.Goals as goal

pub returns-in-Flush-clause-told : goal.returns-in-Flush-clause-told
returns-in-Flush-clause-told g c =
    let ys = c.args.answers.now in
    let front : c.unwrap.result.0.now ≡ take 4 ys = search rules in
    let behind : c.unwrap.result.1.now ≡ drop 4 ys = search rules in
    rw c.in-Flush.is (told_in_four _ _ _ _ _ _ ys _ _ _ _ (search rules) front behind c.carry_flush.ensures.four c.carry_flush.ensures.told)

pub returns-in-Read-clause-told : goal.returns-in-Read-clause-told
returns-in-Read-clause-told g c =
    let ys = c.args.answers.now in
    let front : c.unwrap.result.0.now ≡ take 4 ys = search rules in
    let behind : c.unwrap.result.1.now ≡ drop 4 ys = search rules in
    let wide : length (take c.args.size c.unwrap.result.1.now) ≡ c.args.size = search rules in
    let told = rw wide at (c.carry_read.ensures.told c.args.area.now) in
    rw c.in-Read.is (told_in_page _ _ _ _ _ _ _ ys _ _ _ _ (search rules) front behind c.carry_read.ensures.within told)

pub returns-in-Discard-clause-told : goal.returns-in-Discard-clause-told
returns-in-Discard-clause-told g c =
    let ys = c.args.answers.now in
    let front : c.unwrap.result.0.now ≡ take 4 ys = search rules in
    let behind : c.unwrap.result.1.now ≡ drop 4 ys = search rules in
    rw c.in-Discard.is (told_in_four _ _ _ _ _ _ ys _ _ _ _ (search rules) front behind c.carry_discard.ensures.four (c.carry_discard.ensures.told c.args.area.now))

pub returns-in-Idle-clause-told : goal.returns-in-Idle-clause-told
returns-in-Idle-clause-told g c =
    let ys = c.args.answers.now in
    let front : c.unwrap.result.0.now ≡ take 4 ys = search rules in
    let behind : c.unwrap.result.1.now ≡ drop 4 ys = search rules in
    rw c.in-Idle.is (told_in_four _ _ _ _ _ _ ys _ _ _ _ (search rules) front behind c.carry_idle.ensures.four c.carry_idle.ensures.told)
