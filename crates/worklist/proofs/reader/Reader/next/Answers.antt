use Rattle.std.proofs.Common.{◌≡◌, ◌+◌, ◌-◌, length, take, drop, Err, ap, ◌∙◌, arith, length-drop}
use Rattle.std.proofs.lemmas.List.{take_rest}
use Rattle.worklist.specs.Records.{item_of, taken}
use Rattle.worklist.proofs.ReadLaws.{next_none, next_some}
use Rattle.worklist.proofs.reader.Reader.next.Goals as goal

pub returns-then-place-list-clause-is : goal.returns-then-place-list-clause-is
returns-then-place-list-clause-is c =
    let me = c.args.self.now in
    next_none me.list.now me.size me.place (omega arith)

pub returns-in-Ok-clause-is : goal.returns-in-Ok-clause-is
returns-in-Ok-clause-is c =
    let me = c.args.self.now in
    let xs = me.list.now in
    let n = length c.in-Ok.rest.now in
    let long : length (take (length xs - me.place) (drop me.place xs)) ≡ length xs - me.place = ap length (take_rest xs me.place) ∙ length-drop me.place xs in
    let on : length xs - n ≡ me.place + (length (take (length xs - me.place) (drop me.place xs)) - n) = omega (arith, c.in-Ok.ensures.within) in
    ap (λ k. taken (record { item = item_of c.in-Ok.record; place = me.place; next = k })) on ∙ next_some xs me.size me.place _ (omega arith) (c.in-Ok.ensures.is me.place)

pub returns-in-Err-clause-is : goal.returns-in-Err-clause-is
returns-in-Err-clause-is c =
    let me = c.args.self.now in
    next_some me.list.now me.size me.place (Err c.in-Err.fault) (omega arith) (c.in-Err.ensures.is me.place)
