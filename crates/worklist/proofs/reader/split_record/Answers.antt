use Rattle.std.proofs.Common.{rules, Err}
use Rattle.worklist.specs.declared.fault.ListFault.TheVariants.{CutShort}
use Rattle.worklist.proofs.ReadLaws.{ends_so, read_short, read_after, read_as, discard_short, discard_so, flush_short, flush_cut, flush_so}
use Rattle.worklist.proofs.reader.split_record.Goals as goal

pub returns-in_err-head-clause-is : goal.returns-in_err-head-clause-is
returns-in_err-head-clause-is c = λ at.
    let xs = c.args.bytes.now in
    let size = c.args.size in
    ends_so xs size at c.from_residual.result CutShort (search rules) (read_short xs size at (search rules))

pub returns-in_err-kind-clause-is : goal.returns-in_err-kind-clause-is
returns-in_err-kind-clause-is c = λ at.
    let xs = c.args.bytes.now in
    let size = c.args.size in
    let e = c.in_err-kind.field-0.0 in
    ends_so xs size at c.from_residual-in_err-kind.result e (search rules) (read_after xs size at (Err e) (search rules) (search rules))

pub returns-in-Read-clause-is : goal.returns-in-Read-clause-is
returns-in-Read-clause-is c = λ at.
    read_as c.args.bytes.now c.args.size at c.in_ok-kind.field-0 (search rules) (search rules) _ _ c.in-Read.is (search rules)

pub returns-in-Idle-clause-is : goal.returns-in-Idle-clause-is
returns-in-Idle-clause-is c = λ at.
    read_as c.args.bytes.now c.args.size at c.in_ok-kind.field-0 (search rules) (search rules) _ _ c.in-Idle.is (search rules)

pub returns-in_err-pages-in-Discard-clause-is : goal.returns-in_err-pages-in-Discard-clause-is
returns-in_err-pages-in-Discard-clause-is c = λ at.
    let xs = c.args.bytes.now in
    let size = c.args.size in
    ends_so xs size at c.from_residual-in_err-pages-in-Discard.result CutShort (search rules)
    (discard_short xs size at c.in_ok-kind.field-0 (search rules) (search rules) c.in-Discard.is (search rules))

pub returns-in_ok-pages-in-Discard-clause-is : goal.returns-in_ok-pages-in-Discard-clause-is
returns-in_ok-pages-in-Discard-clause-is c = λ at.
    discard_so c.args.bytes.now c.args.size at c.in_ok-kind.field-0 (search rules) (search rules) _ _ c.in-Discard.is (search rules) (search rules) (search rules)

pub returns-in_err-pages-in-Flush-clause-is : goal.returns-in_err-pages-in-Flush-clause-is
returns-in_err-pages-in-Flush-clause-is c = λ at.
    let xs = c.args.bytes.now in
    let size = c.args.size in
    ends_so xs size at c.from_residual-in_err-pages-in-Flush.result CutShort (search rules)
    (flush_short xs size at c.in_ok-kind.field-0 (search rules) (search rules) c.in-Flush.is (search rules))

pub returns-in_err-bytes-in-Flush-clause-is : goal.returns-in_err-bytes-in-Flush-clause-is
returns-in_err-bytes-in-Flush-clause-is c = λ at.
    let xs = c.args.bytes.now in
    let size = c.args.size in
    let set = c.in_ok-pages-in-Flush in
    ends_so xs size at c.from_residual-in_err-bytes-in-Flush.result CutShort (search rules)
    (flush_cut xs size at c.in_ok-kind.field-0 (search rules) (search rules) set.pages.0 set.rest.now (search rules) (search rules) c.in-Flush.is (search rules) (search rules))

pub returns-in_ok-bytes-in-Flush-clause-is : goal.returns-in_ok-bytes-in-Flush-clause-is
returns-in_ok-bytes-in-Flush-clause-is c = λ at.
    let set = c.in_ok-pages-in-Flush in
    flush_so c.args.bytes.now c.args.size at c.in_ok-kind.field-0 (search rules) (search rules) set.pages.0 set.rest.now (search rules) (search rules) _ _
    c.in-Flush.is (search rules) (search rules) (search rules) (search rules)
