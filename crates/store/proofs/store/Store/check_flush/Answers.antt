use Rattle.std.proofs.Common.{◌≡◌, ◌*◌, ◌≤◌, sym, ap, ◌∙◌, ap₂, arith}
use mir.Facts.{Fits-below}
use Rattle.std.proofs.lemmas.Nat.{mul-le}
use Rattle.std.proofs.lemmas.Result.{err_from_is_err_and}
use Rattle.flash.specs.Meaning.{Card}
use Rattle.rules.specs.Sets.{pages_in}
use Rattle.rules.proofs.SetLaws.{pages_le}
use Rattle.store.proofs.AgreeLaws.{card_of}
use Rattle.store.proofs.CheckLaws.{number_pos, flush_refused_pages, flush_refused_data, checked_as_lem, pages_counted}
use Rattle.store.proofs.store.Store.check_flush.Given.{Over}
use Rattle.store.proofs.store.Store.check_flush.Goals as goal
use Rattle.store.proofs.store.Store.check_flush.Goals.{After-len}

pub returns-in_err-check_pages : goal.returns-in_err-check_pages
returns-in_err-check_pages g c =
    let p = err_from_is_err_and c.from_residual.result c.from_residual.ensures.1 in
    rw (p.1, p.2) (flush_refused_pages _ c.args.group.now.block.0 c.args.group.now.pages.0 c.args.group.now.bytes.now c.args.area _ c.in_err-check_pages.ensures (number_pos _))

-- as many bytes as the pages of the group have
length_of :
    (g : Over) (c : goal.After-len g) → let s = c.in_ok-check_pages.ensures.0 in
    c.len.result * c.geometry-size.result.size ≡ pages_in s.pages c.args.group.now.pages.0 * s.card.shape.size
length_of g c =
    let a = c.in_ok-check_pages.ensures.1 in
    let s = c.in_ok-check_pages.ensures.0 in
    let ready = a.in_force.ready in
    let few : s.pages ≤ 64 = omega (arith, ready.agrees.pages_are, ready.sound.pages_high) in
    let size = ap (λ x. x.size) c.geometry-size.ensures.is ∙ sym (ap (λ (k : Card). k.shape.size) (card_of _ _ s a.in_force.is)) in
    ap₂ ◌*◌ (pages_counted s c.args.group.now.block.0 c.args.group.now.pages.0 _ a.passed few c.len.ensures) size

pub overflow_mul-len : goal.overflow_mul-len
overflow_mul-len g c =
    let size = ap (λ x. x.size) c.geometry-size.ensures.is in
    let m = mul-le c.len.result c.geometry-size.result.size 64 4096 (omega (arith, c.len.ensures, pages_le 64 c.args.group.now.pages.0)) (omega (arith, size, c.geometry-size.ensures.sound.size_high)) in
    Fits-below {n = 262144} tt (omega arith)

pub returns-then-group-len : goal.returns-then-group-len
returns-then-group-len g c =
    let a = c.in_ok-check_pages.ensures in
    let len = length_of g (goal.at.returns-then-group-len g c).After-len in
    flush_refused_data _ c.args.group.now.block.0 c.args.group.now.pages.0 c.args.group.now.bytes.now c.args.area a.0 a.1.in_force.is a.1.passed (λ e. c.if-group-len.true (e ∙ sym len))

pub returns : goal.returns
returns g c =
    let a = c.in_ok-check_pages.ensures in
    let len = length_of g (goal.at.returns g c).After-len in
    checked_as_lem _ _ a.0 c.args.group.now.block.0 c.args.group.now.pages.0 c.args.group.now.bytes.now c.args.area a.1.in_force.is a.1.passed (c.if-group-len.false ∙ len) c.check_idle.ensures
