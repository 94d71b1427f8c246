use Rattle.std.proofs.Common.{sym, refl, ◌∙◌}
use Rattle.std.proofs.lemmas.Result.{err_from_is_err_and}
use Rattle.rules.specs.Calls.{discard}
use Rattle.rules.specs.Sets.{has}
use Rattle.rules.proofs.Accepted.{can_discard}
use Rattle.rules.proofs.ReadyMoves.{ready_dropped}
use Rattle.store.specs.State.{state_of}
use Rattle.store.proofs.AgreeLaws.{accepted_here, state_kept}
use Rattle.store.proofs.CheckLaws.{number_pos, refused_answer, accepted_answer}
use Rattle.store.proofs.store.Store.discard.Goals as goal

pub returns-in_err-check_pages : goal.returns-in_err-check_pages
returns-in_err-check_pages g c =
    let p = err_from_is_err_and c.from_residual.result c.from_residual.ensures.1 in
    let r = refused_answer _ (discard c.args.block.0 c.args.pages.0) _ c.in_err-check_pages.ensures (number_pos _) in
    rw (p.1, p.2) (record { tells = r.0; leaves = sym r.1; refused = refl })

pub discard-requires : goal.discard-requires
discard-requires g c =
    let k = g.F.Flash.card c.args.self.now.flash in
    let a = accepted_here c.in-Some.maps k _ _ c.in-Some.is c.in_ok-check_pages.ensures in
    let can = can_discard (state_of c.in-Some.maps k) _ _ a.passed in
    record { a_block = can.inside; fits = can.fits }

pub returns : goal.returns
returns g c =
    let k = g.F.Flash.card c.args.self.now.flash in
    let s = state_of c.in-Some.maps k in
    let a = accepted_here c.in-Some.maps k _ (discard c.args.block.0 c.args.pages.0) c.in-Some.is c.in_ok-check_pages.ensures in
    let r = accepted_answer _ _ s a in
    record {
      tells = r.0;
      leaves = state_kept c.discard.new.self k _ (c.discard.ensures k) (ready_dropped s c.args.block.0 (has c.args.pages.0) a.in_force.ready) ∙ sym r.1;
      refused = tt;
    }
