use Rattle.std.proofs.Common.{sym, ◌∙◌}
use Rattle.store.specs.State.{state_of}
use Rattle.store.proofs.RoundLaws.{merge_round, merge_starts}
use Rattle.store.proofs.RewriteLaws.{rewritten_none}
use Rattle.store.proofs.maps.Maps.merge_fullest.Goals as goal

pub rewrite-requires : goal.rewrite-requires
rewrite-requires g c =
    merge_starts (state_of c.args.self.now (g.F.Flash.card c.args.flash.now)) c.in-Some.block.0 _ c.requires.roundable c.requires.none_dead (sym c.in-Some.ensures) c.requires.roomy

pub returns : goal.returns
returns g c =
    let s = state_of c.args.self.now (g.F.Flash.card c.args.flash.now) in
    let done = c.in_ok-erases.ensures in
    merge_round s _ _ c.in-Some.block.0 _ c.requires.none_dead (sym c.in-Some.ensures) (cc) done.0 (done.1 ∙ rewritten_none s c.in-Some.block.0 _)
