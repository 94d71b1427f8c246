use Rattle.std.proofs.Common.{refl, ◌∙◌}
use Rattle.rules.proofs.PageSetLaws.{pages_same}
use Rattle.store.specs.State.{state_of}
use Rattle.store.proofs.PlaceLaws.{place_rewrites, place_room, placed_large, made_drops, made_appends, placed_small}
use Rattle.store.proofs.maps.Maps.place_group.Goals as goal

pub rewrite-requires : goal.rewrite-requires
rewrite-requires g c =
    place_rewrites (state_of c.args.self.now (g.F.Flash.card c.args.flash.now)) c.args.group.now.block.0 c.args.group.now.pages.0 c.args.group.now.bytes.now _ c.requires

pub returns-then-slots-self : goal.returns-then-slots-self
returns-then-slots-self g c =
    let m = c.args.self.now in
    let s = state_of m (g.F.Flash.card c.args.flash.now) in
    let count = c.len-slots.ensures ∙ pages_same m.pages 64 c.args.group.now.pages.0 c.requires.flushable.fits m.few_pages in
    let done = c.in_ok-erases.ensures in
    let d = c.default.ensures in
    placed_large s c.args.group.now.block.0 c.args.group.now.pages.0 c.args.group.now.bytes.now _ c.requires c.len-slots.result _ _ count c.if-slots-self.true refl done.0 d.1.1.0 d.1.1.1 done.1

pub make_room-requires : goal.make_room-requires
make_room-requires g c =
    let m = c.args.self.now in
    let s = state_of m (g.F.Flash.card c.args.flash.now) in
    place_room s c.args.group.now.block.0 c.args.group.now.pages.0 c.args.group.now.bytes.now _ c.requires _
    (c.len-slots.ensures ∙ pages_same m.pages 64 c.args.group.now.pages.0 c.requires.flushable.fits m.few_pages)

pub discard-requires : goal.discard-requires
discard-requires g c =
    let m = c.args.self.now in
    let s = state_of m (g.F.Flash.card c.args.flash.now) in
    let count = c.len-slots.ensures ∙ pages_same m.pages 64 c.args.group.now.pages.0 c.requires.flushable.fits m.few_pages in
    let drops = made_drops s c.args.group.now.block.0 c.args.group.now.pages.0 c.args.group.now.bytes.now _ c.requires _ count
    (state_of c.make_room.new.self (g.F.Flash.card c.make_room.new.flash)) c.in_ok-tally.ensures.state in
    record { a_block = drops.0; fits = drops.1 }

pub append_pages-requires : goal.append_pages-requires
append_pages-requires g c =
    let m = c.args.self.now in
    let k = g.F.Flash.card c.make_room.new.flash in
    let s = state_of m (g.F.Flash.card c.args.flash.now) in
    let count = c.len-slots.ensures ∙ pages_same m.pages 64 c.args.group.now.pages.0 c.requires.flushable.fits m.few_pages in
    made_appends s c.args.group.now.block.0 c.args.group.now.pages.0 c.args.group.now.bytes.now _ c.requires _ count
    (state_of c.make_room.new.self k) c.in_ok-tally.ensures.state
    (state_of c.discard.new.self k) (c.discard.ensures k)

pub returns : goal.returns
returns g c =
    let m = c.args.self.now in
    let k = g.F.Flash.card c.make_room.new.flash in
    let s = state_of m (g.F.Flash.card c.args.flash.now) in
    let count = c.len-slots.ensures ∙ pages_same m.pages 64 c.args.group.now.pages.0 c.requires.flushable.fits m.few_pages in
    let made = c.in_ok-tally.ensures in
    placed_small s c.args.group.now.block.0 c.args.group.now.pages.0 c.args.group.now.bytes.now _ c.requires _ count (state_of c.make_room.new.self k) made.state
    (state_of c.discard.new.self k) (c.discard.ensures k) c.in_ok-tally.tally _ _ c.if-slots-self.false made.counted c.report.ensures
    c.in_ok-append_pages.ensures
