-- The greatest share.
use Rattle.std.proofs.Common.{◌≡◌, ℕ, ◌<◌, List, length, get_or, take, sym, ◌∙◌, arith, rules}
use Rattle.std.specs.List.{range_with_len}
use Rattle.std.proofs.lemmas.List.{length-take}
use Rattle.rules.specs.Choice.{greatest}
use Rattle.rules.specs.State.{share_of}
use Rattle.rules.proofs.ChoiceLaws.{greatest_in}
use Rattle.store.specs.declared.maps.Maps.{Maps}
use Rattle.store.specs.Places.{block_in}
use Rattle.store.specs.View.{table_of}
use Rattle.store.proofs.ShareLaws.{shares_greatest}
use Rattle.store.proofs.maps.Maps.fullest.Goals as goal

-- what the choice among the shares finds
chosen :
    (m : Maps) (xs : List ℕ) → length xs ≡ 128 → ((d : ℕ) → d < 128 → get_or xs d 0 ≡ share_of (table_of m.plan m.table) d) →
    greatest (λ k. k) (take m.plan.data xs) ≡ greatest (share_of (table_of m.plan m.table)) (range_with_len 0 m.plan.data)
chosen m xs w e =
    shares_greatest xs (share_of (table_of m.plan m.table)) m.plan.data w (omega (arith, m.few_data)) e

pub map-requires : goal.map-requires
map-requires c = λ x e.
    let xs = take c.args.self.now.plan.data c.shares-shares.result in
    let k = greatest_in (λ k. k) xs x (sym c.greatest.ensures ∙ e) in
    let low : x < 256 = omega (arith, length-take c.args.self.now.plan.data c.shares-shares.result, c.shares-shares.ensures.wide) in
    search rules

pub returns : goal.returns
returns c =
    let same : block_in c.map.result ≡ c.greatest.result = search rules in
    same ∙ c.greatest.ensures ∙ chosen c.args.self.now c.shares-shares.result c.shares-shares.ensures.wide c.shares-shares.ensures.each
