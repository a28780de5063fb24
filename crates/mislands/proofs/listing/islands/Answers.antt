-- SPDX-License-Identifier: Apache-2.0
use Rattle.mislands.proofs.IslandWords.{◌≡◌, [], true, get_or, sym, ap, subst, ◌∙◌, bytes_decides, list_any, Text, text_eq, Bytes, named, AreIslands, none}
use Rattle.mislands.proofs.Lines.{any_here}
use Rattle.mislands.proofs.listing.islands.Goals as goal

pub loop-name-init : goal.loop-name-init
loop-name-init c = subst (λ islands. AreIslands c.args.settings.now [] (named c.args.settings.now islands)) (sym c.new-islands.ensures.items) none

pub add_island-requires : goal.add_island-requires
add_island-requires c =
    let name : Text = c.deref.result.now in
    let is : name ≡ (get_or c.args.names.now c.loop-name.name-index c.name-item.result).items = c.deref.ensures.value ∙ ap (λ (v : Bytes). v.items) c.name-item.is in
    subst (λ all. list_any (text_eq name) all ≡ true) c.requires
    (any_here (text_eq name) (λ (v : Bytes). v.items) c.args.names.now c.loop-name.name-index c.name-item.result c.loop-name-test.true ((bytes_decides name _).1 is))
