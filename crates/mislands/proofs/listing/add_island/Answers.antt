-- SPDX-License-Identifier: Apache-2.0
use Rattle.mislands.proofs.IslandWords.{◌≡◌, ℕ, List, ◌++◌, [], ◌∷◌, false, refl, sym, ap, subst, ◌∙◌, map_push, IsIslandAt, named, is_among, AreIslands, adds}
use Rattle.mislands.proofs.IslandWords.{has, Island}
use Rattle.mislands.specs.Listing.{names_at}
use Rattle.mislands.proofs.Lines.{name_is}
use Rattle.mislands.proofs.listing.add_island.Goals as goal

pub returns-then-is_among : goal.returns-then-is_among
returns-then-is_among c = λ before old.
    has before (named c.args.settings.now c.args.islands.now.items) c.args.name.now old
    (ap (λ islands. is_among c.args.name.now (named c.args.settings.now islands)) (sym c.deref.ensures.value) ∙ sym c.is_among.ensures ∙ c.if-is_among.true)

pub returns : goal.returns
returns c = λ before old.
    let settings = c.args.settings.now in
    let name = c.args.name.now in
    let islands : List Island = c.args.islands.now.items in
    let places : List ℕ = c.in_ok-island_of.field-0.items in
    let island : IsIslandAt settings name places = subst (λ a. IsIslandAt settings a places) (name_is settings name c.in-Some.account c.requires c.in-Some.ensures.account) c.in_ok-island_of.ensures in
    let free : is_among name (named settings islands) ≡ false = ap (λ all. is_among name (named settings all)) (sym c.deref.ensures.value) ∙ sym c.is_among.ensures ∙ c.if-is_among.false in
    let pushed : c.push.new.self.items ≡ islands ++ c.in_ok-island_of.field-0 ∷ [] = c.in_ok-push.ensures.items in
    subst (AreIslands settings (before ++ name ∷ [])) (sym (ap (named settings) pushed ∙ map_push (λ (v : Island). names_at settings v.items) islands c.in_ok-island_of.field-0))
    (adds before (named settings islands) name (names_at settings places) old free (places, island, refl))
