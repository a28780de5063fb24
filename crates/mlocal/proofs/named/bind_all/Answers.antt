-- SPDX-License-Identifier: Apache-2.0
use Rattle.mlocal.proofs.LocalLaws.{◌≡◌, [], ◌∷◌, ◌++◌, ap, ◌∙◌, sym, Text, formals, bindings_of, last_bound}
use Rattle.std.specs.Option.{option_to_list}
use Rattle.mlocal.specs.declared.binding.Binding.{Binding}
use Rattle.mlocal.specs.Named.{bound_scope}
use Rattle.mlocal.proofs.named.bind_all.Goals as goal

pub loop-name-preserved : goal.loop-name-preserved
loop-name-preserved c =
    let b : Text × Binding = (c.in-Some.name, c.in-Some.binding) in
    let bs = c.pop.new.self.items in
    let s = bound_scope c.loop-name.named.items c.loop-name.links.items in
    let last : c.loop-name.bindings.items ≡ bs ++ b ∷ [] = c.pop.ensures.items ∙ ap (λ r. bs ++ option_to_list r) c.in-Some.is in
    ap (formals (bindings_of bs)) c.in_ok-add_formal.ensures ∙ sym (ap (λ l. formals (bindings_of l) s) last ∙ last_bound bs b s) ∙ c.loop-name.invariant
