-- SPDX-License-Identifier: Apache-2.0
use Rattle.mcommand.proofs.CommandLaws.{refl, Text, give, ◌>>=◌, does_gives, does_wanting, does_yielded, deep_refused, free_goes_on, name_read, name_none}
use Rattle.std.proofs.lemmas.Bool.{false≢true}
use Rattle.mspec.specs.Act.{Act, give_some}
use Rattle.mspec.specs.Code.{Zsyntax}
use Rattle.mspec.specs.Scopes as scopes
use Rattle.mspec.specs.Scopes.{linked_to}
use Rattle.mlocal.specs.Bindings.{binding_of}
use Rattle.mlocal.specs.declared.binding.Binding.TheVariants.{Linked}
use Rattle.mgrammar.specs.IndirectTexts.{name_of}
use Rattle.meval.proofs.Indirections.{not_free, is_free}
use Rattle.mcommand.proofs.parts.Parts.linked_by.Goals as goal

-- once an indirection is free
abbrev named : Text → Act scopes.Binding
named x = give_some Zsyntax (name_of x) >>= (λ name. give (linked_to name))

pub returns-in_default : goal.returns-in_default
returns-in_default g c = deep_refused (λ i. named c.args.given) (not_free _ _ c.in_default.is c.indirected.ensures.free)

pub returns-in_err-text : goal.returns-in_err-text
returns-in_err-text g c = does_wanting _ _ _ c.from_residual.ensures refl refl refl refl

pub returns-in-Ok : goal.returns-in-Ok
returns-in-Ok g c =
    let free = is_free _ _ c.in-Some.is c.indirected.ensures.free in
    let x = c.args.given in
    let new = rw c.in_ok-text.ensures at c.in-Ok.ensures in
    let is_one = name_read x c.in-Ok.name new.name (new.when.0 refl) in
    free_goes_on (λ i. named x) free (rw is_one (does_gives (linked_to c.in-Ok.name) binding_of (Linked c.in-Ok.name) refl))

pub returns : goal.returns
returns g c =
    let free = is_free _ _ c.in-Some.is c.indirected.ensures.free in
    let x = c.args.given in
    let new = rw c.in_ok-text.ensures at c.in-Err.ensures in
    let is_none = name_none x (λ is. false≢true (new.when.1 is)) in
    free_goes_on (λ i. named x) free (rw is_none (does_yielded (record { ends = λ s. refl })))
