-- SPDX-License-Identifier: Apache-2.0
use Rattle.mcommand.proofs.CommandLaws.{refl, Text, give, does_then, does_stopped, does_gives, does_evaluated, does_wanting}
use Rattle.mspec.specs.Scopes.{valued, linked_to, unset}
use Rattle.mlocal.specs.Bindings.{binding_of}
use Rattle.mlocal.specs.declared.binding.Binding.TheVariants.{Valued, Linked, Unset}
use Rattle.mcommand.proofs.HandedActuals.{missing_is, value_is, name_actual_is, indirect_actual_is}
use Rattle.mcommand.proofs.parts.Parts.handed.Goals as goal

pub returns-in-Missing : goal.returns-in-Missing
returns-in-Missing g c = rw (c.in-Missing.is, missing_is) (does_gives unset binding_of Unset refl)

pub returns-in_err-value-in-Value : goal.returns-in_err-value-in-Value
returns-in_err-value-in-Value g c = rw (c.in-Value.is, value_is c.in-Value.e) (does_stopped (λ i (x : Text). give (valued x)) (does_evaluated c.in_err-value-in-Value.ensures.does) c.from_residual.ensures)

pub returns-in_ok-value-in-Value : goal.returns-in_ok-value-in-Value
returns-in_ok-value-in-Value g c =
    rw (c.in-Value.is, value_is c.in-Value.e)
    (does_then (λ i (x : Text). give (valued x)) (does_evaluated c.in_ok-value-in-Value.ensures.does) (does_gives (valued c.in_ok-value-in-Value.value) binding_of (Valued c.in_ok-value-in-Value.value) refl))

pub returns-in_err-copy-in-Name : goal.returns-in_err-copy-in-Name
returns-in_err-copy-in-Name g c = rw (c.in-Name.is, name_actual_is c.in-Name.name) (does_wanting _ _ _ c.from_residual-in_err-copy-in-Name.ensures refl refl refl refl)

pub returns-in_ok-copy-in-Name : goal.returns-in_ok-copy-in-Name
returns-in_ok-copy-in-Name g c = rw (c.in-Name.is, name_actual_is c.in-Name.name, c.in_ok-copy-in-Name.ensures) (does_gives (linked_to c.in-Name.name) binding_of (Linked c.in-Name.name) refl)

pub returns-in-IndirectName : goal.returns-in-IndirectName
returns-in-IndirectName g c =
    let does = rw c.deref.ensures at c.handed_name.ensures in
    rw (c.in-IndirectName.is, indirect_actual_is c.in-IndirectName.operand) does
