-- SPDX-License-Identifier: Apache-2.0
pub returns : Rattle.misolation.proofs.transition_laws.transitions_are_isolated.Goals.returns
returns c = Rattle.misolation.proofs.Transitions.transitions_are_isolated
