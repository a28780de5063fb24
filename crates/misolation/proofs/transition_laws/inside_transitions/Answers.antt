-- SPDX-License-Identifier: Apache-2.0
pub returns : Rattle.misolation.proofs.transition_laws.inside_transitions.Goals.returns
returns c = Rattle.misolation.proofs.Transitions.inside_transitions
