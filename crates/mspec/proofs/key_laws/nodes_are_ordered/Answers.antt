-- SPDX-License-Identifier: Apache-2.0
pub returns : Rattle.mspec.proofs.key_laws.nodes_are_ordered.Goals.returns
returns c = Rattle.mspec.proofs.NodeOrders.nodes_are_ordered
